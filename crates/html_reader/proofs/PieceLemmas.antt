-- A text that is not empty has characters.
use Rattle.std.proofs.Common.{ℕ, List, [], sym, ◌∙◌, ap, encode_utf8_all}
use Rattle.std.specs.Prelude.{◌≢◌}
use Rattle.std.specs.Str.{chars, IsUtf8}
use Rattle.text_base.proofs.Text.{encode-chars}

pub some_chars : (bytes : List ℕ) → IsUtf8 bytes → bytes ≢ [] → chars bytes ≢ []
some_chars bytes u some none = some (sym (encode-chars bytes u) ∙ ap encode_utf8_all none)
