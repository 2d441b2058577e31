use Rattle.std.proofs.Common.{List, ℕ, map, sym, ◌∙◌, ap}
use Rattle.std.specs.Char.{to_ascii_lowercase}
use Rattle.std.specs.Str.{chars, bytes_eq}
use Rattle.css_meaning.specs.Names.{folded}
use Rattle.css_meaning.proofs.ByteWords.{lowered_chars}
use Rattle.css_meaning.proofs.names.is_named.Goals as goal

pub returns-in-Html : goal.returns-in-Html
returns-in-Html c =
    c.is_lowered.ensures
    ∙ ap (λ (t : List ℕ). bytes_eq t (map to_ascii_lowercase c.as_bytes-in-Html.result.now)) c.as_bytes.ensures.value
    ∙ ap (λ (t : List ℕ). bytes_eq c.args.name.now (map to_ascii_lowercase t)) c.as_bytes-in-Html.ensures.value
    ∙ lowered_chars c.args.name.now c.args.written.now c.utf8.name c.utf8.written
    ∙ ap (λ d. bytes_eq (chars c.args.name.now) (folded d (chars c.args.written.now))) (sym c.in-Html.is)
