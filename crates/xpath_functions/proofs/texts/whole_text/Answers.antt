use Rattle.std.proofs.Common.{◌≡◌, string_bytes, IfOk}
use Rattle.std.specs.Fmt.{signed_decimal}
use Rattle.std.proofs.lemmas.Int.{to_z-of_z}
use Rattle.std.proofs.lemmas.Fmt.{IsAscii-signed}
use Rattle.std.proofs.lemmas.Str.{chars-IsAscii}
use Rattle.xpath_functions.proofs.Lists.{ascii_text}
use Rattle.xpath_functions.proofs.texts.whole_text.Goals as goal

pub returns : goal.returns
returns c =
    let given : IfOk c.num_text.result (λ s. string_bytes s ≡ signed_decimal c.args.whole) = simp (to_z-of_z, c.ranges.whole) at c.num_text.ensures in
    ascii_text (signed_decimal c.args.whole) c.num_text.result (chars-IsAscii (signed_decimal c.args.whole) (IsAscii-signed c.args.whole c.ranges.whole.sfits)) given
