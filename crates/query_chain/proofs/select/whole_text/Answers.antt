use Rattle.std.proofs.Common.{◌≡◌, ◌∙◌, string_bytes, ap}
use Rattle.std.specs.Str.{chars}
use Rattle.std.specs.Fmt.{signed_decimal}
use Rattle.std.proofs.lemmas.Int.{to_z-of_z}
use Rattle.std.proofs.lemmas.Fmt.{IsAscii-signed}
use Rattle.std.proofs.lemmas.Str.{chars-IsAscii}
use Rattle.query_chain.proofs.select.whole_text.Goals as goal

pub returns : goal.returns
returns c =
    let given : string_bytes c.in_ok-num_text.field-0 ≡ signed_decimal c.args.whole = simp (to_z-of_z, c.ranges.whole) at c.in_ok-num_text.ensures in
    c.from_string.ensures ∙ (ap chars given ∙ chars-IsAscii (signed_decimal c.args.whole) (IsAscii-signed c.args.whole c.ranges.whole.sfits))
