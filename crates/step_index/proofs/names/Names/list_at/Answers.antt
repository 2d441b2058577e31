use Rattle.std.proofs.Common.{sym, ◌∙◌, ap, []}
use Rattle.std.specs.Prelude.{string_bytes}
use Rattle.std.specs.Option.{option_map_or}
use Rattle.std.proofs.lemmas.Str.{IsUtf8-string_bytes}
use Rattle.step_index.proofs.names.Names.list_at.Goals as goal

pub returns-in-Some-clause-named : goal.returns-in-Some-clause-named
returns-in-Some-clause-named c =
    let key = c.in-Some.field-0-0.now in
    (string_bytes key, (IsUtf8-string_bytes key, c.as_slice.ensures.value ∙ sym (ap (λ o. option_map_or (λ v. v.items) o []) (c.in-Some.ensures.value))))
