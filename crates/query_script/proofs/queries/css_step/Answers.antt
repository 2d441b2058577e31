use Rattle.std.proofs.Common.{refl}
use Rattle.std.proofs.lemmas.Str.{IsUtf8-string_bytes}
use Rattle.test_registry.specs.View.{known}
use Rattle.query_script.proofs.QueryLemmas.{css_kept, css_ordered}
use Rattle.query_script.proofs.queries.css_step.Goals as goal

pub returns-in-Ok-translate-clause-is : goal.returns-in-Ok-translate-clause-is
returns-in-Ok-translate-clause-is g c =
    rw c.from_string.ensures (refl, css_kept c.args.dialect c.args.text.now c.as_str.result.now _ c.in-Ok.list c.as_str.ensures.bytes c.in-Ok.ensures.ok c.in-Ok-translate.ensures.text c.in-Ok-translate.ensures.short)

pub returns-in-Ok-translate-clause-ordered : goal.returns-in-Ok-translate-clause-ordered
returns-in-Ok-translate-clause-ordered g c =
    rw c.from_string.ensures (css_ordered (known c.args.tests.now) c.args.dialect _ c.in-Ok.list c.in-Ok-translate.ensures.meaning (IsUtf8-string_bytes c.in-Ok-translate.xpath))
