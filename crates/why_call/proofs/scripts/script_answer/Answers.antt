use Rattle.std.proofs.Common.{◌≡◌, ◌∙◌, sym, ap, length, map}
use Rattle.test_registry.specs.View.{known}
use Rattle.page_records.specs.Braces.{entries_of}
use Rattle.why_call.proofs.Said.{as_many}
use Rattle.why_call.proofs.scripts.script_answer.Goals as goal

pub entries_said-requires : goal.entries_said-requires
entries_said-requires g c =
    rw (c.as_slice.ensures.value, c.as_slice-in-Ok.ensures)
    (ap length c.in_ok-pieces-in-Ok.ensures ∙ as_many (known c.args.tests.now) c.args.dialect (entries_of c.args.script.now) c.in-Ok.read.entries c.in-Ok.ensures.ok.are)
