use Rattle.std.proofs.Common.{◌≡◌, ◌++◌, take, string_bytes}
use Rattle.std.specs.List.{AllByRecursion}
use Rattle.css_printed.specs.Printed.{parts_text}
use Rattle.css_translate.specs.inner.Read.{IsReadPart}
use Rattle.css_translate.proofs.printing.push_parts.Given as goal

abbrev pub invariant-loop-part : goal.invariant-loop-part
invariant-loop-part l = record {
  text : string_bytes l.out ≡ string_bytes l.fn.out ++ parts_text l.dialect (take l.part-index l.parts);
  texts : AllByRecursion IsReadPart (take l.part-index l.parts);
}
