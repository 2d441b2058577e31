use Rattle.std.specs.Prelude.{◌≡◌, drop, map}
use Rattle.html_reader.specs.inner.States.{attr_of}
use Rattle.html_reader.specs.inner.Keeping.{has_name}
use Rattle.html_reader.proofs.keeping.any_named.Given as goal

abbrev pub invariant-loop-attr : goal.invariant-loop-attr
invariant-loop-attr l = has_name (map attr_of (drop l.attr-index l.attrs)) l.name ≡ has_name (map attr_of l.attrs) l.name
