-- A claim on every test holds where it holds on every test that is closed from its level.
use Rattle.std.proofs.Common.{subst}
use Rattle.css_selectors.specs.declared.selector.Compound.{Compound}
use Rattle.css_selectors.specs.declared.selector.Part.{Part}
use Rattle.css_selectors.specs.declared.selector.Relative.{Relative}
use Rattle.css_selectors.specs.declared.selector.Simple.{Simple}
use Rattle.css_selectors.specs.declared.selector.Test.{Test, out-Test, roll-Test}
use Rattle.css_selectors.specs.declared.selector.Test.TheOpen as open_
use Rattle.css_selectors.specs.declared.selector.Test.TheViews as views

pub at_layers : (P : Test → Type 0) → ((l : open_.Test-F Test Compound Part Relative Simple) → P (roll-Test l)) → (t : Test) → P t
at_layers P h t = subst P (views.roll-out-Test t) (h (out-Test t))
