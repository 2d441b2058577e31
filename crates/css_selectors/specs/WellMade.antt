-- What holds of every selector list that is read from a text, after the grammar of Selectors Level 3, section 10, with the
-- choices of Selectors Level 4, sections 4.2 to 4.5, each inside seven others at most.
use Rattle.std.specs.Prelude.{◌≡◌, ◌≢◌, ℕ, zero, suc, ◌+◌, ◌^◌, ◌<◌, ◌≤◌, Bool, true, false, List, [], ◌∷◌, length, All, Option, Some, None, IsSome, ℤ, nat_abs}
use Rattle.css_selectors.specs.declared.selector.Compound.{Compound, out-Compound}
use Rattle.css_selectors.specs.declared.selector.Link.TheVariants as link
use Rattle.css_selectors.specs.declared.selector.Nth.{Nth}
use Rattle.css_selectors.specs.declared.selector.Nth.TheVariants as nth
use Rattle.css_selectors.specs.declared.selector.Op.{Op}
use Rattle.css_selectors.specs.declared.selector.Op.TheVariants as op
use Rattle.css_selectors.specs.declared.selector.Part.{Part, out-Part}
use Rattle.css_selectors.specs.declared.selector.Pseudo.{Pseudo}
use Rattle.css_selectors.specs.declared.selector.Pseudo.TheVariants as pseudo
use Rattle.css_selectors.specs.declared.selector.Relative.{Relative, out-Relative}
use Rattle.css_selectors.specs.declared.selector.Selector.{Selector}
use Rattle.css_selectors.specs.declared.selector.SelectorList.{SelectorList}
use Rattle.css_selectors.specs.declared.selector.Simple.{Simple}
use Rattle.css_selectors.specs.declared.selector.Test.{Test, out-Test}
use Rattle.css_selectors.specs.declared.selector.Test.TheOpen as open_
use Rattle.css_selectors.specs.Sizes.{size_of}

-- there is nothing to compare with where it is only asked whether the attribute exists
abbrev pub FitsOp : Op → List ℕ → Type 0
FitsOp op.Exists v = v ≡ []
FitsOp op.Equals v = Unit
FitsOp op.Word v = Unit
FitsOp op.Dash v = Unit
FitsOp op.Prefix v = Unit
FitsOp op.Suffix v = Unit
FitsOp op.Substring v = Unit

-- a position among those of its name needs a name
abbrev pub FitsKind : Option (List ℕ) → Nth → Type 0
FitsKind around nth.OfType = IsSome around
FitsKind around nth.LastOfType = IsSome around
FitsKind around nth.Child = Unit
FitsKind around nth.LastChild = Unit

abbrev pub FitsPseudo : Option (List ℕ) → Pseudo → Type 0
FitsPseudo around pseudo.OnlyOfType = IsSome around
FitsPseudo around pseudo.OnlyChild = Unit
FitsPseudo around pseudo.Empty = Unit
FitsPseudo around pseudo.Root = Unit
FitsPseudo around pseudo.Never = Unit
FitsPseudo around pseudo.Link = Unit
FitsPseudo around pseudo.Checked = Unit
FitsPseudo around pseudo.Enabled = Unit
FitsPseudo around pseudo.Disabled = Unit

-- the most that a number of `an+b` may be in size
abbrev pub most_number : ℕ
most_number = 1000000

abbrev pub IsSmall : ℤ → Type 0
IsSmall a = nat_abs a ≤ most_number

-- the name that counts inside a compound: its own, or that of the innermost compound around it that has one
abbrev pub innermost : Option (List ℕ) → Option (List ℕ) → Option (List ℕ)
innermost around None = around
innermost around (Some n) = Some n

-- What is asked of a part of a relative, where Fits is asked of each simple with the element of its own part around it: it is
-- joined by a combinator to what stands before it.
abbrev pub FitsPart : (Option (List ℕ) → Simple → Type 0) → Part → Type 0
FitsPart Fits p = ((out-Part p).link ≢ link.First) × All (Fits (out-Part p).element) (out-Part p).simples

-- and of a relative: there is a part
abbrev pub FitsRelative : (Option (List ℕ) → Simple → Type 0) → Relative → Type 0
FitsRelative Fits r = (0 < length (out-Relative r).parts) × All (FitsPart Fits) (out-Relative r).parts

-- What is asked of a test, where a choice may still be opened or not, inside a `Has` or not, with that name around it,
-- negated or not. A `Has` stands in no other, and no name around it counts inside. Fits says of a simple what is asked of it one
-- choice further in.
abbrev pub FitsTest : (Bool → Option (List ℕ) → Simple → Type 0) → Bool → Bool → Option (List ℕ) → Bool → open_.Test-F Test Compound Part Relative Simple → Type 0
FitsTest Fits room inside around negated (open_.Element n) = negated ≡ true
FitsTest Fits room inside around negated (open_.Id x) = Unit
FitsTest Fits room inside around negated (open_.Class x) = Unit
FitsTest Fits room inside around negated (open_.Attr name o v) = FitsOp o v
FitsTest Fits room inside around negated (open_.Nth kind a b) = IsSmall a × IsSmall b × FitsKind around kind
FitsTest Fits room inside around negated (open_.Pseudo p) = FitsPseudo around p
FitsTest Fits room inside around negated (open_.Contains x) = Unit
FitsTest Fits room inside around negated (open_.Lang x) = Unit
FitsTest Fits room inside around negated (open_.Any w list) =
    (room ≡ true) × (0 < length list) × All (λ c. All (Fits inside (innermost around (out-Compound c).element)) (out-Compound c).simples) list
FitsTest Fits room inside around negated (open_.Has list) = (room ≡ true) × (inside ≡ false) × (0 < length list) × All (FitsRelative (Fits true)) list

abbrev pub Nowhere : Bool → Option (List ℕ) → Simple → Type 0
Nowhere inside around x = ⊥

-- a simple, where so many choices may still be opened, one in the other
unfoldable pub FitsSimple : ℕ → Bool → Option (List ℕ) → Simple → Type 0
FitsSimple zero inside around x = FitsTest Nowhere false inside around x.negated (out-Test x.test)
FitsSimple (suc n) inside around x = FitsTest (FitsSimple n) true inside around x.negated (out-Test x.test)

-- a choice stands inside seven others at most, so that eight are open where the innermost is
abbrev pub IsPart : Part → Type 0
IsPart p = All (FitsSimple 8 false (out-Part p).element) (out-Part p).simples

-- there is a part, and the first has the link First and no other has
abbrev pub AreLinked : List Part → Type 0
AreLinked [] = ⊥
AreLinked (p ∷ ps) = ((out-Part p).link ≡ link.First) × All (λ q. (out-Part q).link ≢ link.First) ps

pub record IsSelector (s : Selector) : Type 0 where
  pub links : AreLinked s.parts
  pub parts : All IsPart s.parts
  pub size : size_of s + 1 < 2 ^ 32

pub record WellMade (list : SelectorList) : Type 0 where
  pub some : 0 < length list.items
  pub each : All IsSelector list.items
