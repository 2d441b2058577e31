-- What is asked of selectors, beside that they are well made, so that their plain text is read as them: each name has a
-- character, and a negation is a choice of its own. So it stands inside seven others at most, a choice in it counts as the
-- greatest of what it offers, and one element or simple selector in it is negated by itself. That each list which a text is
-- read as has this is not proved.
use Rattle.std.specs.Prelude.{◌≡◌, ◌≢◌, ℕ, zero, suc, Bool, true, false, List, [], ◌∷◌, All, Option, Some, None}
use Rattle.css_selectors.specs.declared.selector.Compound.{Compound, out-Compound}
use Rattle.css_selectors.specs.declared.selector.Part.{Part, out-Part}
use Rattle.css_selectors.specs.declared.selector.Relative.{Relative, out-Relative}
use Rattle.css_selectors.specs.declared.selector.Selector.{Selector}
use Rattle.css_selectors.specs.declared.selector.SelectorList.{SelectorList}
use Rattle.css_selectors.specs.declared.selector.Simple.{Simple}
use Rattle.css_selectors.specs.declared.selector.Tail.{Tail}
use Rattle.css_selectors.specs.declared.selector.Tail.TheVariants as tail
use Rattle.css_selectors.specs.declared.selector.Test.{Test, out-Test}
use Rattle.css_selectors.specs.declared.selector.Test.TheOpen as open_
use Rattle.css_selectors.specs.declared.selector.Weight.{Weight}
use Rattle.css_selectors.specs.declared.selector.Weight.TheVariants as weight

-- a name, where there is one, has a character
abbrev pub IsNamed : Option (List ℕ) → Type 0
IsNamed None = Unit {0}
IsNamed (Some n) = n ≢ []

-- there is room for one choice more where it is negated
abbrev pub HasRoom : Bool → Bool → Type 0
HasRoom room true = room ≡ true
HasRoom room false = Unit {0}

-- These are no element alone, which is negated by itself.
abbrev pub IsNoElement : List Compound → Type 0
IsNoElement [] = Unit {0}
IsNoElement (c ∷ []) = (out-Compound c).simples ≢ []
IsNoElement (c ∷ d ∷ cs) = Unit {0}

-- a choice of this weight may be negated or not
abbrev pub IsOffered : Bool → Weight → List Compound → Type 0
IsOffered false w list = Unit {0}
IsOffered true weight.Most list = IsNoElement list
IsOffered true weight.Zero list = ⊥

-- an element and its simples, of each of which Fits is asked
abbrev pub IsMember : (Simple → Type 0) → Option (List ℕ) → List Simple → Type 0
IsMember Fits name simples = IsNamed name × All Fits simples

-- What is asked of a test, where a choice may still be opened or not, negated or not. Fits says of a simple what is asked of it
-- one choice further in.
abbrev pub WritesTest : (Simple → Type 0) → Bool → Bool → open_.Test-F Test Compound Part Relative Simple → Type 0
WritesTest Fits room negated (open_.Element n) = HasRoom room negated × IsNamed n
WritesTest Fits room negated (open_.Id x) = HasRoom room negated × (x ≢ [])
WritesTest Fits room negated (open_.Class x) = HasRoom room negated × (x ≢ [])
WritesTest Fits room negated (open_.Attr name o v) = HasRoom room negated × (name ≢ [])
WritesTest Fits room negated (open_.Nth position a b) = HasRoom room negated
WritesTest Fits room negated (open_.Pseudo p) = HasRoom room negated
WritesTest Fits room negated (open_.Contains x) = HasRoom room negated
WritesTest Fits room negated (open_.Lang x) = HasRoom room negated
WritesTest Fits room negated (open_.Any w list) = IsOffered negated w list × All (λ c. IsMember Fits (out-Compound c).element (out-Compound c).simples) list
WritesTest Fits room negated (open_.Has list) = (negated ≡ false) × All (λ r. All (λ p. IsMember Fits (out-Part p).element (out-Part p).simples) (out-Relative r).parts) list

abbrev pub Nothing : Simple → Type 0
Nothing x = ⊥

-- a simple, where so many choices may still be opened, one in the other
unfoldable pub WritesSimple : ℕ → Simple → Type 0
WritesSimple zero x = WritesTest Nothing false x.negated (out-Test x.test)
WritesSimple (suc n) x = WritesTest (WritesSimple n) true x.negated (out-Test x.test)

abbrev pub IsTailNamed : Tail → Type 0
IsTailNamed tail.Element = Unit {0}
IsTailNamed tail.Text = Unit {0}
IsTailNamed (tail.Attr n) = n ≢ []

pub record WritesSelector (s : Selector) : Type 0 where
  pub parts : All (λ p. IsMember (WritesSimple 8) (out-Part p).element (out-Part p).simples) s.parts
  pub tail : IsTailNamed s.tail

abbrev pub IsWritable : SelectorList → Type 0
IsWritable list = All WritesSelector list.items
