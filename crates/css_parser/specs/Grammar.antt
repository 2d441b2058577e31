-- The grammar of lists of selectors, after Selectors Level 3, section 10.1, over the places of the tokens.
use Rattle.std.specs.Prelude.{◌≡◌, ◌≢◌, ℕ, ◌+◌, true, false, List, [], ◌∷◌, length, Option, Some, None}
use Rattle.css_selectors.specs.declared.selector.Link.TheVariants as link
use Rattle.css_lexer.specs.declared.tokens.CssKind.TheVariants as kind
use Rattle.css_lexer.specs.declared.tokens.CssToken.{CssToken}
use Rattle.css_parser.specs.declared.pieces.Form.{Form}
use Rattle.css_parser.specs.declared.pieces.Compound.{Compound}
use Rattle.css_parser.specs.declared.pieces.ElementRead.{ElementRead}
use Rattle.css_parser.specs.Places.{stands, skip}
use Rattle.css_parser.specs.Choices.{simple, Forms}
use Rattle.css_parser.specs.Links.{combinator}
use Rattle.css_parser.specs.Simples.{element}

-- from i up to j stand these simple selectors, choices and pseudo-elements
abbrev pub Simples : List ℕ → List CssToken → ℕ → List Form → ℕ → Type 0
Simples text ts i xs j = Forms (simple text ts) i xs j

-- what a compound says of its element, where it has one
abbrev pub HasElement : Option ElementRead → Compound → Type 0
HasElement None c = (c.element ≡ None) × (c.prefixed ≡ false) × (c.forms ≢ [])
HasElement (Some e) c = (c.element ≡ e.name) × (c.prefixed ≡ e.prefixed)

-- the place behind the element at i, or i where there is none
abbrev pub past_element : Option ElementRead → ℕ → ℕ
past_element None i = i
past_element (Some e) i = e.end

-- compound: an optional element, then simple selectors and pseudo-elements, and not nothing. A place at which an element
-- stands is the place of no simple selector.
pub record IsCompound (text : List ℕ) (ts : List CssToken) (i : ℕ) (c : Compound) (j : ℕ) : Type 0 where
  pub begins : HasElement (element ts i) c
  pub simples : Simples text ts (past_element (element ts i) i) c.forms j

-- any number of a combinator and a compound, from i up to j
abbrev pub Further : List ℕ → List CssToken → ℕ → List Compound → ℕ → Type 0
Further text ts i [] j = i ≡ j
Further text ts i (c ∷ cs) j =
    (k : ℕ) × (m : ℕ) × (combinator ts i ≡ Some (record { link = c.link; end = k })) × IsCompound text ts k c m × Further text ts m cs j

-- selector: a compound, then any number of a combinator and a compound
abbrev pub IsSelector : List ℕ → List CssToken → ℕ → List Compound → ℕ → Type 0
IsSelector text ts i [] j = ⊥
IsSelector text ts i (c ∷ cs) j = (m : ℕ) × (c.link ≡ link.First) × IsCompound text ts i c m × Further text ts m cs j

-- behind a selector and S, at i: the end, or `,`, S, a selector and S, and so on
abbrev pub Others : List ℕ → List CssToken → ℕ → List (List Compound) → Type 0
Others text ts i [] = i ≡ length ts
Others text ts i (s ∷ ss) =
    (j : ℕ) × (stands kind.Comma ts i ≡ true) × IsSelector text ts (skip ts (i + 1)) s j × Others text ts (skip ts j) ss

-- from the selector at i on
abbrev pub From : List ℕ → List CssToken → ℕ → List (List Compound) → Type 0
From text ts i [] = ⊥
From text ts i (s ∷ ss) = (j : ℕ) × IsSelector text ts i s j × Others text ts (skip ts j) ss

-- list: S, a selector and S, then any number of `,`, S, a selector and S; and these are all tokens
abbrev pub Reads : List ℕ → List CssToken → List (List Compound) → Type 0
Reads text ts list = From text ts (skip ts 0) list
