-- The attributes that a start tag writes.
use Rattle.std.specs.Prelude.{◌≡◌, ℕ, Bool, List, [], ◌∷◌, Option, Some, None, slice_range}
use denote.Ref.{Bor}
use Rattle.html_lexer.specs.declared.tags.Attribute.{Attribute}
use Rattle.html_lexer.specs.declared.tags.AttrStep.{AttrStep}
use Rattle.html_lexer.specs.declared.tags.AttrStep.TheVariants.{Reads, Closes, Refuses}
use Rattle.html_lexer.specs.Tags.{attr_at}
use Rattle.html_lexer.specs.State.{AttrReading}
use Rattle.html_lexer.specs.Tokens.{start_tok}
use Rattle.html_lexer.specs.Lexing.{Begins}

-- a name and a value that is not decoded
abbrev pub pair_at : List ℕ → Attribute → List ℕ × List ℕ
pair_at text a = (slice_range text a.name a.name_to, slice_range text a.value a.value_to)

-- no attribute begins
abbrev pub IsLast : AttrStep → Type 0
IsLast (Reads a) = ⊥
IsLast (Closes attrs_to to slash) = Unit {0}
IsLast (Refuses reason) = Unit {0}

-- what stands in a start tag between its name and its end writes these attributes from i on
abbrev pub Writes : List ℕ → ℕ → List (List ℕ × List ℕ) → Type 0
Writes attrs i [] = IsLast (attr_at attrs i)
Writes attrs i (p ∷ ps) = (a : Attribute) × (attr_at attrs i ≡ Reads a) × (p ≡ pair_at attrs a) × Writes attrs a.to ps

-- a start tag of some page stands at some place, and these are its attributes
abbrev pub IsAttrs : List ℕ → Type 0
IsAttrs attrs = (text before name : List ℕ) × (at from to : ℕ) × (slash : Bool) × Begins text before at (start_tok from to name attrs slash)

-- What a call of `next` does. After the last attribute it stays.
abbrev pub IsNextAttr : AttrReading → Option (Bor (List ℕ) × Bor (List ℕ)) → AttrReading → Type 0
IsNextAttr old None new = IsLast (attr_at old.text old.at) × (new ≡ old)
IsNextAttr old (Some p) new =
    (a : Attribute) × (attr_at old.text old.at ≡ Reads a) × ((p.0.now, p.1.now) ≡ pair_at old.text a) × (new ≡ record { text = old.text; at = a.to })
