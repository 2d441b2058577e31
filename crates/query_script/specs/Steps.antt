-- How the steps and the end of a field are written.
use Rattle.std.specs.Prelude.{◌≡◌, ℕ, ◌<◌, ◌==◌, true, List, [], ◌∷◌, ◌++◌, length, map, codes, if◌then◌else◌, Option, Some, None}
use Rattle.std.specs.Str.{chars}
use Rattle.query_script.specs.declared.script.Take.{Take}
use Rattle.query_script.specs.declared.script.Take.TheVariants as take
use Rattle.query_script.specs.declared.steps.RawStep.{RawStep}
use Rattle.query_script.specs.declared.steps.RawStep.TheVariants as raw
use Rattle.query_script.specs.Cuts.{is_quote, pieces, is_point, trimmed}
use Rattle.query_script.specs.Names.{is_test_name}

-- a value with each quote doubled
abbrev pub doubled : ℕ → List ℕ → List ℕ
doubled q [] = []
doubled q (c ∷ rest) = if c == q then q ∷ q ∷ doubled q rest else c ∷ doubled q rest

-- The text is a string: between two quotes stand bytes with each such quote doubled, and these characters are what they spell.
pub record IsString (text value : List ℕ) : Type 0 where
  pub quote : ℕ
  pub bytes : List ℕ
  pub quoted : is_quote quote ≡ true
  pub spelled : text ≡ quote ∷ (doubled quote bytes ++ quote ∷ [])
  pub is : value ≡ chars bytes

-- the word and, in brackets, a string of this value, with no blank beside it
pub record IsCall (word text value : List ℕ) : Type 0 where
  pub inside : List ℕ
  pub spelled : text ≡ word ++ 40 ∷ (inside ++ 41 ∷ [])
  pub string : IsString inside value

-- `keep` and, in brackets and with a comma between, a name and a string of this value. Blanks may stand between all of these.
pub record IsKeepCall (text name value : List ℕ) : Type 0 where
  pub word : List ℕ
  pub first : List ℕ
  pub second : List ℕ
  pub spelled : text ≡ word ++ 40 ∷ (first ++ 44 ∷ (second ++ 41 ∷ []))
  pub keeps : trimmed word ≡ codes "keep"
  pub named : is_test_name (trimmed first) ≡ true
  pub name_is : name ≡ chars (trimmed first)
  pub string : IsString (trimmed second) value

-- The text is how this step is written. A step has several such texts: there are two quotes, and blanks in `keep`.
abbrev pub IsStepText : List ℕ → RawStep → Type 0
IsStepText text (raw.Css value) = IsCall (codes "css") text value
IsStepText text (raw.XPath value) = IsCall (codes "xpath") text value
IsStepText text (raw.Re value) = IsCall (codes "re") text value
IsStepText text (raw.Keep name value) = IsKeepCall text name value

-- each text is how the step at its place is written
abbrev pub AreStepTexts : List (List ℕ) → List RawStep → Type 0
AreStepTexts [] [] = Unit {0}
AreStepTexts [] (s ∷ steps) = ⊥
AreStepTexts (t ∷ texts) [] = ⊥
AreStepTexts (t ∷ texts) (s ∷ steps) = IsStepText t s × AreStepTexts texts steps

-- a text cut at its points outside quotes, each part without the blanks at its ends
abbrev pub parts : List ℕ → List (List ℕ)
parts text = map trimmed (pieces is_point 0 text)

-- The text is these steps, joined by points: one or more, since each text has a part.
abbrev pub AreStepsText : List ℕ → List RawStep → Type 0
AreStepsText text steps = AreStepTexts (parts text) steps

-- the steps that a text is, or none where it is no steps joined by points
abbrev pub IsCut : List ℕ → Option (List RawStep) → Type 0
IsCut text (Some steps) = AreStepsText text steps
IsCut text None = (steps : List RawStep) → AreStepsText text steps → ⊥

abbrev pub end_text : Take → List ℕ
end_text take.First = codes "get()"
end_text take.All = codes "getall()"

-- the text is one step or more, joined by points, a point and an end
pub record IsChainText (text : List ℕ) (steps : List RawStep) (take : Take) : Type 0 where
  pub some : 0 < length steps
  pub front : List (List ℕ)
  pub cut : parts text ≡ front ++ end_text take ∷ []
  pub are : AreStepTexts front steps
