-- The test of one word of an attribute, between spaces.
use Rattle.std.specs.Prelude.{◌≡◌, ℕ, ◌==◌, false, List, [], ◌∷◌, ◌++◌}
use Rattle.std.specs.List.{list_any}
use Rattle.text_base.specs.Strings.{is_empty}
use Rattle.xpath_parser.specs.declared.expression.Expr.{Expr}
use Rattle.xpath_parser.specs.declared.expression.Expr.TheVariants.{Call, Literal}
use Rattle.xpath_parser.specs.declared.expression.Func.TheVariants as f
use Rattle.xpath_eval.specs.inner.Steps.{IsAttributePath}

-- the text is not empty and has no space
pub record IsWord (w : List ℕ) : Type 0 where
  pub some : is_empty w ≡ false
  pub whole : list_any (λ c. c == 32) w ≡ false

-- the text is the word with a space before it and one behind it
abbrev pub spaced : List ℕ → List ℕ
spaced w = 32 ∷ (w ++ 32 ∷ [])

-- normalize-space(@name)
pub record IsNormalized (e : Expr) (name : List ℕ) : Type 0 where
  pub attribute : Expr
  pub is : IsAttributePath attribute name
  pub all : e ≡ Call f.NormalizeSpace (attribute ∷ [])

-- concat(' ', normalize-space(@name), ' ')
pub record IsSpaced (e : Expr) (name : List ℕ) : Type 0 where
  pub inner : Expr
  pub is : IsNormalized inner name
  pub all : e ≡ Call f.Concat (Literal (32 ∷ []) ∷ inner ∷ Literal (32 ∷ []) ∷ [])
