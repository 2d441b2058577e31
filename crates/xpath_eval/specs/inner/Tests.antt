-- Predicates that ask about the row alone.
use Rattle.std.specs.Prelude.{◌≡◌, ℕ, Bool, true, false, List, [], ◌∷◌, ◌++◌}
use Rattle.std.specs.List.{All, list_all}
use Rattle.doc_model.specs.Document.{Document}
use Rattle.xpath_values.specs.declared.value.Value.{Value}
use Rattle.xpath_values.specs.declared.value.Value.TheVariants.{Nodes, Num, Str, Bool as Truth}
use Rattle.xpath_parser.specs.declared.expression.Expr.{Expr}
use Rattle.xpath_parser.specs.declared.expression.Start.{Start}
use Rattle.xpath_parser.specs.declared.expression.Operand.{Operand, out-Operand}
use Rattle.xpath_parser.specs.declared.expression.Func.{Func}
use Rattle.xpath_parser.specs.declared.expression.Func.TheVariants as f
use Rattle.xpath_parser.specs.declared.expression.Infix.{Infix}
use Rattle.xpath_parser.specs.declared.expression.Infix.TheVariants as op
use Rattle.xpath_parser.specs.Conversions.{truth_of}
use Rattle.xpath_parser.specs.Functions.{Context}
use Rattle.xpath_parser.specs.Denote.{denote, start_of}

-- the value is the same at each position and size
abbrev pub IsPlaceless : Expr → Type 0
IsPlaceless e = (doc : Document) (c d : Context) → c.row ≡ d.row → denote doc e c ≡ denote doc e d

-- a path starts at the same rows
abbrev pub IsPlacelessStart : Start → Type 0
IsPlacelessStart s = (doc : Document) (c d : Context) → c.row ≡ d.row → start_of doc s c ≡ start_of doc s d

abbrev pub EachPlaceless : List Expr → Type 0
EachPlaceless es = All IsPlaceless es

abbrev pub EachOperandPlaceless : List Operand → Type 0
EachOperandPlaceless os = All (λ o. IsPlaceless (out-Operand o).value) os

abbrev pub is_number : Value → Bool
is_number (Num n) = true
is_number (Nodes xs) = false
is_number (Str s) = false
is_number (Truth b) = false

-- the value is no number, anywhere
abbrev pub IsNoNumber : Expr → Type 0
IsNoNumber e = (doc : Document) (c : Context) → is_number (denote doc e c) ≡ false

-- the expression is true or not by the row alone
pub record IsTest (e : Expr) : Type 0 where
  pub placeless : IsPlaceless e
  pub no_number : IsNoNumber e

abbrev pub AreTests : List Expr → Type 0
AreTests es = All IsTest es

-- the expressions are true at the row, at position 1 of 1
abbrev pub passes_all : Document → List Expr → ℕ → Bool
passes_all doc es y = list_all (λ e. truth_of (denote doc e (record { row = y; position = 1; size = 1 }))) es

-- the functions that ask for the position or the size
abbrev pub is_placed : Func → Bool
is_placed f.Last = true
is_placed f.Position = true
is_placed _ = false

-- the functions whose value is a number
abbrev pub gives_number : Func → Bool
gives_number f.Last = true
gives_number f.Position = true
gives_number f.Count = true
gives_number f.StringLength = true
gives_number f.Number = true
gives_number f.Sum = true
gives_number f.Floor = true
gives_number f.Ceiling = true
gives_number f.Round = true
gives_number (f.Stored kind) = false
gives_number _ = false

abbrev pub compares : Infix → Bool
compares (op.Compare c) = true
compares op.Add = false
compares op.Sub = false
compares op.Mul = false
compares op.Mod = false

-- the last operand is compared
pub record EndsCompared (os : List Operand) : Type 0 where
  pub before : List Operand
  pub last : Operand
  pub all : os ≡ before ++ last ∷ []
  pub compared : compares (out-Operand last).op ≡ true
