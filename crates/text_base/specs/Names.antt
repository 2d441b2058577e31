-- The bytes of names in XPath texts, and tables of names.
use Rattle.std.specs.Prelude.{ℕ, Bool, ◌||◌, ◌==◌, nat_le, if◌then◌else◌, List, [], ◌∷◌, map, Option, Some, None}
use Rattle.std.specs.Str.{bytes_eq}
use Rattle.text_base.specs.Text.{is_digit, is_letter}
use denote.Ref.{Bor}

-- texts without where they lie in memory
abbrev pub texts : List (Bor (List ℕ)) → List (List ℕ)
texts names = map (λ (n : Bor (List ℕ)). n.now) names

-- what a name stands for in a table of names: the first of that name
abbrev pub named_in : {A : Type 0} → List (List ℕ × A) → List ℕ → Option A
named_in [] n = None
named_in (p ∷ ps) n = if bytes_eq n p.0 then Some p.1 else named_in ps n

-- an ASCII letter, `_` or a byte of a character past ASCII
abbrev pub is_name_start : ℕ → Bool
is_name_start b = is_letter b || ((b == 95) || nat_le 128 b)

-- these, digits, `-` and `.`
abbrev pub is_name_byte : ℕ → Bool
is_name_byte b = is_name_start b || (is_digit b || ((b == 45) || (b == 46)))
