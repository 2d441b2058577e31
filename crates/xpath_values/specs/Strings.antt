-- The functions on strings, which are lists of characters.
use Rattle.std.specs.Prelude.{ℕ, suc, ◌+◌, Bool, true, false, ◌&&◌, ◌==◌, if◌then◌else◌, List, [], ◌∷◌, ◌++◌, length, take, drop, flat_map, slice_get, pos, ◌+ℤ◌, int_le, int_lt, Option, Some, None, codes}
use Rattle.std.specs.List.{position_from, join_with_byte}
use Rattle.std.specs.Option.{option_to_list}
use Rattle.text_base.specs.Strings.{is_empty, starts_with}
use Rattle.text_base.specs.Text.{is_space4}
use Rattle.xpath_values.specs.declared.value.XNum.{XNum}
use Rattle.xpath_values.specs.declared.value.XNum.TheVariants.{Whole, NaN}

abbrev pub text_of_bool : Bool → List ℕ
text_of_bool true = codes "true"
text_of_bool false = codes "false"

abbrev pub one_more : Option ℕ → Option ℕ
one_more None = None
one_more (Some i) = Some (suc i)

-- the first place at which t stands in s
abbrev pub place_of : List ℕ → List ℕ → Option ℕ
place_of t [] = if is_empty t then Some 0 else None
place_of t (c ∷ cs) = if starts_with (c ∷ cs) t then Some 0 else one_more (place_of t cs)

abbrev pub before_place : Option ℕ → List ℕ → List ℕ
before_place None s = []
before_place (Some i) s = take i s

abbrev pub after_place : Option ℕ → ℕ → List ℕ → List ℕ
after_place None n s = []
after_place (Some i) n s = drop (i + n) s

abbrev pub str_before : List ℕ → List ℕ → List ℕ
str_before s t = before_place (place_of t s) s

abbrev pub str_after : List ℕ → List ℕ → List ℕ
str_after s t = after_place (place_of t s) (length t) s

-- the characters whose places, of which the first is `at`, pass the test
abbrev pub at_places : (ℕ → Bool) → ℕ → List ℕ → List ℕ
at_places p at [] = []
at_places p at (c ∷ cs) = if p at then c ∷ at_places p (suc at) cs else at_places p (suc at) cs

abbrev pub substring_from : List ℕ → XNum → List ℕ
substring_from s (Whole a) = at_places (λ p. int_le a (pos p)) 1 s
substring_from s NaN = []

abbrev pub substring_of : List ℕ → XNum → XNum → List ℕ
substring_of s (Whole a) (Whole n) = at_places (λ p. int_le a (pos p) && int_lt (pos p) (a +ℤ n)) 1 s
substring_of s (Whole a) NaN = []
substring_of s NaN n = []

-- the maximal runs without Space4, of which w stands already before the text
abbrev pub words_after : List ℕ → List ℕ → List (List ℕ)
words_after w [] = if is_empty w then [] else w ∷ []
words_after w (c ∷ cs) =
    if is_space4 c then (if is_empty w then words_after [] cs else w ∷ words_after [] cs) else words_after (w ++ c ∷ []) cs

abbrev pub words : List ℕ → List (List ℕ)
words s = words_after [] s

abbrev pub normalized : List ℕ → List ℕ
normalized s = join_with_byte 32 (words s)

abbrev pub translated_char : Option ℕ → ℕ → List ℕ → List ℕ
translated_char None c to = c ∷ []
translated_char (Some i) c to = option_to_list (slice_get to i)

-- each character that first stands at place i of `from` becomes the i-th of `to`, or is dropped
abbrev pub translated : List ℕ → List ℕ → List ℕ → List ℕ
translated s from to = flat_map (λ c. translated_char (position_from (λ d. d == c) 0 from) c to) s
