-- Conversions and comparisons of values, in a document.
use Rattle.std.specs.Prelude.{ℕ, Bool, List, [], ◌∷◌}
use Rattle.std.specs.List.{list_any}
use Rattle.text_base.specs.Words.{is_some}
use Rattle.doc_model.specs.Document.{Document}
use Rattle.doc_model.specs.StringValue.{string_value}
use Rattle.xpath_values.specs.declared.value.XNum.{XNum}
use Rattle.xpath_values.specs.declared.value.Compare.{Compare}
use Rattle.xpath_values.specs.declared.value.Value.{Value}
use Rattle.xpath_values.specs.declared.value.Value.TheVariants.{Nodes, Num, Str, Bool as Truth}
use Rattle.xpath_values.specs.Compares as plain
use Rattle.xpath_values.specs.Compares.{Plain, truth, num, chars, plain_fits}

-- there are rows
abbrev pub is_any : List ℕ → Bool
is_any xs = is_some xs

abbrev pub rows_of : Value → List ℕ
rows_of (Nodes xs) = xs
rows_of (Num n) = []
rows_of (Str s) = []
rows_of (Truth b) = []

abbrev pub truth_of : Value → Bool
truth_of (Nodes xs) = is_any xs
truth_of (Num n) = plain.truth_of (num n)
truth_of (Str s) = plain.truth_of (chars s)
truth_of (Truth b) = b

module _ (doc : Document) where
  -- the first node's string value, or the empty string
  abbrev pub text_of_rows : List ℕ → List ℕ
  text_of_rows [] = []
  text_of_rows (x ∷ xs) = string_value doc x

  abbrev pub plain_of : Value → Plain
  plain_of (Nodes xs) = chars (text_of_rows xs)
  plain_of (Num n) = num n
  plain_of (Str s) = chars s
  plain_of (Truth b) = truth b

  abbrev pub text_of : Value → List ℕ
  text_of v = plain.text_of (plain_of v)

  abbrev pub number_of : Value → XNum
  number_of v = plain.number_of (plain_of v)

  -- one of the rows fits the value
  abbrev pub row_fits : Compare → List ℕ → Plain → Bool
  row_fits c xs b = list_any (λ x. plain_fits c (chars (string_value doc x)) b) xs

  abbrev pub fits_row : Compare → Plain → List ℕ → Bool
  fits_row c a ys = list_any (λ y. plain_fits c a (chars (string_value doc y))) ys

  abbrev pub fits : Compare → Value → Value → Bool
  fits c (Nodes xs) (Nodes ys) = list_any (λ x. fits_row c (chars (string_value doc x)) ys) xs
  fits c (Nodes xs) (Truth b) = plain_fits c (truth (is_any xs)) (truth b)
  fits c (Nodes xs) (Num n) = row_fits c xs (num n)
  fits c (Nodes xs) (Str s) = row_fits c xs (chars s)
  fits c (Truth a) (Nodes ys) = plain_fits c (truth a) (truth (is_any ys))
  fits c (Truth a) (Truth b) = plain_fits c (truth a) (truth b)
  fits c (Truth a) (Num n) = plain_fits c (truth a) (num n)
  fits c (Truth a) (Str s) = plain_fits c (truth a) (chars s)
  fits c (Num m) (Nodes ys) = fits_row c (num m) ys
  fits c (Num m) (Truth b) = plain_fits c (num m) (truth b)
  fits c (Num m) (Num n) = plain_fits c (num m) (num n)
  fits c (Num m) (Str s) = plain_fits c (num m) (chars s)
  fits c (Str r) (Nodes ys) = fits_row c (chars r) ys
  fits c (Str r) (Truth b) = plain_fits c (chars r) (truth b)
  fits c (Str r) (Num n) = plain_fits c (chars r) (num n)
  fits c (Str r) (Str s) = plain_fits c (chars r) (chars s)
