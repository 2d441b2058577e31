-- The decimal digits of a number.
use Rattle.std.proofs.Common.{◌≡◌, refl, ◌∙◌, ℕ, ◌+◌, ◌-◌, ◌*◌, ◌/◌, ◌%◌, ◌≤◌, ◌<◌, ◌^◌, true, List, [], ◌∷◌, ◌++◌, length, length-append, arith}
use Rattle.std.specs.Fmt.{decimal}
use Rattle.std.specs.List.{list_all, fold}
use Rattle.std.proofs.lemmas.Bool.{and_parts, and_from}
use Rattle.std.proofs.lemmas.Bool.Decides.{nat_tests}
use Rattle.std.proofs.lemmas.Fmt.{decimal_by_steps}
use Rattle.text_base.specs.Text.{is_digit, digits_value}

fold_last : (a : ℕ) (ds : List ℕ) (d : ℕ) → fold (λ n e. n * 10 + (e - 48)) a (ds ++ (d ∷ [])) ≡ fold (λ n e. n * 10 + (e - 48)) a ds * 10 + (d - 48)
fold_last a [] d = refl
fold_last a (e ∷ ds) d = fold_last (a * 10 + (e - 48)) ds d

-- these digits write the number in base 10
pub record Digits (n : ℕ) (ds : List ℕ) : Type 0 where
  pub some : 0 < length ds
  pub digits : list_all is_digit ds ≡ true
  pub value : digits_value ds ≡ n

digit_one : (n : ℕ) → n < 10 → is_digit (48 + n) ≡ true
digit_one n h = grind (arith, nat_tests)

all_last : (ds : List ℕ) (d : ℕ) → list_all is_digit ds ≡ true → is_digit d ≡ true → list_all is_digit (ds ++ (d ∷ [])) ≡ true
all_last [] d h g = and_from _ _ g refl
all_last (e ∷ ds) d h g = let p = and_parts (is_digit e) (list_all is_digit ds) h in and_from _ _ p.0 (all_last ds d p.1 g)

one_digit : (n : ℕ) → n < 10 → Digits n ((48 + n) ∷ [])
one_digit n h = record { some = omega arith; digits = and_from _ _ (digit_one n h) refl; value = omega arith }

more_digits : (n : ℕ) (ds : List ℕ) → 10 ≤ n → Digits (n / 10) ds → Digits n (ds ++ ((48 + n % 10) ∷ []))
more_digits n ds h p =
    let low : n % 10 < 10 = omega arith in
    let v : digits_value ds ≡ n / 10 = p.value in
    record {
      some = omega (arith, length-append ds ((48 + n % 10) ∷ []));
      digits = all_last ds (48 + n % 10) p.digits (digit_one (n % 10) low);
      value = fold_last 0 ds (48 + n % 10) ∙ omega (arith, v);
    }

pub decimal_digits : (n : ℕ) → n < 2 ^ 64 → Digits n (decimal n)
decimal_digits n h = decimal_by_steps Digits one_digit more_digits n h
