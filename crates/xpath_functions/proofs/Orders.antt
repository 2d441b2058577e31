-- The orders of numbers, by the least and the greatest.
use Rattle.std.proofs.Common.{◌≡◌, refl, sym, ◌∙◌, ap, ℕ, Bool, true, false, ◌||◌, not, cond, List, [], ◌∷◌, ℤ, int_lt, int_le, arith}
use Rattle.std.specs.List.{list_any, fold}
use Rattle.std.proofs.lemmas.Int.{ints}
use Rattle.doc_model.specs.Document.{Document}
use Rattle.doc_model.specs.StringValue.{string_value}
use Rattle.xpath_values.specs.declared.value.XNum.{XNum}
use Rattle.xpath_values.specs.declared.value.XNum.TheVariants.{Whole, NaN}
use Rattle.xpath_values.specs.declared.value.Compare.{Compare}
use Rattle.xpath_values.specs.declared.value.Compare.TheVariants as op
use Rattle.xpath_values.specs.Numbers.{to_number}
use Rattle.xpath_values.specs.Compares.{num_fits}
use Rattle.xpath_values.specs.declared.value.Value.TheVariants.{Nodes}
use Rattle.xpath_parser.specs.Conversions.{fits}
use Rattle.xpath_functions.proofs.Truths.{same_any}
use Rattle.xpath_functions.specs.inner.Extremes.{extreme, extreme_of, is_order, goes_up}

absorb_left : (p q : Bool) → (q ≡ true → p ≡ true) → p ≡ (p || q)
absorb_left true q h = refl
absorb_left false true h = h refl
absorb_left false false h = refl

absorb_right : (p q : Bool) → (p ≡ true → q ≡ true) → q ≡ (p || q)
absorb_right true q h = h refl
absorb_right false q h = refl

or_false : (p : Bool) → p ≡ (p || false)
or_false true = refl
or_false false = refl

lt_lt : (a b c : ℤ) → int_lt a b ≡ true → int_lt b c ≡ true → int_lt a c ≡ true
lt_lt a b c h k = grind (arith, ints)

lt_le : (a b c : ℤ) → int_lt a b ≡ true → int_le b c ≡ true → int_le a c ≡ true
lt_le a b c h k = grind (arith, ints)

le_lt : (a b c : ℤ) → int_lt a b ≡ false → int_lt a c ≡ true → int_lt b c ≡ true
le_lt a b c h k = grind (arith, ints)

le_le : (a b c : ℤ) → int_lt a b ≡ false → int_le a c ≡ true → int_le b c ≡ true
le_le a b c h k = grind (arith, ints)

lt_after : (a b c : ℤ) → int_lt b c ≡ true → int_lt a b ≡ true → int_lt a c ≡ true
lt_after a b c h k = grind (arith, ints)

le_after : (a b c : ℤ) → int_lt b c ≡ true → int_le a b ≡ true → int_le a c ≡ true
le_after a b c h k = grind (arith, ints)

lt_before : (a b c : ℤ) → int_lt b c ≡ false → int_lt a c ≡ true → int_lt a b ≡ true
lt_before a b c h k = grind (arith, ints)

le_before : (a b c : ℤ) → int_lt b c ≡ false → int_le a c ≡ true → int_le a b ≡ true
le_before a b c h k = grind (arith, ints)

-- the smaller of two, on the left of an order
lt_least : (x y g : ℤ) → int_lt (cond (int_lt y x) y x) g ≡ (int_lt x g || int_lt y g)
lt_least x y g = at (int_lt y x) refl
  where
    at : (b : Bool) → int_lt y x ≡ b → int_lt (cond b y x) g ≡ (int_lt x g || int_lt y g)
    at true e = absorb_right (int_lt x g) (int_lt y g) (lt_lt y x g e)
    at false e = absorb_left (int_lt x g) (int_lt y g) (le_lt y x g e)

le_least : (x y g : ℤ) → int_le (cond (int_lt y x) y x) g ≡ (int_le x g || int_le y g)
le_least x y g = at (int_lt y x) refl
  where
    at : (b : Bool) → int_lt y x ≡ b → int_le (cond b y x) g ≡ (int_le x g || int_le y g)
    at true e = absorb_right (int_le x g) (int_le y g) (lt_le y x g e)
    at false e = absorb_left (int_le x g) (int_le y g) (le_le y x g e)

-- the larger of two, on the right of an order
lt_greatest : (g x y : ℤ) → int_lt g (cond (int_lt x y) y x) ≡ (int_lt g x || int_lt g y)
lt_greatest g x y = at (int_lt x y) refl
  where
    at : (b : Bool) → int_lt x y ≡ b → int_lt g (cond b y x) ≡ (int_lt g x || int_lt g y)
    at true e = absorb_right (int_lt g x) (int_lt g y) (lt_after g x y e)
    at false e = absorb_left (int_lt g x) (int_lt g y) (lt_before g x y e)

le_greatest : (g x y : ℤ) → int_le g (cond (int_lt x y) y x) ≡ (int_le g x || int_le g y)
le_greatest g x y = at (int_lt x y) refl
  where
    at : (b : Bool) → int_lt x y ≡ b → int_le g (cond b y x) ≡ (int_le g x || int_le g y)
    at true e = absorb_right (int_le g x) (int_le g y) (le_after g x y e)
    at false e = absorb_left (int_le g x) (int_le g y) (le_before g x y e)

-- where one of two is NaN, or the other side is
no_order : (b : Bool) (c : Compare) (x y : ℤ) → is_order c ≡ true → num_fits c (cond b (Whole y) (Whole x)) NaN ≡ (num_fits c (Whole x) NaN || num_fits c (Whole y) NaN)
no_order true op.Less x y h = refl
no_order true op.LessEqual x y h = refl
no_order true op.Greater x y h = refl
no_order true op.GreaterEqual x y h = refl
no_order false op.Less x y h = refl
no_order false op.LessEqual x y h = refl
no_order false op.Greater x y h = refl
no_order false op.GreaterEqual x y h = refl
no_order b op.Equal x y h = cc
no_order b op.Unequal x y h = cc

pull : (b : Bool) (f : XNum → Bool) (x y : ℤ) → f (cond b (Whole y) (Whole x)) ≡ f (Whole (cond b y x))
pull true f x y = refl
pull false f x y = refl

step_left : (c : Compare) → is_order c ≡ true → (a b g : XNum) → num_fits c (extreme (goes_up c) a b) g ≡ (num_fits c a g || num_fits c b g)
step_left op.Equal h a b g = cc
step_left op.Unequal h a b g = cc
step_left op.Less h NaN b g = refl
step_left op.LessEqual h NaN b g = refl
step_left op.Greater h NaN b g = refl
step_left op.GreaterEqual h NaN b g = refl
step_left op.Less h (Whole x) NaN g = or_false (num_fits op.Less (Whole x) g)
step_left op.LessEqual h (Whole x) NaN g = or_false (num_fits op.LessEqual (Whole x) g)
step_left op.Greater h (Whole x) NaN g = or_false (num_fits op.Greater (Whole x) g)
step_left op.GreaterEqual h (Whole x) NaN g = or_false (num_fits op.GreaterEqual (Whole x) g)
step_left op.Less h (Whole x) (Whole y) NaN = no_order (int_lt y x) op.Less x y h
step_left op.LessEqual h (Whole x) (Whole y) NaN = no_order (int_lt y x) op.LessEqual x y h
step_left op.Greater h (Whole x) (Whole y) NaN = no_order (int_lt x y) op.Greater x y h
step_left op.GreaterEqual h (Whole x) (Whole y) NaN = no_order (int_lt x y) op.GreaterEqual x y h
step_left op.Less h (Whole x) (Whole y) (Whole g) = pull (int_lt y x) (λ a. num_fits op.Less a (Whole g)) x y ∙ lt_least x y g
step_left op.LessEqual h (Whole x) (Whole y) (Whole g) = pull (int_lt y x) (λ a. num_fits op.LessEqual a (Whole g)) x y ∙ le_least x y g
step_left op.Greater h (Whole x) (Whole y) (Whole g) = pull (int_lt x y) (λ a. num_fits op.Greater a (Whole g)) x y ∙ lt_greatest g x y
step_left op.GreaterEqual h (Whole x) (Whole y) (Whole g) = pull (int_lt x y) (λ a. num_fits op.GreaterEqual a (Whole g)) x y ∙ le_greatest g x y

nan_left : (c : Compare) → is_order c ≡ true → (b : XNum) → num_fits c NaN b ≡ false
nan_left op.Less h b = refl
nan_left op.LessEqual h b = refl
nan_left op.Greater h b = refl
nan_left op.GreaterEqual h b = refl
nan_left op.Equal h b = cc
nan_left op.Unequal h b = cc

nan_right : (c : Compare) → is_order c ≡ true → (a : XNum) → num_fits c a NaN ≡ false
nan_right c h NaN = nan_left c h NaN
nan_right op.Less h (Whole a) = refl
nan_right op.LessEqual h (Whole a) = refl
nan_right op.Greater h (Whole a) = refl
nan_right op.GreaterEqual h (Whole a) = refl
nan_right op.Equal h (Whole a) = cc
nan_right op.Unequal h (Whole a) = cc

step_right : (c : Compare) → is_order c ≡ true → (g a b : XNum) → num_fits c g (extreme (not (goes_up c)) a b) ≡ (num_fits c g a || num_fits c g b)
step_right c h g NaN b = ap (λ v. v || num_fits c g b) (sym (nan_right c h g))
step_right c h g (Whole x) NaN = or_false (num_fits c g (Whole x)) ∙ ap (λ v. num_fits c g (Whole x) || v) (sym (nan_right c h g))
step_right c h NaN (Whole x) (Whole y) = nan_left c h (extreme (not (goes_up c)) (Whole x) (Whole y)) ∙ sym (ap (λ v. v || num_fits c NaN (Whole y)) (nan_left c h (Whole x)) ∙ nan_left c h (Whole y))
step_right op.Less h (Whole g) (Whole x) (Whole y) = pull (int_lt x y) (λ a. num_fits op.Less (Whole g) a) x y ∙ lt_greatest g x y
step_right op.LessEqual h (Whole g) (Whole x) (Whole y) = pull (int_lt x y) (λ a. num_fits op.LessEqual (Whole g) a) x y ∙ le_greatest g x y
step_right op.Greater h (Whole g) (Whole x) (Whole y) = pull (int_lt y x) (λ a. num_fits op.Greater (Whole g) a) x y ∙ lt_least x y g
step_right op.GreaterEqual h (Whole g) (Whole x) (Whole y) = pull (int_lt y x) (λ a. num_fits op.GreaterEqual (Whole g) a) x y ∙ le_least x y g
step_right op.Equal h (Whole g) (Whole x) (Whole y) = cc
step_right op.Unequal h (Whole g) (Whole x) (Whole y) = cc

module _ (doc : Document) where
  abbrev number_at : ℕ → XNum
  number_at x = to_number (string_value doc x)

  abbrev from : Bool → XNum → List ℕ → XNum
  from least n xs = fold (λ m x. extreme least m (number_at x)) n xs

  or_assoc : (a b c : Bool) → ((a || b) || c) ≡ (a || (b || c))
  or_assoc true b c = refl
  or_assoc false b c = refl

  left : (c : Compare) → is_order c ≡ true → (n g : XNum) (xs : List ℕ) → num_fits c (from (goes_up c) n xs) g ≡ (num_fits c n g || list_any (λ x. num_fits c (number_at x) g) xs)
  left c h n g [] = or_false (num_fits c n g)
  left c h n g (x ∷ xs) =
      left c h (extreme (goes_up c) n (number_at x)) g xs
      ∙ ap (λ b. b || list_any (λ x. num_fits c (number_at x) g) xs) (step_left c h n (number_at x) g)
      ∙ or_assoc (num_fits c n g) (num_fits c (number_at x) g) (list_any (λ x. num_fits c (number_at x) g) xs)

  right : (c : Compare) → is_order c ≡ true → (g n : XNum) (ys : List ℕ) → num_fits c g (from (not (goes_up c)) n ys) ≡ (num_fits c g n || list_any (λ y. num_fits c g (number_at y)) ys)
  right c h g n [] = or_false (num_fits c g n)
  right c h g n (y ∷ ys) =
      right c h g (extreme (not (goes_up c)) n (number_at y)) ys
      ∙ ap (λ b. b || list_any (λ y. num_fits c g (number_at y)) ys) (step_right c h g n (number_at y))
      ∙ or_assoc (num_fits c g n) (num_fits c g (number_at y)) (list_any (λ y. num_fits c g (number_at y)) ys)

  -- an order between a row of each side, by the least and the greatest number
  pub ordered : (c : Compare) → is_order c ≡ true → (xs ys : List ℕ) → num_fits c (extreme_of doc (goes_up c) xs) (extreme_of doc (not (goes_up c)) ys) ≡ list_any (λ x. list_any (λ y. num_fits c (number_at x) (number_at y)) ys) xs
  ordered c h xs ys =
      left c h NaN (extreme_of doc (not (goes_up c)) ys) xs
      ∙ ap (λ b. b || list_any (λ x. num_fits c (number_at x) (extreme_of doc (not (goes_up c)) ys)) xs) (nan_left c h (extreme_of doc (not (goes_up c)) ys))
      ∙ same_any (λ x. num_fits c (number_at x) (extreme_of doc (not (goes_up c)) ys)) (λ x. list_any (λ y. num_fits c (number_at x) (number_at y)) ys) xs
      (λ x. right c h (number_at x) NaN ys ∙ ap (λ b. b || list_any (λ y. num_fits c (number_at x) (number_at y)) ys) (nan_right c h (number_at x)))

  pub orders : (c : Compare) → is_order c ≡ true → (xs ys : List ℕ) → num_fits c (extreme_of doc (goes_up c) xs) (extreme_of doc (not (goes_up c)) ys) ≡ fits doc c (Nodes xs) (Nodes ys)
  orders op.Less h xs ys = ordered op.Less h xs ys
  orders op.LessEqual h xs ys = ordered op.LessEqual h xs ys
  orders op.Greater h xs ys = ordered op.Greater h xs ys
  orders op.GreaterEqual h xs ys = ordered op.GreaterEqual h xs ys
  orders op.Equal h xs ys = cc
  orders op.Unequal h xs ys = cc
