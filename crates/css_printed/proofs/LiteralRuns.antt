-- The runs of a literal, from the left.
use Rattle.std.proofs.Common.{◌≡◌, ℕ, suc, ◌+◌, ◌<◌, ◌≤◌, Bool, true, false, cond, List, [], ◌∷◌, ◌++◌, length, take, drop, refl, sym, ◌∙◌, ap, arith, inl, inr}
use Rattle.std.specs.Prelude.{◌==◌, ◌||◌, not, nat_lt, codes}
use Rattle.std.specs.List.{list_any, prefix_len}
use Rattle.std.proofs.lemmas.Bool.{cases_Bool, or_parts}
use Rattle.std.proofs.lemmas.Bool.Decides.{nat_tests}
use Rattle.text_base.specs.Text.{run_end, is_not_byte}
use Rattle.css_printed.specs.Literals.{is_apostrophe, is_double, Quoted, quote_of, add, quoted_runs, listed, shown, literal_text}
use Rattle.css_printed.proofs.LiteralParts.{two_parts}

-- a byte stands in a text where the run of others ends before the text
no_prefix : (b : ℕ) (x : List ℕ) → list_any (λ c. c == b) x ≡ false → prefix_len (is_not_byte b) x ≡ length x
no_prefix b [] h = refl
no_prefix b (c ∷ x) h = let p = or_parts (c == b) (list_any (λ d. d == b) x) h in rw p.0 (omega (arith, no_prefix b x p.1))

prefix_yes : (p : ℕ → Bool) (c : ℕ) (x : List ℕ) → p c ≡ true → prefix_len p (c ∷ x) ≡ 1 + prefix_len p x
prefix_yes p c x h = ap (λ b. cond b (1 + prefix_len p x) 0) h

prefix_no : (p : ℕ → Bool) (c : ℕ) (x : List ℕ) → p c ≡ false → prefix_len p (c ∷ x) ≡ 0
prefix_no p c x h = ap (λ b. cond b (1 + prefix_len p x) 0) h

some_prefix : (b : ℕ) (x : List ℕ) → list_any (λ c. c == b) x ≡ true → prefix_len (is_not_byte b) x < length x
some_prefix b [] h = cc
some_prefix b (c ∷ x) h = elim (cases_Bool (c == b)) [
  | inl e ↦ omega (arith, prefix_no (is_not_byte b) c x (ap not e))
  | inr e ↦ let rest : list_any (λ d. d == b) x ≡ true = sym (ap (λ v. v || list_any (λ d. d == b) x) e) ∙ h in
      omega (arith, some_prefix b x rest, prefix_yes (is_not_byte b) c x (ap not e))
]

pub byte_test : (b : ℕ) (x : List ℕ) (j : ℕ) → j ≡ run_end (is_not_byte b) x 0 → nat_lt j (length x) ≡ list_any (λ c. c == b) x
byte_test b x j e = elim (cases_Bool (list_any (λ c. c == b) x)) [
  | inl h ↦ let lt : j < length x = omega (arith, some_prefix b x h) in (let is : nat_lt j (length x) ≡ true = grind (arith, nat_tests) in is ∙ sym h)
  | inr h ↦ let le : length x ≤ j = omega (arith, no_prefix b x h) in (let is : nat_lt j (length x) ≡ false = grind (arith, nat_tests) in is ∙ sym h)
]

take_one : (k c : ℕ) (ys : List ℕ) → take (1 + k) (c ∷ ys) ≡ c ∷ take k ys
take_one k c ys = let e : 1 + k ≡ suc k = omega arith in ap (λ n. take n (c ∷ ys)) e

drop_one : (k c : ℕ) (ys : List ℕ) → drop (1 + k) (c ∷ ys) ≡ drop k ys
drop_one k c ys = let e : 1 + k ≡ suc k = omega arith in ap (λ n. drop n (c ∷ ys)) e

-- the bytes that have the same quote as c
abbrev pub same_quote : ℕ → ℕ → Bool
same_quote c = cond (is_apostrophe c) is_apostrophe (is_not_byte 39)

abbrev pub run_of : ℕ → List ℕ → ℕ → List Quoted
run_of q x n = record { quote = q; content = take n x } ∷ quoted_runs (drop n x)

one_more : (q n c : ℕ) (x : List ℕ) → ◌≡◌ {A = List Quoted} (record { quote = q; content = c ∷ take n x } ∷ quoted_runs (drop n x)) (run_of q (c ∷ x) (1 + n))
one_more q n c x =
    ap (λ t. record { quote = q; content = t } ∷ quoted_runs (drop n x)) (sym (take_one n c x))
    ∙ ap (λ t. record { quote = q; content = take (1 + n) (c ∷ x) } ∷ quoted_runs t) (sym (drop_one n c x))

abbrev quote_by : Bool → ℕ
quote_by a = cond a 34 39

abbrev test_by : Bool → ℕ → Bool
test_by a = cond a is_apostrophe (is_not_byte 39)

-- a byte in front of a run: of the same quote, or of the other
abbrev added : Bool → ℕ → Quoted → List Quoted → List Quoted
added a c q qs = cond (quote_by a == q.quote) (record { quote = q.quote; content = c ∷ q.content } ∷ qs) (record { quote = quote_by a; content = c ∷ [] } ∷ (q ∷ qs))

grows : (a b : Bool) (c d : ℕ) (x : List ℕ) → is_apostrophe c ≡ a → is_apostrophe d ≡ b
    → quoted_runs (d ∷ x) ≡ run_of (quote_by b) (d ∷ x) (prefix_len (test_by b) (d ∷ x))
    → added a c (record { quote = quote_by b; content = take (prefix_len (test_by b) (d ∷ x)) (d ∷ x) }) (quoted_runs (drop (prefix_len (test_by b) (d ∷ x)) (d ∷ x)))
    ≡ run_of (quote_by a) (c ∷ d ∷ x) (prefix_len (test_by a) (c ∷ d ∷ x))
grows true true c d x h g e = one_more 34 (prefix_len is_apostrophe (d ∷ x)) c (d ∷ x) ∙ ap (run_of 34 (c ∷ d ∷ x)) (sym (prefix_yes is_apostrophe c (d ∷ x) h))
grows false false c d x h g e =
    one_more 39 (prefix_len (is_not_byte 39) (d ∷ x)) c (d ∷ x) ∙ ap (run_of 39 (c ∷ d ∷ x)) (sym (prefix_yes (is_not_byte 39) c (d ∷ x) (ap not h)))
grows true false c d x h g e =
    ap (λ r. record { quote = 34; content = c ∷ [] } ∷ r) (sym e)
    ∙ ap (run_of 34 (c ∷ d ∷ x)) (sym (prefix_yes is_apostrophe c (d ∷ x) h ∙ ap (λ n. 1 + n) (prefix_no is_apostrophe d x g)))
grows false true c d x h g e =
    ap (λ r. record { quote = 39; content = c ∷ [] } ∷ r) (sym e)
    ∙ ap (run_of 39 (c ∷ d ∷ x)) (sym (prefix_yes (is_not_byte 39) c (d ∷ x) (ap not h) ∙ ap (λ n. 1 + n) (prefix_no (is_not_byte 39) d x (ap not g))))

alone_grows : (a : Bool) (c : ℕ) → is_apostrophe c ≡ a → ◌≡◌ {A = List Quoted} (record { quote = quote_by a; content = c ∷ [] } ∷ []) (run_of (quote_by a) (c ∷ []) (prefix_len (test_by a) (c ∷ [])))
alone_grows true c h = ap (run_of 34 (c ∷ [])) (sym (prefix_yes is_apostrophe c [] h))
alone_grows false c h = ap (run_of 39 (c ∷ [])) (sym (prefix_yes (is_not_byte 39) c [] (ap not h)))

-- the first run is as long as its bytes have one quote
pub first_run : (c : ℕ) (x : List ℕ) → quoted_runs (c ∷ x) ≡ run_of (quote_of c) (c ∷ x) (prefix_len (same_quote c) (c ∷ x))
first_run c [] = alone_grows (is_apostrophe c) c refl
first_run c (d ∷ x) = ap (add c) (first_run d x) ∙ grows (is_apostrophe c) (is_apostrophe d) c d x refl refl (first_run d x)

-- a text with both quotes is written as several runs
pub shown_runs : (x : List ℕ) → list_any is_apostrophe x ≡ true → list_any is_double x ≡ true → literal_text x ≡ codes "concat(" ++ (listed (quoted_runs x) ++ codes ")")
shown_runs x a d =
    ap (λ b. shown (cond b (cond (list_any is_double x) (quoted_runs x) (record { quote = 34; content = x } ∷ [])) (record { quote = 39; content = x } ∷ []))) a
    ∙ ap (λ b. shown (cond b (quoted_runs x) (record { quote = 34; content = x } ∷ []))) d ∙ several (quoted_runs x) (two_parts x a d)
  where
    several : (qs : List Quoted) → 2 ≤ length qs → shown qs ≡ codes "concat(" ++ (listed qs ++ codes ")")
    several [] h = absurd (omega arith)
    several (q ∷ []) h = absurd (omega arith)
    several (q ∷ (r ∷ rs)) h = refl
