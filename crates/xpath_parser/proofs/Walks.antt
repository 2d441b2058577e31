-- Loops over tokens, terms, digits and rows of tables.
use Rattle.std.proofs.Common.{◌≡◌, refl, sym, ◌∙◌, ap, subst, ℕ, zero, suc, ◌+◌, ◌-◌, ◌*◌, ◌<◌, ◌≤◌, Bool, true, false, cond, nat_le, List, [], ◌∷◌, length, map, drop, take, count_by, get_or, ◌↔◌, arith}
use Rattle.std.proofs.lemmas.Bool.Decides.{nat_tests}
use Rattle.std.proofs.Math.Seq.{drop-cons}
use Rattle.std.specs.List.{fold}
use Rattle.text_base.specs.Text.{digits_value}
use Rattle.xpath_lexer.specs.Tokens.{Text, Lexeme}
use Rattle.xpath_lexer.specs.Places.{lexeme_of}
use Rattle.xpath_lexer.specs.declared.token.XTok.{XTok}
use Rattle.xpath_values.specs.Numbers.{largest_whole}
use Rattle.xpath_parser.specs.Terms.{is_open, is_close, most_open, IsShallow}
use Rattle.xpath_parser.specs.inner.Depth.{one, ShallowFrom}

pub here : {A : Type 0} (xs : List A) (i : ℕ) (x : A) → i < length xs → x ≡ get_or xs i x → drop i xs ≡ x ∷ drop (i + 1) xs
here xs i x l e = drop-cons xs i x l ∙ ap (λ y. y ∷ drop (suc i) xs) (sym e) ∙ ap (λ n. x ∷ drop n xs) (let f : suc i ≡ i + 1 = omega arith in f)

-- ---- digits

value_grows : (v : ℕ) (ds : Text) → v ≤ fold (λ n d. n * 10 + (d - 48)) v ds
value_grows v [] = omega arith
value_grows v (d ∷ ds) = let more = value_grows (v * 10 + (d - 48)) ds in omega arith

pub too_large : (ds : Text) (i v : ℕ) → i < length ds → fold (λ n d. n * 10 + (d - 48)) v (drop i ds) ≡ digits_value ds
    → largest_whole < v * 10 + (get_or ds i 0 - 48) → nat_le (digits_value ds) largest_whole ≡ false
too_large ds i v l h large =
    let d = get_or ds i 0 in
    let cut : drop i ds ≡ d ∷ drop (suc i) ds = drop-cons ds i 0 l in
    let all : fold (λ n d. n * 10 + (d - 48)) (v * 10 + (d - 48)) (drop (suc i) ds) ≡ digits_value ds = sym (ap (fold (λ n d. n * 10 + (d - 48)) v) cut) ∙ h in
    let more = value_grows (v * 10 + (d - 48)) (drop (suc i) ds) in
    let far : largest_whole < digits_value ds = omega (arith, all, more, large) in
    grind (arith, nat_tests, far)

-- ---- brackets

count_from : (p : Lexeme → Bool) (a : ℕ) (ws : List Lexeme) → fold (λ a w. a + cond (p w) 1 0) a ws ≡ a + count_by p ws
count_from p a [] = omega arith
count_from p a (w ∷ ws) =
    let left = count_from p (a + cond (p w) 1 0) ws in
    let right = count_from p (0 + cond (p w) 1 0) ws in
    omega (arith, left, right)

count_cons : (p : Lexeme → Bool) (w : Lexeme) (ws : List Lexeme) → count_by p (w ∷ ws) ≡ one (p w) + count_by p ws
count_cons p w ws = count_from p (0 + cond (p w) 1 0) ws ∙ ap (λ n. n + count_by p ws) (by (p w))
  where
    by : (b : Bool) → 0 + cond b 1 0 ≡ one b
    by true = refl
    by false = refl

shallow_on : (o c : ℕ) (w : Lexeme) (ws : List Lexeme) → ShallowFrom o c (w ∷ ws) → ShallowFrom (o + one (is_open w)) (c + one (is_close w)) ws
shallow_on o c w ws h = λ i l. (
    let all = h (suc i) (omega arith) in
    let a = count_cons is_open w (take i ws) in
    let b = count_cons is_close w (take i ws) in
    omega (arith, all, a, b))

shallow_back : (o c : ℕ) (w : Lexeme) (ws : List Lexeme) → o ≤ c + most_open → ShallowFrom (o + one (is_open w)) (c + one (is_close w)) ws → ShallowFrom o c (w ∷ ws)
shallow_back o c w ws low h zero l = omega arith
shallow_back o c w ws low h (suc i) l =
    let all = h i (omega arith) in
    let a = count_cons is_open w (take i ws) in
    let b = count_cons is_close w (take i ws) in
    omega (arith, all, a, b)

lexemes_here : (ws : List XTok) (i : ℕ) (w : XTok) → i < length ws → w ≡ get_or ws i w → map lexeme_of (drop i ws) ≡ lexeme_of w ∷ map lexeme_of (drop (i + 1) ws)
lexemes_here ws i w l e = ap (map lexeme_of) (here ws i w l e)

pub shallow_begin : (ws : List Lexeme) → ShallowFrom 0 0 ws ↔ IsShallow ws
shallow_begin ws = (λ h i l. (let all = h i l in omega (arith, all)), λ h i l. (let all = h i l in omega (arith, all)))

pub shallow_turn : (P : Type 0) (ws : List XTok) (i : ℕ) (w : XTok) (o c a b : ℕ) → i < length ws → w ≡ get_or ws i w → o ≤ c + most_open
    → (ShallowFrom o c (map lexeme_of (drop i ws)) ↔ P) → a ≡ one (is_open (lexeme_of w)) → b ≡ one (is_close (lexeme_of w))
    → (ShallowFrom (o + a) (c + b) (map lexeme_of (drop (i + 1) ws)) ↔ P)
shallow_turn P ws i w o c a b l e low h ea eb =
    let cut = lexemes_here ws i w l e in
    let rest = map lexeme_of (drop (i + 1) ws) in
    let counts : ShallowFrom (o + a) (c + b) rest ≡ ShallowFrom (o + one (is_open (lexeme_of w))) (c + one (is_close (lexeme_of w))) rest = rw (ea, eb) refl in (
      λ r. h.0 (subst (ShallowFrom o c) (sym cut) (shallow_back o c (lexeme_of w) rest low (subst (λ T. T) counts r))),
      λ p. subst (λ T. T) (sym counts) (shallow_on o c (lexeme_of w) rest (subst (ShallowFrom o c) cut (h.1 p))),
    )

pub too_deep : (o c : ℕ) (ws : List Lexeme) → c + most_open < o → ShallowFrom o c ws → ⊥
too_deep o c ws l h = (let low = h 0 (omega arith) in absurd (omega (arith, low)))

pub shallow_end : (o c : ℕ) → o ≤ c + most_open → ShallowFrom o c []
shallow_end o c low zero l = omega arith
shallow_end o c low (suc i) l = absurd (omega arith)
