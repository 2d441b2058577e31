-- The length of a comment.
use Rattle.std.proofs.Common.{◌≡◌, ℕ, ◌+◌, ◌-◌, ◌<◌, ◌≤◌, Bool, true, false, cond, List, ◌∷◌, length, get_or, refl, ◌∙◌, ap, subst, arith, eqb-true, ltb}
use Rattle.std.specs.Prelude.{◌==◌, ◌&&◌}
use Rattle.text_base.proofs.Boundaries.{in_text}
use Rattle.css_lexer.specs.Comments.{opens_comment, closing_at, comment_len, Comments}
use Rattle.css_lexer.proofs.EscapeLemmas.{both_true}

lt_test : (a b : ℕ) → a < b → ltb a b ≡ true
lt_test a b l = grind arith

le_test : (a b : ℕ) → b ≤ a → ltb a b ≡ false
le_test a b l = grind arith

pub opening_fits : (text : List ℕ) (i : ℕ) → opens_comment text i ≡ true → i + 2 ≤ length text
opening_fits text i h =
    let star = eqb-true (get_or text (i + 1) 0) 42 (both_true (get_or text i 0 == 47) (get_or text (i + 1) 0 == 42) h).1 in
    let inside = in_text text (i + 1) (omega arith) in omega arith

decided : (a b : Bool) (x : ℕ) → a ≡ true → b ≡ true → x ≡ cond (a && b) x 0
decided true true x h k = refl
decided true false x h k = cc
decided false b x h k = cc

undecided : (a b : Bool) (x : ℕ) → (a ≡ false → 0 ≡ cond (a && b) x 0)
undecided true b x h = cc
undecided false b x h = refl

unclosed : (a b : Bool) (x : ℕ) → (b ≡ false → 0 ≡ cond (a && b) x 0)
unclosed true true x h = cc
unclosed true false x h = refl
unclosed false b x h = refl

pub comment_is : (text : List ℕ) (i closing : ℕ) → opens_comment text i ≡ true → closing ≡ closing_at text i → closing < length text → closing + 2 - i ≡ comment_len text i
comment_is text i closing h e l =
    ap (λ n. n + 2 - i) e
    ∙ decided (opens_comment text i) (ltb (closing_at text i) (length text)) (closing_at text i + 2 - i) h (lt_test (closing_at text i) (length text) (omega arith))

pub no_comment : (text : List ℕ) (i : ℕ) → opens_comment text i ≡ false → 0 ≡ comment_len text i
no_comment text i h = undecided (opens_comment text i) (ltb (closing_at text i) (length text)) (closing_at text i + 2 - i) h

pub not_closed : (text : List ℕ) (i closing : ℕ) → closing ≡ closing_at text i → length text ≤ closing → 0 ≡ comment_len text i
not_closed text i closing e l = unclosed (opens_comment text i) (ltb (closing_at text i) (length text)) (closing_at text i + 2 - i) (le_test (closing_at text i) (length text) (omega arith))

pub comments_more : (text : List ℕ) (i j k n : ℕ) → n ≡ comment_len text i → k ≡ i + n → 0 < n → Comments text k j → Comments text i j
comments_more text i j k n e to some later =
    let rest : Comments text (i + comment_len text i) j = subst (λ m. Comments text m j) (to ∙ ap (λ m. i + m) e) later in
    (i ∷ rest.0, (refl, omega arith, rest.1))
