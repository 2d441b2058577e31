-- The text after a block's name: its steps, `each` and its body.
use Rattle.std.proofs.Common.{◌≡◌, ℕ, Bool, true, false, List, [], ◌∷◌, ◌++◌, refl, sym, ◌∙◌, ap, codes, arith}
use Rattle.std.specs.Prelude.{◌&&◌, ◌||◌, ◌==◌}
use Rattle.std.specs.List.{list_all, list_any}
use Rattle.std.proofs.lemmas.Bool.Decides.{nat_tests}
use Rattle.std.proofs.lemmas.List.Folds.{list_any-append}
use Rattle.query_script.specs.Cuts.{quote_after, is_blank, is_point, skip_front, skip_back, trimmed}
use Rattle.page_records.specs.Braces.{opens, closes, stands, before_outside, after_outside}
use Rattle.page_records.specs.Blocks.{IsBlockText}

-- ---- a word between blanks

blank_no_point : (c : ℕ) → is_blank c ≡ true → is_point c ≡ false
blank_no_point c e = grind (arith, nat_tests)

point_past : (c : ℕ) (t : List ℕ) → is_point c ≡ false → list_any is_point (c ∷ t) ≡ list_any is_point t
point_past c t e = rw e refl

blanks_no_point : (t : List ℕ) → list_all is_blank t ≡ true → list_any is_point t ≡ false
blanks_no_point [] h = refl
blanks_no_point (c ∷ t) h = point_past c t (blank_no_point c (first (is_blank c) (list_all is_blank t) h)) ∙ blanks_no_point t (rest (is_blank c) (list_all is_blank t) h)
  where
    first : (a b : Bool) → (a && b) ≡ true → a ≡ true
    first true b e = refl
    first false b e = e

    rest : (a b : Bool) → (a && b) ≡ true → b ≡ true
    rest true b e = e
    rest false b e = absurd (let clash : false ≡ true = e in cc)

front_points : (t : List ℕ) → list_any is_point (skip_front t) ≡ list_any is_point t
front_points [] = refl
front_points (c ∷ t) = by_test (is_blank c) refl (front_points t)
  where
    skipped : is_blank c ≡ true → skip_front (c ∷ t) ≡ skip_front t
    skipped e = rw e refl

    stopped : is_blank c ≡ false → skip_front (c ∷ t) ≡ c ∷ t
    stopped e = rw e refl

    by_test : (b : Bool) → is_blank c ≡ b → list_any is_point (skip_front t) ≡ list_any is_point t → list_any is_point (skip_front (c ∷ t)) ≡ list_any is_point (c ∷ t)
    by_test true e ih = ap (list_any is_point) (skipped e) ∙ (ih ∙ sym (point_past c t (blank_no_point c e)))
    by_test false e ih = ap (list_any is_point) (stopped e)

back_points : (t : List ℕ) → list_any is_point (skip_back t) ≡ list_any is_point t
back_points [] = refl
back_points (c ∷ t) = by_test (is_blank c && list_all is_blank t) refl (back_points t)
  where
    dropped : (is_blank c && list_all is_blank t) ≡ true → skip_back (c ∷ t) ≡ []
    dropped e = rw e refl

    kept : (is_blank c && list_all is_blank t) ≡ false → skip_back (c ∷ t) ≡ c ∷ skip_back t
    kept e = rw e refl

    by_test : (b : Bool) → (is_blank c && list_all is_blank t) ≡ b → list_any is_point (skip_back t) ≡ list_any is_point t → list_any is_point (skip_back (c ∷ t)) ≡ list_any is_point (c ∷ t)
    by_test true e ih = ap (list_any is_point) (dropped e) ∙ sym (blanks_no_point (c ∷ t) e)
    by_test false e ih = ap (list_any is_point) (kept e) ∙ ap (λ b. is_point c || b) ih

-- `each` between blanks has no point
word_no_point : (word : List ℕ) → trimmed word ≡ codes "each" → list_any is_point word ≡ false
word_no_point word e = sym (back_points (skip_front word) ∙ front_points word) ∙ ap (list_any is_point) e

-- ---- the last point

point_there : (front word : List ℕ) → list_any is_point (front ++ 46 ∷ word) ≡ true
point_there front word = list_any-append is_point front (46 ∷ word) ∙ either (list_any is_point front)
  where
    either : (b : Bool) → (b || true) ≡ true
    either true = refl
    either false = refl

first_of : List ℕ → ℕ
first_of [] = 0
first_of (c ∷ t) = c

rest_of : List ℕ → List ℕ
rest_of [] = []
rest_of (c ∷ t) = t

-- a text is cut at its last point in one way
one_last : (front word other more : List ℕ) → list_any is_point word ≡ false → list_any is_point more ≡ false → front ++ 46 ∷ word ≡ other ++ 46 ∷ more → (front ≡ other) × (word ≡ more)
unfolding first_of rest_of
one_last [] word [] more h n e = (refl, ap rest_of e)
one_last [] word (c ∷ other) more h n e = absurd (let clash : true ≡ false = sym (point_there other more) ∙ (ap (list_any is_point) (sym (ap rest_of e)) ∙ h) in cc)
one_last (c ∷ front) word [] more h n e = absurd (let clash : true ≡ false = sym (point_there front word) ∙ (ap (list_any is_point) (ap rest_of e) ∙ n) in cc)
one_last (c ∷ front) word (d ∷ other) more h n e =
    let same : (front ≡ other) × (word ≡ more) = one_last front word other more h n (ap rest_of e) in
    (ap (λ x. x ∷ front) (ap first_of e) ∙ ap (λ t. d ∷ t) same.0, same.1)

-- so what a block's steps are written in is one text
pub one_front : (text front body other inside : List ℕ) → IsBlockText text front body → IsBlockText text other inside → front ≡ other
one_front text front body other inside a b = (one_last front a.word other b.word (word_no_point a.word a.each) (word_no_point b.word b.each) (sym a.head ∙ b.head)).0

-- ---- a text that is no block's

none_after : (is : ℕ → Bool) (q : ℕ) (t : List ℕ) → stands is q t ≡ false → after_outside is q t ≡ []
none_after is q [] h = refl
none_after is q (c ∷ t) h = by_test ((q == 0) && is c) refl (none_after is (quote_after q c) t)
  where
    there : ((q == 0) && is c) ≡ true → stands is q (c ∷ t) ≡ true
    there e = rw e refl

    past : ((q == 0) && is c) ≡ false → stands is q (c ∷ t) ≡ stands is (quote_after q c) t
    past e = rw e refl

    by_test : (b : Bool) → ((q == 0) && is c) ≡ b → (stands is (quote_after q c) t ≡ false → after_outside is (quote_after q c) t ≡ []) → after_outside is q (c ∷ t) ≡ []
    by_test true e ih = absurd (let clash : true ≡ false = sym (there e) ∙ h in cc)
    by_test false e ih = rw e (ih (sym (past e) ∙ h))

-- it has no `{` outside quotes
pub unopened : (text : List ℕ) → stands opens 0 text ≡ false → (front body : List ℕ) → IsBlockText text front body → ⊥
unopened text h front body b = let clash : false ≡ true = sym (ap (stands closes 0) (none_after opens 0 text h)) ∙ b.closed in cc

module _ (text head rest : List ℕ) (is_head : head ≡ before_outside opens 0 text) (is_rest : rest ≡ after_outside opens 0 text) where
  -- no `}` outside quotes comes after it
  pub unclosed : stands closes 0 rest ≡ false → (front body : List ℕ) → IsBlockText text front body → ⊥
  unclosed h front body b = let clash : false ≡ true = sym h ∙ (ap (stands closes 0) is_rest ∙ b.closed) in cc

  -- no point stands before it
  pub pointless : list_any is_point head ≡ false → (front body : List ℕ) → IsBlockText text front body → ⊥
  pointless h front body b = let clash : true ≡ false = sym (point_there front b.word) ∙ (ap (list_any is_point) (sym b.head ∙ sym is_head) ∙ h) in cc

  -- after the last point before it stands another word
  pub another : (other more : List ℕ) → head ≡ other ++ 46 ∷ more → list_any is_point more ≡ false → (trimmed more ≡ codes "each" → ⊥) → (front body : List ℕ) → IsBlockText text front body → ⊥
  another other more e n not_each front body b = not_each (ap trimmed (sym (one_last front b.word other more (word_no_point b.word b.each) n (sym b.head ∙ (sym is_head ∙ e))).1) ∙ b.each)

  module _ (inside after : List ℕ) (is_inside : inside ≡ before_outside closes 0 rest) (is_after : after ≡ after_outside closes 0 rest) where
    -- a `{` outside quotes stands in the body
    pub nested : stands opens 0 inside ≡ true → (front body : List ℕ) → IsBlockText text front body → ⊥
    nested h front body b = let clash : true ≡ false = sym h ∙ (ap (stands opens 0) (is_inside ∙ (ap (before_outside closes 0) is_rest ∙ sym b.is)) ∙ b.plain) in cc

    -- something stands after the `}`
    pub followed : (trimmed after ≡ [] → ⊥) → (front body : List ℕ) → IsBlockText text front body → ⊥
    followed more front body b = more (ap trimmed (is_after ∙ ap (after_outside closes 0) is_rest) ∙ b.blank)

    -- none of these: it is one's
    pub is_text : (front word : List ℕ) → head ≡ front ++ 46 ∷ word → trimmed word ≡ codes "each" → stands closes 0 rest ≡ true → stands opens 0 inside ≡ false → trimmed after ≡ [] → IsBlockText text front inside
    is_text front word e each closed plain blank = record {
      word = word;
      head = sym is_head ∙ e;
      each = each;
      closed = sym (ap (stands closes 0) is_rest) ∙ closed;
      is = is_inside ∙ ap (before_outside closes 0) is_rest;
      plain = plain;
      blank = sym (ap trimmed (is_after ∙ ap (after_outside closes 0) is_rest)) ∙ blank;
    }
