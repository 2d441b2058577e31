-- What a step keeps, where its predicates do not ask for the position.
use Rattle.std.proofs.Common.{◌≡◌, refl, ℕ, suc, Bool, true, false, ◌&&◌, ◌||◌, ◌==◌, cond, eqb, List, [], ◌∷◌, ◌++◌, ap, sym, ◌∙◌, filter, map, length, reverse}
use Rattle.std.proofs.lemmas.List.{reverse-append, map-append}
use Rattle.std.proofs.lemmas.Bool.{and_parts}
use Rattle.std.proofs.lemmas.List.Folds.{list_any-append}
use Rattle.text_base.proofs.Lists.{filter_twice}
use Rattle.doc_model.specs.declared.Axis.{Axis}
use Rattle.doc_model.specs.declared.NodeTest.{NodeTest}
use Rattle.doc_model.specs.Document.{Document, rows}
use Rattle.doc_model.specs.Axes.{axis_list, on_axis, passes, is_reverse}
use Rattle.css_meaning.proofs.ListTests as lists
use Rattle.xpath_parser.specs.declared.expression.Expr.{Expr}
use Rattle.xpath_parser.specs.declared.expression.Step.{roll-Step}
use Rattle.xpath_parser.specs.Denote.{Meaning, has, keeps, kept_from, kept, denote, walk_of}
use Rattle.xpath_parser.proofs.Equations.{at_made}

pub kept_append : (ms ns : List Meaning) (xs : List ℕ) → kept (ms ++ ns) xs ≡ kept ns (kept ms xs)
kept_append [] ns xs = refl
kept_append (m ∷ ms) ns xs = kept_append ms ns (kept_from m (length xs) 1 xs)

-- positions are counted from 1
pub kept_from_filter : (m : Meaning) (p : ℕ → Bool) (size at : ℕ) (xs : List ℕ)
    → ((x : ℕ) → has x xs ≡ true → (i : ℕ) → keeps (suc i) (m (record { row = x; position = suc i; size = size })) ≡ p x) → kept_from m size (suc at) xs ≡ filter p xs
kept_from_filter m p size at [] h = refl
kept_from_filter m p size at (x ∷ xs) h =
    ap (λ b. cond b (x ∷ kept_from m size (suc (suc at)) xs) (kept_from m size (suc (suc at)) xs)) (h x (lists.in_first x xs) at)
    ∙ ap (λ r. cond (p x) (x ∷ r) r) (kept_from_filter m p size (suc at) xs (λ y i. h y (lists.in_rest x y xs i)))

pub filter_all : (xs : List ℕ) → filter (λ y. true) xs ≡ xs
filter_all [] = refl
filter_all (x ∷ xs) = ap (λ r. x ∷ r) (filter_all xs)

either_way : (a b : Bool) → (a || (b || false)) ≡ (b || a)
either_way true true = refl
either_way true false = refl
either_way false true = refl
either_way false false = refl

pub has_reversed : (y : ℕ) (xs : List ℕ) → has y (reverse xs) ≡ has y xs
has_reversed y [] = refl
has_reversed y (x ∷ xs) = ap (has y) (reverse-append (x ∷ []) xs) ∙ list_any-append (λ z. z == y) (reverse xs) (x ∷ []) ∙ either_way (has y (reverse xs)) (eqb x y) ∙ ap (λ b. eqb x y || b) (has_reversed y xs)

has_turned : (y : ℕ) (back : Bool) (xs : List ℕ) → has y (cond back (reverse xs) xs) ≡ has y xs
has_turned y true xs = has_reversed y xs
has_turned y false xs = refl

module _ (doc : Document) where
  -- a row is on an axis and passes the node test
  pub in_axis : (a : Axis) (t : NodeTest) (x y : ℕ) → has y (axis_list doc x a t) ≡ ((on_axis doc a x y && passes doc a t y) && has y (rows doc))
  in_axis a t x y =
      has_turned y (is_reverse a) (filter (λ z. on_axis doc a x z && passes doc a t z) (rows doc))
      ∙ lists.in_filter (λ z. on_axis doc a x z && passes doc a t z) (rows doc) y

  -- at x the predicate is this answer, whatever the position
  abbrev pub Is : Expr → ℕ → Bool → Type 0
  Is e x b = (at size : ℕ) → keeps (suc at) (denote doc e (record { row = x; position = suc at; size = size })) ≡ b

  module _ (kind : ℕ → Bool) where
    -- of any rows of the kind, the predicates keep those that pass the test
    abbrev pub Keep : List Expr → (ℕ → Bool) → Type 0
    Keep es p = (xs : List ℕ) → ((x : ℕ) → has x xs ≡ true → kind x ≡ true) → kept (map (denote doc) es) xs ≡ filter p xs

    pub keep_none : Keep [] (λ y. true)
    keep_none xs of_kind = sym (filter_all xs)

    pub keep_one : (e : Expr) (p : ℕ → Bool) → ((x : ℕ) → kind x ≡ true → Is e x (p x)) → Keep (e ∷ []) p
    keep_one e p is xs of_kind = kept_from_filter (denote doc e) p (length xs) 0 xs (λ x i at. is x (of_kind x i) at (length xs))

    pub keep_same : (es : List Expr) (p q : ℕ → Bool) → ((x : ℕ) → kind x ≡ true → p x ≡ q x) → Keep es p → Keep es q
    keep_same es p q same k xs of_kind = k xs of_kind ∙ lists.filter_among p q xs (λ x i. same x (of_kind x i))

    -- what a step gives from a row: on its axis, of its node test, and of the brackets
    pub step_has : (a : Axis) (t : NodeTest) (es : List Expr) (p : ℕ → Bool) (x y : ℕ) → ((z : ℕ) → on_axis doc a x z ≡ true → passes doc a t z ≡ true → kind z ≡ true) → Keep es p
        → has y (rows doc) ≡ true
        → has y (walk_of doc (roll-Step (record { axis = a; test = t; predicates = es })) x) ≡ (p y && (on_axis doc a x y && passes doc a t y))
    step_has a t es p x y of_kind k among =
        ap (has y) (at_made doc a t es x ∙ k (axis_list doc x a t) (λ z i.
        let both : (on_axis doc a x z ≡ true) × (passes doc a t z ≡ true) = and_parts (on_axis doc a x z) _ (and_parts _ (has z (rows doc)) (sym (in_axis a t x z) ∙ i)).0 in
        of_kind z both.0 both.1))
        ∙ lists.in_filter p (axis_list doc x a t) y
        ∙ ap (λ b. p y && b) (in_axis a t x y ∙ ap (λ b. (on_axis doc a x y && passes doc a t y) && b) among ∙ lists.and_true (on_axis doc a x y && passes doc a t y))

  -- predicates and more of them, which look at what the first keep
  pub keep_then : (kind further : ℕ → Bool) (es fs : List Expr) (p q : ℕ → Bool) → Keep kind es p → Keep further fs q
      → ((x : ℕ) → kind x ≡ true → p x ≡ true → further x ≡ true) → Keep kind (es ++ fs) (λ y. p y && q y)
  keep_then kind further es fs p q k l narrows xs of_kind =
      ap (λ ms. kept ms xs) (map-append (denote doc) es fs) ∙ kept_append (map (denote doc) es) (map (denote doc) fs) xs
      ∙ ap (kept (map (denote doc) fs)) (k xs of_kind)
      ∙ l (filter p xs) (λ x i. let both : (p x ≡ true) × (has x xs ≡ true) = and_parts (p x) _ (sym (lists.in_filter p xs x) ∙ i) in narrows x (of_kind x both.1) both.0)
      ∙ filter_twice p q xs

  pub keep_both : (kind : ℕ → Bool) (es fs : List Expr) (p q : ℕ → Bool) → Keep kind es p → Keep kind fs q → Keep kind (es ++ fs) (λ y. p y && q y)
  keep_both kind es fs p q k l = keep_then kind kind es fs p q k l (λ x h i. h)
