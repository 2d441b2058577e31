-- The tests on values against the parts of a value.
use Rattle.std.proofs.Common.{◌≡◌, ◌≢◌, ℕ, Bool, true, false, cond, List, [], ◌∷◌, ◌++◌, length, drop, refl, sym, ◌∙◌, ap, subst, inl, inr}
use Rattle.std.specs.Prelude.{◌==◌, ◌||◌, ◌&&◌, not, ◌↔◌}
use Rattle.std.specs.List.{list_any}
use Rattle.std.specs.Str.{bytes_eq}
use Rattle.std.proofs.lemmas.List.{drop_at}
use Rattle.std.proofs.lemmas.Bool.{and_parts, and_from, or_cases, or_left, or_right, eqb-true, cond_both, not-true, not_from_false}
use Rattle.text_base.specs.Strings.{starts_with, is_empty, is_among, put, pieces, not_empty, runs}
use Rattle.text_base.specs.Text.{is_space5}
use Rattle.text_base.proofs.PartLemmas.{starts_rest, begins_means, ends_means, occurs_means}
use Rattle.css_meaning.specs.Attributes.{word_test}
use Rattle.css_meaning.specs.Parts.{last_passes, first_passes, IsRun, ValueLaws}

-- Maximal runs, by a walk that knows whether a run may begin at the place where it is.
abbrev front : (ℕ → Bool) → List ℕ → List ℕ → Bool
front p x v = starts_with x v && (first_passes p (drop (length v) x) && not (list_any p v))

abbrev found : (ℕ → Bool) → Bool → List ℕ → List ℕ → Bool
found p here [] v = here && front p [] v
found p here (c ∷ x) v = (here && front p (c ∷ x) v) || found p (p c) x v

abbrev first : List (List ℕ) → List ℕ
first [] = []
first (w ∷ ws) = w

abbrev later : List (List ℕ) → List (List ℕ)
later [] = []
later (w ∷ ws) = ws

first_put : (c : ℕ) (ws : List (List ℕ)) → first (put c ws) ≡ c ∷ first ws
first_put c [] = refl
first_put c (w ∷ ws) = refl

later_put : (c : ℕ) (ws : List (List ℕ)) → later (put c ws) ≡ later ws
later_put c [] = refl
later_put c (w ∷ ws) = refl

put_whole : (c : ℕ) (ws : List (List ℕ)) → put c ws ≡ first (put c ws) ∷ later (put c ws)
put_whole c [] = refl
put_whole c (w ∷ ws) = refl

pieces_whole : (p : ℕ → Bool) (x : List ℕ) → pieces p x ≡ first (pieces p x) ∷ later (pieces p x)
pieces_whole p [] = refl
pieces_whole p (c ∷ x) = cond_both (p c) ([] ∷ pieces p x) (put c (pieces p x)) (λ ws. ws ≡ first ws ∷ later ws) (λ e. refl) (λ e. put_whole c (pieces p x))

later_cond : (b : Bool) (c : ℕ) (ws : List (List ℕ)) → later (cond b ([] ∷ ws) (put c ws)) ≡ cond b ws (later ws)
later_cond true c ws = refl
later_cond false c ws = later_put c ws

-- the character after the equal ones
equal_test : (p : ℕ → Bool) (c b : ℕ) (t : Bool) → (c == b) ≡ true → p c ≡ t → p b ≡ t
equal_test p c b t e h = ap p (sym (eqb-true c b e)) ∙ h

no_run : (e s f pb h : Bool) → (e ≡ true → pb ≡ true) → ((e && s) && (f && not (pb || h))) ≡ false
no_run true true true pb h k = rw (k refl) refl
no_run true true false pb h k = refl
no_run true false f pb h k = refl
no_run false s f pb h k = refl

one_run : (e s f pb h t : Bool) → (e ≡ true → pb ≡ false) → (s && (f && not h)) ≡ t → ((e && s) && (f && not (pb || h))) ≡ (e && t)
one_run true s f pb h t k i = rw (k refl) i
one_run false s f pb h t k i = refl

passing : (p : ℕ → Bool) (c : ℕ) (x v : List ℕ) → p c ≡ true → front p (c ∷ x) v ≡ bytes_eq [] v
passing p c x [] e = rw e refl
passing p c x (b ∷ v) e = no_run (c == b) _ _ (p b) _ (λ h. equal_test p c b true h e)

longer : (p : ℕ → Bool) (c : ℕ) (x v : List ℕ) → ((u : List ℕ) → front p x u ≡ bytes_eq (first (pieces p x)) u) → p c ≡ false → front p (c ∷ x) v ≡ bytes_eq (c ∷ first (pieces p x)) v
longer p c x [] rest e = rw e refl
longer p c x (b ∷ v) rest e = one_run (c == b) _ _ (p b) _ _ (λ h. equal_test p c b false h e) (rest v)

front_same : (p : ℕ → Bool) (x v : List ℕ) → front p x v ≡ bytes_eq (first (pieces p x)) v
front_same p [] [] = refl
front_same p [] (b ∷ v) = refl
front_same p (c ∷ x) v = cond_both (p c) ([] ∷ pieces p x) (put c (pieces p x)) (λ ws. front p (c ∷ x) v ≡ bytes_eq (first ws) v) (λ e. passing p c x v e) (λ e. longer p c x v (front_same p x) e ∙ ap (λ w. bytes_eq w v) (sym (first_put c (pieces p x))))

or_false : (x y : Bool) → x ≡ y → x ≡ (y || false)
or_false true y h = rw (sym h) refl
or_false false y h = rw (sym h) refl

both : (a b c d : Bool) → a ≡ c → b ≡ d → (a || b) ≡ (c || d)
both a b c d h k = cc

found_pieces : (p : ℕ → Bool) (here : Bool) (x v : List ℕ) → found p here x v ≡ is_among v (cond here (pieces p x) (later (pieces p x)))
found_pieces p true [] v = or_false _ _ (front_same p [] v)
found_pieces p false [] v = refl
found_pieces p true (c ∷ x) v =
    both _ _ _ _ (front_same p (c ∷ x) v) (found_pieces p (p c) x v ∙ ap (is_among v) (sym (later_cond (p c) c (pieces p x))))
    ∙ ap (is_among v) (sym (pieces_whole p (c ∷ x)))
found_pieces p false (c ∷ x) v = found_pieces p (p c) x v ∙ ap (is_among v) (sym (later_cond (p c) c (pieces p x)))

no_empty : (ws : List (List ℕ)) → is_among [] (not_empty ws) ≡ false
no_empty [] = refl
no_empty ([] ∷ ws) = no_empty ws
no_empty ((a ∷ w) ∷ ws) = no_empty ws

not_empty_among : (b : ℕ) (v : List ℕ) (ws : List (List ℕ)) → is_among (b ∷ v) (not_empty ws) ≡ is_among (b ∷ v) ws
not_empty_among b v [] = refl
not_empty_among b v ([] ∷ ws) = not_empty_among b v ws
not_empty_among b v ((a ∷ w) ∷ ws) = ap (λ t. bytes_eq (a ∷ w) (b ∷ v) || t) (not_empty_among b v ws)

-- a place of v among what the walk may take
record Placed (p : ℕ → Bool) (here : Bool) (x v : List ℕ) : Type 0 where
  ahead : List ℕ
  after : List ℕ
  is : x ≡ ahead ++ (v ++ after)
  clear : list_any p v ≡ false
  starts : last_passes p here ahead ≡ true
  ends : first_passes p after ≡ true

placed_here : (p : ℕ → Bool) (here : Bool) (x v : List ℕ) → (here && front p x v) ≡ true → Placed p here x v
placed_here p here x v h =
    let parts = and_parts here _ h in
    let runs = and_parts (starts_with x v) _ parts.1 in
    let tests = and_parts (first_passes p (drop (length v) x)) _ runs.1 in
    record { ahead = []; after = drop (length v) x; is = starts_rest x v runs.0; clear = not-true _ tests.1; starts = parts.0; ends = tests.0 }

placed : (p : ℕ → Bool) (here : Bool) (x v : List ℕ) → found p here x v ≡ true → Placed p here x v
placed p here [] v h = placed_here p here [] v h
placed p here (c ∷ x) v h = elim (or_cases _ _ h) [
  | inl e ↦ placed_here p here (c ∷ x) v e
  | inr e ↦ let rest : Placed p (p c) x v = placed p (p c) x v e in
      record { ahead = c ∷ rest.ahead; after = rest.after; is = ap (λ t. c ∷ t) rest.is; clear = rest.clear; starts = rest.starts; ends = rest.ends }
]

found_here : (p : ℕ → Bool) (here : Bool) (x v : List ℕ) → here ≡ true → front p x v ≡ true → found p here x v ≡ true
found_here p here [] v h k = and_from _ _ h k
found_here p here (c ∷ x) v h k = or_left _ _ (and_from _ _ h k)

front_self : (p : ℕ → Bool) (v r : List ℕ) → list_any p v ≡ false → first_passes p r ≡ true → front p (v ++ r) v ≡ true
front_self p v r h k = and_from _ _ ((begins_means (v ++ r) v).1 (record { after = r; is = refl })) (and_from _ _ (ap (first_passes p) (drop_at v r (length v) refl) ∙ k) (not_from_false _ h))

found_at : (p : ℕ → Bool) (here : Bool) (a v r : List ℕ) → last_passes p here a ≡ true → list_any p v ≡ false → first_passes p r ≡ true → found p here (a ++ (v ++ r)) v ≡ true
found_at p here [] v r s h k = found_here p here (v ++ r) v s (front_self p v r h k)
found_at p here (c ∷ a) v r s h k = or_right _ _ (found_at p (p c) a v r s h k)

not_nothing : (v : List ℕ) → v ≢ [] → is_empty v ≡ false
not_nothing [] h = absurd (h refl)
not_nothing (b ∷ v) h = refl

run_from : (p : ℕ → Bool) (x v : List ℕ) → is_among v (runs p x) ≡ true → IsRun p x v
run_from p x [] h = absurd (let e = no_empty (pieces p x) in cc)
run_from p x (b ∷ v) h =
    let place : Placed p true x (b ∷ v) = placed p true x (b ∷ v) (found_pieces p true x (b ∷ v) ∙ sym (not_empty_among b v (pieces p x)) ∙ h) in
    record { ahead = place.ahead; after = place.after; is = place.is; some = λ e. cc; clear = place.clear; starts = place.starts; ends = place.ends }

run_to : (p : ℕ → Bool) (x v : List ℕ) → IsRun p x v → is_among v (runs p x) ≡ true
run_to p x [] r = absurd (r.some refl)
run_to p x (b ∷ v) r =
    not_empty_among b v (pieces p x) ∙ sym (found_pieces p true x (b ∷ v))
    ∙ subst (λ t. found p true t (b ∷ v) ≡ true) (sym r.is) (found_at p true r.ahead (b ∷ v) r.after r.starts r.clear r.ends)

pub run_means : (p : ℕ → Bool) (x v : List ℕ) → (is_among v (runs p x) ≡ true) ↔ IsRun p x v
run_means p x v = (run_from p x v, run_to p x v)

run_word : (x v : List ℕ) → IsRun is_space5 x v → word_test x v ≡ true
run_word x v r = and_from _ _ (not_from_false _ (not_nothing v r.some)) (and_from _ _ (not_from_false _ r.clear) (run_to is_space5 x v r))

pub word_is_run : (x v : List ℕ) → (word_test x v ≡ true) ↔ IsRun is_space5 x v
word_is_run x v = (λ h. run_from is_space5 x v (and_parts _ _ (and_parts _ _ h).1).1, run_word x v)

pub value_laws : ValueLaws
value_laws = record { begins = begins_means; ends = ends_means; occurs = occurs_means; words = word_is_run }
