-- The first row of a list that a walk finds from its front.
use Rattle.std.proofs.lemmas.Bool.{lt-ltb}
use Rattle.std.proofs.Common.{◌≡◌, ℕ, suc, ◌+◌, ◌<◌, ◌≤◌, List, [], ◌∷◌, ◌++◌, length, Bool, true, false, ◌&&◌, cond, refl, sym, ◌∙◌, ap, arith, is_some}
use Rattle.std.specs.Prelude.{filter, reverse, Option, Some, None, slice_get, nat_lt}
use Rattle.std.specs.List.{range_with_len}
use Rattle.std.proofs.lemmas.List.{append-nil, reverse-append}
use Rattle.doc_model.specs.declared.Axis.{Axis}
use Rattle.doc_model.specs.declared.NodeTest.{NodeTest}
use Rattle.doc_model.specs.Document.{Document, rows}
use Rattle.doc_model.specs.Axes.{passes}
use Rattle.doc_model.specs.RowLists.{IsFront}
use Rattle.doc_model.specs.inner.Walks.{is_kept, chosen, IsWalk, IsNext}
use Rattle.doc_model.proofs.Filters.{upto_front}
use Rattle.doc_model.proofs.WalkSteps.{across_more}

-- a front of one row begins with the row
pub first_of_front : (y : ℕ) (xs all : List ℕ) → xs ≡ y ∷ [] → IsFront xs all → Some y ≡ slice_get all 0
first_of_front y xs all e f = ap (λ v. slice_get v 0) (ap (λ v. v ++ f.0) (sym e)) ∙ ap (λ v. slice_get v 0) (sym f.1)

-- one row, where nothing was found before
pub one_found : (before after : List ℕ) (y : ℕ) (wanted : Bool) → after ≡ before ++ cond wanted (y ∷ []) [] → before ≡ [] → wanted ≡ true → after ≡ y ∷ []
one_found before after y wanted e n w = e ∙ ap (λ v. v ++ cond wanted (y ∷ []) []) n ∙ ap (λ b. cond b (y ∷ []) []) w

-- still nothing
pub none_found : (before after : List ℕ) (y : ℕ) (wanted : Bool) → after ≡ before ++ cond wanted (y ∷ []) [] → before ≡ [] → wanted ≡ false → after ≡ []
none_found before after y wanted e n w = e ∙ ap (λ v. v ++ cond wanted (y ∷ []) []) n ∙ ap (λ b. cond b (y ∷ []) []) w

pub first_of_none : (xs all : List ℕ) → xs ≡ [] → xs ≡ all → None ≡ slice_get all 0
first_of_none xs all e f = ap (λ v. slice_get v 0) (sym e ∙ f)

-- the last row so far
pub later_row : (before after : List ℕ) (y : ℕ) (wanted : Bool) (last : Option ℕ) → after ≡ before ++ cond wanted (y ∷ []) [] → last ≡ slice_get (reverse before) 0
    → cond wanted (Some y) last ≡ slice_get (reverse after) 0
later_row before after y true last e h = ap (λ v. slice_get v 0) (sym (reverse-append before (y ∷ []))) ∙ ap (λ v. slice_get (reverse v) 0) (sym e)
later_row before after y false last e h = h ∙ ap (λ v. slice_get (reverse v) 0) (sym (append-nil before) ∙ sym e)

-- whether there is a first row
pub some_first : (xs : List ℕ) → is_some (slice_get xs 0) ≡ nat_lt 0 (length xs)
some_first [] = refl
some_first (x ∷ xs) = sym (lt-ltb 0 (suc (length xs)) (omega arith))

-- the next row, which no row stands before
next_row : (doc : Document) (hops : Bool) (y : ℕ) → y < length doc → IsNext doc hops y (y + 1)
next_row doc hops y h = record { after = omega arith; within = omega arith; between = λ z l k. absurd (omega (arith, l, k)) }

-- the first row that a walk wants
pub first_across : (doc : Document) (a : Axis) (x : ℕ) (t : NodeTest) (from to : ℕ) (hops : Bool) (y : ℕ) (wanted : Bool) → IsWalk doc a x from to hops → from ≤ y → y < to
    → filter (chosen doc a x t) (range_with_len 0 y) ≡ [] → wanted ≡ (is_kept doc a x y && passes doc a t y) → wanted ≡ true → Some y ≡ slice_get (filter (chosen doc a x t) (rows doc)) 0
first_across doc a x t from to hops y wanted w h k none e is =
    let inside : y < length doc = omega (arith, w.ends, k) in
    first_of_front y (filter (chosen doc a x t) (range_with_len 0 (y + 1))) (filter (chosen doc a x t) (rows doc))
    (one_found _ _ y wanted (across_more doc a x t from to hops y (y + 1) wanted w h k (next_row doc hops y inside) e) none is)
    (upto_front (chosen doc a x t) (y + 1) (length doc) (omega (arith, inside)))
