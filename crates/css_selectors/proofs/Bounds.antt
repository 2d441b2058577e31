-- What the sums of a specificity keep, turn by turn.
use Rattle.std.proofs.Common.{◌≡◌, ℕ, ◌+◌, ◌<◌, ◌≤◌, Bool, true, false, cond, List, ◌∷◌, length, drop, get_or, sum_by, arith, ap, ◌∙◌, sym}
use Rattle.std.proofs.lemmas.List.{drop_more}
use Rattle.std.proofs.lemmas.List.Sums.{sum_by-cons}
use Rattle.css_selectors.specs.declared.selector.Triple.{Triple}
use Rattle.css_selectors.specs.Specificity.{IsAtMost, plus, greater, is_less}

-- with so much left, no count comes to more than the total
pub record Leaves (left total : ℕ) (t : Triple) : Type 0 where
  pub a : t.a + left ≤ total
  pub b : t.b + left ≤ total
  pub c : t.c + left ≤ total

-- the list from a place on is the item there and the rest; `ys` is the list as a call gave it
pub here : {X : Type 0} (xs ys : List X) (i : ℕ) (x : X) → ys ≡ xs → i < length ys → x ≡ get_or ys i x → drop i xs ≡ x ∷ drop (i + 1) xs
here xs ys i x same lt is =
    ap (drop i) (sym same) ∙ drop_more ys i x lt ∙ ap (λ y. y ∷ drop (i + 1) ys) (sym is) ∙ ap (λ zs. x ∷ drop (i + 1) zs) same

-- one turn of a sum
pub more : {X : Type 0} (size : X → ℕ) (xs ys : List X) (i : ℕ) (x : X) (n total : ℕ) (s t : Triple)
    → drop i xs ≡ x ∷ ys → Leaves (sum_by size (drop i xs)) total s → IsAtMost n t → n ≡ size x → Leaves (sum_by size ys) total (plus s t)
more size xs ys i x n total s t e l m same =
    let sum : sum_by size (drop i xs) ≡ size x + sum_by size ys = ap (sum_by size) e ∙ sum_by-cons size x ys in
    record {
      a = omega (arith, l.a, m.a, sum, same);
      b = omega (arith, l.b, m.b, sum, same);
      c = omega (arith, l.c, m.c, sum, same);
    }

pub choice_at_most : (n : ℕ) (s t : Triple) (b : Bool) → IsAtMost n s → IsAtMost n t → IsAtMost n (cond b t s)
choice_at_most n s t true h k = k
choice_at_most n s t false h k = h

pub greater_at_most : (n : ℕ) (s t : Triple) → IsAtMost n s → IsAtMost n t → IsAtMost n (greater s t)
greater_at_most n s t h k = choice_at_most n s t (is_less s t) h k

pub weaker : (m n : ℕ) (t : Triple) → m ≤ n → IsAtMost m t → IsAtMost n t
weaker m n t le h = record { a = omega (arith, h.a, le); b = omega (arith, h.b, le); c = omega (arith, h.c, le) }

-- a member's size is within the whole
pub part_of : {X : Type 0} (size : X → ℕ) (xs ys : List X) (x : X) (n : ℕ) → n + sum_by size (x ∷ ys) ≤ sum_by size xs → n + (size x + sum_by size ys) ≤ sum_by size xs
part_of size xs ys x n h = omega (arith, h, sum_by-cons size x ys)
