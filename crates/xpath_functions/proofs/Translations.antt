-- The table of a translation, as far as it is filled.
use Rattle.std.proofs.Common.{◌≡◌, refl, sym, ◌∙◌, ap, subst, ℕ, zero, suc, ◌+◌, Bool, true, false, cond, eqb, ltb, ◌<◌, List, [], ◌∷◌, ◌++◌, length, drop, Option, Some, None, is_some, slice_get, arith, zero-add}
use Rattle.std.specs.List.{position_from}
use Rattle.std.specs.Str.{chars, IsUtf8}
use Rattle.std.specs.declared.str.Chars.{Chars}
use Rattle.std.specs.Str.Iter.{chars_steps}
use Rattle.std.specs.Ordering.{is_eq, nat_cmp}
use Rattle.std.specs.declared.cmp.Ordering.TheVariants.{Less, Equal, Greater}
use Rattle.std.proofs.lemmas.Bool.{eqb-true, ltb-true, ne_eqb}
use Rattle.std.proofs.lemmas.Str.{chars-nil, chars_past_char, IsUtf8-past_char}
use Rattle.xpath_functions.specs.inner.Translations.{place_in, image_at, image_in}
use Rattle.xpath_functions.proofs.Lists.{no_items}

-- the first place or, where there is none, another
abbrev or_else : Option ℕ → Option ℕ → Option ℕ
or_else None b = b
or_else (Some i) b = Some i

position_append : (p : ℕ → Bool) (at : ℕ) (xs : List ℕ) (d : ℕ) → position_from p at (xs ++ d ∷ []) ≡ or_else (position_from p at xs) (cond (p d) (Some (at + length xs)) None)
position_append p at [] d = ap (λ n. cond (p d) (Some n) None) (let e : at ≡ at + 0 = omega arith in e)
position_append p at (x ∷ xs) d = by_test (p x) (position_append p (at + 1) xs d)
  where
    by_test : (b : Bool) → position_from p (at + 1) (xs ++ d ∷ []) ≡ or_else (position_from p (at + 1) xs) (cond (p d) (Some (at + 1 + length xs)) None)
        → cond b (Some at) (position_from p (at + 1) (xs ++ d ∷ [])) ≡ or_else (cond b (Some at) (position_from p (at + 1) xs)) (cond (p d) (Some (at + suc (length xs))) None)
    by_test true ih = refl
    by_test false ih = ih ∙ ap (λ n. or_else (position_from p (at + 1) xs) (cond (p d) (Some n) None)) (let e : at + 1 + length xs ≡ at + suc (length xs) = omega arith in e)

-- one character more
pub place_more : (xs : List ℕ) (d c : ℕ) → place_in (xs ++ d ∷ []) c ≡ or_else (place_in xs c) (cond (eqb d c) (Some (length xs)) None)
place_more xs d c = position_append (λ e. eqb e c) 0 xs d ∙ ap (λ n. or_else (place_in xs c) (cond (eqb d c) (Some n) None)) (zero-add (length xs))

-- ---- reading on in the other text

drop_next : (cs : List ℕ) (n c : ℕ) (rest : List ℕ) → drop n cs ≡ c ∷ rest → drop (suc n) cs ≡ rest
drop_next [] zero c rest e = cc
drop_next [] (suc n) c rest e = cc
drop_next (x ∷ xs) zero c rest e = cc
drop_next (x ∷ xs) (suc n) c rest e = drop_next xs n c rest e

drop_none : (cs : List ℕ) (n : ℕ) → drop n cs ≡ [] → drop (suc n) cs ≡ []
drop_none [] n e = refl
drop_none (x ∷ xs) zero e = cc
drop_none (x ∷ xs) (suc n) e = drop_none xs n e

get_first : (cs : List ℕ) (n : ℕ) → slice_get (drop n cs) 0 ≡ slice_get cs n
get_first [] zero = refl
get_first [] (suc n) = refl
get_first (x ∷ xs) zero = refl
get_first (x ∷ xs) (suc n) = get_first xs n

pub record ReadsOn (cs rest : List ℕ) (n : ℕ) (r : Option ℕ) : Type 0 where
  pub utf8 : IsUtf8 rest
  pub ahead : chars rest ≡ drop (n + 1) cs
  pub read : r ≡ slice_get cs n

pub reads_on : (cs : List ℕ) (n : ℕ) (s t : Chars) (r : Option ℕ) → chars_steps s r t → IsUtf8 s.rest.now → chars s.rest.now ≡ drop n cs → ReadsOn cs t.rest.now n r
reads_on cs n s t None h u e =
    let next : n + 1 ≡ suc n = omega arith in
    let same : t.rest.now ≡ s.rest.now = ap (λ (v : Chars). v.rest.now) h.0.1 in
    let none : drop n cs ≡ [] = sym e ∙ ap chars (no_items s.rest.now h.0.0) ∙ chars-nil in
    record {
      utf8 = subst IsUtf8 (sym same) u;
      ahead = ap chars same ∙ e ∙ none ∙ sym (drop_none cs n none) ∙ ap (λ m. drop m cs) (sym next);
      read = h.2 ∙ ap (λ v. slice_get v 0) e ∙ get_first cs n;
    }
reads_on cs n s t (Some c) h u e =
    let next : n + 1 ≡ suc n = omega arith in
    record {
      utf8 = IsUtf8-past_char s.rest.now t.rest.now c u h.0;
      ahead = sym (ap (λ m. drop m cs) next ∙ drop_next cs n c (chars t.rest.now) (sym e ∙ chars_past_char s.rest.now t.rest.now c u h.0));
      read = h.2 ∙ ap (λ v. slice_get v 0) e ∙ get_first cs n;
    }

-- ---- filling the table

-- a character that has its image already
pub known_more : (from to : List ℕ) (d c : ℕ) → is_some (image_in from to d) ≡ true → image_in from to c ≡ image_in (from ++ d ∷ []) to c
known_more from to d c h = at (place_in from c) refl ∙ ap (image_at to) (sym (place_more from d c))
  where
    by_test : (b : Bool) → eqb d c ≡ b → place_in from c ≡ None → image_at to None ≡ image_at to (or_else None (cond b (Some (length from)) None))
    by_test true e n = absurd (let no : false ≡ true = sym (ap (λ p. is_some (image_at to p)) (ap (place_in from) (eqb-true d c e) ∙ n)) ∙ h in cc)
    by_test false e n = refl

    at : (p : Option ℕ) → place_in from c ≡ p → image_in from to c ≡ image_at to (or_else (place_in from c) (cond (eqb d c) (Some (length from)) None))
    at None e = ap (image_at to) e ∙ by_test (eqb d c) refl e ∙ ap (λ p. image_at to (or_else p (cond (eqb d c) (Some (length from)) None))) (sym e)
    at (Some i) e = ap (image_at to) e ∙ ap (λ p. image_at to (or_else p (cond (eqb d c) (Some (length from)) None))) (sym e)

-- a character that has none so far
pub new_more : (from to : List ℕ) (d c : ℕ) (image : Option ℕ) → is_some (image_in from to d) ≡ false → image ≡ slice_get to (length from)
    → cond (eqb d c) (Some image) (image_in from to c) ≡ image_in (from ++ d ∷ []) to c
new_more from to d c image h i = by_test (eqb d c) refl ∙ ap (image_at to) (sym (place_more from d c))
  where
    no_place : (p : Option ℕ) → is_some (image_at to p) ≡ false → p ≡ None
    no_place None e = refl
    no_place (Some k) e = cc

    or_none : (p : Option ℕ) → or_else p None ≡ p
    or_none None = refl
    or_none (Some k) = refl

    by_test : (b : Bool) → eqb d c ≡ b → cond b (Some image) (image_in from to c) ≡ image_at to (or_else (place_in from c) (cond b (Some (length from)) None))
    by_test true e =
        let none : place_in from c ≡ None = ap (place_in from) (sym (eqb-true d c e)) ∙ no_place (place_in from d) h in
        ap Some i ∙ ap (λ p. image_at to (or_else p (Some (length from)))) (sym none)
    by_test false e = ap (image_at to) (sym (or_none (place_in from c)))

-- ---- what the table compares

pub same_cmp : (x y : ℕ) → is_eq (nat_cmp x y) ≡ eqb x y
same_cmp x y = at (ltb x y) refl
  where
    equal : (b : Bool) → is_eq (cond b Equal Greater) ≡ b
    equal true = refl
    equal false = refl

    at : (b : Bool) → ltb x y ≡ b → is_eq (cond b Less (cond (eqb x y) Equal Greater)) ≡ eqb x y
    at true e = sym (ne_eqb x y (λ s. let l : x < y = ltb-true x y e in omega arith))
    at false e = equal (eqb x y)
