-- The first elements with their ids.
use Rattle.std.proofs.Common.{◌≡◌, refl, sym, ◌∙◌, ap, subst, ℕ, suc, ◌+◌, ◌-◌, ◌<◌, ◌≤◌, Bool, true, false, ◌&&◌, ◌||◌, not, cond, List, [], ◌∷◌, ◌++◌, length, codes, arith, zero-add, Option, Some, None, option_to_list}
use Rattle.std.specs.Prelude.{filter}
use Rattle.std.specs.List.{list_any, range_with_len}
use Rattle.std.specs.Str.{bytes_eq}
use Rattle.std.proofs.lemmas.Bool.{eq-eqb, ne_eqb}
use Rattle.std.proofs.lemmas.List.{append-nil}
use Rattle.std.proofs.lemmas.List.Folds.{list_any-append}
use Rattle.std.proofs.lemmas.Slice.Eq.{bytes_eq-Decides}
use Rattle.doc_model.specs.Attributes as spec
use Rattle.doc_model.specs.Attributes.{is_attribute_of, has_id}
use Rattle.doc_model.specs.Document.{Document, row, rows, is_element}
use Rattle.doc_model.specs.RowLists.{Run}
use Rattle.doc_model.proofs.Filters.{upto, upto_more}
use Rattle.doc_model.proofs.Runs.{filter_run, run_le, range_split}
use Rattle.xpath_parser.specs.Conversions.{is_any}
use Rattle.xpath_parser.specs.Functions.{attributes_named, is_id, is_first}
use Rattle.std.specs.Cmp.{both_ways}
use Rattle.xpath_functions.proofs.Truths.{any_kept, same_any}
use Rattle.xpath_functions.specs.inner.Attributes.{is_value}

-- ---- the first of those that pass

not_first : (doc : Document) (y high : ℕ) (xs : List ℕ) → Run (suc y) high xs → is_first doc y xs ≡ false
not_first doc y high [] r = refl
not_first doc y high (x ∷ xs) r = ne_eqb x y (λ e. omega (arith, r.0, e))

any_filter : (p : ℕ → Bool) (xs : List ℕ) → list_any p xs ≡ is_any (filter p xs)
any_filter p [] = refl
any_filter p (x ∷ xs) = at (p x) (any_filter p xs)
  where
    at : (b : Bool) → list_any p xs ≡ is_any (filter p xs) → (b || list_any p xs) ≡ is_any (cond b (x ∷ filter p xs) (filter p xs))
    at true ih = refl
    at false ih = ih

first_from : (doc : Document) (p : ℕ → Bool) (y m : ℕ) → is_first doc y (filter p (range_with_len y (suc m))) ≡ p y
first_from doc p y m = at (p y)
  where
    at : (b : Bool) → is_first doc y (cond b (y ∷ filter p (range_with_len (y + 1) m)) (filter p (range_with_len (y + 1) m))) ≡ b
    at true = eq-eqb y y refl
    at false = not_first doc y (y + 1 + m) (filter p (range_with_len (y + 1) m)) (let next : y + 1 ≡ suc y = omega arith in subst (λ n. Run n (y + 1 + m) (filter p (range_with_len (y + 1) m))) next (filter_run p m (y + 1) (y + 1 + m) refl))

-- no row before it passes
first_after : (doc : Document) (y : ℕ) (xs more : List ℕ) → Run 0 y xs → is_first doc y (xs ++ more) ≡ (is_first doc y more && not (is_any xs))
first_after doc y [] more r = sym (and_all (is_first doc y more))
  where
    and_all : (b : Bool) → (b && true) ≡ b
    and_all true = refl
    and_all false = refl
first_after doc y (k ∷ ks) more r =
    let up : suc k ≤ y = run_le (suc k) y ks r.1 in
    ne_eqb k y (λ e. omega (arith, e)) ∙ sym (and_none (is_first doc y more))
  where
    and_none : (b : Bool) → (b && false) ≡ false
    and_none true = refl
    and_none false = refl

first_is : (doc : Document) (p : ℕ → Bool) (y n : ℕ) → y < n → is_first doc y (filter p (range_with_len 0 n)) ≡ (p y && not (list_any p (range_with_len 0 y)))
first_is doc p y n l =
    let rest : n - y ≡ suc (n - y - 1) = omega arith in
    ap (is_first doc y) (upto p y n (omega arith))
    ∙ first_after doc y (filter p (range_with_len 0 y)) (filter p (range_with_len y (n - y))) (filter_run p y 0 y (omega arith))
    ∙ ap (λ m. is_first doc y (filter p (range_with_len y m)) && not (is_any (filter p (range_with_len 0 y)))) rest
    ∙ ap (λ b. b && not (is_any (filter p (range_with_len 0 y)))) (first_from doc p y (n - y - 1))
    ∙ ap (λ b. p y && not b) (sym (any_filter p (range_with_len 0 y)))

-- ---- the ids that are left

-- an element that has the first of one of the ids
pub first_ids : (doc : Document) (y : ℕ) (ws : List (List ℕ)) → y < length doc
    → list_any (λ w. has_id doc w y && not (list_any (has_id doc w) (range_with_len 0 y))) ws ≡ list_any (λ w. is_id doc w y) ws
first_ids doc y ws l = same_any _ _ ws (λ w. sym (first_is doc (has_id doc w) y (length doc) l))

one_more : (h a e : Bool) → (not h && (a && not e)) ≡ (a && not (e || (h || false)))
one_more true true true = refl
one_more true true false = refl
one_more true false e = refl
one_more false true true = refl
one_more false true false = refl
one_more false false e = refl

-- one row later
pub fewer : (p : ℕ → Bool) (y : ℕ) (a b new : Bool) → b ≡ (a && not (list_any p (range_with_len 0 y))) → new ≡ (not (p y) && b) → new ≡ (a && not (list_any p (range_with_len 0 (y + 1))))
fewer p y a b new h e =
    e ∙ ap (λ v. not (p y) && v) h ∙ one_more (p y) a (list_any p (range_with_len 0 y))
    ∙ ap (λ v. a && not v) (sym (ap (list_any p) (range_split y 1 0) ∙ list_any-append p (range_with_len 0 y) (range_with_len (0 + y) 1) ∙ ap (λ n. list_any p (range_with_len 0 y) || (p n || false)) (zero-add y)))

pub none_id : (h : List ℕ → Bool) (earlier : List ℕ → Bool) (ws : List (List ℕ)) → ((w : List ℕ) → h w ≡ false) → list_any (λ w. h w && not (earlier w)) ws ≡ false
none_id h earlier [] never = refl
none_id h earlier (w ∷ ws) never = ap (λ b. (b && not (earlier w)) || list_any (λ w. h w && not (earlier w)) ws) (never w) ∙ none_id h earlier ws never

-- ---- the rows so far

pub kept : (p : ℕ → Bool) (y : ℕ) (found new : List ℕ) → p y ≡ true → found ≡ filter p (range_with_len 0 y) → new ≡ found ++ y ∷ [] → new ≡ filter p (range_with_len 0 (y + 1))
kept p y found new h e n =
    n ∙ ap (λ v. v ++ y ∷ []) e ∙ ap (λ b. filter p (range_with_len 0 y) ++ cond b (y ∷ []) []) (sym h)
    ∙ sym (upto_more p y (y + 1) (omega arith) (λ z l k. absurd (omega (arith, l, k))))

pub passed : (p : ℕ → Bool) (y : ℕ) (found new : List ℕ) → p y ≡ false → found ≡ filter p (range_with_len 0 y) → new ≡ found → new ≡ filter p (range_with_len 0 (y + 1))
passed p y found new h e n =
    n ∙ e ∙ sym (upto_more p y (y + 1) (omega arith) (λ z l k. absurd (omega (arith, l, k))) ∙ ap (λ b. filter p (range_with_len 0 y) ++ cond b (y ∷ []) []) h ∙ append-nil (filter p (range_with_len 0 y)))

or_and : (a b c : Bool) → ((a && c) || (b && c)) ≡ ((a || b) && c)
or_and true b true = refl
or_and true true false = refl
or_and true false false = refl
or_and false b c = refl

flip : (s w : List ℕ) → bytes_eq s w ≡ bytes_eq w s
flip s w = both_ways _ _
    (λ h. (bytes_eq-Decides w s).1 (sym ((bytes_eq-Decides s w).0 h)))
    (λ h. (bytes_eq-Decides s w).1 (sym ((bytes_eq-Decides w s).0 h)))

-- of the words that are the text, each is the text
pub among : (h : List ℕ → Bool) (earlier : List ℕ → Bool) (s : List ℕ) (ws : List (List ℕ)) → ((w : List ℕ) → h w ≡ bytes_eq s w)
    → list_any (λ w. h w && not (earlier w)) ws ≡ (list_any (λ w. bytes_eq w s) ws && not (earlier s))
among h earlier s [] is = refl
among h earlier s (w ∷ ws) is =
    ap (λ b. (b && not (earlier w)) || list_any (λ w. h w && not (earlier w)) ws) (is w ∙ flip s w)
    ∙ ap (λ b. (bytes_eq w s && not (earlier w)) || b) (among h earlier s ws is)
    ∙ ap (λ b. b || (list_any (λ w. bytes_eq w s) ws && not (earlier s))) (at (bytes_eq w s) refl)
    ∙ or_and (bytes_eq w s) (list_any (λ w. bytes_eq w s) ws) (not (earlier s))
  where
    at : (b : Bool) → bytes_eq w s ≡ b → (b && not (earlier w)) ≡ (b && not (earlier s))
    at true e = ap (λ v. not (earlier v)) ((bytes_eq-Decides w s).0 e)
    at false e = refl

-- ---- the id of an element

pub has_value : (doc : Document) (q : List ℕ) (y : ℕ) (o : Option ℕ) → is_element doc y ≡ true → attributes_named doc (codes "id") y ≡ option_to_list o → has_id doc q y ≡ is_value doc o q
has_value doc q y o e h =
    ap (λ b. b && spec.has_value doc y (codes "id") (λ value. bytes_eq value q)) e
    ∙ sym (any_kept (is_attribute_of doc y (codes "id")) (λ z. bytes_eq (row doc z).text q) (rows doc)) ∙ ap (list_any (λ z. bytes_eq (row doc z).text q)) h ∙ at o
  where
    or_none : (b : Bool) → (b || false) ≡ b
    or_none true = refl
    or_none false = refl

    at : (o : Option ℕ) → list_any (λ z. bytes_eq (row doc z).text q) (option_to_list o) ≡ is_value doc o q
    at None = refl
    at (Some z) = or_none (bytes_eq (row doc z).text q)

pub no_value : (doc : Document) (q : List ℕ) (y : ℕ) → is_element doc y ≡ false → has_id doc q y ≡ false
no_value doc q y e = ap (λ b. b && spec.has_value doc y (codes "id") (λ value. bytes_eq value q)) e
