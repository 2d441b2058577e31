-- Tables that are filled row by row.
use Rattle.std.proofs.Common.{◌≡◌, subst, inl, inr, refl, sym, ◌∙◌, ap, ℕ, ◌+◌, Bool, true, false, ◌&&◌, cond, List, ◌∷◌, [], ◌++◌, IsUtf8, arith, Option, Some, None, Result, Ok, Err}
use Rattle.std.specs.Prelude.{codes, OnOk, OnErr}
use Rattle.std.specs.Option.{option_map, option_or}
use Rattle.std.specs.List.{range_with_len, find}
use Rattle.std.specs.Str.{chars, bytes_eq}
use Rattle.std.proofs.lemmas.Bool.{and_parts, cases_lt}
use Rattle.std.proofs.lemmas.List.Folds.{find-append}
use Rattle.doc_model.specs.declared.Kind.TheVariants.{Element, Attribute}
use Rattle.doc_model.specs.Document.{Document, row, is_attribute, is_attribute_kind, is_element_kind}
use Rattle.doc_model.proofs.Filters.{upto_more}
use Rattle.doc_model.proofs.Runs.{range_split}
use Rattle.step_index.specs.Named.{is_named, named_before}
use Rattle.step_index.specs.inner.Tables.{gives_id, HasText, HaveTexts}
use Rattle.step_index.proofs.Texts.{key_test, same_literal}

pub on_ok : {A E P Q : Type 0} (r : Result A E) → (P → Q) → OnOk r P → OnOk r Q
on_ok (Ok a) f p = f p
on_ok (Err e) f p = tt

pub on_err_by : {A E P Q : Type 0} (r : Result A E) → (P → Q) → OnErr r P → OnErr r Q
on_err_by (Ok a) f p = tt
on_err_by (Err e) f p = f p

-- ---- names

-- a table `new` has one row more than `old`, under the name of an element
pub named_row : (doc : Document) (y : ℕ) (text : List ℕ) (new old : List ℕ → List ℕ) → IsUtf8 text → chars text ≡ (row doc y).name → (row doc y).kind ≡ Element
    → ((q : List ℕ) → new q ≡ old q ++ cond (bytes_eq q text) (y ∷ []) []) → (q : List ℕ) → IsUtf8 q → new q ≡ old q ++ cond (is_named doc (chars q) y) (y ∷ []) []
named_row doc y text new old u e k h q v =
    h q ∙ ap (λ b. old q ++ cond b (y ∷ []) []) (key_test q text (row doc y).name v u e ∙ sym (ap (λ n. is_element_kind n && bytes_eq (row doc y).name (chars q)) k))

pub named_more : (doc : Document) (name : List ℕ) (y : ℕ) → named_before doc name (y + 1) ≡ named_before doc name y ++ cond (is_named doc name y) (y ∷ []) []
named_more doc name y = upto_more (is_named doc name) y (y + 1) (omega arith) (λ z l k. absurd (omega (arith, l, k)))

-- one row more has its text
pub texts_more : (doc : Document) (b : ℕ) → HaveTexts doc b → HasText doc b → HaveTexts doc (b + 1)
texts_more doc b h last y l = elim (cases_lt y b) [ inl k ↦ h y k | inr k ↦ (let s : b ≡ y = omega (arith, k, l) in subst (HasText doc) s last) ]

-- ---- attributes `id`

pub is_id : (doc : Document) (z : ℕ) (text : List ℕ) (b : Bool) → IsUtf8 text → chars text ≡ (row doc z).name → (row doc z).kind ≡ Attribute → b ≡ bytes_eq text (codes "id")
    → b ≡ (is_attribute doc z && bytes_eq (row doc z).name (codes "id"))
unfolding lib.Utf8.encode chars
is_id doc z text b u e k h =
    h ∙ same_literal text (row doc z).name (105 ∷ 100 ∷ []) u (105 ∷ 100 ∷ [], (refl, refl)) refl e ∙ sym (ap (λ n. is_attribute_kind n && bytes_eq (row doc z).name (codes "id")) k)

-- a table `new` has the parent of an attribute `id` under its value, if there was none
pub id_row : (doc : Document) (z p : ℕ) (text : List ℕ) (new old : List ℕ → Option ℕ) → IsUtf8 text → chars text ≡ (row doc z).text → (is_attribute doc z && bytes_eq (row doc z).name (codes "id")) ≡ true
    → p ≡ (row doc z).parent → ((q : List ℕ) → new q ≡ option_or (old q) (cond (bytes_eq q text) (Some p) None))
    → (q : List ℕ) → IsUtf8 q → new q ≡ option_or (old q) (cond (gives_id doc (chars q) z) (Some (row doc z).parent) None)
id_row doc z p text new old u e k s h q v =
    let two = and_parts _ _ k in
    let same : bytes_eq q text ≡ gives_id doc (chars q) z = key_test q text (row doc z).text v u e ∙ sym (ap (λ b. b && (bytes_eq (row doc z).name (codes "id") && bytes_eq (row doc z).text (chars q))) two.0 ∙ ap (λ b. b && bytes_eq (row doc z).text (chars q)) two.1) in
    h q ∙ ap (λ b. option_or (old q) (cond b (Some p) None)) same ∙ ap (λ n. option_or (old q) (cond (gives_id doc (chars q) z) (Some n) None)) s

mapped_or : {A B : Type 0} (f : A → B) (x y : Option A) → option_map f (option_or x y) ≡ option_or (option_map f x) (option_map f y)
mapped_or f (Some x) y = refl
mapped_or f None y = refl

one_found : (f : ℕ → ℕ) (y : ℕ) (b : Bool) → option_map f (cond b (Some y) None) ≡ cond b (Some (f y)) None
one_found f y true = refl
one_found f y false = refl

pub find_more : (p : ℕ → Bool) (f : ℕ → ℕ) (y : ℕ) → option_map f (find p (range_with_len 0 (y + 1))) ≡ option_or (option_map f (find p (range_with_len 0 y))) (cond (p y) (Some (f y)) None)
find_more p f y =
    ap (λ v. option_map f (find p v)) (range_split y 1 0)
    ∙ ap (option_map f) (find-append p (range_with_len 0 y) (range_with_len (0 + y) 1))
    ∙ mapped_or f (find p (range_with_len 0 y)) (find p (range_with_len (0 + y) 1))
    ∙ ap (λ v. option_or (option_map f (find p (range_with_len 0 y))) v) (ap (λ n. option_map f (cond (p n) (Some n) None)) here ∙ one_found f y (p y))
  where
    here : 0 + y ≡ y
    here = omega arith
