-- Where an attribute or a text may come.
use Rattle.std.proofs.Common.{◌≡◌, ℕ, zero, suc, ◌-◌, ◌<◌, List, [], ◌∷◌, ◌++◌, length, Bool, true, false, ◌&&◌, cond, sym, refl, ◌∙◌, ap, subst, arith, eqb, lt-ltb, inl, inr}
use Rattle.std.specs.Prelude.{◌≢◌}
use Rattle.std.proofs.lemmas.Bool.{and_parts, and_from, not-true, false_from_ne_true, both_ways, not_from_false, or_left, eq-eqb, cases_lt}
use Rattle.std.proofs.lemmas.List.{length_push}
use Rattle.doc_model.specs.declared.Kind.TheVariants.{Element, Attribute, Text}
use Rattle.doc_model.specs.Document.{Row, Document, row, is_attribute, is_text_kind, IsLastChildBefore, IsDocument}
use Rattle.doc_model.specs.Growing.{Growing, innermost, element_row, with_element, AwaitsAttr, AwaitsText, IsGrowing}
use Rattle.doc_model.specs.inner.LastChild.{is_child, ends_in_text}
use Rattle.doc_model.proofs.Below.{small}
use Rattle.doc_model.proofs.Grown.{pushed_same, pushed_row}

none : (p : ℕ) (b : Bool) (rs : List Row) → ((z : ℕ) → z < length rs → is_child p (row rs z) ≡ false) → ends_in_text p b rs ≡ b
none p b [] h = refl
none p b (r ∷ rs) h = ap (λ c. ends_in_text p (cond c (is_text_kind r.kind) b) rs) (h 0 (omega arith)) ∙ none p b rs (λ z l. h (suc z) (omega arith))

last_is : (p : ℕ) (b : Bool) (rs : List Row) (y : ℕ) → y < length rs → is_child p (row rs y) ≡ true → ((z : ℕ) → y < z → z < length rs → is_child p (row rs z) ≡ false) → ends_in_text p b rs ≡ is_text_kind (row rs y).kind
last_is p b [] y l h k = absurd (omega arith)
last_is p b (r ∷ rs) zero l h k = ap (λ c. ends_in_text p (cond c (is_text_kind r.kind) b) rs) h ∙ none p (is_text_kind r.kind) rs (λ z m. k (suc z) (omega arith) (omega arith))
last_is p b (r ∷ rs) (suc y) l h k = last_is p (cond (is_child p r) (is_text_kind r.kind) b) rs y (omega arith) h (λ z m n. k (suc z) (omega arith) (omega arith))

-- where the rows do not end in a text, the last child is no text, as the definition of documents says it
pub no_text : (doc : Document) (p : ℕ) → ends_in_text p false doc ≡ false → (y : ℕ) → IsLastChildBefore doc p (length doc) y → (row doc y).kind ≢ Text
no_text doc p h y last text =
    let child = and_parts _ _ last.0 in
    let others : ((z : ℕ) → y < z → z < length doc → is_child p (row doc z) ≡ false) =
    (λ z l m. false_from_ne_true _ (λ c. let two = and_parts _ _ c in omega (arith, l, last.3 z (and_from _ _ (lt-ltb 0 z (omega (arith, l))) two.0) (not-true _ two.1) m))) in
    both_ways _ h (last_is p false doc y last.2 (and_from _ _ child.1 (not_from_false _ last.1)) others ∙ ap is_text_kind text)

-- where the rows do not end in a text below it, the innermost open element awaits one
pub awaits_text : (g : Growing) → g.open_rows ≢ [] → ends_in_text (innermost g.open_rows) false g.rows ≡ false → AwaitsText g
awaits_text g some h = record { opened = some; calm = no_text g.rows (innermost g.open_rows) h }

-- no row has a parent past the rows
within_rows : (doc : Document) (k : ℕ) → IsDocument doc → k < length doc → (row doc k).parent < length doc
within_rows doc zero d l = omega (arith, d.some, ap (λ (r : Row). r.parent) d.root)
within_rows doc (suc k) d l = let up : (row doc (suc k)).parent < suc k = small doc d (suc k) (omega arith) in omega arith

-- directly after an element any attribute may come
pub awaits_first_attr : (g : Growing) (name wanted : List ℕ) → IsGrowing g → AwaitsAttr (with_element g name) wanted
awaits_first_attr g name wanted w =
    let r = element_row (innermost g.open_rows) name in
    let doc = g.rows ++ r ∷ [] in
    let last : length g.rows ≡ length doc - 1 = omega (arith, length_push g.rows r) in
    record {
      opened = λ h. cc;
      follows = or_left (eqb (length g.rows) (length doc - 1)) (is_attribute doc (length doc - 1) && eqb (row doc (length doc - 1)).parent (length g.rows)) (eq-eqb _ _ last);
      new = λ k l a p n. elim (cases_lt k (length g.rows)) [
        | inl h ↦ (let here : (row g.rows k).parent ≡ length g.rows = sym (ap (λ (s : Row). s.parent) (pushed_same g.rows r k h)) ∙ p in omega (arith, within_rows g.rows k w.document h))
        | inr h ↦ (
            let here : length g.rows ≡ k = omega (arith, l, length_push g.rows r) in
            let kind : Element ≡ Attribute = sym (ap (λ (s : Row). s.kind) (pushed_row g.rows r)) ∙ subst (λ v. (row doc v).kind ≡ Attribute) (sym here) a in
            cc
            )
      ];
    }
