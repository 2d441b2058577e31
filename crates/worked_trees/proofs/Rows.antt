-- Where pages that are made of steps take attributes, texts and comments.
use Rattle.std.proofs.Common.{◌≡◌, ℕ, Result, Ok, Err, ◌+◌, ◌-◌, ◌<◌, List, [], ◌∷◌, length, true, false, eqb, sym, ◌∙◌, ap, subst, arith, encode_utf8_all}
use Rattle.std.specs.Prelude.{OnOk}
use Rattle.std.specs.Str.{chars, IsUtf8}
use Rattle.std.proofs.lemmas.Bool.{and_parts, both_ways, eqb-true, ltb-true}
use Rattle.std.proofs.lemmas.List.{length_push}
use Rattle.text_base.proofs.Text.{encode-chars}
use Rattle.doc_model.specs.Document.{Row, row, is_attribute, is_attribute_kind}
use Rattle.doc_model.specs.Growing.{Growing, innermost, rest_of, element_row, attr_row, comment_row, with_element, with_attr, with_comment, AwaitsAttr, AwaitsText, IsGrowing}
use Rattle.doc_model.proofs.Awaits.{awaits_first_attr}
use Rattle.doc_model.proofs.Below.{small}
use Rattle.doc_model.proofs.Grown.{pushed_row}

-- a text that is not empty has characters
pub filled : (bytes : List ℕ) → IsUtf8 bytes → eqb (length bytes) 0 ≡ false → chars bytes ≡ [] → ⊥
filled bytes u h e = let none : bytes ≡ [] = sym (encode-chars bytes u) ∙ ap encode_utf8_all e in both_ways _ h (ap (λ (b : List ℕ). eqb (length b) 0) none)

-- below an element with no rows but attributes a text may come
calm : (g : Growing) → IsGrowing g → (g.open_rows ≡ [] → ⊥) → ((y : ℕ) → innermost g.open_rows < y → y < length g.rows → is_attribute g.rows y ≡ true) → AwaitsText g
calm g w some own = record {
  opened = some;
  calm = λ y last text.
      let two = and_parts _ _ last.0 in
      let up : (row g.rows y).parent < y = small g.rows w.document y (ltb-true 0 y two.0) in
      let is : (row g.rows y).parent ≡ innermost g.open_rows = eqb-true _ _ two.1 in
      both_ways _ last.1 (own y (omega arith) last.2);
}

pub awaits_behind_attr : (g known : Growing) (name attr value : List ℕ) → IsGrowing g → g ≡ with_attr (with_element known name) attr value → AwaitsText g
awaits_behind_attr g known name attr value w e =
    let tag = with_element known name in
    let r = attr_row (length known.rows) attr value in
    subst AwaitsText (sym e)
    (calm (with_attr tag attr value) (subst IsGrowing e w) (λ h. cc)
    (λ y l k. let here : length tag.rows ≡ y = omega (arith, l, k, length_push known.rows (element_row (innermost known.open_rows) name), length_push tag.rows r) in
    subst (λ v. is_attribute (with_attr tag attr value).rows v ≡ true) here (ap (λ (s : Row). is_attribute_kind s.kind) (pushed_row tag.rows r))))

pub awaits_attr : (g known : Growing) (name attr : List ℕ) → IsGrowing known → g ≡ with_element known name → AwaitsAttr g attr
awaits_attr g known name attr w e = subst (λ s. AwaitsAttr s attr) (sym e) (awaits_first_attr known name attr w)

pub tagged : (g known : Growing) (name : List ℕ) → g ≡ with_element known name → length g.rows ≡ length known.rows + 1
tagged g known name e = ap (λ (s : Growing). length s.rows) e ∙ length_push known.rows (element_row (innermost known.open_rows) name)

pub commented : (g known : Growing) (text : List ℕ) → g ≡ with_comment known text → length g.rows ≡ length known.rows + 1
commented g known text e = ap (λ (s : Growing). length s.rows) e ∙ length_push known.rows (comment_row (innermost known.open_rows) text)

pub closed : (open_rows : List ℕ) (depth : ℕ) → length open_rows ≡ depth → (depth ≡ 0 → ⊥) → length (rest_of open_rows) ≡ depth - 1
closed [] depth e n = absurd (n (sym e))
closed (x ∷ xs) depth e n = omega arith

pub on_ok : {P Q V E : Type 0} (r : Result V E) → (P → Q) → OnOk r P → OnOk r Q
on_ok (Ok v) f h = f h
on_ok (Err e) f h = h
