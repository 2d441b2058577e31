-- What the test of a word between spaces gives.
use Rattle.std.proofs.Common.{◌≡◌, refl, sym, ◌∙◌, ap, ℕ, Bool, suc, List, [], ◌∷◌, length, map, get_or, arith}
use Rattle.std.specs.Prelude.{filter}
use Rattle.doc_model.specs.Attributes.{is_attribute_of}
use Rattle.doc_model.specs.Document.{Document, rows}
use Rattle.text_base.specs.Strings.{contains, is_among}
use Rattle.xpath_values.specs.Strings.{words, normalized}
use Rattle.xpath_values.specs.declared.value.Value.TheVariants.{Str, Bool as Truth}
use Rattle.xpath_parser.specs.declared.expression.Expr.{Expr}
use Rattle.xpath_parser.specs.declared.expression.Expr.TheVariants.{Literal}
use Rattle.xpath_parser.specs.declared.expression.Func.TheVariants as f
use Rattle.xpath_parser.specs.Conversions.{text_of, text_of_rows}
use Rattle.xpath_parser.specs.Functions.{Context, called, concat_of}
use Rattle.xpath_parser.specs.Denote.{denote}
use Rattle.xpath_parser.proofs.Equations as eqs
use Rattle.xpath_eval.specs.inner.Words.{IsNormalized, IsSpaced, IsWord, spaced}
use Rattle.xpath_eval.proofs.Sides.{attribute_path}
use Rattle.xpath_eval.proofs.SpacedTexts.{word_between}

pub two_items : {A : Type 0} (xs : List A) (a b : A) → length xs ≡ 2 → a ≡ get_or xs 0 a → b ≡ get_or xs 1 b → xs ≡ a ∷ b ∷ []
two_items {A} [] a b l h k = absurd (let none : length {A = A} [] ≡ 0 = refl in omega (arith, l, none))
two_items (x ∷ []) a b l h k = absurd (let one : length (x ∷ []) ≡ 1 = refl in omega (arith, l, one))
two_items (x ∷ y ∷ []) a b l h k = cc
two_items (x ∷ y ∷ z ∷ zs) a b l h k = absurd (let more : length (x ∷ y ∷ z ∷ zs) ≡ suc (suc (suc (length zs))) = refl in omega (arith, l, more))

module _ (doc : Document) (c : Context) where
  -- the text of the attribute, or the empty text
  abbrev value_text : List ℕ → List ℕ
  value_text name = text_of_rows doc (filter (is_attribute_of doc c.row name) (rows doc))

  normal : (e : Expr) (name : List ℕ) → IsNormalized e name → denote doc e c ≡ Str (normalized (value_text name))
  normal e name is =
      ap (λ v. denote doc v c) is.all ∙ eqs.at_call doc f.NormalizeSpace (is.attribute ∷ []) c
      ∙ ap (λ v. Str (normalized (text_of doc v))) (attribute_path doc is.attribute name c is.is)

  joined : (e : Expr) (name : List ℕ) → IsSpaced e name → denote doc e c ≡ Str (spaced (normalized (value_text name)))
  joined e name is =
      let space = denote doc (Literal (32 ∷ [])) c in
      let spaces = eqs.at_literal doc (32 ∷ []) c in
      ap (λ v. denote doc v c) is.all ∙ eqs.at_call doc f.Concat (Literal (32 ∷ []) ∷ is.inner ∷ Literal (32 ∷ []) ∷ []) c
      ∙ ap (λ v. Str (concat_of doc (v ∷ denote doc is.inner c ∷ space ∷ []))) spaces
      ∙ ap (λ v. Str (concat_of doc (Str (32 ∷ []) ∷ v ∷ space ∷ []))) (normal is.inner name is.is)
      ∙ ap (λ v. Str (concat_of doc (Str (32 ∷ []) ∷ Str (normalized (value_text name)) ∷ v ∷ []))) spaces

  -- the word is one of those of the attribute
  pub told : (es : List Expr) (d e : Expr) (name word : List ℕ) (b : Bool) → es ≡ d ∷ e ∷ [] → IsSpaced d name → e ≡ Literal (spaced word) → IsWord word
      → b ≡ is_among word (words (value_text name)) → called doc f.Contains (map (λ x. denote doc x c) es) c ≡ Truth b
  told es d e name word b all text is w same =
      ap (λ v. called doc f.Contains (map (λ x. denote doc x c) v) c) all
      ∙ ap (λ v. Truth (contains (text_of doc v) (text_of doc (denote doc e c)))) (joined d name text)
      ∙ ap (λ v. Truth (contains (spaced (normalized (value_text name))) (text_of doc v))) (ap (λ x. denote doc x c) is ∙ eqs.at_literal doc (spaced word) c)
      ∙ ap Truth (word_between (value_text name) word w ∙ sym same)
