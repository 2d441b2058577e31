-- The literals of values with more around them, and all tests on an attribute's value.
use Rattle.std.proofs.Common.{refl, subst, ℕ, suc, ◌≤◌, true, false, List, [], ◌∷◌, ◌++◌, length, codes, arith}
use Rattle.std.specs.Prelude.{encode_utf8_all, ◌||◌}
use Rattle.std.specs.Fmt.{decimal}
use Rattle.std.specs.List.{list_any}
use Rattle.std.proofs.lemmas.Bool.{and_parts, and_from}
use Rattle.std.proofs.lemmas.Str.{encodes-append, length-le-encodes}
use lib.Utf8.{scalar, scalars}
use Rattle.text_base.specs.Text.{is_space5}
use Rattle.text_base.specs.Strings.{is_empty}
use Rattle.css_selectors.specs.declared.selector.Op.{Op}
use Rattle.css_selectors.specs.declared.selector.Op.TheVariants as op
use Rattle.xpath_lexer.specs.Tokens.{Text}
use Rattle.xpath_parser.specs.declared.expression.Func.TheVariants as f
use Rattle.xpath_parser.specs.declared.term.Term.{Term}
use Rattle.xpath_parser.specs.declared.term.Term.TheVariants as t
use Rattle.css_printed.specs.Literals.{literal_text}
use Rattle.css_printed.specs.Simples.{behind_first, nowhere, word_text, prefix_text, suffix_text, substring_text, op_text}
use Rattle.css_selectors.specs.Texts.{IsText}
use Rattle.css_printed.proofs.SpellFixed.{Puts, choose_puts}
use Rattle.css_printed.proofs.SpellLiterals.{literal_puts, literal_long}
use Rattle.css_printed.proofs.SpellOps.{six, nowhere_puts, exists_puts, equals_puts, word_puts, dash_puts, prefix_puts, substring_puts, suffix_puts}
use Rattle.css_printed.proofs.TemplateTerms as terms

text_append : (x y : List ℕ) → IsText x → IsText y → IsText (x ++ y)
text_append [] y h g = g
text_append (c ∷ x) y h g = let p = and_parts (scalar c) (scalars x) h in and_from _ _ p.0 (text_append x y p.1 g)

pub dash_literal : (v : List ℕ) → IsText v → (r : ℕ) → Puts (suc r) false (suc r) true (literal_text (encode_utf8_all v ++ codes "-")) (terms.literal (v ++ codes "-"))
unfolding lib.Utf8.encode
dash_literal v h r =
    let P : Text → Type 0 = λ x. Puts (suc r) false (suc r) true (literal_text x) (terms.literal (v ++ codes "-")) in
    subst P (encodes-append v (codes "-")) (literal_puts r (v ++ codes "-") (text_append v (codes "-") h refl))

pub spaced_literal : (v : List ℕ) → IsText v → (r : ℕ)
    → Puts (suc r) false (suc r) true (literal_text (codes " " ++ (encode_utf8_all v ++ codes " "))) (terms.literal (codes " " ++ (v ++ codes " ")))
unfolding lib.Utf8.encode
spaced_literal v h r =
    let P : Text → Type 0 = λ x. Puts (suc r) false (suc r) true (literal_text (codes " " ++ x)) (terms.literal (codes " " ++ (v ++ codes " "))) in
    subst P (encodes-append v (codes " ")) (literal_puts r (codes " " ++ (v ++ codes " ")) (text_append v (codes " ") h refl))

value_long : (v : List ℕ) → behind_first v ≤ length (literal_text (encode_utf8_all v))
value_long v = omega (arith, length-le-encodes v, literal_long (encode_utf8_all v))

-- all tests on the value of an attribute
module _ (attr : Text) (at : List Term) (attr_puts : (r : ℕ) → Puts (suc (suc r)) false (suc (suc r)) true attr at) where
  module _ (v : List ℕ) (h : IsText v) where
    abbrev plain : (r : ℕ) → Puts (suc r) false (suc r) true (literal_text (encode_utf8_all v)) (terms.literal v)
    plain r = literal_puts r v h

    word_op : (r : ℕ) → Puts (six r) true (six r) true (word_text attr v) (terms.word at v)
    word_op r =
        choose_puts (six r) true (six r) true (is_empty v || list_any is_space5 v) nowhere
        (codes "[" ++ (attr ++ (codes " and contains(concat(' ', normalize-space(" ++ (attr ++ (codes "), ' '), " ++ (literal_text (codes " " ++ (encode_utf8_all v ++ codes " ")) ++ codes ")]"))))))
        terms.nowhere
        (terms.in_square (at ++ (t.And ∷ terms.call f.Contains
        (terms.call f.Concat (terms.literal (codes " ") ++ (t.Comma ∷ (terms.call f.NormalizeSpace at ++ (t.Comma ∷ terms.literal (codes " ")))))
        ++ (t.Comma ∷ terms.literal (codes " " ++ (v ++ codes " ")))))))
        (λ e. nowhere_puts (suc (suc (suc (suc (suc r))))))
        (λ e. word_puts attr (literal_text (codes " " ++ (encode_utf8_all v ++ codes " "))) (literal_text (codes " " ++ (encode_utf8_all v ++ codes " "))) at
        (terms.literal (codes " " ++ (v ++ codes " "))) (terms.literal (codes " " ++ (v ++ codes " "))) attr_puts (spaced_literal v h) (spaced_literal v h) r)

    prefix_op : (r : ℕ) → Puts (six r) true (six r) true (prefix_text attr v) (terms.prefix at v)
    prefix_op r =
        choose_puts (six r) true (six r) true (is_empty v) nowhere
        (codes "[" ++ (attr ++ (codes " and starts-with(" ++ (attr ++ (codes ", " ++ (literal_text (encode_utf8_all v) ++ codes ")]"))))))
        terms.nowhere (terms.in_square (at ++ (t.And ∷ terms.call f.StartsWith (at ++ (t.Comma ∷ terms.literal v)))))
        (λ e. nowhere_puts (suc (suc (suc (suc (suc r))))))
        (λ e. prefix_puts attr (literal_text (encode_utf8_all v)) (literal_text (encode_utf8_all v)) at (terms.literal v) (terms.literal v) attr_puts plain plain r)

    substring_op : (r : ℕ) → Puts (six r) true (six r) true (substring_text attr v) (terms.substring at v)
    substring_op r =
        choose_puts (six r) true (six r) true (is_empty v) nowhere
        (codes "[" ++ (attr ++ (codes " and contains(" ++ (attr ++ (codes ", " ++ (literal_text (encode_utf8_all v) ++ codes ")]"))))))
        terms.nowhere (terms.in_square (at ++ (t.And ∷ terms.call f.Contains (at ++ (t.Comma ∷ terms.literal v)))))
        (λ e. nowhere_puts (suc (suc (suc (suc (suc r))))))
        (λ e. substring_puts attr (literal_text (encode_utf8_all v)) (literal_text (encode_utf8_all v)) at (terms.literal v) (terms.literal v) attr_puts plain plain r)

    suffix_op : (r : ℕ) → Puts (six r) true (six r) true (suffix_text attr v) (terms.suffix at v)
    suffix_op r =
        choose_puts (six r) true (six r) true (is_empty v) nowhere
        (codes "[" ++ (attr ++ (codes " and substring(" ++ (attr ++ (codes ", string-length(" ++ (attr ++ (codes ") - " ++
        (decimal (behind_first v) ++ (codes ") = " ++ (literal_text (encode_utf8_all v) ++ codes "]"))))))))))
        terms.nowhere
        (terms.in_square (at ++ (t.And ∷ (terms.call f.Substring (at ++ (t.Comma ∷ (terms.call f.StringLength at ++ (t.Minus ∷ terms.number (behind_first v) ∷ [])))) ++ (t.Equal ∷ terms.literal v)))))
        (λ e. nowhere_puts (suc (suc (suc (suc (suc r))))))
        (λ e. suffix_puts attr (literal_text (encode_utf8_all v)) (literal_text (encode_utf8_all v)) at (terms.literal v) (terms.literal v) attr_puts plain plain (behind_first v) (value_long v) r)

    pub op_puts : (o : Op) (r : ℕ) → Puts (six r) true (six r) true (op_text attr o v) (terms.op_terms at o v)
    op_puts op.Exists r = exists_puts attr (literal_text (encode_utf8_all v)) (literal_text (encode_utf8_all v)) at (terms.literal v) (terms.literal v) attr_puts plain plain r
    op_puts op.Equals r = equals_puts attr (literal_text (encode_utf8_all v)) (literal_text (encode_utf8_all v)) at (terms.literal v) (terms.literal v) attr_puts plain plain r
    op_puts op.Word r = word_op r
    op_puts op.Dash r = dash_puts attr (literal_text (encode_utf8_all v)) (literal_text (encode_utf8_all v ++ codes "-")) at (terms.literal v) (terms.literal (v ++ codes "-")) attr_puts plain (dash_literal v h) r
    op_puts op.Prefix r = prefix_op r
    op_puts op.Suffix r = suffix_op r
    op_puts op.Substring r = substring_op r
