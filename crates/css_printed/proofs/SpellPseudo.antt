-- Pseudo-classes and languages in printed texts.
use Rattle.std.proofs.Common.{refl, ℕ, suc, true, false, List, [], ◌∷◌, ◌++◌, map, codes, append_assoc, Option, arith}
use Rattle.std.specs.Prelude.{pos, encode_utf8_all}
use Rattle.std.specs.Char.{to_ascii_lowercase}
use Rattle.std.specs.Str.{chars}
use Rattle.doc_model.specs.declared.Axis.TheVariants as axis
use Rattle.css_selectors.specs.declared.selector.Dialect.{Dialect}
use Rattle.css_selectors.specs.declared.selector.Dialect.TheVariants.{Generic, Html}
use Rattle.css_selectors.specs.declared.selector.Nth.TheVariants as nth
use Rattle.css_selectors.specs.declared.selector.Pseudo.{Pseudo}
use Rattle.css_selectors.specs.declared.selector.Pseudo.TheVariants as pseudo
use Rattle.css_selectors.specs.WellMade.{IsSmall}
use Rattle.xpath_lexer.specs.Tokens.{Text}
use Rattle.xpath_parser.specs.declared.expression.Func.TheVariants as f
use Rattle.xpath_parser.specs.declared.term.Term.{Term}
use Rattle.xpath_parser.specs.declared.term.Term.TheVariants as t
use Rattle.xpath_parser.specs.Terms.{axis_names, function_names, node_type_names, operator_names}
use Rattle.css_printed.specs.Literals.{literal_text}
use Rattle.css_printed.specs.Simples.{nth_text, control_text, html_text, pseudo_text, lang_text}
use Rattle.css_selectors.specs.Texts.{IsText}
use Rattle.css_printed.proofs.SpellConditions.{nth_puts}
use Rattle.css_printed.proofs.SpellFixed.{Puts, Piece, ◌⨾◌, fix, said, then_puts}
use Rattle.css_printed.proofs.SpellLiterals.{literal_puts}
use Rattle.css_printed.proofs.SpellNames.{IsElementText, lower_text}
use Rattle.css_printed.proofs.SpellOps.{six, nowhere_puts}
use Rattle.css_printed.proofs.SpellValues.{dash_literal}
use Rattle.css_printed.proofs.TemplateTerms as terms

-- ---- pseudo-classes

small_zero : IsSmall (pos 0)
small_zero = omega arith

small_one : IsSmall (pos 1)
small_one = omega arith

html_puts : (d : Dialect) (x : Text) (ts : List Term) (r : ℕ) → Puts (six r) true (six r) true x ts → Puts (six r) true (six r) true (html_text d x) (terms.html_only d ts)
html_puts Generic x ts r p = nowhere_puts (suc (suc (suc (suc (suc r)))))
html_puts Html x ts r p = p

empty_puts : (r : ℕ) → Puts (six r) true (six r) true (codes "[not(*) and not(text())]") terms.empty_terms
unfolding axis_names function_names node_type_names operator_names chars
empty_puts r = let all : Piece (six r) true (six r) true = fix (codes "[not(*) and not(text())]") (λ rest. refl) refl in all.puts

root_puts : (r : ℕ) → Puts (six r) true (six r) true (codes "[not(parent::*)]") (terms.in_square (terms.call f.Not (terms.on_axis axis.Parent (t.AnyName ∷ []))))
unfolding axis_names function_names node_type_names operator_names chars
root_puts r = let all : Piece (six r) true (six r) true = fix (codes "[not(parent::*)]") (λ rest. refl) refl in all.puts

link_puts : (r : ℕ) → Puts (six r) true (six r) true (codes "[@href and (self::a or self::area or self::link)]") terms.link_terms
unfolding axis_names function_names node_type_names operator_names chars
link_puts r = let all : Piece (six r) true (six r) true = fix (codes "[@href and (self::a or self::area or self::link)]") (λ rest. refl) refl in all.puts

checked_puts : (r : ℕ) → Puts (six r) true (six r) true (codes "[(@selected and self::option) or (@checked and self::input and (@type = 'checkbox' or @type = 'radio'))]") terms.checked_terms
unfolding axis_names function_names node_type_names operator_names chars
checked_puts r =
    let all : Piece (six r) true (six r) true =
    fix (codes "[(@selected and self::option) or (@checked and self::input and (@type = 'checkbox' or @type = 'radio'))]") (λ rest. refl) refl in all.puts

enabled_puts : (r : ℕ) → Puts (six r) true (six r) true (codes "[not(@disabled) and (" ++ (control_text ++ codes ")]")) terms.enabled_terms
unfolding axis_names function_names node_type_names operator_names chars
enabled_puts r = let all : Piece (six r) true (six r) true = fix (codes "[not(@disabled) and (" ++ (control_text ++ codes ")]")) (λ rest. refl) refl in all.puts

disabled_puts : (r : ℕ) → Puts (six r) true (six r) true (codes "[@disabled and (" ++ (control_text ++ codes ")]")) terms.disabled_terms
unfolding axis_names function_names node_type_names operator_names chars
disabled_puts r = let all : Piece (six r) true (six r) true = fix (codes "[@disabled and (" ++ (control_text ++ codes ")]")) (λ rest. refl) refl in all.puts

pub pseudo_puts : (d : Dialect) (el : Option (List ℕ)) (p : Pseudo) → IsElementText el → (r : ℕ) → Puts (six r) true (six r) true (pseudo_text d el p) (terms.pseudo_terms d el p)
pseudo_puts d el pseudo.OnlyChild h r =
    then_puts (six r) true (six r) true (six r) true (nth_text d el nth.Child (pos 0) (pos 1)) (nth_text d el nth.LastChild (pos 0) (pos 1))
    (terms.nth_terms d el nth.Child (pos 0) (pos 1)) (terms.nth_terms d el nth.LastChild (pos 0) (pos 1))
    (nth_puts d el nth.Child (pos 0) (pos 1) h small_zero small_one r) (nth_puts d el nth.LastChild (pos 0) (pos 1) h small_zero small_one r)
pseudo_puts d el pseudo.OnlyOfType h r =
    then_puts (six r) true (six r) true (six r) true (nth_text d el nth.OfType (pos 0) (pos 1)) (nth_text d el nth.LastOfType (pos 0) (pos 1))
    (terms.nth_terms d el nth.OfType (pos 0) (pos 1)) (terms.nth_terms d el nth.LastOfType (pos 0) (pos 1))
    (nth_puts d el nth.OfType (pos 0) (pos 1) h small_zero small_one r) (nth_puts d el nth.LastOfType (pos 0) (pos 1) h small_zero small_one r)
pseudo_puts d el pseudo.Empty h r = empty_puts r
pseudo_puts d el pseudo.Root h r = root_puts r
pseudo_puts d el pseudo.Never h r = nowhere_puts (suc (suc (suc (suc (suc r)))))
pseudo_puts d el pseudo.Link h r = html_puts d (codes "[@href and (self::a or self::area or self::link)]") terms.link_terms r (link_puts r)
pseudo_puts d el pseudo.Checked h r =
    html_puts d (codes "[(@selected and self::option) or (@checked and self::input and (@type = 'checkbox' or @type = 'radio'))]") terms.checked_terms r (checked_puts r)
pseudo_puts d el pseudo.Enabled h r = html_puts d (codes "[not(@disabled) and (" ++ (control_text ++ codes ")]")) terms.enabled_terms r (enabled_puts r)
pseudo_puts d el pseudo.Disabled h r = html_puts d (codes "[@disabled and (" ++ (control_text ++ codes ")]")) terms.disabled_terms r (disabled_puts r)

-- ---- languages

generic_lang : (lit : Text) (l : List Term) → ((r : ℕ) → Puts (suc r) false (suc r) true lit l) → (r : ℕ)
    → Puts (six r) true (six r) true (codes "[lang(" ++ (lit ++ codes ")]")) (terms.in_square (terms.call f.Lang l))
unfolding axis_names function_names node_type_names operator_names chars
generic_lang lit l p r =
    let one : Piece (suc (suc (suc (suc r)))) false (suc (suc (suc (suc r)))) true = record { text = lit; terms = l; puts = p (suc (suc (suc r))) } in
    let all : Piece (six r) true (six r) true = fix (codes "[lang(") (λ rest. refl) refl ⨾ one ⨾ fix (codes ")]") (λ rest. refl) refl in
    said all (terms.in_square (terms.call f.Lang l)) (simp append_assoc refl)

html_lang : (lit : Text) (x : List ℕ) → ((r : ℕ) → Puts (suc r) false (suc r) true lit (terms.literal (map to_ascii_lowercase x ++ codes "-"))) → (r : ℕ)
    → Puts (six r) true (six r) true
    (codes "[ancestor-or-self::*[@lang][1][starts-with(concat(translate(@lang, 'ABCDEFGHIJKLMNOPQRSTUVWXYZ', 'abcdefghijklmnopqrstuvwxyz'), '-'), " ++ (lit ++ codes ")]]"))
    (terms.lang_terms Html x)
unfolding axis_names function_names node_type_names operator_names chars
html_lang lit x p r =
    let one : Piece (suc (suc (suc r))) false (suc (suc (suc r))) true =
    record { text = lit; terms = terms.literal (map to_ascii_lowercase x ++ codes "-"); puts = p (suc (suc r)) } in
    let all : Piece (six r) true (six r) true =
    fix (codes "[ancestor-or-self::*[@lang][1][starts-with(concat(translate(@lang, 'ABCDEFGHIJKLMNOPQRSTUVWXYZ', 'abcdefghijklmnopqrstuvwxyz'), '-'), ") (λ rest. refl) refl
    ⨾ one ⨾ fix (codes ")]]") (λ rest. refl) refl in
    said all (terms.lang_terms Html x) (simp append_assoc refl)

pub lang_puts : (d : Dialect) (x : List ℕ) → IsText x → (r : ℕ) → Puts (six r) true (six r) true (lang_text d x) (terms.lang_terms d x)
lang_puts Generic x h r = generic_lang (literal_text (encode_utf8_all x)) (terms.literal x) (λ r'. literal_puts r' x h) r
lang_puts Html x h r =
    html_lang (literal_text (encode_utf8_all (map to_ascii_lowercase x) ++ codes "-")) x (dash_literal (map to_ascii_lowercase x) (lower_text x h)) r
