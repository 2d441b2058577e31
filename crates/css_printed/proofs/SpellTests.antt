-- The tests that hold no selectors in printed texts, plainly and negated.
use Rattle.std.proofs.Common.{refl, ℕ, suc, true, false, List, ◌∷◌, ◌++◌, codes, append_assoc}
use Rattle.std.specs.Str.{chars}
use Rattle.doc_model.specs.declared.Axis.TheVariants as axis
use Rattle.xpath_lexer.specs.Tokens.{Text}
use Rattle.xpath_parser.specs.declared.expression.Func.TheVariants as f
use Rattle.xpath_parser.specs.declared.term.Term.{Term}
use Rattle.xpath_parser.specs.declared.term.Term.TheVariants as t
use Rattle.xpath_parser.specs.Terms.{axis_names, function_names, node_type_names, operator_names}
use Rattle.css_printed.proofs.SpellFixed.{Puts, Piece, ◌⨾◌, fix, said}
use Rattle.css_printed.proofs.SpellOps.{six}
use Rattle.css_printed.proofs.TemplateTerms as terms

-- room for eight brackets
abbrev pub eight : ℕ → ℕ
eight r = six (suc (suc r))

-- ---- a test

-- what is at the row itself
module _ (el : Text) (ts : List Term) (el_puts : (r : ℕ) → Puts (suc (suc r)) false (suc (suc r)) true el ts) where
  pub self_puts : (r : ℕ) → Puts (six r) true (six r) true (codes "[self::" ++ (el ++ codes "]")) (terms.in_square (terms.on_axis axis.OwnSelf ts))
  unfolding axis_names function_names node_type_names operator_names chars
  self_puts r =
      let one : Piece (suc (suc (suc (suc (suc r))))) false (suc (suc (suc (suc (suc r))))) true = record { text = el; terms = ts; puts = el_puts (suc (suc (suc r))) } in
      let all : Piece (six r) true (six r) true = fix (codes "[self::") (λ rest. refl) refl ⨾ one ⨾ fix (codes "]") (λ rest. refl) refl in
      said all (terms.in_square (terms.on_axis axis.OwnSelf ts)) refl

  pub not_self_puts : (r : ℕ) → Puts (eight r) true (eight r) true (codes "[not(self::" ++ (el ++ codes ")]")) (terms.in_square (terms.call f.Not (terms.on_axis axis.OwnSelf ts)))
  unfolding axis_names function_names node_type_names operator_names chars
  not_self_puts r =
      let one : Piece (six r) false (six r) true = record { text = el; terms = ts; puts = el_puts (suc (suc (suc (suc r)))) } in
      let all : Piece (eight r) true (eight r) true = fix (codes "[not(self::") (λ rest. refl) refl ⨾ one ⨾ fix (codes ")]") (λ rest. refl) refl in
      said all (terms.in_square (terms.call f.Not (terms.on_axis axis.OwnSelf ts))) (simp append_assoc refl)

module _ (lit : Text) (l : List Term) (lit_puts : (r : ℕ) → Puts (suc r) false (suc r) true lit l) where
  pub id_puts : (r : ℕ) → Puts (six r) true (six r) true (codes "[@id = " ++ (lit ++ codes "]")) (terms.in_square (terms.plain_attribute (codes "id") ++ (t.Equal ∷ l)))
  unfolding axis_names function_names node_type_names operator_names chars
  id_puts r =
      let one : Piece (suc (suc (suc (suc (suc r))))) false (suc (suc (suc (suc (suc r))))) true = record { text = lit; terms = l; puts = lit_puts (suc (suc (suc (suc r)))) } in
      let all : Piece (six r) true (six r) true = fix (codes "[@id = ") (λ rest. refl) refl ⨾ one ⨾ fix (codes "]") (λ rest. refl) refl in
      said all (terms.in_square (terms.plain_attribute (codes "id") ++ (t.Equal ∷ l))) (simp append_assoc refl)

  pub contains_puts : (r : ℕ) → Puts (six r) true (six r) true (codes "[contains(., " ++ (lit ++ codes ")]")) (terms.in_square (terms.call f.Contains (t.Dot ∷ t.Comma ∷ l)))
  unfolding axis_names function_names node_type_names operator_names chars
  contains_puts r =
      let one : Piece (suc (suc (suc (suc r)))) false (suc (suc (suc (suc r)))) true = record { text = lit; terms = l; puts = lit_puts (suc (suc (suc r))) } in
      let all : Piece (six r) true (six r) true = fix (codes "[contains(., ") (λ rest. refl) refl ⨾ one ⨾ fix (codes ")]") (λ rest. refl) refl in
      said all (terms.in_square (terms.call f.Contains (t.Dot ∷ t.Comma ∷ l))) (simp append_assoc refl)

-- ---- negations

pub not_puts : (x : Text) (ts : List Term) (r : ℕ) → Puts (six r) true (six r) true x ts
    → Puts (eight r) true (eight r) true (codes "[not(self::*" ++ (x ++ codes ")]")) (terms.in_square (terms.call f.Not (terms.on_axis axis.OwnSelf (t.AnyName ∷ ts))))
unfolding axis_names function_names node_type_names operator_names chars
not_puts x ts r p =
    let one : Piece (six r) true (six r) true = record { text = x; terms = ts; puts = p } in
    let all : Piece (eight r) true (eight r) true = fix (codes "[not(self::*") (λ rest. refl) refl ⨾ one ⨾ fix (codes ")]") (λ rest. refl) refl in
    said all (terms.in_square (terms.call f.Not (terms.on_axis axis.OwnSelf (t.AnyName ∷ ts)))) (simp append_assoc refl)
