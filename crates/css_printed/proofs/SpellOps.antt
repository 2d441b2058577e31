-- The tests on an attribute's value in printed texts.
use Rattle.std.proofs.Common.{refl, ℕ, suc, ◌≤◌, true, false, List, [], ◌∷◌, ◌++◌, length, length-append, codes, append_assoc, arith}
use Rattle.std.specs.Fmt.{decimal}
use Rattle.std.specs.Str.{chars}
use Rattle.xpath_lexer.specs.Tokens.{Text}
use Rattle.xpath_parser.specs.declared.expression.Func.TheVariants as f
use Rattle.xpath_parser.specs.declared.term.Term.{Term}
use Rattle.xpath_parser.specs.declared.term.Term.TheVariants as t
use Rattle.xpath_parser.specs.Terms.{axis_names, function_names, node_type_names, operator_names}
use Rattle.css_printed.specs.Simples.{nowhere}
use Rattle.css_printed.proofs.SpellFixed.{Puts, Piece, ◌⨾◌, fix, said}
use Rattle.css_printed.proofs.SpellNumbers.{number_puts}
use Rattle.css_printed.proofs.TemplateTerms as terms

-- room for six brackets
abbrev pub six : ℕ → ℕ
six r = suc (suc (suc (suc (suc (suc r)))))

pub nowhere_puts : (r : ℕ) → Puts (suc r) true (suc r) true nowhere terms.nowhere
unfolding axis_names function_names node_type_names operator_names chars
nowhere_puts r = let all : Piece (suc r) true (suc r) true = fix (codes "[0]") (λ rest. refl) refl in all.puts

-- an attribute and literals
module _ (attr lit lit2 : Text) (at l l2 : List Term) (attr_puts : (r : ℕ) → Puts (suc (suc r)) false (suc (suc r)) true attr at)
    (lit_puts : (r : ℕ) → Puts (suc r) false (suc r) true lit l) (lit2_puts : (r : ℕ) → Puts (suc r) false (suc r) true lit2 l2) where
  abbrev attribute : {r : ℕ} → Piece (suc (suc r)) false (suc (suc r)) true
  attribute {r = r} = record { text = attr; terms = at; puts = attr_puts r }

  abbrev literal : {r : ℕ} → Piece (suc r) false (suc r) true
  literal {r = r} = record { text = lit; terms = l; puts = lit_puts r }

  abbrev literal2 : {r : ℕ} → Piece (suc r) false (suc r) true
  literal2 {r = r} = record { text = lit2; terms = l2; puts = lit2_puts r }

  pub exists_puts : (r : ℕ) → Puts (six r) true (six r) true (codes "[" ++ (attr ++ codes "]")) (terms.in_square at)
  unfolding axis_names function_names node_type_names operator_names chars
  exists_puts r =
      let all : Piece (six r) true (six r) true = fix (codes "[") (λ rest. refl) refl ⨾ attribute ⨾ fix (codes "]") (λ rest. refl) refl in
      said all (terms.in_square at) refl

  pub equals_puts : (r : ℕ) → Puts (six r) true (six r) true (codes "[" ++ (attr ++ (codes " = " ++ (lit ++ codes "]")))) (terms.in_square (at ++ (t.Equal ∷ l)))
  unfolding axis_names function_names node_type_names operator_names chars
  equals_puts r =
      let all : Piece (six r) true (six r) true =
      fix (codes "[") (λ rest. refl) refl ⨾ attribute ⨾ fix (codes " = ") (λ rest. refl) refl ⨾ literal ⨾ fix (codes "]") (λ rest. refl) refl in
      said all (terms.in_square (at ++ (t.Equal ∷ l))) (simp append_assoc refl)

  pub word_puts : (r : ℕ) → Puts (six r) true (six r) true
      (codes "[" ++ (attr ++ (codes " and contains(concat(' ', normalize-space(" ++ (attr ++ (codes "), ' '), " ++ (lit ++ codes ")]"))))))
      (terms.in_square (at ++ (t.And ∷ terms.call f.Contains
      (terms.call f.Concat (terms.literal (codes " ") ++ (t.Comma ∷ (terms.call f.NormalizeSpace at ++ (t.Comma ∷ terms.literal (codes " "))))) ++ (t.Comma ∷ l)))))
  unfolding axis_names function_names node_type_names operator_names chars
  word_puts r =
      let all : Piece (six r) true (six r) true =
      fix (codes "[") (λ rest. refl) refl ⨾ attribute ⨾ fix (codes " and contains(concat(' ', normalize-space(") (λ rest. refl) refl ⨾ attribute
      ⨾ fix (codes "), ' '), ") (λ rest. refl) refl ⨾ literal ⨾ fix (codes ")]") (λ rest. refl) refl in
      said all (terms.in_square (at ++ (t.And ∷ terms.call f.Contains
      (terms.call f.Concat (terms.literal (codes " ") ++ (t.Comma ∷ (terms.call f.NormalizeSpace at ++ (t.Comma ∷ terms.literal (codes " "))))) ++ (t.Comma ∷ l)))))
      (simp append_assoc refl)

  pub dash_puts : (r : ℕ) → Puts (six r) true (six r) true
      (codes "[" ++ (attr ++ (codes " and (" ++ (attr ++ (codes " = " ++ (lit ++ (codes " or starts-with(" ++ (attr ++ (codes ", " ++ (lit2 ++ codes "))]"))))))))))
      (terms.in_square (at ++ (t.And ∷ terms.in_round (at ++ (t.Equal ∷ (l ++ (t.Or ∷ terms.call f.StartsWith (at ++ (t.Comma ∷ l2)))))))))
  unfolding axis_names function_names node_type_names operator_names chars
  dash_puts r =
      let all : Piece (six r) true (six r) true =
      fix (codes "[") (λ rest. refl) refl ⨾ attribute ⨾ fix (codes " and (") (λ rest. refl) refl ⨾ attribute ⨾ fix (codes " = ") (λ rest. refl) refl ⨾ literal
      ⨾ fix (codes " or starts-with(") (λ rest. refl) refl ⨾ attribute ⨾ fix (codes ", ") (λ rest. refl) refl ⨾ literal2 ⨾ fix (codes "))]") (λ rest. refl) refl in
      said all (terms.in_square (at ++ (t.And ∷ terms.in_round (at ++ (t.Equal ∷ (l ++ (t.Or ∷ terms.call f.StartsWith (at ++ (t.Comma ∷ l2)))))))))
      (simp append_assoc refl)

  pub prefix_puts : (r : ℕ) → Puts (six r) true (six r) true (codes "[" ++ (attr ++ (codes " and starts-with(" ++ (attr ++ (codes ", " ++ (lit ++ codes ")]"))))))
      (terms.in_square (at ++ (t.And ∷ terms.call f.StartsWith (at ++ (t.Comma ∷ l)))))
  unfolding axis_names function_names node_type_names operator_names chars
  prefix_puts r =
      let all : Piece (six r) true (six r) true =
      fix (codes "[") (λ rest. refl) refl ⨾ attribute ⨾ fix (codes " and starts-with(") (λ rest. refl) refl ⨾ attribute ⨾ fix (codes ", ") (λ rest. refl) refl ⨾ literal
      ⨾ fix (codes ")]") (λ rest. refl) refl in
      said all (terms.in_square (at ++ (t.And ∷ terms.call f.StartsWith (at ++ (t.Comma ∷ l))))) (simp append_assoc refl)

  pub substring_puts : (r : ℕ) → Puts (six r) true (six r) true (codes "[" ++ (attr ++ (codes " and contains(" ++ (attr ++ (codes ", " ++ (lit ++ codes ")]"))))))
      (terms.in_square (at ++ (t.And ∷ terms.call f.Contains (at ++ (t.Comma ∷ l)))))
  unfolding axis_names function_names node_type_names operator_names chars
  substring_puts r =
      let all : Piece (six r) true (six r) true =
      fix (codes "[") (λ rest. refl) refl ⨾ attribute ⨾ fix (codes " and contains(") (λ rest. refl) refl ⨾ attribute ⨾ fix (codes ", ") (λ rest. refl) refl ⨾ literal
      ⨾ fix (codes ")]") (λ rest. refl) refl in
      said all (terms.in_square (at ++ (t.And ∷ terms.call f.Contains (at ++ (t.Comma ∷ l))))) (simp append_assoc refl)

  -- the number is no more than the literal is long
  counted_end : (n : ℕ) → n ≤ length lit → (r : ℕ)
      → Puts (suc (suc r)) false (suc (suc (suc (suc r)))) true (decimal n ++ (codes ") = " ++ (lit ++ codes "]"))) (terms.number n ∷ t.CloseRound ∷ t.Equal ∷ (l ++ (t.CloseSquare ∷ [])))
  unfolding axis_names function_names node_type_names operator_names chars
  counted_end n long r rest us short b =
      let small : n ≤ 9007199254740991 =
      omega (arith, short, long, length-append (decimal n ++ (codes ") = " ++ (lit ++ codes "]"))) rest, length-append (decimal n) (codes ") = " ++ (lit ++ codes "]")), length-append lit (codes "]")) in
      let count : Piece (suc (suc r)) false (suc (suc r)) true = record { text = decimal n; terms = terms.number n ∷ []; puts = number_puts (suc (suc r)) n small } in
      let all : Piece (suc (suc r)) false (suc (suc (suc (suc r)))) true = count ⨾ fix (codes ") = ") (λ rest. refl) refl ⨾ literal ⨾ fix (codes "]") (λ rest. refl) refl in
      all.puts rest us short b

  pub suffix_puts : (n : ℕ) → n ≤ length lit → (r : ℕ) → Puts (six r) true (six r) true
      (codes "[" ++ (attr ++ (codes " and substring(" ++ (attr ++ (codes ", string-length(" ++ (attr ++ (codes ") - " ++ (decimal n ++ (codes ") = " ++ (lit ++ codes "]"))))))))))
      (terms.in_square (at ++ (t.And ∷ (terms.call f.Substring (at ++ (t.Comma ∷ (terms.call f.StringLength at ++ (t.Minus ∷ terms.number n ∷ [])))) ++ (t.Equal ∷ l)))))
  unfolding axis_names function_names node_type_names operator_names chars
  suffix_puts n long r =
      let end : Piece (suc (suc (suc (suc r)))) false (six r) true =
      record { text = decimal n ++ (codes ") = " ++ (lit ++ codes "]")); terms = terms.number n ∷ t.CloseRound ∷ t.Equal ∷ (l ++ (t.CloseSquare ∷ [])); puts = counted_end n long (suc (suc r)) } in
      let all : Piece (six r) true (six r) true =
      fix (codes "[") (λ rest. refl) refl ⨾ attribute ⨾ fix (codes " and substring(") (λ rest. refl) refl ⨾ attribute ⨾ fix (codes ", string-length(") (λ rest. refl) refl ⨾ attribute
      ⨾ fix (codes ") - ") (λ rest. refl) refl ⨾ end in
      said all (terms.in_square (at ++ (t.And ∷ (terms.call f.Substring (at ++ (t.Comma ∷ (terms.call f.StringLength at ++ (t.Minus ∷ terms.number n ∷ [])))) ++ (t.Equal ∷ l)))))
      (simp append_assoc refl)
