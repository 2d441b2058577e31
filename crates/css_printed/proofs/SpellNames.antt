-- The names of elements and attributes in printed texts.
use Rattle.std.proofs.Common.{◌≡◌, refl, ℕ, suc, true, false, List, [], ◌∷◌, ◌++◌, map, Option, Some, None, codes, arith}
use Rattle.std.specs.Prelude.{encode_utf8_all}
use Rattle.std.specs.Char.{to_ascii_lowercase}
use Rattle.std.proofs.lemmas.Bool.{and_parts, and_from}
use Rattle.std.proofs.lemmas.Bool.Decides.{nat_tests}
use lib.Utf8.{scalar, scalars}
use Rattle.doc_model.specs.declared.Axis.TheVariants as axis
use Rattle.css_selectors.specs.declared.selector.Dialect.{Dialect}
use Rattle.css_selectors.specs.declared.selector.Dialect.TheVariants.{Generic, Html}
use Rattle.css_meaning.specs.Names.{folded}
use Rattle.xpath_parser.specs.declared.term.Term.TheVariants as t
use Rattle.xpath_parser.specs.Terms.{axis_names, function_names, node_type_names, operator_names}
use Rattle.css_printed.specs.Literals.{literal_text}
use Rattle.css_printed.specs.Names.{is_plain, name_bytes, name_bracket, element_text, attribute_text}
use Rattle.css_selectors.specs.Texts as texts
use Rattle.css_selectors.specs.Texts.{IsText}
use Rattle.css_printed.proofs.Pieces.{name_says}
use Rattle.css_printed.proofs.SpellFixed.{Puts, Piece, ◌⨾◌, fix, choose_puts}
use Rattle.css_printed.proofs.SpellLiterals.{literal_puts}
use Rattle.css_printed.proofs.TemplateTerms as terms

-- ---- lower case

lower_scalar : (c : ℕ) → scalar c ≡ true → scalar (to_ascii_lowercase c) ≡ true
lower_scalar c h = grind (arith, nat_tests)

pub lower_text : (x : List ℕ) → IsText x → IsText (map to_ascii_lowercase x)
lower_text [] h = refl
lower_text (c ∷ x) h = let p = and_parts (scalar c) (scalars x) h in and_from _ _ (lower_scalar c p.0) (lower_text x p.1)

pub folded_text : (d : Dialect) (n : List ℕ) → IsText n → IsText (folded d n)
folded_text Generic n h = h
folded_text Html n h = lower_text n h

-- ---- literals as pieces

-- the literal of a text
abbrev pub literal_piece : {r : ℕ} (x : List ℕ) → IsText x → Piece (suc r) false (suc r) true
literal_piece {r = r} x h = record { text = literal_text (encode_utf8_all x); terms = terms.literal x; puts = literal_puts r x h }

-- ---- names

-- a name, where there is one, is a text
abbrev pub IsElementText : Option (List ℕ) → Type 0
IsElementText el = texts.element_text el ≡ true

plain_name : (r : ℕ) (d : Dialect) (n : List ℕ) → is_plain (folded d n) ≡ true → Puts r false r true (name_bytes d n) (t.Name (folded d n) ∷ [])
plain_name r d n h rest us short b = name_says r d n h rest us b

bracket_puts : (r : ℕ) (d : Dialect) (n : List ℕ) → IsText n → Puts (suc (suc r)) true (suc (suc r)) true (name_bracket d n) (terms.name_bracket (folded d n))
unfolding axis_names function_names node_type_names operator_names
bracket_puts r d n h =
    let all : Piece (suc (suc r)) true (suc (suc r)) true =
    fix (codes "[name() = ") (λ rest. refl) refl ⨾ literal_piece (folded d n) (folded_text d n h) ⨾ fix (codes "]") (λ rest. refl) refl in all.puts

abbrev bracket_piece : {r : ℕ} (d : Dialect) (n : List ℕ) → IsText n → Piece (suc (suc r)) true (suc (suc r)) true
bracket_piece {r = r} d n h = record { text = name_bracket d n; terms = terms.name_bracket (folded d n); puts = bracket_puts r d n h }

odd_element : (r : ℕ) (d : Dialect) (n : List ℕ) → IsText n → Puts (suc (suc r)) false (suc (suc r)) true (codes "*" ++ name_bracket d n) (t.AnyName ∷ terms.name_bracket (folded d n))
unfolding axis_names function_names node_type_names operator_names
odd_element r d n h =
    let all : Piece (suc (suc r)) false (suc (suc r)) true = fix (codes "*") (λ rest. refl) refl ⨾ bracket_piece d n h in all.puts

any_element : (r : ℕ) → Puts r false r true (codes "*") (t.AnyName ∷ [])
unfolding axis_names function_names node_type_names operator_names
any_element r = let all : Piece r false r true = fix (codes "*") (λ rest. refl) refl in all.puts

pub element_puts : (r : ℕ) (d : Dialect) (el : Option (List ℕ)) → IsElementText el → Puts (suc (suc r)) false (suc (suc r)) true (element_text d el) (terms.element d el)
element_puts r d None h = any_element (suc (suc r))
element_puts r d (Some n) h =
    choose_puts (suc (suc r)) false (suc (suc r)) true (is_plain (folded d n)) (name_bytes d n) (codes "*" ++ name_bracket d n) (t.Name (folded d n) ∷ []) (t.AnyName ∷ terms.name_bracket (folded d n))
    (λ e. plain_name (suc (suc r)) d n e) (λ e. odd_element r d n h)

abbrev pub element_piece : {r : ℕ} (d : Dialect) (el : Option (List ℕ)) → IsElementText el → Piece (suc (suc r)) false (suc (suc r)) true
element_piece {r = r} d el h = record { text = element_text d el; terms = terms.element d el; puts = element_puts r d el h }

-- ---- attributes

plain_attribute : (r : ℕ) (d : Dialect) (n : List ℕ) → is_plain (folded d n) ≡ true → Puts r false r true (codes "@" ++ name_bytes d n) (t.At ∷ t.Name (folded d n) ∷ [])
unfolding axis_names function_names node_type_names operator_names
plain_attribute r d n h =
    let name : Piece r false r true = record { text = name_bytes d n; terms = t.Name (folded d n) ∷ []; puts = plain_name r d n h } in
    let all : Piece r false r true = fix (codes "@") (λ rest. refl) refl ⨾ name in all.puts

odd_attribute : (r : ℕ) (d : Dialect) (n : List ℕ) → IsText n
    → Puts (suc (suc r)) false (suc (suc r)) true (codes "attribute::*" ++ name_bracket d n) (terms.on_axis axis.Attribute (t.AnyName ∷ terms.name_bracket (folded d n)))
unfolding axis_names function_names node_type_names operator_names
odd_attribute r d n h =
    let all : Piece (suc (suc r)) false (suc (suc r)) true = fix (codes "attribute::*") (λ rest. refl) refl ⨾ bracket_piece d n h in all.puts

pub attribute_puts : (r : ℕ) (d : Dialect) (n : List ℕ) → IsText n → Puts (suc (suc r)) false (suc (suc r)) true (attribute_text d n) (terms.attribute d n)
attribute_puts r d n h =
    choose_puts (suc (suc r)) false (suc (suc r)) true (is_plain (folded d n)) (codes "@" ++ name_bytes d n) (codes "attribute::*" ++ name_bracket d n)
    (t.At ∷ t.Name (folded d n) ∷ []) (terms.on_axis axis.Attribute (t.AnyName ∷ terms.name_bracket (folded d n)))
    (λ e. plain_attribute (suc (suc r)) d n e) (λ e. odd_attribute r d n h)
