-- How the step of a part begins in a printed text, and what stands behind a `/`.
use Rattle.std.proofs.Common.{◌≡◌, refl, sym, subst, ℕ, suc, Bool, true, false, cond, List, [], ◌∷◌, ◌++◌, codes, Option, Some, None, ◌==◌, arith}
use Rattle.std.specs.Prelude.{◌≢◌}
use Rattle.std.specs.List.{list_all}
use Rattle.std.specs.Str.{chars}
use Rattle.std.proofs.lemmas.Bool.{and_parts}
use Rattle.std.proofs.lemmas.Bool.Decides.{nat_tests}
use Rattle.css_selectors.specs.declared.selector.Dialect.{Dialect}
use Rattle.css_selectors.specs.declared.selector.Link.{Link}
use Rattle.css_selectors.specs.declared.selector.Link.TheVariants as link
use Rattle.css_meaning.specs.Names.{folded}
use Rattle.xpath_lexer.specs.Tokens.{Text}
use Rattle.xpath_parser.specs.declared.term.Term.{Term}
use Rattle.xpath_parser.specs.declared.term.Term.TheVariants as t
use Rattle.xpath_parser.specs.Terms.{axis_names, function_names, node_type_names, operator_names}
use Rattle.css_printed.specs.Links.{next_text, first_text, step_text}
use Rattle.css_printed.specs.Names.{is_plain, is_plain_start, is_plain_char, name_bytes, name_bracket, element_text, attribute_text}
use Rattle.css_printed.proofs.Pieces.{NoSlash, slash}
use Rattle.css_printed.proofs.PlainNames.{plain_bytes}
use Rattle.css_printed.proofs.SpellFixed.{Puts, Piece, ◌⨾◌, fix, nothing_puts}
use Rattle.css_printed.proofs.SpellNames.{IsElementText, element_puts, element_piece}
use Rattle.css_printed.proofs.SpellTests.{eight, self_puts}
use Rattle.css_printed.proofs.TemplateTerms as terms

-- ---- what is not behind a `/`

start_no_slash : (c : ℕ) → is_plain_start c ≡ true → (c == 47) ≡ false
start_no_slash c h = grind (arith, nat_tests)

plain_no_slash : (m rest : Text) → is_plain m ≡ true → NoSlash (m ++ rest)
plain_no_slash [] rest h = cc
plain_no_slash (c ∷ m) rest h = start_no_slash c (and_parts (is_plain_start c) (list_all is_plain_char m) h).0

name_no_slash : (d : Dialect) (n : List ℕ) (rest : Text) → is_plain (folded d n) ≡ true → NoSlash (name_bytes d n ++ rest)
name_no_slash d n rest h = let P : Text → Type 0 = λ m. NoSlash (m ++ rest) in subst P (sym (plain_bytes d n h)) (plain_no_slash (folded d n) rest h)

either_no_slash : (b : Bool) (x y rest : Text) → (b ≡ true → NoSlash (x ++ rest)) → NoSlash (y ++ rest) → NoSlash (cond b x y ++ rest)
either_no_slash true x y rest f g = f refl
either_no_slash false x y rest f g = g

element_no_slash : (d : Dialect) (el : Option (List ℕ)) (rest : Text) → NoSlash (element_text d el ++ rest)
element_no_slash d None rest = refl
element_no_slash d (Some n) rest = either_no_slash (is_plain (folded d n)) (name_bytes d n) (codes "*" ++ name_bracket d n) rest (name_no_slash d n rest) refl

pub attribute_no_slash : (d : Dialect) (n : List ℕ) (rest : Text) → NoSlash (attribute_text d n ++ rest)
attribute_no_slash d n rest = either_no_slash (is_plain (folded d n)) (codes "@" ++ name_bytes d n) (codes "attribute::*" ++ name_bracket d n) rest (λ e. refl) refl

pub slash_puts : (r : ℕ) (x : Text) (ts : List Term) → ((rest : Text) → NoSlash (x ++ rest)) → Puts r false r true x ts → Puts r true r true (codes "/" ++ x) (t.Slash ∷ ts)
slash_puts r x ts free p rest us short b = slash r (free rest) (p rest us (omega (arith, short)) b)

-- ---- axes and elements

next_puts : (d : Dialect) (el : Option (List ℕ)) → IsElementText el → (r : ℕ) → Puts (eight r) true (eight r) true (next_text d el) (terms.next_terms d el)
next_puts d None h r = nothing_puts (eight r) true
next_puts d (Some n) h r = self_puts (element_text d (Some n)) (terms.element d (Some n)) (λ r'. element_puts r' d (Some n) h) (suc (suc r))

-- where no other step stands before it
pub first_puts : (d : Dialect) (l : Link) (el : Option (List ℕ)) → IsElementText el → (r : ℕ) → Puts (eight r) false (eight r) true (first_text d l el) (terms.first_terms d l el)
unfolding axis_names function_names node_type_names operator_names chars
first_puts d link.First el h r = let all : Piece (eight r) false (eight r) true = fix (codes "descendant-or-self::") (λ rest. refl) refl ⨾ element_piece d el h in all.puts
first_puts d link.Descendant el h r = let all : Piece (eight r) false (eight r) true = fix (codes "descendant::") (λ rest. refl) refl ⨾ element_piece d el h in all.puts
first_puts d link.Child el h r = let all : Piece (eight r) false (eight r) true = fix (codes "child::") (λ rest. refl) refl ⨾ element_piece d el h in all.puts
first_puts d link.Next el h r =
    let more : Piece (eight r) true (eight r) true = record { text = next_text d el; terms = terms.next_terms d el; puts = next_puts d el h r } in
    let all : Piece (eight r) false (eight r) true = fix (codes "following-sibling::*[1]") (λ rest. refl) refl ⨾ more in all.puts
first_puts d link.Later el h r = let all : Piece (eight r) false (eight r) true = fix (codes "following-sibling::") (λ rest. refl) refl ⨾ element_piece d el h in all.puts

-- behind another step
pub further_puts : (d : Dialect) (l : Link) (el : Option (List ℕ)) → l ≢ link.First → IsElementText el → (r : ℕ)
    → Puts (eight r) true (eight r) true (step_text d l el) (t.Slash ∷ terms.link_step_terms d l el)
further_puts d link.First el k h r = absurd (k refl)
further_puts d link.Descendant el k h r = slash_puts (eight r) (first_text d link.Descendant el) (terms.first_terms d link.Descendant el) (λ rest. refl) (first_puts d link.Descendant el h r)
further_puts d link.Child el k h r = slash_puts (eight r) (element_text d el) (terms.element d el) (element_no_slash d el) (element_puts (suc (suc (suc (suc (suc (suc r)))))) d el h)
further_puts d link.Next el k h r = slash_puts (eight r) (first_text d link.Next el) (terms.first_terms d link.Next el) (λ rest. refl) (first_puts d link.Next el h r)
further_puts d link.Later el k h r = slash_puts (eight r) (first_text d link.Later el) (terms.first_terms d link.Later el) (λ rest. refl) (first_puts d link.Later el h r)
