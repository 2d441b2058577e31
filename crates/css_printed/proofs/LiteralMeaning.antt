-- The literal of a text reads as an expression whose value is the text.
use Rattle.std.proofs.Common.{◌≡◌, subst, sym, ap, ℕ, ◌≤◌, false, List, [], ◌++◌, length, encode_utf8_all, append-nil}
use Rattle.xpath_lexer.specs.Tokens.{Text}
use Rattle.xpath_parser.specs.declared.term.Term.{Term}
use Rattle.xpath_lexer.specs.Places.{most_xpath}
use Rattle.xpath_parser.specs.Shapes.{Typing}
use Rattle.xpath_parser.specs.Terms.{most_open}
use Rattle.css_printed.specs.LiteralLaw.{LiteralLaw}
use Rattle.css_printed.specs.Literals.{literal_text}
use Rattle.css_printed.specs.inner.Predicates as expression
use Rattle.css_selectors.specs.Texts.{IsText}
use Rattle.css_printed.proofs.MeansNames.{at_text}
use Rattle.css_printed.proofs.ReadBack.{spoken_reads}
use Rattle.css_printed.proofs.Readings.{whole}
use Rattle.css_printed.proofs.ReadsNames.{text_reads}
use Rattle.css_printed.proofs.SpellLiterals.{literal_puts}
use Rattle.css_printed.proofs.Spelling.{Spoken, nothing}
use Rattle.css_printed.proofs.TemplateTerms as terms
use Rattle.css_printed.proofs.TypesTests.{text_typed}

spoken : (x : List ℕ) → IsText x → length (literal_text (encode_utf8_all x)) ≤ most_xpath → Spoken most_open false (literal_text (encode_utf8_all x)) (terms.literal x)
spoken x valid short =
    let shown : Text = literal_text (encode_utf8_all x) in
    let same : shown ++ [] ≡ shown = append-nil shown in
    let P : Text → Type 0 = λ t. Spoken most_open false t (terms.literal x) in
    let Q : List Term → Type 0 = λ ts. Spoken most_open false (shown ++ []) ts in
    let L : Text → Type 0 = λ t. length t ≤ most_xpath in
    subst P same (subst Q (append-nil (terms.literal x)) (literal_puts 63 x valid [] [] (subst L (sym same) short) (nothing most_open)))

pub literal_law : LiteralLaw
literal_law x valid short = record {
  expression = expression.literal x;
  reads = spoken_reads (literal_text (encode_utf8_all x)) (terms.literal x) (expression.literal x) short (spoken x valid short) (whole (text_reads x)) (ap (λ (y : Typing). y.right) (text_typed x).is);
  value = λ doc c. at_text doc x c.row c.position c.size;
}
