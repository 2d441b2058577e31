-- A spelled text reads as the expression that its terms read as.
use Rattle.std.proofs.Common.{◌≡◌, sym, subst, ◌≤◌, true, false, List, length}
use Rattle.std.specs.List.{list_any}
use Rattle.xpath_lexer.specs.Tokens.{Text}
use Rattle.xpath_parser.specs.declared.expression.Expr.{Expr}
use Rattle.xpath_parser.specs.declared.term.Term.{Term}
use Rattle.xpath_parser.specs.Grammar.{ReadsWhole}
use Rattle.xpath_lexer.specs.Places.{most_xpath}
use Rattle.xpath_parser.specs.Reading.{ReadsAs}
use Rattle.xpath_parser.specs.Shapes.{is_well_typed}
use Rattle.xpath_parser.specs.Terms.{is_refused, most_open}
use Rattle.css_printed.proofs.Rooms.{shallow}
use Rattle.css_printed.proofs.Spelling.{Spoken}

-- all that a reading is made of
pub spoken_reads : (text : Text) (ts : List Term) (x : Expr) → length text ≤ most_xpath → Spoken most_open false text ts → ReadsWhole ts x → is_well_typed x ≡ true → ReadsAs text x
spoken_reads text ts x short s reads typed =
    let P : List Term → Type 0 = λ us. ReadsWhole us x in
    let Q : List Term → Type 0 = λ us. list_any is_refused us ≡ false in
    record {
      short = short;
      lexemes = s.lexemes;
      spelled = s.spelled;
      shallow = shallow s.lexemes s.fits;
      reads = subst P (sym s.terms_are) reads;
      accepted = subst Q (sym s.terms_are) s.accepted;
      typed = typed;
    }
