-- A printed text keeps the meaning of every well made selector list, once its terms are spelled.
use Rattle.std.proofs.Common.{◌≤◌, false, length}
use Rattle.css_selectors.specs.declared.selector.Dialect.{Dialect}
use Rattle.css_selectors.specs.declared.selector.SelectorList.{SelectorList}
use Rattle.css_selectors.specs.WellMade.{WellMade}
use Rattle.xpath_lexer.specs.Places.{most_xpath}
use Rattle.xpath_parser.specs.Reading.{ReadsAs}
use Rattle.xpath_parser.specs.Terms.{most_open}
use Rattle.xpath_parser.proofs.Complete.{one_expression}
use Rattle.css_printed.specs.inner.Expression.{expression}
use Rattle.css_printed.specs.Printed.{printed}
use Rattle.css_printed.specs.Promise.{KeepsMeaning, alone}
use Rattle.css_printed.proofs.MeansAll.{denote_answers, denote_matched}
use Rattle.css_printed.proofs.ReadBack.{spoken_reads}
use Rattle.css_printed.proofs.ReadsSelectors.{list_reads}
use Rattle.css_printed.proofs.Spelling.{Spoken}
use Rattle.css_printed.proofs.TemplateTerms.{list_terms}
use Rattle.css_printed.proofs.TypesSelectors.{list_typed, list_shape}

-- the text reads as the list's expression
pub printed_reads : (d : Dialect) (list : SelectorList) → WellMade list → Spoken most_open false (printed d list) (list_terms d list) → length (printed d list) ≤ most_xpath
    → ReadsAs (printed d list) (expression d list)
printed_reads d list made spoken short = spoken_reads (printed d list) (list_terms d list) (expression d list) short spoken (list_reads d list made) (list_typed d list made)

pub keeps_all : (d : Dialect) (list : SelectorList) → WellMade list → (spoken : Spoken most_open false (printed d list) (list_terms d list)) → length (printed d list) ≤ most_xpath
    → KeepsMeaning d list (printed d list)
keeps_all d list made spoken short =
    let reads : ReadsAs (printed d list) (expression d list) = printed_reads d list made spoken short in
    record {
      expression = expression d list;
      reads = reads;
      one_expression = λ x r. one_expression (printed d list) x (expression d list) r reads;
      shape = list_shape d list made;
      answers_from = λ doc within c lt. denote_answers doc d list made within (alone c);
      matches_from_root = λ doc within. denote_matched doc d list made within;
    }
