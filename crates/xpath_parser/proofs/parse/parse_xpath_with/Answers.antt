use Rattle.std.proofs.Common.{rules, arith, ◌≡◌, ◌≢◌, ◌∙◌, sym, subst, ap, map, true, false, Some, None}
use Rattle.std.proofs.lemmas.Grind.{common_steps}
use Rattle.text_base.specs.declared.reasons.XPathFault.TheVariants as fault
use Rattle.test_registry.specs.View.{known}
use Rattle.xpath_lexer.specs.Places.{lexeme_of}
use Rattle.xpath_parser.specs.declared.expression.Expr.{Expr}
use Rattle.xpath_parser.specs.Asking.{AsksOnly}
use Rattle.xpath_parser.specs.Terms.{terms_over}
use Rattle.xpath_parser.specs.Faults.{first_fault, at_token, wrong_type}
use Rattle.xpath_parser.specs.Grammar.{ReadsWhole}
use Rattle.xpath_parser.specs.Reading.{ReadsOver}
use Rattle.xpath_parser.specs.Shapes.{is_well_typed}
use Rattle.xpath_parser.specs.Typed.{expression}
use Rattle.xpath_parser.proofs.Asked.{asks_only}
use Rattle.xpath_parser.proofs.Fit.{reads_as, readable, syntax_fault}
use Rattle.xpath_parser.proofs.parse.parse_xpath_with.Goals as goal

pub returns-in_err-expr-clause-fault : goal.returns-in_err-expr-clause-fault
returns-in_err-expr-clause-fault g c =
    let tests = known c.args.tests.now in
    let ws = map lexeme_of c.in_ok-tokens.tokens in
    let all : c.in_ok-terms.terms ≡ terms_over tests ws = first_of (search rules, grind (arith, common_steps)) in
    let why : c.in_err-expr.field-0.0 ≢ fault.Memory → (c.in_err-expr.field-0.0 ≡ fault.Syntax) × ((x : Expr) → ReadsWhole c.in_ok-terms.terms x → ⊥) = first_of (search rules, grind (arith, common_steps)) in
    let found = syntax_fault tests c.args.text.now ws c.in_err-expr.field-0.0 c.in_ok-tokens.ensures.fit (λ some. ((why some).0, λ x r. (why some).1 x (subst (λ ts. ReadsWhole ts x) (sym all) r))) in
    first_of (search rules, grind (arith, common_steps))

pub returns-in-Some-clause-fault : goal.returns-in-Some-clause-fault
returns-in-Some-clause-fault g c = λ _.
    let tests = known c.args.tests.now in
    let ws = map lexeme_of c.in_ok-tokens.tokens in
    let all : c.in_ok-terms.terms ≡ terms_over tests ws = first_of (search rules, grind (arith, common_steps)) in
    let whole : ReadsWhole c.in_ok-terms.terms c.in_ok-expr.expr = first_of (search rules, grind (arith, common_steps)) in
    let reads : ReadsWhole (terms_over tests ws) c.in_ok-expr.expr = subst (λ ts. ReadsWhole ts c.in_ok-expr.expr) all whole in
    let first : first_fault c.in_ok-terms.terms ≡ Some c.in-Some.fault = first_of (search rules, grind (arith, common_steps)) in
    at_token c.in_ok-tokens.ensures.fit reads (ap first_fault (sym all) ∙ first)

pub returns-then-not-right-clause-fault : goal.returns-then-not-right-clause-fault
returns-then-not-right-clause-fault g c = λ _.
    let tests = known c.args.tests.now in
    let ws = map lexeme_of c.in_ok-tokens.tokens in
    let all : c.in_ok-terms.terms ≡ terms_over tests ws = first_of (search rules, grind (arith, common_steps)) in
    let whole : ReadsWhole c.in_ok-terms.terms c.in_ok-expr.expr = first_of (search rules, grind (arith, common_steps)) in
    let reads : ReadsWhole (terms_over tests ws) c.in_ok-expr.expr = subst (λ ts. ReadsWhole ts c.in_ok-expr.expr) all whole in
    let first : first_fault c.in_ok-terms.terms ≡ None = first_of (search rules, grind (arith, common_steps)) in
    let wrong : is_well_typed c.in_ok-expr.expr ≡ false = first_of (search rules, grind (arith, common_steps)) in
    wrong_type c.in_ok-tokens.ensures.fit reads (ap first_fault (sym all) ∙ first) wrong

pub new-requires-clause-readable : goal.new-requires-clause-readable
new-requires-clause-readable g c =
    let tests = known c.args.tests.now in
    let ws = map lexeme_of c.in_ok-tokens.tokens in
    let all : c.in_ok-terms.terms ≡ terms_over tests ws = first_of (search rules, grind (arith, common_steps)) in
    let whole : ReadsWhole c.in_ok-terms.terms c.in_ok-expr.expr = first_of (search rules, grind (arith, common_steps)) in
    let reads : ReadsWhole (terms_over tests ws) c.in_ok-expr.expr = subst (λ ts. ReadsWhole ts c.in_ok-expr.expr) all whole in
    let first : first_fault c.in_ok-terms.terms ≡ None = first_of (search rules, grind (arith, common_steps)) in
    let right : is_well_typed c.in_ok-expr.expr ≡ true = first_of (search rules, grind (arith, common_steps)) in
    readable tests c.args.text.now c.in_ok-expr.expr (reads_as tests c.args.text.now ws c.in_ok-expr.expr c.in_ok-tokens.ensures.fit reads (ap first_fault (sym all) ∙ first) right)

pub returns-clause-ok : goal.returns-clause-ok
returns-clause-ok g c =
    let tests = known c.args.tests.now in
    let ws = map lexeme_of c.in_ok-tokens.tokens in
    let all : c.in_ok-terms.terms ≡ terms_over tests ws = first_of (search rules, grind (arith, common_steps)) in
    let whole : ReadsWhole c.in_ok-terms.terms c.in_ok-expr.expr = first_of (search rules, grind (arith, common_steps)) in
    let reads : ReadsWhole (terms_over tests ws) c.in_ok-expr.expr = subst (λ ts. ReadsWhole ts c.in_ok-expr.expr) all whole in
    let first : first_fault c.in_ok-terms.terms ≡ None = first_of (search rules, grind (arith, common_steps)) in
    let right : is_well_typed c.in_ok-expr.expr ≡ true = first_of (search rules, grind (arith, common_steps)) in
    let same : expression c.new.result ≡ c.in_ok-expr.expr = first_of (search rules, grind (arith, common_steps)) in
    subst (ReadsOver tests c.args.text.now) (sym same) (reads_as tests c.args.text.now ws c.in_ok-expr.expr c.in_ok-tokens.ensures.fit reads (ap first_fault (sym all) ∙ first) right)

pub returns-clause-asks : goal.returns-clause-asks
returns-clause-asks g c =
    let tests = known c.args.tests.now in
    let ws = map lexeme_of c.in_ok-tokens.tokens in
    let all : c.in_ok-terms.terms ≡ terms_over tests ws = first_of (search rules, grind (arith, common_steps)) in
    let whole : ReadsWhole c.in_ok-terms.terms c.in_ok-expr.expr = first_of (search rules, grind (arith, common_steps)) in
    let reads : ReadsWhole (terms_over tests ws) c.in_ok-expr.expr = subst (λ ts. ReadsWhole ts c.in_ok-expr.expr) all whole in
    let first : first_fault c.in_ok-terms.terms ≡ None = first_of (search rules, grind (arith, common_steps)) in
    let right : is_well_typed c.in_ok-expr.expr ≡ true = first_of (search rules, grind (arith, common_steps)) in
    let same : expression c.new.result ≡ c.in_ok-expr.expr = first_of (search rules, grind (arith, common_steps)) in
    subst (AsksOnly tests) (sym same) (asks_only tests c.args.text.now c.in_ok-expr.expr (reads_as tests c.args.text.now ws c.in_ok-expr.expr c.in_ok-tokens.ensures.fit reads (ap first_fault (sym all) ∙ first) right))
