use Rattle.std.proofs.Common.{◌≡◌, ◌+◌, inr, refl, rules, length, ◌≤◌, drop, sym, ap, ◌∙◌, Some}
use Rattle.xpath_lexer.specs.inner.Sizes.{token_size}
use Rattle.xpath_lexer.proofs.Next as next
use Rattle.xpath_lexer.proofs.tokens.next_token.Goals as goal

pub returns-in_default-clause-none : goal.returns-in_default-clause-none
returns-in_default-clause-none c =
    inr (refl, next.no_token (drop c.args.at c.args.text.now) (ap token_size (sym c.bytes_from.ensures) ∙ sym c.token_size.ensures ∙ c.in_default.is))

pub overflow_add-to : goal.overflow_add-to
overflow_add-to c =
    let h : token_size (drop c.args.at c.args.text.now) ≡ Some (c.in-Some.kind, c.in-Some.size) = ap token_size (sym c.bytes_from.ensures) ∙ sym c.token_size.ensures ∙ c.in-Some.is in
    let low : c.args.at + c.in-Some.size ≤ length c.args.text.now = next.within c.args.text.now c.utf8.text c.args.at c.requires.within c.requires.place c.in-Some.kind c.in-Some.size h in
    search rules

pub value_of-requires : goal.value_of-requires
value_of-requires c =
    let h : token_size (drop c.args.at c.args.text.now) ≡ Some (c.in-Some.kind, c.in-Some.size) = ap token_size (sym c.bytes_from.ensures) ∙ sym c.token_size.ensures ∙ c.in-Some.is in
    next.stands c.args.text.now c.utf8.text c.args.at c.requires.within c.requires.place c.in-Some.kind c.in-Some.size h

pub returns-clause-found : goal.returns-clause-found
returns-clause-found c =
    let h : token_size (drop c.args.at c.args.text.now) ≡ Some (c.in-Some.kind, c.in-Some.size) = ap token_size (sym c.bytes_from.ensures) ∙ sym c.token_size.ensures ∙ c.in-Some.is in
    next.next c.args.text.now c.utf8.text c.args.at c.requires.within c.requires.place c.in-Some.kind c.in-Some.size h _ refl refl refl c.in_ok-value.ensures.value c.in_ok-value.ensures.bytes
