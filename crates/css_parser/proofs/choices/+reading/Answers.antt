use Rattle.std.proofs.Common.{sym, ◌∙◌, subst, arith}
use Rattle.std.specs.Prelude.{Some}
use Rattle.css_parser.specs.inner.Reading.{EndsForm, EndsInner}
use Rattle.css_parser.proofs.ChoiceLemmas.{not_empty, deep_entry_ends}
use Rattle.css_parser.proofs.MemberLemmas as lemma
use Rattle.css_parser.proofs.choices.+reading.Goals as goal

pub inner-returns-else-is_empty-clause-ends : goal.inner-returns-else-is_empty-clause-ends
inner-returns-else-is_empty-clause-ends t c =
    subst (λ r. EndsInner c.args.tokens.now c.args.at (Some r)) (sym c.inner_read-in-None.ensures)
    (lemma.inner_moves c.args.text.now c.args.tokens.now c.args.room c.args.within c.args.link c.args.at c.in_ok-read-in-None.read (let a = c.in_ok-read-in-None.ensures.order in let b = c.in_ok-read-in-None.ensures.within in omega arith) c.in_ok-read-in-None.ensures (not_empty _ _ c.is_empty.ensures c.if-is_empty.false))

pub members-returns-then-stands-clause-read : goal.members-returns-then-stands-clause-read
members-returns-then-stands-clause-read t c = lemma.list_closed c.args.text.now c.args.tokens.now _ c.args.word c.args.from c.loop-found.found c.loop-found.at c.in-Some.read _ _ _ _
    c.loop-found.invariant.reads c.loop-found.invariant.within c.skip-start.ensures.end c.in_ok-read.ensures.read c.in_ok-read.ensures.ends c.in-Some.is c.skip-behind.ensures.end (sym c.stands.ensures.value ∙ c.if-stands.true) c.in_ok-push.ensures.ok

pub members-returns-then-not-stands-clause-read : goal.members-returns-then-not-stands-clause-read
members-returns-then-not-stands-clause-read t c = lemma.list_cut c.args.text.now c.args.tokens.now _ c.args.word c.args.from c.loop-found.found c.loop-found.at c.in-Some.read _ _ _
    c.loop-found.invariant.reads c.loop-found.invariant.within c.skip-start.ensures.end c.in_ok-read.ensures.read c.in_ok-read.ensures.ends c.in-Some.is c.skip-behind.ensures.end (sym c.stands.ensures.value ∙ c.if-stands.false) (sym c.stands-in-loop-found.ensures.value ∙ c.if-not-stands.true)

pub parts-returns-in-None-clause-read : goal.parts-returns-in-None-clause-read
parts-returns-in-None-clause-read t c =
    lemma.joined_done c.args.text.now c.args.tokens.now c.args.room c.args.within c.args.first c.loop-inners.inners c.loop-inners.at
    (let a = c.loop-inners.invariant.order in let b = c.loop-inners.invariant.within in omega arith) c.loop-inners.invariant.reads (sym c.in_ok-read.ensures.read ∙ c.in-None.is)

pub simple-returns-then-room-eq0-clause-ends : goal.simple-returns-then-room-eq0-clause-ends
simple-returns-then-room-eq0-clause-ends t c =
    subst (EndsForm c.args.tokens.now c.args.at) (sym c.deep_form.ensures)
    (deep_entry_ends c.args.text.now c.args.tokens.now c.args.at c.in-Some.word c.args.ends.now (sym c.word_at.ensures.value ∙ c.in-Some.is) c.requires.1.1.1.1.0 c.requires.1.1.1.1.1)

pub simple-returns-then-is_second-clause-ends : goal.simple-returns-then-is_second-clause-ends
simple-returns-then-is_second-clause-ends t c =
    subst (EndsForm c.args.tokens.now c.args.at) (sym c.deep_form-then-is_second.ensures)
    (deep_entry_ends c.args.text.now c.args.tokens.now c.args.at c.in-Some.word c.args.ends.now (sym c.word_at.ensures.value ∙ c.in-Some.is) c.requires.1.1.1.1.0 c.requires.1.1.1.1.1)
