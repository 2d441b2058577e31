-- A page builds one document, or has one fault.
use Rattle.std.proofs.Common.{◌≡◌, ℕ, Bool, ◌≤◌, inl, inr, List, [], ◌∷◌, ◌++◌, length, sym, refl, ◌∙◌, ap, subst, arith, Option, Some, None}
use Rattle.text_base.specs.declared.reasons.PageReason.{PageReason}
use Rattle.text_base.specs.declared.reasons.PageReason.TheVariants.{TooLong, NotUtf8, Nul, BadTag, BadAttribute, BadComment, BadMarkup, StrayEnd, Unclosed, TextOutside, SecondRoot, NoRoot, Deep, Memory}
use Rattle.doc_model.specs.Document.{Document}
use Rattle.html_lexer.specs.declared.steps.Step.TheVariants.{Fails}
use Rattle.html_lexer.specs.Steps.{StepAt}
use Rattle.html_lexer.specs.Tokens.{Tok as Lexed, last_name}
use Rattle.html_lexer.specs.Lexing.{Begins, LexFault}
use Rattle.html_lexer.proofs.LexLemmas.{same_token, one_fault as one_lexical}
use Rattle.html_lexer.proofs.LexLemmas as lexer
use Rattle.html_reader.specs.Tokens.{Tag, Tok, starts, ends, holds}
use Rattle.html_reader.specs.Places.{Place, place_marks, open_tags, root_at}
use Rattle.html_reader.specs.declared.reader.Root.{Root}
use Rattle.html_reader.specs.Reading.{is_fragment, Leads, Builds, Refuses, RefusesNext}
use Rattle.html_reader.specs.inner.Machine.{State}
use Rattle.html_reader.specs.inner.Taking.{LeadsTo}
use Rattle.html_reader.specs.Pages.{Stops, Whole, IsMade, Means, Spells, Comes, BuildsPage, IsRefused, IsTreeFault, IsFault, IsPageFault}
use Rattle.html_reader.specs.PageLaws.{OnePageDocument, OnePageFault, NeverBothOfPage, IsPageReason, PageReasons, OneWord}
use Rattle.html_reader.proofs.MoveLemmas.{step_moves}
use Rattle.html_reader.proofs.PageLemmas.{one_document}
use Rattle.html_reader.proofs.StandLemmas.{same_place, stops, same_reason, end_stops, refused_of, led_leads}
use Rattle.html_reader.proofs.SpellLemmas.{one_meaning, all_mean, Meets, even, less, more, spellings, no_end, no_fail}

-- the tokens before a fault of the markup
lexical_spells : (page : List ℕ) (reason : PageReason) (at : ℕ) → LexFault page reason at → (ts : List Tok) × (s : Spells page at ts) × StepAt page (last_name [] s.read) at (Fails reason)
lexical_spells page reason at h =
    let m = all_mean page [] 0 at h.0 h.1 in
    let s : Spells page at m.0 = record { read = h.0; lexed = h.1; meant = m.1 } in
    (m.0, s, h.2)

-- one thing begins at a place
one_next : (page before : List ℕ) (at : ℕ) (a b : Option Tok) → Comes page before at a → Comes page before at b → a ≡ b
one_next page before at None None h k = refl
one_next page before at None (Some u) h k = absurd (no_end page before at k.0 k.1 h)
one_next page before at (Some t) None h k = absurd (no_end page before at h.0 h.1 k)
one_next page before at (Some t) (Some u) h k =
    let e : h.0 ≡ k.0 = same_token page before at h.0 k.0 h.1 k.1 in
    ap Some (one_meaning before h.0 t u h.2 (subst (λ z. Means before z u) (sym e) k.2))

-- what is refused by the tree is no markup that is refused
tree_or_markup : (page before : List ℕ) (at : ℕ) (next : Option Tok) (reason : PageReason) → Comes page before at next → StepAt page before at (Fails reason) → ⊥
tree_or_markup page before at None reason h k = omega (arith, h, k.0)
tree_or_markup page before at (Some t) reason h k = no_fail page before at h.0 reason h.1 k

-- where a token stands that is refused, no place is reached after it
not_behind : {made : Bool} (page before : List ℕ) (at : ℕ) (us vs : List Tok) (next : Option Tok) (reason : PageReason) (z : Lexed) (t : Tok) (after : Option Tok) (q : Place) → Comes page before at next → IsRefused made us next reason → Begins page before at z → Means before z t → Leads made (us ++ t ∷ vs) after q → ⊥
not_behind {made} page before at us vs next reason z t after q comes refused begins means leads =
    let e : next ≡ Some t = one_next page before at next (Some t) comes (z, begins, means) in
    stops us vs t reason after q (subst (λ n. IsRefused made us n reason) e refused) leads

-- a page gets a root or not
pub not_stopped : (page before : List ℕ) (at : ℕ) (z : Lexed) → Stops page before at → Begins page before at z → ⊥
not_stopped page before at z (inl e) begins = no_end page before at z begins e
not_stopped page before at z (inr fails) begins = no_fail page before at z fails.0 begins fails.1

same_whole : (page : List ℕ) (v w : Whole page) → Meets page [] v.spelled.read w.spelled.read v.tokens w.tokens v.at w.at → v.tokens ≡ w.tokens
same_whole page v w (even e f same) = f
same_whole page v w (less z t vs next means is below) = absurd (not_stopped page (last_name [] v.spelled.read) v.at z v.stops next)
same_whole page v w (more z t vs next means is below) = absurd (not_stopped page (last_name [] w.spelled.read) w.at z w.stops next)

pub one_whole : (page : List ℕ) (v w : Whole page) → v.tokens ≡ w.tokens
one_whole page v w = same_whole page v w (spellings page v.at w.at v.tokens w.tokens v.spelled w.spelled)

pub one_made : (page : List ℕ) (a b : Bool) → IsMade page a → IsMade page b → a ≡ b
one_made page a b h k = sym h.is ∙ ap is_fragment (one_whole page h.whole k.whole) ∙ k.is

-- a fault lies at or after each place that is reached without one
markup_after : (page : List ℕ) (at place : ℕ) (ts us : List Tok) (s : Spells page at ts) (r : Spells page place us) (reason : PageReason) → StepAt page (last_name [] r.read) place (Fails reason) → Meets page [] s.read r.read ts us at place → at ≤ place
markup_after page at place ts us s r reason fails (even e f same) = omega (arith, same)
markup_after page at place ts us s r reason fails (less z t vs next means is below) = omega (arith, below)
markup_after page at place ts us s r reason fails (more z t vs next means is below) = absurd (no_fail page (last_name [] r.read) place z reason next fails)

tree_after : {made : Bool} (page : List ℕ) (at place : ℕ) (ts us : List Tok) (s : Spells page at ts) (r : Spells page place us) (reason : PageReason) (next after : Option Tok) (q : Place) → Leads made ts after q → Comes page (last_name [] r.read) place next → IsRefused made us next reason → Meets page [] s.read r.read ts us at place → at ≤ place
tree_after {made} page at place ts us s r reason next after q leads comes refused (even e f same) = omega (arith, same)
tree_after {made} page at place ts us s r reason next after q leads comes refused (less z t vs begins means is below) = omega (arith, below)
tree_after {made} page at place ts us s r reason next after q leads comes refused (more z t vs begins means is below) =
    absurd (not_behind page (last_name [] r.read) place us vs next reason z t after q comes refused begins means (subst (λ x. Leads made x after q) is leads))

after_place : {made : Bool} (page : List ℕ) (at : ℕ) (ts : List Tok) (s : Spells page at ts) (after : Option Tok) (q : Place) → IsMade page made → Leads made ts after q → (reason : PageReason) (place : ℕ) → IsFault page reason place → at ≤ place
after_place {made} page at ts s after q gets leads reason place (inl markup) =
    let l = lexical_spells page reason place markup in
    markup_after page at place ts l.0 s l.1 reason l.2 (spellings page at place ts l.0 s l.1)
after_place {made} page at ts s after q gets leads reason place (inr tree) =
    tree_after page at place ts tree.before s tree.spelled reason tree.next after q leads tree.comes (subst (λ m. IsRefused m tree.before tree.next reason) (one_made page tree.made made tree.gets_root gets) tree.refused) (spellings page at place ts tree.before s tree.spelled)

-- the markup is refused at no place where the tree refuses
no_markup : (page : List ℕ) (at : ℕ) (ts us : List Tok) (s : Spells page at ts) (r : Spells page at us) (next : Option Tok) (reason : PageReason) → Comes page (last_name [] s.read) at next → StepAt page (last_name [] r.read) at (Fails reason) → Meets page [] s.read r.read ts us at at → ⊥
no_markup page at ts us s r next reason comes fails (even e f same) = tree_or_markup page (last_name [] r.read) at next reason (subst (λ x. Comes page (last_name [] x) at next) e comes) fails
no_markup page at ts us s r next reason comes fails (less z t vs begins means is below) = omega (arith, below)
no_markup page at ts us s r next reason comes fails (more z t vs begins means is below) = omega (arith, below)

apart : (page : List ℕ) (at : ℕ) (reason other : PageReason) → IsTreeFault page reason at → LexFault page other at → ⊥
apart page at reason other tree markup =
    let l = lexical_spells page other at markup in
    no_markup page at tree.before l.0 tree.spelled l.1 tree.next other tree.comes l.2 (spellings page at at tree.before l.0 tree.spelled l.1)

-- the first token, or the end, that is refused is the page's fault
pub tree_fault : {made : Bool} (page : List ℕ) (at : ℕ) (ts : List Tok) (s : Spells page at ts) (next : Option Tok) (reason : PageReason) → IsMade page made → Comes page (last_name [] s.read) at next → Refuses made ts next reason → IsPageFault page reason at
tree_fault {made} page at ts s next reason gets comes h =
    let tree : IsTreeFault page reason at = record { before = ts; spelled = s; next = next; comes = comes; made = made; gets_root = gets; refused = refused_of ts next reason h } in
    record {
      fault = inr tree;
      first = after_place page at ts s next h.place gets h.leads;
      markup = λ other m. absurd (apart page at reason other tree m);
    }

-- and so is the fault of the markup, where no token before it is refused
pub markup_fault : (page : List ℕ) (at : ℕ) (ts : List Tok) (s : Spells page at ts) (state : State) (reason : PageReason) → IsMade page state.rooted.made → LeadsTo ts state → StepAt page (last_name [] s.read) at (Fails reason) → IsPageFault page reason at
markup_fault page at ts s state reason gets led fails =
    let m : LexFault page reason at = (s.read, s.lexed, fails) in
    let p = led_leads ts None state led in
    record {
      fault = inl m;
      first = after_place page at ts s None p.0 gets p.1;
      markup = λ other n. (one_lexical page reason other at at m n).0;
    }

-- one fault
one_tree : (page : List ℕ) (at : ℕ) (a b : PageReason) (h : IsTreeFault page a at) (k : IsTreeFault page b at) → Meets page [] h.spelled.read k.spelled.read h.before k.before at at → a ≡ b
one_tree page at a b h k (even e f same) =
    let n : h.next ≡ k.next = one_next page (last_name [] k.spelled.read) at h.next k.next (subst (λ x. Comes page (last_name [] x) at h.next) e h.comes) k.comes in
    same_reason k.before k.next a b (subst (λ m. IsRefused m k.before k.next a) (one_made page h.made k.made h.gets_root k.gets_root) (subst (λ x. IsRefused h.made k.before x a) n (subst (λ x. IsRefused h.made x h.next a) f h.refused))) k.refused
one_tree page at a b h k (less z t vs begins means is below) = absurd (omega (arith, below))
one_tree page at a b h k (more z t vs begins means is below) = absurd (omega (arith, below))

same_fault : (page : List ℕ) (at : ℕ) (a b : PageReason) → IsPageFault page a at → IsPageFault page b at → IsFault page a at → IsFault page b at → a ≡ b
same_fault page at a b h k x (inl n) = h.markup b n
same_fault page at a b h k (inl m) y = sym (k.markup a m)
same_fault page at a b h k (inr m) (inr n) = one_tree page at a b m n (spellings page at at m.before n.before m.spelled n.spelled)

pub one_page_fault : OnePageFault
one_page_fault page a b at place h k =
    let e : at ≡ place = omega (arith, h.first b place k.fault, k.first a at h.fault) in
    let k' : IsPageFault page b at = subst (λ n. IsPageFault page b n) (sym e) k in
    (same_fault page at a b h k' h.fault k'.fault, e)

-- one document
same_tokens : (page : List ℕ) (ts us : List Tok) (s : Spells page (length page) ts) (r : Spells page (length page) us) → Meets page [] s.read r.read ts us (length page) (length page) → ts ≡ us
same_tokens page ts us s r (even e f at) = f
same_tokens page ts us s r (less z t vs begins means is below) = absurd (omega (arith, below))
same_tokens page ts us s r (more z t vs begins means is below) = absurd (omega (arith, below))

pub one_page_document : OnePageDocument
one_page_document page doc other h k =
    let e = same_tokens page h.tokens k.tokens h.spelled k.spelled (spellings page (length page) (length page) h.tokens k.tokens h.spelled k.spelled) in
    one_document k.tokens doc other (subst (λ ts. Builds (is_fragment ts) ts doc) e h.builds) k.builds

built_made : (page : List ℕ) (doc : Document) (h : BuildsPage page doc) → IsMade page (is_fragment h.tokens)
built_made page doc h = record { whole = record { tokens = h.tokens; at = length page; spelled = h.spelled; stops = inl refl }; is = refl }

-- never both
not_built : (page : List ℕ) (doc : Document) (reason : PageReason) (at : ℕ) (h : BuildsPage page doc) (k : IsTreeFault page reason at) → Meets page [] h.spelled.read k.spelled.read h.tokens k.before (length page) at → ⊥
not_built page doc reason at h k (even e f same) =
    let ended : Comes page (last_name [] k.spelled.read) at None = sym same in
    let n : k.next ≡ None = one_next page (last_name [] k.spelled.read) at k.next None k.comes ended in
    end_stops k.before reason doc (subst (λ m. IsRefused m k.before None reason) (one_made page k.made (is_fragment h.tokens) k.gets_root (built_made page doc h) ∙ ap is_fragment f) (subst (λ x. IsRefused k.made k.before x reason) n k.refused)) (subst (λ ts. Builds (is_fragment ts) ts doc) f h.builds)
not_built page doc reason at h k (less z t vs begins means is below) = no_end page (last_name [] h.spelled.read) (length page) z begins refl
not_built page doc reason at h k (more z t vs begins means is below) =
    not_behind page (last_name [] k.spelled.read) at k.before vs k.next reason z t None h.builds.place k.comes (subst (λ m. IsRefused m k.before k.next reason) (one_made page k.made (is_fragment h.tokens) k.gets_root (built_made page doc h)) k.refused) begins means (subst (λ x. Leads (is_fragment h.tokens) x None h.builds.place) is h.builds.leads)

no_fault : (page : List ℕ) (doc : Document) (reason : PageReason) (at : ℕ) → BuildsPage page doc → IsFault page reason at → ⊥
no_fault page doc reason at h (inl m) = lexer.never_both page h.spelled.read reason at h.spelled.lexed m
no_fault page doc reason at h (inr k) = not_built page doc reason at h k (spellings page (length page) at h.tokens k.before h.spelled k.spelled)

pub never_both_of_page : NeverBothOfPage
never_both_of_page page doc reason at h k = no_fault page doc reason at h k.fault

-- the reasons
no_toolong : (tags : List Tag) (rooted : Root) (next : Option Tok) → RefusesNext tags rooted next TooLong → ⊥
no_toolong tags rooted (Some (starts tag)) h = h
no_toolong tags rooted (Some (ends name)) h = h
no_toolong tags rooted (Some (holds leaf)) h = h
no_toolong tags rooted None h = h

no_notutf8 : (tags : List Tag) (rooted : Root) (next : Option Tok) → RefusesNext tags rooted next NotUtf8 → ⊥
no_notutf8 tags rooted (Some (starts tag)) h = h
no_notutf8 tags rooted (Some (ends name)) h = h
no_notutf8 tags rooted (Some (holds leaf)) h = h
no_notutf8 tags rooted None h = h

no_nul : (tags : List Tag) (rooted : Root) (next : Option Tok) → RefusesNext tags rooted next Nul → ⊥
no_nul tags rooted (Some (starts tag)) h = h
no_nul tags rooted (Some (ends name)) h = h
no_nul tags rooted (Some (holds leaf)) h = h
no_nul tags rooted None h = h

no_memory : (tags : List Tag) (rooted : Root) (next : Option Tok) → RefusesNext tags rooted next Memory → ⊥
no_memory tags rooted (Some (starts tag)) h = h
no_memory tags rooted (Some (ends name)) h = h
no_memory tags rooted (Some (holds leaf)) h = h
no_memory tags rooted None h = h

tree_reason : (tags : List Tag) (rooted : Root) (next : Option Tok) (reason : PageReason) → RefusesNext tags rooted next reason → IsPageReason reason
tree_reason tags rooted next TooLong h = no_toolong tags rooted next h
tree_reason tags rooted next NotUtf8 h = no_notutf8 tags rooted next h
tree_reason tags rooted next Nul h = no_nul tags rooted next h
tree_reason tags rooted next Memory h = no_memory tags rooted next h
tree_reason tags rooted next BadTag h = tt
tree_reason tags rooted next BadAttribute h = tt
tree_reason tags rooted next BadComment h = tt
tree_reason tags rooted next BadMarkup h = tt
tree_reason tags rooted next StrayEnd h = tt
tree_reason tags rooted next Unclosed h = tt
tree_reason tags rooted next TextOutside h = tt
tree_reason tags rooted next SecondRoot h = tt
tree_reason tags rooted next NoRoot h = tt
tree_reason tags rooted next Deep h = tt

fault_reason : (page : List ℕ) (reason : PageReason) (at : ℕ) → IsFault page reason at → IsPageReason reason
fault_reason page reason at (inl m) = step_moves page (last_name [] m.0) at (Fails reason) m.2
fault_reason page reason at (inr tree) = tree_reason (open_tags tree.refused.place) (root_at tree.made tree.refused.place) tree.next reason tree.refused.refused

pub page_reasons : PageReasons
page_reasons page reason at h = fault_reason page reason at h.fault

-- one word
pub one_word : OneWord
one_word tokens next p q s t f g = ap place_marks (same_place tokens next p q s f t g)
