-- What is known of a page while its tokens are read one by one.
use Rattle.std.proofs.Common.{◌≡◌, ℕ, ◌+◌, ◌*◌, ◌<◌, ◌≤◌, ◌^◌, ◌⊎◌, inl, inr, List, [], ◌∷◌, ◌++◌, length, sym, refl, ◌∙◌, ap, subst, arith, rules, Some, None, Ok, Err}
use Rattle.std.specs.Prelude.{Result, IfOk, IfErr}
use Rattle.std.specs.Str.{IsUtf8}
use Rattle.text_base.specs.Limits.{most_page}
use Rattle.text_base.specs.declared.reasons.PageFault.{PageFault}
use Rattle.doc_model.specs.Document.{Document}
use Rattle.html_lexer.specs.declared.steps.Step.TheVariants.{Fails}
use Rattle.html_lexer.specs.Steps.{StepAt}
use Rattle.html_lexer.specs.State.{Reading}
use Rattle.html_lexer.specs.Tokens.{Tok as Lexed, start_tok, end_tok, text_tok, comment_tok, doctype_tok, end_of, name_after, last_name}
use Rattle.html_lexer.specs.Lexing.{Begins}
use Rattle.html_lexer.proofs.LexLemmas.{last_push}
use Rattle.html_lexer.proofs.StepLemmas.{attrs_of}
use Rattle.html_reader.specs.declared.token.Token.{Token}
use Rattle.html_reader.specs.Tokens.{Tok}
use Rattle.html_reader.specs.inner.Machine.{State}
use Rattle.html_reader.specs.inner.States.{tok_of, from_of, most_rows}
use Rattle.html_reader.specs.inner.Taking.{LeadsTo, IsLed, size, Takes, AllBuild, EndRefused}
use Rattle.html_reader.specs.inner.Keeping.{IsReadable, begin_of}
use Rattle.html_reader.specs.Pages.{IsMemory, Means, Spells, IsMade, BuildsPage, IsPageFault}
use Rattle.html_reader.proofs.KeepLemmas.{written_few, length-kept}
use Rattle.html_reader.proofs.SpellLemmas.{Lies, lies, moves, spells_none, spells_push}
use Rattle.html_reader.proofs.FaultLemmas.{tree_fault, markup_fault}
use Rattle.html_reader.proofs.PageReadings.{page_builds}

-- The lexer has read these tokens of the page, and the reader's state is what they lead to. A token makes at most
-- four rows, open elements counted too, for each of its bytes.
pub record IsReading (page : List ℕ) (r : Reading) (before : List ℕ) (s : State) : Type 0 where
  pub same : r.text ≡ page
  pub tokens : List Tok
  pub spelled : Spells page r.at tokens
  pub named : r.name ≡ last_name [] spelled.read
  pub directly : before ≡ r.name
  pub utf8 : IsUtf8 before
  pub gets_root : IsMade page s.rooted.made
  pub led : LeadsTo tokens s
  pub room : size s ≤ 2 + 4 * r.at
  pub within : r.at ≤ length page

pub starts_reading : (page : List ℕ) (r : Reading) (before : List ℕ) (s : State) → r ≡ record { text = page; at = 0; name = [] } → before ≡ [] → IsUtf8 before → IsMade page s.rooted.made → LeadsTo [] s → size s ≤ 2 → IsReading page r before s
starts_reading page r before s is none utf8 gets led one =
    let new : Reading = record { text = page; at = 0; name = [] } in
    let h : IsReading page new before s = record {
      same = refl;
      tokens = [];
      spelled = spells_none page;
      named = refl;
      directly = none;
      utf8 = utf8;
      gets_root = gets;
      led = led;
      room = omega (arith, one);
      within = omega arith;
    } in
    subst (λ (x : Reading). IsReading page x before s) (sym is) h

pub led_of : (page : List ℕ) (r : Reading) (before : List ℕ) (s : State) → IsReading page r before s → IsLed s
led_of page r before s h = record { tokens = h.tokens; led = h.led }

-- the token that begins where the lexer is
pub next_begins : (page : List ℕ) (r : Reading) (before : List ℕ) (s : State) (h : IsReading page r before s) (x : Lexed) → Begins r.text r.name r.at x → Begins page (last_name [] h.spelled.read) r.at x
next_begins page r before s h x begins = subst (λ n. Begins page n r.at x) h.named (subst (λ p. Begins p r.name r.at x) h.same begins)

next_means : (page : List ℕ) (r : Reading) (before : List ℕ) (s : State) (h : IsReading page r before s) (x : Lexed) (t : Tok) → Means before x t → Means (last_name [] h.spelled.read) x t
next_means page r before s h x t means = subst (λ n. Means n x t) (h.directly ∙ h.named) means

-- it can be read
readable : (page before : List ℕ) (i : ℕ) (x : Lexed) → Begins page before i x → Lies page i x → IsReadable x
readable page before i (start_tok from to name attrs slash) h l = (λ none. omega (arith, l, ap length none), attrs_of page before name attrs i from to slash h)
readable page before i (end_tok from to name) h l = tt
readable page before i (text_tok from to raw refs) h l = tt
readable page before i (comment_tok from to body) h l = tt
readable page before i (doctype_tok from to) h l = tt

pub is_readable : (page before : List ℕ) (i : ℕ) (x : Lexed) → Begins page before i x → IsReadable x
is_readable page before i x h = readable page before i x h (lies page before i x h)

begins_at : (page : List ℕ) (i : ℕ) (x : Lexed) → Lies page i x → begin_of x ≡ i
begins_at page i (start_tok from to name attrs slash) h = h.0
begins_at page i (end_tok from to name) h = h.0
begins_at page i (text_tok from to raw refs) h = h.0
begins_at page i (comment_tok from to body) h = h.0
begins_at page i (doctype_tok from to) h = h.0

-- how many rows it makes
pub few_rows : (page before : List ℕ) (i : ℕ) (x : Lexed) (t : Tok) → Lies page i x → Means before x t → i + most_rows t + 1 + 4 * i ≤ i + 4 * end_of x
few_rows page before i (start_tok from to name attrs slash) t h means =
    subst (λ u. i + most_rows u + 1 + 4 * i ≤ i + 4 * to) (sym means.2)
    (omega (arith, h, written_few attrs 0 means.0 means.1, length-kept means.0))
few_rows page before i (end_tok from to name) t h means = subst (λ u. i + most_rows u + 1 + 4 * i ≤ i + 4 * to) (sym means) (omega (arith, h))
few_rows page before i (text_tok from to raw refs) t h means = subst (λ u. i + most_rows u + 1 + 4 * i ≤ i + 4 * to) (sym means) (omega (arith, h))
few_rows page before i (comment_tok from to body) t h means = subst (λ u. i + most_rows u + 1 + 4 * i ≤ i + 4 * to) (sym means) (omega (arith, h))
few_rows page before i (doctype_tok from to) t h means = subst (λ u. i + most_rows u + 1 + 4 * i ≤ i + 4 * to) (sym means) (omega (arith, h))

pub has_room : (page : List ℕ) (r : Reading) (before : List ℕ) (s : State) (x : Lexed) (t : Tok) → IsReading page r before s → Begins r.text r.name r.at x → Means before x t → length page ≤ most_page → size s + most_rows t + 1 < 2 ^ 32
has_room page r before s x t h begins means short =
    let b = next_begins page r before s h x begins in
    omega (arith, h.room, few_rows page before r.at x t (lies page (last_name [] h.spelled.read) r.at x b) means, (moves page (last_name [] h.spelled.read) r.at x b).1, short)

-- after the token
pub reads_token : (page : List ℕ) (old new : Reading) (before after : List ℕ) (s next : State) (x : Lexed) (t : Token) (u : Unit {0}) → IsReading page old before s → Begins old.text old.name old.at x → new ≡ record { text = old.text; at = end_of x; name = name_after x } → Means before x (tok_of t) → Takes s t (Ok u) next → after ≡ name_after x → IsUtf8 after → IsReading page new after next
reads_token page old new before after s next x t u h begins is means takes named utf8 =
    let b = next_begins page old before s h x begins in
    let m = next_means page old before s h x (tok_of t) means in
    let r : Reading = record { text = old.text; at = end_of x; name = name_after x } in
    let more : IsReading page r after next = record {
      same = h.same;
      tokens = h.tokens ++ tok_of t ∷ [];
      spelled = spells_push page old.at h.tokens h.spelled x (tok_of t) b m;
      named = sym (last_push [] h.spelled.read x);
      directly = named;
      utf8 = utf8;
      gets_root = subst (IsMade page) (sym takes.1) h.gets_root;
      led = takes.0 h.tokens h.led;
      room = omega (arith, takes.2, h.room, few_rows page before old.at x (tok_of t) (lies page (last_name [] h.spelled.read) old.at x b) means);
      within = (moves page (last_name [] h.spelled.read) old.at x b).1;
    } in
    subst (λ (y : Reading). IsReading page y after next) (sym is) more

-- the token is refused
pub token_refused : (page : List ℕ) (r : Reading) (before : List ℕ) (s next : State) (x : Lexed) (t : Token) (fault : PageFault) → IsReading page r before s → Begins r.text r.name r.at x → Means before x (tok_of t) → from_of t ≡ begin_of x → Takes s t (Err fault) next → IsMemory fault ⊎ IsPageFault page fault.reason fault.at
token_refused page r before s next x t fault h begins means from (inl memory) = inl memory
token_refused page r before s next x t fault h begins means from (inr refused) =
    let b = next_begins page r before s h x begins in
    let m = next_means page r before s h x (tok_of t) means in
    let at : fault.at ≡ r.at = refused.0 ∙ from ∙ begins_at page r.at x (lies page (last_name [] h.spelled.read) r.at x b) in
    inr (subst (IsPageFault page fault.reason) (sym at) (tree_fault page r.at h.tokens h.spelled (Some (tok_of t)) fault.reason h.gets_root (x, b, m) (refused.1 h.tokens h.led)))

-- the markup is refused
pub lexer_refused : (page : List ℕ) (r : Reading) (before : List ℕ) (s : State) (fault : PageFault) → IsReading page r before s → StepAt r.text r.name r.at (Fails fault.reason) → fault.at ≡ r.at → IsPageFault page fault.reason fault.at
lexer_refused page r before s fault h fails at =
    let f = subst (λ n. StepAt page n r.at (Fails fault.reason)) h.named (subst (λ p. StepAt p r.name r.at (Fails fault.reason)) h.same fails) in
    subst (IsPageFault page fault.reason) (sym at) (markup_fault page r.at h.tokens h.spelled s fault.reason h.gets_root h.led f)

-- the end of the page
at_page_end : (page : List ℕ) (r : Reading) (before : List ℕ) (s : State) → IsReading page r before s → r.at ≡ length r.text → r.at ≡ length page
at_page_end page r before s h e = e ∙ ap length h.same

pub end_builds : (page : List ℕ) (r : Reading) (before : List ℕ) (s : State) (doc : Document) → IsReading page r before s → r.at ≡ length r.text → AllBuild s doc → BuildsPage page doc
end_builds page r before s doc h e builds = page_builds page r.at h.tokens doc h.gets_root h.spelled (at_page_end page r before s h e) (builds h.tokens h.led)

pub end_refused : (page : List ℕ) (r : Reading) (before : List ℕ) (s : State) (fault : PageFault) → IsReading page r before s → r.at ≡ length r.text → EndRefused s (length page) fault → IsMemory fault ⊎ IsPageFault page fault.reason fault.at
end_refused page r before s fault h e (inl memory) = inl memory
end_refused page r before s fault h e (inr refused) =
    let at : r.at ≡ length page = at_page_end page r before s h e in
    inr (subst (IsPageFault page fault.reason) (at ∙ sym refused.0) (tree_fault page r.at h.tokens h.spelled None fault.reason h.gets_root at (refused.1 h.tokens h.led)))

pub no_utf8 : IsUtf8 []
no_utf8 = search rules

pub end_refusals : {D : Type 0} (page : List ℕ) (r : Reading) (before : List ℕ) (s : State) (result : Result D PageFault) → IsReading page r before s → r.at ≡ length r.text → IfErr result (λ fault. EndRefused s (length page) fault) → IfErr result (λ fault. IsMemory fault ⊎ IsPageFault page fault.reason fault.at)
end_refusals page r before s (Ok done) h e refused = refused
end_refusals page r before s (Err fault) h e refused = end_refused page r before s fault h e refused

pub end_answers : {D : Type 0} (doc : D → Document) (page : List ℕ) (r : Reading) (before : List ℕ) (s : State) (result : Result D PageFault) → IsReading page r before s → r.at ≡ length r.text → IfOk result (λ done. AllBuild s (doc done)) → IfOk result (λ done. BuildsPage page (doc done))
end_answers doc page r before s (Ok done) h e builds = end_builds page r before s (doc done) h e builds
end_answers doc page r before s (Err fault) h e builds = builds
