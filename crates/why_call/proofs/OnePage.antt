-- The answer of a page that was read, and what was written of it.
use Rattle.std.proofs.Common.{◌≡◌, refl, ℕ, List, [], ◌∷◌, Option, Some, None, sym, ◌∙◌, ap, subst}
use Rattle.std.specs.Prelude.{IfSome, Bool, true, false}
use Rattle.io_edges.specs.Laws.{TakingLaw}
use Rattle.io_edges.specs.Pages.{page, Has, IsTooLong}
use Rattle.io_edges.specs.Sink.{grown, TakesPart}
use Rattle.extract_call.specs.Answers.{Answer, line_bytes}
use Rattle.extract_call.specs.inner.OnePage.{TakesLine, TakesLinePart}
use Rattle.extract_call.specs.PageLines.{most_page, too_long}
use Rattle.extract_call.proofs.Walk.{SoFar}
use Rattle.why_call.specs.inner.Below.{Below}
use Rattle.why_call.specs.Pages.{byte_text, IsPageAnswer, MakesAnswers}
use Rattle.why_call.proofs.OneAnswer.{one_page_answer}
use Rattle.why_call.proofs.PageTexts.{long_answer}

-- where the pages are told, this one is there, and this is its answer
abbrev pub IsToldAnswer : Option (List (List ℕ × List ℕ)) → List ℕ → Answer → Type 0
IsToldAnswer told name a = IfSome told (λ pages. (bytes : List ℕ) × ((page pages name ≡ Some bytes) × IsPageAnswer bytes a))

-- the answer of a page that was read whole
pub of_whole : (name bytes : List ℕ) (told : Option (List (List ℕ × List ℕ))) (a : Answer) → Has told name bytes → IsPageAnswer bytes a → IsToldAnswer told name a
of_whole name bytes None a h l = tt
of_whole name bytes (Some pages) a h l = (bytes, (h, l))

-- the answer of a page past the limit
pub of_long : (name : List ℕ) (told : Option (List (List ℕ × List ℕ))) (a : Answer) → IsTooLong told name most_page
    → a ≡ record { text = byte_text too_long; refused = true } → IsToldAnswer told name a
of_long name None a h e = tt
of_long name (Some pages) a h e = (h.0, (h.1, long_answer h.0 a h.2 e))

-- the answer was taken
pub answer_taken : Below → (line : List ℕ → List ℕ → Answer) → MakesAnswers line → (told : Option (List (List ℕ × List ℕ))) (name : List ℕ) (old new : Option (List ℕ)) (a : Answer) (refused : Bool)
    → IsToldAnswer told name a → a.refused ≡ refused → new ≡ grown old (line_bytes a) → TakesLine line told name old new refused
answer_taken below line makes None name old new a refused h r t = tt
answer_taken below line makes (Some pages) name old new a refused h r t =
    let same : a ≡ line name h.0 = one_page_answer below h.0 a (line name h.0) h.1.1 (makes name h.0) in
    (h.0, (h.1.0, (ap (λ (x : Answer). x.refused) (sym same) ∙ r, t ∙ ap (λ (x : Answer). grown old (line_bytes x)) same)))

-- a part of the answer was taken
pub answer_part : Below → (line : List ℕ → List ℕ → Answer) → MakesAnswers line → (told : Option (List (List ℕ × List ℕ))) (name : List ℕ) (old new : Option (List ℕ)) (a : Answer)
    → IsToldAnswer told name a → TakesPart old (line_bytes a) new → TakesLinePart line told name old new
answer_part below line makes None name old new a h t = tt
answer_part below line makes (Some pages) name old new a h t =
    let same : a ≡ line name h.0 = one_page_answer below h.0 a (line name h.0) h.1.1 (makes name h.0) in
    (h.0, (h.1.0, subst (λ (x : Answer). TakesPart old (line_bytes x) new) same t))

-- before the page nothing was written
pub start : TakingLaw → (line : List ℕ → List ℕ → Answer) (told : Option (List (List ℕ × List ℕ))) (name : List ℕ) (old : Option (List ℕ)) → IfSome told (λ t. SoFar line t (name ∷ []) 0 old old false)
start law line None name old = tt
start law line (Some pages) name old = record { there = tt; are = law.nothing old; truth = refl }
