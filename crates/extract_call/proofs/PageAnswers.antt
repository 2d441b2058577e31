-- The line of a page that was read, and what was written of it.
use Rattle.std.proofs.Common.{◌≡◌, refl, ℕ, List, Option, Some, None, inl, sym, ◌∙◌, ap, subst}
use Rattle.std.specs.Prelude.{IfSome, IfOk, Result, Ok, Bool, true}
use Rattle.text_base.specs.declared.memory.NoMemory.{NoMemory}
use Rattle.extract_call.specs.declared.answers.Line.{Line}
use Rattle.io_edges.specs.Pages.{page, Has, IsTooLong}
use Rattle.io_edges.specs.Sink.{grown, TakesPart}
use Rattle.json_lines.specs.Pages.{refused_text}
use Rattle.test_registry.specs.Names.{Known}
use Rattle.extract_call.specs.Below.{Below}
use Rattle.extract_call.specs.Answers.{Answer, line_bytes}
use Rattle.extract_call.specs.inner.OnePage.{TakesLine, TakesLinePart}
use Rattle.extract_call.specs.PageLines.{most_page, too_long, IsPageLine, MakesLines}
use Rattle.extract_call.specs.declared.asked.Asked.{Asked}
use Rattle.extract_call.specs.inner.Asked.{shown_by}
use Rattle.extract_call.proofs.PageReadings.{one_asked_line}

-- where the pages are told, this one is there, and this is its line
abbrev pub IsToldLine : Known → Asked → Option (List (List ℕ × List ℕ)) → List ℕ → Answer → Type 0
IsToldLine tests asked told name a = IfSome told (λ pages. (bytes : List ℕ) × ((page pages name ≡ Some bytes) × IsPageLine (shown_by tests asked) name bytes a))

-- the line of a page that was read whole
pub line_of_whole : (tests : Known) (asked : Asked) (name bytes : List ℕ) (told : Option (List (List ℕ × List ℕ))) (a : Answer) → Has told name bytes → IsPageLine (shown_by tests asked) name bytes a → IsToldLine tests asked told name a
line_of_whole tests asked name bytes None a h l = tt
line_of_whole tests asked name bytes (Some pages) a h l = (bytes, (h, l))

-- the line of a page past the limit
pub line_of_long : (tests : Known) (asked : Asked) (name : List ℕ) (told : Option (List (List ℕ × List ℕ))) (a : Answer) → IsTooLong told name most_page
    → a ≡ record { text = refused_text name too_long; refused = true } → IsToldLine tests asked told name a
line_of_long tests asked name None a h e = tt
line_of_long tests asked name (Some pages) a h e = (h.0, (h.1, inl (record { fault = too_long; cause = inl (record { long = h.2; is = refl }); line = e })))

-- the line was taken
pub line_taken : Below → (tests : Known) (asked : Asked) (line : List ℕ → List ℕ → Answer) → MakesLines (shown_by tests asked) line → (told : Option (List (List ℕ × List ℕ))) (name : List ℕ) (old new : Option (List ℕ)) (a : Answer) (refused : Bool)
    → IsToldLine tests asked told name a → a.refused ≡ refused → new ≡ grown old (line_bytes a) → TakesLine line told name old new refused
line_taken below tests asked line makes None name old new a refused h r t = tt
line_taken below tests asked line makes (Some pages) name old new a refused h r t =
    let same : a ≡ line name h.0 = one_asked_line below tests asked name h.0 a (line name h.0) h.1.1 (makes name h.0) in
    (h.0, (h.1.0, (ap (λ (x : Answer). x.refused) (sym same) ∙ r, t ∙ ap (λ (x : Answer). grown old (line_bytes x)) same)))

-- a part of the line was taken
pub line_part : Below → (tests : Known) (asked : Asked) (line : List ℕ → List ℕ → Answer) → MakesLines (shown_by tests asked) line → (told : Option (List (List ℕ × List ℕ))) (name : List ℕ) (old new : Option (List ℕ)) (a : Answer)
    → IsToldLine tests asked told name a → TakesPart old (line_bytes a) new → TakesLinePart line told name old new
line_part below tests asked line makes None name old new a h t = tt
line_part below tests asked line makes (Some pages) name old new a h t =
    let same : a ≡ line name h.0 = one_asked_line below tests asked name h.0 a (line name h.0) h.1.1 (makes name h.0) in
    (h.0, (h.1.0, subst (λ (x : Answer). TakesPart old (line_bytes x) new) same t))

-- what holds of a made line
pub ok_at : (made : Result Line NoMemory) (line : Line) (P : Line → Type 0) → made ≡ Ok line → IfOk made P → P line
ok_at made line P e h = subst (λ (r : Result Line NoMemory). IfOk r P) e h
