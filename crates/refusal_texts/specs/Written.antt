-- What is written about a refusal, without the line feed at its end.
use Rattle.std.specs.Prelude.{ℕ, List, ◌++◌, codes, Option, Some, None}
use Rattle.refusal_texts.specs.declared.refusal.Refusal.{Refusal}
use Rattle.refusal_texts.specs.Places.{place_text}
use Rattle.refusal_texts.specs.Refusals.{family, name}
use Rattle.refusal_texts.specs.Sentences.{sentence}
use Rattle.refusal_texts.specs.Advice.{advice}
use Rattle.refusal_texts.specs.Shown.{shown_line, mark_line}

-- `css.Syntax: the tokens do not read as a selector`
abbrev pub reason_text : Refusal → List ℕ
reason_text r = family r ++ (codes "." ++ (name r ++ (codes ": " ++ sentence r)))

-- `instead: close each bracket`
abbrev pub advice_text : Refusal → List ℕ
advice_text r = codes "instead: " ++ advice r

-- Two lines: why, and what to write instead. With a place in the text the first begins with its line and column, and
-- between them stand the line that it is on and the mark below it.
abbrev pub refusal_text : Refusal → List ℕ → Option ℕ → List ℕ
refusal_text r text None = reason_text r ++ (codes "\n" ++ advice_text r)
refusal_text r text (Some place) =
    place_text text place ++ (codes ": " ++ (reason_text r ++ (codes "\n" ++ (shown_line text place ++ (codes "\n" ++ (mark_line text place ++ (codes "\n" ++ advice_text r)))))))
