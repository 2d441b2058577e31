use Rattle.std.proofs.Common.{◌≡◌, List, ℕ, ◌∷◌, ◌++◌, [], ◌∙◌, ap, arith}
use Rattle.std.proofs.lemmas.Str.Pattern.{strip_prefix_char, strip_suffix_char}
use Rattle.std.proofs.Common.{Some}
use Rattle.xpath_eval.proofs.SpacedTexts.{spaced_chars}
use Rattle.xpath_eval.proofs.words.inside_spaces.Goals as goal

pub returns-then-is_word-clause-text : goal.returns-then-is_word-clause-text
returns-then-is_word-clause-text c =
    let text = c.args.text.now in
    let rest = c.in_ok-rest.rest.now in
    let word = c.in_ok-word.word.now in
    let front : text ≡ 32 ∷ rest = strip_prefix_char 32 text (Some c.in_ok-rest.rest) c.in_ok-rest.ensures.cases (omega arith) in
    let back : rest ≡ word ++ 32 ∷ [] = strip_suffix_char 32 rest (Some c.in_ok-word.word) c.in_ok-word.ensures.cases (omega arith) in
    spaced_chars text word c.is_word.ensures.utf8 (front ∙ ap (λ (r : List ℕ). 32 ∷ r) back)
