use Rattle.std.proofs.Common.{get_or, not, false, ◌≡◌, ◌-◌, ◌<◌, ◌++◌, [], ◌∷◌, map, drop, take, sym, ◌∙◌, ap, arith, encode_utf8_all, append_assoc}
use Rattle.text_base.specs.Text.{is_space4, not_space4}
use Rattle.text_base.specs.Words.{words_by}
use Rattle.text_base.proofs.WordLemmas.{words_on, word_at, space4_other, space4_one}
use Rattle.text_base.proofs.Runs.{run_end_stops, run_end_moves}
use Rattle.std.proofs.lemmas.List.{map_push}
use Rattle.std.proofs.lemmas.Str.{encodes-chars}
use Rattle.text_base.proofs.words.push_word.Goals as goal

pub returns-then-start-text-clause-kept : goal.returns-then-start-text-clause-kept
returns-then-start-text-clause-kept c =
    ap (λ ws. map encode_utf8_all c.args.words.now.items ++ ws) (sym (words_on is_space4 c.args.text.now c.args.at c.run_end-start.result c.run_end-start.ensures.end))

pub returns-clause-kept : goal.returns-clause-kept
returns-clause-kept c =
    let start = c.run_end-start.result in
    let end = c.run_end-end.result in
    let text = c.args.text.now in
    let none : is_space4 (get_or text start 0) ≡ false =
    ap (λ n. is_space4 (get_or text n 0)) c.run_end-start.ensures.end
    ∙ run_end_stops is_space4 text c.args.at (let e = c.run_end-start.ensures.end in omega arith) in
    let some : start < end = run_end_moves not_space4 text start end c.run_end-end.ensures.end (omega arith) (ap not none) in
    let word : encode_utf8_all c.in_ok-of.field-0 ≡ take (end - start) (drop start text) =
    ap encode_utf8_all c.in_ok-of.ensures ∙ encodes-chars c.part.result.now c.part.utf8 ∙ c.part.ensures in
    ap (λ ws. map encode_utf8_all ws ++ words_by is_space4 (drop end text)) c.in_ok-push.ensures.items
    ∙ ap (λ ws. ws ++ words_by is_space4 (drop end text)) (map_push encode_utf8_all c.args.words.now.items c.in_ok-of.field-0)
    ∙ append_assoc (map encode_utf8_all c.args.words.now.items) (encode_utf8_all c.in_ok-of.field-0 ∷ []) (words_by is_space4 (drop end text))
    ∙ ap (λ w. map encode_utf8_all c.args.words.now.items ++ (w ∷ words_by is_space4 (drop end text))) word
    ∙ ap (λ ws. map encode_utf8_all c.args.words.now.items ++ ws)
    (sym (word_at is_space4 not_space4 text start end space4_other space4_one some (omega arith) c.run_end-end.ensures.end)
    ∙ sym (words_on is_space4 text c.args.at start c.run_end-start.ensures.end))
