use Rattle.std.proofs.Common.{sym, ◌∙◌, ap, arith, ◌++◌, map, encode_utf8_all}
use Rattle.std.specs.Str.{chars}
use Rattle.std.proofs.lemmas.List.{append-nil, drop_all}
use Rattle.std.proofs.lemmas.Str.{encodes-chars}
use Rattle.text_base.specs.Text.{is_space4}
use Rattle.text_base.specs.Words.{words, words_by}
use Rattle.text_base.proofs.Boundaries.{at_start}
use Rattle.text_base.proofs.WordLemmas.{texts_same, words_bytes, space4_ascii}
use Rattle.text_base.proofs.words.words_of.Goals as goal

pub loop-at-init : goal.loop-at-init
loop-at-init c = record {
  place = at_start c.args.text.now c.utf8.text;
  so_far = ap (λ ws. map encode_utf8_all ws ++ words_by is_space4 c.args.text.now) c.new-found.ensures.items;
}

pub returns : goal.returns
returns c = c.from_vec.ensures ∙ texts_same c.loop-at.found.items (words (chars c.args.text.now))
    (sym (append-nil (map encode_utf8_all c.loop-at.found.items))
    ∙ ap (λ t. map encode_utf8_all c.loop-at.found.items ++ words_by is_space4 t) (sym (drop_all c.loop-at.at c.args.text.now (omega arith)))
    ∙ c.loop-at.invariant.so_far
    ∙ ap (words_by is_space4) (sym (encodes-chars c.args.text.now c.utf8.text))
    ∙ words_bytes is_space4 space4_ascii (chars c.args.text.now))
