use Rattle.std.proofs.Common.{refl, arith}
use Rattle.css_lexer.proofs.CommentLemmas.{comments_more}
use Rattle.css_lexer.proofs.lexer.past_comments.Goals as goal

pub loop-from-preserved : goal.loop-from-preserved
loop-from-preserved c =
    let kept = c.loop-from.invariant in
    let place = c.comment_len-n.ensures.place in
    record {
      order = omega (arith, kept.order);
      within = place.within;
      place = place;
      comes = λ end later. kept.comes end (comments_more c.args.text.now c.loop-from.at end _ c.comment_len-n.result c.comment_len-n.ensures.len refl (omega arith) later);
    }
