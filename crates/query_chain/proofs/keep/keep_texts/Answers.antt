use Rattle.std.proofs.Common.{rules}
use Rattle.std.proofs.lemmas.Fn.{filter_same}
use Rattle.query_chain.proofs.keep.keep_texts.Goals as goal

pub returns-clause-texts : goal.returns-clause-texts
returns-clause-texts g c = filter_same _ _ _ (λ x b f' k. search rules) _ _ c.retain.ensures.filtered
