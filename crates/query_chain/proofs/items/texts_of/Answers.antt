use Rattle.query_chain.proofs.ItemTexts.{texts_themselves}
use Rattle.query_chain.proofs.items.texts_of.Goals as goal

pub returns-then-are_within-clause-texts : goal.returns-then-are_within-clause-texts
returns-then-are_within-clause-texts g c = rw c.in-Texts.is (texts_themselves (g.T.Tree.document c.args.tree.now) c.in-Texts.texts.items)
