use Rattle.query_chain.proofs.steps.given_texts.Goals as goal

pub texts_of-requires-in-First : goal.texts_of-requires-in-First
texts_of-requires-in-First g c = c.first.ensures.within (g.S.Tree.document c.args.source.now) c.requires
