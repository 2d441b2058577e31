use Rattle.xpath_parser.proofs.tiers.+expr.Given as goal

abbrev pub decreases-expr : goal.decreases-expr
decreases-expr l = l.depth
