-- Where an expression is evaluated.
use Rattle.xpath_parser.specs.Functions.{Context}
use Rattle.xpath_eval.specs.declared.place.Place.{Place}

abbrev pub context : Place → Context
context p = record { row = p.row; position = p.position; size = p.size }
