use Rattle.std.proofs.Common.{refl}
use Rattle.test_registry.specs.Names.{taken}
use Rattle.xpath_parser.specs.Terms.{node_type_names, function_names}
use Rattle.xpath_parser.proofs.laws.taken_names.Goals as goal

pub returns : goal.returns
unfolding taken node_type_names function_names
returns c = refl
