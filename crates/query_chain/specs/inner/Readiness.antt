-- Steps that are read and built.
use Rattle.std.specs.Prelude.{map, All, encode_utf8_all}
use Rattle.test_registry.specs.Names.{Known}
use Rattle.xpath_parser.specs.Laws.{IsReadOver}
use Rattle.query_script.specs.declared.script.ChainStep.{ChainStep}
use Rattle.query_script.specs.declared.script.ChainStep.TheVariants as step
use Rattle.query_chain.specs.declared.ready.ReadyChain.{ReadyChain}
use Rattle.query_chain.specs.declared.ready.ReadyChain.TheVariants as left
use Rattle.query_chain.specs.inner.Steps.{action_of, IsUsable}
use Rattle.query_chain.specs.Tasks.{Task, refuses, does}

-- the text of the query reads as an expression where these tests are stored
abbrev pub IsReadable : Known → ChainStep → Type 0
IsReadable tests (step.Query query) = IsReadOver tests (encode_utf8_all query)
IsReadable tests (step.Match pattern) = Unit {0}
IsReadable tests (step.Keep kind text) = Unit {0}

-- the task of what is left of a chain
abbrev pub task_of : ReadyChain → Task
task_of (left.Refused why) = refuses why
task_of (left.Steps steps end) = does (map action_of steps.items) end

-- each pattern that is left is built
abbrev pub IsSound : ReadyChain → Type 0
IsSound (left.Refused why) = Unit {0}
IsSound (left.Steps steps end) = All IsUsable steps.items
