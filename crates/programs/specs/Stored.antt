-- The tests that scripts may ask of the program.
use Rattle.std.specs.Prelude.{[], ◌∷◌, codes}
use Rattle.test_registry.specs.declared.kinds.TestKind.TheVariants.{SameFolded, EndsWith, HasWord, Near}
use Rattle.test_registry.specs.Names.{Known}

-- their names and kinds
abbrev pub program_tests : Known
program_tests = (codes "same", SameFolded) ∷ (codes "ends-with", EndsWith) ∷ (codes "has-word", HasWord) ∷ (codes "near", Near 100) ∷ []
