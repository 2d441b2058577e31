-- The kind of bytes that words are made of.
use Rattle.std.specs.Prelude.{ℕ, Bool, not, ◌⊎◌}
use Rattle.std.proofs.Common.{arith, inl}
use Rattle.std.proofs.lemmas.Bool.Decides.{nat_tests}
use Rattle.text_base.specs.Text.{is_space5, IsWide, IsNarrow}

-- all but white space
abbrev pub not_space5 : ℕ → Bool
not_space5 b = not (is_space5 b)

pub not_space5_wide : IsWide not_space5 ⊎ IsNarrow not_space5
not_space5_wide = inl (λ b past. grind (arith, nat_tests))
