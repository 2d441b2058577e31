-- No kind of bytes here parts the bytes past ASCII.
use Rattle.std.specs.Prelude.{◌⊎◌}
use Rattle.std.proofs.Common.{arith, inl, inr}
use Rattle.std.proofs.lemmas.Bool.Decides.{nat_tests}
use Rattle.text_base.specs.Text.{IsWide, IsNarrow, is_space4, is_space5, not_space4}

pub space5_narrow : IsWide is_space5 ⊎ IsNarrow is_space5
space5_narrow = inr (λ b past. grind (arith, nat_tests))

pub space4_narrow : IsWide is_space4 ⊎ IsNarrow is_space4
space4_narrow = inr (λ b past. grind (arith, nat_tests))

pub not_space4_wide : IsWide not_space4 ⊎ IsNarrow not_space4
not_space4_wide = inl (λ b past. grind (arith, nat_tests))
