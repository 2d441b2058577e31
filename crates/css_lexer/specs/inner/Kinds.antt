-- No kind of bytes here parts the bytes past ASCII.
use Rattle.std.specs.Prelude.{◌⊎◌}
use Rattle.std.proofs.Common.{arith, inl, inr}
use Rattle.std.proofs.lemmas.Bool.Decides.{nat_tests}
use Rattle.text_base.specs.Text.{IsWide, IsNarrow}
use Rattle.css_lexer.specs.declared.contents.Content.{Content}
use Rattle.css_lexer.specs.declared.contents.Content.TheVariants.{Name, Double, Single}
use Rattle.css_lexer.specs.Contents.{is_plain}
use Rattle.text_base.specs.Text.{is_digit}

pub plain_wide : (content : Content) → IsWide (is_plain content) ⊎ IsNarrow (is_plain content)
plain_wide Name = inl (λ b past. grind (arith, nat_tests))
plain_wide Double = inl (λ b past. grind (arith, nat_tests))
plain_wide Single = inl (λ b past. grind (arith, nat_tests))

pub digit_narrow : IsWide is_digit ⊎ IsNarrow is_digit
digit_narrow = inr (λ b past. grind (arith, nat_tests))
