-- A token at a place, and where its value may be cut.
use Rattle.std.specs.Prelude.{◌≡◌, ℕ, ◌+◌, ◌-◌, ◌≤◌}
use Rattle.text_base.specs.Text.{IsPlace}
use Rattle.xpath_lexer.specs.declared.token.XKind.{XKind}
use Rattle.xpath_lexer.specs.declared.token.XKind.TheVariants as k
use Rattle.xpath_lexer.specs.declared.token.XTok.{XTok}
use Rattle.xpath_lexer.specs.Tokens.{Text}
use Rattle.xpath_lexer.specs.Places.{IsToken}

-- the text may be cut where the value of the token stands
abbrev pub ValueStands : Text → XKind → ℕ → ℕ → Type 0
ValueStands text k.Literal from to = (from + 2 ≤ to) × IsPlace text (from + 1) × IsPlace text (to - 1)
ValueStands text _ from to = (from ≤ to) × IsPlace text from × IsPlace text to

-- the token at this place
pub record IsNext (text : Text) (at : ℕ) (w : XTok) : Type 0 where
  pub here : w.from ≡ at
  pub is : IsToken text at w
  pub place : IsPlace text w.to
