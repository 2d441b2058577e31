-- What holds of all texts.
use Rattle.std.specs.Prelude.{◌≡◌, ◌⊎◌, ℕ, ◌≤◌, List, length}
use Rattle.css_lexer.specs.declared.tokens.CssToken.{CssToken}
use Rattle.css_lexer.specs.Tokens.{Lexes, Stops, most_selector}

abbrev pub HasOneList : Type 0
HasOneList = (text : List ℕ) (tokens others : List CssToken) → Lexes text tokens → Lexes text others → tokens ≡ others

abbrev pub IsReadOrStops : Type 0
IsReadOrStops = (text : List ℕ) (tokens : List CssToken) → Lexes text tokens → Stops text → ⊥

-- tokens spell a text that is not too long, or it stops
abbrev pub IsListOrStop : Type 0
IsListOrStop = (text : List ℕ) → length text ≤ most_selector → ((tokens : List CssToken) × Lexes text tokens) ⊎ Stops text
