-- What the private functions of `contents`, `rules` and `lexer` say.
use Rattle.std.specs.Prelude.{◌≡◌, ℕ, ◌<◌, true, List, ◌++◌, Option, Some, None, slice_index}
use Rattle.text_base.specs.Text.{IsPlace, is_space5}
use Rattle.css_lexer.specs.declared.contents.Content.{Content}
use Rattle.css_lexer.specs.declared.rules.Rule.{Rule}
use Rattle.css_lexer.specs.declared.rules.Rule.TheVariants as rule
use Rattle.css_lexer.specs.declared.tokens.CssToken.{CssToken}
use Rattle.css_lexer.specs.Contents.{Reads}
use Rattle.text_base.specs.Text.{is_digit}
use Rattle.css_lexer.specs.Tokens.{starts_ident}

-- the content from i up to j is read, and its value is added
pub record Pushes (content : Content) (text : List ℕ) (i : ℕ) (old : List ℕ) (j : ℕ) (new : List ℕ) : Type 0 where
  pub value : List ℕ
  pub reads : Reads content text i j value
  pub added : new ≡ old ++ value

-- what stands at i where the rule may fit
abbrev pub Begins : Rule → List ℕ → ℕ → Type 0
Begins rule.Space text i = is_space5 (slice_index text i) ≡ true
Begins rule.Name text i = starts_ident text i ≡ true
Begins rule.Hash text i = slice_index text i ≡ 35
Begins rule.Double text i = slice_index text i ≡ 34
Begins rule.Single text i = slice_index text i ≡ 39
Begins rule.Digits text i = is_digit (slice_index text i) ≡ true
Begins rule.Symbol text i = Unit {0}

-- the token ends after i, where the text may be cut
pub record EndsAfter (text : List ℕ) (i : ℕ) (t : CssToken) : Type 0 where
  pub moves : i < t.to
  pub place : IsPlace text t.to

abbrev pub EndsIfSome : List ℕ → ℕ → Option CssToken → Type 0
EndsIfSome text i None = Unit {0}
EndsIfSome text i (Some t) = EndsAfter text i t
