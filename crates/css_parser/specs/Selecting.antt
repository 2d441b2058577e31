-- Which texts are lists of selectors, and why a text is none.
use Rattle.std.specs.Prelude.{◌≡◌, ℕ, ◌<◌, length, List, Some, None}
use Rattle.css_selectors.specs.declared.selector.SelectorList.{SelectorList}
use Rattle.css_lexer.specs.declared.tokens.CssToken.{CssToken}
use Rattle.css_lexer.specs.Tokens.{Lexes, Stops, most_selector}
use Rattle.text_base.specs.declared.reasons.SelectorFault.{SelectorFault}
use Rattle.text_base.specs.declared.reasons.SelectorFault.TheVariants as fault
use Rattle.css_parser.specs.declared.pieces.Compound.{Compound}
use Rattle.css_parser.specs.Grammar.{Reads}
use Rattle.css_parser.specs.Refusals.{refusal}
use Rattle.css_parser.specs.Lists.{list_of}

-- tokens spell the text, the grammar reads them, nothing of it is refused, and this is the list
pub record Accepts (text : List ℕ) (list : SelectorList) : Type 0 where
  pub tokens : List CssToken
  pub spelled : Lexes text tokens
  pub found : List (List Compound)
  pub reads : Reads text tokens found
  pub allowed : refusal found ≡ None
  pub is_list : list ≡ list_of found

-- tokens spell the text, and the grammar reads them as no list
pub record IsUnread (text : List ℕ) : Type 0 where
  pub tokens : List CssToken
  pub spelled : Lexes text tokens
  pub unread : (found : List (List Compound)) → Reads text tokens found → ⊥

-- tokens spell the text, the grammar reads them, and this is the first of what is refused
pub record IsRefused (text : List ℕ) (f : SelectorFault) : Type 0 where
  pub tokens : List CssToken
  pub spelled : Lexes text tokens
  pub found : List (List Compound)
  pub reads : Reads text tokens found
  pub refused : refusal found ≡ Some f

-- Why the text is no list: it has more bytes than it may have, or no token begins at a place, or the grammar does not read
-- it, or something is refused. Memory is no reason of the text.
abbrev pub IsFault : List ℕ → SelectorFault → Type 0
IsFault text fault.Long = most_selector < length text
IsFault text fault.Text = Stops text
IsFault text fault.Syntax = IsUnread text
IsFault text fault.XPathLong = ⊥
IsFault text fault.Memory = ⊥
IsFault text f = IsRefused text f

-- why the text gives no list, where want of memory is always a reason
abbrev pub IsUnlisted : List ℕ → SelectorFault → Type 0
IsUnlisted text fault.Memory = Unit {0}
IsUnlisted text f = IsFault text f
