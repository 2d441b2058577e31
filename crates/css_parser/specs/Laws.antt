-- What holds of all texts.
use Rattle.std.specs.Prelude.{◌≡◌, ◌⊎◌, Bool, ℕ, ◌+◌, ◌≤◌, List, length, Option, Some, None}
use Rattle.std.specs.Str.{IsUtf8}
use Rattle.css_lexer.specs.declared.tokens.CssToken.{CssToken}
use Rattle.css_lexer.specs.Tokens.{most_selector}
use Rattle.css_selectors.specs.declared.selector.SelectorList.{SelectorList}
use Rattle.css_selectors.specs.Texts.{AreTexts}
use Rattle.css_selectors.specs.WellMade.{WellMade}
use Rattle.text_base.specs.declared.reasons.SelectorFault.{SelectorFault}
use Rattle.css_parser.specs.declared.pieces.FormRead.{FormRead}
use Rattle.css_parser.specs.Simples.{piece_at}
use Rattle.css_parser.specs.Choices.{word_at, one_read, deep_read, members, choice_with, deep, simple_by}
use Rattle.css_parser.specs.Normal.{written}
use Rattle.css_parser.specs.Selecting.{Accepts, IsFault}
use Rattle.css_parser.specs.Writable.{IsWritable}

-- a text is accepted as one list at most
abbrev pub HasOneReading : Type 0
HasOneReading = (text : List ℕ) (list other : SelectorList) → Accepts text list → Accepts text other → list ≡ other

-- it has one fault at most, and none where it is accepted
abbrev pub HasOneFault : Type 0
HasOneFault = (text : List ℕ) (fault other : SelectorFault) → IsFault text fault → IsFault text other → fault ≡ other

abbrev pub IsListOrFault : Type 0
IsListOrFault = (text : List ℕ) (list : SelectorList) (fault : SelectorFault) → Accepts text list → IsFault text fault → ⊥

-- each text is accepted or has a fault
abbrev pub HasListOrFault : Type 0
HasListOrFault = (text : List ℕ) → ((list : SelectorList) × Accepts text list) ⊎ ((fault : SelectorFault) × IsFault text fault)

-- every accepted list is well made
abbrev pub IsWellMade : Type 0
IsWellMade = (text : List ℕ) (list : SelectorList) → Accepts text list → WellMade list

-- every list that is accepted of a text in UTF-8 has texts alone
abbrev pub HasTexts : Type 0
HasTexts = (text : List ℕ) (list : SelectorList) → IsUtf8 text → Accepts text list → AreTexts list

-- A list that is well made, of texts and writable is accepted of its plain text, where that is not too long. So the tokens, the
-- grammar and the list are held by a function that goes the other way.
abbrev pub HasNormalForm : Type 0
HasNormalForm = (list : SelectorList) → WellMade list → AreTexts list → IsWritable list → length (written list) ≤ most_selector → Accepts (written list) list

-- the grammar has no depth: a choice is read by what stands in it, which is read in the same way
abbrev pub IsReadAlike : Type 0
IsReadAlike = (text : List ℕ) (ts : List CssToken) (i : ℕ) → i ≤ length ts
    → deep text ts i ≡ choice_with text ts (word_at ts i) (one_read (piece_at text ts i)) (λ w. deep_read (members text ts (deep text ts) w (i + 2)))

abbrev pub end_of : Option FormRead → Option ℕ
end_of None = None
end_of (Some r) = Some r.end

-- whether it is read, and where it ends, is the same whatever is kept of it
abbrev pub KeepsEnds : Type 0
KeepsEnds = (text : List ℕ) (ts : List CssToken) (n i : ℕ) (within : Bool) → i ≤ length ts → end_of (simple_by text ts n within i) ≡ end_of (deep text ts i)
