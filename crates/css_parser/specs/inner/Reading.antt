-- For the contracts of private functions alone: readings that go as far as they can.
use Rattle.std.specs.Prelude.{◌≡◌, ℕ, ◌<◌, ◌≤◌, ◌+◌, ◌-◌, ◌==◌, Bool, false, if◌then◌else◌, List, [], ◌∷◌, All, length, get_or, slice_range, count_by, ◌++◌, Option, Some, None, Result, Ok, Err}
use Rattle.css_selectors.specs.declared.selector.Link.{Link}
use Rattle.css_lexer.specs.declared.tokens.CssToken.{CssToken}
use Rattle.css_parser.specs.declared.pieces.Compound.{Compound}
use Rattle.css_parser.specs.declared.pieces.Read.{Read}
use Rattle.css_parser.specs.declared.pieces.FormRead.{FormRead}
use Rattle.css_parser.specs.declared.pieces.ElementRead.{ElementRead}
use Rattle.css_parser.specs.declared.pieces.Form.TheVariants as form
use Rattle.css_parser.specs.declared.pieces.Word.{Word}
use Rattle.css_parser.specs.declared.pieces.FormsRead.{FormsRead}
use Rattle.css_parser.specs.declared.pieces.InnerRead.{InnerRead}
use Rattle.css_parser.specs.declared.pieces.Inner.{Inner}
use Rattle.css_parser.specs.declared.pieces.InnersRead.{InnersRead}
use Rattle.css_parser.specs.declared.pieces.ListRead.{ListRead}
use Rattle.css_parser.specs.declared.pieces.CompoundRead.{CompoundRead}
use Rattle.css_parser.specs.declared.pieces.SelectorRead.{SelectorRead}
use Rattle.css_parser.specs.declared.pieces.LinkRead.{LinkRead}
use Rattle.css_parser.specs.Choices.{Reader, Forms, simple, deep, form_read, word_at, further_at}
use Rattle.css_parser.specs.Simples.{is_opening, is_closing, is_more_closed}
use Rattle.css_lexer.specs.declared.tokens.CssKind.TheVariants as kind
use Rattle.css_parser.specs.Places.{stands}
use Rattle.text_base.specs.declared.reasons.SelectorFault.{SelectorFault}
use Rattle.text_base.specs.declared.reasons.SelectorFault.TheVariants as fault
use Rattle.css_parser.specs.Grammar.{IsCompound, IsSelector, From, Reads}
use Rattle.css_parser.specs.Links.{combinator}

-- no compound is read at i
abbrev pub NoCompound : List ℕ → List CssToken → ℕ → Type 0
NoCompound text ts i = (c : Compound) (j : ℕ) → IsCompound text ts i c j → ⊥

-- behind the place that a combinator leads to no compound is read
abbrev pub NoFurther : List ℕ → List CssToken → ℕ → Type 0
NoFurther text ts i = (r : LinkRead) → combinator ts i ≡ Some r → NoCompound text ts r.end

-- a selector cannot go on at i
pub record IsEnd (text : List ℕ) (ts : List CssToken) (i : ℕ) : Type 0 where
  pub no_simple : simple text ts i ≡ None
  pub no_further : NoFurther text ts i

-- the tokens stand in the text
abbrev pub AreInside : List ℕ → List CssToken → Type 0
AreInside text ts = All (λ t. (t.from ≤ t.to) × (t.to ≤ length text)) ts

-- a reading ends behind its place, and not behind the last token
pub record IsBehind (ts : List CssToken) (i j : ℕ) : Type 0 where
  pub moves : i < j
  pub within : j ≤ length ts

abbrev pub EndsElement : List CssToken → ℕ → Option ElementRead → Type 0
EndsElement ts i None = Unit {0}
EndsElement ts i (Some r) = IsBehind ts i r.end

abbrev pub Ends : List CssToken → ℕ → Option Read → Type 0
Ends ts i None = Unit {0}
Ends ts i (Some r) = IsBehind ts i r.end

abbrev pub EndsForm : List CssToken → ℕ → Option FormRead → Type 0
EndsForm ts i None = Unit {0}
EndsForm ts i (Some r) = IsBehind ts i r.end

-- of the Functions from i up to j so many are open, and none was closed that was not open
pub record IsOpen (ts : List CssToken) (i j depth : ℕ) : Type 0 where
  pub counts : depth + count_by is_closing (slice_range ts i j) ≡ count_by is_opening (slice_range ts i j)
  pub before : (k : ℕ) → i ≤ k → k < j → is_more_closed ts i k ≡ false

-- how many Functions are open behind a token, or none where it closes one that is not open
abbrev pub depth_by : Bool → Bool → ℕ → Option ℕ
depth_by opens closes depth = if opens then Some (depth + 1) else (if closes then (if depth == 0 then None else Some (depth - 1)) else Some depth)

abbrev pub depth_behind : List CssToken → ℕ → ℕ → Option ℕ
depth_behind ts i depth = depth_by (stands kind.Function ts i) (stands kind.CloseRound ts i) depth

abbrev pub EndsLink : List CssToken → ℕ → Option LinkRead → Type 0
EndsLink ts i None = Unit {0}
EndsLink ts i (Some r) = IsBehind ts i r.end

abbrev pub EndsInner : List CssToken → ℕ → Option InnerRead → Type 0
EndsInner ts i None = Unit {0}
EndsInner ts i (Some r) = IsBehind ts i r.end

abbrev pub EndsInners : List CssToken → ℕ → Option InnersRead → Type 0
EndsInners ts i None = Unit {0}
EndsInners ts i (Some r) = IsBehind ts i r.end

abbrev pub EndsList : List CssToken → ℕ → Option ListRead → Type 0
EndsList ts i None = Unit {0}
EndsList ts i (Some r) = IsBehind ts i r.end

-- from i up to j stand these inners, each behind its combinator
abbrev pub Parts : List ℕ → List CssToken → Reader → ℕ → List Inner → ℕ → Type 0
Parts text ts f i [] j = i ≡ j
Parts text ts f i (x ∷ xs) j = (k : ℕ) × (further_at text ts f i ≡ Some (record { inner = x; end = k })) × Parts text ts f k xs j

abbrev pub deep_end : Option ℕ → Option FormRead
deep_end None = None
deep_end (Some j) = Some (form_read form.Deep j)

-- where the choice at i ends, if one is read there
abbrev pub IsChoiceEnd : List ℕ → List CssToken → ℕ → Option ℕ → Type 0
IsChoiceEnd text ts i end = (w : Word) → word_at ts i ≡ Some w → deep_end end ≡ deep text ts i

-- where the choices end, from that of the last token to the first
abbrev pub IsTable : List ℕ → List CssToken → List (Option ℕ) → Type 0
IsTable text ts ends = (i : ℕ) → i < length ts → length ts ≤ i + length ends → IsChoiceEnd text ts i (get_or ends (length ts - 1 - i) None)

-- a choice begins with two tokens
abbrev pub Begins : List CssToken → ℕ → Option Word → Type 0
Begins ts i None = Unit {0}
Begins ts i (Some w) = i + 1 < length ts

-- as many forms as stand at i
pub record IsFormsRead (ts : List CssToken) (f : Reader) (i : ℕ) (r : FormsRead) : Type 0 where
  pub reads : Forms f i r.forms r.end
  pub stops : f r.end ≡ None
  pub order : i ≤ r.end
  pub within : r.end ≤ length ts

-- a compound, as long as it goes
pub record IsWholeCompound (text : List ℕ) (ts : List CssToken) (l : Link) (i : ℕ) (r : CompoundRead) : Type 0 where
  pub link : r.compound.link ≡ l
  pub is : IsCompound text ts i r.compound r.end
  pub stops : simple text ts r.end ≡ None
  pub order : i < r.end
  pub within : r.end ≤ length ts

abbrev pub IsCompoundRead : List ℕ → List CssToken → Link → ℕ → Option CompoundRead → Type 0
IsCompoundRead text ts l i None = NoCompound text ts i
IsCompoundRead text ts l i (Some r) = IsWholeCompound text ts l i r

-- a combinator and a compound, as long as it goes
pub record IsLinked (text : List ℕ) (ts : List CssToken) (i : ℕ) (r : CompoundRead) : Type 0 where
  pub place : ℕ
  pub combines : combinator ts i ≡ Some (record { link = r.compound.link; end = place })
  pub is : IsCompound text ts place r.compound r.end
  pub stops : simple text ts r.end ≡ None
  pub order : i < r.end
  pub within : r.end ≤ length ts

abbrev pub IsFurtherRead : List ℕ → List CssToken → ℕ → Option CompoundRead → Type 0
IsFurtherRead text ts i None = NoFurther text ts i
IsFurtherRead text ts i (Some r) = IsLinked text ts i r

-- a selector, as long as it goes
pub record IsWholeSelector (text : List ℕ) (ts : List CssToken) (i : ℕ) (r : SelectorRead) : Type 0 where
  pub is : IsSelector text ts i r.compounds r.end
  pub ends : IsEnd text ts r.end
  pub order : i < r.end
  pub within : r.end ≤ length ts

abbrev pub IsSelectorRead : List ℕ → List CssToken → ℕ → Option SelectorRead → Type 0
IsSelectorRead text ts i None = NoCompound text ts i
IsSelectorRead text ts i (Some r) = IsWholeSelector text ts i r

-- what is left of every list of all tokens is read from i on, behind these selectors
pub record IsReadUpTo (text : List ℕ) (ts : List CssToken) (done : List (List Compound)) (i : ℕ) : Type 0 where
  pub goes : (rest : List (List Compound)) → From text ts i rest → Reads text ts (done ++ rest)
  pub back : (all : List (List Compound)) → Reads text ts all → (rest : List (List Compound)) × From text ts i rest

abbrev pub IsListRead : List ℕ → List CssToken → Result (List (List Compound)) SelectorFault → Type 0
IsListRead text ts (Ok list) = Reads text ts list
IsListRead text ts (Err fault.Syntax) = (list : List (List Compound)) → Reads text ts list → ⊥
IsListRead text ts (Err fault.Memory) = Unit {0}
IsListRead text ts (Err _) = ⊥
