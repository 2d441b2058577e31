-- What is written about a script, where some tests are stored.
use Rattle.std.specs.Prelude.{◌≡◌, ℕ, suc, ◌⊎◌, true, List, [], ◌∷◌, ◌++◌, codes, decimal, Option, Some, None, encode_utf8_all}
use Rattle.text_base.specs.declared.reasons.ScriptFault.{ScriptFault}
use Rattle.test_registry.specs.Names.{Known}
use Rattle.css_selectors.specs.declared.selector.Dialect.{Dialect}
use Rattle.query_script.specs.declared.script.Chain.{Chain}
use Rattle.query_script.specs.declared.script.Chain.TheVariants as chain
use Rattle.query_script.specs.declared.script.Field.{Field}
use Rattle.query_script.specs.declared.script.Reason.{Reason}
use Rattle.page_records.specs.declared.script.Entry.{Entry}
use Rattle.page_records.specs.declared.script.Entry.TheVariants as entry
use Rattle.page_records.specs.Braces.{entries_of}
use Rattle.page_records.specs.Scripts.{IsRecordScript, IsRecordFault}
use Rattle.extract_call.specs.Answers.{Answer}
use Rattle.refusal_texts.specs.declared.refusal.Refusal.TheVariants as refusal
use Rattle.refusal_texts.specs.Written.{refusal_text}
use Rattle.why_call.specs.Answers.{nothing, refused_at}

-- why a field or a block is refused, behind what stands before it; nothing where it is not
abbrev pub reason_said : List ℕ → Option Reason → List ℕ
reason_said head None = []
reason_said head (Some why) = head ++ (codes "\n" ++ refusal_text (refusal.Field why) [] None)

abbrev pub reason_of : Chain → Option Reason
reason_of (chain.Steps steps take) = None
reason_of (chain.Refused why) = Some why

-- a line feed, the number of a piece, and its name
abbrev pub head_text : List ℕ → List ℕ → List ℕ
head_text number name = codes "\npiece " ++ (number ++ (codes " `" ++ (encode_utf8_all name ++ codes "`")))

-- the same with the text of the piece behind it
abbrev pub piece_head : ℕ → List ℕ → List ℕ → List ℕ
piece_head n name piece = head_text (decimal n) name ++ (codes ": " ++ piece)

-- the field of a block: the number of the block and that of the field in its body
abbrev pub member_said : ℕ → ℕ → Field → List ℕ
member_said n k f = reason_said (head_text (decimal n ++ (codes "." ++ decimal k)) f.name) (reason_of f.chain)

-- the fields of a block from this number on, each that is refused
abbrev pub members_said : ℕ → ℕ → List Field → List ℕ
members_said n k [] = []
members_said n k (f ∷ fields) = member_said n k f ++ members_said n (suc k) fields

-- the piece of this number, where it is refused, and the refused fields of a block
abbrev pub entry_said : ℕ → List ℕ → Entry → List ℕ
entry_said n piece (entry.Plain f) = reason_said (piece_head n f.name piece) (reason_of f.chain)
entry_said n piece (entry.Each b) = reason_said (piece_head n b.name piece) b.refused ++ members_said n 1 b.fields

-- the pieces from this number on with the entries that they are
abbrev pub entries_said : ℕ → List (List ℕ) → List Entry → List ℕ
entries_said n [] entries = []
entries_said n (p ∷ pieces) [] = []
entries_said n (p ∷ pieces) (e ∷ entries) = entry_said n p e ++ entries_said (suc n) pieces entries

-- the answer, by what is said of the pieces
abbrev pub said_answer : List ℕ → Answer
said_answer [] = nothing
said_answer (c ∷ said) = record { text = codes "of the script these are refused:" ++ c ∷ said; refused = true }

-- the script is refused as a whole
pub record IsScriptAnswerRefused (script : List ℕ) (a : Answer) : Type 0 where
  pub why : ScriptFault
  pub cause : IsRecordFault script why
  pub line : a ≡ refused_at (refusal.Script why) [] None

-- the script reads as fields and blocks: the answer has each that is refused, in their order
pub record IsScriptRead (tests : Known) (d : Dialect) (script : List ℕ) (a : Answer) : Type 0 where
  pub entries : List Entry
  pub reads : IsRecordScript tests d script entries
  pub line : a ≡ said_answer (entries_said 1 (entries_of script) entries)

abbrev pub IsScriptAnswer : Known → Dialect → List ℕ → Answer → Type 0
IsScriptAnswer tests d script a = IsScriptAnswerRefused script a ⊎ IsScriptRead tests d script a
