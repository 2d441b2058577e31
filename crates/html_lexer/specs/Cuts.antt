-- Where a page may be cut, as the private functions of `tags` and `steps` need it.
use Rattle.std.specs.Prelude.{ℕ, ◌+◌, ◌-◌, ◌<◌, ◌≤◌, List, length, slice_index}
use Rattle.text_base.specs.Text.{IsPlace}
use Rattle.html_lexer.specs.declared.tags.AttrStep.{AttrStep}
use Rattle.html_lexer.specs.declared.tags.AttrStep.TheVariants.{Reads, Closes, Refuses}
use Rattle.html_lexer.specs.declared.tags.Attribute.{Attribute}
use Rattle.html_lexer.specs.declared.steps.TokenAt.{TokenAt}
use Rattle.html_lexer.specs.declared.steps.TokenAt.TheVariants.{Start, End, Text, Comment, Doctype}
use Rattle.html_lexer.specs.declared.steps.Step.{Step}
use Rattle.html_lexer.specs.declared.steps.Step.TheVariants.{Gives, Fails}

-- a part of the text can be cut out
pub record IsPart (text : List ℕ) (from to : ℕ) : Type 0 where
  pub order : from ≤ to
  pub start : IsPlace text from
  pub end : IsPlace text to

-- and so can an attribute's name and its value
pub record IsCutOut (text : List ℕ) (a : Attribute) : Type 0 where
  pub name : IsPart text a.name a.name_to
  pub value : IsPart text a.value a.value_to

-- a step from i leads on within the text, and a tag that closes ends beside ASCII bytes
abbrev pub LeadsOn : List ℕ → ℕ → AttrStep → Type 0
LeadsOn text i (Reads a) = (i < a.to) × (a.to ≤ length text) × IsPlace text a.to × IsCutOut text a
LeadsOn text i (Closes attrs_to to slash) = (i ≤ attrs_to) × (attrs_to < to) × (to ≤ length text) × (slice_index text attrs_to < 128) × (slice_index text (to - 1) < 128)
LeadsOn text i (Refuses reason) = Unit {0}

-- the parts of a token at i can be cut out of the text
abbrev pub IsCut : List ℕ → ℕ → TokenAt → Type 0
IsCut text i (Start name_to attrs_to to slash) = (i < name_to) × (name_to ≤ attrs_to) × IsPlace text (i + 1) × IsPlace text name_to × IsPlace text attrs_to × IsPlace text to × (i < to)
IsCut text i (End name_to to) = (i + 1 < name_to) × IsPlace text (i + 2) × IsPlace text name_to × IsPlace text to × (i < to)
IsCut text i (Text to refs) = IsPlace text to × (i < to)
IsCut text i (Comment text_from text_to to) = (text_from ≤ text_to) × IsPlace text text_from × IsPlace text text_to × IsPlace text to × (i < to)
IsCut text i (Doctype to) = IsPlace text to × (i < to)

abbrev pub Cuts : List ℕ → ℕ → Step → Type 0
Cuts text i (Fails reason) = Unit {0}
Cuts text i (Gives t) = IsCut text i t
