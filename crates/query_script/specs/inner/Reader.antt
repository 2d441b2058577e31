-- Reading from the left.
use Rattle.std.specs.Prelude.{◌≡◌, ℕ, ◌-◌, ◌==◌, ◌&&◌, nat_lt, Bool, true, false, List, [], ◌∷◌, length, take, Option, Some, None, option_map, option_and_then, codes, slice_index_or, if◌then◌else◌}
use Rattle.std.specs.List.{list_any, before_first, after_first}
use Rattle.std.specs.Str.{bytes_eq, chars}
use Rattle.test_registry.specs.Names.{Known}
use Rattle.css_selectors.specs.declared.selector.Dialect.{Dialect}
use Rattle.query_script.specs.declared.cuts.Cut.{Cut}
use Rattle.query_script.specs.declared.cuts.Cut.TheVariants as cut
use Rattle.query_script.specs.declared.chains.ChainText.{ChainText}
use Rattle.query_script.specs.declared.script.Chain.{Chain}
use Rattle.query_script.specs.declared.script.Chain.TheVariants as chain
use Rattle.query_script.specs.declared.script.Take.{Take}
use Rattle.query_script.specs.declared.script.Take.TheVariants as end
use Rattle.query_script.specs.declared.steps.RawStep.{RawStep}
use Rattle.query_script.specs.declared.steps.RawStep.TheVariants as raw
use Rattle.query_script.specs.declared.steps.Word.{Word}
use Rattle.query_script.specs.declared.steps.Word.TheVariants as word
use Rattle.query_script.specs.Cuts.{is_quote, ends_field, is_point, trimmed}
use Rattle.query_script.specs.Names.{is_test_name}
use Rattle.query_script.specs.Steps.{parts}
use Rattle.query_script.specs.Queries.{AreKept, IsFirstRefusal}

abbrev pub cuts_of : Cut → ℕ → Bool
cuts_of cut.Fields c = ends_field c
cuts_of cut.Points c = is_point c

-- `(`
abbrev pub is_open : ℕ → Bool
is_open c = c == 40

-- `,`
abbrev pub is_comma : ℕ → Bool
is_comma c = c == 44

-- The value of a string whose quote was opened, where the quote is closed and nothing stands after it; the byte before may be a
-- quote that closes it.
abbrev pub unquoted : ℕ → Bool → List ℕ → Option (List ℕ)
unquoted q false [] = None
unquoted q true [] = Some []
unquoted q false (c ∷ text) = if c == q then unquoted q true text else option_map (λ v. c ∷ v) (unquoted q false text)
unquoted q true (c ∷ text) = if c == q then option_map (λ v. q ∷ v) (unquoted q false text) else None

-- the characters of the value of a string
abbrev pub read_string : List ℕ → Option (List ℕ)
read_string [] = None
read_string (q ∷ text) = if is_quote q then option_map chars (unquoted q false text) else None

-- what stands before the bracket that closes the text
abbrev pub inside_of : List ℕ → Option (List ℕ)
inside_of text = if slice_index_or text (length text - 1) 0 == 41 then Some (take (length text - 1) text) else None

abbrev pub read_word : List ℕ → Option Word
read_word text =
    if bytes_eq (trimmed text) (codes "keep") then Some word.Keep
    else (if bytes_eq text (codes "css") then Some word.Css else (if bytes_eq text (codes "xpath") then Some word.XPath else (if bytes_eq text (codes "re") then Some word.Re else None)))

-- the name of a test before the first comma of the brackets, and a string after it
abbrev pub read_keep : List ℕ → Option RawStep
read_keep text =
    if list_any is_comma text && is_test_name (trimmed (before_first is_comma text))
    then option_map (raw.Keep (chars (trimmed (before_first is_comma text)))) (read_string (trimmed (after_first is_comma text)))
    else None

-- a step of this word by what stands in its brackets
abbrev pub read_inside : Word → List ℕ → Option RawStep
read_inside word.Css text = option_map raw.Css (read_string text)
read_inside word.XPath text = option_map raw.XPath (read_string text)
read_inside word.Re text = option_map raw.Re (read_string text)
read_inside word.Keep text = read_keep text

abbrev pub read_step : List ℕ → Option RawStep
read_step part = option_and_then (λ w. option_and_then (read_inside w) (inside_of (after_first is_open part))) (read_word (before_first is_open part))

-- all parts, where each is a step
abbrev pub read_steps : List (List ℕ) → Option (List RawStep)
read_steps [] = Some []
read_steps (p ∷ ps) = option_and_then (λ s. option_map (λ steps. s ∷ steps) (read_steps ps)) (read_step p)

abbrev pub read_end : List ℕ → Option Take
read_end part = if bytes_eq part (codes "get()") then Some end.First else (if bytes_eq part (codes "getall()") then Some end.All else None)

abbrev pub with_end : List RawStep → Take → List RawStep × Take
with_end steps t = (steps, t)

-- the last part is an end, and those before it, of which there is one, are steps
abbrev pub read_parts : List (List ℕ) → Option (List RawStep × Take)
read_parts ps =
    if nat_lt 1 (length ps)
    then option_and_then (λ steps. option_map (with_end steps) (read_end (slice_index_or ps (length ps - 1) []))) (read_steps (take (length ps - 1) ps))
    else None

abbrev pub read_chain : List ℕ → Option (List RawStep × Take)
read_chain text = read_parts (parts text)

-- what the code holds of a chain
abbrev pub chain_of : ChainText → List RawStep × Take
chain_of c = (c.steps.items, c.take)

-- all steps were kept, or the first that is refused is refused for this reason
abbrev pub AreFound : Known → Dialect → List RawStep → Take → Chain → Type 0
AreFound tests d steps take (chain.Steps kept t) = AreKept tests d true steps kept × (t ≡ take)
AreFound tests d steps take (chain.Refused why) = IsFirstRefusal tests d true steps why
