-- The queries of a script of a UTF-8 text can be run.
use Rattle.std.proofs.Common.{◌≡◌, ℕ, ◌<◌, Bool, true, false, List, [], ◌∷◌, ◌++◌, length, get_or, refl, sym, subst, arith, inl, inr, ◌⊎◌}
use Rattle.std.specs.Prelude.{◌==◌, ◌&&◌, encode_utf8_all}
use Rattle.std.specs.List.{AllByRecursion, list_any, before_first, after_first, position_or_len}
use Rattle.std.specs.Str.{IsUtf8, chars}
use Rattle.std.proofs.lemmas.Bool.{cases_lt}
use Rattle.std.proofs.lemmas.Bool.Decides.{nat_tests}
use Rattle.std.proofs.lemmas.List.Elements.{All-contains, All-from_recursion}
use Rattle.std.proofs.lemmas.List.Sums.{passes_at_first, split_at_first}
use Rattle.text_base.proofs.Text.{encode-chars}
use Rattle.test_registry.specs.Names.{Known}
use Rattle.css_selectors.specs.declared.selector.Dialect.{Dialect}
use Rattle.css_parser.proofs.TextLists.{are_texts}
use Rattle.css_parser.proofs.WellMadeLemmas.{well_made}
use Rattle.css_printed.specs.Printed.{printed}
use Rattle.css_translate.proofs.Accepted.{accepted_law}
use Rattle.query_script.specs.declared.script.Chain.{Chain}
use Rattle.query_script.specs.declared.script.Chain.TheVariants as chain
use Rattle.query_script.specs.declared.script.ChainStep.{ChainStep}
use Rattle.query_script.specs.declared.script.ChainStep.TheVariants as step
use Rattle.query_script.specs.declared.script.Field.{Field}
use Rattle.query_script.specs.declared.script.Take.{Take}
use Rattle.query_script.specs.declared.steps.RawStep.{RawStep}
use Rattle.query_script.specs.declared.steps.RawStep.TheVariants as raw
use Rattle.query_script.specs.Cuts.{is_point, ends_field, pieces, fields_of}
use Rattle.query_script.specs.Names.{is_colon, is_named, is_name, label, after_colon}
use Rattle.query_script.specs.Selectors.{IsFieldSelector, IsSelectorText}
use Rattle.query_script.specs.Steps.{doubled, IsString, IsCall, IsStepText, AreStepTexts, parts, AreStepsText, end_text, IsChainText}
use Rattle.query_script.specs.Queries.{IsCssStep, IsKept, AreKept}
use Rattle.query_script.specs.Ordered.{IsInOrder, AreOrderedOver, IsOrderedChainOver, IsOrderedOver}
use Rattle.query_script.specs.Fields.{IsChain, IsUnnamedField, IsNamedField, IsFieldOver, AreFields, IsScriptOver}
use Rattle.css_printed.proofs.PrintedUtf8.{printed_utf8}
use Rattle.query_script.proofs.QueryLemmas.{css_ordered, in_order}
use Rattle.query_script.proofs.SplitLemmas.{none_there}
use Rattle.query_script.proofs.StepLemmas.{quote_ascii}
use Rattle.query_script.proofs.Utf8Lemmas.{AreUtf8, utf8_before, utf8_after, pieces_utf8, all_trimmed, written_utf8, front_of, undoubled}

-- ---- the text of a selector

string_utf8 : (text value : List ℕ) → IsString text value → IsUtf8 text → IsUtf8 (encode_utf8_all value)
string_utf8 text value h utf8 =
    let ascii = quote_ascii h.quote h.quoted in
    let rest : IsUtf8 (doubled h.quote h.bytes ++ h.quote ∷ []) = utf8_after [] h.quote (doubled h.quote h.bytes ++ h.quote ∷ []) ascii (subst IsUtf8 h.spelled utf8) in
    let bytes : IsUtf8 h.bytes = undoubled h.quote ascii h.bytes [] (utf8_before (doubled h.quote h.bytes) h.quote [] ascii rest) in
    let P : List ℕ → Type 0 = λ v. IsUtf8 (encode_utf8_all v) in
    subst P (sym h.is) (subst IsUtf8 (sym (encode-chars h.bytes bytes)) bytes)

call_utf8 : (word text value : List ℕ) → IsCall word text value → IsUtf8 text → IsUtf8 (encode_utf8_all value)
call_utf8 word text value h utf8 =
    let rest : IsUtf8 (h.inside ++ 41 ∷ []) = utf8_after word 40 (h.inside ++ 41 ∷ []) (omega arith) (subst IsUtf8 h.spelled utf8) in
    string_utf8 h.inside value h.string (utf8_before h.inside 41 [] (omega arith) rest)

-- the text of the step's selector is UTF-8
abbrev pub StepUtf8 : RawStep → Type 0
StepUtf8 (raw.Css text) = IsUtf8 (encode_utf8_all text)
StepUtf8 (raw.XPath text) = Unit {0}
StepUtf8 (raw.Re text) = Unit {0}
StepUtf8 (raw.Keep name text) = Unit {0}

step_utf8 : (text : List ℕ) (s : RawStep) → IsStepText text s → IsUtf8 text → StepUtf8 s
step_utf8 text (raw.Css value) h utf8 = call_utf8 _ text value h utf8
step_utf8 text (raw.XPath value) h utf8 = tt
step_utf8 text (raw.Re value) h utf8 = tt
step_utf8 text (raw.Keep name value) h utf8 = tt

steps_utf8 : (texts : List (List ℕ)) (steps : List RawStep) → AreStepTexts texts steps → AreUtf8 texts → AllByRecursion StepUtf8 steps
steps_utf8 [] [] h utf8 = tt
steps_utf8 [] (s ∷ steps) h utf8 = absurd h
steps_utf8 (t ∷ texts) [] h utf8 = absurd h
steps_utf8 (t ∷ texts) (s ∷ steps) h utf8 = (step_utf8 t s h.0 utf8.0, steps_utf8 texts steps h.1 utf8.1)

point_ascii : (q c : ℕ) → ((q == 0) && is_point c) ≡ true → c < 128
point_ascii q c h = grind (arith, nat_tests)

field_ascii : (q c : ℕ) → ((q == 0) && ends_field c) ≡ true → c < 128
field_ascii q c h = grind (arith, nat_tests)

parts_utf8 : (text : List ℕ) → IsUtf8 text → AreUtf8 (parts text)
parts_utf8 text utf8 = all_trimmed (pieces is_point 0 text) (pieces_utf8 is_point point_ascii text utf8)

chain_utf8 : (text : List ℕ) (steps : List RawStep) (take : Take) → IsChainText text steps take → IsUtf8 text → AllByRecursion StepUtf8 steps
chain_utf8 text steps take h utf8 = steps_utf8 h.front steps h.are (front_of h.front (end_text take ∷ []) (subst AreUtf8 h.cut (parts_utf8 text utf8)))

-- of a text that is steps alone
pub cut_utf8 : (text : List ℕ) (steps : List RawStep) → AreStepsText text steps → IsUtf8 text → AllByRecursion StepUtf8 steps
cut_utf8 text steps h utf8 = steps_utf8 (parts text) steps h (parts_utf8 text utf8)

-- ---- what stands after the colon of a field

both : (a b : Bool) → (a && b) ≡ true → (a ≡ true) × (b ≡ true)
both true b e = (refl, e)
both false b e = cc

within : (text : List ℕ) → list_any is_colon text ≡ true → position_or_len is_colon text < length text
within text h = elim (cases_lt (position_or_len is_colon text) (length text)) [
  | inl l ↦ l
  | inr l ↦ let no : list_any is_colon text ≡ false = none_there is_colon text l in cc
]

colon_ascii : (c : ℕ) → is_colon c ≡ true → c < 128
colon_ascii c h = grind (arith, nat_tests)

pub rest_utf8 : (piece : List ℕ) → is_named piece ≡ true → IsUtf8 piece → IsUtf8 (after_colon piece)
rest_utf8 piece named utf8 =
    let l = within piece (both (list_any is_colon piece) (is_name (label piece)) named).0 in
    let c = get_or piece (position_or_len is_colon piece) 0 in
    utf8_after (before_first is_colon piece) c (after_first is_colon piece) (colon_ascii c (passes_at_first is_colon piece 0 l)) (subst IsUtf8 (split_at_first is_colon piece 0 l) utf8)

-- the selectors of a piece that is UTF-8
pub field_selector_utf8 : (piece text : List ℕ) → IsUtf8 piece → IsFieldSelector piece text → IsUtf8 text
field_selector_utf8 piece text utf8 h =
    let each : AllByRecursion StepUtf8 h.steps = chain_utf8 (after_colon piece) h.steps h.take h.written (rest_utf8 piece h.named utf8) in
    subst IsUtf8 (sym h.is) (All-contains StepUtf8 h.steps (raw.Css h.value) (All-from_recursion StepUtf8 h.steps each) h.step)

-- and of a script
pub fields_utf8 : (script : List ℕ) → IsUtf8 script → AreUtf8 (fields_of script)
fields_utf8 script utf8 = written_utf8 (pieces ends_field 0 script) (pieces_utf8 ends_field field_ascii script utf8)

pub selector_utf8 : (script text : List ℕ) → IsUtf8 script → IsSelectorText script text → IsUtf8 text
selector_utf8 script text utf8 h =
    field_selector_utf8 h.piece text (All-contains IsUtf8 (fields_of script) h.piece (All-from_recursion IsUtf8 (fields_of script) (fields_utf8 script utf8)) h.field) h.of

-- ---- steps

module _ (tests : Known) (d : Dialect) where
  css_in_order : (nodes after : Bool) (text : List ℕ) (s : ChainStep) → IsUtf8 (encode_utf8_all text) → nodes ≡ true → IsCssStep d text s after → IsInOrder tests nodes s after
  css_in_order nodes after text s utf8 n h =
      let m = accepted_law d (encode_utf8_all text) h.list utf8 h.accepted h.short in
      let there : IsInOrder tests true (step.Query (chars (printed d h.list))) true = css_ordered tests d (printed d h.list) h.list m (printed_utf8 d h.list (well_made (encode_utf8_all text) h.list h.accepted) (are_texts (encode_utf8_all text) h.list utf8 h.accepted)) in
      let P : Bool → Type 0 = λ b. IsInOrder tests b (step.Query (chars (printed d h.list))) true in
      let Q : Bool → Type 0 = λ b. IsInOrder tests nodes (step.Query (chars (printed d h.list))) b in
      let R : ChainStep → Type 0 = λ x. IsInOrder tests nodes x after in
      subst R (sym h.is) (subst Q (sym h.shape) (subst P (sym n) there))

  pub step_in_order : (nodes after : Bool) (r : RawStep) (s : ChainStep) → StepUtf8 r → IsKept tests d nodes r s after → IsInOrder tests nodes s after
  step_in_order nodes after (raw.Css text) s utf8 h = css_in_order nodes after text s utf8 h.0 h.1
  step_in_order nodes after (raw.XPath text) s utf8 h =
      let R : ChainStep → Type 0 = λ x. IsInOrder tests nodes x after in
      subst R (sym h.1.is) (h.0, (h.1.expression, (h.1.reads, h.1.shape)))
  step_in_order nodes after (raw.Re text) s utf8 h = let R : ChainStep → Type 0 = λ x. IsInOrder tests nodes x after in subst R (sym h.is) h.shape
  step_in_order nodes after (raw.Keep name text) s utf8 h = let R : ChainStep → Type 0 = λ x. IsInOrder tests nodes x after in subst R (sym h.is) h.shape

  steps_in_order : (nodes : Bool) (steps : List RawStep) (kept : List ChainStep) → AllByRecursion StepUtf8 steps → AreKept tests d nodes steps kept → AreOrderedOver tests nodes kept
  steps_in_order nodes [] [] utf8 h = tt
  steps_in_order nodes [] (s ∷ kept) utf8 h = absurd h
  steps_in_order nodes (r ∷ steps) [] utf8 h = absurd h
  steps_in_order nodes (r ∷ steps) (s ∷ kept) utf8 h = in_order tests d nodes h.0 s kept (step_in_order nodes h.0 r s utf8.0 h.1.0) (steps_in_order h.0 steps kept utf8.1 h.1.1)

  -- ---- fields

  chain_in_order : (text : List ℕ) (c : Chain) → IsUtf8 text → IsChain tests d text c → IsOrderedChainOver tests c
  chain_in_order text (chain.Steps kept take) utf8 h = steps_in_order true h.steps kept (chain_utf8 text h.steps take h.written utf8) h.keeps
  chain_in_order text (chain.Refused why) utf8 h = tt

  pub field_in_order : (piece : List ℕ) (field : Field) → IsUtf8 piece → IsFieldOver tests d piece field → IsOrderedOver tests field
  field_in_order piece field utf8 h = by_name h.reads
    where
      by_name : IsUnnamedField piece field ⊎ IsNamedField tests d piece field → IsOrderedOver tests field
      by_name (inl none) = let P : Chain → Type 0 = λ c. IsOrderedChainOver tests c in subst P (sym none.is) tt
      by_name (inr some) = chain_in_order (after_colon piece) field.chain (rest_utf8 piece some.named utf8) some.is

  pub fields_in_order : (pieces : List (List ℕ)) (fields : List Field) → AreUtf8 pieces → AreFields tests d pieces fields → AllByRecursion (IsOrderedOver tests) fields
  fields_in_order [] [] utf8 h = tt
  fields_in_order [] (f ∷ fields) utf8 h = absurd h
  fields_in_order (p ∷ pieces) [] utf8 h = absurd h
  fields_in_order (p ∷ pieces) (f ∷ fields) utf8 h = (field_in_order p f utf8.0 h.0, fields_in_order pieces fields utf8.1 h.1)

  pub script_in_order : (text : List ℕ) (fields : List Field) → IsUtf8 text → IsScriptOver tests d text fields → AllByRecursion (IsOrderedOver tests) fields
  script_in_order text fields utf8 h = fields_in_order (fields_of text) fields (fields_utf8 text utf8) h.are
