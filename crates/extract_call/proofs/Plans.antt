-- Each command has one plan at most.
use Rattle.std.proofs.Common.{◌≡◌, refl, ℕ, ◌<◌, ◌≤◌, true, false, List, [], ◌∷◌, ◌++◌, length, ap, ap₂, sym, ◌∙◌, subst, arith, inl, inr, ◌⊎◌, codes}
use Rattle.std.specs.Prelude.{Result, IfOk}
use Rattle.std.proofs.lemmas.Result.{IfOk-weaker}
use Rattle.text_base.specs.declared.memory.NoMemory.{NoMemory}
use Rattle.text_base.specs.declared.reasons.ScriptFault.{ScriptFault}
use Rattle.text_base.specs.declared.reasons.SelectorFault.{SelectorFault}
use Rattle.text_base.specs.declared.reasons.SelectorFault.TheVariants as fault
use Rattle.text_base.specs.Reasons.{selector_word, script_word}
use Rattle.test_registry.specs.Names.{Known}
use Rattle.css_selectors.specs.declared.selector.Dialect.{Dialect}
use Rattle.css_selectors.specs.declared.selector.Dialect.TheVariants.{Html}
use Rattle.css_selectors.specs.declared.selector.SelectorList.{SelectorList}
use Rattle.css_parser.specs.Selecting.{Accepts}
use Rattle.css_printed.specs.Printed.{printed}
use Rattle.query_script.specs.Queries.{IsCssFault}
use Rattle.json_lines.specs.Lines.{css_text, reason_text}
use Rattle.page_records.specs.declared.script.Entry.{Entry}
use Rattle.page_records.specs.Scripts.{IsRecordScript, IsRecordFault}
use Rattle.xpath_lexer.specs.Places.{most_xpath}
use Rattle.extract_call.specs.declared.answers.Line.{Line}
use Rattle.extract_call.specs.Answers.{Answer, answer_of}
use Rattle.extract_call.specs.Below.{Below}
use Rattle.extract_call.specs.Bulk.{bulk_script, bulk_text}
use Rattle.extract_call.specs.CssLines.{IsCssLine, IsListLine, IsRefusalLine}
use Rattle.extract_call.specs.Laws.{OnePlan}
use Rattle.extract_call.specs.PageLines.{IsPageLine, IsValuesLine, IsMarkupLine, MakesLines}
use Rattle.extract_call.specs.Plans.{Plan, alone, over, IsPlan, IsScriptRefused, IsBulkLine}
use Rattle.extract_call.specs.Words.{css, run, bulk, clean}
use Rattle.extract_call.proofs.PageReadings.{one_page_line, same_values_lines, same_markup_lines}
use Rattle.extract_call.proofs.Readings.{one_or_other, one_reason, some_reading, within_or_past}

-- the line that was made of the bulk page
pub bulk_line : (tests : Known) (n : ℕ) (entries : List Entry) (bytes : List ℕ) (made : Result Line NoMemory) → IsRecordScript tests Html bulk_script entries → bytes ≡ bulk_text n
    → IfOk made (λ l. IsPageLine (IsValuesLine tests entries) (codes "bulk") bytes (answer_of l)) → IfOk made (λ l. IsBulkLine tests n (answer_of l))
bulk_line tests n entries bytes made reads same h =
    IfOk-weaker made _ _ (λ l is. inr (record { entries = entries; reads = reads; line = subst (λ x. IsPageLine (IsValuesLine tests entries) (codes "bulk") x (answer_of l)) same is })) h

-- what holds of all that makes the canonical markup of pages holds of the plan
pub of_clean : (tests : Known) (page : List ℕ) (P : Plan → Type 0) → ((line : List ℕ → List ℕ → Answer) → MakesLines IsMarkupLine line → P (over line (page ∷ [])))
    → (plan : Plan) → IsPlan tests (clean page) plan → P plan
of_clean tests page P each (alone a) h = absurd h
of_clean tests page P each (over line pages) h = subst (λ x. P (over line x)) (sym h.0) (each line h.1)

-- ---- what follows from what the crates below promise

module _ (below : Below) where
  list_and_refusal : (d : Dialect) (text : List ℕ) (a b : Answer) → IsListLine d text a → IsRefusalLine d text b → ⊥
  list_and_refusal d text a b h g = too_long g.why (one_or_other below d text h.list h.accepted g.why g.cause) g.cause
    where
      too_long : (why : SelectorFault) → why ≡ fault.XPathLong → IsCssFault d text why → ⊥
      too_long fault.XPathLong e r =
          let same : length (printed d r.list) ≡ length (printed d h.list) = ap (λ l. length (printed d l)) (below.one_list text r.list h.list r.accepted h.accepted) in
          let long : most_xpath < length (printed d r.list) = r.long in
          let short : length (printed d h.list) ≤ most_xpath = h.short in omega arith
      too_long _ e r = let x = e in cc

  -- a selector has one line
  pub one_line : (d : Dialect) (text : List ℕ) (a b : Answer) → IsCssLine d text a → IsCssLine d text b → a ≡ b
  one_line d text a b (inl h) (inl g) =
      h.line ∙ ap (λ (l : SelectorList). record { text = css_text l.items (printed d l); refused = false }) (below.one_list text h.list g.list h.accepted g.accepted) ∙ sym g.line
  one_line d text a b (inl h) (inr g) = absurd (list_and_refusal d text a b h g)
  one_line d text a b (inr h) (inl g) = absurd (list_and_refusal d text b a g h)
  one_line d text a b (inr h) (inr g) =
      h.line ∙ ap (λ why. record { text = reason_text (codes "css." ++ selector_word why); refused = true }) (one_reason below d text h.why g.why h.cause g.cause) ∙ sym g.line

  -- and it has some line
  pub some_line : (d : Dialect) (text : List ℕ) → (a : Answer) × IsCssLine d text a
  some_line d text = elim (some_reading below d text) [
    | inl list ↦ by_length list.0 list.1 (within_or_past (length (printed d list.0)) most_xpath)
    | inr why ↦ (record { text = reason_text (codes "css." ++ selector_word why.0); refused = true }, inr (record { why = why.0; cause = why.1; line = refl }))
  ]
    where
      by_length : (list : SelectorList) → Accepts text list → (length (printed d list) ≤ most_xpath) ⊎ (most_xpath < length (printed d list))
          → (a : Answer) × IsCssLine d text a
      by_length list h (inl short) = (record { text = css_text list.items (printed d list); refused = false }, inl (record { list = list; accepted = h; short = short; line = refl }))
      by_length list h (inr long) = (
        record { text = reason_text (codes "css." ++ selector_word fault.XPathLong); refused = true },
        inr (record { why = fault.XPathLong; cause = record { list = list; accepted = h; long = long }; line = refl }),
      )

  -- a script that is refused as a whole has one line
  same_refusal : (s : List ℕ) (a b : Answer) → IsScriptRefused s a → IsScriptRefused s b → a ≡ b
  same_refusal s a b h k =
      h.line ∙ ap (λ why. record { text = reason_text (codes "script." ++ script_word why); refused = true }) (below.one_script_fault s h.why k.why h.cause k.cause) ∙ sym k.line

  -- what is made by the entries of a script is made by whichever entries it reads as
  makes_for : (tests : Known) (d : Dialect) (s : List ℕ) (entries other : List Entry) → IsRecordScript tests d s entries → IsRecordScript tests d s other → (line : List ℕ → List ℕ → Answer)
      → MakesLines (IsValuesLine tests other) line → MakesLines (IsValuesLine tests entries) line
  makes_for tests d s entries other h k line makes = subst (λ x. MakesLines (IsValuesLine tests x) line) (below.one_script tests d s other entries k h) makes

  one_bulk_line : (tests : Known) (n : ℕ) (a b : Answer) → IsBulkLine tests n a → IsBulkLine tests n b → a ≡ b
  one_bulk_line tests n a b (inl h) (inl k) = same_refusal bulk_script a b h k
  one_bulk_line tests n a b (inl h) (inr k) = absurd (below.read_or_refused tests Html bulk_script k.entries h.why k.reads h.cause)
  one_bulk_line tests n a b (inr h) (inl k) = absurd (below.read_or_refused tests Html bulk_script h.entries k.why h.reads k.cause)
  one_bulk_line tests n a b (inr h) (inr k) =
      let same = below.one_script tests Html bulk_script k.entries h.entries k.reads h.reads in
      one_page_line below tests h.entries (codes "bulk") (bulk_text n) a b h.line (subst (λ x. IsPageLine (IsValuesLine tests x) (codes "bulk") (bulk_text n) b) same k.line)

  pub one_plan : OnePlan
  one_plan tests (css d s) (alone a) (alone b) h k = ap alone (one_line d s a b h k)
  one_plan tests (css d s) (alone a) (over m q) h k = absurd k
  one_plan tests (css d s) (over l p) other h k = absurd h
  one_plan tests (run d s names) (alone a) (alone b) h k = ap alone (same_refusal s a b h k)
  one_plan tests (run d s names) (alone a) (over m q) h k = absurd (below.read_or_refused tests d s k.1.entries h.why k.1.reads h.cause)
  one_plan tests (run d s names) (over l p) (alone b) h k = absurd (below.read_or_refused tests d s h.1.entries k.why h.1.reads k.cause)
  one_plan tests (run d s names) (over l p) (over m q) h k =
      let makes : MakesLines (IsValuesLine tests h.1.entries) m = makes_for tests d s h.1.entries k.1.entries h.1.reads k.1.reads m k.1.makes in
      ap₂ over (same_values_lines below tests h.1.entries l m h.1.makes makes) (h.0 ∙ sym k.0)
  one_plan tests (bulk n) (alone a) (alone b) h k = ap alone (one_bulk_line tests n a b h k)
  one_plan tests (bulk n) (alone a) (over m q) h k = absurd k
  one_plan tests (bulk n) (over l p) other h k = absurd h
  one_plan tests (clean page) (alone a) other h k = absurd h
  one_plan tests (clean page) (over l p) (alone b) h k = absurd k
  one_plan tests (clean page) (over l p) (over m q) h k = ap₂ over (same_markup_lines below l m h.1 k.1) (h.0 ∙ sym k.0)

  -- ---- what holds of the line that was made holds of the plan

  module _ (tests : Known) where
    pub of_css : (d : Dialect) (text : List ℕ) (made : Result Line NoMemory) (P : Plan → Type 0) → IfOk made (λ l. IsCssLine d text (answer_of l))
        → ((a : Answer) → IfOk made (λ l. answer_of l ≡ a) → P (alone a)) → (plan : Plan) → IsPlan tests (css d text) plan → P plan
    of_css d text made P line each (alone a) h = each a (IfOk-weaker made _ _ (λ l is_line. one_line d text (answer_of l) a is_line h) line)
    of_css d text made P line each (over page names) h = absurd h

    pub of_bulk : (n : ℕ) (made : Result Line NoMemory) (P : Plan → Type 0) → IfOk made (λ l. IsBulkLine tests n (answer_of l))
        → ((a : Answer) → IfOk made (λ l. answer_of l ≡ a) → P (alone a)) → (plan : Plan) → IsPlan tests (bulk n) plan → P plan
    of_bulk n made P line each (alone a) h = each a (IfOk-weaker made _ _ (λ l is_line. one_bulk_line tests n (answer_of l) a is_line h) line)
    of_bulk n made P line each (over page names) h = absurd h

    -- a script that reads as entries
    pub of_script : (d : Dialect) (s : List ℕ) (names : List (List ℕ)) (entries : List Entry) (P : Plan → Type 0) → IsRecordScript tests d s entries
        → ((line : List ℕ → List ℕ → Answer) → MakesLines (IsValuesLine tests entries) line → P (over line names)) → (plan : Plan) → IsPlan tests (run d s names) plan → P plan
    of_script d s names entries P reads each (alone a) h = absurd (below.read_or_refused tests d s entries h.why reads h.cause)
    of_script d s names entries P reads each (over line pages) h =
        subst (λ x. P (over line x)) (sym h.0) (each line (makes_for tests d s entries h.1.entries reads h.1.reads line h.1.makes))

    -- a script that is refused as a whole
    pub of_refusal : (d : Dialect) (s : List ℕ) (names : List (List ℕ)) (why : ScriptFault) (made : Result Line NoMemory) (P : Plan → Type 0) → IsRecordFault s why
        → IfOk made (λ l. IsScriptRefused s (answer_of l)) → ((a : Answer) → IfOk made (λ l. answer_of l ≡ a) → P (alone a)) → (plan : Plan) → IsPlan tests (run d s names) plan → P plan
    of_refusal d s names why made P cause line each (alone a) h = each a (IfOk-weaker made _ _ (λ l is_line. same_refusal s (answer_of l) a is_line h) line)
    of_refusal d s names why made P cause line each (over page pages) h = absurd (below.read_or_refused tests d s h.1.entries why h.1.reads cause)
