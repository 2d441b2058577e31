-- What the text after a block's name reads as.
use Rattle.std.proofs.Common.{◌≡◌, ℕ, ◌<◌, ◌≤◌, Bool, true, false, List, [], ◌∷◌, length, map, refl, sym, ◌∙◌, subst, inl, inr}
use Rattle.std.specs.Prelude.{Option, Some, None, Result, Ok, Err, IfOk}
use Rattle.std.specs.Str.{chars}
use Rattle.test_registry.specs.Names.{Known}
use Rattle.css_selectors.specs.declared.selector.Dialect.{Dialect}
use Rattle.query_script.specs.declared.script.ChainStep.{ChainStep}
use Rattle.query_script.specs.declared.script.Field.{Field}
use Rattle.query_script.specs.declared.script.Reason.{Reason}
use Rattle.query_script.specs.declared.script.Reason.TheVariants as reason
use Rattle.query_script.specs.declared.steps.RawStep.{RawStep}
use Rattle.query_script.specs.declared.steps.RawStep.TheVariants as raw
use Rattle.query_script.specs.Cuts.{fields_of}
use Rattle.query_script.specs.Fields.{AreFields}
use Rattle.query_script.specs.Names.{is_named, name_of}
use Rattle.query_script.specs.Queries.{IsCssRefused, IsXPathRefused}
use Rattle.query_script.specs.Steps.{AreStepsText}
use Rattle.page_records.specs.declared.script.Block.{Block}
use Rattle.page_records.specs.Blocks.{IsBlockText, IsWritten, AreRowSteps, IsStepRefused, IsFirstRefused, Differ, names_of, IsNoBlock, HasRefusedStep, IsBlockReason, IsContent, IsBlock, most_body}
use Rattle.page_records.specs.inner.Contents.{IsRefusedAs, IsWhole}
use Rattle.page_records.proofs.BodyLemmas.{same_names}
use Rattle.page_records.proofs.WordLemmas.{one_front}

-- ---- the reasons of steps

-- a step has none of the reasons that a block alone may have, and no name
pub IsOfStep : Reason → Type 0
IsOfStep reason.Name = ⊥
IsOfStep reason.Block = ⊥
IsOfStep reason.Twice = ⊥
IsOfStep why = Unit {0}

order_of_step : (why : Reason) → why ≡ reason.Order → IsOfStep why
unfolding IsOfStep
order_of_step why e = subst IsOfStep (sym e) tt

css_of_step : (d : Dialect) (text : List ℕ) (why : Reason) → IsCssRefused d text why → IsOfStep why
unfolding IsOfStep
css_of_step d text reason.Name h = h
css_of_step d text reason.Chain h = tt
css_of_step d text reason.Order h = tt
css_of_step d text reason.Test h = tt
css_of_step d text reason.Block h = h
css_of_step d text reason.Twice h = h
css_of_step d text reason.Selection h = tt
css_of_step d text reason.Output h = tt
css_of_step d text reason.Pattern h = tt
css_of_step d text (reason.Css f) h = tt
css_of_step d text (reason.XPath f) h = tt

xpath_of_step : (tests : Known) (text : List ℕ) (why : Reason) → IsXPathRefused tests text why → IsOfStep why
unfolding IsOfStep
xpath_of_step tests text reason.Name h = h
xpath_of_step tests text reason.Chain h = tt
xpath_of_step tests text reason.Order h = tt
xpath_of_step tests text reason.Test h = tt
xpath_of_step tests text reason.Block h = h
xpath_of_step tests text reason.Twice h = h
xpath_of_step tests text reason.Selection h = tt
xpath_of_step tests text reason.Output h = tt
xpath_of_step tests text reason.Pattern h = tt
xpath_of_step tests text (reason.Css f) h = tt
xpath_of_step tests text (reason.XPath f) h = tt

one_of_step : (tests : Known) (d : Dialect) (nodes : Bool) (r : RawStep) (why : Reason) → IsStepRefused tests d nodes r why → IsOfStep why
one_of_step tests d true (raw.Css text) why h = css_of_step d text why h
one_of_step tests d false (raw.Css text) why h = order_of_step why h
one_of_step tests d true (raw.XPath text) why h = xpath_of_step tests text why h
one_of_step tests d false (raw.XPath text) why h = order_of_step why h
one_of_step tests d nodes (raw.Re text) why h = order_of_step why h
one_of_step tests d nodes (raw.Keep name text) why h = order_of_step why h

pub first_of_step : (tests : Known) (d : Dialect) (nodes : Bool) (steps : List RawStep) (why : Reason) → IsFirstRefused tests d nodes steps why → IsOfStep why
first_of_step tests d nodes [] why h = order_of_step why h.1
first_of_step tests d nodes (r ∷ steps) why (inl h) = one_of_step tests d nodes r why h
first_of_step tests d nodes (r ∷ steps) why (inr h) = first_of_step tests d h.1.0 steps why h.1.1.1

-- so it is a reason of its own in a block
pub step_reason : (tests : Known) (d : Dialect) (text : List ℕ) (why : Reason) → IsOfStep why → HasRefusedStep tests d text why → IsBlockReason tests d text why
unfolding IsOfStep
step_reason tests d text reason.Name o h = o
step_reason tests d text reason.Chain o h = h
step_reason tests d text reason.Order o h = h
step_reason tests d text reason.Test o h = h
step_reason tests d text reason.Block o h = absurd o
step_reason tests d text reason.Twice o h = absurd o
step_reason tests d text reason.Selection o h = h
step_reason tests d text reason.Output o h = h
step_reason tests d text reason.Pattern o h = h
step_reason tests d text (reason.Css f) o h = h
step_reason tests d text (reason.XPath f) o h = h

-- ---- the parts of a block

module _ (tests : Known) (d : Dialect) (steps : List ChainStep) (pieces : List (List ℕ)) where
  -- two fields have the same name
  pub twins : (fields : List Field) → AreFields tests d pieces fields → (Differ (map (λ (f : Field). f.name) fields) → ⊥) → (b : Block) → IsRefusedAs reason.Twice b → IsWhole tests d steps pieces b.refused b
  twins fields are same b h =
      let P : Option Reason → Type 0 = λ r. IsWhole tests d steps pieces r b in
      let Q : List (List ℕ) → Type 0 = λ ns. Differ ns in
      subst P (sym h.0) (refl, (h.1, λ differ. same (subst Q (sym (same_names tests d pieces fields are)) differ)))

  -- no two have
  pub all_differ : (fields : List Field) → AreFields tests d pieces fields → Differ (map (λ (f : Field). f.name) fields) → Differ (names_of pieces)
  all_differ fields are differ = let Q : List (List ℕ) → Type 0 = λ ns. Differ ns in subst Q (same_names tests d pieces fields are) differ

-- what stands before `each` is no steps
pub no_steps : (text front body : List ℕ) → IsBlockText text front body → ((steps : List RawStep) → AreStepsText front steps → ⊥) → IsNoBlock text
no_steps text front body is none written inside w =
    let P : List ℕ → Type 0 = λ t. AreStepsText t written in
    none written (subst P (sym (one_front text front body w.front inside is w.parts)) w.are)

module _ (tests : Known) (d : Dialect) (text : List ℕ) where
  -- a block that is refused for a reason that it has
  refused_content : (why : Reason) → IsBlockReason tests d text why → (b : Block) → IsRefusedAs why b → IsContent tests d text b.refused b
  refused_content why cause b h = let P : Option Reason → Type 0 = λ r. IsContent tests d text r b in subst P (sym h.0) (cause, h.1)

  pub no_block : IsNoBlock text → (b : Block) → IsRefusedAs reason.Block b → IsContent tests d text b.refused b
  no_block none b h = refused_content reason.Block none b h

  module _ (front body : List ℕ) (is : IsBlockText text front body) (written : List RawStep) (are : AreStepsText front written) (some : 0 < length (fields_of body)) (few : length (fields_of body) ≤ most_body) where
    whole_text : IsWritten text written body
    whole_text = record { front = front; parts = is; are = are; some = some; few = few }

    pub refused_step : (why : Reason) → IsFirstRefused tests d true written why → (b : Block) → IsRefusedAs why b → IsContent tests d text b.refused b
    refused_step why first b h =
        refused_content why (step_reason tests d text why (first_of_step tests d true written why first) (record { written = written; body = body; is = whole_text; first = first })) b h

    pub whole_content : (kept : List ChainStep) → AreRowSteps tests d true written kept → (b : Block) (r : Option Reason) → IsWhole tests d kept (fields_of body) r b → IsContent tests d text r b
    whole_content kept rows b None h =
        let P : List ChainStep → Type 0 = λ s. AreRowSteps tests d true written s in
        record { written = written; body = body; is = whole_text; kept = subst P (sym h.0) rows; differ = h.1.1; are = h.1.0 }
    whole_content kept rows b (Some why) h =
        let P : Reason → Type 0 = λ w. IsBlockReason tests d text w in
        (subst P (sym h.0) (record { written = written; body = body; is = whole_text; steps = kept; kept = rows; same = h.1.1 }), h.1.0)

-- ---- a block without a name

unnamed_name : (piece : List ℕ) → is_named piece ≡ false → name_of piece ≡ []
unnamed_name piece e = rw e refl

pub unnamed : (tests : Known) (d : Dialect) (piece : List ℕ) → is_named piece ≡ false → (b : Block) → (b.name ≡ chars []) × IsRefusedAs reason.Name b → IsBlock tests d piece b
unfolding chars
unnamed tests d piece e b (n, h) = record {
  name = n ∙ sym (unnamed_name piece e);
  reads = inl (record { unnamed = e; is = h.0; empty = h.1 });
}

pub both : {X E : Type 0} (r : Result X E) (P Q : X → Type 0) → IfOk r P → IfOk r Q → IfOk r (λ x. P x × Q x)
both (Ok x) P Q p q = (p, q)
both (Err e) P Q p q = tt
