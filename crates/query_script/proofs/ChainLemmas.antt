-- Steps and an end, read from the left.
use Rattle.std.proofs.Common.{◌≡◌, ℕ, ◌+◌, ◌-◌, ◌<◌, ◌≤◌, Bool, true, false, List, [], ◌∷◌, ◌++◌, length, take, refl, sym, ◌∙◌, ap, arith, length-append}
use Rattle.std.specs.Prelude.{Option, Some, None, option_map, option_and_then, nat_lt, if◌then◌else◌}
use Rattle.std.specs.List.{slice_index_or}
use Rattle.std.proofs.lemmas.Bool.Decides.{nat_tests}
use Rattle.std.proofs.lemmas.List.{length-take-le}
use Rattle.std.proofs.Math.Seq.{take-append_seam, get_or-append_seam}
use Rattle.query_script.specs.declared.script.Take.{Take}
use Rattle.query_script.specs.declared.steps.RawStep.{RawStep}
use Rattle.query_script.specs.Steps.{AreStepTexts, AreStepsText, parts, end_text, IsChainText}
use Rattle.query_script.specs.inner.Reader.{with_end, read_steps, read_end, read_parts, read_chain}
use Rattle.query_script.proofs.ListLemmas.{by_last}
use Rattle.query_script.proofs.StepTexts.{steps_complete, end_complete, steps_sound, end_sound}

abbrev Texts : Type 0
Texts = List (List ℕ)

test_true : (n : ℕ) → 1 < n → nat_lt 1 n ≡ true
test_true n l = grind (arith, nat_tests)

test_false : (n : ℕ) → n ≤ 1 → nat_lt 1 n ≡ false
test_false n l = grind (arith, nat_tests)

test_some : (n : ℕ) → nat_lt 1 n ≡ true → 1 < n
test_some n l = grind (arith, nat_tests)

-- as many texts as steps
as_many : (texts : Texts) (steps : List RawStep) → AreStepTexts texts steps → length texts ≡ length steps
as_many [] [] h = refl
as_many [] (s ∷ steps) h = absurd h
as_many (t ∷ texts) [] h = absurd h
as_many (t ∷ texts) (s ∷ steps) h = let n = as_many texts steps h.1 in omega arith

-- ---- what is written is read

parts_complete : (front : Texts) (steps : List RawStep) (t : Take) → 0 < length steps → AreStepTexts front steps → read_parts (front ++ end_text t ∷ []) ≡ Some (steps, t)
parts_complete front steps t some are =
    let n : length front ≡ length steps = as_many front steps are in
    let m : length (front ++ end_text t ∷ []) ≡ length front + 1 = length-append front (end_text t ∷ []) in
    let k : length (front ++ end_text t ∷ []) - 1 ≡ length front = omega arith in
    let more : nat_lt 1 (length (front ++ end_text t ∷ [])) ≡ true = test_true _ (omega arith) in
    rw (more, k) (rw (take-append_seam front (end_text t ∷ []), get_or-append_seam front (end_text t) [] [], steps_complete front steps are, end_complete t) refl)

pub chain_complete : (text : List ℕ) (steps : List RawStep) (t : Take) → IsChainText text steps t → read_chain text ≡ Some (steps, t)
chain_complete text steps t h = ap read_parts h.cut ∙ parts_complete h.front steps t h.some h.are

-- ---- what is read was written

record IsPartsRead (texts : Texts) (steps : List RawStep) (t : Take) : Type 0 where
  pub some : 0 < length steps
  pub front : Texts
  pub cut : texts ≡ front ++ end_text t ∷ []
  pub are : AreStepTexts front steps

parts_sound : (texts : Texts) (steps : List RawStep) (t : Take) → read_parts texts ≡ Some (steps, t) → IsPartsRead texts steps t
parts_sound texts steps t e = by_length (nat_lt 1 (length texts)) refl e
  where
    by_end : 1 < length texts → (us : List RawStep) → read_steps (take (length texts - 1) texts) ≡ Some us → (o : Option Take) → read_end (slice_index_or texts (length texts - 1) []) ≡ o →
        option_map (with_end us) o ≡ Some (steps, t) → IsPartsRead texts steps t
    by_end l us h None g e = cc
    by_end l us h (Some end) g e =
        let same : with_end us end ≡ (steps, t) = cc in
        let us_is : us ≡ steps = ap (λ p. p.0) same in
        let end_is : end ≡ t = ap (λ p. p.1) same in
        let are : AreStepTexts (take (length texts - 1) texts) steps = steps_sound (take (length texts - 1) texts) steps (h ∙ ap Some us_is) in
        let n = as_many (take (length texts - 1) texts) steps are in
        let m : length (take (length texts - 1) texts) ≡ length texts - 1 = length-take-le (length texts - 1) texts (omega arith) in
        record {
          some = omega arith;
          front = take (length texts - 1) texts;
          cut = by_last [] texts (omega arith) ∙ ap (λ x. take (length texts - 1) texts ++ x ∷ []) (end_sound (slice_index_or texts (length texts - 1) []) t (g ∙ ap Some end_is));
          are = are;
        }

    by_steps : 1 < length texts → (o : Option (List RawStep)) → read_steps (take (length texts - 1) texts) ≡ o →
        option_and_then (λ us. option_map (with_end us) (read_end (slice_index_or texts (length texts - 1) []))) o ≡ Some (steps, t) → IsPartsRead texts steps t
    by_steps l None h e = cc
    by_steps l (Some us) h e = by_end l us h (read_end (slice_index_or texts (length texts - 1) [])) refl e

    by_length : (b : Bool) → nat_lt 1 (length texts) ≡ b →
        (if b then option_and_then (λ us. option_map (with_end us) (read_end (slice_index_or texts (length texts - 1) []))) (read_steps (take (length texts - 1) texts)) else None) ≡ Some (steps, t) → IsPartsRead texts steps t
    by_length true l e = by_steps (test_some _ l) (read_steps (take (length texts - 1) texts)) refl e
    by_length false l e = cc

pub chain_sound : (text : List ℕ) (steps : List RawStep) (t : Take) → read_chain text ≡ Some (steps, t) → IsChainText text steps t
chain_sound text steps t e = let h = parts_sound (parts text) steps t e in record { some = h.some; front = h.front; cut = h.cut; are = h.are }

pub no_chain : (text : List ℕ) → read_chain text ≡ None → (steps : List RawStep) (t : Take) → IsChainText text steps t → ⊥
no_chain text none steps t h = let found = chain_complete text steps t h in cc

-- ---- steps alone

pub cut_some : (text : List ℕ) (steps : List RawStep) → Some steps ≡ read_steps (parts text) → AreStepsText text steps
cut_some text steps e = steps_sound (parts text) steps (sym e)

pub cut_none : (text : List ℕ) → None ≡ read_steps (parts text) → (steps : List RawStep) → AreStepsText text steps → ⊥
cut_none text e steps h = let found = steps_complete (parts text) steps h in cc

pub one_cut : (text : List ℕ) (steps other : List RawStep) → AreStepsText text steps → AreStepsText text other → steps ≡ other
one_cut text steps other h g =
    let a = steps_complete (parts text) steps h in
    let b = steps_complete (parts text) other g in
    let both : ◌≡◌ {A = Option (List RawStep)} (Some steps) (Some other) = sym a ∙ b in
    cc

-- ---- all parts, one after the other

-- steps after those that were read before them
abbrev onto : List RawStep → Option (List RawStep) → Option (List RawStep)
onto done o = option_map (λ steps. done ++ steps) o

-- the parts before the rest were read as these steps
pub record SoFar (all rest : Texts) (done : List RawStep) : Type 0 where
  pub so_far : read_steps all ≡ onto done (read_steps rest)
