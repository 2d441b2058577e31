use Rattle.std.proofs.Common.{◌≡◌, sym, ◌∙◌, ap, subst, ℕ, Bool, ◌+◌, ◌++◌, ◌∷◌, [], take, map, append_assoc, string_bytes, List}
use Rattle.std.proofs.lemmas.List.{take_more}
use Rattle.std.specs.List.{AllByRecursion}
use Rattle.css_selectors.specs.declared.selector.Compound.{Compound}
use Rattle.css_selectors.specs.declared.selector.Part.{Part}
use Rattle.css_selectors.specs.declared.selector.Relative.{Relative}
use Rattle.css_printed.specs.TestTexts.{choice, path_text, test_said, compound_text, part_steps, relative_text}
use Rattle.css_translate.specs.inner.Pieces.{or_text, step_at}
use Rattle.css_translate.specs.inner.Read.{IsReadCompound, IsReadPart, IsReadRelative}
use Rattle.css_translate.proofs.Pushes.{same_piece}
use Rattle.css_translate.proofs.Said as said
use Rattle.css_translate.proofs.TextLemmas.{grown}
use Rattle.css_translate.proofs.+printing.Goals as goal

-- one alternative more of a loop
grows : {A : Type 0} (text : A → List ℕ) (was mid now : List ℕ) (b : Bool) (xs : List A) (y : A)
    → mid ≡ was ++ choice (map text xs) → b ≡ said.is_nil xs → now ≡ mid ++ (or_text b ++ text y) → now ≡ was ++ choice (map text (xs ++ y ∷ []))
grows text was mid now b xs y h first k =
    k ∙ ap (λ f. mid ++ (or_text f ++ text y)) first
    ∙ ap (λ s. s ++ (or_text (said.is_nil xs) ++ text y)) h
    ∙ append_assoc was (choice (map text xs)) (or_text (said.is_nil xs) ++ text y)
    ∙ ap (λ s. was ++ s) (sym (said.choice_more text xs y))

pub choices::push_choice-loop-compound-preserved : goal.choices::push_choice-loop-compound-preserved
choices::push_choice-loop-compound-preserved t c =
    let xs = c.args.compounds.now in
    let i = c.loop-compound.compound-index in
    let x = c.compound-item.result in
    let more : take (i + 1) xs ≡ take i xs ++ x ∷ [] = take_more xs i x c.loop-compound-test.true ∙ ap (λ v. take i xs ++ v ∷ []) (sym c.compound-item.is) in
    let text = λ (y : Compound). compound_text c.args.dialect y c.args.around.now in
    record {
      text = grows text _ _ _ _ (take i xs) x c.loop-compound.invariant.text c.loop-compound.invariant.first c.in_ok-push_operand.ensures.text
          ∙ ap (λ (ys : List Compound). string_bytes c.args.out.now ++ choice (map text ys)) (sym more);
      first = said.not_nil (take i xs) x ∙ ap said.is_nil (sym more);
      texts = subst (AllByRecursion IsReadCompound) (sym more) (grown IsReadCompound (take i xs) x c.loop-compound.invariant.texts c.in_ok-push_operand.ensures.texts);
    }

pub relatives::push_relatives-loop-relative-preserved : goal.relatives::push_relatives-loop-relative-preserved
relatives::push_relatives-loop-relative-preserved t c =
    let xs = c.args.relatives.now in
    let i = c.loop-relative.relative-index in
    let x = c.relative-item.result in
    let more : take (i + 1) xs ≡ take i xs ++ x ∷ [] = take_more xs i x c.loop-relative-test.true ∙ ap (λ v. take i xs ++ v ∷ []) (sym c.relative-item.is) in
    let text = relative_text c.args.dialect in
    record {
      text = grows text _ _ _ _ (take i xs) x c.loop-relative.invariant.text c.loop-relative.invariant.first c.in_ok-push_alternative.ensures.text
          ∙ ap (λ (ys : List Relative). string_bytes c.args.out.now ++ choice (map text ys)) (sym more);
      first = said.not_nil (take i xs) x ∙ ap said.is_nil (sym more);
      texts = subst (AllByRecursion IsReadRelative) (sym more) (grown IsReadRelative (take i xs) x c.loop-relative.invariant.texts c.in_ok-push_alternative.ensures.texts);
    }

pub relatives::push_path-loop-part-preserved : goal.relatives::push_path-loop-part-preserved
relatives::push_path-loop-part-preserved t c =
    let xs = c.args.parts.now in
    let i = c.loop-part.part-index in
    let x = c.part-item.result in
    let more : take (i + 1) xs ≡ take i xs ++ x ∷ [] = take_more xs i x c.loop-part-test.true ∙ ap (λ v. take i xs ++ v ∷ []) (sym c.part-item.is) in
    let steps = part_steps c.args.dialect in
    let was = string_bytes c.args.out.now in
    record {
      text = c.in_ok-push_part.ensures.text ∙ ap (λ b. string_bytes c.loop-part.out ++ step_at b (steps x)) c.loop-part.invariant.first
          ∙ ap (λ s. s ++ step_at (said.is_nil (take i xs)) (steps x)) c.loop-part.invariant.text
          ∙ append_assoc was (path_text (map steps (take i xs))) (step_at (said.is_nil (take i xs)) (steps x))
          ∙ ap (λ s. was ++ s) (sym (said.path_more steps (take i xs) x))
          ∙ ap (λ (ys : List Part). was ++ path_text (map steps ys)) (sym more);
      first = said.not_nil (take i xs) x ∙ ap said.is_nil (sym more);
      texts = subst (AllByRecursion IsReadPart) (sym more) (grown IsReadPart (take i xs) x c.loop-part.invariant.texts c.in_ok-push_part.ensures.texts);
    }

pub choices::push_brackets-returns-in-Nth-clause-text : goal.choices::push_brackets-returns-in-Nth-clause-text
choices::push_brackets-returns-in-Nth-clause-text t c =
    same_piece _ _ _ _ _
    (sym (ap (λ u. (test_said c.args.dialect u c.args.around.now).brackets) c.in-Nth.is ∙ said.brackets_nth c.args.dialect _ _ _ c.args.around.now)) c.push_position.ensures
