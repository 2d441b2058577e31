-- Fields that are prepared one after the other.
use Rattle.std.proofs.Common.{◌≡◌, ℕ, ◌+◌, ◌<◌, ◌≤◌, ◌++◌, List, [], ◌∷◌, take, get_or, length, sym, ◌∙◌, ap, subst}
use Rattle.std.specs.List.{AllByRecursion}
use Rattle.std.proofs.lemmas.List.{take_more, take_all}
use Rattle.std.proofs.lemmas.List.Elements.{All-from_recursion}
use Rattle.test_registry.specs.Names.{Known}
use Rattle.query_script.specs.declared.script.Field.{Field}
use Rattle.query_chain.specs.Tasks.{Task, IsTaskOver}
use Rattle.page_records.specs.Records.{AreTasks}

-- what holds of each holds of the one at a place
pub each_at : {X : Type 0} (P : X → Type 0) (xs : List X) (i : ℕ) (x : X) → i < length xs → x ≡ get_or xs i x → AllByRecursion P xs → P x
each_at P xs i x h e all = subst P (sym e) (All-from_recursion P xs all i x h)

module _ (tests : Known) where
  more_tasks : (fields : List Field) (tasks : List Task) (f : Field) (t : Task) → AreTasks tests fields tasks → IsTaskOver tests f t → AreTasks tests (fields ++ f ∷ []) (tasks ++ t ∷ [])
  more_tasks [] [] f t h k = (k, tt)
  more_tasks [] (u ∷ tasks) f t h k = absurd h
  more_tasks (g ∷ fields) [] f t h k = absurd h
  more_tasks (g ∷ fields) (u ∷ tasks) f t h k = (h.0, more_tasks fields tasks f t h.1 k)

  -- one field more
  pub tasks_more : (fields : List Field) (i : ℕ) (old new : List Task) (f : Field) (t : Task) → i < length fields → f ≡ get_or fields i f → new ≡ old ++ t ∷ [] →
      AreTasks tests (take i fields) old → IsTaskOver tests f t → AreTasks tests (take (i + 1) fields) new
  tasks_more fields i old new f t h at e before one =
      let front : take (i + 1) fields ≡ take i fields ++ f ∷ [] = take_more fields i f h ∙ ap (λ g. take i fields ++ g ∷ []) (sym at) in
      subst (λ tasks. AreTasks tests (take (i + 1) fields) tasks) (sym e)
      (subst (λ fs. AreTasks tests fs (old ++ t ∷ [])) (sym front) (more_tasks (take i fields) old f t before one))

  pub all_tasks : (fields : List Field) (i : ℕ) (tasks : List Task) → length fields ≤ i → AreTasks tests (take i fields) tasks → AreTasks tests fields tasks
  all_tasks fields i tasks h k = subst (λ fs. AreTasks tests fs tasks) (take_all i fields h) k
