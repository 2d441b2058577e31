-- Entries that are ready, and their values.
use Rattle.std.proofs.Common.{◌≡◌, ℕ, zero, suc, ◌+◌, ◌<◌, List, [], ◌∷◌, ◌++◌, length, take, get_or, map, refl, subst, arith, add-one, sym, ◌∙◌, ap, ap₂}
use Rattle.std.specs.Prelude.{All}
use Rattle.std.proofs.lemmas.List.{take_more, map-append}
use Rattle.std.proofs.lemmas.List.Elements.{All-push}
use Rattle.doc_model.specs.Document.{Document}
use Rattle.test_registry.specs.Names.{Known}
use Rattle.page_records.specs.declared.script.Entry.{Entry}
use Rattle.page_records.specs.Lines.{HaveForms}
use Rattle.page_records.specs.Records.{EntryTask, IsEntryTask, EntryAsks, entry_outcome}
use Rattle.extract_call.specs.PageLines.{AreValues}
use Rattle.extract_call.specs.Below.{Below}
use Rattle.extract_call.specs.inner.Tasks.{AreTasks}

module _ (tests : Known) where
  next_task : (entries : List Entry) (tasks : List EntryTask) (i : ℕ) (e : Entry) (t : EntryTask) → AreTasks tests (take i entries) tasks → i < length entries → e ≡ get_or entries i e → IsEntryTask tests e t
      → AreTasks tests (take (suc i) entries) (tasks ++ t ∷ [])
  next_task [] tasks i e t h w at is = absurd (omega arith)
  next_task (g ∷ entries) [] zero e t h w at is = (subst (λ x. IsEntryTask tests x t) at is, tt)
  next_task (g ∷ entries) (u ∷ tasks) zero e t h w at is = absurd h
  next_task (g ∷ entries) [] (suc i) e t h w at is = absurd h
  next_task (g ∷ entries) (u ∷ tasks) (suc i) e t h w at is = (h.0, next_task entries tasks i e t h.1 (omega arith) at is)

  -- one entry more
  pub task_more : (entries : List Entry) (old new : List EntryTask) (i : ℕ) (e : Entry) (t : EntryTask) → AreTasks tests (take i entries) old → i < length entries → e ≡ get_or entries i e → IsEntryTask tests e t
      → new ≡ old ++ t ∷ [] → AreTasks tests (take (i + 1) entries) new
  task_more entries old new i e t h w at is more = rw (more, add-one) (next_task entries old i e t h w at is)

  pub asks_more : (old new : List EntryTask) (t : EntryTask) → new ≡ old ++ t ∷ [] → All (EntryAsks tests) old → EntryAsks tests t → All (EntryAsks tests) new
  asks_more old new t more h is = subst (λ (x : List EntryTask). All (EntryAsks tests) x) (sym more) (All-push (EntryAsks tests) old t h is)

  -- what the tasks of entries have as their values is the entries' values
  pub values_by_tasks : (doc : Document) (entries : List Entry) (tasks : List EntryTask) → AreTasks tests entries tasks → AreValues tests doc entries (map (entry_outcome doc) tasks)
  values_by_tasks doc [] [] h = tt
  values_by_tasks doc [] (t ∷ tasks) h = absurd h
  values_by_tasks doc (e ∷ entries) [] h = absurd h
  values_by_tasks doc (e ∷ entries) (t ∷ tasks) h = ((t, (h.0, refl)), values_by_tasks doc entries tasks h.1)

  -- and each has its entry's form
  pub forms_by_tasks : Below → (doc : Document) (entries : List Entry) (tasks : List EntryTask) → AreTasks tests entries tasks → HaveForms entries (map (entry_outcome doc) tasks)
  forms_by_tasks below doc [] [] h = tt
  forms_by_tasks below doc [] (t ∷ tasks) h = absurd h
  forms_by_tasks below doc (e ∷ entries) [] h = absurd h
  forms_by_tasks below doc (e ∷ entries) (t ∷ tasks) h = (below.has_form tests doc e t h.0, forms_by_tasks below doc entries tasks h.1)

-- one value more of a list of values
pub mapped_more : {X Y : Type 0} (f : X → Y) (xs : List X) (old new : List Y) (i : ℕ) (x : X) (y : Y) → old ≡ map f (take i xs) → i < length xs → x ≡ get_or xs i x → y ≡ f x → new ≡ old ++ y ∷ []
    → new ≡ map f (take (i + 1) xs)
mapped_more f xs old new i x y h w at is more =
    let front : take (i + 1) xs ≡ take i xs ++ x ∷ [] = take_more xs i x w ∙ ap (λ t. take i xs ++ t ∷ []) (sym at) in
    more ∙ ap₂ (λ a b. a ++ b ∷ []) h is ∙ sym (ap (map f) front ∙ map-append f (take i xs) (x ∷ []))
