-- XPath's words are those that white space parts, and the runs without white space.
use Rattle.std.proofs.Common.{◌≡◌, refl, sym, ◌∙◌, ap, ℕ, Bool, true, false, cond, List, [], ◌∷◌, ◌++◌, append_assoc}
use Rattle.std.specs.Prelude.{filter}
use Rattle.std.specs.List.{slice_split, onto_first}
use Rattle.std.proofs.lemmas.List.{append-nil}
use Rattle.text_base.specs.Text.{is_space4}
use Rattle.text_base.specs.Words as by
use Rattle.text_base.specs.Strings.{is_empty, runs}
use Rattle.text_base.proofs.WordLemmas as base
use Rattle.xpath_values.specs.Strings.{words_after, words}

-- characters in front of the first part
abbrev front : List ℕ → List (List ℕ) → List (List ℕ)
front w [] = w ∷ []
front w (v ∷ vs) = (w ++ v) ∷ vs

front_more : (w : List ℕ) (c : ℕ) (vs : List (List ℕ)) → front w (onto_first c vs) ≡ front (w ++ c ∷ []) vs
front_more w c [] = refl
front_more w c (v ∷ vs) = ap (λ x. x ∷ vs) (sym (append_assoc w (c ∷ []) v))

some_full : (w : List ℕ) (ws : List (List ℕ)) → cond (by.is_some w) (w ∷ ws) ws ≡ cond (is_empty w) ws (w ∷ ws)
some_full [] ws = refl
some_full (c ∷ w) ws = refl

front_onto : (c : ℕ) (vs : List (List ℕ)) → front [] (onto_first c vs) ≡ onto_first c vs
front_onto c [] = refl
front_onto c (v ∷ vs) = refl

nothing_front : (cs : List ℕ) → front [] (slice_split is_space4 cs) ≡ slice_split is_space4 cs
nothing_front [] = refl
nothing_front (c ∷ cs) = at (is_space4 c)
  where
    at : (b : Bool) → front [] (cond b ([] ∷ slice_split is_space4 cs) (onto_first c (slice_split is_space4 cs))) ≡ cond b ([] ∷ slice_split is_space4 cs) (onto_first c (slice_split is_space4 cs))
    at true = refl
    at false = front_onto c (slice_split is_space4 cs)

cut : (w cs : List ℕ) → filter by.is_some (front w (slice_split is_space4 cs)) ≡ words_after w cs
cut w [] = ap (λ v. filter by.is_some (v ∷ [])) (append-nil w) ∙ some_full w []
cut w (c ∷ cs) = at (is_space4 c) (cut [] cs) (cut (w ++ c ∷ []) cs)
  where
    at : (b : Bool) → filter by.is_some (front [] (slice_split is_space4 cs)) ≡ words_after [] cs → filter by.is_some (front (w ++ c ∷ []) (slice_split is_space4 cs)) ≡ words_after (w ++ c ∷ []) cs
        → filter by.is_some (front w (cond b ([] ∷ slice_split is_space4 cs) (onto_first c (slice_split is_space4 cs))))
        ≡ cond b (cond (is_empty w) (words_after [] cs) (w ∷ words_after [] cs)) (words_after (w ++ c ∷ []) cs)
    at true h k =
        ap (λ v. filter by.is_some (v ∷ slice_split is_space4 cs)) (append-nil w) ∙ some_full w (filter by.is_some (slice_split is_space4 cs))
        ∙ ap (λ r. cond (is_empty w) r (w ∷ r)) (ap (filter by.is_some) (sym (nothing_front cs)) ∙ h)
    at false h k = ap (filter by.is_some) (front_more w c (slice_split is_space4 cs)) ∙ k

pub same_words : (cs : List ℕ) → by.words cs ≡ words cs
same_words cs = ap (filter by.is_some) (sym (nothing_front cs)) ∙ cut [] cs

pub words_runs : (cs : List ℕ) → words cs ≡ runs is_space4 cs
words_runs cs = sym (same_words cs) ∙ base.words_runs is_space4 cs
