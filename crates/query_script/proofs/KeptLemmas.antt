-- The pieces that are not blanks alone, one after the other.
use Rattle.std.proofs.Common.{◌≡◌, ℕ, ◌+◌, ◌<◌, ◌++◌, List, [], ◌∷◌, length, take, get_or, refl, sym, ◌∙◌, ap, map}
use Rattle.std.specs.Prelude.{true, false, filter}
use Rattle.std.specs.List.{list_all}
use Rattle.std.proofs.lemmas.List.{take_more, map-append, append-nil}
use Rattle.std.proofs.lemmas.List.Elements.{filter-append}
use Rattle.query_script.specs.Cuts.{is_blank, is_written}

kept_blank : (p : List ℕ) → list_all is_blank p ≡ true → filter is_written (p ∷ []) ≡ []
kept_blank p e = rw e refl

kept_one : (p : List ℕ) → list_all is_blank p ≡ false → filter is_written (p ∷ []) ≡ p ∷ []
kept_one p e = rw e refl

module _ {A : Type 0} (read : A → List ℕ) where
  -- one piece more
  kept_next : (all : List A) (i : ℕ) (d : A) → i < length all → filter is_written (map read (take (i + 1) all)) ≡ filter is_written (map read (take i all)) ++ filter is_written (read (get_or all i d) ∷ [])
  kept_next all i d h = ap (λ t. filter is_written (map read t)) (take_more all i d h) ∙ (ap (filter is_written) (map-append read (take i all) (get_or all i d ∷ []))
      ∙ filter-append is_written (map read (take i all)) (read (get_or all i d) ∷ []))

  -- a blank piece is passed by
  pub kept_skips : (all some : List A) (i : ℕ) (d : A) → map read some ≡ filter is_written (map read (take i all)) → i < length all → list_all is_blank (read (get_or all i d)) ≡ true →
      map read some ≡ filter is_written (map read (take (i + 1) all))
  kept_skips all some i d h w b = h ∙ sym (kept_next all i d w ∙ (ap (λ t. filter is_written (map read (take i all)) ++ t) (kept_blank (read (get_or all i d)) b) ∙ append-nil (filter is_written (map read (take i all)))))

  -- any other is kept
  pub kept_takes : (all some : List A) (i : ℕ) (d : A) → map read some ≡ filter is_written (map read (take i all)) → i < length all → list_all is_blank (read (get_or all i d)) ≡ false →
      map read (some ++ get_or all i d ∷ []) ≡ filter is_written (map read (take (i + 1) all))
  kept_takes all some i d h w b = map-append read some (get_or all i d ∷ []) ∙ (ap (λ t. t ++ read (get_or all i d) ∷ []) h
      ∙ sym (kept_next all i d w ∙ ap (λ t. filter is_written (map read (take i all)) ++ t) (kept_one (read (get_or all i d)) b)))
