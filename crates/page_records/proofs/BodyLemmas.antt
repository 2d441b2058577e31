-- The entries of a script, one after the other, and the names of the fields of a body.
use Rattle.std.proofs.Common.{◌≡◌, ℕ, zero, suc, ◌+◌, ◌<◌, ◌++◌, Bool, true, false, List, [], ◌∷◌, length, take, drop, get_or, map, refl, sym, ◌∙◌, ap, subst, arith}
use Rattle.std.specs.Prelude.{IsTrue, ◌↔◌, ◌||◌}
use Rattle.std.specs.List.{AllByRecursion, list_any}
use Rattle.std.specs.Str.{bytes_eq, chars}
use Rattle.std.proofs.lemmas.List.{take_more, drop_more, map-append, drop-map}
use Rattle.std.proofs.lemmas.List.Folds.{list_any-append}
use Rattle.std.proofs.lemmas.Map.Keys.{IsDistinct-tail, IsDistinct-head, IsDistinct-cons}
use Rattle.std.proofs.lemmas.Map.Made.{IsDistinct-from_AllPairs}
use Rattle.std.proofs.lemmas.Slice.Eq.{bytes_eq-Decides}
use Rattle.test_registry.specs.Names.{Known}
use Rattle.css_selectors.specs.declared.selector.Dialect.{Dialect}
use Rattle.query_script.specs.declared.script.Field.{Field}
use Rattle.query_script.specs.Fields.{AreFields}
use Rattle.query_script.specs.Names.{name_of}
use Rattle.page_records.specs.declared.script.Entry.{Entry}
use Rattle.page_records.specs.Blocks.{Differ, names_of}
use Rattle.page_records.specs.Scripts.{IsEntry, AreEntries}

-- ---- one more

pub all_more : {X : Type 0} (P : X → Type 0) (xs : List X) (x : X) → AllByRecursion P xs → P x → AllByRecursion P (xs ++ x ∷ [])
all_more P [] x h q = (q, tt)
all_more P (y ∷ xs) x h q = (h.0, all_more P xs x h.1 q)

entries_snoc : (tests : Known) (d : Dialect) (ps : List (List ℕ)) (p : List ℕ) (es : List Entry) (e : Entry) → AreEntries tests d ps es → IsEntry tests d p e → AreEntries tests d (ps ++ p ∷ []) (es ++ e ∷ [])
entries_snoc tests d [] p [] e h is = (is, tt)
entries_snoc tests d [] p (g ∷ es) e h is = absurd h
entries_snoc tests d (q ∷ ps) p [] e h is = absurd h
entries_snoc tests d (q ∷ ps) p (g ∷ es) e h is = (h.0, entries_snoc tests d ps p es e h.1 is)

module _ {A : Type 0} (read : A → List ℕ) (tests : Known) (d : Dialect) (all : List A) (i : ℕ) (x : A) (w : i < length all) where
  one_more : map read (take i all) ++ read (get_or all i x) ∷ [] ≡ map read (take (i + 1) all)
  one_more = sym (ap (map read) (take_more all i x w) ∙ map-append read (take i all) (get_or all i x ∷ []))

  pub entries_more : (es : List Entry) (e : Entry) → AreEntries tests d (map read (take i all)) es → IsEntry tests d (read (get_or all i x)) e → AreEntries tests d (map read (take (i + 1) all)) (es ++ e ∷ [])
  entries_more es e h is = let P : List (List ℕ) → Type 0 = λ ps. AreEntries tests d ps (es ++ e ∷ []) in subst P one_more (entries_snoc tests d (map read (take i all)) (read (get_or all i x)) es e h is)

-- ---- names that differ

-- the names of the fields are those of the pieces
pub same_names : (tests : Known) (d : Dialect) (ps : List (List ℕ)) (fs : List Field) → AreFields tests d ps fs → map (λ (f : Field). f.name) fs ≡ names_of ps
same_names tests d [] [] h = refl
same_names tests d [] (f ∷ fs) h = absurd h
same_names tests d (p ∷ ps) [] h = absurd h
same_names tests d (p ∷ ps) (f ∷ fs) h = ap (λ n. n ∷ map (λ (g : Field). g.name) fs) h.0.name ∙ ap (λ ns. name_of p ∷ ns) (same_names tests d ps fs h.1)

some_here : (n y : List ℕ) (ns : List (List ℕ)) → bytes_eq n y ≡ true → list_any (bytes_eq n) (y ∷ ns) ≡ true
some_here n y ns e = rw e refl

some_past : (n y : List ℕ) (ns : List (List ℕ)) → bytes_eq n y ≡ false → list_any (bytes_eq n) (y ∷ ns) ≡ list_any (bytes_eq n) ns
some_past n y ns e = rw e refl

-- no name is the same as one that comes later
pub none_same : (n : List ℕ) (ns : List (List ℕ)) → list_any (bytes_eq n) ns ≡ false → AllByRecursion (λ y. bytes_eq n y ≡ false) ns
none_same n [] h = tt
none_same n (y ∷ ns) h = by_test (bytes_eq n y) refl (none_same n ns)
  where
    by_test : (b : Bool) → bytes_eq n y ≡ b → (list_any (bytes_eq n) ns ≡ false → AllByRecursion (λ z. bytes_eq n z ≡ false) ns) → AllByRecursion (λ z. bytes_eq n z ≡ false) (y ∷ ns)
    by_test true e ih = absurd (let clash : true ≡ false = sym (some_here n y ns e) ∙ h in cc)
    by_test false e ih = (e, ih (sym (some_past n y ns e) ∙ h))

-- or one is
pub one_same : (n : List ℕ) (ns : List (List ℕ)) → AllByRecursion (λ y. bytes_eq n y ≡ false) ns → list_any (bytes_eq n) ns ≡ false
one_same n [] h = refl
one_same n (y ∷ ns) h = some_past n y ns h.0 ∙ one_same n ns h.1

pub none_differ : Differ []
none_differ = IsDistinct-from_AllPairs bytes_eq-Decides [] (λ i j d h w. absurd (omega arith))

later_differ : (i : ℕ) (ns : List (List ℕ)) → Differ ns → Differ (drop i ns)
later_differ zero ns h = h
later_differ (suc i) [] h = none_differ
later_differ (suc i) (n ∷ ns) h = later_differ i ns (IsDistinct-tail bytes_eq n ns h)

module _ (fs : List Field) (i : ℕ) (x : Field) (w : i < length fs) where
  pub first_differs : Differ (map (λ (f : Field). f.name) (drop (i + 1) fs)) → list_any (bytes_eq (get_or fs i x).name) (map (λ (f : Field). f.name) (drop (i + 1) fs)) ≡ false →
      Differ (map (λ (f : Field). f.name) (drop i fs))
  first_differs h e = let P : List Field → Type 0 = λ gs. Differ (map (λ (f : Field). f.name) gs) in subst P (sym (drop_more fs i x w)) (IsDistinct-cons bytes_eq (get_or fs i x).name (map (λ (f : Field). f.name) (drop (i + 1) fs)) (none_same (get_or fs i x).name (map (λ (f : Field). f.name) (drop (i + 1) fs)) e) h)

  pub first_same : list_any (bytes_eq (get_or fs i x).name) (map (λ (f : Field). f.name) (drop (i + 1) fs)) ≡ true → Differ (map (λ (f : Field). f.name) fs) → ⊥
  first_same e h =
      let later : Differ (drop i (map (λ (f : Field). f.name) fs)) = later_differ i (map (λ (f : Field). f.name) fs) h in
      let P : List (List ℕ) → Type 0 = λ ns. Differ ns in
      let here : Differ ((get_or fs i x).name ∷ map (λ (f : Field). f.name) (drop (i + 1) fs)) = subst P (drop-map (λ (f : Field). f.name) i fs ∙ ap (map (λ (f : Field). f.name)) (drop_more fs i x w)) later in
      let clash : true ≡ false = sym e ∙ one_same (get_or fs i x).name (map (λ (f : Field). f.name) (drop (i + 1) fs)) (IsDistinct-head bytes_eq (get_or fs i x).name (map (λ (f : Field). f.name) (drop (i + 1) fs)) here) in cc

-- whether a field has the name, by what the code compares
pub same_name : (r : Bool) (n s y : List ℕ) → (IsTrue r ↔ (n ≡ chars s)) → chars s ≡ y → bytes_eq n y ≡ r
same_name true n s y h e = (bytes_eq-Decides n y).1 (h.0 refl ∙ e)
same_name false n s y h e = by_test (bytes_eq n y) refl
  where
    by_test : (b : Bool) → bytes_eq n y ≡ b → bytes_eq n y ≡ false
    by_test false t = t
    by_test true t = absurd (let clash : false ≡ true = h.1 ((bytes_eq-Decides n y).0 t ∙ sym e) in cc)

module _ (n : List ℕ) (fs : List Field) (i : ℕ) (x : Field) (w : i < length fs) where
  pub has_here : bytes_eq n (get_or fs i x).name ≡ true → list_any (bytes_eq n) (map (λ (f : Field). f.name) fs) ≡ true
  has_here e = at fs i w e
    where
      at : (gs : List Field) (k : ℕ) → k < length gs → bytes_eq n (get_or gs k x).name ≡ true → list_any (bytes_eq n) (map (λ (f : Field). f.name) gs) ≡ true
      at [] k h t = absurd (omega arith)
      at (g ∷ gs) zero h t = some_here n g.name (map (λ (f : Field). f.name) gs) t
      at (g ∷ gs) (suc k) h t = either (bytes_eq n g.name) (at gs k (omega arith) t)
        where
          either : (b : Bool) {c : Bool} → c ≡ true → (b || c) ≡ true
          either true e = refl
          either false e = e

  pub has_none_more : list_any (bytes_eq n) (map (λ (f : Field). f.name) (take i fs)) ≡ false → bytes_eq n (get_or fs i x).name ≡ false → list_any (bytes_eq n) (map (λ (f : Field). f.name) (take (i + 1) fs)) ≡ false
  has_none_more h e =
      ap (λ gs. list_any (bytes_eq n) (map (λ (f : Field). f.name) gs)) (take_more fs i x w)
      ∙ (ap (list_any (bytes_eq n)) (map-append (λ (f : Field). f.name) (take i fs) (get_or fs i x ∷ []))
      ∙ (list_any-append (bytes_eq n) (map (λ (f : Field). f.name) (take i fs)) ((get_or fs i x).name ∷ [])
      ∙ (ap (λ b. b || list_any (bytes_eq n) ((get_or fs i x).name ∷ [])) h ∙ some_past n (get_or fs i x).name [] e)))
