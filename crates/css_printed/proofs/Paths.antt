-- Where a path of steps ends, by what each of them relates.
use Rattle.std.proofs.Common.{◌≡◌, refl, ℕ, Bool, true, ◌&&◌, eqb, List, [], ◌∷◌, ◌++◌, ap, sym, ◌∙◌, filter, map, inl, inr}
use Rattle.std.specs.List.{list_any, AllByRecursion}
use Rattle.std.proofs.lemmas.Bool.{or_cases, and_parts}
use Rattle.doc_model.specs.Document.{Document, rows}
use Rattle.css_meaning.proofs.ListTests as lists
use Rattle.xpath_parser.specs.Denote.{Walk, has, path, rows_in}

-- a test that holds of some member
pub found_in : (p : ℕ → Bool) (xs : List ℕ) → list_any p xs ≡ true → (x : ℕ) × (has x xs ≡ true) × (p x ≡ true)
found_in p [] h = cc
found_in p (x ∷ xs) h = elim (or_cases (p x) (list_any p xs) h) [
  | inl here ↦ (x, lists.in_first x xs, here)
  | inr later ↦ (let w : (z : ℕ) × (has z xs ≡ true) × (p z ≡ true) = found_in p xs later in (w.0, lists.in_rest x w.0 xs w.1, w.2))
]

module _ (doc : Document) where
  -- a row stands in the list of one of the places
  pub in_rows_in : {A : Type 0} (xs : List A) (list_at : A → List ℕ) (y : ℕ)
      → has y (rows_in doc xs list_at) ≡ (list_any (λ x. has y (list_at x)) xs && has y (rows doc))
  unfolding rows_in
  in_rows_in xs list_at y = lists.in_filter (λ z. list_any (λ x. has z (list_at x)) xs) (rows doc) y

  pub path_append : (xs : List ℕ) (ws vs : List Walk) → path doc xs (ws ++ vs) ≡ path doc (path doc xs ws) vs
  path_append xs [] vs = refl
  path_append xs (w ∷ ws) vs = path_append (rows_in doc xs w) ws vs

  -- what a path gives from a filter of all rows is one too
  path_filter : (ws : List Walk) (test : ℕ → Bool) → (found : ℕ → Bool) × (path doc (filter test (rows doc)) ws ≡ filter found (rows doc))
  unfolding rows_in
  path_filter [] test = (test, refl)
  path_filter (w ∷ ws) test = path_filter ws (λ y. list_any (λ x. has y (w x)) (filter test (rows doc)))

  -- a filter of all rows is known by its members
  filter_by : (found test : ℕ → Bool) (xs : List ℕ) → xs ≡ filter found (rows doc)
      → ((y : ℕ) → has y (rows doc) ≡ true → has y xs ≡ test y) → xs ≡ filter test (rows doc)
  filter_by found test xs e same = e ∙ lists.filter_among found test (rows doc) (λ y among.
      sym (lists.in_filter found (rows doc) y ∙ ap (λ b. found y && b) among ∙ lists.and_true (found y))
      ∙ ap (has y) (sym e) ∙ same y among)

  -- a path of a step and more gives the rows that pass, in their order
  pub path_rows : (w : Walk) (ws : List Walk) (xs : List ℕ) (test : ℕ → Bool)
      → ((y : ℕ) → has y (rows doc) ≡ true → has y (path doc xs (w ∷ ws)) ≡ test y) → path doc xs (w ∷ ws) ≡ filter test (rows doc)
  unfolding rows_in
  path_rows w ws xs test same =
      let f : (found : ℕ → Bool) × (path doc (rows_in doc xs w) ws ≡ filter found (rows doc)) = path_filter ws (λ y. list_any (λ x. has y (w x)) xs) in
      filter_by f.0 test (path doc xs (w ∷ ws)) f.1 same

  -- ---- a path by what each of its steps relates

  -- x and y are related by a row for each part
  abbrev pub chain : {P : Type 0} → (P → ℕ → ℕ → Bool) → List P → ℕ → ℕ → Bool
  chain related [] x y = eqb x y
  chain related (p ∷ ps) x y = list_any (λ z. related p x z && chain related ps z y) (rows doc)

  -- from places of a kind
  module _ {P : Type 0} (walk : P → Walk) (related : P → ℕ → ℕ → Bool) (kind : ℕ → Bool) where
    -- the step gives what it relates, from each place of the kind
    abbrev pub Gives : P → Type 0
    Gives p = (x y : ℕ) → kind x ≡ true → has y (rows doc) ≡ true → has y (walk p x) ≡ related p x y

    -- what it relates is of the kind
    abbrev pub Stays : P → Type 0
    Stays p = (x y : ℕ) → related p x y ≡ true → kind y ≡ true

    abbrev pub OfKind : List ℕ → Type 0
    OfKind xs = (x : ℕ) → has x xs ≡ true → kind x ≡ true

    pub stays_in : (p : P) (xs : List ℕ) → Gives p → Stays p → OfKind xs → OfKind (rows_in doc xs (walk p))
    stays_in p xs gives stays of_kind y h =
        let both : (list_any (λ x. has y (walk p x)) xs ≡ true) × (has y (rows doc) ≡ true) = and_parts _ _ (sym (in_rows_in xs (walk p) y) ∙ h) in
        let w : (x : ℕ) × (has x xs ≡ true) × (has y (walk p x) ≡ true) = found_in (λ x. has y (walk p x)) xs both.0 in
        stays w.0 y (sym (gives w.0 y (of_kind w.0 w.1) both.1) ∙ w.2)

    -- going on from the rows of one step is going on by one step more
    pub one_step : (p : P) (ps : List P) (xs : List ℕ) (r : ℕ) → Gives p → OfKind xs
        → list_any (λ y. chain related ps y r) (rows_in doc xs (walk p)) ≡ list_any (λ x. chain related (p ∷ ps) x r) xs
    unfolding rows_in
    one_step p ps xs r gives of_kind =
        lists.any_filter (λ y. list_any (λ x. has y (walk p x)) xs) (λ y. chain related ps y r) (rows doc)
        ∙ lists.any_same _ _ (λ y. lists.any_and (λ x. has y (walk p x)) (chain related ps y r) xs) (rows doc)
        ∙ sym (lists.any_swap (λ x y. has y (walk p x) && chain related ps y r) xs (rows doc))
        ∙ lists.any_among _ _ xs (λ x in_xs. lists.any_among _ _ (rows doc) (λ y among. ap (λ b. b && chain related ps y r) (gives x y (of_kind x in_xs) among)))

    -- a row is at the end of the path where a chain leads to it from some place
    pub path_chain : (ps : List P) (xs : List ℕ) (r : ℕ) → AllByRecursion Gives ps → AllByRecursion Stays ps → OfKind xs
        → has r (path doc xs (map walk ps)) ≡ list_any (λ x. chain related ps x r) xs
    path_chain [] xs r gives stays of_kind = refl
    path_chain (p ∷ ps) xs r gives stays of_kind =
        path_chain ps (rows_in doc xs (walk p)) r gives.1 stays.1 (stays_in p xs gives.0 stays.0 of_kind) ∙ one_step p ps xs r gives.0 of_kind
