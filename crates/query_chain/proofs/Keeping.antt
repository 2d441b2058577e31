-- What a test keeps of items.
use Rattle.std.proofs.Common.{◌≡◌, ℕ, ◌≤◌, ◌++◌, Bool, true, false, List, [], ◌∷◌, map, length, filter, refl, sym, ◌∙◌, ap, arith, encode_utf8_all}
use Rattle.std.specs.Prelude.{if◌then◌else◌, not}
use Rattle.std.proofs.lemmas.List.Filters.{length-filter_both}
use Rattle.std.proofs.lemmas.List.Sums.{sum_by-cons}
use Rattle.doc_model.specs.Document.{Document}
use Rattle.test_registry.specs.declared.kinds.TestKind.{TestKind}
use Rattle.query_chain.specs.declared.limits.Limits.{Limits}
use Rattle.query_chain.specs.Chains.{item_text, item_texts, step_items, step_passes}
use Rattle.query_chain.specs.Items.{Item, node, text, own_text, strings, bytes_of}
use Rattle.query_chain.specs.Tasks.{keep}
use Rattle.query_chain.specs.inner.Keeping.{meets_text, row_meets}
use Rattle.query_chain.proofs.Adding.{bytes-append}
use Rattle.query_chain.proofs.Stepping.{passes_none}

module _ (doc : Document) (kind : TestKind) (other : List ℕ) where
  -- the item's text and the other meet the kind
  abbrev is_kept : Item → Bool
  is_kept i = meets_text kind other (item_text doc i)

  kept_items : (items : List Item) → step_items doc (keep kind other) items ≡ filter is_kept items
  kept_items [] = refl
  kept_items (i ∷ items) = one (is_kept i) (kept_items items)
    where
      one : (b : Bool) → step_items doc (keep kind other) items ≡ filter is_kept items →
          (if b then i ∷ [] else []) ++ step_items doc (keep kind other) items ≡ (if b then i ∷ filter is_kept items else filter is_kept items)
      one true e = ap (λ r. i ∷ r) e
      one false e = e

  filtered_nodes : (xs : List ℕ) → map node (filter (row_meets doc kind other) xs) ≡ filter is_kept (map node xs)
  filtered_nodes [] = refl
  filtered_nodes (x ∷ xs) = one (row_meets doc kind other x) (filtered_nodes xs)
    where
      one : (b : Bool) → map node (filter (row_meets doc kind other) xs) ≡ filter is_kept (map node xs) →
          map node (if b then x ∷ filter (row_meets doc kind other) xs else filter (row_meets doc kind other) xs) ≡ (if b then node x ∷ filter is_kept (map node xs) else filter is_kept (map node xs))
      one true e = ap (λ r. node x ∷ r) e
      one false e = e

  filtered_texts : (ts : List (List ℕ)) → map text (filter (meets_text kind other) ts) ≡ filter is_kept (map text ts)
  filtered_texts [] = refl
  filtered_texts (t ∷ ts) = one (meets_text kind other t) (filtered_texts ts)
    where
      one : (b : Bool) → map text (filter (meets_text kind other) ts) ≡ filter is_kept (map text ts) →
          map text (if b then t ∷ filter (meets_text kind other) ts else filter (meets_text kind other) ts) ≡ (if b then text t ∷ filter is_kept (map text ts) else filter is_kept (map text ts))
      one true e = ap (λ r. text t ∷ r) e
      one false e = e

  -- what is given of rows, and of texts
  pub kept_rows : (xs got : List ℕ) → got ≡ filter (row_meets doc kind other) xs → map node got ≡ step_items doc (keep kind other) (map node xs)
  kept_rows xs got e = ap (map node) e ∙ (filtered_nodes xs ∙ sym (kept_items (map node xs)))

  pub kept_texts : (ts got : List (List ℕ)) → got ≡ filter (meets_text kind other) ts → map text got ≡ step_items doc (keep kind other) (map text ts)
  kept_texts ts got e = ap (map text) e ∙ (filtered_texts ts ∙ sym (kept_items (map text ts)))

  -- no more items than there were
  kept_few : (items : List Item) → length (step_items doc (keep kind other) items) ≤ length items
  kept_few items =
      let size = ap length (kept_items items) in
      let parts = length-filter_both is_kept (λ i. not (is_kept i)) (λ _. refl) items in
      omega (arith, size, parts)

  own_bytes : (i : Item) → bytes_of (own_text i) ≤ length (encode_utf8_all (item_text doc i))
  own_bytes (node x) = omega arith
  own_bytes (text t) = let one = sum_by-cons (λ t. length (encode_utf8_all t)) t [] in omega (arith, one)

  -- no more bytes than all their texts have
  filtered_bytes : (items : List Item) → bytes_of (strings (filter is_kept items)) ≤ bytes_of (item_texts doc items)
  filtered_bytes [] = omega arith
  filtered_bytes (i ∷ items) = one (is_kept i) (filtered_bytes items)
    where
      one : (b : Bool) → bytes_of (strings (filter is_kept items)) ≤ bytes_of (item_texts doc items) →
          bytes_of (strings (if b then i ∷ filter is_kept items else filter is_kept items)) ≤ bytes_of (item_texts doc (i ∷ items))
      one true rest =
          let front = bytes-append (own_text i) (strings (filter is_kept items)) in
          let whole = sum_by-cons (λ t. length (encode_utf8_all t)) (item_text doc i) (item_texts doc items) in
          let own = own_bytes i in
          omega (arith, front, whole, own, rest)
      one false rest =
          let whole = sum_by-cons (λ t. length (encode_utf8_all t)) (item_text doc i) (item_texts doc items) in
          omega (arith, whole, rest)

  -- a test passes no limit where the texts of its items are within it
  pub keep_passes : (limits : Limits) (items : List Item) → bytes_of (item_texts doc items) ≤ limits.bytes → length items ≤ limits.items → step_passes limits doc (keep kind other) items ≡ []
  keep_passes limits items within few =
      let size = kept_few items in
      let bytes = ap (λ r. bytes_of (strings r)) (kept_items items) in
      let less = filtered_bytes items in
      passes_none limits doc (keep kind other) items within (omega (arith, size, few)) (omega (arith, bytes, less, within))

  pub kept_within : (items got : List Item) (n : ℕ) → got ≡ step_items doc (keep kind other) items → length items ≤ n → length got ≤ n
  kept_within items got n e few = let size = ap length e in let less = kept_few items in omega (arith, size, less, few)
