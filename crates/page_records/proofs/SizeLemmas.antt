-- How many bytes are left of a limit after the strings of a list, one item after the other.
use Rattle.std.proofs.Common.{◌≡◌, ℕ, ◌+◌, ◌<◌, ◌≤◌, ◌++◌, List, [], ◌∷◌, map, take, get_or, length, refl, sym, ◌∙◌, ap, subst, arith, encode_utf8_all}
use Rattle.std.specs.Prelude.{flat_map, sum_by}
use Rattle.std.proofs.lemmas.List.{take_more, take_all, map-append}
use Rattle.std.proofs.lemmas.List.Folds.{flat_map-map}
use Rattle.std.proofs.lemmas.List.Sums.{sum_by-cons, sum_by-append, sum_by_more, sum_by-take-le}
use Rattle.doc_model.specs.Document.{Document}
use Rattle.query_chain.specs.Chains.{outcome}
use Rattle.query_chain.specs.Items.{bytes_of}
use Rattle.query_chain.specs.Tasks.{Task}
use Rattle.page_records.specs.Records.{strings_in, record_at, records, record_bytes, all_bytes}

module _ {X : Type 0} (f : X → ℕ) (xs : List X) (i limit left : ℕ) (d : X) where
  -- one item more
  pub left_after : (rest : ℕ) → i < length xs → left + sum_by f (take i xs) ≡ limit → rest + f (get_or xs i d) ≡ left → rest + sum_by f (take (i + 1) xs) ≡ limit
  left_after rest h e n = let more = sum_by_more f xs i d h in omega (arith, more, e, n)

  -- the next one has more than is left
  pub none_left : i < length xs → left + sum_by f (take i xs) ≡ limit → left < f (get_or xs i d) → limit < sum_by f xs
  none_left h e over =
      let more = sum_by_more f xs i d h in
      let front = sum_by-take-le f xs (i + 1) in
      omega (arith, more, front, e, over)

pub left_at_end : {X : Type 0} (f : X → ℕ) (xs : List X) (i limit left : ℕ) → length xs ≤ i → left + sum_by f (take i xs) ≡ limit → left + sum_by f xs ≡ limit
left_at_end f xs i limit left h e = subst (λ ys. left + sum_by f ys ≡ limit) (take_all i xs h) e

-- what the items are mapped to, with one item more
pub mapped_more : {X Y : Type 0} (f : X → Y) (xs : List X) (i : ℕ) (d : X) → i < length xs → map f (take i xs) ++ f (get_or xs i d) ∷ [] ≡ map f (take (i + 1) xs)
mapped_more f xs i d h = sym (ap (map f) (take_more xs i d h) ∙ map-append f (take i xs) (get_or xs i d ∷ []))

-- ---- the strings of many

bytes_each : {X : Type 0} (g : X → List (List ℕ)) (xs : List X) → bytes_of (flat_map g xs) ≡ sum_by (λ x. bytes_of (g x)) xs
bytes_each g [] = refl
bytes_each g (x ∷ xs) =
    sum_by-append (λ t. length (encode_utf8_all t)) (g x) (flat_map g xs) ∙ (ap (λ n. bytes_of (g x) + n) (bytes_each g xs) ∙ sym (sum_by-cons (λ x. bytes_of (g x)) x xs))

-- how many bytes the strings have of what a task gives at a row
abbrev pub task_bytes : Document → ℕ → Task → ℕ
task_bytes doc row task = bytes_of (strings_in (outcome doc row task))

pub record_sum : (doc : Document) (tasks : List Task) (row : ℕ) → sum_by (task_bytes doc row) tasks ≡ record_bytes (record_at doc tasks row)
record_sum doc tasks row = sym (ap bytes_of (flat_map-map strings_in (outcome doc row) tasks) ∙ bytes_each (λ t. strings_in (outcome doc row t)) tasks)

-- and of its record
abbrev pub row_bytes : Document → List Task → ℕ → ℕ
row_bytes doc tasks row = record_bytes (record_at doc tasks row)

pub records_sum : (doc : Document) (tasks : List Task) (rows : List ℕ) → sum_by (row_bytes doc tasks) rows ≡ all_bytes (records doc tasks rows)
records_sum doc tasks rows =
    sym (ap bytes_of (flat_map-map (flat_map strings_in) (record_at doc tasks) rows) ∙ bytes_each (λ x. flat_map strings_in (record_at doc tasks x)) rows)
