-- Elements among their siblings, as far as the rows were counted.
use Rattle.std.specs.Prelude.{◌≡◌, ℕ, ◌<◌, Bool, true, ◌&&◌, List, length, filter, slice_index}
use Rattle.std.specs.List.{range_with_len}
use Rattle.doc_model.specs.Document.{Document, row, is_element, is_parent}

-- how many rows before b are children of p and pass
abbrev pub children_before : Document → (ℕ → Bool) → ℕ → ℕ → ℕ
children_before doc e p b = length (filter (λ z. e z && is_parent doc p z) (range_with_len 0 b))

-- Of the rows before b: for each element how many elements stand before it below the same parent, and for each row how
-- many of its children are elements.
pub record HasChildren (doc : Document) (ranks counts : List ℕ) (b : ℕ) : Type 0 where
  pub ranked : length ranks ≡ b
  pub counted : length counts ≡ b
  pub rank : (y : ℕ) → y < b → is_element doc y ≡ true → slice_index ranks y ≡ children_before doc (is_element doc) (row doc y).parent y
  pub count : (p : ℕ) → p < b → slice_index counts p ≡ children_before doc (is_element doc) p b
