-- The items of a chain.
use Rattle.std.specs.Prelude.{ℕ, List, [], ◌∷◌, flat_map, sum_by, length, encode_utf8_all}

-- a row of the document, or a text as its characters
pub data Item : Type 0 where
  node : ℕ → Item
  text : List ℕ → Item

-- the items that are texts, in order
abbrev pub own_text : Item → List (List ℕ)
own_text (node x) = []
own_text (text t) = t ∷ []

abbrev pub strings : List Item → List (List ℕ)
strings items = flat_map own_text items

-- how many bytes the texts have together
abbrev pub bytes_of : List (List ℕ) → ℕ
bytes_of ts = sum_by (λ t. length (encode_utf8_all t)) ts
