-- The lines that are printed, as JSON (RFC 8259) without white space, the members of an object in the order of their keys.
use Rattle.std.specs.Prelude.{ℕ, ◌+◌, ◌^◌, ◌<◌, List, ◌++◌, map, codes, decimal}
use Rattle.std.specs.List.{join_with_byte}
use Rattle.json.specs.Print.{quoted}
use Rattle.serde_json.specs.Data.{Data, array, object, string, number, unsigned, no_items, item, no_members, member}
use Rattle.serde_json.specs.View.{items_of}
use Rattle.css_selectors.specs.declared.selector.Selector.{Selector}
use Rattle.css_selectors.specs.declared.selector.Triple.{Triple}
use Rattle.css_selectors.specs.Sizes.{size_of}
use Rattle.css_selectors.specs.Specificity.{triple_of}

-- the three numbers in square brackets
abbrev pub triple_text : Triple → List ℕ
triple_text t = codes "[" ++ (decimal t.a ++ (codes "," ++ (decimal t.b ++ (codes "," ++ (decimal t.c ++ codes "]")))))

-- the triples of a list, with commas between
abbrev pub triples_text : List Selector → List ℕ
triples_text ss = join_with_byte 44 (map (λ s. triple_text (triple_of s)) ss)

-- The line of a list: its triples, one for each selector, and its XPath. `quoted` is a JSON string with the shortest escapes.
abbrev pub css_text : List Selector → List ℕ → List ℕ
css_text ss xpath = codes "{\"specificity\":[" ++ (triples_text ss ++ (codes "],\"xpath\":" ++ (quoted xpath ++ codes "}")))

-- the line of a refusal
abbrev pub reason_text : List ℕ → List ℕ
reason_text reason = codes "{\"refused\":" ++ (quoted reason ++ codes "}")

-- The same lines as values of JSON.

abbrev pub triple_data : Triple → Data
triple_data t = array (item (number (unsigned t.a)) (item (number (unsigned t.b)) (item (number (unsigned t.c)) no_items)))

abbrev pub triples_data : List Selector → Data
triples_data ss = array (items_of (map (λ s. triple_data (triple_of s)) ss))

abbrev pub css_data : List Selector → List ℕ → Data
css_data ss xpath = object (member (codes "specificity") (triples_data ss) (member (codes "xpath") (string xpath) no_members))

abbrev pub reason_data : List ℕ → Data
reason_data reason = object (member (codes "refused") (string reason) no_members)

-- a selector whose numbers fit 32 bits
abbrev pub IsSmall : Selector → Type 0
IsSmall s = size_of s + 1 < 2 ^ 32
