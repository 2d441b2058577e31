-- The text of a line is the text of its value.
use Rattle.std.proofs.Common.{◌≡◌, refl, ℕ, Bool, true, false, List, [], ◌∷◌, ◌++◌, ap, ◌∙◌, map, ◌||◌, append_assoc, sym, codes}
use Rattle.std.specs.List.{join_with_byte}
use Rattle.json.specs.Print.{quoted, escape_byte}
use Rattle.serde_json.specs.Data.{Data}
use Rattle.serde_json.specs.View.{items_of}
use Rattle.serde_json.specs.Written.{has_float, items_have_float, items_text, compact_text}
use Rattle.css_selectors.specs.declared.selector.Selector.{Selector}
use Rattle.css_selectors.specs.Specificity.{triple_of}
use Rattle.json_lines.specs.Lines.{css_data, css_text, reason_data, reason_text, triple_data, triple_text, triples_text}

pub or_false : (a b : Bool) → a ≡ false → b ≡ false → (a || b) ≡ false
or_false a b p q = rw (p, q) refl

-- items without a float
pub items_no_float : {X : Type 0} (item : X → Data) → ((x : X) → has_float (item x) ≡ false) → (xs : List X) → items_have_float (items_of (map item xs)) ≡ false
items_no_float item each [] = refl
items_no_float item each (x ∷ xs) = or_false (has_float (item x)) (items_have_float (items_of (map item xs))) (each x) (items_no_float item each xs)

-- the items after the first
later_items : {X : Type 0} (item : X → Data) (text : X → List ℕ) → ((x : X) → compact_text (item x) ≡ text x) → (x : X) (xs : List X)
    → items_text true (items_of (map item (x ∷ xs))) ≡ 44 ∷ (join_with_byte 44 (map text (x ∷ xs)) ++ 93 ∷ [])
later_items item text each x [] = ap (λ t. 44 ∷ (t ++ 93 ∷ [])) (each x)
later_items item text each x (next ∷ xs) =
    ap (λ t. 44 ∷ (t ++ items_text true (items_of (map item (next ∷ xs))))) (each x)
    ∙ ap (λ t. 44 ∷ (text x ++ t)) (later_items item text each next xs)
    ∙ ap (λ t. 44 ∷ t) (sym (append_assoc (text x) (44 ∷ join_with_byte 44 (map text (next ∷ xs))) (93 ∷ [])))

-- the items are their texts, with commas between
pub items_compact : {X : Type 0} (item : X → Data) (text : X → List ℕ) → ((x : X) → compact_text (item x) ≡ text x) → (xs : List X)
    → items_text false (items_of (map item xs)) ≡ join_with_byte 44 (map text xs) ++ 93 ∷ []
items_compact item text each [] = refl
items_compact item text each (x ∷ []) = ap (λ t. t ++ 93 ∷ []) (each x)
items_compact item text each (x ∷ next ∷ xs) =
    ap (λ t. t ++ items_text true (items_of (map item (next ∷ xs)))) (each x)
    ∙ ap (λ t. text x ++ t) (later_items item text each next xs)
    ∙ sym (append_assoc (text x) (44 ∷ join_with_byte 44 (map text (next ∷ xs))) (93 ∷ []))

css_no_float : (ss : List Selector) (xpath : List ℕ) → has_float (css_data ss xpath) ≡ false
css_no_float ss xpath = ap (λ b. b || false) (items_no_float (λ s. triple_data (triple_of s)) (λ s. refl) ss)

triple_compact : (s : Selector) → compact_text (triple_data (triple_of s)) ≡ triple_text (triple_of s)
triple_compact s = refl

css_compact : (ss : List Selector) (xpath : List ℕ) → compact_text (css_data ss xpath) ≡ css_text ss xpath
unfolding escape_byte
css_compact ss xpath =
    let after : List ℕ = codes ",\"xpath\":" ++ (quoted xpath ++ codes "}") in
    ap (λ x. codes "{\"specificity\":[" ++ (x ++ after)) (items_compact (λ s. triple_data (triple_of s)) (λ s. triple_text (triple_of s)) triple_compact ss)
    ∙ ap (λ x. codes "{\"specificity\":[" ++ x) (append_assoc (triples_text ss) (93 ∷ []) after)

reason_compact : (reason : List ℕ) → compact_text (reason_data reason) ≡ reason_text reason
unfolding escape_byte
reason_compact reason = refl

-- the text of a value that is the data of a line
pub css_value_text : (ss : List Selector) (xpath : List ℕ) (d : Data) (bytes : List ℕ) → d ≡ css_data ss xpath
    → (has_float d ≡ false → bytes ≡ compact_text d) → bytes ≡ compact_text (css_data ss xpath)
css_value_text ss xpath d bytes same text = text (ap has_float same ∙ css_no_float ss xpath) ∙ ap compact_text same

pub css_line_text : (ss : List Selector) (xpath : List ℕ) (d : Data) (bytes : List ℕ) → d ≡ css_data ss xpath
    → (has_float d ≡ false → bytes ≡ compact_text d) → bytes ≡ css_text ss xpath
css_line_text ss xpath d bytes same text = css_value_text ss xpath d bytes same text ∙ css_compact ss xpath

pub reason_line_text : (reason : List ℕ) (d : Data) (bytes : List ℕ) → d ≡ reason_data reason
    → (has_float d ≡ false → bytes ≡ compact_text d) → bytes ≡ reason_text reason
reason_line_text reason d bytes same text = text (ap has_float same) ∙ ap compact_text same ∙ reason_compact reason
