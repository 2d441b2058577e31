-- The rows of a page are those of its tree as it is written out.
use Rattle.std.proofs.Common.{◌≡◌, ℕ, ◌+◌, ◌<◌, List, [], ◌∷◌, ◌++◌, length, Bool, true, false, sym, refl, ◌∙◌, ap, arith, append_assoc, append-nil, length-append}
use Rattle.doc_model.specs.Document.{Row, no_row}
use Rattle.html_reader.specs.Tokens.{text, comment, doctype}
use Rattle.html_reader.specs.Forest.{Forest, nothing, then_leaf, then_element}
use Rattle.html_reader.specs.Rows.{sofar, flushed, grown, tag_rows, row_of_comment}
use Rattle.html_reader.specs.Places.{outside, place_grown, all_rows}
use Rattle.html_reader.proofs.InkLemmas.{NotText}
use Rattle.html_reader.proofs.CleanLemmas.{text_leaf, clean, outer, plain_tag, whole_tree, whole_rows}
use Rattle.html_reader.proofs.SegmentLemmas.{rows_at, IsTidy, tidy_rows, element_then}

-- a text that waits comes before what is no text
leaf_tidy : (waits : List ℕ) (g : Forest) → NotText g → IsTidy g → IsTidy (text_leaf waits g)
leaf_tidy [] g n h = h
leaf_tidy (c ∷ cs) g n h = (n, h)

pub clean_tidy : (waits : List ℕ) (f : Forest) → IsTidy (clean waits f)
clean_tidy waits nothing = leaf_tidy waits nothing tt tt
clean_tidy waits (then_leaf (text content) rest) = clean_tidy (waits ++ content) rest
clean_tidy waits (then_leaf (comment content) rest) = leaf_tidy waits (then_leaf (comment content) (clean [] rest)) tt (clean_tidy [] rest)
clean_tidy waits (then_leaf doctype rest) = clean_tidy waits rest
clean_tidy waits (then_element tag inside inserted rest) = leaf_tidy waits (then_element (plain_tag tag) (clean [] inside) _ (clean [] rest)) tt (clean_tidy [] inside, clean_tidy [] rest)

-- outside all elements stand no texts and no doctypes
abbrev pub IsRoots : Forest → Type 0
IsRoots nothing = Unit {0}
IsRoots (then_leaf (text s) rest) = ⊥
IsRoots (then_leaf (comment s) rest) = IsRoots rest
IsRoots (then_leaf doctype rest) = ⊥
IsRoots (then_element tag inside inserted rest) = IsTidy inside × IsRoots rest

outer_roots : (f : Forest) → IsRoots (outer f)
outer_roots nothing = tt
outer_roots (then_leaf (text content) rest) = outer_roots rest
outer_roots (then_leaf (comment content) rest) = outer_roots rest
outer_roots (then_leaf doctype rest) = outer_roots rest
outer_roots (then_element tag inside inserted rest) = (clean_tidy [] inside, outer_roots rest)

whole_roots : (made : Bool) (f : Forest) → IsRoots (whole_tree made f)
whole_roots true f = (clean_tidy [] f, tt)
whole_roots false f = outer_roots f

root_rows : (n : ℕ) (was : List Row) (g : Forest) → 0 < n → n ≡ length was → IsRoots g → flushed 0 (grown 0 (sofar was []) g) ≡ was ++ rows_at 0 n g
root_rows n was nothing some e h = refl
root_rows n was (then_leaf (text s) rest) some e h = absurd h
root_rows n was (then_leaf (comment s) rest) some e h =
    ap (λ x. flushed 0 (grown 0 (sofar (x ++ row_of_comment 0 s ∷ []) []) rest)) (append-nil was)
    ∙ root_rows (n + 1) (was ++ row_of_comment 0 s ∷ []) rest (omega arith) (omega (arith, e, length-append was (row_of_comment 0 s ∷ []))) h
    ∙ append_assoc was (row_of_comment 0 s ∷ []) (rows_at 0 (n + 1) rest)
root_rows n was (then_leaf doctype rest) some e h = absurd h
root_rows n was (then_element tag inside inserted rest) some e h =
    let t = tag_rows 0 n tag in
    let m = n + length t in
    let i = rows_at n m inside in
    ap (λ x. element_then 0 tag inside rest x (length x)) (append-nil was)
    ∙ ap (element_then 0 tag inside rest was) (sym e)
    ∙ ap (λ x. flushed 0 (grown 0 (sofar x []) rest)) (tidy_rows n m (was ++ t) inside some (omega arith) (omega (arith, e, length-append was t)) h.0)
    ∙ root_rows (m + length i) ((was ++ t) ++ i) rest (omega arith) (omega (arith, e, length-append was t, length-append (was ++ t) i)) h.1
    ∙ append_assoc (was ++ t) i (rows_at 0 (m + length i) rest) ∙ append_assoc was t (i ++ rows_at 0 (m + length i) rest)

-- the document of a page has the rows of the tree that is written
pub page_rows : (made : Bool) (f : Forest) → all_rows (place_grown made (outside f)) ≡ no_row ∷ rows_at 0 1 (whole_tree made f)
page_rows made f = sym (whole_rows made f) ∙ root_rows 1 (no_row ∷ []) (whole_tree made f) (omega arith) refl (whole_roots made f)
