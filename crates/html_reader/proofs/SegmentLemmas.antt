-- The rows of a tree stand side by side, and the children of a row are found among them.
use Rattle.std.proofs.Common.{◌≡◌, ℕ, zero, suc, ◌+◌, ◌-◌, ◌<◌, ◌≤◌, List, [], ◌∷◌, ◌++◌, length, Bool, false, cond, sym, refl, ◌∙◌, ap, arith, append_assoc, append-nil, length-append}
use Rattle.std.specs.Prelude.{filter}
use Rattle.std.specs.List.{range_with_len}
use Rattle.std.proofs.lemmas.List.Elements.{filter-append}
use Rattle.doc_model.specs.Document.{Row}
use Rattle.html_reader.specs.Tokens.{Tag, text, comment, doctype}
use Rattle.html_reader.specs.Forest.{Forest, nothing, then_leaf, then_element}
use Rattle.html_reader.specs.Rows.{sofar, flushed, grown, text_rows, tag_rows, row_of_text, row_of_comment}
use Rattle.html_reader.proofs.InkLemmas.{NotText}

-- the rows of a tree below the row p, from the row n on
abbrev pub rows_at : ℕ → ℕ → Forest → List Row
rows_at p n nothing = []
rows_at p n (then_leaf (text s) rest) = row_of_text p s ∷ rows_at p (n + 1) rest
rows_at p n (then_leaf (comment s) rest) = row_of_comment p s ∷ rows_at p (n + 1) rest
rows_at p n (then_leaf doctype rest) = rows_at p n rest
rows_at p n (then_element tag inside inserted rest) =
    let m = n + length (tag_rows p n tag) in
    tag_rows p n tag ++ (rows_at n m inside ++ rows_at p (m + length (rows_at n m inside)) rest)

-- texts that are not empty and not side by side, and no doctypes
abbrev pub IsTidy : Forest → Type 0
IsTidy nothing = Unit {0}
IsTidy (then_leaf (text []) rest) = ⊥
IsTidy (then_leaf (text (c ∷ cs)) rest) = NotText rest × IsTidy rest
IsTidy (then_leaf (comment s) rest) = IsTidy rest
IsTidy (then_leaf doctype rest) = ⊥
IsTidy (then_element tag inside inserted rest) = IsTidy inside × IsTidy rest

no_text : (p : ℕ) → text_rows p [] ≡ []
no_text zero = refl
no_text (suc p) = refl

one_text : (p c : ℕ) (cs : List ℕ) → 0 < p → text_rows p (c ∷ cs) ≡ row_of_text p (c ∷ cs) ∷ []
one_text zero c cs l = absurd (omega arith)
one_text (suc p) c cs l = refl

flush_none : (p : ℕ) (was : List Row) → flushed p (sofar was []) ≡ was
flush_none p was = ap (λ t. was ++ t) (no_text p) ∙ append-nil was

-- the rows after an element
abbrev pub element_then : ℕ → Tag → Forest → Forest → List Row → ℕ → List Row
element_then p tag inside r x k = flushed p (grown p (sofar (flushed k (grown k (sofar (x ++ tag_rows p k tag) []) inside)) []) r)

-- they are the rows that the tree makes
pub tidy_rows : (p n : ℕ) (was : List Row) (g : Forest) → 0 < p → 0 < n → n ≡ length was → IsTidy g → flushed p (grown p (sofar was []) g) ≡ was ++ rows_at p n g
tidy_rows p n was nothing some in_n e h = flush_none p was ∙ sym (append-nil was)
tidy_rows p n was (then_leaf (text []) rest) some in_n e h = absurd h
tidy_rows p n was (then_leaf (text (c ∷ cs)) rest) some in_n e h =
    waits rest h.0 (tidy_rows p (n + 1) (was ++ row_of_text p (c ∷ cs) ∷ []) rest some (omega arith) (omega (arith, e, length-append was (row_of_text p (c ∷ cs) ∷ []))) h.1)
    ∙ append_assoc was (row_of_text p (c ∷ cs) ∷ []) (rows_at p (n + 1) rest)
  where
    same : flushed p (sofar was (c ∷ cs)) ≡ flushed p (sofar (was ++ row_of_text p (c ∷ cs) ∷ []) [])
    same = ap (λ t. was ++ t) (one_text p c cs some) ∙ sym (flush_none p (was ++ row_of_text p (c ∷ cs) ∷ []))

    -- after a text comes no text, so it has its row at once
    waits : (g : Forest) → NotText g → flushed p (grown p (sofar (was ++ row_of_text p (c ∷ cs) ∷ []) []) g) ≡ (was ++ row_of_text p (c ∷ cs) ∷ []) ++ rows_at p (n + 1) g
        → flushed p (grown p (sofar was (c ∷ cs)) g) ≡ (was ++ row_of_text p (c ∷ cs) ∷ []) ++ rows_at p (n + 1) g
    waits nothing k later = same ∙ later
    waits (then_leaf (text s) r) k later = absurd k
    waits (then_leaf (comment s) r) k later = ap (λ x. flushed p (grown p (sofar (x ++ row_of_comment p s ∷ []) []) r)) same ∙ later
    waits (then_leaf doctype r) k later = absurd k
    waits (then_element tag inside inserted r) k later = ap (λ x. element_then p tag inside r x (length x)) same ∙ later
tidy_rows p n was (then_leaf (comment s) rest) some in_n e h =
    ap (λ x. flushed p (grown p (sofar (x ++ row_of_comment p s ∷ []) []) rest)) (flush_none p was)
    ∙ tidy_rows p (n + 1) (was ++ row_of_comment p s ∷ []) rest some (omega arith) (omega (arith, e, length-append was (row_of_comment p s ∷ []))) h
    ∙ append_assoc was (row_of_comment p s ∷ []) (rows_at p (n + 1) rest)
tidy_rows p n was (then_leaf doctype rest) some in_n e h = absurd h
tidy_rows p n was (then_element tag inside inserted rest) some in_n e h =
    let t = tag_rows p n tag in
    let m = n + length t in
    let i = rows_at n m inside in
    ap (λ x. element_then p tag inside rest x (length x)) (flush_none p was)
    ∙ ap (element_then p tag inside rest was) (sym e)
    ∙ ap (λ x. flushed p (grown p (sofar x []) rest)) (tidy_rows n m (was ++ t) inside in_n (omega arith) (omega (arith, e, length-append was t)) h.0)
    ∙ tidy_rows p (m + length i) ((was ++ t) ++ i) rest some (omega arith) (omega (arith, e, length-append was t, length-append (was ++ t) i)) h.1
    ∙ append_assoc (was ++ t) i (rows_at p (m + length i) rest) ∙ append_assoc was t (i ++ rows_at p (m + length i) rest)

-- no row passes
pub none_found : (p : ℕ → Bool) (a n : ℕ) → ((y : ℕ) → a ≤ y → y < a + n → p y ≡ false) → filter p (range_with_len a n) ≡ []
none_found p a zero h = refl
none_found p a (suc n) h = ap (λ b. cond b (a ∷ filter p (range_with_len (a + 1) n)) (filter p (range_with_len (a + 1) n))) (h a (omega arith) (omega arith)) ∙ none_found p (a + 1) n (λ y l m. h y (omega (arith, l)) (omega (arith, m)))

-- numbers side by side
pub range_append : (a m n : ℕ) → range_with_len a (m + n) ≡ range_with_len a m ++ range_with_len (a + m) n
range_append a zero n = ap (λ k. range_with_len a k) (let e : 0 + n ≡ n = omega arith in e) ∙ ap (λ k. range_with_len k n) (let e : a ≡ a + 0 = omega arith in e)
range_append a (suc m) n =
    ap (range_with_len a) (let e : suc m + n ≡ suc (m + n) = omega arith in e)
    ∙ ap (λ r. a ∷ r) (range_append (a + 1) m n ∙ ap (λ k. range_with_len (a + 1) m ++ range_with_len k n) (let e : a + 1 + m ≡ a + suc m = omega arith in e))

-- what passes among all rows stands in a part of them, where none passes before and after it
pub found_in : (p : ℕ → Bool) (a m n : ℕ) → ((y : ℕ) → y < a → p y ≡ false) → ((y : ℕ) → a + m ≤ y → y < n → p y ≡ false) → a + m ≤ n → filter p (range_with_len 0 n) ≡ filter p (range_with_len a m)
found_in p a m n before behind l =
    ap (λ k. filter p (range_with_len 0 k)) (let e : n ≡ a + (m + (n - (a + m))) = omega arith in e)
    ∙ ap (filter p) (range_append 0 a (m + (n - (a + m)))) ∙ filter-append p (range_with_len 0 a) (range_with_len (0 + a) (m + (n - (a + m))))
    ∙ ap (λ x. x ++ filter p (range_with_len (0 + a) (m + (n - (a + m))))) (none_found p 0 a (λ y low high. before y (omega arith)))
    ∙ ap (λ k. filter p (range_with_len k (m + (n - (a + m))))) (let e : 0 + a ≡ a = omega arith in e)
    ∙ ap (filter p) (range_append a m (n - (a + m))) ∙ filter-append p (range_with_len a m) (range_with_len (a + m) (n - (a + m)))
    ∙ ap (λ x. filter p (range_with_len a m) ++ x) (none_found p (a + m) (n - (a + m)) (λ y low high. behind y low (omega arith)))
    ∙ append-nil (filter p (range_with_len a m))
