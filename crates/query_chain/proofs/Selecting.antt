-- What a query gives at rows, one after the other.
use Rattle.std.proofs.Common.{◌≡◌, ℕ, zero, suc, ◌+◌, ◌<◌, ◌≤◌, ◌++◌, false, List, [], ◌∷◌, map, length, take, drop, get_or, refl, sym, ◌∙◌, ap, arith, encode_utf8_all}
use Rattle.std.specs.Prelude.{flat_map, All}
use Rattle.std.proofs.lemmas.List.{length-append, length-map, take_all}
use Rattle.std.proofs.lemmas.List.Folds.{flat_map-map}
use Rattle.std.proofs.lemmas.List.Sums.{sum_by_push}
use Rattle.doc_model.specs.Document.{Document}
use Rattle.doc_model.specs.RowLists.{Run}
use Rattle.xpath_values.specs.declared.value.Value.{Value}
use Rattle.xpath_values.specs.declared.value.Value.TheVariants.{Nodes, Num, Str, Bool as Truth}
use Rattle.xpath_parser.specs.declared.typed.Typed.{Typed}
use Rattle.xpath_parser.specs.Typed.{expression}
use Rattle.xpath_parser.specs.Shapes.{shape_of, is_nodes}
use Rattle.xpath_parser.specs.Denote.{denote}
use Rattle.query_chain.specs.Chains.{gives, step_items, value_items}
use Rattle.query_chain.specs.Items.{Item, node, text, strings, bytes_of}
use Rattle.query_chain.specs.Tasks.{Action, select}
use Rattle.query_chain.specs.inner.Values.{is_rows}
use Rattle.query_chain.proofs.Adding.{bytes-append}
use Rattle.query_chain.proofs.Lists.{flat_split, flat_more, strings_texts, strings-append}
use Rattle.query_chain.proofs.Shapes.{typed_rows}

-- what the action gives at each of the rows
abbrev pub at_rows : Document → Action → List ℕ → List Item
at_rows doc a xs = flat_map (λ x. gives doc a (node x)) xs

pub step_at_rows : (doc : Document) (a : Action) (xs : List ℕ) → step_items doc a (map node xs) ≡ at_rows doc a xs
step_at_rows doc a xs = flat_map-map (gives doc a) node xs

-- one row more
pub row_more : (doc : Document) (a : Action) (xs : List ℕ) (i : ℕ) (got here : List Item) → i < length xs → got ≡ step_items doc a (map node (take i xs)) →
    gives doc a (node (get_or xs i 0)) ≡ here → got ++ here ≡ step_items doc a (map node (take (i + 1) xs))
row_more doc a xs i got here h e v =
    ap (λ r. r ++ here) (e ∙ step_at_rows doc a (take i xs)) ∙ ap (λ r. at_rows doc a (take i xs) ++ r) (sym v)
    ∙ sym (step_at_rows doc a (take (i + 1) xs) ∙ flat_more (λ x. gives doc a (node x)) xs i 0 h)

pub rows_done : (doc : Document) (a : Action) (xs : List ℕ) (i : ℕ) (got : List Item) → length xs ≤ i → got ≡ step_items doc a (map node (take i xs)) → got ≡ step_items doc a (map node xs)
rows_done doc a xs i got h e = e ∙ ap (λ ys. step_items doc a (map node ys)) (take_all i xs h)

-- what is given up to this row is a front of all that is given
split_at : (doc : Document) (a : Action) (xs : List ℕ) (i : ℕ) (got here : List Item) → i < length xs → got ≡ step_items doc a (map node (take i xs)) →
    gives doc a (node (get_or xs i 0)) ≡ here → step_items doc a (map node xs) ≡ got ++ (here ++ at_rows doc a (drop (suc i) xs))
split_at doc a xs i got here h e v =
    step_at_rows doc a xs ∙ flat_split (λ x. gives doc a (node x)) xs i 0 h
    ∙ ap (λ r. r ++ (gives doc a (node (get_or xs i 0)) ++ at_rows doc a (drop (suc i) xs))) (sym (e ∙ step_at_rows doc a (take i xs)))
    ∙ ap (λ r. got ++ (r ++ at_rows doc a (drop (suc i) xs))) v

pub rows_many : (doc : Document) (a : Action) (xs : List ℕ) (i n : ℕ) (got here : List ℕ) → i < length xs → map node got ≡ step_items doc a (map node (take i xs)) →
    gives doc a (node (get_or xs i 0)) ≡ map node here → n < length got + length here → n < length (step_items doc a (map node xs))
rows_many doc a xs i n got here h e v more =
    let rest = at_rows doc a (drop (suc i) xs) in
    let size = ap length (split_at doc a xs i (map node got) (map node here) h e v) ∙ (length-append (map node got) (map node here ++ rest) ∙ ap (λ k. length (map node got) + k) (length-append (map node here) rest)) in
    let front = length-map got node in
    let this = length-map here node in
    omega (arith, size, front, this, more)

pub texts_over : (doc : Document) (a : Action) (xs : List ℕ) (i left limit : ℕ) (got : List (List ℕ)) (t : List ℕ) → i < length xs → map text got ≡ step_items doc a (map node (take i xs)) →
    gives doc a (node (get_or xs i 0)) ≡ text t ∷ [] → left + bytes_of got ≡ limit → left < length (encode_utf8_all t) → limit < bytes_of (strings (step_items doc a (map node xs)))
texts_over doc a xs i left limit got t h e v s more =
    let rest = at_rows doc a (drop (suc i) xs) in
    let parts : strings (step_items doc a (map node xs)) ≡ got ++ (t ∷ strings rest) =
    ap strings (split_at doc a xs i (map text got) (text t ∷ []) h e v) ∙ (strings-append (map text got) (text t ∷ rest) ∙ ap (λ r. r ++ (t ∷ strings rest)) (strings_texts got)) in
    let size = ap bytes_of parts ∙ bytes-append got (t ∷ strings rest) in
    let this = bytes-append (t ∷ []) (strings rest) in
    let one = sum_by_push (λ t. length (encode_utf8_all t)) [] t in
    omega (arith, size, this, one, s, more)

run_ends : (low n : ℕ) (xs : List ℕ) → Run low n xs → low ≤ n
run_ends low n [] r = r
run_ends low n (x ∷ xs) r = let k = run_ends (suc x) n xs r.1 in omega (arith, k, r)

-- rows in order, of which the last ends below a number, are below it
pub run_below : (low n : ℕ) (xs : List ℕ) → Run low n xs → All (λ x. x < n) xs
run_below low n [] r i d h = absurd (omega (arith, h))
run_below low n (x ∷ xs) r zero d h = run_ends (suc x) n xs r.1
run_below low n (x ∷ xs) r (suc i) d h = run_below (suc x) n xs r.1 i d (omega arith)

-- a query that gives no rows gives one text at each row
one_item : (v : Value) → is_rows v ≡ false → length (value_items v) ≡ 1
one_item (Nodes xs) h = cc
one_item (Num n) h = refl
one_item (Str s) h = refl
one_item (Truth b) h = refl

pub one_each : (doc : Document) (t : Typed) (xs : List ℕ) → is_nodes (shape_of (expression t)) ≡ false → length (step_items doc (select (expression t)) (map node xs)) ≡ length xs
one_each doc t [] h = refl
one_each doc t (x ∷ xs) h =
    let here = value_items (denote doc (expression t) (record { row = x; position = 1; size = 1 })) in
    let size = length-append here (step_items doc (select (expression t)) (map node xs)) in
    let one = one_item (denote doc (expression t) (record { row = x; position = 1; size = 1 })) (typed_rows doc t _ ∙ h) in
    let rest = one_each doc t xs h in
    omega (arith, size, one, rest)
