-- The texts of rows.
use Rattle.std.proofs.Common.{◌≡◌, ℕ, ◌+◌, ◌<◌, ◌≤◌, ◌++◌, ◌∙◌, List, [], ◌∷◌, map, length, take, get_or, refl, sym, ap, subst, arith, encode_utf8_all}
use Rattle.std.proofs.lemmas.List.Sums.{sum_by_push}
use Rattle.doc_model.specs.Document.{Document, row}
use Rattle.query_chain.specs.Chains.{row_text, item_texts}
use Rattle.query_chain.specs.Items.{node, text, bytes_of}
use Rattle.query_chain.proofs.Lists.{bytes_part, map_more}

abbrev pub row_texts : Document → List ℕ → List (List ℕ)
row_texts doc xs = map (λ x. row_text (row doc x).kind doc x) xs

pub item_texts_of_rows : (doc : Document) (xs : List ℕ) → row_texts doc xs ≡ item_texts doc (map node xs)
item_texts_of_rows doc [] = refl
item_texts_of_rows doc (x ∷ xs) = ap (λ r. row_text (row doc x).kind doc x ∷ r) (item_texts_of_rows doc xs)

-- with this row's text there are too many bytes
pub rows_over : (doc : Document) (xs : List ℕ) (i left limit : ℕ) (done : List (List ℕ)) → i < length xs → done ≡ row_texts doc (take i xs) → left + bytes_of done ≡ limit →
    left < length (encode_utf8_all (row_text (row doc (get_or xs i 0)).kind doc (get_or xs i 0))) → limit < bytes_of (item_texts doc (map node xs))
rows_over doc xs i left limit done h e s more =
    let part = bytes_part (λ x. row_text (row doc x).kind doc x) xs i 0 h in
    let same = ap bytes_of (item_texts_of_rows doc xs) in
    let front = ap bytes_of e in
    omega (arith, part, same, front)

pub row_text_more : (doc : Document) (xs : List ℕ) (i : ℕ) (done : List (List ℕ)) → i < length xs → done ≡ row_texts doc (take i xs) →
    done ++ row_text (row doc (get_or xs i 0)).kind doc (get_or xs i 0) ∷ [] ≡ row_texts doc (take (i + 1) xs)
row_text_more doc xs i done h e = ap (λ r. r ++ row_text (row doc (get_or xs i 0)).kind doc (get_or xs i 0) ∷ []) e ∙ sym (map_more (λ x. row_text (row doc x).kind doc x) xs i 0 h)

pub row_bytes_more : (doc : Document) (xs : List ℕ) (i : ℕ) → i < length xs →
    bytes_of (row_texts doc (take (i + 1) xs)) ≡ bytes_of (row_texts doc (take i xs)) + length (encode_utf8_all (row_text (row doc (get_or xs i 0)).kind doc (get_or xs i 0)))
row_bytes_more doc xs i h =
    ap bytes_of (map_more (λ x. row_text (row doc x).kind doc x) xs i 0 h)
    ∙ sum_by_push (λ t. length (encode_utf8_all t)) (row_texts doc (take i xs)) (row_text (row doc (get_or xs i 0)).kind doc (get_or xs i 0))

-- texts are their own texts
pub texts_themselves : (doc : Document) (ts : List (List ℕ)) → ts ≡ item_texts doc (map text ts)
texts_themselves doc [] = refl
texts_themselves doc (t ∷ ts) = ap (λ r. t ∷ r) (texts_themselves doc ts)

pub texts_within : (doc : Document) (ts : List (List ℕ)) (n : ℕ) → bytes_of ts ≤ n → bytes_of (item_texts doc (map text ts)) ≤ n
texts_within doc ts n h = subst (λ r. bytes_of r ≤ n) (texts_themselves doc ts) h
