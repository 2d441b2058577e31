-- The bulk page, piece by piece.
use Rattle.std.proofs.Common.{◌≡◌, ℕ, zero, suc, ◌+◌, List, ◌++◌, ap, sym, ◌∙◌, append_assoc, arith, add-one, add-zero, append-nil, Result, OnOk, Ok, Err}
use Rattle.std.specs.Prelude.{flat_map}
use Rattle.std.specs.List.{range_with_len}
use Rattle.extract_call.specs.Bulk.{bulk_item}

more : (f : ℕ → List ℕ) (a n : ℕ) → flat_map f (range_with_len a (suc n)) ≡ flat_map f (range_with_len a n) ++ f (a + n)
more f a zero = append-nil (f a) ∙ ap f (sym (add-zero a))
more f a (suc n) =
    let next : a + 1 + n ≡ a + suc n = omega arith in
    ap (λ t. f a ++ t) (more f (a + 1) n) ∙ sym (append_assoc (f a) (flat_map f (range_with_len (a + 1) n)) (f (a + 1 + n)))
    ∙ ap (λ k. (f a ++ flat_map f (range_with_len (a + 1) n)) ++ f k) next

-- one item more
pub item_more : (old new front : List ℕ) (i : ℕ) → old ≡ front ++ flat_map bulk_item (range_with_len 1 i) → new ≡ old ++ bulk_item (i + 1)
    → new ≡ front ++ flat_map bulk_item (range_with_len 1 (i + 1))
item_more old new front i h k =
    let next : i + 1 ≡ 1 + i = omega arith in
    rw (add-one, more bulk_item 1 i) (
    k ∙ ap (λ t. t ++ bulk_item (i + 1)) h ∙ append_assoc front (flat_map bulk_item (range_with_len 1 i)) (bulk_item (i + 1))
    ∙ ap (λ j. front ++ (flat_map bulk_item (range_with_len 1 i) ++ bulk_item j)) next
    )

-- five pieces, the last pushed last
pub five : {V E : Type 0} (r : Result V E) (was a b c d e one two three four now : List ℕ) → one ≡ was ++ a → two ≡ one ++ b → three ≡ two ++ c → four ≡ three ++ d → OnOk r (now ≡ four ++ e)
    → OnOk r (now ≡ was ++ (a ++ (b ++ (c ++ (d ++ e)))))
five (Ok v) was a b c d e one two three four now h k l m last =
    last ∙ ap (λ t. t ++ e) (m ∙ ap (λ t. t ++ d) (l ∙ ap (λ t. t ++ c) (k ∙ ap (λ t. t ++ b) h)))
    ∙ append_assoc (((was ++ a) ++ b) ++ c) d e ∙ append_assoc ((was ++ a) ++ b) c (d ++ e) ∙ append_assoc (was ++ a) b (c ++ (d ++ e)) ∙ append_assoc was a (b ++ (c ++ (d ++ e)))
five (Err x) was a b c d e one two three four now h k l m last = last
