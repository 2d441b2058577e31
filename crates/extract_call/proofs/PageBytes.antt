-- The text of a page has no more bytes than the page.
use Rattle.std.proofs.Common.{◌≡◌, ℕ, ◌≤◌, Bool, true, false, List, [], ◌∷◌, length, drop, filter, ap, arith, Ok, Err}
use Rattle.std.specs.Prelude.{if◌then◌else◌, nat_lt, ◌==◌, ◌&&◌, slice_index}
use Rattle.std.specs.List.{range_with_len}
use Rattle.std.proofs.lemmas.List.{length-map, length-drop}
use Rattle.std.proofs.lemmas.List.FromFn.{length-range_with_len}
use Rattle.std.specs.Str.Lossy.{utf8_valid_len}
use Rattle.text_base.specs.Text.{run_end, is_not_byte}
use Rattle.text_base.specs.Decoding.{is_kept, newline_for, newlines, without_mark, decoded, fault}
use Rattle.text_base.specs.declared.reasons.PageReason.TheVariants.{NotUtf8, Nul}

fewer : (p : ℕ → Bool) (xs : List ℕ) → length (filter p xs) ≤ length xs
fewer p [] = omega arith
fewer p (x ∷ xs) = by_test (p x) (fewer p xs)
  where
    by_test : (b : Bool) → length (filter p xs) ≤ length xs → length (if b then x ∷ filter p xs else filter p xs) ≤ length (x ∷ xs)
    by_test true h = omega arith
    by_test false h = omega arith

newlines_short : (bytes : List ℕ) → length (newlines bytes) ≤ length bytes
newlines_short bytes =
    let all : length (range_with_len 0 (length bytes)) ≡ length bytes = length-range_with_len 0 (length bytes) in
    let some : length (filter (is_kept bytes) (range_with_len 0 (length bytes))) ≤ length (range_with_len 0 (length bytes)) = fewer (is_kept bytes) (range_with_len 0 (length bytes)) in
    let same : length (newlines bytes) ≡ length (filter (is_kept bytes) (range_with_len 0 (length bytes))) =
    length-map (filter (is_kept bytes) (range_with_len 0 (length bytes))) (λ i. newline_for (slice_index bytes i)) in
    omega arith

mark_short : (bytes : List ℕ) → length (without_mark bytes) ≤ length bytes
mark_short bytes = by_test ((slice_index bytes 0 == 0xef) && (slice_index bytes 1 == 0xbb) && (slice_index bytes 2 == 0xbf))
  where
    by_test : (b : Bool) → length (if b then drop 3 bytes else bytes) ≤ length bytes
    by_test true = let d : _ = length-drop 3 bytes in omega arith
    by_test false = omega arith

pub decoded_short : (bytes text : List ℕ) → decoded bytes ≡ Ok text → length text ≤ length bytes
decoded_short bytes text h = by_tests (nat_lt (run_end (is_not_byte 0) bytes 0) (utf8_valid_len bytes)) (nat_lt (utf8_valid_len bytes) (length bytes)) h
  where
    by_tests : (a b : Bool) → (if a then Err (fault Nul (run_end (is_not_byte 0) bytes 0)) else (if b then Err (fault NotUtf8 (utf8_valid_len bytes)) else Ok (newlines (without_mark bytes)))) ≡ Ok text → length text ≤ length bytes
    by_tests true b e = let x = e in absurd (cc)
    by_tests false true e = let x = e in absurd (cc)
    by_tests false false e =
        let same : newlines (without_mark bytes) ≡ text = (let x = e in cc) in
        let n : length (newlines (without_mark bytes)) ≤ length (without_mark bytes) = newlines_short (without_mark bytes) in
        let m : length (without_mark bytes) ≤ length bytes = mark_short bytes in
        let l : length (newlines (without_mark bytes)) ≡ length text = ap length same in
        omega arith
