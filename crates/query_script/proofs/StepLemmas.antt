-- The first and the last byte of what a step holds.
use Rattle.std.proofs.Common.{◌≡◌, ℕ, ◌+◌, ◌-◌, ◌<◌, ◌++◌, Bool, true, false, List, [], ◌∷◌, length, take, get_or, refl, sym, ◌∙◌, ap, arith}
use Rattle.std.specs.Prelude.{◌==◌, Some, None, option_map, if◌then◌else◌}
use Rattle.std.specs.List.{slice_range}
use Rattle.std.specs.Str.{chars, IsUtf8}
use Rattle.std.proofs.lemmas.Bool.Decides.{nat_tests}
use Rattle.std.proofs.lemmas.List.{take_all, length-append}
use Rattle.std.proofs.Math.Seq.{take-append_seam, get_or-append_seam}
use Rattle.text_base.specs.Text.{IsPlace}
use Rattle.text_base.proofs.Boundaries.{past_ascii}
use Rattle.query_script.specs.Cuts.{is_quote}
use Rattle.query_script.specs.inner.Reader.{unquoted, read_string, inside_of}
use Rattle.query_script.proofs.ListLemmas.{by_last}

-- ---- the quote that opens a string

pub quote_some : (q : ℕ) → is_quote q ≡ true → q ≡ 0 → ⊥
quote_some q h = grind (arith, nat_tests)

pub quote_ascii : (q : ℕ) → is_quote q ≡ true → q < 128
quote_ascii q h = grind (arith, nat_tests)

pub past_quote : (text : List ℕ) → IsUtf8 text → 0 < length text → is_quote (get_or text 0 0) ≡ true → IsPlace text 1
past_quote text utf8 l h = past_ascii text 0 utf8 l (quote_ascii (get_or text 0 0) h)

-- a string by its first byte
pub string_at : (text : List ℕ) → 0 < length text →
    read_string text ≡ (if is_quote (get_or text 0 0) then option_map chars (unquoted (get_or text 0 0) false (slice_range text 1 (length text))) else None)
string_at [] l = absurd (omega arith)
string_at (q ∷ text) l =
    let n : length (q ∷ text) - 1 ≡ length text = omega arith in
    let rest : slice_range (q ∷ text) 1 (length (q ∷ text)) ≡ text = ap (λ m. take m text) n ∙ take_all (length text) text (omega arith) in
    ap (λ t. if is_quote q then option_map chars (unquoted q false t) else None) (sym rest)

-- ---- the bracket that closes a step

close_byte : (c : ℕ) → (c == 41) ≡ true → c ≡ 41
close_byte c h = grind (arith, nat_tests)

not_close : (c : ℕ) → (c ≡ 41 → ⊥) → (c == 41) ≡ false
not_close c h = grind (arith, nat_tests)

module _ (text : List ℕ) where
  pub no_bracket : (get_or text (length text - 1) 0 ≡ 41 → ⊥) → inside_of text ≡ None
  no_bracket h = rw (not_close _ h) refl

  pub bracket : get_or text (length text - 1) 0 ≡ 41 → inside_of text ≡ Some (slice_range text 0 (length text - 1))
  bracket h = rw h (ap (λ n. Some (take n text)) (let n : length text - 1 ≡ length text - 1 - 0 = omega arith in n))

pub no_text : (text : List ℕ) → length text ≡ 0 → inside_of text ≡ None
no_text [] h = refl
no_text (c ∷ text) h = absurd (omega arith)

pub inside_complete : (xs : List ℕ) → inside_of (xs ++ 41 ∷ []) ≡ Some xs
inside_complete xs =
    let count : length (xs ++ 41 ∷ []) ≡ length xs + 1 = length-append xs (41 ∷ []) in
    let n : length (xs ++ 41 ∷ []) - 1 ≡ length xs = omega arith in
    let last : get_or (xs ++ 41 ∷ []) (length (xs ++ 41 ∷ []) - 1) 0 ≡ 41 = ap (λ k. get_or (xs ++ 41 ∷ []) k 0) n ∙ get_or-append_seam xs 41 [] 0 in
    rw last (ap (λ k. Some (take k (xs ++ 41 ∷ []))) n ∙ ap Some (take-append_seam xs (41 ∷ [])))

pub inside_sound : (text xs : List ℕ) → inside_of text ≡ Some xs → text ≡ xs ++ 41 ∷ []
inside_sound [] xs e = cc
inside_sound (c ∷ text) xs e = by_close (get_or (c ∷ text) (length (c ∷ text) - 1) 0 == 41) refl e
  where
    by_close : (b : Bool) → (get_or (c ∷ text) (length (c ∷ text) - 1) 0 == 41) ≡ b → (if b then Some (take (length (c ∷ text) - 1) (c ∷ text)) else None) ≡ Some xs → c ∷ text ≡ xs ++ 41 ∷ []
    by_close true h e =
        let is : take (length (c ∷ text) - 1) (c ∷ text) ≡ xs = cc in
        by_last 0 (c ∷ text) (omega arith) ∙ (ap (λ t. t ++ get_or (c ∷ text) (length (c ∷ text) - 1) 0 ∷ []) is ∙ ap (λ k. xs ++ k ∷ []) (close_byte _ h))
    by_close false h e = cc
