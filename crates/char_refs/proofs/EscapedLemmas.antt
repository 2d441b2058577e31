-- Escaped texts are decoded to what they were.
use Rattle.std.proofs.Common.{◌≡◌, ℕ, zero, suc, ◌+◌, ◌-◌, ◌<◌, Bool, true, false, cond, ◌&&◌, List, [], ◌∷◌, ◌++◌, length, get_or, take, sym, refl, ◌∙◌, ap, arith, ltb, eqb, eq-eqb, length-append, append_assoc, append-nil, rules}
use Rattle.std.specs.Prelude.{Some, None, slice_range, codes, flat_map, encode_utf8, encode_utf8_all}
use Rattle.std.specs.List.{AllPass, prefix_len}
use Rattle.std.proofs.lemmas.Bool.Decides.{nat_tests}
use Rattle.std.proofs.lemmas.List.Sums.{prefix_len_is}
use Rattle.std.proofs.lemmas.Str.{inside_one, encodes-append, encodes-IsAscii}
use Rattle.std.specs.Str.{IsAscii}
use Rattle.std.proofs.Math.ListN.{get_or-append}
use Rattle.std.proofs.Math.Seq.{take-append_seam, get_or-append_seam}
use Rattle.std.proofs.lemmas.Bool.{both_ways}
use Rattle.text_base.specs.Text.{run_end, is_not_byte}
use Rattle.char_refs.specs.References.{reference_of, with_length, body_char, first_piece, more_bytes, decoded_past, decoded}
use Rattle.char_refs.specs.Escapes.{escape}
use Rattle.char_refs.specs.Tables.{names, replaced}

past : (xs ys : List ℕ) → decoded_past (xs ++ ys) (length xs) ≡ decoded_past ys 0
past [] ys = refl
past (x ∷ xs) ys = past xs ys

-- bytes that are no `&` stay
pub kept : (bs rest : List ℕ) → ((k : ℕ) → k < length bs → get_or bs k 0 ≡ 38 → ⊥) → decoded (bs ++ rest) ≡ bs ++ decoded rest
kept [] rest h = refl
kept (b ∷ bs) rest h =
    ap (λ o. first_piece o b ++ decoded_past (bs ++ rest) (more_bytes o)) (no_reference b (bs ++ rest) (h 0 (omega arith)))
    ∙ ap (λ r. b ∷ r) (kept bs rest (λ k l. h (suc k) (omega arith)))
  where
    no_reference : (b : ℕ) (s : List ℕ) → (b ≡ 38 → ⊥) → reference_of (b ∷ s) ≡ None
    no_reference b s other = by_test (eqb b 38) refl
      where
        by_test : (t : Bool) → eqb b 38 ≡ t → cond (t && ltb (run_end (is_not_byte 59) (b ∷ s) 1) (length (b ∷ s))) (with_length (body_char (slice_range (b ∷ s) 1 (run_end (is_not_byte 59) (b ∷ s) 1))) (run_end (is_not_byte 59) (b ∷ s) 1 + 1)) None ≡ None
        by_test true is = absurd (other (let e : b ≡ 38 = grind (arith, nat_tests) in e))
        by_test false is = refl

-- a reference gives its character
pub given : (body : List ℕ) (c : ℕ) (rest : List ℕ) → AllPass (is_not_byte 59) body → body_char body ≡ Some c → decoded (38 ∷ (body ++ (59 ∷ rest))) ≡ encode_utf8 c ++ decoded rest
given body c rest passes is =
    let s = 38 ∷ (body ++ (59 ∷ rest)) in
    let run : prefix_len (is_not_byte 59) (body ++ (59 ∷ rest)) ≡ length body =
    prefix_len_is (is_not_byte 59) (body ++ 59 ∷ rest) (length body) 0 (omega (arith, length-append body (59 ∷ rest)))
    (λ k h. ap (is_not_byte 59) (get_or-append body (59 ∷ rest) 0 k h) ∙ passes k 0 h)
    (λ h. ap (is_not_byte 59) (get_or-append_seam body 59 rest 0)) in
    let end : run_end (is_not_byte 59) s 1 ≡ 1 + length body = ap (λ n. 1 + n) run in
    let slice : slice_range s 1 (1 + length body) ≡ body = ap (λ n. take n (body ++ (59 ∷ rest))) (let q : 1 + length body - 1 ≡ length body = omega arith in q) ∙ take-append_seam body (59 ∷ rest) in
    let reference : reference_of s ≡ Some (c, 1 + length body + 1) =
    ap (λ e. cond (ltb e (length s)) (with_length (body_char (slice_range s 1 e)) (e + 1)) None) end
    ∙ ap (λ b. cond b (with_length (body_char (slice_range s 1 (1 + length body))) (1 + length body + 1)) None) (is_below (1 + length body) (length s) (omega (arith, length-append body (59 ∷ rest))))
    ∙ ap (λ x. with_length (body_char x) (1 + length body + 1)) slice
    ∙ ap (λ o. with_length o (1 + length body + 1)) is in
    ap (λ o. first_piece o 38 ++ decoded_past (body ++ (59 ∷ rest)) (more_bytes o)) reference
    ∙ ap (λ r. encode_utf8 c ++ r)
    (ap (λ n. decoded_past (body ++ (59 ∷ rest)) n) (let q : 1 + length body + 1 - 1 ≡ length (body ++ (59 ∷ [])) = omega (arith, length-append body (59 ∷ [])) in q)
    ∙ ap (λ x. decoded_past x (length (body ++ (59 ∷ [])))) (sym (append_assoc body (59 ∷ []) rest))
    ∙ past (body ++ (59 ∷ [])) rest)
  where
    is_below : (a b : ℕ) → a < b → ltb a b ≡ true
    is_below a b l = grind (arith, nat_tests)

-- the five references
amp_char : body_char (codes "amp") ≡ Some 38
unfolding names
amp_char = refl

lt_char : body_char (codes "lt") ≡ Some 60
unfolding names
lt_char = refl

gt_char : body_char (codes "gt") ≡ Some 62
unfolding names
gt_char = refl

quot_char : body_char (codes "quot") ≡ Some 34
unfolding names
quot_char = refl

nbsp_char : body_char (codes "nbsp") ≡ Some 160
unfolding names
nbsp_char = refl

cr_char : body_char (codes "#13") ≡ Some 13
unfolding replaced
cr_char = refl

passes3 : (a b c : ℕ) → is_not_byte 59 a ≡ true → is_not_byte 59 b ≡ true → is_not_byte 59 c ≡ true → AllPass (is_not_byte 59) (a ∷ (b ∷ (c ∷ [])))
passes3 a b c x y z zero d l = x
passes3 a b c x y z (suc zero) d l = y
passes3 a b c x y z (suc (suc zero)) d l = z
passes3 a b c x y z (suc (suc (suc k))) d l = absurd (omega arith)

passes2 : (a b : ℕ) → is_not_byte 59 a ≡ true → is_not_byte 59 b ≡ true → AllPass (is_not_byte 59) (a ∷ (b ∷ []))
passes2 a b x y zero d l = x
passes2 a b x y (suc zero) d l = y
passes2 a b x y (suc (suc k)) d l = absurd (omega arith)

passes4 : (a b c e : ℕ) → is_not_byte 59 a ≡ true → is_not_byte 59 b ≡ true → is_not_byte 59 c ≡ true → is_not_byte 59 e ≡ true → AllPass (is_not_byte 59) (a ∷ (b ∷ (c ∷ (e ∷ []))))
passes4 a b c e x y z w zero d l = x
passes4 a b c e x y z w (suc zero) d l = y
passes4 a b c e x y z w (suc (suc zero)) d l = z
passes4 a b c e x y z w (suc (suc (suc zero))) d l = w
passes4 a b c e x y z w (suc (suc (suc (suc k)))) d l = absurd (omega arith)

-- a character as it is written, where it is no `&`
plain : (c : ℕ) (rest : List ℕ) → (c ≡ 38 → ⊥) → decoded (encode_utf8 c ++ rest) ≡ encode_utf8 c ++ decoded rest
plain c rest h =
    kept (encode_utf8 c) rest (λ k l e. h (inside_one c rest (encode_utf8 c ++ rest) k refl l (let b : get_or (encode_utf8 c ++ rest) k 0 ≡ 38 = get_or-append (encode_utf8 c) rest 0 k l ∙ e in omega (arith, b)) ∙ (get_or-append (encode_utf8 c) rest 0 k l ∙ e)))

is_eq : (a b : ℕ) → eqb a b ≡ true → a ≡ b
is_eq a b h = grind (arith, nat_tests)

amp_ascii : IsAscii (codes "&amp;")
amp_ascii = search rules

lt_ascii : IsAscii (codes "&lt;")
lt_ascii = search rules

gt_ascii : IsAscii (codes "&gt;")
gt_ascii = search rules

quot_ascii : IsAscii (codes "&quot;")
quot_ascii = search rules

nbsp_ascii : IsAscii (codes "&nbsp;")
nbsp_ascii = search rules

cr_ascii : IsAscii (codes "&#13;")
cr_ascii = search rules

-- one character
module _ (c : ℕ) (rest : List ℕ) where
  abbrev Back : List ℕ → Type 0
  Back e = decoded (encode_utf8_all e ++ rest) ≡ encode_utf8 c ++ decoded rest

  choose : (b : Bool) (x y : List ℕ) → (b ≡ true → Back x) → (b ≡ false → Back y) → Back (cond b x y)
  choose true x y h k = h refl
  choose false x y h k = k refl

  as_is : (eqb c 38 ≡ false) → Back (c ∷ [])
  as_is h = ap (λ s. decoded (s ++ rest)) (append-nil (encode_utf8 c)) ∙ plain c rest (λ e. both_ways _ h (eq-eqb c 38 e))

  named : (body : List ℕ) (d : ℕ) → AllPass (is_not_byte 59) body → IsAscii (38 ∷ (body ++ (59 ∷ []))) → body_char body ≡ Some d → c ≡ d → Back (38 ∷ (body ++ (59 ∷ [])))
  named body d passes ascii is e =
      ap (λ s. decoded (s ++ rest)) (encodes-IsAscii (38 ∷ (body ++ (59 ∷ []))) ascii)
      ∙ ap (λ s. decoded (38 ∷ s)) (append_assoc body (59 ∷ []) rest)
      ∙ given body d rest passes is ∙ ap (λ n. encode_utf8 n ++ decoded rest) (sym e)

  pub escape_back : (quoted : Bool) → Back (escape true quoted c)
  escape_back true =
      choose (eqb c 38) _ _ (λ e. named (codes "amp") 38 (passes3 97 109 112 refl refl refl) amp_ascii amp_char (is_eq c 38 e))
      (λ amp. choose (eqb c 34) _ _ (λ e. named (codes "quot") 34 (passes4 113 117 111 116 refl refl refl refl) quot_ascii quot_char (is_eq c 34 e))
      (λ quot. choose (eqb c 160) _ _ (λ e. named (codes "nbsp") 160 (passes4 110 98 115 112 refl refl refl refl) nbsp_ascii nbsp_char (is_eq c 160 e))
      (λ nbsp. choose (eqb c 13) _ _ (λ e. named (codes "#13") 13 (passes3 35 49 51 refl refl refl) cr_ascii cr_char (is_eq c 13 e)) (λ cr. as_is amp))))
  escape_back false =
      choose (eqb c 38) _ _ (λ e. named (codes "amp") 38 (passes3 97 109 112 refl refl refl) amp_ascii amp_char (is_eq c 38 e))
      (λ amp. choose (eqb c 60) _ _ (λ e. named (codes "lt") 60 (passes2 108 116 refl refl) lt_ascii lt_char (is_eq c 60 e))
      (λ lt. choose (eqb c 62) _ _ (λ e. named (codes "gt") 62 (passes2 103 116 refl refl) gt_ascii gt_char (is_eq c 62 e))
      (λ gt. choose (eqb c 160) _ _ (λ e. named (codes "nbsp") 160 (passes4 110 98 115 112 refl refl refl refl) nbsp_ascii nbsp_char (is_eq c 160 e))
      (λ nbsp. choose (eqb c 13) _ _ (λ e. named (codes "#13") 13 (passes3 35 49 51 refl refl refl) cr_ascii cr_char (is_eq c 13 e)) (λ cr. as_is amp)))))

-- a whole text
pub escaped_back : (quoted : Bool) (text : List ℕ) → decoded (encode_utf8_all (flat_map (escape true quoted) text)) ≡ encode_utf8_all text
escaped_back quoted [] = refl
escaped_back quoted (c ∷ text) =
    ap decoded (encodes-append (escape true quoted c) (flat_map (escape true quoted) text))
    ∙ escape_back c (encode_utf8_all (flat_map (escape true quoted) text)) quoted
    ∙ ap (λ r. encode_utf8 c ++ r) (escaped_back quoted text)
