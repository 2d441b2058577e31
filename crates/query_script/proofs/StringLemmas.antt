-- Strings in quotes, read from the left.
use Rattle.std.proofs.Common.{◌≡◌, ℕ, suc, ◌+◌, ◌<◌, ◌≤◌, ◌-◌, ◌++◌, List, [], ◌∷◌, length, take, drop, get_or, refl, sym, ◌∙◌, ap, arith, append_assoc, drop-cons, drop-drop}
use Rattle.std.specs.Prelude.{Bool, true, false, ◌==◌, if◌then◌else◌, Option, Some, None, option_map}
use Rattle.std.specs.List.{prefix_len, slice_range}
use Rattle.std.specs.Str.{chars}
use Rattle.std.proofs.lemmas.Bool.Decides.{nat_tests}
use Rattle.std.proofs.lemmas.List.{append-nil, drop_all}
use Rattle.text_base.specs.Text.{run_end, is_not_byte}
use Rattle.text_base.proofs.Runs.{run_end_stops}
use Rattle.query_script.specs.Cuts.{is_quote}
use Rattle.query_script.specs.Steps.{doubled, IsString}
use Rattle.query_script.specs.inner.Reader.{unquoted, read_string}

-- ---- what is read is what was written

same : (a : ℕ) → (a == a) ≡ true
same a = grind (arith, nat_tests)

is_same : (a b : ℕ) → (a == b) ≡ true → a ≡ b
is_same a b e = grind (arith, nat_tests)

put_first : (c : ℕ) (v : List ℕ) (o : Option (List ℕ)) → o ≡ Some v → option_map (λ w. c ∷ w) o ≡ Some (c ∷ v)
put_first c v o e = ap (option_map (λ w. c ∷ w)) e

-- the string with this value, after the quote that opens it
abbrev pub quoted_rest : ℕ → List ℕ → List ℕ
quoted_rest q v = doubled q v ++ q ∷ []

complete : (q : ℕ) (v : List ℕ) → unquoted q false (quoted_rest q v) ≡ Some v
complete q [] = rw (same q) refl
complete q (c ∷ v) = by_test (c == q) refl (complete q v)
  where
    by_test : (b : Bool) → (c == q) ≡ b → unquoted q false (quoted_rest q v) ≡ Some v → unquoted q false ((if b then q ∷ q ∷ doubled q v else c ∷ doubled q v) ++ q ∷ []) ≡ Some (c ∷ v)
    by_test true e ih = rw (same q) (put_first q v (unquoted q false (quoted_rest q v)) ih ∙ ap (λ x. Some (x ∷ v)) (sym (is_same c q e)))
    by_test false e ih = rw e (put_first c v (unquoted q false (quoted_rest q v)) ih)

quoted_reads : (q : ℕ) (v : List ℕ) → is_quote q ≡ true → read_string (q ∷ quoted_rest q v) ≡ Some (chars v)
quoted_reads q v h = rw (h, complete q v) refl

pub string_complete : (text value : List ℕ) → IsString text value → read_string text ≡ Some value
string_complete text value h = ap read_string h.spelled ∙ (quoted_reads h.quote h.bytes h.quoted ∙ ap Some (sym h.is))

-- ---- what was read was written so

-- after the quote that opens the string, or after one more that may close it
abbrev IsRest : ℕ → Bool → List ℕ → List ℕ → Type 0
IsRest q false text v = text ≡ quoted_rest q v
IsRest q true text v = q ∷ text ≡ quoted_rest q v

sound : (q : ℕ) (b : Bool) (text v : List ℕ) → unquoted q b text ≡ Some v → IsRest q b text v
sound q true [] v e = let is : [] ≡ v = cc in ap (quoted_rest q) is
sound q false [] v e = cc
sound q false (c ∷ text) v e = by_test (c == q) refl (λ w h. sound q true text w h) (λ w h. sound q false text w h) e
  where
    plain : (c == q) ≡ false → ((w : List ℕ) → unquoted q false text ≡ Some w → IsRest q false text w) → (o : Option (List ℕ)) → unquoted q false text ≡ o → option_map (λ w. c ∷ w) o ≡ Some v → c ∷ text ≡ quoted_rest q v
    plain t go None h e = cc
    plain t go (Some w) h e =
        let is : v ≡ c ∷ w = cc in
        let spelled : quoted_rest q (c ∷ w) ≡ c ∷ quoted_rest q w = rw t refl in
        ap (λ x. c ∷ x) (go w h) ∙ (sym spelled ∙ ap (quoted_rest q) (sym is))

    by_test : (b : Bool) → (c == q) ≡ b → ((w : List ℕ) → unquoted q true text ≡ Some w → IsRest q true text w) → ((w : List ℕ) → unquoted q false text ≡ Some w → IsRest q false text w) →
        (if b then unquoted q true text else option_map (λ w. c ∷ w) (unquoted q false text)) ≡ Some v → c ∷ text ≡ quoted_rest q v
    by_test true t closing plain_go e = ap (λ x. x ∷ text) (is_same c q t) ∙ closing v e
    by_test false t closing plain_go e = plain t plain_go (unquoted q false text) refl e
sound q true (c ∷ text) v e = by_test (c == q) refl (λ w h. sound q false text w h) e
  where
    again : (c == q) ≡ true → ((w : List ℕ) → unquoted q false text ≡ Some w → IsRest q false text w) → (o : Option (List ℕ)) → unquoted q false text ≡ o → option_map (λ w. q ∷ w) o ≡ Some v → q ∷ c ∷ text ≡ quoted_rest q v
    again t go None h e = cc
    again t go (Some w) h e =
        let is : v ≡ q ∷ w = cc in
        let spelled : quoted_rest q (q ∷ w) ≡ q ∷ q ∷ quoted_rest q w = rw (same q) refl in
        ap (λ x. q ∷ x ∷ text) (is_same c q t) ∙ (ap (λ x. q ∷ q ∷ x) (go w h) ∙ (sym spelled ∙ ap (quoted_rest q) (sym is)))

    by_test : (b : Bool) → (c == q) ≡ b → ((w : List ℕ) → unquoted q false text ≡ Some w → IsRest q false text w) →
        (if b then option_map (λ w. q ∷ w) (unquoted q false text) else None) ≡ Some v → q ∷ c ∷ text ≡ quoted_rest q v
    by_test true t go e = again t go (unquoted q false text) refl e
    by_test false t go e = cc

pub string_sound : (text value : List ℕ) → read_string text ≡ Some value → IsString text value
string_sound [] value e = cc
string_sound (q ∷ text) value e = by_quote (is_quote q) refl e
  where
    by_value : is_quote q ≡ true → (o : Option (List ℕ)) → unquoted q false text ≡ o → option_map chars o ≡ Some value → IsString (q ∷ text) value
    by_value h None u e = cc
    by_value h (Some v) u e = record { quote = q; bytes = v; quoted = h; spelled = ap (λ t. q ∷ t) (sound q false text v u); is = (let is : value ≡ chars v = cc in is) }

    by_quote : (b : Bool) → is_quote q ≡ b → (if b then option_map chars (unquoted q false text) else None) ≡ Some value → IsString (q ∷ text) value
    by_quote true h e = by_value h (unquoted q false text) refl e
    by_quote false h e = cc

-- ---- read in runs without the quote

-- a value after what was read before it
abbrev pub onto : List ℕ → Option (List ℕ) → Option (List ℕ)
onto xs o = option_map (λ v. xs ++ v) o

onto_twice : (xs ys : List ℕ) (o : Option (List ℕ)) → onto xs (onto ys o) ≡ onto (xs ++ ys) o
onto_twice xs ys None = refl
onto_twice xs ys (Some v) = ap Some (sym (append_assoc xs ys v))

onto_first : (c : ℕ) (xs : List ℕ) (o : Option (List ℕ)) → option_map (λ v. c ∷ v) (onto xs o) ≡ onto (c ∷ xs) o
onto_first c xs None = refl
onto_first c xs (Some v) = refl

onto_nothing : (o : Option (List ℕ)) → onto [] o ≡ o
onto_nothing None = refl
onto_nothing (Some v) = refl

run : (q : ℕ) (xs : List ℕ) → unquoted q false xs ≡ onto (take (prefix_len (is_not_byte q) xs) xs) (unquoted q false (drop (prefix_len (is_not_byte q) xs) xs))
run q [] = refl
run q (c ∷ xs) = by_test (c == q) refl (run q xs)
  where
    by_test : (b : Bool) → (c == q) ≡ b → unquoted q false xs ≡ onto (take (prefix_len (is_not_byte q) xs) xs) (unquoted q false (drop (prefix_len (is_not_byte q) xs) xs)) →
        unquoted q false (c ∷ xs) ≡ onto (take (prefix_len (is_not_byte q) (c ∷ xs)) (c ∷ xs)) (unquoted q false (drop (prefix_len (is_not_byte q) (c ∷ xs)) (c ∷ xs)))
    by_test true t ih = sym (onto_nothing (unquoted q false (c ∷ xs))) ∙ ap (λ k. onto (take k (c ∷ xs)) (unquoted q false (drop k (c ∷ xs)))) (let none : 0 ≡ prefix_len (is_not_byte q) (c ∷ xs) = rw t refl in none)
    by_test false t ih =
        let n : suc (prefix_len (is_not_byte q) xs) ≡ 1 + prefix_len (is_not_byte q) xs = omega arith in
        rw t (ap (option_map (λ v. c ∷ v)) ih ∙ (onto_first c (take (prefix_len (is_not_byte q) xs) xs) (unquoted q false (drop (prefix_len (is_not_byte q) xs) xs))
        ∙ ap (λ k. onto (take k (c ∷ xs)) (unquoted q false (drop k (c ∷ xs)))) n))

at_quote : (q : ℕ) (rest : List ℕ) → unquoted q false (q ∷ rest) ≡ unquoted q true rest
at_quote q rest = rw (same q) refl

module _ (q : ℕ) (text value : List ℕ) (at end : ℕ) (so_far : unquoted q false text ≡ onto value (unquoted q false (drop at text))) (low : at ≤ length text) (e : end ≡ run_end (is_not_byte q) text at) where
  -- the value up to the next quote
  abbrev reached : List ℕ
  reached = value ++ slice_range text at end

  up_to : unquoted q false text ≡ onto reached (unquoted q false (drop end text))
  up_to =
      let n : prefix_len (is_not_byte q) (drop at text) ≡ end - at = omega arith in
      let sum : at + (end - at) ≡ end = omega arith in
      so_far ∙ (ap (onto value) (run q (drop at text)) ∙ (ap (λ k. onto value (onto (take k (drop at text)) (unquoted q false (drop k (drop at text))))) n
      ∙ (onto_twice value (slice_range text at end) (unquoted q false (drop (end - at) (drop at text)))
      ∙ ap (λ t. onto reached (unquoted q false t)) (drop-drop (end - at) at text ∙ ap (λ k. drop k text) sum))))

  -- no quote
  pub no_end : length text ≤ end → None ≡ unquoted q false text
  no_end l = sym (up_to ∙ ap (λ t. onto reached (unquoted q false t)) (drop_all end text l))

  module _ (inside : end < length text) where
    is_quote_there : get_or text end 0 ≡ q
    is_quote_there = let stops = run_end_stops (is_not_byte q) text at (let w : run_end (is_not_byte q) text at < length text = omega arith in w) in let there = ap (λ k. is_not_byte q (get_or text k 0)) e in quoted (get_or text end 0) (there ∙ stops)
      where
        quoted : (c : ℕ) → is_not_byte q c ≡ false → c ≡ q
        quoted c h = grind (arith, nat_tests)

    one : drop end text ≡ q ∷ drop (end + 1) text
    one =
        let next = drop-cons text end 0 (omega arith) in
        let a : suc end ≡ end + 1 = omega arith in
        next ∙ (ap (λ c. c ∷ drop (suc end) text) is_quote_there ∙ ap (λ k. q ∷ drop k text) a)

    at_one : unquoted q false text ≡ onto reached (unquoted q true (drop (end + 1) text))
    at_one = up_to ∙ ap (onto reached) (ap (unquoted q false) one ∙ at_quote q (drop (end + 1) text))

    -- the quote ends the text
    pub closes : length text ≤ end + 1 → Some reached ≡ unquoted q false text
    closes l = sym (at_one ∙ (ap (λ t. onto reached (unquoted q true t)) (drop_all (end + 1) text l) ∙ ap Some (append-nil reached)))

    module _ (more : end + 1 < length text) where
      two : drop (end + 1) text ≡ get_or text (end + 1) 0 ∷ drop (end + 2) text
      two = drop-cons text (end + 1) 0 more ∙ ap (λ k. get_or text (end + 1) 0 ∷ drop k text) (let n : suc (end + 1) ≡ end + 2 = omega arith in n)

      at_two : unquoted q false text ≡ onto reached (unquoted q true (get_or text (end + 1) 0 ∷ drop (end + 2) text))
      at_two = at_one ∙ ap (λ t. onto reached (unquoted q true t)) two

      -- the quote closes, and something else stands after it
      pub goes_wrong : (get_or text (end + 1) 0 ≡ q → ⊥) → None ≡ unquoted q false text
      goes_wrong n =
          let other : (get_or text (end + 1) 0 == q) ≡ false = grind (arith, nat_tests) in
          let found : unquoted q true (get_or text (end + 1) 0 ∷ drop (end + 2) text) ≡ None = rw other refl in
          sym (at_two ∙ ap (onto reached) found)

      -- two quotes stand for one
      pub goes_on : get_or text (end + 1) 0 ≡ q → unquoted q false text ≡ onto (reached ++ slice_range text end (end + 1)) (unquoted q false (drop (end + 2) text))
      goes_on h =
          let again : (get_or text (end + 1) 0 == q) ≡ true = grind (arith, nat_tests) in
          let found : unquoted q true (get_or text (end + 1) 0 ∷ drop (end + 2) text) ≡ onto (q ∷ []) (unquoted q false (drop (end + 2) text)) = rw again refl in
          let quote : slice_range text end (end + 1) ≡ q ∷ [] = ap (λ k. take k (drop end text)) (let k : end + 1 - end ≡ 1 = omega arith in k) ∙ ap (take 1) one in
          at_two ∙ (ap (onto reached) found ∙ (onto_twice reached (q ∷ []) (unquoted q false (drop (end + 2) text))
          ∙ ap (λ t. onto (reached ++ t) (unquoted q false (drop (end + 2) text))) (sym quote)))

pub begins : (q : ℕ) (text : List ℕ) → unquoted q false text ≡ onto [] (unquoted q false (drop 0 text))
begins q text = sym (onto_nothing (unquoted q false text))
