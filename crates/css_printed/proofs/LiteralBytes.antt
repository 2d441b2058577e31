-- The quoted runs of a text's bytes are those of its characters, in bytes.
use Rattle.std.proofs.Common.{◌≡◌, ℕ, suc, ◌<◌, Bool, true, false, cond, List, [], ◌∷◌, ◌++◌, length, map, get_or, refl, sym, ◌∙◌, ap, arith, encode_utf8_all, inl, inr}
use Rattle.std.specs.Prelude.{encode_utf8, ◌==◌, ◌||◌}
use Rattle.std.specs.List.{list_any}
use Rattle.std.proofs.lemmas.List.{append-nil}
use Rattle.std.proofs.lemmas.List.Folds.{list_any-append}
use Rattle.std.proofs.lemmas.Bool.{or_from, or_parts, cases_Bool}
use Rattle.std.proofs.lemmas.Str.{length-encode, len_utf8_bounds}
use Rattle.text_base.specs.Text.{IsNarrow}
use Rattle.text_base.proofs.WordLemmas.{passing_byte, failing_bytes}
use Rattle.css_printed.specs.Literals.{is_apostrophe, is_double, Quoted, quote_of, add, quoted_runs, literal_parts}

abbrev Text : Type 0
Text = List ℕ

at_each : (p : ℕ → Bool) (s : Text) → ((k : ℕ) → k < length s → p (get_or s k 0) ≡ false) → list_any p s ≡ false
at_each p [] f = refl
at_each p (c ∷ s) f = or_from _ _ (f 0 (omega arith)) (at_each p s (λ k l. f (suc k) (omega arith)))

clear_bytes : (p : ℕ → Bool) → IsNarrow p → (c : ℕ) → p c ≡ false → list_any p (encode_utf8 c) ≡ false
clear_bytes p narrow c h = at_each p (encode_utf8 c) (failing_bytes p narrow c h)

holds_bytes : (p : ℕ → Bool) → IsNarrow p → (x : Text) → list_any p (encode_utf8_all x) ≡ list_any p x
holds_bytes p narrow [] = refl
holds_bytes p narrow (c ∷ x) = elim (cases_Bool (p c)) [
  | inl h ↦ ap (λ t. list_any p (t ++ encode_utf8_all x)) (passing_byte p narrow c h) ∙ ap (λ b. p c || b) (holds_bytes p narrow x)
  | inr h ↦ list_any-append p (encode_utf8 c) (encode_utf8_all x) ∙ ap (λ b. b || list_any p (encode_utf8_all x)) (clear_bytes p narrow c h) ∙ holds_bytes p narrow x ∙ ap (λ b. b || list_any p x) (sym h)
]

abbrev pub in_bytes : Quoted → Quoted
in_bytes q = record { quote = q.quote; content = encode_utf8_all q.content }

abbrev adds : Text → List Quoted → List Quoted
adds [] qs = qs
adds (c ∷ s) qs = add c (adds s qs)

runs_append : (s y : Text) → quoted_runs (s ++ y) ≡ adds s (quoted_runs y)
runs_append [] y = refl
runs_append (c ∷ s) y = ap (add c) (runs_append s y)

-- a text without `'` in front of the runs
abbrev opened : Text → List Quoted → List Quoted
opened s [] = record { quote = 39; content = s } ∷ []
opened s (q ∷ qs) = cond (39 == q.quote) (record { quote = q.quote; content = s ++ q.content } ∷ qs) (record { quote = 39; content = s } ∷ (q ∷ qs))

quote_39 : (c : ℕ) → is_apostrophe c ≡ false → quote_of c ≡ 39
quote_39 c h = ap (λ b. cond b 34 39) h

add_39 : (c : ℕ) (qs : List Quoted) → is_apostrophe c ≡ false → add c qs ≡ opened (c ∷ []) qs
add_39 c [] h = ap (λ k. record { quote = k; content = c ∷ [] } ∷ []) (quote_39 c h)
add_39 c (q ∷ qs) h = ap (λ k. cond (k == q.quote) (record { quote = q.quote; content = c ∷ q.content } ∷ qs) (record { quote = k; content = c ∷ [] } ∷ (q ∷ qs))) (quote_39 c h)

-- at a run with this quote, or before another one
step_same : (c : ℕ) (s : Text) (q : Quoted) (qs : List Quoted) (b : Bool) → (39 == q.quote) ≡ b → opened (c ∷ []) (cond b (record { quote = q.quote; content = s ++ q.content } ∷ qs) (record { quote = 39; content = s } ∷ (q ∷ qs))) ≡ cond b (record { quote = q.quote; content = c ∷ (s ++ q.content) } ∷ qs) (record { quote = 39; content = c ∷ s } ∷ (q ∷ qs))
step_same c s q qs true h = ap (λ b. cond b (record { quote = q.quote; content = c ∷ (s ++ q.content) } ∷ qs) (record { quote = 39; content = c ∷ [] } ∷ (record { quote = q.quote; content = s ++ q.content } ∷ qs))) h
step_same c s q qs false h = refl

open_more : (c : ℕ) (s : Text) (qs : List Quoted) → opened (c ∷ []) (opened s qs) ≡ opened (c ∷ s) qs
open_more c s [] = refl
open_more c s (q ∷ qs) = step_same c s q qs (39 == q.quote) refl

adds_open : (c : ℕ) (s : Text) (qs : List Quoted) → list_any is_apostrophe (c ∷ s) ≡ false → adds (c ∷ s) qs ≡ opened (c ∷ s) qs
adds_open c [] qs h = add_39 c qs (or_parts _ _ h).0
adds_open c (d ∷ s) qs h = ap (add c) (adds_open d s qs (or_parts _ _ h).1) ∙ add_39 c (opened (d ∷ s) qs) (or_parts _ _ h).0 ∙ open_more c (d ∷ s) qs

adds_clear : (s : Text) (qs : List Quoted) → 0 < length s → list_any is_apostrophe s ≡ false → adds s qs ≡ opened s qs
adds_clear [] qs l h = absurd (omega arith)
adds_clear (c ∷ s) qs l h = adds_open c s qs h

past_39 : IsNarrow is_apostrophe
past_39 c h = grind arith

past_34 : IsNarrow is_double
past_34 c h = grind arith

-- one character more, in bytes
open_bytes : (c : ℕ) (qs : List Quoted) → opened (encode_utf8 c) (map in_bytes qs) ≡ map in_bytes (opened (c ∷ []) qs)
open_bytes c [] = ap (λ t. record { quote = 39; content = t } ∷ []) (sym (append-nil (encode_utf8 c)))
open_bytes c (q ∷ qs) =
    ap (λ t. cond (39 == q.quote) (record { quote = q.quote; content = encode_utf8 c ++ encode_utf8_all q.content } ∷ map in_bytes qs) (record { quote = 39; content = t } ∷ (in_bytes q ∷ map in_bytes qs))) (sym (append-nil (encode_utf8 c)))
    ∙ either (39 == q.quote) (record { quote = q.quote; content = c ∷ q.content } ∷ qs) (record { quote = 39; content = c ∷ [] } ∷ (q ∷ qs))
  where
    either : (b : Bool) (ps rs : List Quoted) → cond b (map in_bytes ps) (map in_bytes rs) ≡ map in_bytes (cond b ps rs)
    either true ps rs = refl
    either false ps rs = refl

-- an apostrophe
abbrev open_34 : Text → List Quoted → List Quoted
open_34 s [] = record { quote = 34; content = s } ∷ []
open_34 s (q ∷ qs) = cond (34 == q.quote) (record { quote = q.quote; content = s ++ q.content } ∷ qs) (record { quote = 34; content = s } ∷ (q ∷ qs))

add_34 : (c : ℕ) (qs : List Quoted) → is_apostrophe c ≡ true → add c qs ≡ open_34 (c ∷ []) qs
add_34 c [] h = ap (λ b. record { quote = cond b 34 39; content = c ∷ [] } ∷ []) h
add_34 c (q ∷ qs) h = ap (λ b. cond (cond b 34 39 == q.quote) (record { quote = q.quote; content = c ∷ q.content } ∷ qs) (record { quote = cond b 34 39; content = c ∷ [] } ∷ (q ∷ qs))) h

open_34_bytes : (c : ℕ) (qs : List Quoted) → encode_utf8 c ≡ c ∷ [] → open_34 (c ∷ []) (map in_bytes qs) ≡ map in_bytes (open_34 (c ∷ []) qs)
open_34_bytes c [] e = ap (λ t. record { quote = 34; content = t ++ [] } ∷ []) (sym e)
open_34_bytes c (q ∷ qs) e =
    ap (λ t. cond (34 == q.quote) (record { quote = q.quote; content = t ++ encode_utf8_all q.content } ∷ map in_bytes qs) (record { quote = 34; content = t ++ [] } ∷ (in_bytes q ∷ map in_bytes qs))) (sym e)
    ∙ either (34 == q.quote) (record { quote = q.quote; content = c ∷ q.content } ∷ qs) (record { quote = 34; content = c ∷ [] } ∷ (q ∷ qs))
  where
    either : (b : Bool) (ps rs : List Quoted) → cond b (map in_bytes ps) (map in_bytes rs) ≡ map in_bytes (cond b ps rs)
    either true ps rs = refl
    either false ps rs = refl

add_bytes : (c : ℕ) (qs : List Quoted) → adds (encode_utf8 c) (map in_bytes qs) ≡ map in_bytes (add c qs)
add_bytes c qs = elim (cases_Bool (is_apostrophe c)) [
  | inl h ↦ let one : encode_utf8 c ≡ c ∷ [] = passing_byte is_apostrophe past_39 c h in
      ap (λ s. adds s (map in_bytes qs)) one ∙ add_34 c (map in_bytes qs) h ∙ open_34_bytes c qs one ∙ ap (map in_bytes) (sym (add_34 c qs h))
  | inr h ↦ adds_clear (encode_utf8 c) (map in_bytes qs) (omega (arith, length-encode c, (len_utf8_bounds c).0)) (clear_bytes is_apostrophe past_39 c h)
      ∙ open_bytes c qs ∙ ap (map in_bytes) (sym (add_39 c qs h))
]

runs_bytes : (x : Text) → quoted_runs (encode_utf8_all x) ≡ map in_bytes (quoted_runs x)
runs_bytes [] = refl
runs_bytes (c ∷ x) = runs_append (encode_utf8 c) (encode_utf8_all x) ∙ ap (adds (encode_utf8 c)) (runs_bytes x) ∙ add_bytes c (quoted_runs x)

parts_choice : (a d : Bool) (x : Text) (ps : List Quoted) → ps ≡ map in_bytes (quoted_runs x) → cond a (cond d ps (record { quote = 34; content = encode_utf8_all x } ∷ [])) (record { quote = 39; content = encode_utf8_all x } ∷ []) ≡ map in_bytes (cond a (cond d (quoted_runs x) (record { quote = 34; content = x } ∷ [])) (record { quote = 39; content = x } ∷ []))
parts_choice true true x ps e = e
parts_choice true false x ps e = refl
parts_choice false d x ps e = refl

pub parts_bytes : (x : Text) → literal_parts (encode_utf8_all x) ≡ map in_bytes (literal_parts x)
parts_bytes x =
    ap (λ b. cond b (cond (list_any is_double (encode_utf8_all x)) (quoted_runs (encode_utf8_all x)) (record { quote = 34; content = encode_utf8_all x } ∷ [])) (record { quote = 39; content = encode_utf8_all x } ∷ [])) (holds_bytes is_apostrophe past_39 x)
    ∙ ap (λ b. cond (list_any is_apostrophe x) (cond b (quoted_runs (encode_utf8_all x)) (record { quote = 34; content = encode_utf8_all x } ∷ [])) (record { quote = 39; content = encode_utf8_all x } ∷ [])) (holds_bytes is_double past_34 x)
    ∙ parts_choice (list_any is_apostrophe x) (list_any is_double x) x (quoted_runs (encode_utf8_all x)) (runs_bytes x)
