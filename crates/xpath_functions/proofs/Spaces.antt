-- Reading from left to right gives the words with one space between two.
use Rattle.std.proofs.Common.{◌≡◌, refl, sym, ◌∙◌, ap, ℕ, Bool, true, false, cond, List, [], ◌∷◌, ◌++◌, ◌⊎◌, inl, inr, append_assoc}
use Rattle.std.specs.List.{join_with_byte}
use Rattle.text_base.specs.Strings.{is_empty}
use Rattle.text_base.specs.Text.{is_space4}
use Rattle.xpath_values.specs.Strings.{words_after, words, normalized}
use Rattle.xpath_functions.specs.inner.Spacing.{Spaced, start, parted, after}

-- a word behind a text
abbrev glued : List ℕ → List ℕ → List ℕ
glued out w = cond (is_empty out) w (out ++ 32 ∷ w)

-- each word in turn
abbrev all_glued : List ℕ → List (List ℕ) → List ℕ
all_glued out [] = out
all_glued out (w ∷ ws) = all_glued (glued out w) ws

abbrev state : List ℕ → Bool → Spaced
state out apart = record { text = out; apart = apart }

abbrev state_by : List ℕ → Bool → ℕ → Bool → Spaced
state_by out apart c b = cond b (state out true) (state (parted apart out ++ c ∷ []) false)

abbrev words_by : List ℕ → ℕ → List ℕ → Bool → List (List ℕ)
words_by w c cs b = cond b (cond (is_empty w) (words_after [] cs) (w ∷ words_after [] cs)) (words_after (w ++ c ∷ []) cs)

ends_full : (w : List ℕ) (c : ℕ) → is_empty (w ++ c ∷ []) ≡ false
ends_full [] c = refl
ends_full (b ∷ w) c = refl

-- the next character goes to the word
glued_more : (out w : List ℕ) (c : ℕ) → glued out w ++ c ∷ [] ≡ glued out (w ++ c ∷ [])
glued_more [] w c = refl
glued_more (b ∷ out) w c = append_assoc (b ∷ out) (32 ∷ w) (c ∷ [])

-- it begins a word
glued_first : (out : List ℕ) (apart : Bool) (c : ℕ) → (apart ≡ true) ⊎ (out ≡ []) → parted apart out ++ c ∷ [] ≡ glued out (c ∷ [])
glued_first [] true c h = refl
glued_first [] false c h = refl
glued_first (b ∷ out) true c h = append_assoc (b ∷ out) (32 ∷ []) (c ∷ [])
glued_first (b ∷ out) false c (inl e) = cc
glued_first (b ∷ out) false c (inr e) = cc

-- what is read between two words, and in a word
record Reads (cs : List ℕ) : Type 0 where
  between : (out : List ℕ) (apart : Bool) → (apart ≡ true) ⊎ (out ≡ []) → (after (state out apart) cs).text ≡ all_glued out (words_after [] cs)
  within : (out w : List ℕ) → is_empty w ≡ false → (after (state (glued out w) false) cs).text ≡ all_glued out (words_after w cs)

reads : (cs : List ℕ) → Reads cs
reads [] = record {
  between = λ out apart h. refl;
  within = λ out w h. ap (λ b. all_glued out (cond b [] (w ∷ []))) (sym h);
}
reads (c ∷ cs) = at (is_space4 c) refl (reads cs)
  where
    at : (b : Bool) → is_space4 c ≡ b → Reads cs → Reads (c ∷ cs)
    at true e more = record {
      between = λ out apart h. ap (λ b. (after (state_by out apart c b) cs).text) e ∙ more.between out true (inl refl) ∙ ap (λ b. all_glued out (words_by [] c cs b)) (sym e);
      within = λ out w full. ap (λ b. (after (state_by (glued out w) false c b) cs).text) e ∙ more.between (glued out w) true (inl refl)
          ∙ ap (λ b. all_glued out (cond b (words_after [] cs) (w ∷ words_after [] cs))) (sym full) ∙ ap (λ b. all_glued out (words_by w c cs b)) (sym e);
    }
    at false e more = record {
      between = λ out apart h. ap (λ b. (after (state_by out apart c b) cs).text) e ∙ ap (λ s. (after (state s false) cs).text) (glued_first out apart c h)
          ∙ more.within out (c ∷ []) refl ∙ ap (λ b. all_glued out (words_by [] c cs b)) (sym e);
      within = λ out w full. ap (λ b. (after (state_by (glued out w) false c b) cs).text) e ∙ ap (λ s. (after (state s false) cs).text) (glued_more out w c)
          ∙ more.within out (w ++ c ∷ []) (ends_full w c) ∙ ap (λ b. all_glued out (words_by w c cs b)) (sym e);
    }

join_front : (x y : List ℕ) (ws : List (List ℕ)) → join_with_byte 32 ((x ++ y) ∷ ws) ≡ x ++ join_with_byte 32 (y ∷ ws)
join_front x y [] = refl
join_front x y (w ∷ ws) = append_assoc x y (32 ∷ join_with_byte 32 (w ∷ ws))

all_joined : (out : List ℕ) (ws : List (List ℕ)) → is_empty out ≡ false → all_glued out ws ≡ join_with_byte 32 (out ∷ ws)
all_joined out [] h = refl
all_joined [] (w ∷ ws) h = cc
all_joined (b ∷ out) (w ∷ ws) h =
    all_joined ((b ∷ out) ++ 32 ∷ w) ws refl ∙ join_front (b ∷ out) (32 ∷ w) ws ∙ ap (λ v. (b ∷ out) ++ v) (join_front (32 ∷ []) w ws)

-- the first word is not empty
abbrev StartsFull : List (List ℕ) → Type 0
StartsFull [] = Unit {0}
StartsFull (w ∷ ws) = is_empty w ≡ false

starts_full : (w cs : List ℕ) → StartsFull (words_after w cs)
starts_full w [] = at (is_empty w) refl
  where
    at : (b : Bool) → is_empty w ≡ b → StartsFull (cond b [] (w ∷ []))
    at true e = tt
    at false e = e
starts_full w (c ∷ cs) = at (is_space4 c) (is_empty w) refl (starts_full [] cs) (starts_full (w ++ c ∷ []) cs)
  where
    at : (b e : Bool) → is_empty w ≡ e → StartsFull (words_after [] cs) → StartsFull (words_after (w ++ c ∷ []) cs)
        → StartsFull (cond b (cond e (words_after [] cs) (w ∷ words_after [] cs)) (words_after (w ++ c ∷ []) cs))
    at true true e h k = h
    at true false e h k = e
    at false v e h k = k

nothing_joined : (ws : List (List ℕ)) → StartsFull ws → all_glued [] ws ≡ join_with_byte 32 ws
nothing_joined [] h = refl
nothing_joined (w ∷ ws) h = all_joined w ws h

pub spaced : (cs : List ℕ) → (after start cs).text ≡ normalized cs
spaced cs = (reads cs).between [] false (inr refl) ∙ nothing_joined (words cs) (starts_full [] cs)
