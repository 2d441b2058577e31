-- Words with a space between two: such a text, bounded by spaces, holds a word between spaces where that is one of them.
use Rattle.std.proofs.Common.{◌≡◌, refl, ℕ, Bool, true, false, ◌&&◌, ◌||◌, cond, eqb, List, [], ◌∷◌, ◌++◌, ap, sym, ◌∙◌, append_assoc}
use Rattle.std.specs.List.{list_any, join_with_byte}
use Rattle.std.specs.Str.{bytes_eq}
use Rattle.std.proofs.lemmas.Bool.{or_parts, both_ways, false_from_ne_true, eqb-true}
use Rattle.text_base.specs.Strings.{is_empty, starts_with, contains, is_among, put, pieces, not_empty, runs}
use Rattle.text_base.proofs.Swaps.{flip}

-- the text has no space
abbrev pub Whole : List ℕ → Type 0
Whole w = list_any (λ c. eqb c 32) w ≡ false

and_true : (a : Bool) → (a && true) ≡ a
and_true true = refl
and_true false = refl

-- a text that contains no space has none
pub no_space : (x : List ℕ) → contains x (32 ∷ []) ≡ false → Whole x
no_space [] h = refl
no_space (c ∷ x) h =
    let parts : ((eqb c 32 && true) ≡ false) × (contains x (32 ∷ []) ≡ false) = or_parts _ _ h in
    ap (λ b. b || list_any (λ a. eqb a 32) x) (sym (and_true (eqb c 32)) ∙ parts.0) ∙ no_space x parts.1

-- at the front of a word and a space stand v and a space where the word is v
front_is : (w v r : List ℕ) → Whole w → Whole v → starts_with (w ++ 32 ∷ r) (v ++ 32 ∷ []) ≡ bytes_eq w v
front_is [] [] r h k = refl
front_is [] (b ∷ v) r h k = ap (λ t. t && starts_with r (v ++ 32 ∷ [])) (flip 32 b ∙ (or_parts _ _ k).0)
front_is (a ∷ w) [] r h k = ap (λ t. t && starts_with (w ++ 32 ∷ r) []) (or_parts _ _ h).0
front_is (a ∷ w) (b ∷ v) r h k = ap (λ t. eqb a b && t) (front_is w v r (or_parts _ _ h).1 (or_parts _ _ k).1)

-- what begins with a space stands behind a word that has none
past_word : (w x v : List ℕ) → Whole w → contains (w ++ x) (32 ∷ v) ≡ contains x (32 ∷ v)
past_word [] x v h = refl
past_word (a ∷ w) x v h =
    ap (λ t. (t && starts_with (w ++ x) v) || contains (w ++ x) (32 ∷ v)) (or_parts _ _ h).0 ∙ past_word w x v (or_parts _ _ h).1

-- each word with a space behind it
abbrev ended : List (List ℕ) → List ℕ
ended [] = []
ended (w ∷ ws) = w ++ 32 ∷ ended ws

joined_ended : (w : List ℕ) (ws : List (List ℕ)) → join_with_byte 32 (w ∷ ws) ++ 32 ∷ [] ≡ ended (w ∷ ws)
joined_ended w [] = refl
joined_ended w (v ∷ ws) = append_assoc w (32 ∷ join_with_byte 32 (v ∷ ws)) (32 ∷ []) ∙ ap (λ r. w ++ 32 ∷ r) (joined_ended v ws)

abbrev AllWhole : List (List ℕ) → Type 0
AllWhole [] = Unit {0}
AllWhole (w ∷ ws) = Whole w × AllWhole ws

no_front : (v : List ℕ) → is_empty v ≡ false → starts_with [] (v ++ 32 ∷ []) ≡ false
no_front [] h = cc
no_front (b ∷ v) h = refl

among_ended : (ws : List (List ℕ)) (v : List ℕ) → AllWhole ws → Whole v → is_empty v ≡ false → contains (32 ∷ ended ws) (32 ∷ (v ++ 32 ∷ [])) ≡ is_among v ws
among_ended [] v h k some = ap (λ b. b || false) (no_front v some)
among_ended (w ∷ ws) v h k some =
    ap (λ b. b || contains (w ++ 32 ∷ ended ws) (32 ∷ (v ++ 32 ∷ []))) (front_is w v (ended ws) h.0 k)
    ∙ ap (λ b. bytes_eq w v || b) (past_word w (32 ∷ ended ws) (v ++ 32 ∷ []) h.0 ∙ among_ended ws v h.1 k some)

no_words : (v : List ℕ) → is_empty v ≡ false → Whole v → contains (32 ∷ 32 ∷ []) (32 ∷ (v ++ 32 ∷ [])) ≡ false
no_words [] h k = cc
no_words (b ∷ v) h k = ap (λ t. (t && starts_with [] (v ++ 32 ∷ [])) || false) (flip 32 b ∙ (or_parts _ _ k).0)

joined_among : (ws : List (List ℕ)) (v : List ℕ) → AllWhole ws → Whole v → is_empty v ≡ false
    → contains (32 ∷ (join_with_byte 32 ws ++ 32 ∷ [])) (32 ∷ (v ++ 32 ∷ [])) ≡ is_among v ws
joined_among [] v h k some = no_words v some k
joined_among (w ∷ ws) v h k some = ap (λ t. contains (32 ∷ t) (32 ∷ (v ++ 32 ∷ []))) (joined_ended w ws) ∙ among_ended (w ∷ ws) v h k some

-- Of a test that a space passes.
module _ (p : ℕ → Bool) (passes : p 32 ≡ true) where
  no_pass : (c : ℕ) → p c ≡ false → eqb c 32 ≡ false
  no_pass c h = false_from_ne_true (eqb c 32) (λ e. both_ways (p c) h (ap p (eqb-true c 32 e) ∙ passes))

  -- a text in which no character passes has no space
  pub clear_whole : (w : List ℕ) → list_any p w ≡ false → Whole w
  clear_whole [] h = refl
  clear_whole (c ∷ w) h =
      let parts : (p c ≡ false) × (list_any p w ≡ false) = or_parts _ _ h in
      ap (λ b. b || list_any (λ a. eqb a 32) w) (no_pass c parts.0) ∙ clear_whole w parts.1

  put_whole : (c : ℕ) (ws : List (List ℕ)) → eqb c 32 ≡ false → AllWhole ws → AllWhole (put c ws)
  put_whole c [] h k = (ap (λ b. b || false) h, tt)
  put_whole c (w ∷ ws) h k = (ap (λ b. b || list_any (λ a. eqb a 32) w) h ∙ k.0, k.1)

  pieces_whole : (x : List ℕ) → AllWhole (pieces p x)
  pieces_whole [] = (refl, tt)
  pieces_whole (c ∷ x) = at (p c) refl (pieces_whole x)
    where
      at : (b : Bool) → p c ≡ b → AllWhole (pieces p x) → AllWhole (cond b ([] ∷ pieces p x) (put c (pieces p x)))
      at true e k = (refl, k)
      at false e k = put_whole c (pieces p x) (no_pass c e) k

  some_whole : (ws : List (List ℕ)) → AllWhole ws → AllWhole (not_empty ws)
  some_whole [] h = h
  some_whole ([] ∷ ws) h = some_whole ws h.1
  some_whole ((c ∷ w) ∷ ws) h = (h.0, some_whole ws h.1)

  -- v is one of the runs of x
  pub word_between : (x v : List ℕ) → Whole v → is_empty v ≡ false
      → contains (32 ∷ (join_with_byte 32 (runs p x) ++ 32 ∷ [])) (32 ∷ (v ++ 32 ∷ [])) ≡ is_among v (runs p x)
  word_between x v whole some = joined_among (runs p x) v (some_whole (pieces p x) (pieces_whole x)) whole some
