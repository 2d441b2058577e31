-- What the matches of a built pattern are, in the words of its text.
use Rattle.std.proofs.Common.{◌≡◌, ℕ, suc, ◌+◌, ◌-◌, ◌*◌, ◌<◌, ◌≤◌, ◌++◌, true, false, List, [], ◌∷◌, Option, Some, None, map, length, take, drop, get_or, refl, sym, ◌∙◌, ap, subst, arith, inl, inr, encode_utf8_all}
use Rattle.std.specs.Prelude.{slice_range, if◌then◌else◌, nat_le, IsSomeAnd, flat_map, ◌⊎◌}
use Rattle.std.specs.List.{range_with_len}
use Rattle.std.specs.Option.{option_map_or}
use Rattle.std.specs.Str.{chars}
use Rattle.std.proofs.lemmas.List.{length-append, take_all}
use Rattle.regex.specs.Patterns.{Re, Match, find_all_str, SameCaptures}
use Rattle.regex.specs.Writes.{both}
use Rattle.regex.specs.Strings.{regex_pattern, regex_names}
use Rattle.regex.specs.declared.string.regex.Regex.{Regex}
use Rattle.regex.proofs.ForCallers.{find_all_alike, spans}
use Rattle.query_chain.specs.declared.limits.Limits.{Limits}
use Rattle.query_chain.specs.declared.found.Found.{Found}
use Rattle.query_chain.specs.Items.{bytes_of}
use Rattle.query_chain.specs.inner.Found.{IsNew, Adds}
use Rattle.query_chain.specs.Patterns.{Pattern, pattern_of, texts_of, match_texts, matched, found_texts}
use Rattle.query_chain.specs.inner.Built.{Stands, IsBuilt}
use Rattle.query_chain.proofs.Adding.{adds_both}
use Rattle.query_chain.proofs.Lists.{flat_split, flat_more}

-- the same texts, from what a caller sees of a match
abbrev seen_texts : ℕ → List ℕ → ℕ × ℕ × (ℕ → Option ℕ) → List (List ℕ)
seen_texts groups hay s =
    if nat_le groups 1 then slice_range hay s.0 s.1 ∷ []
    else map (λ k. option_map_or (λ x. slice_range hay x.0 x.1) (both (s.2 (2 * k)) (s.2 (2 * k + 1))) []) (range_with_len 1 (groups - 1))

along : (groups : ℕ) (hay : List ℕ) (ms : List Match) → flat_map (texts_of groups hay) ms ≡ flat_map (seen_texts groups hay) (map spans ms)
along groups hay [] = refl
along groups hay (m ∷ ms) = ap (λ x. texts_of groups hay m ++ x) (along groups hay ms)

texts_alike : (a b : Re) → SameCaptures a b → (hay : List ℕ) → ((k : ℕ) → get_or hay k 0 < 256) → (groups : ℕ) → match_texts a groups hay ≡ match_texts b groups hay
texts_alike a b same hay bytes groups =
    along groups hay (find_all_str a hay)
    ∙ ap (flat_map (seen_texts groups hay)) (find_all_alike same hay bytes true)
    ∙ sym (along groups hay (find_all_str b hay))

matched_by : (r : Regex) (o : Option Pattern) (text hay : List ℕ) (groups : ℕ) → IsSomeAnd o (Stands r) → groups ≡ length (regex_names r) → hay ≡ encode_utf8_all text →
    ((k : ℕ) → get_or hay k 0 < 256) → map chars (match_texts (regex_pattern r) groups hay) ≡ option_map_or (λ p. matched p text) o []
matched_by r None text hay groups h g e bytes = absurd h
matched_by r (Some p) text hay groups h g e bytes =
    ap (map chars) (texts_alike (regex_pattern r) p.re h.captures hay bytes groups ∙ (ap (λ (n : ℕ). match_texts p.re n hay) (g ∙ h.groups) ∙ ap (match_texts p.re p.groups) e))

-- what a built pattern finds in a text
pub finds : (r : Regex) (source text hay : List ℕ) (groups : ℕ) → IsBuilt source r → groups ≡ length (regex_names r) → hay ≡ encode_utf8_all text →
    ((k : ℕ) → get_or hay k 0 < 256) → map chars (match_texts (regex_pattern r) groups hay) ≡ found_texts source text
finds r source text hay groups h g e bytes = matched_by r (pattern_of source) text hay groups h g e bytes

-- the texts that are found in one text more
pub found_more : (limits : Limits) (f g h : Found) (source : List ℕ) (ts : List (List ℕ)) (i : ℕ) (t : List ℕ) (xs : List (List ℕ)) → i < length ts → t ≡ get_or ts i t →
    xs ≡ found_texts source t → Adds limits f g (flat_map (found_texts source) (take i ts)) → Adds limits g h xs → Adds limits f h (flat_map (found_texts source) (take (i + 1) ts))
found_more limits f g h source ts i t xs low at e before one =
    subst (λ ys. Adds limits f h ys) (ap (λ ys. flat_map (found_texts source) (take i ts) ++ ys) (e ∙ ap (found_texts source) at) ∙ sym (flat_more (found_texts source) ts i t low)) (adds_both limits f g h _ _ before one)

-- too many texts are found up to here, and so in all
pub found_many : (limits : Limits) (f g : Found) (source : List ℕ) (ts : List (List ℕ)) (i : ℕ) (t : List ℕ) (n : ℕ) → i < length ts → t ≡ get_or ts i t →
    n ≡ length (found_texts source t) → IsNew f → Adds limits f g (flat_map (found_texts source) (take i ts)) → limits.items < g.count + n → limits.items < length (flat_map (found_texts source) ts)
found_many limits f g source ts i t n low at e new before more =
    let front = flat_map (found_texts source) (take i ts) in
    let here = found_texts source (get_or ts i t) in
    let rest = flat_map (found_texts source) (drop (suc i) ts) in
    let size = ap length (flat_split (found_texts source) ts i t low) ∙ (length-append front (here ++ rest) ∙ ap (λ k. length front + k) (length-append here rest)) in
    let same = e ∙ ap (λ x. length (found_texts source x)) at in
    let count = before.count in
    let zero = new.count in
    omega (arith, size, same, count, zero, more)

-- what was found in all texts
pub found_all : (limits : Limits) (f g : Found) (source : List ℕ) (ts : List (List ℕ)) (i : ℕ) → length ts ≤ i → Adds limits f g (flat_map (found_texts source) (take i ts)) →
    Adds limits f g (flat_map (found_texts source) ts)
found_all limits f g source ts i h a = subst (λ xs. Adds limits f g (flat_map (found_texts source) xs)) (take_all i ts h) a

pub all_kept : (limits : Limits) (f g : Found) (xs : List (List ℕ)) → IsNew f → Adds limits f g xs → g.is_over ≡ false → (g.texts.items ≡ xs) × (length xs ≤ limits.items) × (bytes_of xs ≤ limits.bytes)
all_kept limits f g xs new a is =
    let kept = a.kept is in
    let texts : g.texts.items ≡ xs = kept.1 ∙ ap (λ ts. ts ++ xs) new.texts in
    let count = a.count in
    let zero = new.count in
    let bytes = new.bytes in
    let few : g.count ≤ limits.items = a.few (omega (arith, zero)) in
    let within : g.bytes ≤ limits.bytes = a.within (omega (arith, bytes)) in
    let total = kept.2 in
    (texts, omega (arith, count, zero, few), omega (arith, bytes, within, total))

pub all_over : (limits : Limits) (f g : Found) (xs : List (List ℕ)) → IsNew f → Adds limits f g xs → g.is_over ≡ true → (length xs ≤ limits.items) × (limits.bytes < bytes_of xs)
all_over limits f g xs new a is =
    let count = a.count in
    let zero = new.count in
    let bytes = new.bytes in
    let few : g.count ≤ limits.items = a.few (omega (arith, zero)) in
    (omega (arith, count, zero, few), more (a.over is)) where
      more : (f.is_over ≡ true) ⊎ (limits.bytes < f.bytes + bytes_of xs) → limits.bytes < bytes_of xs
      more (inl was) = let e : true ≡ false = sym was ∙ new.fits in cc
      more (inr h) = let bytes = new.bytes in omega (arith, bytes, h)
