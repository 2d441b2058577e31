-- The texts of matches, one match and one group after the other.
use Rattle.std.proofs.Common.{◌≡◌, ℕ, ◌+◌, ◌-◌, ◌<◌, ◌≤◌, ◌++◌, true, false, List, [], ◌∷◌, Option, Some, None, map, length, refl, sym, ◌∙◌, ap, subst, arith, le-leb, append_assoc}
use Rattle.std.proofs.lemmas.Bool.{lt-leb}
use Rattle.std.specs.Prelude.{slice_range, nat_le}
use Rattle.std.specs.Str.{chars}
use Rattle.std.specs.List.{flat_map, range_with_len}
use Rattle.std.specs.Option.{option_map_or}
use Rattle.std.proofs.lemmas.List.{map-append, append-nil, length-map, length-append}
use Rattle.std.proofs.lemmas.Option.{same_Some}
use Rattle.std.proofs.lemmas.List.FromFn.{map-range_with_len_more, length-map-range_with_len}
use Rattle.regex.specs.Patterns.{Re, Match, find_str}
use Rattle.regex.specs.Search.{next_match, matches_after, group_span}
use Rattle.regex.specs.Strings.{captures_span, captures_haystack, match_span, IsCapturesOf}
use Rattle.regex.specs.declared.string.captures.Captures.{Captures}
use Rattle.regex.proofs.SearchLemmas.{matches_after_none, matches_after_some, matches_after_text}
use Rattle.query_chain.specs.declared.limits.Limits.{Limits}
use Rattle.query_chain.specs.declared.found.Found.{Found}
use Rattle.query_chain.specs.Patterns.{group_text, texts_of, match_texts}
use Rattle.query_chain.specs.inner.Found.{Adds}
use Rattle.query_chain.proofs.Adding.{adds_both, adds_none}

abbrev pub span_text : List ℕ → Option (ℕ × ℕ) → List ℕ
span_text hay s = option_map_or (λ s. slice_range hay s.0 s.1) s []

captures_zero : (c : Captures) → captures_span c 0 ≡ Some (match_span c.whole)
unfolding group_span
captures_zero c = refl

-- ---- one match

whole_texts : (c : Captures) (m : Match) (groups : ℕ) → groups ≤ 1 → IsCapturesOf (captures_haystack c) m c → texts_of groups (captures_haystack c) m ≡ span_text (captures_haystack c) (captures_span c 0) ∷ []
whole_texts c m groups h is = rw (le-leb groups 1 h, captures_zero c) (ap (λ (p : ℕ × ℕ). slice_range (captures_haystack c) p.0 p.1 ∷ []) (sym is.1.whole_is))

group_texts : (groups : ℕ) (hay : List ℕ) (m : Match) → 1 < groups → texts_of groups hay m ≡ map (group_text hay m) (range_with_len 1 (groups - 1))
group_texts groups hay m h = let e : nat_le groups 1 ≡ false = lt-leb groups 1 h in rw e refl

-- the whole match
pub whole_added : (limits : Limits) (f g : Found) (c : Captures) (m : Match) (groups : ℕ) (t : List ℕ) → groups ≤ 1 → IsCapturesOf (captures_haystack c) m c →
    t ≡ span_text (captures_haystack c) (captures_span c 0) → Adds limits f g (chars t ∷ []) → Adds limits f g (map chars (texts_of groups (captures_haystack c) m))
whole_added limits f g c m groups t h is e a = subst (λ ts. Adds limits f g ts) (sym (ap (map chars) (whole_texts c m groups h is ∙ ap (λ x. x ∷ []) (sym e)))) a

-- one group more
pub group_added : (limits : Limits) (f g h : Found) (c : Captures) (m : Match) (k : ℕ) (t : List ℕ) → 1 ≤ k → IsCapturesOf (captures_haystack c) m c →
    Adds limits f g (map chars (map (group_text (captures_haystack c) m) (range_with_len 1 (k - 1)))) → t ≡ span_text (captures_haystack c) (captures_span c k) →
    Adds limits g h (chars t ∷ []) → Adds limits f h (map chars (map (group_text (captures_haystack c) m) (range_with_len 1 (k + 1 - 1))))
group_added limits f g h c m k t low is before e one =
    let hay = captures_haystack c in
    let here : t ≡ group_text hay m k = e ∙ ap (span_text hay) (is.2 k low) in
    let more : map (group_text hay m) (range_with_len 1 (k - 1 + 1)) ≡ map (group_text hay m) (range_with_len 1 (k - 1)) ++ group_text hay m k ∷ [] = map-range_with_len_more (group_text hay m) 1 (k - 1) k (omega arith) in
    let size : k + 1 - 1 ≡ k - 1 + 1 = omega arith in
    let whole = ap (λ n. map chars (map (group_text hay m) (range_with_len 1 n))) size ∙ (ap (map chars) more ∙ map-append chars (map (group_text hay m) (range_with_len 1 (k - 1))) (group_text hay m k ∷ [])) in
    subst (λ ts. Adds limits f h ts) (sym whole) (adds_both limits f g h _ _ before (subst (λ x. Adds limits g h (chars x ∷ [])) here one))

pub groups_many : (limits : Limits) (f g : Found) (groups k : ℕ) (hay : List ℕ) (m : Match) → 1 ≤ k → k < groups →
    Adds limits f g (map chars (map (group_text hay m) (range_with_len 1 (k - 1)))) → limits.items < g.count + 1 → limits.items < f.count + length (texts_of groups hay m)
groups_many limits f g groups k hay m low high a more =
    let some : length (map chars (map (group_text hay m) (range_with_len 1 (k - 1)))) ≡ k - 1 = length-map (map (group_text hay m) (range_with_len 1 (k - 1))) chars ∙ length-map-range_with_len (group_text hay m) 1 (k - 1) in
    let all : length (texts_of groups hay m) ≡ groups - 1 = ap length (group_texts groups hay m (omega arith)) ∙ length-map-range_with_len (group_text hay m) 1 (groups - 1) in
    let n = a.count in
    omega (arith, some, all, n)

-- ---- the next match

-- the end of a match that captures show
pub end_of : (c : Captures) (m : Match) (s : ℕ × ℕ) → IsCapturesOf (captures_haystack c) m c → Some s ≡ captures_span c 0 → s.1 ≡ m.trace.end
end_of c m s is e = ap (λ (p : ℕ × ℕ). p.1) (same_Some s (match_span c.whole) (e ∙ captures_zero c) ∙ is.1.whole_is)

-- what `add_next` says, from what its calls said
pub next_added : (limits : Limits) (f g : Found) (re re' : Re) (hay : List ℕ) (start after groups end : ℕ) (c : Captures) (s : ℕ × ℕ) →
    find_str re hay start ≡ next_match true re hay after → re' ≡ re →
    ((m : Match) × (find_str re' hay start ≡ Some m) × IsCapturesOf hay m c) →
    ((m : Match) → IsCapturesOf (captures_haystack c) m c → Adds limits f g (map chars (texts_of groups (captures_haystack c) m))) →
    Some s ≡ captures_span c 0 → end ≡ s.1 →
    (m : Match) × (next_match true re hay after ≡ Some m) × (end ≡ m.trace.end) × Adds limits f g (map chars (texts_of groups hay m))
next_added limits f g re re' hay start after groups end c s at same found adds whole e =
    let m = found.0 in
    let own : captures_haystack c ≡ hay = found.2.0 in
    let is : IsCapturesOf (captures_haystack c) m c = subst (λ (h : List ℕ). IsCapturesOf h m c) (sym own) found.2 in
    (m, sym at ∙ (ap (λ (r : Re). find_str r hay start) (sym same) ∙ found.1), e ∙ end_of c m s is whole, subst (λ (h : List ℕ). Adds limits f g (map chars (texts_of groups h m))) own (adds m is))

-- ---- all matches

-- the matches that are left, as texts
abbrev pub left_texts : Re → List ℕ → ℕ → ℕ → List (List ℕ)
left_texts re hay groups after = flat_map (texts_of groups hay) (matches_after true re hay after)

left_more : (re : Re) (hay : List ℕ) (groups after end : ℕ) (m : Match) → next_match true re hay after ≡ Some m → end ≡ m.trace.end →
    left_texts re hay groups after ≡ texts_of groups hay m ++ left_texts re hay groups (end + 1)
left_more re hay groups after end m n e =
    let split : matches_after true re hay after ≡ m ∷ matches_after true re hay (end + 1) = rw e (matches_after_some re hay true after m n) in
    ap (flat_map (texts_of groups hay)) split

pub left_none : (re : Re) (hay : List ℕ) (groups after : ℕ) → next_match true re hay after ≡ None → left_texts re hay groups after ≡ []
left_none re hay groups after n = ap (flat_map (texts_of groups hay)) (matches_after_none re hay true after n)

pub left_first : (re : Re) (hay : List ℕ) (groups : ℕ) → left_texts re hay groups 0 ≡ match_texts re groups hay
left_first re hay groups = ap (flat_map (texts_of groups hay)) (matches_after_text re hay)

-- What was added and what is left are all texts. It is a record, so that no tactic opens it.
pub record IsAlong (limits : Limits) (f g : Found) (re : Re) (hay : List ℕ) (groups after : ℕ) : Type 0 where
  pub front : List (List ℕ)
  pub adds : Adds limits f g (map chars front)
  pub whole : front ++ left_texts re hay groups after ≡ match_texts re groups hay

pub along_start : (limits : Limits) (f : Found) (re : Re) (hay : List ℕ) (groups : ℕ) → IsAlong limits f f re hay groups 0
along_start limits f re hay groups = record { front = []; adds = adds_none limits f; whole = left_first re hay groups }

pub along_step : (limits : Limits) (f g h : Found) (re : Re) (hay : List ℕ) (groups after end : ℕ) (m : Match) → next_match true re hay after ≡ Some m → end ≡ m.trace.end →
    Adds limits g h (map chars (texts_of groups hay m)) → IsAlong limits f g re hay groups after → IsAlong limits f h re hay groups (end + 1)
along_step limits f g h re hay groups after end m n e one a = record {
  front = a.front ++ texts_of groups hay m;
  adds = subst (λ ts. Adds limits f h ts) (sym (map-append chars a.front (texts_of groups hay m))) (adds_both limits f g h _ _ a.adds one);
  whole = append_assoc a.front (texts_of groups hay m) (left_texts re hay groups (end + 1)) ∙ (ap (λ ts. a.front ++ ts) (sym (left_more re hay groups after end m n e)) ∙ a.whole);
}

pub along_end : (limits : Limits) (f g : Found) (re : Re) (hay : List ℕ) (groups after : ℕ) → next_match true re hay after ≡ None → IsAlong limits f g re hay groups after →
    Adds limits f g (map chars (match_texts re groups hay))
along_end limits f g re hay groups after n a =
    let all : a.front ≡ match_texts re groups hay = sym (append-nil a.front) ∙ (ap (λ ts. a.front ++ ts) (sym (left_none re hay groups after n)) ∙ a.whole) in
    subst (λ ts. Adds limits f g (map chars ts)) all a.adds

pub along_many : (limits : Limits) (f g : Found) (re : Re) (hay : List ℕ) (groups after : ℕ) (m : Match) → next_match true re hay after ≡ Some m →
    limits.items < g.count + length (texts_of groups hay m) → IsAlong limits f g re hay groups after → limits.items < f.count + length (match_texts re groups hay)
along_many limits f g re hay groups after m n more a =
    let rest = left_texts re hay groups (m.trace.end + 1) in
    let size : length (match_texts re groups hay) ≡ length a.front + (length (texts_of groups hay m) + length rest) =
    ap length (sym a.whole ∙ ap (λ ts. a.front ++ ts) (left_more re hay groups after m.trace.end m n refl)) ∙ (length-append a.front (texts_of groups hay m ++ rest) ∙ ap (λ k. length a.front + k) (length-append (texts_of groups hay m) rest)) in
    let count = a.adds.count in
    let same = length-map a.front chars in
    omega (arith, size, count, same)

pub fewer_left : (re : Re) (hay : List ℕ) (after end : ℕ) (m : Match) → next_match true re hay after ≡ Some m → end ≡ m.trace.end → length (matches_after true re hay (end + 1)) < length (matches_after true re hay after)
fewer_left re hay after end m n e = rw (matches_after_some re hay true after m n, e) (omega arith)
