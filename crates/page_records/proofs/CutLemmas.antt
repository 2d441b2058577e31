-- A text that is being cut, where braces keep a block in one piece.
use Rattle.std.proofs.Common.{◌≡◌, ℕ, ◌+◌, ◌-◌, ◌<◌, ◌≤◌, ◌++◌, List, [], ◌∷◌, length, take, drop, get_or, get_or-drop, length-drop, refl, sym, ◌∙◌, ap, subst, append_assoc, arith}
use Rattle.std.specs.Prelude.{Bool, true, false, not, ◌&&◌, ◌==◌, nat_lt, if◌then◌else◌}
use Rattle.std.specs.List.{slice_range}
use Rattle.std.proofs.lemmas.Bool.Decides.{nat_tests}
use Rattle.std.proofs.lemmas.List.{append-nil, take_more, drop_more, drop_all}
use Rattle.query_script.specs.Cuts.{quote_after, onto_first, ends_field}
use Rattle.query_script.proofs.CutLemmas.{onto_all}
use Rattle.page_records.specs.Braces.{closes, stands, open_after, block_pieces}
use Rattle.page_records.specs.inner.Places.{last_close}
use Rattle.page_records.proofs.LookLemmas.{Ending, ends, ends_next, later_is}

-- the text so far was cut, with this piece begun, a `{` open or not, and this quote open
pub record Cutting (text : List ℕ) (i : ℕ) (done : List (List ℕ)) (piece : List ℕ) (begun : Bool) (q : ℕ) : Type 0 where
  pub whole : block_pieces false 0 text ≡ done ++ onto_all piece (block_pieces begun q (drop i text))
  pub end : ℕ
  pub ending : Ending text i end q

onto_twice : (p : List ℕ) (c : ℕ) (ps : List (List ℕ)) → onto_all p (onto_first c ps) ≡ onto_all (p ++ c ∷ []) ps
onto_twice p c [] = refl
onto_twice p c (x ∷ xs) = ap (λ y. y ∷ xs) (sym (append_assoc p (c ∷ []) x))

onto_none_first : (c : ℕ) (ps : List (List ℕ)) → onto_all [] (onto_first c ps) ≡ onto_first c ps
onto_none_first c [] = refl
onto_none_first c (x ∷ xs) = refl

choice : (b : Bool) (a x : List (List ℕ)) → onto_all [] a ≡ a → onto_all [] x ≡ x → onto_all [] (if b then a else x) ≡ (if b then a else x)
choice true a x e f = e
choice false a x e f = f

-- the text is cut at its first byte
abbrev is_cut : Bool → ℕ → ℕ → List ℕ → Bool
is_cut begun q c text = (q == 0) && (ends_field c && not (begun && stands closes 0 text))

onto_none : (begun : Bool) (q : ℕ) (text : List ℕ) → onto_all [] (block_pieces begun q text) ≡ block_pieces begun q text
onto_none begun q [] = refl
onto_none begun q (c ∷ text) =
    choice (is_cut begun q c text) ([] ∷ block_pieces begun 0 text) (onto_first c (block_pieces (open_after begun q c) (quote_after q c) text)) refl
    (onto_none_first c (block_pieces (open_after begun q c) (quote_after q c) text))

cut_pieces : (begun : Bool) (q c : ℕ) (text : List ℕ) → is_cut begun q c text ≡ true → block_pieces begun q (c ∷ text) ≡ [] ∷ block_pieces begun 0 text
cut_pieces begun q c text e = rw e refl

uncut_pieces : (begun : Bool) (q c : ℕ) (text : List ℕ) → is_cut begun q c text ≡ false →
    block_pieces begun q (c ∷ text) ≡ onto_first c (block_pieces (open_after begun q c) (quote_after q c) text)
uncut_pieces begun q c text e = rw e refl

-- a byte that ends a field is no quote
no_quote : (begun : Bool) (q c : ℕ) (text : List ℕ) → is_cut begun q c text ≡ true → quote_after q c ≡ 0
no_quote begun q c text e = grind (arith, nat_tests)

none_between : (text : List ℕ) (i : ℕ) → slice_range text i i ≡ []
none_between text i = ap (λ n. take n (drop i text)) (let e : i - i ≡ 0 = omega arith in e)

one_longer : (text : List ℕ) (s i : ℕ) → s ≤ i → i < length text → slice_range text s (i + 1) ≡ slice_range text s i ++ get_or text i 0 ∷ []
one_longer text s i order within =
    let n : i + 1 - s ≡ i - s + 1 = omega arith in
    let at : get_or (drop s text) (i - s) 0 ≡ get_or text i 0 = get_or-drop s text (i - s) 0 ∙ ap (λ k. get_or text k 0) (let e : s + (i - s) ≡ i = omega arith in e) in
    ap (λ k. take k (drop s text)) n ∙ (take_more (drop s text) (i - s) 0 (omega (arith, length-drop s text)) ∙ ap (λ c. slice_range text s i ++ c ∷ []) at)

pub begins : (text : List ℕ) → Cutting text 0 [] (slice_range text 0 0) false 0
begins text = record { whole = sym (onto_none false 0 text); end = 0; ending = ends text }

-- what the code looks at in place of the rest of the text
by_place : (begun : Bool) (q c : ℕ) (text : List ℕ) (later : Bool) → stands closes (quote_after q c) text ≡ later →
    is_cut begun q c text ≡ ((q == 0) && (ends_field c && not (begun && later)))
by_place begun q c text later e = grind (arith, nat_tests)

module _ (text : List ℕ) (i s : ℕ) (done : List (List ℕ)) (begun : Bool) (q last : ℕ) (h : Cutting text i done (slice_range text s i) begun q) (w : i < length text)
    (e : last ≡ last_close 0 0 0 text) where
  next : Ending text (i + 1) (if (q == 0) && closes (get_or text i 0) then i + 1 else h.end) (quote_after q (get_or text i 0))
  next = ends_next text i h.end q h.ending w

  test : is_cut begun q (get_or text i 0) (drop (i + 1) text) ≡ ((q == 0) && (ends_field (get_or text i 0) && not (begun && nat_lt (i + 1) last)))
  test = by_place begun q (get_or text i 0) (drop (i + 1) text) (nat_lt (i + 1) last) (later_is text (i + 1) (if (q == 0) && closes (get_or text i 0) then i + 1 else h.end) (quote_after q (get_or text i 0)) last next e)

  pub cuts_here : ((q == 0) && (ends_field (get_or text i 0) && not (begun && nat_lt (i + 1) last))) ≡ true → Cutting text (i + 1) (done ++ slice_range text s i ∷ []) (slice_range text (i + 1) (i + 1)) begun q
  cuts_here cut =
      let yes : is_cut begun q (get_or text i 0) (drop (i + 1) text) ≡ true = test ∙ cut in
      let closed : quote_after q (get_or text i 0) ≡ 0 = no_quote begun q (get_or text i 0) (drop (i + 1) text) yes in
      let outside : q ≡ 0 = grind (arith, nat_tests) in
      let P : ℕ → Type 0 = λ r. Ending text (i + 1) (if (q == 0) && closes (get_or text i 0) then i + 1 else h.end) r in
      let R : ℕ → Type 0 = λ r. Cutting text (i + 1) (done ++ slice_range text s i ∷ []) (slice_range text (i + 1) (i + 1)) begun r in
      subst R (sym outside) (record {
        whole = h.whole ∙ (ap (λ t. done ++ onto_all (slice_range text s i) (block_pieces begun q t)) (drop_more text i 0 w)
            ∙ (ap (λ ps. done ++ onto_all (slice_range text s i) ps) (cut_pieces begun q (get_or text i 0) (drop (i + 1) text) yes)
            ∙ (ap (λ p. done ++ (p ∷ block_pieces begun 0 (drop (i + 1) text))) (append-nil (slice_range text s i)) ∙ (sym (append_assoc done (slice_range text s i ∷ []) (block_pieces begun 0 (drop (i + 1) text)))
            ∙ (ap (λ ps. (done ++ slice_range text s i ∷ []) ++ ps) (sym (onto_none begun 0 (drop (i + 1) text)))
            ∙ ap (λ p. (done ++ slice_range text s i ∷ []) ++ onto_all p (block_pieces begun 0 (drop (i + 1) text))) (sym (none_between text (i + 1))))))));
        end = if (q == 0) && closes (get_or text i 0) then i + 1 else h.end;
        ending = subst P closed next;
      })

  pub goes_past : s ≤ i → ((q == 0) && (ends_field (get_or text i 0) && not (begun && nat_lt (i + 1) last))) ≡ false → Cutting text (i + 1) done (slice_range text s (i + 1)) (open_after begun q (get_or text i 0)) (quote_after q (get_or text i 0))
  goes_past order uncut = record {
    whole = h.whole ∙ (ap (λ t. done ++ onto_all (slice_range text s i) (block_pieces begun q t)) (drop_more text i 0 w)
        ∙ (ap (λ ps. done ++ onto_all (slice_range text s i) ps) (uncut_pieces begun q (get_or text i 0) (drop (i + 1) text) (test ∙ uncut))
        ∙ (ap (λ ps. done ++ ps) (onto_twice (slice_range text s i) (get_or text i 0) (block_pieces (open_after begun q (get_or text i 0)) (quote_after q (get_or text i 0)) (drop (i + 1) text)))
        ∙ ap (λ p. done ++ onto_all p (block_pieces (open_after begun q (get_or text i 0)) (quote_after q (get_or text i 0)) (drop (i + 1) text))) (sym (one_longer text s i order w)))));
    end = if (q == 0) && closes (get_or text i 0) then i + 1 else h.end;
    ending = next;
  }

pub all_cut : (text : List ℕ) (i : ℕ) (done : List (List ℕ)) (piece : List ℕ) (begun : Bool) (q : ℕ) → Cutting text i done piece begun q → length text ≤ i →
    done ++ piece ∷ [] ≡ block_pieces false 0 text
all_cut text i done piece begun q h w = sym (h.whole ∙ (ap (λ t. done ++ onto_all piece (block_pieces begun q t)) (drop_all i text w) ∙ ap (λ p. done ++ p ∷ []) (append-nil piece)))

-- a byte at which a text is cut is ASCII
pub cut_ascii : (begun : Bool) (q c : ℕ) (later : Bool) → ((q == 0) && (ends_field c && not (begun && later))) ≡ true → c < 128
cut_ascii begun q c later e = grind (arith, nat_tests)
