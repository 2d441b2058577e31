-- A text that is being cut.
use Rattle.std.proofs.Common.{◌≡◌, ℕ, suc, ◌+◌, ◌<◌, ◌≤◌, ◌++◌, List, [], ◌∷◌, length, take, drop, get_or, get_or-drop, length-drop, ◌-◌, subst, refl, sym, ◌∙◌, ap, append_assoc, arith, add-one, drop-cons}
use Rattle.std.specs.Prelude.{Bool, true, false, ◌&&◌, ◌==◌, if◌then◌else◌}
use Rattle.std.specs.List.{slice_range}
use Rattle.std.proofs.lemmas.Bool.Decides.{nat_tests}
use Rattle.std.proofs.lemmas.List.{append-nil, take_more}
use Rattle.query_script.specs.declared.cuts.Cut.{Cut}
use Rattle.query_script.specs.declared.cuts.Cut.TheVariants as cut
use Rattle.query_script.specs.Cuts.{pieces, quote_after, onto_first}
use Rattle.query_script.specs.inner.Reader.{cuts_of}

-- bytes at the front of the first piece
abbrev pub onto_all : List ℕ → List (List ℕ) → List (List ℕ)
onto_all p [] = p ∷ []
onto_all p (x ∷ xs) = (p ++ x) ∷ xs

-- the text so far was cut, with this piece begun and this quote open
pub record Cutting (cuts : ℕ → Bool) (text : List ℕ) (i : ℕ) (done : List (List ℕ)) (piece : List ℕ) (quote : ℕ) : Type 0 where
  pub whole : pieces cuts 0 text ≡ done ++ onto_all piece (pieces cuts quote (drop i text))

onto_first_twice : (p : List ℕ) (c : ℕ) (ps : List (List ℕ)) → onto_all p (onto_first c ps) ≡ onto_all (p ++ c ∷ []) ps
onto_first_twice p c [] = refl
onto_first_twice p c (x ∷ xs) = ap (λ y. y ∷ xs) (sym (append_assoc p (c ∷ []) x))

onto_none_first : (c : ℕ) (ps : List (List ℕ)) → onto_all [] (onto_first c ps) ≡ onto_first c ps
onto_none_first c [] = refl
onto_none_first c (x ∷ xs) = refl

choice : (b : Bool) (a x : List (List ℕ)) → onto_all [] a ≡ a → onto_all [] x ≡ x → onto_all [] (if b then a else x) ≡ (if b then a else x)
choice true a x e f = e
choice false a x e f = f

onto_none : (cuts : ℕ → Bool) (q : ℕ) (text : List ℕ) → onto_all [] (pieces cuts q text) ≡ pieces cuts q text
onto_none cuts q [] = refl
onto_none cuts q (c ∷ text) = choice ((q == 0) && cuts c) ([] ∷ pieces cuts 0 text) (onto_first c (pieces cuts (quote_after q c) text)) refl (onto_none_first c (pieces cuts (quote_after q c) text))

pub begin : (cuts : ℕ → Bool) (text : List ℕ) → Cutting cuts text 0 [] [] 0
begin cuts text = record { whole = sym (onto_none cuts 0 text) }

cut_pieces : (cuts : ℕ → Bool) (q c : ℕ) (text : List ℕ) → ((q == 0) && cuts c) ≡ true → pieces cuts q (c ∷ text) ≡ [] ∷ pieces cuts 0 text
cut_pieces cuts q c text e = rw e refl

uncut_pieces : (cuts : ℕ → Bool) (q c : ℕ) (text : List ℕ) → ((q == 0) && cuts c) ≡ false → pieces cuts q (c ∷ text) ≡ onto_first c (pieces cuts (quote_after q c) text)
uncut_pieces cuts q c text e = rw e refl

pub cut_here : (cuts : ℕ → Bool) (text : List ℕ) (i : ℕ) (done : List (List ℕ)) (piece : List ℕ) (q : ℕ) → Cutting cuts text i done piece q → i < length text →
    ((q == 0) && cuts (get_or text i 0)) ≡ true → Cutting cuts text (i + 1) (done ++ piece ∷ []) [] 0
cut_here cuts text i done piece q h w e = record {
  whole = rw add-one (h.whole ∙ (ap (λ t. done ++ onto_all piece (pieces cuts q t)) (drop-cons text i 0 w) ∙ (ap (λ ps. done ++ onto_all piece ps) (cut_pieces cuts q (get_or text i 0) (drop (suc i) text) e)
      ∙ (ap (λ p. done ++ (p ∷ pieces cuts 0 (drop (suc i) text))) (append-nil piece) ∙ (sym (append_assoc done (piece ∷ []) (pieces cuts 0 (drop (suc i) text)))
      ∙ ap (λ ps. (done ++ piece ∷ []) ++ ps) (sym (onto_none cuts 0 (drop (suc i) text))))))));
}

pub goes_on : (cuts : ℕ → Bool) (text : List ℕ) (i : ℕ) (done : List (List ℕ)) (piece : List ℕ) (q : ℕ) → Cutting cuts text i done piece q → i < length text →
    ((q == 0) && cuts (get_or text i 0)) ≡ false → Cutting cuts text (i + 1) done (piece ++ get_or text i 0 ∷ []) (quote_after q (get_or text i 0))
goes_on cuts text i done piece q h w e = record {
  whole = rw add-one (h.whole ∙ (ap (λ t. done ++ onto_all piece (pieces cuts q t)) (drop-cons text i 0 w) ∙ (ap (λ ps. done ++ onto_all piece ps) (uncut_pieces cuts q (get_or text i 0) (drop (suc i) text) e)
      ∙ ap (λ ps. done ++ ps) (onto_first_twice piece (get_or text i 0) (pieces cuts (quote_after q (get_or text i 0)) (drop (suc i) text))))));
}

-- ---- where the piece that is begun is a part of the text

none_between : (text : List ℕ) (i : ℕ) → slice_range text i i ≡ []
none_between text i = ap (λ n. take n (drop i text)) (let e : i - i ≡ 0 = omega arith in e)

one_longer : (text : List ℕ) (s i : ℕ) → s ≤ i → i < length text → slice_range text s (i + 1) ≡ slice_range text s i ++ get_or text i 0 ∷ []
one_longer text s i order within =
    let n : i + 1 - s ≡ i - s + 1 = omega arith in
    let at : get_or (drop s text) (i - s) 0 ≡ get_or text i 0 = get_or-drop s text (i - s) 0 ∙ ap (λ k. get_or text k 0) (let e : s + (i - s) ≡ i = omega arith in e) in
    ap (λ k. take k (drop s text)) n ∙ (take_more (drop s text) (i - s) 0 (omega (arith, length-drop s text)) ∙ ap (λ c. slice_range text s i ++ c ∷ []) at)

pub begins : (cuts : ℕ → Bool) (text : List ℕ) → Cutting cuts text 0 [] (slice_range text 0 0) 0
begins cuts text = begin cuts text

closed : (q : ℕ) (b : Bool) → ((q == 0) && b) ≡ true → 0 ≡ q
closed q b e = grind (arith, nat_tests)

pub cuts_here : (cuts : ℕ → Bool) (text : List ℕ) (i s : ℕ) (done : List (List ℕ)) (q : ℕ) → Cutting cuts text i done (slice_range text s i) q → i < length text →
    ((q == 0) && cuts (get_or text i 0)) ≡ true → Cutting cuts text (i + 1) (done ++ slice_range text s i ∷ []) (slice_range text (i + 1) (i + 1)) q
cuts_here cuts text i s done q h w e =
    let P : List ℕ → Type 0 = λ p. Cutting cuts text (i + 1) (done ++ slice_range text s i ∷ []) p 0 in
    let Q : ℕ → Type 0 = λ r. Cutting cuts text (i + 1) (done ++ slice_range text s i ∷ []) (slice_range text (i + 1) (i + 1)) r in
    subst Q (closed q (cuts (get_or text i 0)) e) (subst P (sym (none_between text (i + 1))) (cut_here cuts text i done (slice_range text s i) q h w e))

pub goes_past : (cuts : ℕ → Bool) (text : List ℕ) (i s : ℕ) (done : List (List ℕ)) (q : ℕ) → Cutting cuts text i done (slice_range text s i) q → s ≤ i → i < length text →
    ((q == 0) && cuts (get_or text i 0)) ≡ false → Cutting cuts text (i + 1) done (slice_range text s (i + 1)) (quote_after q (get_or text i 0))
goes_past cuts text i s done q h order w e =
    let P : List ℕ → Type 0 = λ p. Cutting cuts text (i + 1) done p (quote_after q (get_or text i 0)) in
    subst P (sym (one_longer text s i order w)) (goes_on cuts text i done (slice_range text s i) q h w e)

-- a byte at which a text is cut is ASCII
pub cut_ascii : (kind : Cut) (q c : ℕ) → ((q == 0) && cuts_of kind c) ≡ true → c < 128
cut_ascii cut.Fields q c e = grind (arith, nat_tests)
cut_ascii cut.Points q c e = grind (arith, nat_tests)
