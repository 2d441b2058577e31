-- Braces that are looked for outside quotes, from the left.
use Rattle.std.proofs.Common.{◌≡◌, ℕ, ◌+◌, ◌<◌, ◌≤◌, ◌++◌, List, [], ◌∷◌, length, take, drop, get_or, refl, sym, ◌∙◌, ap, subst, append_assoc, arith}
use Rattle.std.specs.Prelude.{Bool, true, false, ◌&&◌, ◌==◌, nat_lt, if◌then◌else◌}
use Rattle.std.proofs.lemmas.Bool.Decides.{nat_tests}
use Rattle.std.proofs.lemmas.List.{append-nil, take_more, drop_more, drop_all}
use Rattle.query_script.specs.Cuts.{quote_after}
use Rattle.page_records.specs.declared.braces.Brace.{Brace}
use Rattle.page_records.specs.declared.braces.Brace.TheVariants as brace
use Rattle.page_records.specs.Braces.{closes, stands, before_outside, after_outside}
use Rattle.page_records.specs.inner.Places.{test_of, last_close}

-- ---- the first one

-- none stands so far, and this quote is open
pub record Looking (is : ℕ → Bool) (text : List ℕ) (i q : ℕ) : Type 0 where
  pub none : stands is 0 text ≡ stands is q (drop i text)
  pub front : before_outside is 0 text ≡ take i text ++ before_outside is q (drop i text)
  pub back : after_outside is 0 text ≡ after_outside is q (drop i text)

pub looks : (is : ℕ → Bool) (text : List ℕ) → Looking is text 0 0
looks is text = record { none = refl; front = refl; back = refl }

-- what a text with a first byte is
stands_on : (is : ℕ → Bool) (q c : ℕ) (t : List ℕ) → ((q == 0) && is c) ≡ false → stands is q (c ∷ t) ≡ stands is (quote_after q c) t
stands_on is q c t e = rw e refl

front_on : (is : ℕ → Bool) (q c : ℕ) (t : List ℕ) → ((q == 0) && is c) ≡ false → before_outside is q (c ∷ t) ≡ c ∷ before_outside is (quote_after q c) t
front_on is q c t e = rw e refl

back_on : (is : ℕ → Bool) (q c : ℕ) (t : List ℕ) → ((q == 0) && is c) ≡ false → after_outside is q (c ∷ t) ≡ after_outside is (quote_after q c) t
back_on is q c t e = rw e refl

stands_here : (is : ℕ → Bool) (q c : ℕ) (t : List ℕ) → ((q == 0) && is c) ≡ true → stands is q (c ∷ t) ≡ true
stands_here is q c t e = rw e refl

front_here : (is : ℕ → Bool) (q c : ℕ) (t : List ℕ) → ((q == 0) && is c) ≡ true → before_outside is q (c ∷ t) ≡ []
front_here is q c t e = rw e refl

back_here : (is : ℕ → Bool) (q c : ℕ) (t : List ℕ) → ((q == 0) && is c) ≡ true → after_outside is q (c ∷ t) ≡ t
back_here is q c t e = rw e refl

module _ (is : ℕ → Bool) (text : List ℕ) (i q : ℕ) (l : Looking is text i q) (w : i < length text) where
  pub goes_on : ((q == 0) && is (get_or text i 0)) ≡ false → Looking is text (i + 1) (quote_after q (get_or text i 0))
  goes_on e = record {
    none = l.none ∙ (ap (stands is q) (drop_more text i 0 w) ∙ stands_on is q (get_or text i 0) (drop (i + 1) text) e);
    front = l.front ∙ (ap (λ t. take i text ++ before_outside is q t) (drop_more text i 0 w) ∙ (ap (λ t. take i text ++ t) (front_on is q (get_or text i 0) (drop (i + 1) text) e)
        ∙ (sym (append_assoc (take i text) (get_or text i 0 ∷ []) (before_outside is (quote_after q (get_or text i 0)) (drop (i + 1) text)))
        ∙ ap (λ t. t ++ before_outside is (quote_after q (get_or text i 0)) (drop (i + 1) text)) (sym (take_more text i 0 w)))));
    back = l.back ∙ (ap (after_outside is q) (drop_more text i 0 w) ∙ back_on is q (get_or text i 0) (drop (i + 1) text) e);
  }

  pub is_there : ((q == 0) && is (get_or text i 0)) ≡ true → stands is 0 text ≡ true
  is_there e = l.none ∙ (ap (stands is q) (drop_more text i 0 w) ∙ stands_here is q (get_or text i 0) (drop (i + 1) text) e)

  pub front_is : ((q == 0) && is (get_or text i 0)) ≡ true → take i text ≡ before_outside is 0 text
  front_is e = sym (l.front ∙ (ap (λ t. take i text ++ before_outside is q t) (drop_more text i 0 w) ∙ (ap (λ t. take i text ++ t) (front_here is q (get_or text i 0) (drop (i + 1) text) e) ∙ append-nil (take i text))))

  pub back_is : ((q == 0) && is (get_or text i 0)) ≡ true → drop (i + 1) text ≡ after_outside is 0 text
  back_is e = sym (l.back ∙ (ap (after_outside is q) (drop_more text i 0 w) ∙ back_here is q (get_or text i 0) (drop (i + 1) text) e))

pub is_nowhere : (is : ℕ → Bool) (text : List ℕ) (i q : ℕ) → Looking is text i q → length text ≤ i → stands is 0 text ≡ false
is_nowhere is text i q l w = l.none ∙ ap (stands is q) (drop_all i text w)

-- a brace is ASCII
pub brace_ascii : (b : Brace) (q c : ℕ) → ((q == 0) && test_of b c) ≡ true → c < 128
brace_ascii brace.Open q c e = grind (arith, nat_tests)
brace_ascii brace.Close q c e = grind (arith, nat_tests)

-- ---- the last `}`

-- this is the place after the last one so far
pub record Ending (text : List ℕ) (i end q : ℕ) : Type 0 where
  pub whole : last_close i end q (drop i text) ≡ last_close 0 0 0 text
  pub order : end ≤ i

pub ends : (text : List ℕ) → Ending text 0 0 0
ends text = record { whole = refl; order = omega arith }

end_after : (b : Bool) (i end : ℕ) → end ≤ i → (if b then i + 1 else end) ≤ i + 1
end_after true i end h = omega arith
end_after false i end h = omega arith

pub ends_next : (text : List ℕ) (i end q : ℕ) → Ending text i end q → i < length text →
    Ending text (i + 1) (if (q == 0) && closes (get_or text i 0) then i + 1 else end) (quote_after q (get_or text i 0))
ends_next text i end q h w = record {
  whole = sym (ap (last_close i end q) (drop_more text i 0 w)) ∙ h.whole;
  order = end_after ((q == 0) && closes (get_or text i 0)) i end h.order;
}

pub ends_here : (text : List ℕ) (i end q : ℕ) → Ending text i end q → i < length text → ((q == 0) && closes (get_or text i 0)) ≡ true →
    Ending text (i + 1) (i + 1) (quote_after q (get_or text i 0))
ends_here text i end q h w e =
    let P : Bool → Type 0 = λ b. Ending text (i + 1) (if b then i + 1 else end) (quote_after q (get_or text i 0)) in
    subst P e (ends_next text i end q h w)

pub ends_past : (text : List ℕ) (i end q : ℕ) → Ending text i end q → i < length text → ((q == 0) && closes (get_or text i 0)) ≡ false →
    Ending text (i + 1) end (quote_after q (get_or text i 0))
ends_past text i end q h w e =
    let P : Bool → Type 0 = λ b. Ending text (i + 1) (if b then i + 1 else end) (quote_after q (get_or text i 0)) in
    subst P e (ends_next text i end q h w)

pub end_is : (text : List ℕ) (i end q : ℕ) → Ending text i end q → length text ≤ i → end ≡ last_close 0 0 0 text
end_is text i end q h w = sym (ap (last_close i end q) (drop_all i text w)) ∙ h.whole

-- ---- whether one comes later

-- none comes later: the last is the one before
none_later : (i end q : ℕ) (t : List ℕ) → stands closes q t ≡ false → last_close i end q t ≡ end
none_later i end q [] h = refl
none_later i end q (c ∷ t) h = by_test ((q == 0) && closes c) refl (none_later (i + 1) end (quote_after q c) t)
  where
    by_test : (b : Bool) → ((q == 0) && closes c) ≡ b → (stands closes (quote_after q c) t ≡ false → last_close (i + 1) end (quote_after q c) t ≡ end) → last_close i end q (c ∷ t) ≡ end
    by_test true e ih = absurd (let no : true ≡ false = sym (stands_here closes q c t e) ∙ h in cc)
    by_test false e ih = rw e (ih (sym (stands_on closes q c t e) ∙ h))

-- the last is not before the one that was last
keeps_end : (i end q : ℕ) (t : List ℕ) → end ≤ i → end ≤ last_close i end q t
keeps_end i end q [] h = omega arith
keeps_end i end q (c ∷ t) h = by_test ((q == 0) && closes c) refl (λ e. keeps_end (i + 1) e (quote_after q c) t)
  where
    by_test : (b : Bool) → ((q == 0) && closes c) ≡ b → ((e : ℕ) → e ≤ i + 1 → e ≤ last_close (i + 1) e (quote_after q c) t) → end ≤ last_close i end q (c ∷ t)
    by_test true e ih = rw e (let more : i + 1 ≤ last_close (i + 1) (i + 1) (quote_after q c) t = ih (i + 1) (omega arith) in omega arith)
    by_test false e ih = rw e (ih end (omega arith))

-- one comes later: the last is past this place
some_later : (i end q : ℕ) (t : List ℕ) → stands closes q t ≡ true → i < last_close i end q t
some_later i end q [] h = absurd (let no : false ≡ true = h in cc)
some_later i end q (c ∷ t) h = by_test ((q == 0) && closes c) refl (some_later (i + 1) end (quote_after q c) t)
  where
    by_test : (b : Bool) → ((q == 0) && closes c) ≡ b → (stands closes (quote_after q c) t ≡ true → i + 1 < last_close (i + 1) end (quote_after q c) t) → i < last_close i end q (c ∷ t)
    by_test true e ih = rw e (let more : i + 1 ≤ last_close (i + 1) (i + 1) (quote_after q c) t = keeps_end (i + 1) (i + 1) (quote_after q c) t (omega arith) in omega arith)
    by_test false e ih = rw e (let more : i + 1 < last_close (i + 1) end (quote_after q c) t = ih (sym (stands_on closes q c t e) ∙ h) in omega arith)

-- one comes later exactly where the last is past this place
pub later_is : (text : List ℕ) (i end q last : ℕ) → Ending text i end q → last ≡ last_close 0 0 0 text → stands closes q (drop i text) ≡ nat_lt i last
later_is text i end q last h e = by_test (stands closes q (drop i text)) refl
  where
    same : last_close i end q (drop i text) ≡ last
    same = h.whole ∙ sym e

    by_test : (b : Bool) → stands closes q (drop i text) ≡ b → stands closes q (drop i text) ≡ nat_lt i last
    by_test true s = s ∙ (let past : i < last_close i end q (drop i text) = some_later i end q (drop i text) s in grind (arith, nat_tests))
    by_test false s = s ∙ (let at : last_close i end q (drop i text) ≡ end = none_later i end q (drop i text) s in let o : end ≤ i = h.order in grind (arith, nat_tests))
