-- The tokens found so far, and the text that is left.
use Rattle.std.proofs.lemmas.List.{drop_all}
use Rattle.std.proofs.Common.{◌≡◌, refl, sym, ◌∙◌, ap, subst, ℕ, zero, suc, ◌+◌, ◌-◌, ◌<◌, ◌≤◌, true, false, List, [], ◌∷◌, ◌++◌, map, length, get_or, drop, Some, None, arith, ◌⊎◌, inl, inr, IsUtf8, append_assoc, append-nil, drop-cons}
use Rattle.std.proofs.lemmas.Bool.{cases_lt}
use Rattle.std.proofs.lemmas.Bool.Decides.{nat_tests}
use Rattle.text_base.specs.Text.{run_end, is_space4, IsPlace}
use Rattle.text_base.proofs.Runs.{run_end_from, run_end_le, run_end_passes, run_end_stops}
use Rattle.text_base.proofs.Boundaries.{place, boundary, at_start, narrow_boundary}
use Rattle.xpath_lexer.specs.declared.token.XTok.{XTok}
use Rattle.xpath_lexer.specs.Tokens.{Text, Lexeme, token, Spells, ends, space, next}
use Rattle.text_base.specs.declared.reasons.XPathFault.{XPathFault}
use Rattle.text_base.specs.declared.reasons.XPathFault.TheVariants as fault
use Rattle.xpath_lexer.specs.Places.{IsToken, IsFault, Stand, lexeme_of, most_xpath}
use Rattle.xpath_lexer.specs.inner.Stands.{IsNext}
use Rattle.xpath_lexer.proofs.Spelling.{after_space, after_token, none_begins}

pub record Spelled (x : Text) : Type 0 where
  pub lexemes : List Lexeme
  pub spells : Spells x lexemes

abbrev Blank : Text → ℕ → ℕ → Type 0
Blank text a b = (i : ℕ) → a ≤ i → i < b → is_space4 (get_or text i 0) ≡ true

-- white space before what is spelled
spells_blank : (text : Text) (j a : ℕ) (ws : List Lexeme) → a + j ≤ length text → Blank text a (a + j) → Spells (drop (a + j) text) ws → Spells (drop a text) ws
spells_blank text zero a ws l h r = subst (λ (i : ℕ). Spells (drop i text) ws) (let e : a + 0 ≡ a = omega arith in e) r
spells_blank text (suc j) a ws l h r =
    let e : a + suc j ≡ suc a + j = omega arith in
    let more : Spells (drop (suc a) text) ws = spells_blank text j (suc a) ws (omega arith) (λ i x y. h i (omega arith) (omega arith)) (subst (λ (i : ℕ). Spells (drop i text) ws) e r) in
    subst (λ (x : Text). Spells x ws) (sym (drop-cons text a 0 (omega arith))) (space (h a (omega arith) (omega arith)) more)

blank_spells : (text : Text) (j a : ℕ) (ws : List Lexeme) → a + j ≤ length text → Blank text a (a + j) → Spells (drop a text) ws → Spells (drop (a + j) text) ws
blank_spells text zero a ws l h r = subst (λ (i : ℕ). Spells (drop i text) ws) (let e : a ≡ a + 0 = omega arith in e) r
blank_spells text (suc j) a ws l h r =
    let e : suc a + j ≡ a + suc j = omega arith in
    let more : Spells (drop (suc a) text) ws = after_space (get_or text a 0) (drop (suc a) text) (h a (omega arith) (omega arith)) (drop-cons text a 0 (omega arith)) r in
    subst (λ (i : ℕ). Spells (drop i text) ws) e (blank_spells text j (suc a) ws (omega arith) (λ i x y. h i (omega arith) (omega arith)) more)

stand_blank : (text : Text) (a b : ℕ) (ws : List XTok) → a ≤ b → Blank text a b → Stand text b ws → Stand text a ws
stand_blank text a b [] l h r = λ i x y. elim (cases_lt i b) [ inl low ↦ h i x low | inr high ↦ r i high y ]
stand_blank text a b (w ∷ ws) l h r = (
  record {
    order = let o = r.0 in omega (arith, o.order);
    gap = λ i x y. elim (cases_lt i b) [ inl low ↦ h i x low | inr high ↦ (let o = r.0 in o.gap i high y) ];
    longest = let o = r.0 in o.longest;
    some = let o = r.0 in o.some;
    within = let o = r.0 in o.within;
    value = let o = r.0 in o.value;
  },
  r.1,
)

pub record Front (text : Text) (at : ℕ) (found : List XTok) : Type 0 where
  pub within : at ≤ length text
  pub place : IsPlace text at
  pub apart : at < length text → is_space4 (get_or text at 0) ≡ false
  pub on : (ws : List Lexeme) → Spells (drop at text) ws → Spells text (map lexeme_of found ++ ws)
  pub back : (ws : List Lexeme) → Spells text ws → Spelled (drop at text)
  pub stands : (ws : List XTok) → Stand text at ws → Stand text 0 (found ++ ws)

narrow : (b : ℕ) → 128 ≤ b → is_space4 b ≡ false
narrow b l = grind (arith, nat_tests)

module _ (text : Text) (utf8 : IsUtf8 text) where
  -- on over white space
  over : (a b : ℕ) (found : List XTok) → a ≤ length text → IsPlace text a → b ≡ run_end is_space4 text a
      → ((ws : List Lexeme) → Spells (drop a text) ws → Spells text (map lexeme_of found ++ ws))
      → ((ws : List Lexeme) → Spells text ws → Spelled (drop a text))
      → ((ws : List XTok) → Stand text a ws → Stand text 0 (found ++ ws)) → Front text b found
  over a b found l at e on back stands =
      let from : a ≤ b = omega (arith, run_end_from is_space4 text a) in
      let fits : b ≤ length text = omega (arith, run_end_le is_space4 text a l) in
      let far : a + (b - a) ≡ b = omega arith in
      let blank : Blank text a b = λ i x y. run_end_passes is_space4 text a i x (omega arith) in
      let blank_far : Blank text a (a + (b - a)) = λ i x y. blank i x (omega arith) in
      record {
        within = fits;
        place = subst (IsPlace text) (sym e) (place text (run_end is_space4 text a) (narrow_boundary is_space4 text utf8 a l narrow (boundary text a at)));
        apart = λ more. subst (λ (i : ℕ). is_space4 (get_or text i 0) ≡ false) (sym e) (run_end_stops is_space4 text a (omega arith));
        on = λ ws r. on ws (spells_blank text (b - a) a ws (omega arith) blank_far (subst (λ (i : ℕ). Spells (drop i text) ws) (sym far) r));
        back = λ ws r. (let s = back ws r in record { lexemes = s.lexemes; spells = subst (λ (i : ℕ). Spells (drop i text) s.lexemes) far (blank_spells text (b - a) a s.lexemes (omega arith) blank_far s.spells) });
        stands = λ ws r. stands ws (stand_blank text a b ws from blank r);
      }

  pub start : (b : ℕ) → b ≡ run_end is_space4 text 0 → Front text b []
  start b e = over 0 b [] (omega arith) (at_start text utf8) e (λ ws r. r) (λ ws r. record { lexemes = ws; spells = r }) (λ ws r. r)

  pub one_more : (a b : ℕ) (found : List XTok) (w : XTok) → Front text a found → IsNext text a w → b ≡ run_end is_space4 text w.to → Front text b (found ++ w ∷ [])
  one_more a b found w f n e =
      let i = n.is in
      let longest : token (drop a text) ≡ Some (lexeme_of w, drop w.to text) = subst (λ (j : ℕ). token (drop j text) ≡ Some (lexeme_of w, drop w.to text)) n.here i.longest in
      over w.to b (found ++ w ∷ []) i.within n.place e
      (λ ws r. subst (Spells text) (front_map found w ws) (f.on (lexeme_of w ∷ ws) (next longest r)))
      (λ ws r. (let s = f.back ws r in let m = after_token (lexeme_of w) (drop w.to text) longest s.spells in record { lexemes = m.tail; spells = m.spells }))
      (λ ws r. subst (Stand text 0) (sym (append_assoc found (w ∷ []) ws)) (f.stands (w ∷ ws) (token_here i n.here, r)))
    where
      front_map : (found : List XTok) (w : XTok) (ws : List Lexeme) → map lexeme_of found ++ lexeme_of w ∷ ws ≡ map lexeme_of (found ++ w ∷ []) ++ ws
      front_map [] w ws = refl
      front_map (v ∷ vs) w ws = ap (λ us. lexeme_of v ∷ us) (front_map vs w ws)

      token_here : IsToken text a w → w.from ≡ a → IsToken text a w
      token_here i h = i

  pub finish_spelled : (a : ℕ) (found : List XTok) → Front text a found → length text ≤ a → Spells text (map lexeme_of found)
  finish_spelled a found f l =
      let none : drop a text ≡ [] = drop_all a text l in
      subst (Spells text) (append-nil (map lexeme_of found)) (f.on [] (subst (λ (x : Text). Spells x []) (sym none) ends))

  pub finish_stands : (a : ℕ) (found : List XTok) → Front text a found → length text ≤ a → Stand text 0 found
  finish_stands a found f l = subst (Stand text 0) (append-nil found) (f.stands [] (λ i x y. absurd (omega arith)))

  pub unspelled : (a : ℕ) (found : List XTok) → Front text a found → a < length text → token (drop a text) ≡ None → (ws : List Lexeme) → Spells text ws → ⊥
  unspelled a found f more none ws r =
      let s = f.back ws r in
      let split : drop a text ≡ get_or text a 0 ∷ drop (suc a) text = drop-cons text a 0 more in
      none_begins (get_or text a 0) (drop (suc a) text) split (f.apart more) (ap token (sym split) ∙ none) s.spells

  -- why the next token is not there
  pub fault_at : (a : ℕ) (found : List XTok) → Front text a found → a < length text → length text ≤ most_xpath → (e : XPathFault) → e ≡ fault.Memory ⊎ e ≡ fault.Text × token (drop a text) ≡ None
      → (e ≡ fault.Memory → ⊥) → IsFault text e
  fault_at a found f more short e (inl h) other = absurd (other h)
  fault_at a found f more short e (inr h) other = subst (IsFault text) (sym h.0) (short, unspelled a found f more h.1)
