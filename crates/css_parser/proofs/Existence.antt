-- Of all tokens there is a list, or there is none. Each text is a list or has a fault.
use Rattle.std.proofs.Common.{◌≡◌, ℕ, zero, suc, ◌+◌, ◌<◌, ◌≤◌, Bool, true, false, List, [], ◌∷◌, ◌++◌, length, refl, sym, ◌∙◌, subst, arith, inl, inr, ◌⊎◌}
use Rattle.std.specs.Prelude.{Option, Some, None}
use Rattle.std.proofs.lemmas.Bool.{cases_lt}
use Rattle.css_selectors.specs.declared.selector.Link.{Link}
use Rattle.css_selectors.specs.declared.selector.Link.TheVariants as link
use Rattle.css_lexer.specs.declared.tokens.CssKind.TheVariants as kind
use Rattle.css_lexer.specs.declared.tokens.CssToken.{CssToken}
use Rattle.css_lexer.specs.Tokens.{Lexes, most_selector}
use Rattle.css_lexer.proofs.Lexing.{lexes_or_stops}
use Rattle.css_selectors.specs.declared.selector.SelectorList.{SelectorList}
use Rattle.text_base.specs.declared.reasons.SelectorFault.{SelectorFault}
use Rattle.text_base.specs.declared.reasons.SelectorFault.TheVariants as fault
use Rattle.css_parser.specs.declared.pieces.Form.{Form}
use Rattle.css_parser.specs.declared.pieces.FormRead.{FormRead}
use Rattle.css_parser.specs.declared.pieces.FormsRead.{FormsRead}
use Rattle.css_parser.specs.declared.pieces.ElementRead.{ElementRead}
use Rattle.css_parser.specs.declared.pieces.Compound.{Compound}
use Rattle.css_parser.specs.declared.pieces.CompoundRead.{CompoundRead}
use Rattle.css_parser.specs.declared.pieces.SelectorRead.{SelectorRead}
use Rattle.css_parser.specs.declared.pieces.LinkRead.{LinkRead}
use Rattle.css_parser.specs.Places.{stands, skip}
use Rattle.css_parser.specs.Simples.{element}
use Rattle.css_parser.specs.Choices.{simple}
use Rattle.css_parser.specs.Grammar.{IsSelector, Reads}
use Rattle.css_parser.specs.Links.{combinator}
use Rattle.css_parser.specs.inner.Reading.{EndsElement, EndsForm, EndsLink, IsFormsRead, IsCompoundRead, IsFurtherRead, IsWholeSelector, IsSelectorRead, IsReadUpTo}
use Rattle.css_parser.specs.Lists.{list_of}
use Rattle.css_parser.specs.Refusals.{refusal}
use Rattle.css_parser.specs.Selecting.{Accepts, IsRefused, IsFault}
use Rattle.css_parser.proofs.Endings.{element_ends, combinator_ends}
use Rattle.css_parser.proofs.ChoiceLemmas.{simple_ends}
use Rattle.css_parser.proofs.PlaceLemmas.{skip_order, skip_within}
use Rattle.css_parser.proofs.GrammarLemmas.{with_element, without_element, nothing, no_combinator, no_after, after_combinator, selector_begun, selector_push}
use Rattle.css_parser.proofs.SelectingLemmas.{IsRefusal, MayRefuse, list_kind}
use Rattle.css_parser.proofs.ListLemmas.{begun, went_on, finished, no_selector, no_comma}

abbrev FormsAt : List ℕ → List CssToken → ℕ → Type 0
FormsAt text ts i = (r : FormsRead) × IsFormsRead ts (simple text ts) i r

abbrev CompoundAt : List ℕ → List CssToken → Link → ℕ → Type 0
CompoundAt text ts l i = (r : Option CompoundRead) × IsCompoundRead text ts l i r

abbrev FurtherAt : List ℕ → List CssToken → ℕ → Type 0
FurtherAt text ts i = (r : Option CompoundRead) × IsFurtherRead text ts i r

abbrev WholeAt : List ℕ → List CssToken → ℕ → Type 0
WholeAt text ts i = (r : SelectorRead) × IsWholeSelector text ts i r

abbrev SelectorAt : List ℕ → List CssToken → ℕ → Type 0
SelectorAt text ts i = (r : Option SelectorRead) × IsSelectorRead text ts i r

-- a list of all tokens, or none
abbrev pub IsReadOrNot : List ℕ → List CssToken → Type 0
IsReadOrNot text ts = ((list : List (List Compound)) × Reads text ts list) ⊎ ((list : List (List Compound)) → Reads text ts list → ⊥)

module _ (text : List ℕ) (ts : List CssToken) where
  no_forms : (i : ℕ) → i ≤ length ts → simple text ts i ≡ None → FormsAt text ts i
  no_forms i low e = (record { forms = []; end = i }, record { reads = refl; stops = e; order = omega arith; within = low })

  forms_some : (more i : ℕ) → i ≤ length ts → length ts ≤ i + more → FormsAt text ts i
  forms_some zero i low near = by_simple (simple text ts i) refl (simple_ends text ts i low)
    where
      by_simple : (o : Option FormRead) → simple text ts i ≡ o → EndsForm ts i o → FormsAt text ts i
      by_simple None e h = no_forms i low e
      by_simple (Some r) e h = let moves = h.moves in let within = h.within in absurd (omega arith)
  forms_some (suc more) i low near = by_simple (λ k within far. forms_some more k within far) (simple text ts i) refl (simple_ends text ts i low)
    where
      by_simple : ((k : ℕ) → k ≤ length ts → length ts ≤ k + more → FormsAt text ts k) → (o : Option FormRead) → simple text ts i ≡ o → EndsForm ts i o → FormsAt text ts i
      by_simple go None e h = no_forms i low e
      by_simple go (Some r) e h =
          let moves = h.moves in
          let rest : FormsAt text ts r.end = go r.end h.within (omega arith) in
          let order = rest.1.order in
          (record { forms = r.form ∷ rest.0.forms; end = rest.0.end }, record { reads = (r.end, e, rest.1.reads); stops = rest.1.stops; order = omega arith; within = rest.1.within })

  forms_at : (i : ℕ) → i ≤ length ts → FormsAt text ts i
  forms_at i low = forms_some (length ts) i low (omega arith)

  compound_at : (l : Link) (i : ℕ) → i ≤ length ts → CompoundAt text ts l i
  compound_at l i low = by_element (element ts i) refl (element_ends text ts i)
    where
      by_forms : (r : FormsRead) → element ts i ≡ None → IsFormsRead ts (simple text ts) i r → (xs : List Form) → r.forms ≡ xs → CompoundAt text ts l i
      by_forms r e h [] none = (None, nothing text ts i r e none h)
      by_forms r e h (x ∷ xs) some = (Some (record { compound = record { link = l; element = None; prefixed = false; forms = r.forms }; end = r.end }), without_element text ts i l r e (λ z. let both : x ∷ xs ≡ [] = sym some ∙ z in cc) h)

      by_element : (o : Option ElementRead) → element ts i ≡ o → EndsElement ts i o → CompoundAt text ts l i
      by_element None e h = let f : FormsAt text ts i = forms_at i low in by_forms f.0 e f.1 f.0.forms refl
      by_element (Some x) e h =
          let f : FormsAt text ts x.end = forms_at x.end h.within in
          (Some (record { compound = record { link = l; element = x.name; prefixed = x.prefixed; forms = f.0.forms }; end = f.0.end }), with_element text ts i l x f.0 e h.moves f.1)

  further_at : (i : ℕ) → i ≤ length ts → FurtherAt text ts i
  further_at i low = by_link (combinator ts i) refl (combinator_ends text ts i low)
    where
      by_compound : (l : LinkRead) → combinator ts i ≡ Some l → i < l.end → (o : Option CompoundRead) → IsCompoundRead text ts l.link l.end o → FurtherAt text ts i
      by_compound l e moves None h = (None, no_after text ts i l e h)
      by_compound l e moves (Some r) h = (Some r, after_combinator text ts i l r e moves h)

      by_link : (o : Option LinkRead) → combinator ts i ≡ o → EndsLink ts i o → FurtherAt text ts i
      by_link None e h = (None, no_combinator text ts i e)
      by_link (Some l) e h = let c : CompoundAt text ts l.link l.end = compound_at l.link l.end h.within in by_compound l e h.moves c.0 c.1

  whole : (i : ℕ) (cs : List Compound) (j : ℕ) → IsSelector text ts i cs j → simple text ts j ≡ None → i < j → j ≤ length ts → IsFurtherRead text ts j None → WholeAt text ts i
  whole i cs j is stops order within none = (record { compounds = cs; end = j }, record { is = is; ends = record { no_simple = stops; no_further = none }; order = order; within = within })

  selector_from : (more i : ℕ) (cs : List Compound) (j : ℕ) → IsSelector text ts i cs j → simple text ts j ≡ None → i < j → j ≤ length ts → length ts ≤ j + more → WholeAt text ts i
  selector_from zero i cs j is stops order within near = let f : FurtherAt text ts j = further_at j within in by_further f.0 f.1
    where
      by_further : (o : Option CompoundRead) → IsFurtherRead text ts j o → WholeAt text ts i
      by_further None h = whole i cs j is stops order within h
      by_further (Some r) h = let moves = h.order in let inside = h.within in absurd (omega arith)
  selector_from (suc more) i cs j is stops order within near =
      let f : FurtherAt text ts j = further_at j within in
      by_further (λ ds k s e o w n. selector_from more i ds k s e o w n) f.0 f.1
    where
      by_further : ((ds : List Compound) (k : ℕ) → IsSelector text ts i ds k → simple text ts k ≡ None → i < k → k ≤ length ts → length ts ≤ k + more → WholeAt text ts i)
          → (o : Option CompoundRead) → IsFurtherRead text ts j o → WholeAt text ts i
      by_further go None h = whole i cs j is stops order within h
      by_further go (Some r) h =
          let moves = h.order in go (cs ++ r.compound ∷ []) r.end (selector_push text ts i j cs r is h) h.stops (omega arith) h.within (omega arith)

  selector_at : (i : ℕ) → i ≤ length ts → SelectorAt text ts i
  selector_at i low = let c : CompoundAt text ts link.First i = compound_at link.First i low in by_compound c.0 c.1
    where
      by_compound : (o : Option CompoundRead) → IsCompoundRead text ts link.First i o → SelectorAt text ts i
      by_compound None h = (None, h)
      by_compound (Some r) h =
          let s : WholeAt text ts i = selector_from (length ts) i (r.compound ∷ []) r.end (selector_begun text ts i r h) h.stops h.order h.within (omega arith) in
          (Some s.0, s.1)

  module _ (done : List (List Compound)) (i : ℕ) (p : IsReadUpTo text ts done i) (low : i ≤ length ts)
      (go : (next : List (List Compound)) (k : ℕ) → i < k → k ≤ length ts → IsReadUpTo text ts next k → IsReadOrNot text ts) where
    after_selector : (r : SelectorRead) → IsWholeSelector text ts i r → IsReadOrNot text ts
    after_selector r h = by_end (cases_lt (skip ts r.end) (length ts))
      where
        behind : length ts ≤ skip ts r.end → skip ts r.end ≡ length ts
        behind far = let within = skip_within ts r.end h.within in omega arith

        by_comma : skip ts r.end < length ts → (b : Bool) → stands kind.Comma ts (skip ts r.end) ≡ b → IsReadOrNot text ts
        by_comma inside true e =
            let order = h.order in
            go (done ++ r.compounds ∷ []) (skip ts (skip ts r.end + 1)) (omega (arith, skip_order ts r.end, skip_order ts (skip ts r.end + 1))) (skip_within ts (skip ts r.end + 1) (omega arith)) (went_on text ts done i r p h inside e)
        by_comma inside false e = inr (no_comma text ts done i r p h inside e)

        by_end : (skip ts r.end < length ts) ⊎ (length ts ≤ skip ts r.end) → IsReadOrNot text ts
        by_end (inl inside) = by_comma inside (stands kind.Comma ts (skip ts r.end)) refl
        by_end (inr far) = inl (done ++ r.compounds ∷ [], finished text ts done i r p h (behind far))

    list_from : IsReadOrNot text ts
    list_from = let s : SelectorAt text ts i = selector_at i low in by_selector s.0 s.1
      where
        by_selector : (o : Option SelectorRead) → IsSelectorRead text ts i o → IsReadOrNot text ts
        by_selector None h = inr (no_selector text ts done i p h)
        by_selector (Some r) h = after_selector r h

  list_some : (more : ℕ) (done : List (List Compound)) (i : ℕ) → IsReadUpTo text ts done i → i ≤ length ts → length ts ≤ i + more → IsReadOrNot text ts
  list_some zero done i p low near = list_from done i p low (λ next k moves within q. absurd (omega arith))
  list_some (suc more) done i p low near = list_from done i p low (λ next k moves within q. list_some more next k q within (omega arith))

  pub read_or_not : IsReadOrNot text ts
  read_or_not = list_some (length ts) [] (skip ts 0) (begun text ts) (skip_within ts 0 (omega arith)) (omega arith)

-- a list, or a fault
abbrev pub IsListOrFault : List ℕ → Type 0
IsListOrFault text = ((list : SelectorList) × Accepts text list) ⊎ ((f : SelectorFault) × IsFault text f)

fault_of : (text : List ℕ) (f : SelectorFault) → IsRefusal f → IsRefused text f → IsFault text f
fault_of text fault.Prefix k h = h
fault_of text fault.UnknownPseudo k h = h
fault_of text fault.Nested k h = h
fault_of text fault.OfType k h = h
fault_of text fault.Number k h = h
fault_of text fault.PseudoElement k h = h
fault_of text _ k h = absurd k

list_found : (text : List ℕ) (ts : List CssToken) (found : List (List Compound)) → Lexes text ts → Reads text ts found → IsListOrFault text
list_found text ts found h g = by_refusal (refusal found) refl
  where
    by_refusal : (o : Option SelectorFault) → refusal found ≡ o → IsListOrFault text
    by_refusal None e = inl (list_of found, record { tokens = ts; spelled = h; found = found; reads = g; allowed = e; is_list = refl })
    by_refusal (Some f) e = inr (f, fault_of text f (subst MayRefuse e (list_kind found)) (record { tokens = ts; spelled = h; found = found; reads = g; refused = e }))

spelled : (text : List ℕ) (ts : List CssToken) → Lexes text ts → IsListOrFault text
spelled text ts h = elim (read_or_not text ts) [
  | inl list ↦ list_found text ts list.0 h list.1
  | inr none ↦ inr (fault.Syntax, record { tokens = ts; spelled = h; unread = none })
]

short : (text : List ℕ) → length text ≤ most_selector → IsListOrFault text
short text fits = elim (lexes_or_stops text fits) [
  | inl tokens ↦ spelled text tokens.0 tokens.1
  | inr stops ↦ inr (fault.Text, stops)
]

pub each_list_or_fault : (text : List ℕ) → IsListOrFault text
each_list_or_fault text = elim (cases_lt most_selector (length text)) [
  | inl long ↦ inr (fault.Long, long)
  | inr fits ↦ short text fits
]
