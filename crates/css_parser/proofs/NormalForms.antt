-- Simple selectors in a row and compounds are read of their signs, where each simple selector is.
use Rattle.std.proofs.Common.{◌≡◌, ◌≢◌, ℕ, ◌+◌, ◌<◌, ◌≤◌, Bool, true, false, ◌&&◌, List, [], ◌∷◌, ◌++◌, length, map, flat_map, fold, refl, sym, ◌∙◌, ap, subst, arith, length-append}
use Rattle.std.specs.List.{AllByRecursion}
use Rattle.std.specs.Prelude.{◌==◌, Option, Some, None, All, is_none}
use Rattle.std.proofs.lemmas.List.Elements.{All-head, All-tail}
use Rattle.css_lexer.specs.declared.tokens.CssKind.TheVariants as kind
use Rattle.css_lexer.specs.declared.tokens.CssToken.{CssToken}
use Rattle.text_base.specs.Strings.{is_empty}
use Rattle.text_base.specs.declared.reasons.SelectorFault.TheVariants as fault
use Rattle.css_selectors.specs.declared.selector.Compound as choice
use Rattle.css_selectors.specs.declared.selector.Link.{Link}
use Rattle.css_selectors.specs.declared.selector.Part.{Part, roll-Part}
use Rattle.css_selectors.specs.declared.selector.Simple.{Simple}
use Rattle.css_selectors.specs.declared.selector.Tail.{Tail}
use Rattle.css_selectors.specs.declared.selector.Test.TheVariants as test
use Rattle.css_selectors.specs.WellMade.{innermost}
use Rattle.css_parser.specs.declared.pieces.Plain.{Plain}
use Rattle.css_parser.specs.declared.pieces.Piece.TheVariants as piece
use Rattle.css_parser.specs.declared.pieces.Form.{Form}
use Rattle.css_parser.specs.declared.pieces.Form.TheOpen as open_
use Rattle.css_parser.specs.declared.pieces.Form.TheVariants as form
use Rattle.css_parser.specs.declared.pieces.Form.TheViews as views
use Rattle.css_parser.specs.declared.pieces.FormsRead.{FormsRead}
use Rattle.css_parser.specs.declared.pieces.Inner.{Inner, out-Inner}
use Rattle.css_parser.specs.declared.pieces.Member.{Member}
use Rattle.css_parser.specs.Places.{code_at, stands}
use Rattle.css_parser.specs.Simples.{piece_at}
use Rattle.css_parser.specs.Choices.{form_read, one_read, Forms, inner_read, inner_at, simple_by}
use Rattle.css_parser.specs.Lists.{tail_by}
use Rattle.css_parser.specs.Normal.{element_signs, simple_signs}
use Rattle.css_parser.specs.Refusals.{if_refused, or_else, needs_element, form_refusal, forms_refusal, inner_refusal}
use Rattle.css_parser.specs.Values.{FormValue, test_of, simple_of, alone_in, form_value, inner_value, form_simples, compound_of, part_of}
use Rattle.css_parser.proofs.ChoiceLemmas.{at_piece}
use Rattle.css_parser.proofs.CopyLemmas.{one_tail}
use Rattle.css_parser.proofs.MemberLemmas.{inner_named}
use Rattle.css_parser.proofs.NormalPieces.{IsPlain, element_is, read_of, no_word_there}
use Rattle.css_parser.proofs.NormalPlaces.{AreAt, halves}
use Rattle.css_parser.proofs.PlaceLemmas.{code_within}
use Rattle.css_parser.proofs.RefusalLemmas.{one_refusal, inner_is}
use Rattle.css_parser.proofs.ValueFits.{still_none}
use Rattle.css_parser.proofs.ValueLemmas.{one_value, compound_is, part_is, alone_is}

-- a name, or none
abbrev pub Around : Type 0
Around = Option (List ℕ)

module _ (text : List ℕ) (ts : List CssToken) (no_bar : (i : ℕ) → stands kind.Bar ts i ≡ false) where
  -- a token with which no simple selector begins
  pub record IsStop (j : ℕ) : Type 0 where
    pub number : ℕ
    pub is : code_at ts j ≡ number
    pub some : 0 < number
    pub no_hash : (number == 4) ≡ false
    pub no_dot : (number == 14) ≡ false
    pub no_square : (number == 16) ≡ false
    pub no_colon : (number == 15) ≡ false
    pub no_tail : (number == 12) ≡ false

  no_piece : (j : ℕ) (h : IsStop j) → piece_at text ts j ≡ None
  unfolding piece_at
  no_piece j h = rw (h.is, h.no_hash, h.no_dot, h.no_square, h.no_colon, h.no_tail) refl

  pub quiet : (n : ℕ) (within : Bool) (j : ℕ) → IsStop j → simple_by text ts n within j ≡ None
  quiet n within j h = at_piece text ts n within j (no_word_there text ts no_bar j h.number h.is h.no_colon) ∙ ap one_read (no_piece j h)

  pub stop_within : (j : ℕ) → IsStop j → j < length ts
  stop_within j h = let some = h.some in let is = h.is in code_within ts j (omega arith)

  -- ---- one simple selector

  -- read from i up to j, where it may stand and is no tail
  pub record Says (n : ℕ) (within : Bool) (around : Around) (i : ℕ) (x : Simple) (j : ℕ) : Type 0 where
    pub form : Form
    pub read : simple_by text ts n within i ≡ Some (form_read form j)
    pub simples : form_simples form ≡ x ∷ []
    pub allowed : (last : Bool) → form_refusal (is_none around) last form ≡ None
    pub tail : (old : Tail) → tail_by old form ≡ old

  pub one_says : (n : ℕ) (within : Bool) (around : Around) (i : ℕ) (p : Plain) (j : ℕ) → IsPlain text ts no_bar i p j → (needs_element p && is_none around) ≡ false → Says n within around i (simple_of false (test_of p)) j
  one_says n within around i p j h fit = record {
    form = form.One (piece.Plain p);
    read = at_piece text ts n within i h.no_word ∙ ap one_read h.reads;
    simples = ap (λ (v : FormValue). v.simples) (one_value (piece.Plain p));
    allowed = λ last. one_refusal (is_none around) last (piece.Plain p) ∙ ap (λ b. if_refused b fault.OfType) fit;
    tail = λ old. one_tail old (piece.Plain p);
  }

  -- ---- simple selectors in a row

  pub record SaysForms (n : ℕ) (within : Bool) (around : Around) (i : ℕ) (xs : List Simple) (j : ℕ) : Type 0 where
    pub forms : List Form
    pub reads : Forms (simple_by text ts n within) i forms j
    pub simples : flat_map form_simples forms ≡ xs
    pub none : xs ≡ [] → forms ≡ []
    pub each : AllByRecursion (λ (x : Form). (last : Bool) → form_refusal (is_none around) last x ≡ None) forms
    pub allowed : (last : Bool) → forms_refusal (is_none around) last forms ≡ None
    pub tail : (old : Tail) → fold tail_by old forms ≡ old

  module _ (n : ℕ) (within : Bool) (around : Around) (Fits : Simple → Type 0)
      (says : (k : ℕ) (x : Simple) → Fits x → AreAt text ts k (simple_signs x) → Says n within around k x (k + length (simple_signs x))) where
    pub forms_say : (i : ℕ) (xs : List Simple) → All Fits xs → AreAt text ts i (flat_map simple_signs xs) → SaysForms n within around i xs (i + length (flat_map simple_signs xs))
    forms_say i [] h at = record { forms = []; reads = (let z : i ≡ i + 0 = omega arith in z); simples = refl; none = λ e. refl; each = tt; allowed = λ last. refl; tail = λ old. refl }
    forms_say i (x ∷ xs) h at =
        let parts = halves text ts i (simple_signs x) (flat_map simple_signs xs) at in
        let first = says i x (All-head Fits x xs h) parts.0 in
        let rest = forms_say (i + length (simple_signs x)) xs (All-tail Fits x xs h) parts.1 in
        let end : i + length (simple_signs x) + length (flat_map simple_signs xs) ≡ i + length (flat_map simple_signs (x ∷ xs)) = omega (arith, length-append (simple_signs x) (flat_map simple_signs xs)) in
        record {
          forms = first.form ∷ rest.forms;
          reads = (i + length (simple_signs x), first.read, subst (λ m. Forms (simple_by text ts n within) (i + length (simple_signs x)) rest.forms m) end rest.reads);
          simples = ap (λ v. v ++ flat_map form_simples rest.forms) first.simples ∙ ap (λ v. x ∷ v) rest.simples;
          none = λ e. cc;
          each = (first.allowed, rest.each);
          allowed = λ last.
              ap (λ o. or_else o (forms_refusal (is_none around) last rest.forms)) (first.allowed (last && is_empty rest.forms)) ∙ rest.allowed last;
          tail = λ old. ap (λ t. fold tail_by t rest.forms) (first.tail old) ∙ rest.tail old;
        }

  -- ---- a compound of a choice

  -- an element, and simple selectors behind it
  pub record SaysInner (n : ℕ) (within : Bool) (l : Link) (around : Around) (i : ℕ) (e : Around) (xs : List Simple) (j : ℕ) : Type 0 where
    pub inner : Inner
    pub read : inner_at text ts (simple_by text ts n within) l i ≡ Some (record { inner = inner; end = j })
    pub compound : compound_of inner ≡ choice.roll-Compound (record { element = e; simples = xs })
    pub part : part_of inner ≡ roll-Part (record { link = l; element = e; simples = xs })
    pub allowed : inner_refusal (is_none around) inner ≡ None
    pub more : xs ≢ [] → (inner_value inner).alone ≡ None
    pub lone : xs ≡ [] → (inner_value inner).alone ≡ Some (test.Element e)

  abbrev InnerLayer : Type 0
  InnerLayer = open_.Inner-F Form Inner Member

  some_more : (e : Around) (xs : List Form) → xs ≢ [] → alone_in true e (map form_value xs) ≡ None
  some_more e [] h = absurd (h refl)
  some_more e (x ∷ xs) h = refl

  -- forms that give no simple selector, each of which gives one, are none
  none_given : (n : ℕ) (within : Bool) (around : Around) (i : ℕ) (xs : List Simple) (j : ℕ) (g : SaysForms n within around i xs j) → xs ≢ [] → g.forms ≢ []
  none_given n within around i xs j g some e = some (sym g.simples ∙ ap (flat_map form_simples) e)

  pub record IsLayer (l : Link) (e : Around) (b : Bool) (xs : List Form) (inner : Inner) : Type 0 where
    pub link : (out-Inner inner).link ≡ l
    pub element : (out-Inner inner).element ≡ e
    pub named : (out-Inner inner).named ≡ b
    pub prefixed : (out-Inner inner).prefixed ≡ false
    pub forms : (out-Inner inner).forms ≡ xs

  pub layer_is : (l : Link) (e : Around) (named : Bool) (r : FormsRead) → IsLayer l e named r.forms (inner_read l named e false r).inner
  layer_is l e named r =
      let d = views.out-roll-Inner (record { link = l; named = named; element = e; prefixed = false; forms = r.forms }) in
      record {
        link = ap (λ (x : InnerLayer). x.link) d;
        element = ap (λ (x : InnerLayer). x.element) d;
        named = ap (λ (x : InnerLayer). x.named) d;
        prefixed = ap (λ (x : InnerLayer). x.prefixed) d;
        forms = ap (λ (x : InnerLayer). x.forms) d;
      }

  rolled_compound : Around → List Simple → choice.Compound
  rolled_compound e xs = choice.roll-Compound (record { element = e; simples = xs })

  rolled_part : Link → Around → List Simple → Part
  rolled_part l e xs = roll-Part (record { link = l; element = e; simples = xs })

  pub layer_allowed : (l : Link) (e : Around) (named : Bool) (forms : List Form) (inner : Inner) (around : Around) → IsLayer l e named forms inner → forms_refusal (is_none (innermost around e)) false forms ≡ None → inner_refusal (is_none around) inner ≡ None
  layer_allowed l e named forms inner around h g =
      inner_is (is_none around) inner
      ∙ ap (λ b. or_else (if_refused b fault.Prefix) (forms_refusal (is_none around && is_none (out-Inner inner).element) false (out-Inner inner).forms)) h.prefixed
      ∙ ap (λ d. forms_refusal (is_none around && is_none d) false (out-Inner inner).forms) h.element
      ∙ ap (forms_refusal (is_none around && is_none e) false) h.forms
      ∙ ap (λ b. forms_refusal b false forms) (still_none around e) ∙ g

  -- the end of what stands there
  pub inner_says : (n : ℕ) (within : Bool) (l : Link) (around : Around) (i : ℕ) (e : Around) (xs : List Simple) (j : ℕ) → AreAt text ts i (element_signs e) → SaysForms n within (innermost around e) (i + 1) xs j → i + 1 ≤ j → IsStop j
      → SaysInner n within l around i e xs j
  unfolding rolled_compound rolled_part
  inner_says n within l around i e xs j at forms low stop =
      let r : FormsRead = record { forms = forms.forms; end = j } in
      let x : Inner = (inner_read l true e false r).inner in
      let inside = stop_within j stop in
      let d = layer_is l e true r in
      record {
        inner = x;
        read = inner_named text ts n within l i (read_of e (i + 1)) r (element_is text ts no_bar i e at) (omega arith)
            (record { reads = forms.reads; stops = quiet n within j stop; order = low; within = omega arith });
        compound = compound_is x ∙ ap (λ d. rolled_compound d (flat_map form_simples (out-Inner x).forms)) d.element
            ∙ ap (λ ys. rolled_compound e (flat_map form_simples ys)) d.forms ∙ ap (rolled_compound e) forms.simples;
        part = part_is x ∙ ap (λ k. rolled_part k (out-Inner x).element (flat_map form_simples (out-Inner x).forms)) d.link
            ∙ ap (λ d. rolled_part l d (flat_map form_simples (out-Inner x).forms)) d.element
            ∙ ap (λ ys. rolled_part l e (flat_map form_simples ys)) d.forms ∙ ap (rolled_part l e) forms.simples;
        allowed = layer_allowed l e true forms.forms x around d (forms.allowed false);
        more = λ some.
            alone_is x ∙ ap (λ b. alone_in b (out-Inner x).element (map form_value (out-Inner x).forms)) d.named
            ∙ ap (λ ys. alone_in true (out-Inner x).element (map form_value ys)) d.forms
            ∙ some_more (out-Inner x).element forms.forms (none_given n within (innermost around e) (i + 1) xs j forms some);
        lone = λ none.
            alone_is x ∙ ap (λ b. alone_in b (out-Inner x).element (map form_value (out-Inner x).forms)) d.named
            ∙ ap (λ ys. alone_in true (out-Inner x).element (map form_value ys)) (d.forms ∙ forms.none none)
            ∙ ap (λ a. Some (test.Element a)) d.element;
      }
