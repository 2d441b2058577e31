-- A choice is read of its signs, where what stands in it is, and so is a negation of one piece.
use Rattle.std.proofs.Common.{◌≡◌, ℕ, suc, ◌+◌, ◌<◌, Bool, true, false, ◌&&◌, cond, List, [], ◌∷◌, ◌++◌, length, map, flat_map, refl, ◌∙◌, ap, subst, arith, length-append, inl, codes}
use Rattle.std.specs.Prelude.{◌==◌, ◌||◌, Option, Some, None, is_none}
use Rattle.css_lexer.specs.declared.tokens.CssKind.TheVariants as kind
use Rattle.css_lexer.specs.declared.tokens.CssToken.{CssToken}
use Rattle.css_lexer.specs.Spelled.{Sign, Call, Mark}
use Rattle.text_base.specs.declared.reasons.SelectorFault.TheVariants as fault
use Rattle.css_selectors.specs.declared.selector.Compound.{Compound}
use Rattle.css_selectors.specs.declared.selector.Link.TheVariants as link
use Rattle.css_selectors.specs.declared.selector.Nth.{Nth}
use Rattle.css_selectors.specs.declared.selector.Nth.TheVariants as nth
use Rattle.css_selectors.specs.declared.selector.Pseudo.{Pseudo}
use Rattle.css_selectors.specs.declared.selector.Pseudo.TheVariants as pseudo
use Rattle.css_selectors.specs.declared.selector.Relative.{Relative}
use Rattle.css_selectors.specs.declared.selector.Simple.{Simple}
use Rattle.css_selectors.specs.declared.selector.Test.{Test}
use Rattle.css_selectors.specs.WellMade.{FitsKind, FitsPseudo}
use Rattle.css_parser.specs.declared.pieces.Plain.{Plain}
use Rattle.css_parser.specs.declared.pieces.Piece.TheVariants as piece
use Rattle.css_parser.specs.declared.pieces.Word.{Word}
use Rattle.css_parser.specs.declared.pieces.Word.TheVariants as word
use Rattle.css_parser.specs.declared.pieces.Form.{Form}
use Rattle.css_parser.specs.declared.pieces.Form.TheVariants as form
use Rattle.css_parser.specs.declared.pieces.FormsRead.{FormsRead}
use Rattle.css_parser.specs.declared.pieces.Inner.{Inner, out-Inner}
use Rattle.css_parser.specs.declared.pieces.InnersRead.{InnersRead}
use Rattle.css_parser.specs.declared.pieces.ListRead.{ListRead}
use Rattle.css_parser.specs.declared.pieces.Member.{Member}
use Rattle.css_parser.specs.Places.{code_at, stands, text_at, skip}
use Rattle.css_parser.specs.Simples.{word_called}
use Rattle.css_parser.specs.Choices.{is_has, form_read, one_read, choice_read, word_at, inner_read, member_of, member_at, members, deep, simple_by}
use Rattle.css_parser.specs.inner.Reading.{IsFormsRead}
use Rattle.css_parser.specs.Normal.{called}
use Rattle.css_parser.specs.Refusals.{if_refused, or_else, is_of_type, needs_element, is_only_of_type, forms_refusal, inners_refusal, members_refusal}
use Rattle.css_parser.specs.Values.{FormValue, test_of, simple_of, alone_in, alone_of, only_of, choice_value, form_value, inner_value, member_value, relative_of, compounds_in}
use Rattle.css_parser.specs.Writable.{IsNoElement}
use Rattle.css_parser.proofs.ChoiceLemmas.{at_piece, kept_at}
use Rattle.css_parser.proofs.CopyLemmas.{choice_tail}
use Rattle.css_parser.proofs.MemberLemmas.{list_begun, list_last, inner_forms, member_other}
use Rattle.css_parser.proofs.NormalForms.{Around, Says, quiet, layer_is, layer_allowed}
use Rattle.css_parser.proofs.NormalLinks.{next_stops, next_skip}
use Rattle.css_parser.proofs.NormalMembers.{AllGiven, parts_in, GivesCompound}
use Rattle.css_parser.proofs.NormalPieces.{ascii_bytes, IsPlain, no_element}
use Rattle.css_parser.proofs.NormalPlaces.{AreAt, code_is, text_is, at_within, moved, halves}
use Rattle.css_parser.proofs.NormalRelatives.{GivesRelative}
use Rattle.css_parser.proofs.RefusalLemmas.{one_refusal, choice_refusal, member_is}
use Rattle.css_parser.proofs.ValueLemmas as values

-- ---- what is given of a list

pub given_compounds : (around : Around) (cs : List Compound) (ms : List Member) → AllGiven Compound (GivesCompound around) cs ms → flat_map compounds_in ms ≡ cs
given_compounds around [] [] h = refl
given_compounds around [] (m ∷ ms) h = absurd h
given_compounds around (c ∷ cs) [] h = absurd h
given_compounds around (c ∷ cs) (m ∷ ms) h = ap (λ v. v ++ flat_map compounds_in ms) h.0.0 ∙ ap (λ v. c ∷ v) (given_compounds around cs ms h.1)

pub given_allowed : (around : Around) (cs : List Compound) (ms : List Member) → AllGiven Compound (GivesCompound around) cs ms → members_refusal (is_none around) ms ≡ None
given_allowed around [] [] h = refl
given_allowed around [] (m ∷ ms) h = absurd h
given_allowed around (c ∷ cs) [] h = absurd h
given_allowed around (c ∷ cs) (m ∷ ms) h = ap (λ o. or_else o (members_refusal (is_none around) ms)) h.0.1 ∙ given_allowed around cs ms h.1

pub given_together : (around : Around) (cs : List Compound) (ms : List Member) → AllGiven Compound (GivesCompound around) cs ms → IsNoElement cs → only_of (map member_value ms) ≡ None
given_together around [] [] h some = refl
given_together around [] (m ∷ ms) h some = absurd h
given_together around (c ∷ cs) [] h some = absurd h
given_together around (c ∷ []) (m ∷ []) h some = h.0.2 some
given_together around (c ∷ []) (m ∷ l ∷ ms) h some = absurd h.1
given_together around (c ∷ d ∷ cs) (m ∷ []) h some = absurd h.1
given_together around (c ∷ d ∷ cs) (m ∷ l ∷ ms) h some = refl

pub given_relatives : (rs : List Relative) (ms : List Member) → AllGiven Relative GivesRelative rs ms → map relative_of ms ≡ rs
given_relatives [] [] h = refl
given_relatives [] (m ∷ ms) h = absurd h
given_relatives (r ∷ rs) [] h = absurd h
given_relatives (r ∷ rs) (m ∷ ms) h = ap (λ q. q ∷ map relative_of ms) h.0.0 ∙ ap (λ v. r ∷ v) (given_relatives rs ms h.1)

pub relatives_allowed : (rs : List Relative) (ms : List Member) → AllGiven Relative GivesRelative rs ms → members_refusal true ms ≡ None
relatives_allowed [] [] h = refl
relatives_allowed [] (m ∷ ms) h = absurd h
relatives_allowed (r ∷ rs) [] h = absurd h
relatives_allowed (r ∷ rs) (m ∷ ms) h = ap (λ o. or_else o (members_refusal true ms)) h.0.1 ∙ relatives_allowed rs ms h.1

-- ---- what needs an element's name

pub kind_free : (around : Around) (k : Nth) → FitsKind around k → (is_of_type k && is_none around) ≡ false
kind_free around nth.Child h = refl
kind_free around nth.LastChild h = refl
kind_free None nth.OfType h = cc
kind_free (Some n) nth.OfType h = refl
kind_free None nth.LastOfType h = cc
kind_free (Some n) nth.LastOfType h = refl

pub pseudo_free : (around : Around) (p : Pseudo) → FitsPseudo around p → (is_only_of_type p && is_none around) ≡ false
pseudo_free None pseudo.OnlyOfType h = cc
pseudo_free (Some n) pseudo.OnlyOfType h = refl
pseudo_free around _ h = refl

outside : (within : Bool) → (within || false) ≡ within
outside true = refl
outside false = refl

pub called_length : (name : List ℕ) (ss : List Sign) (i : ℕ) → i + 2 + length ss + 1 ≡ i + length (called name ss)
called_length name ss i = omega (arith, length-append ss (Mark kind.CloseRound ∷ []))

module _ (text : List ℕ) (ts : List CssToken) (no_bar : (i : ℕ) → stands kind.Bar ts i ≡ false) where
  -- ---- choices

  word_there : (i : ℕ) (name : List ℕ) (w : Word) → AreAt text ts i (Mark kind.Colon ∷ Call name ∷ []) → word_called (text_at ts (i + 1)) ≡ Some w → word_at ts i ≡ Some w
  unfolding word_at
  word_there i name w h e =
      let c : code_at ts i ≡ 15 = code_is text ts i (Mark kind.Colon) h.0 in
      let f : code_at ts (i + 1) ≡ 2 = code_is text ts (i + 1) (Call name) h.1.0 in
      rw (c, f) e

  front : (i : ℕ) (name : List ℕ) (argument : List Sign) → AreAt text ts i (called name argument) → AreAt text ts i (Mark kind.Colon ∷ Call name ∷ [])
  front i name argument h = (h.0, (h.1.0, tt))

  pub inside : (i : ℕ) (name : List ℕ) (argument : List Sign) → AreAt text ts i (called name argument) → AreAt text ts (i + 2) (argument ++ Mark kind.CloseRound ∷ [])
  inside i name argument h = moved text ts (i + 1 + 1) (i + 2) (argument ++ Mark kind.CloseRound ∷ []) (omega arith) h.1.1

  pub is_word : (i : ℕ) (argument : List Sign) → AreAt text ts i (called (codes "is") argument) → word_at ts i ≡ Some word.Is
  unfolding word_called
  is_word i argument h = word_there i (codes "is") word.Is (front i (codes "is") argument h) (ap word_called (text_is text ts (i + 1) (Call (codes "is")) h.1.0 ∙ ascii_bytes (codes "is") refl))

  pub where_word : (i : ℕ) (argument : List Sign) → AreAt text ts i (called (codes "where") argument) → word_at ts i ≡ Some word.Where
  unfolding word_called
  where_word i argument h = word_there i (codes "where") word.Where (front i (codes "where") argument h) (ap word_called (text_is text ts (i + 1) (Call (codes "where")) h.1.0 ∙ ascii_bytes (codes "where") refl))

  pub not_word : (i : ℕ) (argument : List Sign) → AreAt text ts i (called (codes "not") argument) → word_at ts i ≡ Some word.Not
  unfolding word_called
  not_word i argument h = word_there i (codes "not") word.Not (front i (codes "not") argument h) (ap word_called (text_is text ts (i + 1) (Call (codes "not")) h.1.0 ∙ ascii_bytes (codes "not") refl))

  pub has_word : (i : ℕ) (argument : List Sign) → AreAt text ts i (called (codes "has") argument) → word_at ts i ≡ Some word.Has
  unfolding word_called
  has_word i argument h = word_there i (codes "has") word.Has (front i (codes "has") argument h) (ap word_called (text_is text ts (i + 1) (Call (codes "has")) h.1.0 ∙ ascii_bytes (codes "has") refl))

  abbrev list_to : List Member → ℕ → Option ListRead
  list_to ms j = Some (record { list = ms; end = j })

  pub choice_says : (n : ℕ) (within : Bool) (around : Around) (i : ℕ) (w : Word) (ms : List Member) (j : ℕ) (x : Simple) → word_at ts i ≡ Some w → (is_has w && within) ≡ false
      → members text ts (simple_by text ts n (within || is_has w)) w (i + 2) ≡ list_to ms j → choice_value w (map member_value ms) ≡ x → members_refusal (is_has w || is_none around) ms ≡ None
      → Says text ts no_bar (suc n) within around i x j
  choice_says n within around i w ms j x e first found value allowed = record {
    form = form.Choice w ms;
    read = kept_at text ts n within i w e
        ∙ ap (λ b. cond b (deep text ts i) (choice_read w (members text ts (simple_by text ts n (within || is_has w)) w (i + 2)))) first
        ∙ ap (choice_read w) found;
    simples = values.choice_simples w ms ∙ ap (λ v. v ∷ []) value;
    allowed = λ last. choice_refusal (is_none around) last w ms ∙ allowed;
    tail = λ old. choice_tail old w ms;
  }

  -- of a choice that is no `has`, what stands in it is read as it is
  pub plain_choice : (n : ℕ) (within : Bool) (around : Around) (i : ℕ) (w : Word) (ms : List Member) (j : ℕ) (x : Simple) → is_has w ≡ false → word_at ts i ≡ Some w
      → members text ts (simple_by text ts n within) w (i + 2) ≡ list_to ms j → choice_value w (map member_value ms) ≡ x → members_refusal (is_none around) ms ≡ None
      → Says text ts no_bar (suc n) within around i x j
  plain_choice n within around i w ms j x plain e found value allowed =
      choice_says n within around i w ms j x e (ap (λ b. b && within) plain)
      (ap (λ b. members text ts (simple_by text ts n b) w (i + 2)) (ap (λ b. within || b) plain ∙ outside within) ∙ found)
      value (ap (λ b. members_refusal (b || is_none around) ms) plain ∙ allowed)

  -- ---- one member that is negated by itself

  pub alone_says : (n : ℕ) (within : Bool) (around : Around) (i : ℕ) (inner : Inner) (j : ℕ) (t : Test) → word_at ts i ≡ Some word.Not
      → member_at text ts (simple_by text ts n within) word.Not (i + 2) ≡ Some (record { inners = inner ∷ []; end = j }) → skip ts (i + 2) ≡ i + 2 → i + 2 < length ts → code_at ts j ≡ 18
      → (inner_value inner).alone ≡ Some t → inners_refusal (is_none around) (inner ∷ []) ≡ None → Says text ts no_bar (suc n) within around i (simple_of true t) (j + 1)
  alone_says n within around i inner j t e read here low close alone allowed =
      let f = simple_by text ts n within in
      let m : Member = member_of (inner ∷ []) in
      let r : InnersRead = record { inners = inner ∷ []; end = j } in
      let stays : skip ts j ≡ j = next_skip text ts no_bar j (inl close) in
      let only : only_of (map member_value (m ∷ [])) ≡ Some t = ap alone_of (values.member_is m ∙ ap (map inner_value) (parts_in (inner ∷ []))) ∙ alone in
      plain_choice n within around i word.Not (m ∷ []) (j + 1) (simple_of true t) refl e
      (list_last text ts f word.Not (i + 2) [] (i + 2) r (list_begun text ts f word.Not (i + 2)) low (ap (member_at text ts f word.Not) here ∙ read)
      (ap (stands kind.CloseRound ts) stays ∙ ap (λ c. c == 18) close) ∙ ap (λ k. list_to (m ∷ []) (k + 1)) stays)
      (values.negates_alone (m ∷ []) t only)
      (ap (λ o. or_else o None) (member_is (is_none around) m ∙ ap (inners_refusal (is_none around)) (parts_in (inner ∷ [])) ∙ allowed))

  pub not_plain : (n : ℕ) (within : Bool) (around : Around) (i : ℕ) (p : Plain) (ss : List Sign) → AreAt text ts i (called (codes "not") ss) → IsPlain text ts no_bar (i + 2) p (i + 2 + length ss)
      → (needs_element p && is_none around) ≡ false → Says text ts no_bar (suc n) within around i (simple_of true (test_of p)) (i + length (called (codes "not") ss))
  not_plain n within around i p ss at there fit =
      let k = i + 2 in
      let j = k + length ss in
      let f = simple_by text ts n within in
      let close = (halves text ts k ss (Mark kind.CloseRound ∷ []) (inside i (codes "not") ss at)).1.0 in
      let c : code_at ts j ≡ 18 = code_is text ts j (Mark kind.CloseRound) close in
      let low = at_within text ts j (Mark kind.CloseRound) close in
      let x : Form = form.One (piece.Plain p) in
      let r : FormsRead = record { forms = x ∷ []; end = j } in
      let inner : Inner = (inner_read link.First false None false r).inner in
      let one : f k ≡ Some (form_read x j) = at_piece text ts n within k there.no_word ∙ ap one_read there.reads in
      let reads : IsFormsRead ts f k r = record { reads = (j, one, refl); stops = quiet text ts no_bar n within j (next_stops text ts no_bar j (inl c)); order = omega arith; within = omega arith } in
      let d = layer_is text ts no_bar link.First None false r in
      let member = member_other text ts f word.Not k (record { inner = inner; end = j }) refl
      (inner_forms text ts n within link.First k r (no_element text ts no_bar k there.no_name) (omega arith) reads (λ e. cc)) in
      let alone : (inner_value inner).alone ≡ Some (test_of p) =
      values.alone_is inner ∙ ap (λ b. alone_in b (out-Inner inner).element (map form_value (out-Inner inner).forms)) d.named
      ∙ ap (λ ys. alone_in false (out-Inner inner).element (map form_value ys)) d.forms
      ∙ ap (λ (v : FormValue). v.alone) (values.one_value (piece.Plain p)) in
      let allowed : forms_refusal (is_none around) false (x ∷ []) ≡ None =
      ap (λ o. or_else o None) (one_refusal (is_none around) false (piece.Plain p) ∙ ap (λ b. if_refused b fault.OfType) fit) in
      subst (Says text ts no_bar (suc n) within around i (simple_of true (test_of p))) (called_length (codes "not") ss i)
      (alone_says n within around i inner j (test_of p) (not_word i ss at) member there.no_space (omega arith) c alone
      (ap (λ o. or_else o None) (layer_allowed text ts no_bar link.First None false (x ∷ []) inner around d allowed)))
