-- Each simple selector is read of its signs.
use Rattle.std.proofs.Common.{◌≡◌, ℕ, zero, suc, ◌+◌, ◌<◌, Bool, true, false, ◌&&◌, cond, List, [], ◌∷◌, ◌++◌, length, map, flat_map, refl, sym, ◌∙◌, ap, subst, arith, append-nil, length-append, inl, codes, ℤ}
use Rattle.std.specs.Prelude.{Some, None, All, is_none}
use Rattle.std.proofs.lemmas.List.Elements.{All-nil}
use Rattle.css_lexer.specs.declared.tokens.CssKind.TheVariants as kind
use Rattle.css_lexer.specs.declared.tokens.CssToken.{CssToken}
use Rattle.css_lexer.specs.Spelled.{Sign, Hash, Name, Quoted, Mark}
use Rattle.css_selectors.specs.declared.selector.Compound.{Compound, out-Compound}
use Rattle.css_selectors.specs.declared.selector.Link.TheVariants as link
use Rattle.css_selectors.specs.declared.selector.Nth.{Nth}
use Rattle.css_selectors.specs.declared.selector.Op.{Op}
use Rattle.css_selectors.specs.declared.selector.Pseudo.{Pseudo}
use Rattle.css_selectors.specs.declared.selector.Relative.{Relative}
use Rattle.css_selectors.specs.declared.selector.Simple.{Simple}
use Rattle.css_selectors.specs.declared.selector.Test.{Test, out-Test, roll-Test}
use Rattle.css_selectors.specs.declared.selector.Test.TheOpen as open_
use Rattle.css_selectors.specs.declared.selector.Test.TheVariants as test
use Rattle.css_selectors.specs.declared.selector.Test.TheViews as test_views
use Rattle.css_selectors.specs.declared.selector.Weight.{Weight}
use Rattle.css_selectors.specs.declared.selector.Weight.TheVariants as weight
use Rattle.css_selectors.specs.WellMade.{FitsTest, FitsSimple, FitsOp, FitsKind, FitsPseudo, IsSmall, Nowhere, innermost}
use Rattle.css_parser.specs.declared.pieces.Plain.{Plain}
use Rattle.css_parser.specs.declared.pieces.Plain.TheVariants as plain
use Rattle.css_parser.specs.declared.pieces.Word.{Word}
use Rattle.css_parser.specs.declared.pieces.Word.TheVariants as word
use Rattle.css_parser.specs.declared.pieces.Inner.{Inner}
use Rattle.css_parser.specs.declared.pieces.InnerRead.{InnerRead}
use Rattle.css_parser.specs.Places.{code_at, stands, skip}
use Rattle.css_parser.specs.Choices.{is_has, simple_by}
use Rattle.css_parser.specs.Normal.{element_signs, called, listed, attribute_signs, nth_name, line_signs, pseudo_name, weight_name, TestSigns, plain_signs, compound_signs, relative_signs, simple_signs}
use Rattle.css_parser.specs.Refusals.{or_else, needs_element}
use Rattle.css_parser.specs.Values.{test_of, simple_of}
use Rattle.css_parser.specs.Writable.{HasRoom, WritesTest, WritesSimple, IsNoElement, Nothing}
use Rattle.css_parser.proofs.MemberLemmas.{list_begun, member_other}
use Rattle.css_parser.proofs.NormalChoices.{given_compounds, given_allowed, given_together, given_relatives, relatives_allowed, kind_free, pseudo_free, called_length, inside, is_word, where_word, not_word, has_word, choice_says, plain_choice, alone_says, not_plain}
use Rattle.css_parser.proofs.NormalForms.{Around, Says, one_says, IsStop}
use Rattle.css_parser.proofs.NormalLinks.{element_length, next_stops, element_code, element_skip}
use Rattle.css_parser.proofs.NormalMembers.{body_says, GivesCompound, compound_says, SaysMembers, members_say}
use Rattle.css_parser.proofs.NormalPieces.{IsPlain, id_is, class_is, attribute_is, nth_is, pseudo_is, contains_is, lang_is}
use Rattle.css_parser.proofs.NormalPlaces.{AreAt, code_is, at_within, halves}
use Rattle.css_parser.proofs.NormalRelatives.{GivesRelative, IsFitRelative, relative_says, relative_some, relative_starts}
use Rattle.css_parser.proofs.NormalSigns.{Layer, layer_signs, simple_is, compound_is}
use Rattle.css_parser.proofs.ValueLemmas as values

module _ (text : List ℕ) (ts : List CssToken) (no_bar : (i : ℕ) → stands kind.Bar ts i ≡ false) where
  -- ---- with each simple selector one choice further in

  module _ (n : ℕ) (Fits : Bool → Around → Simple → Type 0)
      (says : (within : Bool) (around : Around) (k : ℕ) (x : Simple) → Fits within around x → AreAt text ts k (simple_signs x) → Says text ts no_bar n within around k x (k + length (simple_signs x))) where
    not_element : (within : Bool) (around : Around) (i : ℕ) (e : Around) → AreAt text ts i (called (codes "not") (element_signs e)) → Says text ts no_bar (suc n) within around i (simple_of true (test.Element e)) (i + length (called (codes "not") (element_signs e)))
    not_element within around i e at =
        let k = i + 2 in
        let ss = element_signs e in
        let j = k + length ss in
        let f = simple_by text ts n within in
        let cut = halves text ts k ss (Mark kind.CloseRound ∷ []) (inside text ts no_bar i (codes "not") ss at) in
        let close = cut.1.0 in
        let c : code_at ts j ≡ 18 = code_is text ts j (Mark kind.CloseRound) close in
        let low = at_within text ts j (Mark kind.CloseRound) close in
        let whole : ss ++ [] ≡ ss = append-nil ss in
        let inner = body_says text ts no_bar n within (Fits within) (says within) link.First around k e [] (All-nil (Fits within (innermost around e)))
        (subst (AreAt text ts k) (sym whole) cut.0)
        (subst (λ xs. IsStop text ts no_bar (k + length xs)) (sym whole) (next_stops text ts no_bar j (inl c))) in
        let member = member_other text ts f word.Not k (to inner.inner j) refl (inner.read ∙ ap (λ (xs : List Sign). Some (to inner.inner (k + length xs))) whole) in
        subst (Says text ts no_bar (suc n) within around i (simple_of true (test.Element e))) (called_length (codes "not") ss i)
        (alone_says text ts no_bar n within around i inner.inner j (test.Element e) (not_word text ts no_bar i ss at) member (element_skip text ts no_bar k (element_code text ts no_bar k e cut.0)) (omega arith) c (inner.lone refl)
        (ap (λ o. or_else o None) inner.allowed))
      where
        to : Inner → ℕ → InnerRead
        to x m = record { inner = x; end = m }

    -- compounds
    abbrev IsFit : Bool → Around → Compound → Type 0
    IsFit within around c = All (Fits within (innermost around (out-Compound c).element)) (out-Compound c).simples

    some_compound : (c : Compound) → 0 < length (compound_signs c)
    some_compound c =
        let e = (out-Compound c).element in
        subst (λ (ss : List Sign). 0 < length ss) (sym (compound_is c)) (omega (arith, length-append (element_signs e) (flat_map simple_signs (out-Compound c).simples), element_length e))

    compound_starts : (k : ℕ) (c : Compound) → AreAt text ts k (compound_signs c) → skip ts k ≡ k
    compound_starts k c at =
        let e = (out-Compound c).element in
        element_skip text ts no_bar k (element_code text ts no_bar k e (halves text ts k (element_signs e) (flat_map simple_signs (out-Compound c).simples) (subst (AreAt text ts k) (compound_is c) at)).0)

    compounds_say : (within : Bool) (around : Around) (i : ℕ) (w : Word) → is_has w ≡ false → (cs : List Compound) → 0 < length cs → All (IsFit within around) cs → AreAt text ts i (listed (map compound_signs cs) ++ Mark kind.CloseRound ∷ [])
        → SaysMembers text ts no_bar n within (Fits within) (says within) w i [] Compound (GivesCompound around) cs (i + length (listed (map compound_signs cs)) + 1)
    compounds_say within around i w plain [] some h at = absurd (omega arith)
    compounds_say within around i w plain (c ∷ cs) some h at =
        members_say text ts no_bar n within (Fits within) (says within) Compound w i compound_signs (IsFit within around) (GivesCompound around)
        (λ d fit. some_compound d) (λ k d fit there. compound_starts k d there)
        (λ k d fit there next. compound_says text ts no_bar n within (Fits within) (says within) w plain around k d fit there next)
        [] i c cs h (list_begun text ts (simple_by text ts n within) w i) at

    any_says : (within : Bool) (around : Around) (i : ℕ) (v : Weight) (cs : List Compound) → 0 < length cs → All (IsFit within around) cs → AreAt text ts i (called (weight_name v) (listed (map compound_signs cs)))
        → Says text ts no_bar (suc n) within around i (simple_of false (test.Any v cs)) (i + length (called (weight_name v) (listed (map compound_signs cs))))
    any_says within around i weight.Most cs some h at =
        let ss = listed (map compound_signs cs) in
        let g = compounds_say within around (i + 2) word.Is refl cs some h (inside text ts no_bar i (codes "is") ss at) in
        subst (Says text ts no_bar (suc n) within around i (simple_of false (test.Any weight.Most cs))) (called_length (codes "is") ss i)
        (plain_choice text ts no_bar n within around i word.Is g.found (i + 2 + length ss + 1) (simple_of false (test.Any weight.Most cs)) refl (is_word text ts no_bar i ss at) g.read
        (values.is_value g.found ∙ ap (λ xs. simple_of false (test.Any weight.Most xs)) (given_compounds around cs g.found g.given)) (given_allowed around cs g.found g.given))
    any_says within around i weight.Zero cs some h at =
        let ss = listed (map compound_signs cs) in
        let g = compounds_say within around (i + 2) word.Where refl cs some h (inside text ts no_bar i (codes "where") ss at) in
        subst (Says text ts no_bar (suc n) within around i (simple_of false (test.Any weight.Zero cs))) (called_length (codes "where") ss i)
        (plain_choice text ts no_bar n within around i word.Where g.found (i + 2 + length ss + 1) (simple_of false (test.Any weight.Zero cs)) refl (where_word text ts no_bar i ss at) g.read
        (values.where_value g.found ∙ ap (λ xs. simple_of false (test.Any weight.Zero xs)) (given_compounds around cs g.found g.given)) (given_allowed around cs g.found g.given))

    not_any : (within : Bool) (around : Around) (i : ℕ) (cs : List Compound) → 0 < length cs → IsNoElement cs → All (IsFit within around) cs → AreAt text ts i (called (codes "not") (listed (map compound_signs cs)))
        → Says text ts no_bar (suc n) within around i (simple_of true (test.Any weight.Most cs)) (i + length (called (codes "not") (listed (map compound_signs cs))))
    not_any within around i cs some together h at =
        let ss = listed (map compound_signs cs) in
        let g = compounds_say within around (i + 2) word.Not refl cs some h (inside text ts no_bar i (codes "not") ss at) in
        subst (Says text ts no_bar (suc n) within around i (simple_of true (test.Any weight.Most cs))) (called_length (codes "not") ss i)
        (plain_choice text ts no_bar n within around i word.Not g.found (i + 2 + length ss + 1) (simple_of true (test.Any weight.Most cs)) refl (not_word text ts no_bar i ss at) g.read
        (values.negates_any g.found (given_together around cs g.found g.given together) ∙ ap (λ xs. simple_of true (test.Any weight.Most xs)) (given_compounds around cs g.found g.given)) (given_allowed around cs g.found g.given))

    -- relatives
    abbrev IsFitted : Relative → Type 0
    IsFitted r = IsFitRelative text ts no_bar n true (Fits true) (says true) r

    relatives_say : (i : ℕ) (rs : List Relative) → 0 < length rs → All IsFitted rs → AreAt text ts i (listed (map relative_signs rs) ++ Mark kind.CloseRound ∷ [])
        → SaysMembers text ts no_bar n true (Fits true) (says true) word.Has i [] Relative GivesRelative rs (i + length (listed (map relative_signs rs)) + 1)
    relatives_say i [] some h at = absurd (omega arith)
    relatives_say i (r ∷ rs) some h at =
        members_say text ts no_bar n true (Fits true) (says true) Relative word.Has i relative_signs IsFitted GivesRelative
        (λ d fit. relative_some text ts no_bar n true (Fits true) (says true) d fit)
        (λ k d fit there. relative_starts text ts no_bar n true (Fits true) (says true) k d fit there)
        (λ k d fit there next. relative_says text ts no_bar n true (Fits true) (says true) k d fit there next)
        [] i r rs h (list_begun text ts (simple_by text ts n true) word.Has i) at

    has_says : (around : Around) (i : ℕ) (rs : List Relative) → 0 < length rs → All IsFitted rs → AreAt text ts i (called (codes "has") (listed (map relative_signs rs)))
        → Says text ts no_bar (suc n) false around i (simple_of false (test.Has rs)) (i + length (called (codes "has") (listed (map relative_signs rs))))
    has_says around i rs some h at =
        let ss = listed (map relative_signs rs) in
        let g = relatives_say (i + 2) rs some h (inside text ts no_bar i (codes "has") ss at) in
        subst (Says text ts no_bar (suc n) false around i (simple_of false (test.Has rs))) (called_length (codes "has") ss i)
        (choice_says text ts no_bar n false around i word.Has g.found (i + 2 + length ss + 1) (simple_of false (test.Has rs)) (has_word text ts no_bar i ss at) refl g.read
        (values.has_value g.found ∙ ap (λ xs. simple_of false (test.Has xs)) (given_relatives rs g.found g.given)) (relatives_allowed rs g.found g.given))

  -- ---- every simple selector

  abbrev LayerSays : ℕ → Bool → Around → ℕ → Bool → Layer → Type 0
  LayerSays n within around i negated l =
      AreAt text ts i (cond negated (layer_signs l).denied (layer_signs l).stands)
      → Says text ts no_bar n within around i (simple_of negated (roll-Test l)) (i + length (cond negated (layer_signs l).denied (layer_signs l).stands))

  renamed : (n : ℕ) (within : Bool) (around : Around) (i : ℕ) (negated : Bool) (t u : Test) (j : ℕ) → t ≡ u → Says text ts no_bar n within around i (simple_of negated t) j → Says text ts no_bar n within around i (simple_of negated u) j
  renamed n within around i negated t u j e h = subst (λ v. Says text ts no_bar n within around i (simple_of negated v) j) e h

  -- the test is asked by one piece, which is read where its signs stand
  record IsPieceOf (around : Around) (l : Layer) : Type 0 where
    piece : Plain
    its_signs : List Sign
    are : layer_signs l ≡ plain_signs its_signs
    reads : (k : ℕ) → AreAt text ts k its_signs → IsPlain text ts no_bar k piece (k + length its_signs)
    free : (needs_element piece && is_none around) ≡ false
    named : test_of piece ≡ roll-Test l

  id_piece : (around : Around) (x : List ℕ) → IsPieceOf around (open_.Id x)
  id_piece around x = record { piece = plain.Id x; its_signs = Hash x ∷ []; are = refl; reads = λ k. id_is text ts no_bar k x; free = refl; named = sym (test.rolls-Id x) }

  class_piece : (around : Around) (x : List ℕ) → IsPieceOf around (open_.Class x)
  class_piece around x = record { piece = plain.Class x; its_signs = Mark kind.Dot ∷ Name x ∷ []; are = refl; reads = λ k. class_is text ts no_bar k x; free = refl; named = sym (test.rolls-Class x) }

  attribute_piece : (around : Around) (name : List ℕ) (o : Op) (v : List ℕ) → FitsOp o v → IsPieceOf around (open_.Attr name o v)
  attribute_piece around name o v h =
      record { piece = plain.Attr name o v; its_signs = attribute_signs name o v; are = refl; reads = λ k. attribute_is text ts no_bar k name o v h; free = refl; named = sym (test.rolls-Attr name o v) }

  nth_piece : (around : Around) (k : Nth) (a b : ℤ) → IsSmall a → IsSmall b → FitsKind around k → IsPieceOf around (open_.Nth k a b)
  nth_piece around k a b small_a small_b h =
      record { piece = plain.Nth k a b; its_signs = called (nth_name k) (line_signs a b); are = refl; reads = λ j. nth_is text ts no_bar j k a b small_a small_b; free = kind_free around k h; named = sym (test.rolls-Nth k a b) }

  pseudo_piece : (around : Around) (p : Pseudo) → FitsPseudo around p → IsPieceOf around (open_.Pseudo p)
  pseudo_piece around p h =
      record { piece = plain.Pseudo p; its_signs = Mark kind.Colon ∷ Name (pseudo_name p) ∷ []; are = refl; reads = λ k. pseudo_is text ts no_bar k p; free = pseudo_free around p h; named = sym (test.rolls-Pseudo p) }

  contains_piece : (around : Around) (x : List ℕ) → IsPieceOf around (open_.Contains x)
  contains_piece around x =
      record { piece = plain.Contains x; its_signs = called (codes "contains") (Quoted x ∷ []); are = refl; reads = λ k. contains_is text ts no_bar k x; free = refl; named = sym (test.rolls-Contains x) }

  lang_piece : (around : Around) (x : List ℕ) → IsPieceOf around (open_.Lang x)
  lang_piece around x =
      record { piece = plain.Lang x; its_signs = called (codes "lang") (Quoted x ∷ []); are = refl; reads = λ k. lang_is text ts no_bar k x; free = refl; named = sym (test.rolls-Lang x) }

  signs_of_piece : (around : Around) (negated : Bool) (l : Layer) (p : IsPieceOf around l) → cond negated (layer_signs l).denied (layer_signs l).stands ≡ cond negated (called (codes "not") p.its_signs) p.its_signs
  signs_of_piece around negated l p = ap (λ (s : TestSigns). cond negated s.denied s.stands) p.are

  plain_says : (n : ℕ) (within : Bool) (around : Around) (i : ℕ) (negated : Bool) (l : Layer) (p : IsPieceOf around l) → AreAt text ts i (cond negated (called (codes "not") p.its_signs) p.its_signs)
      → Says text ts no_bar (suc n) within around i (simple_of negated (test_of p.piece)) (i + length (cond negated (called (codes "not") p.its_signs) p.its_signs))
  plain_says n within around i true l p at =
      not_plain text ts no_bar n within around i p.piece p.its_signs at (p.reads (i + 2) (halves text ts (i + 2) p.its_signs (Mark kind.CloseRound ∷ []) (inside text ts no_bar i (codes "not") p.its_signs at)).0) p.free
  plain_says n within around i false l p at = one_says text ts no_bar (suc n) within around i p.piece (i + length p.its_signs) (p.reads i at) p.free

  piece_says : (n : ℕ) (within : Bool) (around : Around) (i : ℕ) (negated : Bool) (l : Layer) → IsPieceOf around l → LayerSays (suc n) within around i negated l
  piece_says n within around i negated l p at =
      let e = signs_of_piece around negated l p in
      renamed (suc n) within around i negated (test_of p.piece) (roll-Test l) _ p.named
      (subst (λ (ss : List Sign). Says text ts no_bar (suc n) within around i (simple_of negated (test_of p.piece)) (i + length ss)) (sym e) (plain_says n within around i negated l p (subst (AreAt text ts i) e at)))

  -- where no choice may be opened, each stands as it is
  zero_piece : (within : Bool) (around : Around) (i : ℕ) (negated : Bool) (l : Layer) → IsPieceOf around l → HasRoom false negated → LayerSays zero within around i negated l
  zero_piece within around i true l p room at = let z : false ≡ true = room in cc
  zero_piece within around i false l p room at =
      let e = signs_of_piece around false l p in
      renamed zero within around i false (test_of p.piece) (roll-Test l) _ p.named
      (subst (λ (ss : List Sign). Says text ts no_bar zero within around i (simple_of false (test_of p.piece)) (i + length ss)) (sym e) (one_says text ts no_bar zero within around i p.piece (i + length p.its_signs) (p.reads i (subst (AreAt text ts i) e at)) p.free))

  module _ (n : ℕ) (says : (within : Bool) (around : Around) (k : ℕ) (x : Simple) → FitsSimple n within around x × WritesSimple n x → AreAt text ts k (simple_signs x) → Says text ts no_bar n within around k x (k + length (simple_signs x))) where
    abbrev BothFit : Bool → Around → Simple → Type 0
    BothFit within around x = FitsSimple n within around x × WritesSimple n x

    any_layer : (within : Bool) (around : Around) (i : ℕ) (negated : Bool) (v : Weight) (list : List Compound) → FitsTest (FitsSimple n) true within around negated (open_.Any v list) → WritesTest (WritesSimple n) true negated (open_.Any v list) → LayerSays (suc n) within around i negated (open_.Any v list)
    any_layer within around i true weight.Most list h w at =
        renamed (suc n) within around i true (test.Any weight.Most list) (roll-Test (open_.Any weight.Most list)) _ (sym (test.rolls-Any weight.Most list))
        (not_any n BothFit says within around i list h.1 w.0 (λ k d l a b c. (h.2 k d l a b c, (w.1 k d l).1 a b c)) at)
    any_layer within around i true weight.Zero list h w at = absurd w.0
    any_layer within around i false v list h w at =
        renamed (suc n) within around i false (test.Any v list) (roll-Test (open_.Any v list)) _ (sym (test.rolls-Any v list))
        (any_says n BothFit says within around i v list h.1 (λ k d l a b c. (h.2 k d l a b c, (w.1 k d l).1 a b c)) at)

    has_layer : (within : Bool) (around : Around) (i : ℕ) (negated : Bool) (list : List Relative) → FitsTest (FitsSimple n) true within around negated (open_.Has list) → WritesTest (WritesSimple n) true negated (open_.Has list) → LayerSays (suc n) within around i negated (open_.Has list)
    has_layer true around i negated list h w at = let z : true ≡ false = h.1 in cc
    has_layer false around i true list h w at = let z : true ≡ false = w.0 in cc
    has_layer false around i false list h w at =
        renamed (suc n) false around i false (test.Has list) (roll-Test (open_.Has list)) _ (sym (test.rolls-Has list))
        (has_says n BothFit says around i list h.2
        (λ k d l. ((h.3 k d l).0, λ a b c. (((h.3 k d l).1 a b c).0, λ x y z. (((h.3 k d l).1 a b c).1 x y z, (w.1 k d l a b c).1 x y z)))) at)

    layer_says : (within : Bool) (around : Around) (i : ℕ) (negated : Bool) (l : Layer) → FitsTest (FitsSimple n) true within around negated l → WritesTest (WritesSimple n) true negated l → LayerSays (suc n) within around i negated l
    layer_says within around i true (open_.Element e) h w at =
        renamed (suc n) within around i true (test.Element e) (roll-Test (open_.Element e)) _ (sym (test.rolls-Element e)) (not_element n BothFit says within around i e at)
    layer_says within around i false (open_.Element e) h w at = let z : false ≡ true = h in cc
    layer_says within around i negated (open_.Id x) h w at = piece_says n within around i negated (open_.Id x) (id_piece around x) at
    layer_says within around i negated (open_.Class x) h w at = piece_says n within around i negated (open_.Class x) (class_piece around x) at
    layer_says within around i negated (open_.Attr name o v) h w at = piece_says n within around i negated (open_.Attr name o v) (attribute_piece around name o v h) at
    layer_says within around i negated (open_.Nth k a b) h w at = piece_says n within around i negated (open_.Nth k a b) (nth_piece around k a b h.0 h.1 h.2) at
    layer_says within around i negated (open_.Pseudo p) h w at = piece_says n within around i negated (open_.Pseudo p) (pseudo_piece around p h) at
    layer_says within around i negated (open_.Contains x) h w at = piece_says n within around i negated (open_.Contains x) (contains_piece around x) at
    layer_says within around i negated (open_.Lang x) h w at = piece_says n within around i negated (open_.Lang x) (lang_piece around x) at
    layer_says within around i negated (open_.Any v list) h w at = any_layer within around i negated v list h w at
    layer_says within around i negated (open_.Has list) h w at = has_layer within around i negated list h w at

  zero_says : (within : Bool) (around : Around) (i : ℕ) (negated : Bool) (l : Layer) → FitsTest Nowhere false within around negated l → WritesTest Nothing false negated l → LayerSays zero within around i negated l
  zero_says within around i true (open_.Element e) h w at = let z : false ≡ true = w.0 in cc
  zero_says within around i false (open_.Element e) h w at = let z : false ≡ true = h in cc
  zero_says within around i negated (open_.Id x) h w at = zero_piece within around i negated (open_.Id x) (id_piece around x) w.0 at
  zero_says within around i negated (open_.Class x) h w at = zero_piece within around i negated (open_.Class x) (class_piece around x) w.0 at
  zero_says within around i negated (open_.Attr name o v) h w at = zero_piece within around i negated (open_.Attr name o v) (attribute_piece around name o v h) w.0 at
  zero_says within around i negated (open_.Nth k a b) h w at = zero_piece within around i negated (open_.Nth k a b) (nth_piece around k a b h.0 h.1 h.2) w at
  zero_says within around i negated (open_.Pseudo p) h w at = zero_piece within around i negated (open_.Pseudo p) (pseudo_piece around p h) w at
  zero_says within around i negated (open_.Contains x) h w at = zero_piece within around i negated (open_.Contains x) (contains_piece around x) w at
  zero_says within around i negated (open_.Lang x) h w at = zero_piece within around i negated (open_.Lang x) (lang_piece around x) w at
  zero_says within around i negated (open_.Any v list) h w at = let z : false ≡ true = h.0 in cc
  zero_says within around i negated (open_.Has list) h w at = let z : false ≡ true = h.0 in cc

  closed : (n : ℕ) (within : Bool) (around : Around) (k : ℕ) (x : Simple) → LayerSays n within around k x.negated (out-Test x.test) → AreAt text ts k (simple_signs x) → Says text ts no_bar n within around k x (k + length (simple_signs x))
  closed n within around k x h at =
      let signs : simple_signs x ≡ cond x.negated (layer_signs (out-Test x.test)).denied (layer_signs (out-Test x.test)).stands = simple_is x in
      subst (λ (ss : List Sign). Says text ts no_bar n within around k x (k + length ss)) (sym signs)
      (subst (λ t. Says text ts no_bar n within around k (simple_of x.negated t) (k + length (cond x.negated (layer_signs (out-Test x.test)).denied (layer_signs (out-Test x.test)).stands))) (test_views.roll-out-Test x.test)
      (h (subst (AreAt text ts k) signs at)))

  pub says : (n : ℕ) (within : Bool) (around : Around) (k : ℕ) (x : Simple) → FitsSimple n within around x × WritesSimple n x → AreAt text ts k (simple_signs x) → Says text ts no_bar n within around k x (k + length (simple_signs x))
  unfolding FitsSimple WritesSimple
  says zero within around k x h at = closed zero within around k x (zero_says within around k x.negated (out-Test x.test) h.0 h.1) at
  says (suc n) within around k x h at = closed (suc n) within around k x (layer_says n (says n) within around k x.negated (out-Test x.test) h.0 h.1) at
