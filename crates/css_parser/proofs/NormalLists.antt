-- A selector list is read of its plain text.
use Rattle.std.proofs.Common.{◌≡◌, ◌≢◌, ℕ, ◌+◌, ◌≤◌, Bool, true, false, ◌&&◌, List, [], ◌∷◌, ◌++◌, length, map, flat_map, fold, refl, sym, ◌∙◌, ap, subst, arith, append_assoc, append-nil, length-append}
use Rattle.std.specs.List.{AllByRecursion}
use Rattle.std.specs.Prelude.{◌==◌, Some, None, All, is_none}
use Rattle.std.proofs.lemmas.Grind.{flat_map-append, fold-append}
use Rattle.std.proofs.lemmas.List.Elements.{All-head, All-tail, All-from_recursion}
use Rattle.css_lexer.specs.declared.tokens.CssKind.TheVariants as kind
use Rattle.css_lexer.specs.declared.tokens.CssToken.{CssToken}
use Rattle.css_lexer.specs.Spelled.{Sign, Mark, IsSign, placed}
use Rattle.css_lexer.specs.Tokens.{most_selector}
use Rattle.css_lexer.proofs.SpelledTokens.{read_back}
use Rattle.text_base.specs.Strings.{is_empty}
use Rattle.css_selectors.specs.declared.selector.Link.TheVariants as link
use Rattle.css_selectors.specs.declared.selector.Part.{Part, out-Part, roll-Part}
use Rattle.css_selectors.specs.declared.selector.Selector.{Selector}
use Rattle.css_selectors.specs.declared.selector.SelectorList.{SelectorList}
use Rattle.css_selectors.specs.declared.selector.Simple.{Simple}
use Rattle.css_selectors.specs.declared.selector.Tail.{Tail}
use Rattle.css_selectors.specs.declared.selector.Tail.TheVariants as tail
use Rattle.css_selectors.specs.declared.selector.Test.TheViews as test_views
use Rattle.css_selectors.specs.Texts.{AreTexts}
use Rattle.css_selectors.specs.WellMade as made
use Rattle.css_selectors.specs.WellMade.{FitsSimple, WellMade}
use Rattle.css_parser.specs.declared.pieces.Piece.TheVariants as piece
use Rattle.css_parser.specs.declared.pieces.Form.{Form}
use Rattle.css_parser.specs.declared.pieces.Form.TheVariants as form
use Rattle.css_parser.specs.declared.pieces.Compound.{Compound}
use Rattle.css_parser.specs.Places.{stands, skip}
use Rattle.css_parser.specs.Choices.{form_read, one_read, simple_by}
use Rattle.css_parser.specs.Grammar.{Simples, HasElement, past_element, IsCompound, Further, IsSelector, Others, From}
use Rattle.css_parser.specs.Lists.{tail_by, tail_after, tail_of, part_of, selector_of}
use Rattle.css_parser.specs.Normal.{element_signs, listed, link_signs, chain_signs, part_signs, simple_signs, tail_signs, selector_signs, list_signs, written}
use Rattle.css_parser.specs.Refusals.{or_else, form_refusal, forms_refusal, selector_refusal, refusal}
use Rattle.css_parser.specs.Selecting.{Accepts}
use Rattle.css_parser.specs.Values.{FormValue, form_simples}
use Rattle.css_parser.specs.Writable.{IsMember, WritesSimple, WritesSelector, IsWritable}
use Rattle.css_parser.proofs.ChoiceLemmas.{forms_push, at_piece}
use Rattle.css_parser.proofs.CopyLemmas.{one_tail}
use Rattle.css_parser.proofs.NormalForms.{Around, forms_say}
use Rattle.css_parser.proofs.NormalLinks.{element_length, link_read, element_code, element_skip, combinator_reads}
use Rattle.css_parser.proofs.NormalPieces.{element_is, no_word_there, text_reads, attr_is}
use Rattle.css_parser.proofs.NormalPlaces.{AreAt, code_is, moved, halves, no_skip, placed_there, placed_length, IsNoBar, no_bar}
use Rattle.css_parser.proofs.NormalSigns.{AreGood, good_list, part_body, further, chain_is}
use Rattle.css_parser.proofs.NormalSimples.{says}
use Rattle.css_parser.proofs.PlaceLemmas.{skip_stop, code_end}
use Rattle.css_parser.proofs.RefusalLemmas.{one_refusal}
use Rattle.css_parser.proofs.ValueLemmas.{one_value}

-- one form more, of which nothing is refused either
pushed_allowed : (nameless last : Bool) (xs : List Form) (x : Form) → AllByRecursion (λ (y : Form). (b : Bool) → form_refusal nameless b y ≡ None) xs → form_refusal nameless last x ≡ None → forms_refusal nameless last (xs ++ x ∷ []) ≡ None
pushed_allowed nameless last [] x h g = by_last last g
  where
    by_last : (b : Bool) → form_refusal nameless b x ≡ None → or_else (form_refusal nameless (b && true) x) None ≡ None
    by_last true g = ap (λ o. or_else o None) g
    by_last false g = ap (λ o. or_else o None) g
pushed_allowed nameless last (y ∷ xs) x h g =
    ap (λ o. or_else o (forms_refusal nameless last (xs ++ x ∷ []))) (h.0 (last && is_empty (xs ++ x ∷ []))) ∙ pushed_allowed nameless last xs x h.1 g

-- a simple selector of a part
abbrev Fits : Around → Simple → Type 0
Fits around x = FitsSimple 8 false around x × WritesSimple 8 x

abbrev PartFits : Part → Type 0
PartFits p = All (Fits (out-Part p).element) (out-Part p).simples

abbrev Writes : Part → Type 0
Writes p = IsMember (WritesSimple 8) (out-Part p).element (out-Part p).simples

abbrev IsOther : Part → Type 0
IsOther p = (out-Part p).link ≢ link.First

module _ (text : List ℕ) (ts : List CssToken) (bars : (i : ℕ) → stands kind.Bar ts i ≡ false) where
  -- ---- compounds

  -- a compound that is a part, from i up to j
  record SaysCompound (i : ℕ) (p : Part) (j : ℕ) : Type 0 where
    forms : List Form
    reads : Simples text ts (i + 1) forms j
    simples : flat_map form_simples forms ≡ (out-Part p).simples
    each : AllByRecursion (λ (x : Form). (last : Bool) → form_refusal (is_none (out-Part p).element) last x ≡ None) forms
    allowed : (last : Bool) → forms_refusal (is_none (out-Part p).element) last forms ≡ None
    tail : (old : Tail) → fold tail_by old forms ≡ old
    there : AreAt text ts i (element_signs (out-Part p).element)

  compound_says : (i : ℕ) (p : Part) → PartFits p → AreAt text ts i (part_body p) → SaysCompound i p (i + length (part_body p))
  compound_says i p h at =
      let e = (out-Part p).element in
      let xs = (out-Part p).simples in
      let parts = halves text ts i (element_signs e) (flat_map simple_signs xs) at in
      let there = moved text ts (i + length (element_signs e)) (i + 1) (flat_map simple_signs xs) (omega (arith, element_length e)) parts.1 in
      let f = forms_say text ts bars 8 false e (Fits e) (λ k x fit said. says text ts bars 8 false e k x fit said) (i + 1) xs h there in
      let end : i + 1 + length (flat_map simple_signs xs) ≡ i + length (part_body p) = omega (arith, length-append (element_signs e) (flat_map simple_signs xs), element_length e) in
      record {
        forms = f.forms;
        reads = subst (Simples text ts (i + 1) f.forms) end f.reads;
        simples = f.simples;
        each = f.each;
        allowed = f.allowed;
        tail = f.tail;
        there = parts.0;
      }

  compound_of : Part → List Form → Compound
  compound_of p forms = record { link = (out-Part p).link; element = (out-Part p).element; prefixed = false; forms = forms }

  is_compound : (i : ℕ) (p : Part) (forms : List Form) (j : ℕ) → AreAt text ts i (element_signs (out-Part p).element) → Simples text ts (i + 1) forms j → IsCompound text ts i (compound_of p forms) j
  unfolding compound_of
  is_compound i p forms j at h =
      let e = element_is text ts bars i (out-Part p).element at in
      record {
        begins = subst (λ o. HasElement o (compound_of p forms)) (sym e) (refl, refl);
        simples = subst (λ o. Simples text ts (past_element o i) forms j) (sym e) h;
      }

  rolled : Part → List Simple → Part
  rolled p xs = roll-Part (record { link = (out-Part p).link; element = (out-Part p).element; simples = xs })

  part_again : (p : Part) (forms : List Form) → flat_map form_simples forms ≡ (out-Part p).simples → part_of (compound_of p forms) ≡ p
  unfolding compound_of rolled
  part_again p forms h = ap (rolled p) h ∙ test_views.roll-out-Part p

  -- ---- tails

  -- a pseudo-element, from i up to j
  record SaysTail (t : Tail) (i j : ℕ) : Type 0 where
    reads : simple_by text ts 8 false i ≡ Some (form_read (form.One (piece.Tail t)) j)

  text_says : (i : ℕ) → AreAt text ts i (tail_signs tail.Text) → SaysTail tail.Text i (i + 2)
  text_says i at =
      record { reads = at_piece text ts 8 false i (no_word_there text ts bars i 12 (code_is text ts i (Mark kind.DoubleColon) at.0) refl) ∙ ap one_read (text_reads text ts bars i at) }

  attr_says : (n : List ℕ) (i : ℕ) → AreAt text ts i (tail_signs (tail.Attr n)) → SaysTail (tail.Attr n) i (i + 4)
  attr_says n i at =
      record { reads = at_piece text ts 8 false i (no_word_there text ts bars i 12 (code_is text ts i (Mark kind.DoubleColon) at.0) refl) ∙ ap one_read (attr_is text ts bars i n at) }

  -- the last compound of a selector with its tail
  record SaysLast (i : ℕ) (p : Part) (t : Tail) (j : ℕ) : Type 0 where
    forms : List Form
    is : IsCompound text ts i (compound_of p forms) j
    part : part_of (compound_of p forms) ≡ p
    allowed : forms_refusal (is_none (out-Part p).element) true forms ≡ None
    tail : fold tail_by tail.Element forms ≡ t

  with_tail : (i : ℕ) (p : Part) (t : Tail) (m j : ℕ) → SaysCompound i p m → SaysTail t m j → SaysLast i p t j
  with_tail i p t m j c h =
      let x : Form = form.One (piece.Tail t) in
      let none : form_simples x ≡ [] = ap (λ (v : FormValue). v.simples) (one_value (piece.Tail t)) in
      record {
        forms = c.forms ++ x ∷ [];
        is = is_compound i p (c.forms ++ x ∷ []) j c.there (forms_push (simple_by text ts 8 false) (i + 1) m j c.forms x c.reads h.reads);
        part = part_again p (c.forms ++ x ∷ [])
            (flat_map-append form_simples c.forms (x ∷ []) ∙ ap (λ v. flat_map form_simples c.forms ++ (v ++ [])) none ∙ append-nil (flat_map form_simples c.forms) ∙ c.simples);
        allowed = pushed_allowed (is_none (out-Part p).element) true c.forms x c.each (one_refusal (is_none (out-Part p).element) true (piece.Tail t));
        tail = fold-append tail_by tail.Element c.forms (x ∷ []) ∙ one_tail (fold tail_by tail.Element c.forms) (piece.Tail t);
      }

  last_says : (i : ℕ) (p : Part) (t : Tail) → PartFits p → AreAt text ts i (part_body p ++ tail_signs t) → SaysLast i p t (i + length (part_body p ++ tail_signs t))
  last_says i p tail.Element h at =
      let c = compound_says i p h (halves text ts i (part_body p) [] at).0 in
      let end : i + length (part_body p) ≡ i + length (part_body p ++ []) = ap (λ (ss : List Sign). i + length ss) (sym (append-nil (part_body p))) in
      record {
        forms = c.forms;
        is = subst (IsCompound text ts i (compound_of p c.forms)) end (is_compound i p c.forms (i + length (part_body p)) c.there c.reads);
        part = part_again p c.forms c.simples;
        allowed = c.allowed true;
        tail = c.tail tail.Element;
      }
  last_says i p tail.Text h at =
      let cut = halves text ts i (part_body p) (tail_signs tail.Text) at in
      let m = i + length (part_body p) in
      subst (SaysLast i p tail.Text) (let z : m + 2 ≡ i + length (part_body p ++ tail_signs tail.Text) = omega (arith, length-append (part_body p) (tail_signs tail.Text)) in z)
      (with_tail i p tail.Text m (m + 2) (compound_says i p h cut.0) (text_says m cut.1))
  last_says i p (tail.Attr n) h at =
      let cut = halves text ts i (part_body p) (tail_signs (tail.Attr n)) at in
      let m = i + length (part_body p) in
      subst (SaysLast i p (tail.Attr n)) (let z : m + 4 ≡ i + length (part_body p ++ tail_signs (tail.Attr n)) = omega (arith, length-append (part_body p) (tail_signs (tail.Attr n))) in z)
      (with_tail i p (tail.Attr n) m (m + 4) (compound_says i p h cut.0) (attr_says n m cut.1))

  -- ---- selectors

  -- a compound and those behind it
  record SaysChain (i : ℕ) (p : Part) (ps : List Part) (t : Tail) (j : ℕ) : Type 0 where
    first : Compound
    others : List Compound
    link : first.link ≡ (out-Part p).link
    middle : ℕ
    is : IsCompound text ts i first middle
    further : Further text ts middle others j
    parts : map part_of (first ∷ others) ≡ p ∷ ps
    tail : fold tail_after tail.Element (first ∷ others) ≡ t
    allowed : selector_refusal (first ∷ others) ≡ None

  chain_says : (ps : List Part) (i : ℕ) (p : Part) (t : Tail) → PartFits p → All PartFits ps → All IsOther ps → AreAt text ts i (part_body p ++ (flat_map further ps ++ tail_signs t)) → SaysChain i p ps t (i + length (part_body p ++ (flat_map further ps ++ tail_signs t)))
  unfolding compound_of
  chain_says [] i p t h hs others at =
      let last = last_says i p t h at in
      record {
        first = compound_of p last.forms;
        others = [];
        link = refl;
        middle = i + length (part_body p ++ tail_signs t);
        is = last.is;
        further = refl;
        parts = ap (λ q. q ∷ []) last.part;
        tail = last.tail;
        allowed = ap (λ o. or_else o None) last.allowed;
      }
  chain_says (q ∷ qs) i p t h hs others at =
      let l = (out-Part q).link in
      let c = compound_says i p h (halves text ts i (part_body p) ((further q ++ flat_map further qs) ++ tail_signs t) at).0 in
      let m = i + length (part_body p) in
      let more : List Sign = part_body q ++ (flat_map further qs ++ tail_signs t) in
      let again : (further q ++ flat_map further qs) ++ tail_signs t ≡ link_signs l ++ more =
      append_assoc (further q) (flat_map further qs) (tail_signs t) ∙ append_assoc (link_signs l) (part_body q) (flat_map further qs ++ tail_signs t) in
      let cut = halves text ts m (link_signs l) more (subst (AreAt text ts m) again (halves text ts i (part_body p) ((further q ++ flat_map further qs) ++ tail_signs t) at).1) in
      let k = m + length (link_signs l) in
      let rest = chain_says qs k q t (All-head PartFits q qs hs) (All-tail PartFits q qs hs) (All-tail IsOther q qs others) cut.1 in
      let begins = element_code text ts bars k (out-Part q).element
      (halves text ts k (element_signs (out-Part q).element) (flat_map simple_signs (out-Part q).simples) (halves text ts k (part_body q) (flat_map further qs ++ tail_signs t) cut.1).0).0 in
      let total : k + length more ≡ i + length (part_body p ++ ((further q ++ flat_map further qs) ++ tail_signs t)) =
      omega (arith, length-append (part_body p) ((further q ++ flat_map further qs) ++ tail_signs t), ap length again, length-append (link_signs l) more) in
      let joins = combinator_reads text ts bars l m (All-head IsOther q qs others) cut.0 begins in
      record {
        first = compound_of p c.forms;
        others = rest.first ∷ rest.others;
        link = refl;
        middle = m;
        is = is_compound i p c.forms m c.there c.reads;
        further = (k, rest.middle, joins ∙ ap (λ x. Some (link_read x k)) (sym rest.link), rest.is, subst (Further text ts rest.middle rest.others) total rest.further);
        parts = ap (λ x. x ∷ map part_of (rest.first ∷ rest.others)) (part_again p c.forms c.simples) ∙ ap (λ xs. p ∷ xs) rest.parts;
        tail = ap (λ x. fold tail_after x (rest.first ∷ rest.others)) (c.tail tail.Element) ∙ rest.tail;
        allowed = ap (λ o. or_else o (selector_refusal (rest.first ∷ rest.others))) (c.allowed false) ∙ rest.allowed;
      }

  record SaysSelector (i : ℕ) (s : Selector) (j : ℕ) : Type 0 where
    compounds : List Compound
    is : IsSelector text ts i compounds j
    gives : selector_of compounds ≡ s
    allowed : selector_refusal compounds ≡ None
    starts : skip ts i ≡ i

  selector_to : List Part → Tail → Selector
  selector_to ps t = record { parts = ps; tail = t }

  selector_says : (i : ℕ) (s : Selector) → made.IsSelector s → WritesSelector s → AreAt text ts i (selector_signs s) → SaysSelector i s (i + length (selector_signs s))
  unfolding selector_to
  selector_says i s h w at = by_parts s.parts refl h.links h.parts w.parts
    where
      by_parts : (ps : List Part) → s.parts ≡ ps → made.AreLinked ps → All made.IsPart ps → All Writes ps → SaysSelector i s (i + length (selector_signs s))
      by_parts [] e links fit names = absurd links
      by_parts (p ∷ ps) e links fit names =
          let both : All PartFits (p ∷ ps) = λ k d l a b c. (fit k d l a b c, (names k d l).1 a b c) in
          let said : selector_signs s ≡ part_body p ++ (flat_map further ps ++ tail_signs s.tail) =
          ap (λ qs. chain_signs (map part_signs qs) ++ tail_signs s.tail) e
          ∙ ap (λ ss. ss ++ tail_signs s.tail) (chain_is (p ∷ ps))
          ∙ ap (λ l. ((link_signs l ++ part_body p) ++ flat_map further ps) ++ tail_signs s.tail) links.0
          ∙ append_assoc (part_body p) (flat_map further ps) (tail_signs s.tail) in
          let there = subst (AreAt text ts i) said at in
          let chain = chain_says ps i p s.tail (All-head PartFits p ps both) (All-tail PartFits p ps both) links.1 there in
          record {
            compounds = chain.first ∷ chain.others;
            is = (chain.middle, chain.link ∙ links.0, chain.is, subst (λ (ss : List Sign). Further text ts chain.middle chain.others (i + length ss)) (sym said) chain.further);
            gives = ap (λ ps. selector_to ps (tail_of (chain.first ∷ chain.others))) (chain.parts ∙ sym e) ∙ ap (selector_to s.parts) chain.tail;
            allowed = chain.allowed;
            starts = element_skip text ts bars i (element_code text ts bars i (out-Part p).element
                (halves text ts i (element_signs (out-Part p).element) (flat_map simple_signs (out-Part p).simples) (halves text ts i (part_body p) (flat_map further ps ++ tail_signs s.tail) there).0).0);
          }

  -- ---- lists

  record SaysList (i : ℕ) (ss : List Selector) : Type 0 where
    found : List (List Compound)
    reads : From text ts i found
    gives : map selector_of found ≡ ss
    allowed : refusal found ≡ None
    starts : skip ts i ≡ i

  -- what is read from i on stands behind a comma
  behind_comma : (i : ℕ) (found : List (List Compound)) → stands kind.Comma ts i ≡ true → skip ts (i + 1) ≡ i + 1 → From text ts (i + 1) found → Others text ts i found
  behind_comma i [] comma e h = absurd h
  behind_comma i (s ∷ ss) comma e h = (h.0, comma, subst (λ n. IsSelector text ts n s h.0) (sym e) h.1, h.2)

  at_end : (i : ℕ) → i ≡ length ts → skip ts i ≡ i
  at_end i e = skip_stop ts i (ap (λ n. n == 1) (code_end ts i (omega arith)))

  list_says : (i : ℕ) (s : Selector) (ss : List Selector) → All made.IsSelector (s ∷ ss) → All WritesSelector (s ∷ ss) → AreAt text ts i (listed (map selector_signs (s ∷ ss))) → i + length (listed (map selector_signs (s ∷ ss))) ≡ length ts → SaysList i (s ∷ ss)
  list_says i s [] h w at end =
      let one = selector_says i s (All-head made.IsSelector s [] h) (All-head WritesSelector s [] w) at in
      record {
        found = one.compounds ∷ [];
        reads = (i + length (selector_signs s), one.is, at_end (i + length (selector_signs s)) end ∙ end);
        gives = ap (λ x. x ∷ []) one.gives;
        allowed = ap (λ o. or_else o None) one.allowed;
        starts = one.starts;
      }
  list_says i s (u ∷ us) h w at end =
      let more : List Sign = listed (map selector_signs (u ∷ us)) in
      let cut = halves text ts i (selector_signs s) (Mark kind.Comma ∷ more) at in
      let j = i + length (selector_signs s) in
      let one = selector_says i s (All-head made.IsSelector s (u ∷ us) h) (All-head WritesSelector s (u ∷ us) w) cut.0 in
      let rest = list_says (j + 1) u us (All-tail made.IsSelector s (u ∷ us) h) (All-tail WritesSelector s (u ∷ us) w) cut.1.1
      (let z : j + 1 + length more ≡ length ts = omega (arith, end, length-append (selector_signs s) (Mark kind.Comma ∷ more)) in z) in
      let here : skip ts j ≡ j = no_skip text ts j (Mark kind.Comma) cut.1.0 refl in
      record {
        found = one.compounds ∷ rest.found;
        reads = (j, one.is, subst (λ n. Others text ts n rest.found) (sym here) (behind_comma j rest.found (ap (λ n. n == 19) (code_is text ts j (Mark kind.Comma) cut.1.0)) rest.starts rest.reads));
        gives = ap (λ x. x ∷ map selector_of rest.found) one.gives ∙ ap (λ xs. s ∷ xs) rest.gives;
        allowed = ap (λ o. or_else o (refusal rest.found)) one.allowed ∙ rest.allowed;
        starts = one.starts;
      }

list_to : List Selector → SelectorList
list_to ss = record { items = ss }

good_signs : (ss : List Sign) → AreGood ss → AllByRecursion IsSign ss
good_signs [] h = tt
good_signs (s ∷ ss) h = (h.0.0, good_signs ss h.1)

good_bars : (ss : List Sign) → AreGood ss → AllByRecursion IsNoBar ss
good_bars [] h = tt
good_bars (s ∷ ss) h = (h.0.1, good_bars ss h.1)

module _ (list : SelectorList) (h : WellMade list) (u : AreTexts list) (w : IsWritable list) where
  good : AreGood (list_signs list)
  good = good_list list h w u

  bars : (i : ℕ) → stands kind.Bar (placed 0 (list_signs list)) i ≡ false
  bars = no_bar 0 (list_signs list) (good_bars (list_signs list) good)

  said : (s : Selector) (ss : List Selector) → list.items ≡ s ∷ ss → SaysList (written list) (placed 0 (list_signs list)) bars 0 (s ∷ ss)
  said s ss e =
      let tokens : List CssToken = placed 0 (list_signs list) in
      let same : list_signs list ≡ listed (map selector_signs (s ∷ ss)) = ap (λ us. listed (map selector_signs us)) e in
      list_says (written list) tokens bars 0 s ss (subst (All made.IsSelector) e h.each) (subst (All WritesSelector) e w)
      (subst (AreAt (written list) tokens 0) same (placed_there (written list) [] 0 (list_signs list) refl))
      (let z : 0 + length (listed (map selector_signs (s ∷ ss))) ≡ length tokens = omega (arith, ap length same, placed_length 0 (list_signs list)) in z)

  accepted : (fits : length (written list) ≤ most_selector) (ss : List Selector) → list.items ≡ ss → Accepts (written list) list
  unfolding list_to
  accepted fits [] e = absurd (let some = h.some in let none = ap length e in omega arith)
  accepted fits (s ∷ ss) e =
      let found = said s ss e in
      record {
        tokens = placed 0 (list_signs list);
        spelled = read_back (list_signs list) (All-from_recursion IsSign (list_signs list) (good_signs (list_signs list) good)) fits;
        found = found.found;
        reads = subst (λ n. From (written list) (placed 0 (list_signs list)) n found.found) (sym found.starts) found.reads;
        allowed = found.allowed;
        is_list = ap list_to (e ∙ sym found.gives);
      }

pub normal_form : (list : SelectorList) → WellMade list → AreTexts list → IsWritable list → length (written list) ≤ most_selector → Accepts (written list) list
normal_form list h u w fits = accepted list h u w fits list.items refl
