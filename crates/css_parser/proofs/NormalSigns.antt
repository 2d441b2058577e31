-- The signs of a selector list, one level at a time, and that they may be written.
use Rattle.std.proofs.Common.{◌≡◌, ◌≢◌, ℕ, zero, suc, ◌<◌, ◌≤◌, Bool, true, false, ◌&&◌, cond, List, [], ◌∷◌, ◌++◌, length, map, flat_map, refl, sym, ◌∙◌, ap, subst, arith, ℤ, pos, negsuc, codes}
use Rattle.std.specs.Prelude.{Option, Some, None, All, nat_abs}
use Rattle.std.specs.Fmt.{decimal}
use Rattle.std.specs.List.{AllByRecursion, list_all}
use Rattle.std.proofs.lemmas.Bool.{and_parts}
use Rattle.std.proofs.lemmas.List.Elements.{All-head, All-tail}
use Rattle.std.proofs.lemmas.List.Folds.{flat_map-map}
use lib.Utf8.{scalars}
use Rattle.css_lexer.specs.declared.tokens.CssKind.TheVariants as kind
use Rattle.css_lexer.specs.Spelled.{Sign, Name, Hash, Quoted, Number, Mark, IsSign}
use Rattle.css_selectors.specs.declared.selector.Compound.{Compound, out-Compound}
use Rattle.css_selectors.specs.declared.selector.Link.{Link}
use Rattle.css_selectors.specs.declared.selector.Link.TheVariants as link
use Rattle.css_selectors.specs.declared.selector.Nth.{Nth}
use Rattle.css_selectors.specs.declared.selector.Nth.TheVariants as nth
use Rattle.css_selectors.specs.declared.selector.Op.{Op}
use Rattle.css_selectors.specs.declared.selector.Op.TheVariants as op
use Rattle.css_selectors.specs.declared.selector.Part.{Part, out-Part}
use Rattle.css_selectors.specs.declared.selector.Pseudo.{Pseudo}
use Rattle.css_selectors.specs.declared.selector.Pseudo.TheVariants as pseudo
use Rattle.css_selectors.specs.declared.selector.Relative.{Relative, out-Relative}
use Rattle.css_selectors.specs.declared.selector.Selector.{Selector}
use Rattle.css_selectors.specs.declared.selector.SelectorList.{SelectorList}
use Rattle.css_selectors.specs.declared.selector.Simple.{Simple}
use Rattle.css_selectors.specs.declared.selector.Tail.{Tail}
use Rattle.css_selectors.specs.declared.selector.Tail.TheVariants as tail
use Rattle.css_selectors.specs.declared.selector.Test.{Test, out-Test}
use Rattle.css_selectors.specs.declared.selector.Test.TheFolds.{map-Test, fold-roll-Test, fold_out-Compound, fold_out-Part, fold_out-Relative, fold_out-Simple}
use Rattle.css_selectors.specs.declared.selector.Test.TheOpen as open_
use Rattle.css_selectors.specs.declared.selector.Test.TheViews as views
use Rattle.css_selectors.specs.declared.selector.Weight.{Weight}
use Rattle.css_selectors.specs.declared.selector.Weight.TheVariants as weight
use Rattle.css_selectors.specs.Texts as t
use Rattle.css_selectors.specs.Texts.{element_text, test_texts, compound_texts, part_texts, relative_texts, simple_texts, tail_text, selector_texts, AreTexts}
use Rattle.css_selectors.specs.WellMade.{FitsTest, FitsPart, FitsSimple, IsPart, IsSelector, WellMade, Nowhere, innermost, IsSmall, most_number}
use Rattle.text_base.proofs.Decimals.{decimal_digits}
use Rattle.css_selectors.proofs.TextsAt.{at_layer, at_compound, at_part, at_relative, at_simple}
use Rattle.css_parser.specs.Normal.{element_signs, called, listed, compared_signs, attribute_signs, nth_name, sign_of, line_signs, pseudo_name, weight_name, TestSigns, test_step, compound_step, part_step, relative_step, simple_step, link_signs, first_signs, chain_signs, path_signs, test_signs, compound_signs, part_signs, relative_signs, simple_signs, tail_signs, selector_signs, list_signs}
use Rattle.css_parser.specs.Writable.{IsNamed, IsMember, WritesTest, WritesSimple, WritesSelector, IsTailNamed, IsWritable, Nothing}
use Rattle.css_parser.proofs.NormalPlaces.{IsNoBar}

-- ---- one level

abbrev pub Layer : Type 0
Layer = open_.Test-F Test Compound Part Relative Simple

abbrev pub layer_signs : Layer → TestSigns
layer_signs l = test_step (map-Test Test Compound Part Relative Simple TestSigns (List Sign) (Link × List Sign) (List Sign) (List Sign) test_signs compound_signs part_signs relative_signs simple_signs l)

pub test_is : (x : Test) → test_signs x ≡ layer_signs (out-Test x)
unfolding test_signs compound_signs part_signs relative_signs simple_signs
test_is x =
    ap test_signs (sym (views.roll-out-Test x))
    ∙ fold-roll-Test TestSigns (List Sign) (Link × List Sign) (List Sign) (List Sign) test_step compound_step part_step relative_step simple_step (out-Test x)

pub simple_is : (x : Simple) → simple_signs x ≡ cond x.negated (layer_signs (out-Test x.test)).denied (layer_signs (out-Test x.test)).stands
unfolding test_signs compound_signs part_signs relative_signs simple_signs
simple_is x =
    fold_out-Simple TestSigns (List Sign) (Link × List Sign) (List Sign) (List Sign) test_step compound_step part_step relative_step simple_step x
    ∙ ap (λ (s : TestSigns). cond x.negated s.denied s.stands) (test_is x.test)

pub compound_is : (c : Compound) → compound_signs c ≡ element_signs (out-Compound c).element ++ flat_map simple_signs (out-Compound c).simples
unfolding test_signs compound_signs part_signs relative_signs simple_signs
compound_is c =
    fold_out-Compound TestSigns (List Sign) (Link × List Sign) (List Sign) (List Sign) test_step compound_step part_step relative_step simple_step c
    ∙ ap (λ (ss : List Sign). element_signs (out-Compound c).element ++ ss) (flat_map-map (λ (ss : List Sign). ss) simple_signs (out-Compound c).simples)

pub part_is : (p : Part) → part_signs p ≡ ((out-Part p).link, element_signs (out-Part p).element ++ flat_map simple_signs (out-Part p).simples)
unfolding test_signs compound_signs part_signs relative_signs simple_signs
part_is p =
    fold_out-Part TestSigns (List Sign) (Link × List Sign) (List Sign) (List Sign) test_step compound_step part_step relative_step simple_step p
    ∙ ap with_link (flat_map-map (λ (ss : List Sign). ss) simple_signs (out-Part p).simples)
  where
    with_link : List Sign → Link × List Sign
    with_link ss = ((out-Part p).link, element_signs (out-Part p).element ++ ss)

pub relative_is : (r : Relative) → relative_signs r ≡ path_signs (map part_signs (out-Relative r).parts)
unfolding test_signs compound_signs part_signs relative_signs simple_signs
relative_is r = fold_out-Relative TestSigns (List Sign) (Link × List Sign) (List Sign) (List Sign) test_step compound_step part_step relative_step simple_step r

-- ---- parts in a row

-- an element and simple selectors
abbrev pub body : Option (List ℕ) → List Simple → List Sign
body e xs = element_signs e ++ flat_map simple_signs xs

abbrev pub part_body : Part → List Sign
part_body p = body (out-Part p).element (out-Part p).simples

-- a part behind its combinator
abbrev pub further : Part → List Sign
further p = link_signs (out-Part p).link ++ part_body p

pub chain_is : (ps : List Part) → chain_signs (map part_signs ps) ≡ flat_map further ps
chain_is [] = refl
chain_is (p ∷ ps) = ap (λ (d : Link × List Sign). (link_signs d.0 ++ d.1) ++ chain_signs (map part_signs ps)) (part_is p) ∙ ap (λ ss. further p ++ ss) (chain_is ps)

-- ---- signs that may be written

abbrev pub IsGood : Sign → Type 0
IsGood s = IsSign s × IsNoBar s

abbrev pub AreGood : List Sign → Type 0
AreGood ss = AllByRecursion IsGood ss

good_append : (xs ys : List Sign) → AreGood xs → AreGood ys → AreGood (xs ++ ys)
good_append [] ys h g = g
good_append (x ∷ xs) ys h g = (h.0, good_append xs ys h.1 g)

good_flat : {A : Type 0} (f : A → List Sign) (xs : List A) → AllByRecursion (λ x. AreGood (f x)) xs → AreGood (flat_map f xs)
good_flat f [] h = tt
good_flat f (x ∷ xs) h = good_append (f x) (flat_map f xs) h.0 (good_flat f xs h.1)

good_listed : (xs : List (List Sign)) → AllByRecursion AreGood xs → AreGood (listed xs)
good_listed [] h = tt
good_listed (x ∷ []) h = h.0
good_listed (x ∷ y ∷ xs) h = good_append x (Mark kind.Comma ∷ listed (y ∷ xs)) h.0 (((λ e. cc), refl), good_listed (y ∷ xs) h.1)

good_called : (name : List ℕ) (argument : List Sign) → name ≢ [] → scalars name ≡ true → AreGood argument → AreGood (called name argument)
good_called name argument some text h = (((λ e. cc), refl), (((some, text), refl), good_append argument (Mark kind.CloseRound ∷ []) h (((λ e. cc), refl), tt)))

good_element : (e : Option (List ℕ)) → IsNamed e → element_text e ≡ true → AreGood (element_signs e)
good_element None h g = (((λ e. cc), refl), tt)
good_element (Some n) h g = (((h, g), refl), tt)

good_compared : (o : Op) (v : List ℕ) → scalars v ≡ true → AreGood (compared_signs o v)
good_compared op.Exists v h = tt
good_compared op.Equals v h = (((λ e. cc), refl), ((h, refl), tt))
good_compared op.Word v h = (((λ e. cc), refl), ((h, refl), tt))
good_compared op.Dash v h = (((λ e. cc), refl), ((h, refl), tt))
good_compared op.Prefix v h = (((λ e. cc), refl), ((h, refl), tt))
good_compared op.Suffix v h = (((λ e. cc), refl), ((h, refl), tt))
good_compared op.Substring v h = (((λ e. cc), refl), ((h, refl), tt))

good_sign : (a : ℤ) → IsGood (Mark (sign_of a))
good_sign (pos n) = ((λ e. cc), refl)
good_sign (negsuc n) = ((λ e. cc), refl)

some_there : (x : List ℕ) → 0 < length x → x ≢ []
some_there [] some e = absurd (omega arith)
some_there (c ∷ x) some e = cc

good_number : (n : ℕ) → n ≤ most_number → IsGood (Number (decimal n))
good_number n small = let d = decimal_digits n (omega arith) in ((some_there (decimal n) d.some, d.digits), refl)

good_line : (a b : ℤ) → IsSmall a → IsSmall b → AreGood (line_signs a b)
good_line a b small_a small_b = (good_sign a, (good_number (nat_abs a) small_a, ((tt, refl), (good_sign b, (good_number (nat_abs b) small_b, tt)))))

good_nth : (k : Nth) (argument : List Sign) → AreGood argument → AreGood (called (nth_name k) argument)
good_nth nth.Child argument h = good_called (codes "nth-child") argument (λ e. cc) refl h
good_nth nth.LastChild argument h = good_called (codes "nth-last-child") argument (λ e. cc) refl h
good_nth nth.OfType argument h = good_called (codes "nth-of-type") argument (λ e. cc) refl h
good_nth nth.LastOfType argument h = good_called (codes "nth-last-of-type") argument (λ e. cc) refl h

good_pseudo : (p : Pseudo) → IsGood (Name (pseudo_name p))
good_pseudo pseudo.OnlyChild = (((λ e. cc), refl), refl)
good_pseudo pseudo.OnlyOfType = (((λ e. cc), refl), refl)
good_pseudo pseudo.Empty = (((λ e. cc), refl), refl)
good_pseudo pseudo.Root = (((λ e. cc), refl), refl)
good_pseudo pseudo.Never = (((λ e. cc), refl), refl)
good_pseudo pseudo.Link = (((λ e. cc), refl), refl)
good_pseudo pseudo.Checked = (((λ e. cc), refl), refl)
good_pseudo pseudo.Enabled = (((λ e. cc), refl), refl)
good_pseudo pseudo.Disabled = (((λ e. cc), refl), refl)

good_weight : (w : Weight) (argument : List Sign) → AreGood argument → AreGood (called (weight_name w) argument)
good_weight weight.Most argument h = good_called (codes "is") argument (λ e. cc) refl h
good_weight weight.Zero argument h = good_called (codes "where") argument (λ e. cc) refl h

good_not : (argument : List Sign) → AreGood argument → AreGood (called (codes "not") argument)
good_not argument h = good_called (codes "not") argument (λ e. cc) refl h

-- a test or its negation, of one piece
good_plain : (negated : Bool) (ss : List Sign) → AreGood ss → AreGood (cond negated (called (codes "not") ss) ss)
good_plain true ss h = good_not ss h
good_plain false ss h = h

good_link : (l : Link) → AreGood (link_signs l)
good_link link.First = tt
good_link link.Descendant = ((tt, refl), tt)
good_link link.Child = (((λ e. cc), refl), tt)
good_link link.Next = (((λ e. cc), refl), tt)
good_link link.Later = (((λ e. cc), refl), tt)

good_first : (l : Link) → AreGood (first_signs l)
good_first link.First = tt
good_first link.Descendant = tt
good_first link.Child = (((λ e. cc), refl), tt)
good_first link.Next = (((λ e. cc), refl), tt)
good_first link.Later = (((λ e. cc), refl), tt)

good_chain : (ps : List (Link × List Sign)) → AllByRecursion (λ p. AreGood p.1) ps → AreGood (chain_signs ps)
good_chain [] h = tt
good_chain (p ∷ ps) h = good_append (link_signs p.0 ++ p.1) (chain_signs ps) (good_append (link_signs p.0) p.1 (good_link p.0) h.0) (good_chain ps h.1)

good_path : (ps : List (Link × List Sign)) → AllByRecursion (λ p. AreGood p.1) ps → AreGood (path_signs ps)
good_path [] h = tt
good_path (p ∷ ps) h = good_append (first_signs p.0) (p.1 ++ chain_signs ps) (good_first p.0) (good_append p.1 (chain_signs ps) h.0 (good_chain ps h.1))

good_tail : (x : Tail) → IsTailNamed x → tail_text x ≡ true → AreGood (tail_signs x)
good_tail tail.Element h g = tt
good_tail tail.Text h g = (((λ e. cc), refl), ((((λ e. cc), refl), refl), tt))
good_tail (tail.Attr n) h g = (((λ e. cc), refl), ((((λ e. cc), refl), refl), (((h, g), refl), (((λ e. cc), refl), tt))))

-- ---- what stands in a choice

module _ (Fits : Bool → Option (List ℕ) → Simple → Type 0) (Writes : Simple → Type 0)
    (each : (inside : Bool) (around : Option (List ℕ)) (x : Simple) → Fits inside around x → Writes x → simple_texts x ≡ true → AreGood (simple_signs x)) where
  good_simples : (inside : Bool) (around : Option (List ℕ)) (xs : List Simple) → All (Fits inside around) xs → All Writes xs → list_all simple_texts xs ≡ true → AreGood (flat_map simple_signs xs)
  good_simples inside around [] h w u = tt
  good_simples inside around (x ∷ xs) h w u =
      let both = and_parts (simple_texts x) (list_all simple_texts xs) u in
      good_append (simple_signs x) (flat_map simple_signs xs)
      (each inside around x (All-head (Fits inside around) x xs h) (All-head Writes x xs w) both.0)
      (good_simples inside around xs (All-tail (Fits inside around) x xs h) (All-tail Writes x xs w) both.1)

  good_member : (inside : Bool) (around e : Option (List ℕ)) (xs : List Simple) → All (Fits inside around) xs → IsMember Writes e xs → (element_text e && list_all simple_texts xs) ≡ true → AreGood (element_signs e ++ flat_map simple_signs xs)
  good_member inside around e xs h w u =
      let both = and_parts (element_text e) (list_all simple_texts xs) u in
      good_append (element_signs e) (flat_map simple_signs xs) (good_element e w.0 both.0) (good_simples inside around xs h w.1 both.1)

  pub good_part : (inside : Bool) (p : Part) → All (Fits inside (out-Part p).element) (out-Part p).simples → IsMember Writes (out-Part p).element (out-Part p).simples → part_texts p ≡ true → AreGood (part_signs p).1
  good_part inside p h w u =
      subst (λ (d : Link × List Sign). AreGood d.1) (sym (part_is p)) (good_member inside (out-Part p).element (out-Part p).element (out-Part p).simples h w (sym (at_part p) ∙ u))

  abbrev CompoundFits : Bool → Option (List ℕ) → Compound → Type 0
  CompoundFits inside around c = All (Fits inside (innermost around (out-Compound c).element)) (out-Compound c).simples

  abbrev CompoundWrites : Compound → Type 0
  CompoundWrites c = IsMember Writes (out-Compound c).element (out-Compound c).simples

  abbrev PartWrites : Part → Type 0
  PartWrites p = IsMember Writes (out-Part p).element (out-Part p).simples

  good_compounds : (inside : Bool) (around : Option (List ℕ)) (cs : List Compound) → All (CompoundFits inside around) cs → All CompoundWrites cs → list_all compound_texts cs ≡ true → AllByRecursion AreGood (map compound_signs cs)
  good_compounds inside around [] h w u = tt
  good_compounds inside around (c ∷ cs) h w u =
      let both = and_parts (compound_texts c) (list_all compound_texts cs) u in (
        subst AreGood (sym (compound_is c))
            (good_member inside (innermost around (out-Compound c).element) (out-Compound c).element (out-Compound c).simples (All-head (CompoundFits inside around) c cs h) (All-head CompoundWrites c cs w) (sym (at_compound c) ∙ both.0)),
        good_compounds inside around cs (All-tail (CompoundFits inside around) c cs h) (All-tail CompoundWrites c cs w) both.1,
      )

  good_parts : (inside : Bool) (ps : List Part) → All (FitsPart (Fits inside)) ps → All PartWrites ps → list_all part_texts ps ≡ true → AllByRecursion (λ (d : Link × List Sign). AreGood d.1) (map part_signs ps)
  good_parts inside [] h w u = tt
  good_parts inside (p ∷ ps) h w u =
      let both = and_parts (part_texts p) (list_all part_texts ps) u in (
        good_part inside p (All-head (FitsPart (Fits inside)) p ps h).1 (All-head PartWrites p ps w) both.0,
        good_parts inside ps (All-tail (FitsPart (Fits inside)) p ps h) (All-tail PartWrites p ps w) both.1,
      )

  abbrev RelativeFits : Relative → Type 0
  RelativeFits r = (0 < length (out-Relative r).parts) × All (FitsPart (Fits true)) (out-Relative r).parts

  abbrev RelativeWrites : Relative → Type 0
  RelativeWrites r = All PartWrites (out-Relative r).parts

  good_relatives : (rs : List Relative) → All RelativeFits rs → All RelativeWrites rs → list_all relative_texts rs ≡ true → AllByRecursion AreGood (map relative_signs rs)
  good_relatives [] h w u = tt
  good_relatives (r ∷ rs) h w u =
      let both = and_parts (relative_texts r) (list_all relative_texts rs) u in (
        subst AreGood (sym (relative_is r))
            (good_path (map part_signs (out-Relative r).parts) (good_parts true (out-Relative r).parts (All-head RelativeFits r rs h).1 (All-head RelativeWrites r rs w) (sym (at_relative r) ∙ both.0))),
        good_relatives rs (All-tail RelativeFits r rs h) (All-tail RelativeWrites r rs w) both.1,
      )

  abbrev layer_texts : Layer → Bool
  layer_texts l = t.test_texts_step (map-Test Test Compound Part Relative Simple Bool Bool Bool Bool Bool test_texts compound_texts part_texts relative_texts simple_texts l)

  all_mapped : {A : Type 0} (p : A → Bool) (xs : List A) → list_all (λ b. b) (map p xs) ≡ list_all p xs
  all_mapped p [] = refl
  all_mapped p (x ∷ xs) = ap (λ b. p x && b) (all_mapped p xs)

  good_any : (negated : Bool) (w : Weight) (ss : List Sign) → AreGood ss → AreGood (cond negated (called (codes "not") ss) (called (weight_name w) ss))
  good_any true w ss h = good_not ss h
  good_any false w ss h = good_weight w ss h

  pub good_layer : (room inside : Bool) (around : Option (List ℕ)) (negated : Bool) (l : Layer) → FitsTest Fits room inside around negated l → WritesTest Writes room negated l → layer_texts l ≡ true
      → AreGood (cond negated (layer_signs l).denied (layer_signs l).stands)
  good_layer room inside around negated (open_.Element n) h w u = good_plain negated (element_signs n) (good_element n w.1 u)
  good_layer room inside around negated (open_.Id x) h w u = good_plain negated (Hash x ∷ []) (((w.1, u), refl), tt)
  good_layer room inside around negated (open_.Class x) h w u = good_plain negated (Mark kind.Dot ∷ Name x ∷ []) (((λ e. cc), refl), (((w.1, u), refl), tt))
  good_layer room inside around negated (open_.Attr name o v) h w u =
      let both = and_parts (scalars name) (scalars v) u in
      good_plain negated (attribute_signs name o v)
      (((λ e. cc), refl), (((w.1, both.0), refl), good_append (compared_signs o v) (Mark kind.CloseSquare ∷ []) (good_compared o v both.1) (((λ e. cc), refl), tt)))
  good_layer room inside around negated (open_.Nth k a b) h w u = good_plain negated (called (nth_name k) (line_signs a b)) (good_nth k (line_signs a b) (good_line a b h.0 h.1))
  good_layer room inside around negated (open_.Pseudo p) h w u = good_plain negated (Mark kind.Colon ∷ Name (pseudo_name p) ∷ []) (((λ e. cc), refl), (good_pseudo p, tt))
  good_layer room inside around negated (open_.Contains x) h w u = good_plain negated (called (codes "contains") (Quoted x ∷ [])) (good_called (codes "contains") (Quoted x ∷ []) (λ e. cc) refl ((u, refl), tt))
  good_layer room inside around negated (open_.Lang x) h w u = good_plain negated (called (codes "lang") (Quoted x ∷ [])) (good_called (codes "lang") (Quoted x ∷ []) (λ e. cc) refl ((u, refl), tt))
  good_layer room inside around negated (open_.Any v list) h w u =
      good_any negated v (listed (map compound_signs list)) (good_listed (map compound_signs list) (good_compounds inside around list h.2 w.1 (sym (all_mapped compound_texts list) ∙ u)))
  good_layer room inside around negated (open_.Has list) h w u =
      good_plain negated (called (codes "has") (listed (map relative_signs list)))
      (good_called (codes "has") (listed (map relative_signs list)) (λ e. cc) refl (good_listed (map relative_signs list) (good_relatives list h.3 w.1 (sym (all_mapped relative_texts list) ∙ u))))

-- ---- simples and selectors

text_layer : (x : Simple) → simple_texts x ≡ true → t.test_texts_step (map-Test Test Compound Part Relative Simple Bool Bool Bool Bool Bool test_texts compound_texts part_texts relative_texts simple_texts (out-Test x.test)) ≡ true
text_layer x h = sym (at_layer (out-Test x.test)) ∙ ap test_texts (views.roll-out-Test x.test) ∙ sym (at_simple x) ∙ h

pub good_simple : (n : ℕ) (inside : Bool) (around : Option (List ℕ)) (x : Simple) → FitsSimple n inside around x → WritesSimple n x → simple_texts x ≡ true → AreGood (simple_signs x)
unfolding FitsSimple WritesSimple
good_simple zero inside around x h w u =
    subst AreGood (sym (simple_is x)) (good_layer Nowhere Nothing (λ i a y f g k. absurd f) false inside around x.negated (out-Test x.test) h w (text_layer x u))
good_simple (suc n) inside around x h w u =
    subst AreGood (sym (simple_is x)) (good_layer (FitsSimple n) (WritesSimple n) (good_simple n) true inside around x.negated (out-Test x.test) h w (text_layer x u))

abbrev PartIsMember : Part → Type 0
PartIsMember p = IsMember (WritesSimple 8) (out-Part p).element (out-Part p).simples

good_chained : (ps : List Part) → All IsPart ps → All PartIsMember ps → list_all part_texts ps ≡ true → AllByRecursion (λ (d : Link × List Sign). AreGood d.1) (map part_signs ps)
good_chained [] h w u = tt
good_chained (p ∷ ps) h w u =
    let both = and_parts (part_texts p) (list_all part_texts ps) u in (
      good_part (FitsSimple 8) (WritesSimple 8) (good_simple 8) false p (All-head IsPart p ps h) (All-head PartIsMember p ps w) both.0,
      good_chained ps (All-tail IsPart p ps h) (All-tail PartIsMember p ps w) both.1,
    )

good_selector : (s : Selector) → IsSelector s → WritesSelector s → selector_texts s ≡ true → AreGood (selector_signs s)
good_selector s h w u =
    let both = and_parts (list_all part_texts s.parts) (tail_text s.tail) u in
    good_append (chain_signs (map part_signs s.parts)) (tail_signs s.tail) (good_chain (map part_signs s.parts) (good_chained s.parts h.parts w.parts both.0)) (good_tail s.tail w.tail both.1)

good_selectors : (ss : List Selector) → All IsSelector ss → All WritesSelector ss → list_all selector_texts ss ≡ true → AllByRecursion AreGood (map selector_signs ss)
good_selectors [] h w u = tt
good_selectors (s ∷ ss) h w u =
    let both = and_parts (selector_texts s) (list_all selector_texts ss) u in
    (good_selector s (All-head IsSelector s ss h) (All-head WritesSelector s ss w) both.0, good_selectors ss (All-tail IsSelector s ss h) (All-tail WritesSelector s ss w) both.1)

pub good_list : (list : SelectorList) → WellMade list → IsWritable list → AreTexts list → AreGood (list_signs list)
good_list list h w u = good_listed (map selector_signs list.items) (good_selectors list.items h.each w u)
