-- The printed text of every selector list that is well made is spelled by its terms.
use Rattle.std.proofs.Common.{◌≡◌, refl, sym, subst, ℕ, suc, ◌<◌, ◌≤◌, true, false, List, [], ◌∷◌, ◌++◌, map, length, codes, append-nil, arith}
use Rattle.std.specs.Prelude.{◌≢◌}
use Rattle.std.specs.List.{AllByRecursion, list_all}
use Rattle.std.specs.Str.{chars}
use Rattle.std.proofs.lemmas.Bool.{and_parts}
use Rattle.std.proofs.lemmas.List.Elements.{recursion_from_All}
use Rattle.css_selectors.specs.declared.selector.Dialect.{Dialect}
use Rattle.css_selectors.specs.declared.selector.Link.TheVariants as link
use Rattle.css_selectors.specs.declared.selector.Part.{Part, out-Part}
use Rattle.css_selectors.specs.declared.selector.Selector.{Selector}
use Rattle.css_selectors.specs.declared.selector.SelectorList.{SelectorList}
use Rattle.css_selectors.specs.declared.selector.Tail.{Tail}
use Rattle.css_selectors.specs.declared.selector.Tail.TheVariants as tail
use Rattle.css_selectors.specs.WellMade.{WellMade, IsSelector, IsPart, AreLinked}
use Rattle.xpath_lexer.specs.Tokens.{Text}
use Rattle.xpath_parser.specs.declared.term.Term.{Term}
use Rattle.xpath_parser.specs.declared.term.Term.TheVariants as t
use Rattle.xpath_lexer.specs.Places.{most_xpath}
use Rattle.xpath_parser.specs.Terms.{axis_names, function_names, node_type_names, operator_names, most_open}
use Rattle.css_printed.specs.Names.{attribute_text}
use Rattle.css_printed.specs.Printed.{part_text, tail_text, parts_text, selector_text, joined, printed}
use Rattle.css_selectors.specs.Texts as texts
use Rattle.css_selectors.specs.Texts.{part_texts, selector_texts, AreTexts}
use Rattle.css_printed.proofs.Spelling.{Spoken, nothing}
use Rattle.css_printed.proofs.SpellFixed.{Puts, Piece, ◌⨾◌, fix, then_puts, nothing_puts}
use Rattle.css_printed.proofs.SpellLinks.{slash_puts, attribute_no_slash}
use Rattle.css_printed.proofs.SpellNames.{attribute_puts}
use Rattle.css_printed.proofs.SpellTests.{eight}
use Rattle.css_printed.proofs.SpellChoices.{thrice, all_true, PartSpells, parts_follow, part_spells}
use Rattle.css_printed.proofs.TemplateTerms as terms

-- ---- parts

-- room for the brackets of eight levels
abbrev full : ℕ → ℕ
full r = eight (thrice 8 r)

module _ (d : Dialect) where
  all_spell : (ps : List Part) → AllByRecursion (λ q. part_texts q ≡ true) ps → AllByRecursion IsPart ps → AllByRecursion (PartSpells d 8) ps
  all_spell [] g h = tt
  all_spell (p ∷ ps) g h = (part_spells d p g.0 h.0, all_spell ps g.1 h.1)

  parts_put : (ps : List Part) → AreLinked ps → AllByRecursion (λ q. part_texts q ≡ true) ps → AllByRecursion IsPart ps → (r : ℕ)
      → Puts (full r) false (full r) true (parts_text d ps) (terms.parts_terms d ps)
  parts_put [] k g h r = absurd k
  parts_put (p ∷ ps) k g h r =
      then_puts (full r) false (full r) true (full r) true (part_text d p) (parts_text d ps) (terms.part_terms d p) (terms.further_terms d ps)
      ((part_spells d p g.0 h.0).leading k.0 r) (parts_follow d 8 ps (recursion_from_All (λ (q : Part). (out-Part q).link ≢ link.First) ps k.1) (all_spell ps g.1 h.1) r)

-- ---- selectors and lists

tail_puts : (d : Dialect) (u : Tail) → texts.tail_text u ≡ true → (r : ℕ) → Puts (eight r) true (eight r) true (tail_text d u) (terms.ending_terms d u)
unfolding axis_names function_names node_type_names operator_names chars
tail_puts d tail.Element h r = nothing_puts (eight r) true
tail_puts d tail.Text h r = let all : Piece (eight r) true (eight r) true = fix (codes "/text()") (λ rest. refl) refl in all.puts
tail_puts d (tail.Attr n) h r = slash_puts (eight r) (attribute_text d n) (terms.attribute d n) (attribute_no_slash d n) (attribute_puts (suc (suc (suc (suc (suc (suc r)))))) d n h)

selector_puts : (d : Dialect) (s : Selector) → selector_texts s ≡ true → IsSelector s → (r : ℕ) → Puts (full r) false (full r) true (selector_text d s) (terms.selector_terms d s)
selector_puts d s g h r =
    let both : (list_all part_texts s.parts ≡ true) × (texts.tail_text s.tail ≡ true) = and_parts (list_all part_texts s.parts) (texts.tail_text s.tail) g in
    then_puts (full r) false (full r) true (full r) true (parts_text d s.parts) (tail_text d s.tail) (terms.parts_terms d s.parts) (terms.ending_terms d s.tail)
    (parts_put d s.parts h.links (all_true part_texts s.parts both.0) (recursion_from_All IsPart s.parts h.parts) r) (tail_puts d s.tail both.1 (thrice 8 r))

bar_puts : (x y : Text) (ts us : List Term) (r : ℕ) → Puts (eight r) false (eight r) true x ts → Puts (eight r) false (eight r) true y us
    → Puts (eight r) false (eight r) true (x ++ (codes " | " ++ y)) (ts ++ (t.Bar ∷ us))
bar_puts x y ts us r p q =
    let one : Piece (eight r) false (eight r) true = record { text = x; terms = ts; puts = p } in
    let more : Piece (eight r) false (eight r) true = record { text = y; terms = us; puts = q } in
    let all : Piece (eight r) false (eight r) true = one ⨾ fix (codes " | ") (λ rest. refl) refl ⨾ more in all.puts

items_put : (d : Dialect) (s : Selector) (items : List Selector) → AllByRecursion (λ v. selector_texts v ≡ true) (s ∷ items) → AllByRecursion IsSelector (s ∷ items) → (r : ℕ)
    → Puts (full r) false (full r) true (joined (map (selector_text d) (s ∷ items))) (terms.united_terms d (s ∷ items))
items_put d s [] g h r = selector_puts d s g.0 h.0 r
items_put d s (u ∷ us) g h r =
    bar_puts (selector_text d s) (joined (map (selector_text d) (u ∷ us))) (terms.selector_terms d s) (terms.united_terms d (u ∷ us)) (thrice 8 r)
    (selector_puts d s g.0 h.0 r) (items_put d u us g.1 h.1 r)

some_items : (d : Dialect) (items : List Selector) → 0 < length items → AllByRecursion (λ v. selector_texts v ≡ true) items → AllByRecursion IsSelector items → (r : ℕ)
    → Puts (full r) false (full r) true (joined (map (selector_text d) items)) (terms.united_terms d items)
some_items d [] some g h r = absurd (omega arith)
some_items d (s ∷ items) some g h r = items_put d s items g h r

whole_spoken : (x : Text) (ts : List Term) → length x ≤ most_xpath → ((r : ℕ) → Puts (full r) false (full r) true x ts) → Spoken most_open false x ts
whole_spoken x ts short p =
    let P : Text → Type 0 = λ z. Spoken most_open false z ts in
    let Q : List Term → Type 0 = λ z. Spoken most_open false (x ++ []) z in
    let L : Text → Type 0 = λ z. length z ≤ most_xpath in
    subst P (append-nil x) (subst Q (append-nil ts) (p 32 [] [] (subst L (sym (append-nil x)) short) (nothing most_open)))

-- the whole list
pub list_spoken : (d : Dialect) (list : SelectorList) → WellMade list → AreTexts list → length (printed d list) ≤ most_xpath
    → Spoken most_open false (printed d list) (terms.list_terms d list)
list_spoken d list made are_texts short =
    whole_spoken (printed d list) (terms.list_terms d list) short
    (some_items d list.items made.some (all_true selector_texts list.items are_texts) (recursion_from_All IsSelector list.items made.each))
