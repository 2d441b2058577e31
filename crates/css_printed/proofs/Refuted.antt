-- A text that keeps the meaning of two lists answers alike for both. On a small document the selectors answer otherwise than the
-- selectors whose texts these are.
use Rattle.std.proofs.Common.{◌≡◌, refl, sym, ◌∙◌, ap, ℕ, zero, suc, ◌+◌, ◌^◌, ◌<◌, List, [], ◌∷◌, length, arith, inl, inr, Some, None, codes, true, false}
use Rattle.std.specs.Prelude.{◌≢◌, pos, negsuc, IsTrue, Option}
use Rattle.std.proofs.lemmas.List.Elements.{All-cons, All-nil}
use Rattle.doc_model.specs.Document.{Document, no_row, is_attribute, below_within, IsRow}
use Rattle.css_selectors.specs.declared.selector.Dialect.TheVariants.{Html}
use Rattle.css_selectors.specs.declared.selector.Link.{Link}
use Rattle.css_selectors.specs.declared.selector.Link.TheVariants as link
use Rattle.css_selectors.specs.declared.selector.Nth.TheVariants as nth
use Rattle.css_selectors.specs.declared.selector.Part.{Part, out-Part}
use Rattle.css_selectors.specs.declared.selector.Pseudo.TheVariants as pseudo
use Rattle.css_selectors.specs.declared.selector.Selector.{Selector}
use Rattle.css_selectors.specs.declared.selector.SelectorList.{SelectorList}
use Rattle.css_selectors.specs.declared.selector.Tail.TheVariants as tail
use Rattle.css_selectors.specs.declared.selector.Test.TheOpen as open_
use Rattle.css_selectors.specs.declared.selector.Test.TheVariants as v
use Rattle.css_selectors.specs.declared.selector.Test.TheViews as views
use Rattle.css_selectors.specs.Examples.{part, is, is_not, selector, single, alone}
use Rattle.css_selectors.specs.Sizes.{size_of}
use Rattle.css_selectors.specs.WellMade.{IsPart, IsSelector, WellMade, FitsSimple}
use Rattle.css_selectors.proofs.Equations as e
use Rattle.css_selectors.proofs.Made.{fits, part_fits, link_is, one}
use Rattle.css_selectors.proofs.TextsAt as texts
use Rattle.css_meaning.specs.Examples.{element}
use Rattle.css_meaning.specs.Holding as s
use Rattle.css_meaning.specs.Holding.{element_holds}
use Rattle.css_meaning.specs.Matching.{answers}
use Rattle.css_meaning.specs.Nth.{is_nth}
use Rattle.css_meaning.proofs.Plain as p
use Rattle.css_meaning.proofs.Plain.{Plain, opposite}
use Rattle.xpath_parser.specs.Denote.{denote}
use Rattle.xpath_values.specs.declared.value.Value.TheVariants.{Nodes}
use Rattle.css_printed.specs.Promise.{KeepsMeaning, IsWithin}
use Rattle.css_printed.specs.Promise as promise
use Rattle.css_printed.specs.WrongTexts.{WrongTexts, next_paragraph, every_third, only_division, division}
use Rattle.css_printed.proofs.PrintedAt.{said_nth, said_pseudo}
use Rattle.css_printed.proofs.Theorem.{keeps_meaning}
use Rattle.css_printed.proofs.Worked as w

-- <div><h1></h1><p></p><p></p></div>
abbrev family : Document
family = no_row ∷ element (codes "div") 0 ∷ element (codes "h1") 1 ∷ element (codes "p") 1 ∷ element (codes "p") 1 ∷ []

row_1 : IsRow family 1
unfolding below_within
row_1 = record { kind = λ h. cc; parent = omega arith; owner = inl refl; nested = refl; element = λ h. ((λ e. cc), refl); attribute = λ h. cc; distinct = λ h. cc; words = λ h. cc; comment = λ h. cc }

row_2 : IsRow family 2
unfolding below_within
row_2 = record { kind = λ h. cc; parent = omega arith; owner = inr refl; nested = refl; element = λ h. ((λ e. cc), refl); attribute = λ h. cc; distinct = λ h. cc; words = λ h. cc; comment = λ h. cc }

row_3 : IsRow family 3
unfolding below_within
row_3 = record { kind = λ h. cc; parent = omega arith; owner = inr refl; nested = refl; element = λ h. ((λ e. cc), refl); attribute = λ h. cc; distinct = λ h. cc; words = λ h. cc; comment = λ h. cc }

row_4 : IsRow family 4
unfolding below_within
row_4 = record { kind = λ h. cc; parent = omega arith; owner = inr refl; nested = refl; element = λ h. ((λ e. cc), refl); attribute = λ h. cc; distinct = λ h. cc; words = λ h. cc; comment = λ h. cc }

rest : (i : ℕ) → 0 < i → i < length family → IsRow family i
rest zero p l = absurd (omega arith)
rest (suc zero) p l = row_1
rest (suc (suc zero)) p l = row_2
rest (suc (suc (suc zero))) p l = row_3
rest (suc (suc (suc (suc zero)))) p l = row_4
rest (suc (suc (suc (suc (suc i))))) p l = absurd (omega arith)

no_attribute : (r : ℕ) → is_attribute family r ≡ false
no_attribute zero = refl
no_attribute (suc zero) = refl
no_attribute (suc (suc zero)) = refl
no_attribute (suc (suc (suc zero))) = refl
no_attribute (suc (suc (suc (suc zero)))) = refl
no_attribute (suc (suc (suc (suc (suc r))))) = refl

none : {P : Type 0} (r : ℕ) → IsTrue (is_attribute family r) → P
none r h = let no = no_attribute r in absurd (cc)

within : (list : SelectorList) → IsWithin list family
within list = record {
  document = record { some = omega arith; root = refl; rest = rest };
  countable = record { all_rows = omega arith; values = λ r h. none r h };
  no_form_feed = λ w r h. none r h;
}

-- a text that keeps the meaning of two lists
alike : (list other : SelectorList) (text : List ℕ) → KeepsMeaning Html list text → KeepsMeaning Html other text → answers family Html list 0 ≡ answers family Html other 0
alike list other text k j =
    let same : Nodes (answers family Html list 0) ≡ Nodes (answers family Html other 0) =
    sym (k.answers_from family (within list) 0 (omega arith)) ∙ ap (λ x. denote family x (promise.alone 0)) (j.one_expression k.expression k.reads) ∙ j.answers_from family (within other) 0 (omega arith) in
    cc

-- ---- h1 ~ p, p:nth-child(3n), div:not(:root):only-child and * div

later_paragraphs : Selector
later_paragraphs = selector (part link.First (Some (codes "h1")) [] ∷ part link.Later (Some (codes "p")) [] ∷ []) tail.Element

every_third_other : Selector
every_third_other = single (Some (codes "p")) (is (v.Nth nth.Child (pos 3) (pos 0)) ∷ [])

no_root : Selector
no_root = single (Some (codes "div")) (is_not (v.Pseudo pseudo.Root) ∷ is (v.Pseudo pseudo.OnlyChild) ∷ [])

below_another : Selector
below_another = selector (part link.First None [] ∷ part link.Descendant (Some (codes "div")) [] ∷ []) tail.Element

-- ---- they are well made

made : (s : Selector) → IsSelector s → WellMade (alone s)
made s h = record { some = omega arith; each = one IsSelector s h }

sized : (s : Selector) (n : ℕ) → size_of s ≡ n → n < 1000 → size_of s + 1 < 2 ^ 32
sized s n e small = omega (arith, e, small)

-- two parts, the second joined by a combinator
two_parts : (l : Link) (first second : Option (List ℕ)) → (l ≢ link.First) → IsSelector (selector (part link.First first [] ∷ part l second [] ∷ []) tail.Element)
two_parts l first second joined = record {
  links = (link_is link.First first [], one (λ (q : Part). (out-Part q).link ≢ link.First) (part l second []) (λ h. joined (sym (link_is l second []) ∙ h)));
  parts = All-cons IsPart (part link.First first []) (part l second [] ∷ []) (part_fits link.First first [] (All-nil _)) (one IsPart (part l second []) (part_fits l second [] (All-nil _)));
  size = sized (selector (part link.First first [] ∷ part l second [] ∷ []) tail.Element) 2 (simp (e.size_of_part, views.out-roll-Part) refl) (omega arith);
}

third_made : IsSelector every_third_other
unfolding every_third_other
third_made = record {
  links = (link_is link.First (Some (codes "p")) _, All-nil _);
  parts = one IsPart _ (part_fits link.First (Some (codes "p")) _ (one (FitsSimple 8 false (Some (codes "p"))) _
      (fits 7 false (Some (codes "p")) false (v.Nth nth.Child (pos 3) (pos 0)) (open_.Nth nth.Child (pos 3) (pos 0)) (v.rolls-Nth nth.Child (pos 3) (pos 0)) (omega arith, omega arith, tt))));
  size = sized every_third_other 2 (simp (e.size_of_part, e.size_of_simple, e.size_of_nth, views.out-roll-Part) refl) (omega arith);
}

no_root_made : IsSelector no_root
unfolding no_root
no_root_made = record {
  links = (link_is link.First (Some (codes "div")) _, All-nil _);
  parts = one IsPart _ (part_fits link.First (Some (codes "div")) _ (All-cons (FitsSimple 8 false (Some (codes "div"))) (is_not (v.Pseudo pseudo.Root)) (is (v.Pseudo pseudo.OnlyChild) ∷ [])
      (fits 7 false (Some (codes "div")) true (v.Pseudo pseudo.Root) (open_.Pseudo pseudo.Root) (v.rolls-Pseudo pseudo.Root) tt)
      (one (FitsSimple 8 false (Some (codes "div"))) (is (v.Pseudo pseudo.OnlyChild)) (fits 7 false (Some (codes "div")) false (v.Pseudo pseudo.OnlyChild) (open_.Pseudo pseudo.OnlyChild) (v.rolls-Pseudo pseudo.OnlyChild) tt))));
  size = sized no_root 3 (simp (e.size_of_part, e.size_of_simple, e.size_of_pseudo, views.out-roll-Part) refl) (omega arith);
}

-- ---- what they answer

abbrev named : Link → List ℕ → Link × s.Where
named l n = (l, element_holds family Html (Some n) [])

abbrev tested : List ℕ → List s.Where → Plain
tested n xs = ((link.First, element_holds family Html (Some n) xs) ∷ [], tail.Element)

next_answers : answers family Html (alone next_paragraph) 0 ≡ 3 ∷ []
unfolding below_within
next_answers = p.answers_plain family Html (alone next_paragraph) ((named link.First (codes "h1") ∷ named link.Next (codes "p") ∷ [], tail.Element) ∷ []) 0 (simp (p.part_is family Html) refl) ∙ refl

later_answers : answers family Html (alone later_paragraphs) 0 ≡ 3 ∷ 4 ∷ []
unfolding below_within later_paragraphs
later_answers = p.answers_plain family Html (alone later_paragraphs) ((named link.First (codes "h1") ∷ named link.Later (codes "p") ∷ [], tail.Element) ∷ []) 0 (simp (p.part_is family Html) refl) ∙ refl

third_answers : answers family Html (alone every_third) 0 ≡ 3 ∷ []
unfolding below_within is_nth
third_answers = p.answers_plain family Html (alone every_third) (tested (codes "p") (s.test_step family Html (open_.Nth nth.Child (pos 3) (negsuc 3)) ∷ []) ∷ []) 0 (simp (p.part_is family Html, p.is_is family Html, p.nth_is family Html) refl) ∙ refl

other_answers : answers family Html (alone every_third_other) 0 ≡ 4 ∷ []
unfolding below_within is_nth every_third_other
other_answers = p.answers_plain family Html (alone every_third_other) (tested (codes "p") (s.test_step family Html (open_.Nth nth.Child (pos 3) (pos 0)) ∷ []) ∷ []) 0 (simp (p.part_is family Html, p.is_is family Html, p.nth_is family Html) refl) ∙ refl

only_answers : answers family Html (alone only_division) 0 ≡ 1 ∷ []
unfolding below_within
only_answers = p.answers_plain family Html (alone only_division) (tested (codes "div") (s.test_step family Html (open_.Pseudo pseudo.OnlyChild) ∷ []) ∷ []) 0 (simp (p.part_is family Html, p.is_is family Html, p.pseudo_is family Html) refl) ∙ refl

no_root_answers : answers family Html (alone no_root) 0 ≡ []
unfolding below_within opposite no_root
no_root_answers =
    p.answers_plain family Html (alone no_root) (tested (codes "div") (opposite (s.test_step family Html (open_.Pseudo pseudo.Root)) ∷ s.test_step family Html (open_.Pseudo pseudo.OnlyChild) ∷ []) ∷ []) 0
    (simp (p.part_is family Html, p.is_is family Html, p.not_is family Html, p.pseudo_is family Html) refl) ∙ refl

division_answers : answers family Html (alone division) 0 ≡ 1 ∷ []
unfolding below_within
division_answers = p.answers_plain family Html (alone division) (tested (codes "div") [] ∷ []) 0 (simp (p.part_is family Html) refl) ∙ refl

below_answers : answers family Html (alone below_another) 0 ≡ []
unfolding below_within below_another
below_answers = p.answers_plain family Html (alone below_another) (((link.First, element_holds family Html None []) ∷ named link.Descendant (codes "div") ∷ [], tail.Element) ∷ []) 0 (simp (p.part_is family Html) refl) ∙ refl

-- ---- so their texts do not keep the meaning of the others

pub refuted : WrongTexts
unfolding lib.Utf8.encode later_paragraphs every_third_other no_root below_another
refuted = record {
  any_later_sibling = λ k.
      let same = sym next_answers ∙ alike (alone next_paragraph) (alone later_paragraphs) _ k
      (keeps_meaning Html (alone later_paragraphs) _ (made later_paragraphs (two_parts link.Later (Some (codes "h1")) (Some (codes "p")) (λ h. cc))) (simp (texts.at_part, views.out-roll-Part) refl) (sym (simp w.part_is refl)) (omega arith)) ∙ later_answers in
      cc;
  truncating_remainder = λ k.
      let same = sym third_answers ∙ alike (alone every_third) (alone every_third_other) _ k
      (keeps_meaning Html (alone every_third_other) _ (made every_third_other third_made) (simp (texts.at_part, texts.at_simple, texts.at_nth, views.out-roll-Part) refl)
      (sym (simp (w.part_is, w.plain_is, said_nth) (rw (w.three_digit, w.two_digit) refl))) (omega arith)) ∙ other_answers in
      cc;
  root_never_only_child = λ k.
      let same = sym only_answers ∙ alike (alone only_division) (alone no_root) _ k
      (keeps_meaning Html (alone no_root) _ (made no_root no_root_made) (simp (texts.at_part, texts.at_simple, texts.at_pseudo, views.out-roll-Part) refl)
      (sym (simp (w.part_is, w.plain_is, w.not_is, said_pseudo) (rw w.zero_digit refl))) (omega arith)) ∙ no_root_answers in
      cc;
  context_left_out = λ k.
      let same = sym division_answers ∙ alike (alone division) (alone below_another) _ k
      (keeps_meaning Html (alone below_another) _ (made below_another (two_parts link.Descendant None (Some (codes "div")) (λ h. cc))) (simp (texts.at_part, views.out-roll-Part) refl) (sym (simp w.part_is refl)) (omega arith)) ∙ below_answers in
      cc;
}
