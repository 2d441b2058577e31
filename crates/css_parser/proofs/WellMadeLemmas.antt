-- Every accepted list is well made.
use Rattle.std.proofs.Common.{◌≡◌, ℕ, ◌+◌, ◌*◌, ◌<◌, ◌≤◌, Bool, false, List, [], ◌∷◌, length, map, flat_map, refl, sym, ◌∙◌, ap, subst, arith}
use Rattle.std.specs.Prelude.{◌≢◌, Option, Some, None, All, sum_by, is_none}
use Rattle.std.proofs.lemmas.List.Elements.{All-nil, All-cons}
use Rattle.std.proofs.lemmas.List.Sums.{sum_by-cons}
use Rattle.css_lexer.proofs.TokenPlaces.{few_tokens}
use Rattle.css_lexer.specs.declared.tokens.CssToken.{CssToken}
use Rattle.css_lexer.specs.Tokens.{most_selector}
use Rattle.css_selectors.specs.declared.selector.Compound as choice
use Rattle.css_selectors.specs.declared.selector.Link.TheVariants as link
use Rattle.css_selectors.specs.declared.selector.Part.{Part, out-Part}
use Rattle.css_selectors.specs.declared.selector.Relative.{Relative}
use Rattle.css_selectors.specs.declared.selector.SelectorList.{SelectorList}
use Rattle.css_selectors.specs.declared.selector.Simple.{Simple}
use Rattle.css_selectors.specs.declared.selector.Test.{Test}
use Rattle.css_selectors.specs.declared.selector.Test.TheOpen as test_open
use Rattle.css_selectors.specs.declared.selector.Test.TheViews as test_views
use Rattle.css_selectors.specs.Sizes.{part_size, simple_size}
use Rattle.css_selectors.specs.WellMade as made
use Rattle.css_selectors.specs.WellMade.{WellMade}
use Rattle.css_selectors.proofs.Equations.{size_of_part}
use Rattle.css_parser.specs.declared.pieces.Form.{Form}
use Rattle.css_parser.specs.declared.pieces.Compound.{Compound}
use Rattle.css_parser.specs.declared.pieces.ElementRead.{ElementRead}
use Rattle.css_parser.specs.Places.{skip}
use Rattle.css_parser.specs.Simples.{element}
use Rattle.css_parser.specs.Choices.{simple}
use Rattle.css_parser.specs.Grammar.{Simples, HasElement, past_element, IsCompound, Further, IsSelector, Others, Reads}
use Rattle.text_base.specs.Strings.{is_empty}
use Rattle.css_parser.specs.Refusals.{if_refused, forms_refusal, compound_refusal, selector_refusal, refusal}
use Rattle.css_parser.specs.Values.{form_simples}
use Rattle.css_parser.specs.Lists.{part_of, selector_of, list_of}
use Rattle.css_parser.specs.inner.Reading.{EndsForm}
use Rattle.css_parser.specs.Selecting.{Accepts}
use Rattle.css_parser.proofs.PlaceLemmas.{skip_within, stands_within}
use Rattle.css_parser.proofs.Fitting.{element_behind}
use Rattle.css_parser.proofs.ChoiceLemmas.{simple_ends}
use Rattle.css_parser.proofs.ValueFits.{GivesForms, neither, forms_give}
use Rattle.css_parser.proofs.ChoiceFits.{by_gives}
use Rattle.css_parser.proofs.LinkLemmas.{joined}

-- what is seen of a part
abbrev PartLayer : Type 0
PartLayer = test_open.Part-F Test choice.Compound Part Relative Simple

pub part_is : (c : Compound) → out-Part (part_of c) ≡ record { link = c.link; element = c.element; simples = flat_map form_simples c.forms }
part_is c = test_views.out-roll-Part (record { link = c.link; element = c.element; simples = flat_map form_simples c.forms })

part_link : (c : Compound) → (out-Part (part_of c)).link ≡ c.link
part_link c = ap (λ (d : PartLayer). d.link) (part_is c)

size_is : (c : Compound) → part_size (part_of c) ≡ 1 + sum_by simple_size (flat_map form_simples c.forms)
size_is c = size_of_part (part_of c) ∙ ap (λ (d : PartLayer). 1 + sum_by simple_size d.simples) (part_is c)

module _ (text : List ℕ) (ts : List CssToken) where
  forms_given : (i j : ℕ) (xs : List Form) → i ≤ length ts → Simples text ts i xs j → GivesForms 8 false i xs j
  forms_given i j xs low h = forms_give ts 8 false (simple text ts) (simple_ends text ts) (λ k l. by_gives text ts 8 k false l) i j xs low h

  record IsSpan (i j : ℕ) : Type 0 where
    order : i ≤ j
    within : j ≤ length ts

  forms_span : (i j : ℕ) (xs : List Form) → i ≤ length ts → Simples text ts i xs j → IsSpan i j
  forms_span i j [] low h = record { order = omega arith; within = omega arith }
  forms_span i j (x ∷ xs) low h =
      let behind = subst (EndsForm ts i) h.1 (simple_ends text ts i low) in
      let rest = forms_span h.0 j xs behind.within h.2 in
      record { order = omega (arith, behind.moves, rest.order); within = rest.within }

  -- some forms end behind their place
  forms_move : (i j : ℕ) (xs : List Form) → i ≤ length ts → Simples text ts i xs j → xs ≢ [] → i < j
  forms_move i j [] low h some = absurd (some refl)
  forms_move i j (x ∷ xs) low h some =
      let behind = subst (EndsForm ts i) h.1 (simple_ends text ts i low) in
      omega (arith, behind.moves, (forms_span h.0 j xs behind.within h.2).order)

  -- A compound is well made, and has at most two parts and simple selectors for each token.
  record Given (c : Compound) (i j : ℕ) : Type 0 where
    part : (last : Bool) → compound_refusal last c ≡ None → made.IsPart (part_of c)
    size : part_size (part_of c) + 2 * i ≤ 2 * j
    within : j ≤ length ts

  of_forms : (i k j : ℕ) (c : Compound) → i ≤ k → i < j → j ≤ length ts → GivesForms 8 false k c.forms j → Given c i j
  of_forms i k j c le moves end g = record {
    part = λ last r.
        let parts = neither (if_refused c.prefixed _) (forms_refusal (is_none c.element) last c.forms) r in
        subst (λ (d : PartLayer). All (made.FitsSimple 8 false d.element) d.simples) (sym (part_is c)) (g.fits c.element last parts.other);
    size = omega (arith, size_is c, g.size);
    within = end;
  }

  given : (i j : ℕ) (c : Compound) → i ≤ length ts → IsCompound text ts i c j → Given c i j
  given i j c l h = by_element (element ts i) refl
    where
      by_element : (o : Option ElementRead) → element ts i ≡ o → Given c i j
      by_element None e =
          let some = (subst (λ o. HasElement o c) e h.begins).2 in
          let simples = subst (λ o. Simples text ts (past_element o i) c.forms j) e h.simples in
          of_forms i i j c (omega arith) (forms_move i j c.forms l simples some) (forms_span i j c.forms l simples).within (forms_given i j c.forms l simples)
      by_element (Some r) e =
          let behind = element_behind ts i r e in
          let moves = behind.moves in
          let simples = subst (λ o. Simples text ts (past_element o i) c.forms j) e h.simples in
          let g = forms_given r.end j c.forms behind.within simples in
          let size = g.size in
          of_forms i r.end j c (omega arith) (omega arith) (forms_span r.end j c.forms behind.within simples).within g

  abbrev IsOther : Part → Type 0
  IsOther p = (out-Part p).link ≢ link.First

  record Rest (cs : List Compound) (i j : ℕ) : Type 0 where
    links : All IsOther (map part_of cs)
    parts : All made.IsPart (map part_of cs)
    size : sum_by part_size (map part_of cs) + 2 * i ≤ 2 * j
    within : j ≤ length ts

  rest : (i j : ℕ) (cs : List Compound) → i ≤ length ts → Further text ts i cs j → selector_refusal cs ≡ None → Rest cs i j
  rest i j [] l h r = record { links = All-nil IsOther; parts = All-nil made.IsPart; size = omega arith; within = omega arith }
  rest i j (c ∷ cs) l h r =
      let parts = neither (compound_refusal (is_empty cs) c) (selector_refusal cs) r in
      let join = joined ts i _ h.2 in
      let first = given h.0 h.1 c (join.within l) h.3 in
      let more = rest h.1 j cs first.within h.4 parts.other in
      let low = join.order in let here = first.size in let there = more.size in
      record {
        links = All-cons IsOther (part_of c) (map part_of cs) (λ e. join.other (sym (part_link c) ∙ e)) more.links;
        parts = All-cons made.IsPart (part_of c) (map part_of cs) (first.part (is_empty cs) parts.first) more.parts;
        size = omega (arith, sum_by-cons part_size (part_of c) (map part_of cs));
        within = more.within;
      }

  selector_made : (i j : ℕ) (cs : List Compound) → length ts ≤ most_selector → i ≤ length ts → IsSelector text ts i cs j → selector_refusal cs ≡ None → made.IsSelector (selector_of cs)
  selector_made i j [] few l h r = absurd h
  selector_made i j (c ∷ cs) few l h r =
      let parts = neither (compound_refusal (is_empty cs) c) (selector_refusal cs) r in
      let first = given i h.0 c l h.2 in
      let more = rest h.0 j cs first.within h.3 parts.other in
      let here = first.size in let there = more.size in let end = more.within in
      record {
        links = (part_link c ∙ h.1, more.links);
        parts = All-cons made.IsPart (part_of c) (map part_of cs) (first.part (is_empty cs) parts.first) more.parts;
        size = omega (arith, sum_by-cons part_size (part_of c) (map part_of cs));
      }

  selector_end : (i j : ℕ) (cs : List Compound) → i ≤ length ts → IsSelector text ts i cs j → selector_refusal cs ≡ None → j ≤ length ts
  selector_end i j [] l h r = absurd h
  selector_end i j (c ∷ cs) l h r =
      let parts = neither (compound_refusal (is_empty cs) c) (selector_refusal cs) r in
      (rest h.0 j cs (given i h.0 c l h.2).within h.3 parts.other).within

  others_made : (i : ℕ) (ss : List (List Compound)) → length ts ≤ most_selector → Others text ts i ss → refusal ss ≡ None → All made.IsSelector (map selector_of ss)
  others_made i [] few h r = All-nil made.IsSelector
  others_made i (s ∷ ss) few h r =
      let parts = neither (selector_refusal s) (refusal ss) r in
      let inside = stands_within ts i 19 (omega arith) h.1 in
      let start = skip_within ts (i + 1) (omega arith) in
      All-cons made.IsSelector (selector_of s) (map selector_of ss) (selector_made (skip ts (i + 1)) h.0 s few start h.2 parts.first) (others_made (skip ts h.0) ss few h.3 parts.other)

  list_made : (ss : List (List Compound)) → length ts ≤ most_selector → Reads text ts ss → refusal ss ≡ None → WellMade (list_of ss)
  list_made [] few h r = absurd h
  list_made (s ∷ ss) few h r =
      let parts = neither (selector_refusal s) (refusal ss) r in
      record {
        some = omega arith;
        each = All-cons made.IsSelector (selector_of s) (map selector_of ss) (selector_made (skip ts 0) h.0 s few (skip_within ts 0 (omega arith)) h.1 parts.first) (others_made (skip ts h.0) ss few h.2 parts.other);
      }

pub well_made : (text : List ℕ) (list : SelectorList) → Accepts text list → WellMade list
well_made text list h = subst WellMade (sym h.is_list) (list_made text h.tokens h.found (few_tokens text h.tokens h.spelled) h.reads h.allowed)
