-- A list that is read from a text in UTF-8 has texts alone.
use Rattle.std.proofs.Common.{◌≡◌, ℕ, zero, suc, ◌+◌, Bool, true, false, ◌&&◌, cond, List, [], ◌∷◌, length, map, fold, IsUtf8, refl, sym, ◌∙◌, ap, subst}
use Rattle.std.proofs.lemmas.Bool.{and_from}
use Rattle.std.specs.List.{AllByRecursion, list_all}
use Rattle.std.specs.Prelude.{◌||◌, Option, Some, None}
use Rattle.css_lexer.specs.declared.tokens.CssKind.TheVariants as kind
use Rattle.css_lexer.specs.declared.tokens.CssToken.{CssToken}
use Rattle.css_lexer.proofs.TokenTexts.{all_texts}
use Rattle.css_selectors.specs.declared.selector.Compound as choice
use Rattle.css_selectors.specs.declared.selector.Link.{Link}
use Rattle.css_selectors.specs.declared.selector.Link.TheVariants as link
use Rattle.css_selectors.specs.declared.selector.Part.{Part}
use Rattle.css_selectors.specs.declared.selector.Relative.{Relative}
use Rattle.css_selectors.specs.declared.selector.SelectorList.{SelectorList}
use Rattle.css_selectors.specs.declared.selector.Simple.{Simple}
use Rattle.css_selectors.specs.declared.selector.Tail.{Tail}
use Rattle.css_selectors.specs.declared.selector.Tail.TheVariants as tail
use Rattle.css_selectors.specs.declared.selector.Test.{Test}
use Rattle.css_selectors.specs.declared.selector.Test.TheOpen as test_open
use Rattle.css_selectors.specs.Texts.{element_text, part_texts, simple_texts, tail_text, selector_texts, AreTexts}
use Rattle.css_selectors.proofs.TextsAt.{at_part}
use Rattle.css_parser.specs.declared.pieces.Word.{Word}
use Rattle.css_parser.specs.declared.pieces.Word.TheVariants as word
use Rattle.css_parser.specs.declared.pieces.Read.{Read}
use Rattle.css_parser.specs.declared.pieces.Form.{Form}
use Rattle.css_parser.specs.declared.pieces.Form.TheOpen as open_
use Rattle.css_parser.specs.declared.pieces.Form.TheViews as views
use Rattle.css_parser.specs.declared.pieces.FormRead.{FormRead}
use Rattle.css_parser.specs.declared.pieces.FormsRead.{FormsRead}
use Rattle.css_parser.specs.declared.pieces.Inner.{Inner}
use Rattle.css_parser.specs.declared.pieces.InnerRead.{InnerRead}
use Rattle.css_parser.specs.declared.pieces.InnersRead.{InnersRead}
use Rattle.css_parser.specs.declared.pieces.Member.{Member}
use Rattle.css_parser.specs.declared.pieces.ListRead.{ListRead}
use Rattle.css_parser.specs.declared.pieces.LinkRead.{LinkRead}
use Rattle.css_parser.specs.declared.pieces.ElementRead.{ElementRead}
use Rattle.css_parser.specs.declared.pieces.Compound.{Compound}
use Rattle.css_parser.specs.Places.{stands, skip}
use Rattle.css_parser.specs.Links.{combinator, sign}
use Rattle.css_parser.specs.Simples.{element, piece_at}
use Rattle.css_parser.specs.Choices.{word_at, one_read, choice_read, deep_read, is_has, Reader, forms_by, forms_from, inner_read, some_read, inner_with, parts_by, alone, joined, member_of, front, inner_at, further_with, further_at, parts_from, member_at, list_by, list_from, members, choice_with, deep_by, deep, simple_by}
use Rattle.css_parser.specs.Grammar.{Simples, HasElement, past_element, IsCompound, Further, IsSelector, Others, Reads}
use Rattle.css_parser.specs.Lists.{part_of, tail_after, selector_of, list_of}
use Rattle.css_parser.specs.Selecting.{Accepts}
use Rattle.css_parser.proofs.TextPieces.{HaveTexts, IsTextRead, IsTextElement, piece_text, element_is_text}
use Rattle.css_parser.proofs.TextForms.{IsTextForm, IsTextInner, IsTextMember, one_text, deep_text, forms_simples, forms_tail, inner_text, choice_is_text}
use Rattle.css_parser.proofs.WellMadeLemmas.{part_is}

abbrev IsTextFormRead : Option FormRead → Type 0
IsTextFormRead None = Unit {0}
IsTextFormRead (Some r) = IsTextForm r.form

abbrev IsTextInnerRead : Option InnerRead → Type 0
IsTextInnerRead None = Unit {0}
IsTextInnerRead (Some r) = IsTextInner r.inner

abbrev IsTextInnersRead : Option InnersRead → Type 0
IsTextInnersRead None = Unit {0}
IsTextInnersRead (Some r) = AllByRecursion IsTextInner r.inners

abbrev IsTextListRead : Option ListRead → Type 0
IsTextListRead None = Unit {0}
IsTextListRead (Some r) = AllByRecursion IsTextMember r.list

-- what is read at each place is of texts
abbrev GivesTexts : Reader → Type 0
GivesTexts f = (i : ℕ) → IsTextFormRead (f i)

form_if : (b : Bool) (x y : Option FormRead) → IsTextFormRead x → IsTextFormRead y → IsTextFormRead (cond b x y)
form_if true x y h g = h
form_if false x y h g = g

list_if : (b : Bool) (x y : Option ListRead) → IsTextListRead x → IsTextListRead y → IsTextListRead (cond b x y)
list_if true x y h g = h
list_if false x y h g = g

-- forms, inners and members
module _ (text : List ℕ) (ts : List CssToken) (texts : HaveTexts ts) (f : Reader) (each : GivesTexts f) where
  forms_text : (m i : ℕ) → AllByRecursion IsTextForm (forms_from f m i).forms
  forms_text zero i = tt
  forms_text (suc m) i = by_form (λ k. forms_text m k) (f i) (each i)
    where
      by_form : ((k : ℕ) → AllByRecursion IsTextForm (forms_from f m k).forms) → (o : Option FormRead) → IsTextFormRead o → AllByRecursion IsTextForm (forms_by i (forms_from f m) o).forms
      by_form go None h = tt
      by_form go (Some r) h = (h, go r.end)

  of_forms : (l : Link) (named : Bool) (e : Option (List ℕ)) (prefixed : Bool) (r : FormsRead) → element_text e ≡ true → AllByRecursion IsTextForm r.forms → IsTextInner (inner_read l named e prefixed r).inner
  of_forms l named e prefixed r h g =
      let d = views.out-roll-Inner (record { link = l; named = named; element = e; prefixed = prefixed; forms = r.forms }) in
      inner_text (inner_read l named e prefixed r).inner
      (ap (λ (d : open_.Inner-F Form Inner Member). element_text d.element) d ∙ h)
      (subst (λ (d : open_.Inner-F Form Inner Member). AllByRecursion IsTextForm d.forms) (sym d) g)

  some_text : (xs : List Form) (r : InnerRead) → IsTextInner r.inner → IsTextInnerRead (some_read xs r)
  some_text [] r g = tt
  some_text (x ∷ xs) r g = g

  with_text : (l : Link) (i : ℕ) (o : Option ElementRead) → IsTextElement o → IsTextInnerRead (inner_with l o (forms_from f (length ts)) i)
  with_text l i None h =
      some_text (forms_from f (length ts) i).forms (inner_read l false None false (forms_from f (length ts) i)) (of_forms l false None false (forms_from f (length ts) i) refl (forms_text (length ts) i))
  with_text l i (Some e) h = of_forms l true e.name e.prefixed (forms_from f (length ts) e.end) h (forms_text (length ts) e.end)

  inner_at_text : (l : Link) (i : ℕ) → IsTextInnerRead (inner_at text ts f l i)
  unfolding inner_at
  inner_at_text l i = with_text l i (element ts i) (element_is_text ts texts i)

  further_text : (o : Option LinkRead) → IsTextInnerRead (further_with text ts f o)
  further_text None = tt
  further_text (Some r) = inner_at_text r.link r.end

  parts_text : (m i : ℕ) → AllByRecursion IsTextInner (parts_from text ts f m i).inners
  parts_text zero i = tt
  parts_text (suc m) i = by_part (λ k. parts_text m k) (further_at text ts f i) (further_text (combinator ts i))
    where
      by_part : ((k : ℕ) → AllByRecursion IsTextInner (parts_from text ts f m k).inners) → (o : Option InnerRead) → IsTextInnerRead o → AllByRecursion IsTextInner (parts_by i (parts_from text ts f m) o).inners
      by_part go None h = tt
      by_part go (Some r) h = (h, go r.end)

  alone_text : (o : Option InnerRead) → IsTextInnerRead o → IsTextInnersRead (alone o)
  alone_text None h = tt
  alone_text (Some r) h = (h, tt)

  joined_text : (o : Option InnerRead) → IsTextInnerRead o → IsTextInnersRead (joined (parts_from text ts f (length ts)) o)
  joined_text None h = tt
  joined_text (Some r) h = (h, parts_text (length ts) r.end)

  member_text : (w : Word) (i : ℕ) → IsTextInnersRead (member_at text ts f w i)
  unfolding member_at
  member_text word.Has i = joined_text (inner_at text ts f (sign ts i).link (sign ts i).end) (inner_at_text (sign ts i).link (sign ts i).end)
  member_text word.Is i = alone_text (inner_at text ts f link.First i) (inner_at_text link.First i)
  member_text word.Where i = alone_text (inner_at text ts f link.First i) (inner_at_text link.First i)
  member_text word.Not i = alone_text (inner_at text ts f link.First i) (inner_at_text link.First i)

  rolled : (xs : List Inner) → AllByRecursion IsTextInner xs → IsTextMember (member_of xs)
  rolled xs h = subst (λ (d : open_.Member-F Form Inner Member). AllByRecursion IsTextInner d.parts) (sym (views.out-roll-Member (record { parts = xs }))) h

  front_text : (m : Member) (o : Option ListRead) → IsTextMember m → IsTextListRead o → IsTextListRead (front m o)
  front_text m None h g = tt
  front_text m (Some r) h g = (h, g)

  list_text : (w : Word) (m i : ℕ) → IsTextListRead (list_from text ts f w m i)
  list_text w zero i = tt
  list_text w (suc m) i = by_member (λ k. list_text w m k) (member_at text ts f w (skip ts i)) (member_text w (skip ts i))
    where
      by_member : ((k : ℕ) → IsTextListRead (list_from text ts f w m k)) → (o : Option InnersRead) → IsTextInnersRead o → IsTextListRead (list_by text ts (list_from text ts f w m) o)
      by_member go None h = tt
      by_member go (Some r) h =
          let j : ℕ = skip ts r.end in
          list_if (stands kind.CloseRound ts j) _ _ (rolled r.inners h, tt)
          (list_if (stands kind.Comma ts j) _ None (front_text (member_of r.inners) _ (rolled r.inners h) (go (j + 1))) tt)

-- simple selectors, choices and pseudo-elements
module _ (text : List ℕ) (ts : List CssToken) (texts : HaveTexts ts) where
  one_read_text : (o : Option Read) → IsTextRead o → IsTextFormRead (one_read o)
  one_read_text None h = tt
  one_read_text (Some r) h = one_text r.piece h

  deep_read_text : (o : Option ListRead) → IsTextFormRead (deep_read o)
  deep_read_text None = tt
  deep_read_text (Some r) = deep_text

  choice_read_text : (w : Word) (o : Option ListRead) → IsTextListRead o → IsTextFormRead (choice_read w o)
  choice_read_text w None h = tt
  choice_read_text w (Some r) h = choice_is_text r.list h w

  choice_with_text : (o : Option Word) (i : ℕ) (choice : Word → Option FormRead) → ((w : Word) → IsTextFormRead (choice w)) → IsTextFormRead (choice_with text ts o (one_read (piece_at text ts i)) choice)
  choice_with_text None i choice h = one_read_text (piece_at text ts i) (piece_text ts texts text i)
  choice_with_text (Some w) i choice h = h w

  deep_texts : (n : ℕ) → GivesTexts (deep_by text ts n)
  unfolding deep_by
  deep_texts zero i = choice_with_text (word_at ts i) i _ (λ w. tt)
  deep_texts (suc n) i = choice_with_text (word_at ts i) i _ (λ w. deep_read_text (members text ts (deep_by text ts n) w (i + 2)))

  by_texts : (n : ℕ) (within : Bool) → GivesTexts (simple_by text ts n within)
  unfolding simple_by
  by_texts zero within i = deep_texts (length ts) i
  by_texts (suc n) within i =
      choice_with_text (word_at ts i) i _
      (λ w. form_if (is_has w && within) (deep text ts i) (choice_read w (members text ts (simple_by text ts n (within || is_has w)) w (i + 2))) (deep_texts (length ts) i)
      (choice_read_text w _ (list_text text ts texts (simple_by text ts n (within || is_has w)) (by_texts n (within || is_has w)) w (length ts) (i + 2))))

  simples_text : (i j : ℕ) (xs : List Form) → Simples text ts i xs j → AllByRecursion IsTextForm xs
  simples_text i j [] h = tt
  simples_text i j (x ∷ xs) h = (subst IsTextFormRead h.1 (by_texts 8 false i), simples_text h.0 j xs h.2)

  -- compounds and selectors
  element_of : (o : Option ElementRead) (c : Compound) → IsTextElement o → HasElement o c → element_text c.element ≡ true
  element_of None c h g = ap element_text g.0
  element_of (Some e) c h g = ap element_text g.0 ∙ h

  record IsTextCompound (c : Compound) : Type 0 where
    part : part_texts (part_of c) ≡ true
    tail : (old : Tail) → tail_text old ≡ true → tail_text (tail_after old c) ≡ true

  abbrev PartLayer : Type 0
  PartLayer = test_open.Part-F Test choice.Compound Part Relative Simple

  compound_text : (i j : ℕ) (c : Compound) → IsCompound text ts i c j → IsTextCompound c
  compound_text i j c h =
      let forms = simples_text (past_element (element ts i) i) j c.forms h.simples in
      record {
        part = at_part (part_of c) ∙ ap (λ (d : PartLayer). element_text d.element && list_all simple_texts d.simples) (part_is c)
            ∙ and_from _ _ (element_of (element ts i) c (element_is_text ts texts i) h.begins) (forms_simples c.forms forms);
        tail = λ old g. forms_tail c.forms old forms g;
      }

  record AreTextCompounds (cs : List Compound) : Type 0 where
    parts : list_all part_texts (map part_of cs) ≡ true
    tail : (old : Tail) → tail_text old ≡ true → tail_text (fold tail_after old cs) ≡ true

  push_front : (c : Compound) (cs : List Compound) → IsTextCompound c → AreTextCompounds cs → AreTextCompounds (c ∷ cs)
  push_front c cs h g = record {
    parts = and_from _ _ h.part g.parts;
    tail = λ old k. g.tail (tail_after old c) (h.tail old k);
  }

  further_texts : (i j : ℕ) (cs : List Compound) → Further text ts i cs j → AreTextCompounds cs
  further_texts i j [] h = record { parts = refl; tail = λ old g. g }
  further_texts i j (c ∷ cs) h = push_front c cs (compound_text h.0 h.1 c h.3) (further_texts h.1 j cs h.4)

  selector_text : (i j : ℕ) (cs : List Compound) → IsSelector text ts i cs j → selector_texts (selector_of cs) ≡ true
  selector_text i j [] h = absurd h
  selector_text i j (c ∷ cs) h =
      let all = push_front c cs (compound_text i h.0 c h.2) (further_texts h.0 j cs h.3) in
      and_from _ _ all.parts (all.tail tail.Element refl)

  others_text : (i : ℕ) (ss : List (List Compound)) → Others text ts i ss → list_all selector_texts (map selector_of ss) ≡ true
  others_text i [] h = refl
  others_text i (s ∷ ss) h = and_from _ _ (selector_text (skip ts (i + 1)) h.0 s h.2) (others_text (skip ts h.0) ss h.3)

  list_is_text : (ss : List (List Compound)) → Reads text ts ss → AreTexts (list_of ss)
  list_is_text [] h = absurd h
  list_is_text (s ∷ ss) h = and_from _ _ (selector_text (skip ts 0) h.0 s h.1) (others_text (skip ts h.0) ss h.2)

pub are_texts : (text : List ℕ) (list : SelectorList) → IsUtf8 text → Accepts text list → AreTexts list
are_texts text list utf8 h = subst AreTexts (sym h.is_list) (list_is_text text h.tokens (all_texts text h.tokens utf8 h.spelled) h.found h.reads)
