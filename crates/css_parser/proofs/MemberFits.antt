-- What stands in a choice, read with so many choices in each other, is well made with so many where it is not refused, and has no
-- more parts and simple selectors than tokens.
use Rattle.std.proofs.Common.{◌≡◌, ℕ, zero, suc, ◌+◌, ◌<◌, ◌≤◌, Bool, true, false, cond, List, [], ◌∷◌, ◌++◌, length, map, flat_map, refl, sym, ◌∙◌, ap, subst, arith}
use Rattle.std.specs.Prelude.{◌≢◌, Option, Some, None, All, sum_by, is_none}
use Rattle.std.proofs.lemmas.List.Elements.{All-nil, All-cons, All-append}
use Rattle.std.proofs.lemmas.List.Sums.{sum_by-cons}
use Rattle.css_lexer.specs.declared.tokens.CssKind.TheVariants as kind
use Rattle.css_lexer.specs.declared.tokens.CssToken.{CssToken}
use Rattle.css_selectors.specs.declared.selector.Compound as choice
use Rattle.css_selectors.specs.declared.selector.Link.{Link}
use Rattle.css_selectors.specs.declared.selector.Link.TheVariants as link
use Rattle.css_selectors.specs.declared.selector.Part.{Part, out-Part}
use Rattle.css_selectors.specs.declared.selector.Relative.{Relative, out-Relative}
use Rattle.css_selectors.specs.declared.selector.Simple.{Simple}
use Rattle.css_selectors.specs.declared.selector.Test.{Test}
use Rattle.css_selectors.specs.declared.selector.Test.TheOpen as test_open
use Rattle.css_selectors.specs.declared.selector.Test.TheViews as test_views
use Rattle.css_selectors.specs.Sizes.{part_size, relative_size}
use Rattle.css_selectors.specs.WellMade.{FitsPart, FitsSimple}
use Rattle.css_selectors.proofs.Equations.{size_of_relative}
use Rattle.css_parser.specs.declared.pieces.Word.{Word}
use Rattle.css_parser.specs.declared.pieces.Word.TheVariants as word
use Rattle.css_parser.specs.declared.pieces.Form.{Form}
use Rattle.css_parser.specs.declared.pieces.Form.TheOpen as open_
use Rattle.css_parser.specs.declared.pieces.Form.TheViews as views
use Rattle.css_parser.specs.declared.pieces.FormsRead.{FormsRead}
use Rattle.css_parser.specs.declared.pieces.Inner.{Inner, out-Inner}
use Rattle.css_parser.specs.declared.pieces.InnerRead.{InnerRead}
use Rattle.css_parser.specs.declared.pieces.InnersRead.{InnersRead}
use Rattle.css_parser.specs.declared.pieces.Member.{Member, out-Member}
use Rattle.css_parser.specs.declared.pieces.ListRead.{ListRead}
use Rattle.css_parser.specs.declared.pieces.LinkRead.{LinkRead}
use Rattle.css_parser.specs.declared.pieces.ElementRead.{ElementRead}
use Rattle.css_parser.specs.Places.{stands, skip}
use Rattle.css_parser.specs.Simples.{element}
use Rattle.css_parser.specs.Links.{combinator, sign}
use Rattle.css_parser.specs.Choices.{is_has, Reader, forms_from, inner_read, some_read, inner_with, parts_by, alone, joined, member_of, front, inner_at, further_with, further_at, parts_from, member_at, list_by, list_from}
use Rattle.css_parser.specs.inner.Reading.{EndsElement, EndsInner, EndsInners, EndsLink}
use Rattle.css_parser.specs.Refusals.{inner_refusal, inners_refusal, member_refusal, members_refusal}
use Rattle.css_parser.specs.Values.{alone_of, only_of, inner_value, member_value, compound_of, part_of, relative_of, compounds_in}
use Rattle.css_parser.proofs.PlaceLemmas.{skip_order, skip_within, stands_within}
use Rattle.css_parser.proofs.Endings.{element_ends, combinator_ends}
use Rattle.css_parser.proofs.LinkLemmas.{sign_link}
use Rattle.css_parser.proofs.LinkLemmas.{joined as leads_on}
use Rattle.css_parser.proofs.RefusalLemmas.{member_is}
use Rattle.css_parser.proofs.ChoiceLemmas.{IsSound, inner_ends, further_ends, sign_ends, member_ends}
use Rattle.css_parser.proofs.ValueLemmas.{relative_is, compounds_in_is}
use Rattle.css_parser.proofs.ValueLemmas.{member_is as value_is}
use Rattle.css_parser.proofs.ValueFits.{Around, Fit, IsFit, IsRelative, Lone, GivesRead, GivesForms, GivesInner, neither, forms_from_give, inner_gives, part_link}

-- a part of a relative
abbrev IsLinked : ℕ → Bool → Part → Type 0
IsLinked n inside p = FitsPart (FitsSimple n inside) p

linked_part : (n : ℕ) (inside : Bool) (l : Link) (x : Inner) → (out-Inner x).link ≡ l → l ≢ link.First → All (Fit n inside (out-Part (part_of x)).element) (out-Part (part_of x)).simples → IsLinked n inside (part_of x)
linked_part n inside l x is other h = (λ e. other (sym is ∙ sym (part_link x) ∙ e), h)

-- what an inner is that is read behind this link
record GivesBehind (n : ℕ) (inside : Bool) (l : Link) (i : ℕ) (x : Inner) (j : ℕ) : Type 0 where
  inner : GivesInner n inside i x j
  is : (out-Inner x).link ≡ l

abbrev GivesInnerRead : ℕ → Bool → Link → ℕ → Option InnerRead → Type 0
GivesInnerRead n inside l i None = Unit {0}
GivesInnerRead n inside l i (Some r) = GivesBehind n inside l i r.inner r.end

-- the same of an inner with the combinator before it
record GivesPart (n : ℕ) (inside : Bool) (i : ℕ) (x : Inner) (j : ℕ) : Type 0 where
  part : inner_refusal true x ≡ None → IsLinked n inside (part_of x)
  size : part_size (part_of x) + i ≤ j

abbrev GivesPartRead : ℕ → Bool → ℕ → Option InnerRead → Type 0
GivesPartRead n inside i None = Unit {0}
GivesPartRead n inside i (Some r) = GivesPart n inside i r.inner r.end

-- of any number of these
record GivesParts (n : ℕ) (inside : Bool) (i : ℕ) (xs : List Inner) (j : ℕ) : Type 0 where
  parts : inners_refusal true xs ≡ None → All (IsLinked n inside) (map part_of xs)
  size : sum_by part_size (map part_of xs) + i ≤ j

-- of what stands in a choice once
record GivesMember (n : ℕ) (inside : Bool) (w : Word) (i : ℕ) (xs : List Inner) (j : ℕ) : Type 0 where
  fits : is_has w ≡ false → (around : Around) → inners_refusal (is_none around) xs ≡ None → All (IsFit n inside around) (map compound_of xs)
  alone : is_has w ≡ false → (t : Test) → alone_of (map inner_value xs) ≡ Some t → (around : Around) → inners_refusal (is_none around) xs ≡ None → Lone around t
  relative : is_has w ≡ true → inners_refusal true xs ≡ None → All (IsLinked n inside) (map part_of xs)
  size : sum_by part_size (map part_of xs) + i ≤ j + 1
  some : 0 < length xs

abbrev GivesMemberRead : ℕ → Bool → Word → ℕ → Option InnersRead → Type 0
GivesMemberRead n inside w i None = Unit {0}
GivesMemberRead n inside w i (Some r) = GivesMember n inside w i r.inners r.end

-- and of all that stands in a choice
pub record GivesList (n : ℕ) (inside : Bool) (w : Word) (i : ℕ) (xs : List Member) (j : ℕ) : Type 0 where
  pub fits : is_has w ≡ false → (around : Around) → members_refusal (is_none around) xs ≡ None → All (IsFit n inside around) (flat_map compounds_in xs)
  pub alone : is_has w ≡ false → (t : Test) → only_of (map member_value xs) ≡ Some t → (around : Around) → members_refusal (is_none around) xs ≡ None → Lone around t
  pub relatives : is_has w ≡ true → members_refusal true xs ≡ None → All (IsRelative n inside) (map relative_of xs)
  pub size : sum_by relative_size (map relative_of xs) + i ≤ j
  pub some : 0 < length (map relative_of xs)
  pub some_compounds : 0 < length (flat_map compounds_in xs)

abbrev pub GivesListRead : ℕ → Bool → Word → ℕ → Option ListRead → Type 0
GivesListRead n inside w i None = Unit {0}
GivesListRead n inside w i (Some r) = GivesList n inside w i r.list r.end

-- members as relatives
abbrev RelativeLayer : Type 0
RelativeLayer = test_open.Relative-F Test choice.Compound Part Relative Simple

pub relative_out : (m : Member) → out-Relative (relative_of m) ≡ record { parts = map part_of (out-Member m).parts }
relative_out m = ap out-Relative (relative_is m) ∙ test_views.out-roll-Relative (record { parts = map part_of (out-Member m).parts })

pub relative_few : (m : Member) → relative_size (relative_of m) ≡ sum_by part_size (map part_of (out-Member m).parts)
relative_few m = size_of_relative (relative_of m) ∙ ap (λ (d : RelativeLayer). sum_by part_size d.parts) (relative_out m)

-- one member
module _ (n : ℕ) (inside : Bool) (w : Word) (i j : ℕ) (m : Member) (g : GivesMember n inside w i (out-Member m).parts j) where
  member_fits : is_has w ≡ false → (around : Around) → member_refusal (is_none around) m ≡ None → All (IsFit n inside around) (compounds_in m)
  member_fits h around r = subst (All (IsFit n inside around)) (sym (compounds_in_is m)) (g.fits h around (sym (member_is (is_none around) m) ∙ r))

  member_alone : is_has w ≡ false → (t : Test) → alone_of (member_value m) ≡ Some t → (around : Around) → member_refusal (is_none around) m ≡ None → Lone around t
  member_alone h t e around r = g.alone h t (sym (ap alone_of (value_is m)) ∙ e) around (sym (member_is (is_none around) m) ∙ r)

  some_map : (xs : List Inner) → 0 < length xs → 0 < length (map part_of xs)
  some_map [] h = absurd (omega arith)
  some_map (x ∷ xs) h = omega arith

  member_relative : is_has w ≡ true → member_refusal true m ≡ None → IsRelative n inside (relative_of m)
  member_relative h r =
      subst (λ (d : RelativeLayer). (0 < length d.parts) × All (IsLinked n inside) d.parts) (sym (relative_out m))
      (some_map (out-Member m).parts g.some, g.relative h (sym (member_is true m) ∙ r))

  some_first : (xs : List Inner) (ys : List choice.Compound) → 0 < length xs → 0 < length (map compound_of xs ++ ys)
  some_first [] ys h = absurd (omega arith)
  some_first (x ∷ xs) ys h = omega arith

  member_some : (ys : List choice.Compound) → 0 < length (compounds_in m ++ ys)
  member_some ys = subst (λ xs. 0 < length (xs ++ ys)) (sym (compounds_in_is m)) (some_first (out-Member m).parts ys g.some)

-- one member more in front
list_cons : (n : ℕ) (inside : Bool) (w : Word) (i k l j e : ℕ) (m : Member) (xs : List Member) → i ≤ k → l + 1 ≤ j → GivesMember n inside w k (out-Member m).parts l → GivesList n inside w j xs e → GivesList n inside w i (m ∷ xs) e
list_cons n inside w i k l j e m xs low le g h = record {
  fits = λ p around r.
      let parts = neither (member_refusal (is_none around) m) (members_refusal (is_none around) xs) r in
      All-append (IsFit n inside around) (compounds_in m) (flat_map compounds_in xs) (member_fits n inside w k l m g p around parts.first) (h.fits p around parts.other);
  alone = λ p t is around r. not_alone xs h.some t is around;
  relatives = λ p r.
      let parts = neither (member_refusal true m) (members_refusal true xs) r in
      All-cons (IsRelative n inside) (relative_of m) (map relative_of xs) (member_relative n inside w k l m g p parts.first) (h.relatives p parts.other);
  size = omega (arith, sum_by-cons relative_size (relative_of m) (map relative_of xs), relative_few m, g.size, h.size);
  some = omega arith;
  some_compounds = member_some n inside w k l m g (flat_map compounds_in xs);
}
  where
    not_alone : (ys : List Member) → 0 < length (map relative_of ys) → (t : Test) → only_of (map member_value (m ∷ ys)) ≡ Some t → (around : Around) → Lone around t
    not_alone [] some t is around = absurd (omega arith)
    not_alone (y ∷ ys) some t is around = cc

list_last : (n : ℕ) (inside : Bool) (w : Word) (i k l e : ℕ) (m : Member) → i ≤ k → l + 1 ≤ e → GivesMember n inside w k (out-Member m).parts l → GivesList n inside w i (m ∷ []) e
list_last n inside w i k l e m low le g = record {
  fits = λ p around r.
      let parts = neither (member_refusal (is_none around) m) (members_refusal (is_none around) []) r in
      All-append (IsFit n inside around) (compounds_in m) [] (member_fits n inside w k l m g p around parts.first) (All-nil (IsFit n inside around));
  alone = λ p t is around r.
      let parts = neither (member_refusal (is_none around) m) (members_refusal (is_none around) []) r in
      member_alone n inside w k l m g p t is around parts.first;
  relatives = λ p r.
      let parts = neither (member_refusal true m) (members_refusal true []) r in
      All-cons (IsRelative n inside) (relative_of m) [] (member_relative n inside w k l m g p parts.first) (All-nil (IsRelative n inside));
  size = omega (arith, sum_by-cons relative_size (relative_of m) [], relative_few m, g.size);
  some = omega arith;
  some_compounds = member_some n inside w k l m g [];
}

module _ (text : List ℕ) (ts : List CssToken) (n : ℕ) (inside : Bool) (f : Reader) (sound : IsSound ts f) (each : (i : ℕ) → i ≤ length ts → GivesRead n inside i (f i)) where
  of_forms : (l : Link) (i k : ℕ) (named : Bool) (e : Around) (prefixed : Bool) (r : FormsRead) → i ≤ k → (named ≡ false → e ≡ None) → GivesForms n inside k r.forms r.end
      → GivesBehind n inside l i (inner_read l named e prefixed r).inner r.end
  of_forms l i k named e prefixed r le c g =
      let d = views.out-roll-Inner (record { link = l; named = named; element = e; prefixed = prefixed; forms = r.forms }) in
      record {
        inner = inner_gives n inside i k r.end (inner_read l named e prefixed r).inner le
            (subst (λ (d : open_.Inner-F Form Inner Member). GivesForms n inside k d.forms r.end) (sym d) g)
            (subst (λ (d : open_.Inner-F Form Inner Member). d.named ≡ false → d.element ≡ None) (sym d) c);
        is = ap (λ (d : open_.Inner-F Form Inner Member). d.link) d;
      }

  some_gives : (l : Link) (i : ℕ) (xs : List Form) (r : InnerRead) → GivesBehind n inside l i r.inner r.end → GivesInnerRead n inside l i (some_read xs r)
  some_gives l i [] r g = tt
  some_gives l i (x ∷ xs) r g = g

  with_gives : (l : Link) (i : ℕ) → i ≤ length ts → (o : Option ElementRead) → EndsElement ts i o → GivesInnerRead n inside l i (inner_with l o (forms_from f (length ts)) i)
  with_gives l i low None h =
      some_gives l i (forms_from f (length ts) i).forms _ (of_forms l i i false None false (forms_from f (length ts) i) (omega arith) (λ e. refl) (forms_from_give ts n inside f sound each (length ts) i low))
  with_gives l i low (Some e) h =
      let m = h.moves in
      of_forms l i e.end true e.name e.prefixed (forms_from f (length ts) e.end) (omega arith) (λ e. cc) (forms_from_give ts n inside f sound each (length ts) e.end h.within)

  inner_gives_at : (l : Link) (i : ℕ) → i ≤ length ts → GivesInnerRead n inside l i (inner_at text ts f l i)
  unfolding inner_at
  inner_gives_at l i low = with_gives l i low (element ts i) (element_ends text ts i)

  -- relatives
  of_behind : (l : Link) (i k : ℕ) (o : Option InnerRead) → l ≢ link.First → i < k → GivesInnerRead n inside l k o → GivesPartRead n inside i o
  of_behind l i k None other less g = tt
  of_behind l i k (Some r) other less g = record { part = λ h. linked_part n inside l r.inner g.is other (g.inner.part h); size = omega (arith, g.inner.size) }

  further_gives : (i : ℕ) → i ≤ length ts → GivesPartRead n inside i (further_at text ts f i)
  further_gives i low = by_link (combinator ts i) refl (combinator_ends text ts i low)
    where
      by_link : (o : Option LinkRead) → combinator ts i ≡ o → EndsLink ts i o → GivesPartRead n inside i (further_with text ts f o)
      by_link None e h = tt
      by_link (Some r) e h = of_behind r.link i r.end (inner_at text ts f r.link r.end) (leads_on ts i r e).other h.moves (inner_gives_at r.link r.end h.within)

  no_parts : (i : ℕ) → GivesParts n inside i [] i
  no_parts i = record { parts = λ r. All-nil (IsLinked n inside); size = omega arith }

  parts_give : (m i : ℕ) → i ≤ length ts → GivesParts n inside i (parts_from text ts f m i).inners (parts_from text ts f m i).end
  parts_give zero i low = no_parts i
  parts_give (suc m) i low = by_part (λ k l. parts_give m k l) (further_at text ts f i) (further_gives i low) (further_ends text ts f sound i low)
    where
      by_part : ((k : ℕ) → k ≤ length ts → GivesParts n inside k (parts_from text ts f m k).inners (parts_from text ts f m k).end) → (o : Option InnerRead) → GivesPartRead n inside i o → EndsInner ts i o
          → GivesParts n inside i (parts_by i (parts_from text ts f m) o).inners (parts_by i (parts_from text ts f m) o).end
      by_part go None g h = no_parts i
      by_part go (Some r) g h =
          let rest = go r.end h.within in
          let xs : List Inner = (parts_from text ts f m r.end).inners in
          record {
            parts = λ q.
                let parts = neither (inner_refusal true r.inner) (inners_refusal true xs) q in
                All-cons (IsLinked n inside) (part_of r.inner) (map part_of xs) (g.part parts.first) (rest.parts parts.other);
            size = omega (arith, sum_by-cons part_size (part_of r.inner) (map part_of xs), g.size, rest.size);
          }

  joined_gives : (l : Link) (i k : ℕ) (o : Option InnerRead) → l ≢ link.First → i ≤ k → GivesInnerRead n inside l k o → EndsInner ts k o → GivesMemberRead n inside word.Has i (joined (parts_from text ts f (length ts)) o)
  joined_gives l i k None other le g h = tt
  joined_gives l i k (Some r) other le g h =
      let rest = parts_give (length ts) r.end h.within in
      let xs : List Inner = (parts_from text ts f (length ts) r.end).inners in
      record {
        fits = λ p around q. cc;
        alone = λ p t e around q. cc;
        relative = λ p q.
            let parts = neither (inner_refusal true r.inner) (inners_refusal true xs) q in
            All-cons (IsLinked n inside) (part_of r.inner) (map part_of xs) (linked_part n inside l r.inner g.is other (g.inner.part parts.first)) (rest.parts parts.other);
        size = omega (arith, sum_by-cons part_size (part_of r.inner) (map part_of xs), g.inner.size, rest.size);
        some = omega arith;
      }

  alone_gives : (w : Word) (i : ℕ) (o : Option InnerRead) → is_has w ≡ false → GivesInnerRead n inside link.First i o → GivesMemberRead n inside w i (alone o)
  alone_gives w i None plain g = tt
  alone_gives w i (Some r) plain g = record {
    fits = λ p around q.
        let parts = neither (inner_refusal (is_none around) r.inner) (inners_refusal (is_none around) []) q in
        All-cons (IsFit n inside around) (compound_of r.inner) [] (g.inner.fits around parts.first) (All-nil (IsFit n inside around));
    alone = λ p t e around q.
        let parts = neither (inner_refusal (is_none around) r.inner) (inners_refusal (is_none around) []) q in
        g.inner.alone t e around parts.first;
    relative = λ p q. let z : true ≡ false = sym p ∙ plain in cc;
    size = omega (arith, sum_by-cons part_size (part_of r.inner) [], g.inner.size);
    some = omega arith;
  }

  member_gives : (w : Word) (i : ℕ) → i ≤ length ts → GivesMemberRead n inside w i (member_at text ts f w i)
  unfolding member_at
  member_gives word.Has i low =
      let s = sign_ends text ts i low in
      joined_gives (sign ts i).link i (sign ts i).end _ (sign_link ts i) s.order (inner_gives_at (sign ts i).link (sign ts i).end s.within) (inner_ends text ts f sound (sign ts i).link (sign ts i).end s.within)
  member_gives word.Is i low = alone_gives word.Is i _ refl (inner_gives_at link.First i low)
  member_gives word.Where i low = alone_gives word.Where i _ refl (inner_gives_at link.First i low)
  member_gives word.Not i low = alone_gives word.Not i _ refl (inner_gives_at link.First i low)

  -- lists
  rolled : (w : Word) (i : ℕ) (xs : List Inner) (j : ℕ) → GivesMember n inside w i xs j → GivesMember n inside w i (out-Member (member_of xs)).parts j
  rolled w i xs j g = subst (λ (d : open_.Member-F Form Inner Member). GivesMember n inside w i d.parts j) (sym (views.out-roll-Member (record { parts = xs }))) g

  list_if : (w : Word) (i : ℕ) (b : Bool) (x y : Option ListRead) → (b ≡ true → GivesListRead n inside w i x) → (b ≡ false → GivesListRead n inside w i y) → GivesListRead n inside w i (cond b x y)
  list_if w i true x y h k = h refl
  list_if w i false x y h k = k refl

  front_gives : (w : Word) (i k l j : ℕ) (m : Member) (o : Option ListRead) → i ≤ k → l + 1 ≤ j → GivesMember n inside w k (out-Member m).parts l → GivesListRead n inside w j o → GivesListRead n inside w i (front m o)
  front_gives w i k l j m None low le g h = tt
  front_gives w i k l j m (Some r) low le g h = list_cons n inside w i k l j r.end m r.list low le g h

  pub list_gives : (w : Word) (m i : ℕ) → i ≤ length ts → GivesListRead n inside w i (list_from text ts f w m i)
  list_gives w zero i low = tt
  list_gives w (suc m) i low =
      by_member (λ k l. list_gives w m k l) (member_at text ts f w (skip ts i)) (member_gives w (skip ts i) (skip_within ts i low)) (member_ends text ts f sound w (skip ts i) (skip_within ts i low))
    where
      by_member : ((k : ℕ) → k ≤ length ts → GivesListRead n inside w k (list_from text ts f w m k)) → (o : Option InnersRead) → GivesMemberRead n inside w (skip ts i) o → EndsInners ts (skip ts i) o
          → GivesListRead n inside w i (list_by text ts (list_from text ts f w m) o)
      by_member go None g h = tt
      by_member go (Some r) g h =
          let j : ℕ = skip ts r.end in
          list_if w i (stands kind.CloseRound ts j) _ _ (λ c. list_last n inside w i (skip ts i) r.end (j + 1) (member_of r.inners) (skip_order ts i) (omega (arith, skip_order ts r.end)) (rolled w (skip ts i) r.inners r.end g))
          (λ _. list_if w i (stands kind.Comma ts j) _ _
          (λ c. let l = stands_within ts j 19 (omega arith) c in front_gives w i (skip ts i) r.end (j + 1) (member_of r.inners) _ (skip_order ts i) (omega (arith, skip_order ts r.end)) (rolled w (skip ts i) r.inners r.end g) (go (j + 1) (omega arith))) (λ _. tt))
