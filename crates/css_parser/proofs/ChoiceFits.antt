-- What is read at a place, with so many choices in each other, is well made with so many where it is not refused.
use Rattle.std.proofs.Common.{◌≡◌, ℕ, zero, suc, ◌+◌, ◌≤◌, Bool, true, false, ◌&&◌, cond, List, [], ◌∷◌, length, map, flat_map, refl, sym, ◌∙◌, ap, subst, arith}
use Rattle.std.specs.Prelude.{◌||◌, Option, Some, None, All, sum_by, is_none}
use Rattle.std.proofs.lemmas.List.Elements.{All-nil, All-cons}
use Rattle.std.proofs.lemmas.List.Sums.{sum_by-cons, sum_by-append}
use Rattle.css_lexer.specs.declared.tokens.CssToken.{CssToken}
use Rattle.css_selectors.specs.declared.selector.Test.{Test}
use Rattle.css_selectors.specs.declared.selector.Test.TheVariants as test
use Rattle.css_selectors.specs.declared.selector.Weight.{Weight}
use Rattle.css_selectors.specs.declared.selector.Weight.TheVariants as weight
use Rattle.css_selectors.specs.Sizes.{compound_size, part_size, relative_size, simple_size}
use Rattle.css_selectors.proofs.Equations.{size_of_any, size_of_has}
use Rattle.css_parser.specs.declared.pieces.Word.{Word}
use Rattle.css_parser.specs.declared.pieces.Word.TheVariants as word
use Rattle.css_parser.specs.declared.pieces.Form.TheVariants as form
use Rattle.css_parser.specs.declared.pieces.Inner.{Inner}
use Rattle.css_parser.specs.declared.pieces.Member.{Member, out-Member}
use Rattle.css_parser.specs.declared.pieces.ListRead.{ListRead}
use Rattle.css_parser.specs.Simples.{piece_at}
use Rattle.css_parser.specs.Choices.{is_has, word_at, choice_read, deep_read, deep, simple_by, members}
use Rattle.css_parser.specs.inner.Reading.{EndsList}
use Rattle.css_parser.specs.Refusals.{members_refusal}
use Rattle.css_parser.specs.Values.{simple_of, only_of, any, has, negation, choice_value, member_value, compound_of, part_of, relative_of, compounds_in}
use Rattle.css_parser.proofs.RefusalLemmas.{choice_refusal}
use Rattle.css_parser.proofs.Fitting.{piece_good}
use Rattle.css_parser.proofs.ChoiceLemmas.{deep_ends, by_ends, at_piece, kept_at, deep_is, word_inside, list_ends}
use Rattle.css_parser.proofs.ValueLemmas.{choice_simples, choice_alone, any_is, has_is, compounds_in_is}
use Rattle.css_parser.proofs.ValueFits.{Around, Fit, IsFit, Gives, GivesRead, any_fits, has_fits, of_size, alone_one, piece_gives, deep_gives, compound_few}
use Rattle.css_parser.proofs.MemberFits.{GivesList, GivesListRead, relative_few, list_gives}

-- compounds have fewer simple selectors than as parts
inners_few : (xs : List Inner) → sum_by compound_size (map compound_of xs) ≤ sum_by part_size (map part_of xs)
inners_few [] = omega arith
inners_few (x ∷ xs) = omega (arith, sum_by-cons compound_size (compound_of x) (map compound_of xs), sum_by-cons part_size (part_of x) (map part_of xs), compound_few x, inners_few xs)

member_few : (m : Member) → sum_by compound_size (compounds_in m) ≤ relative_size (relative_of m)
member_few m = omega (arith, ap (sum_by compound_size) (compounds_in_is m), relative_few m, inners_few (out-Member m).parts)

members_few : (xs : List Member) → sum_by compound_size (flat_map compounds_in xs) ≤ sum_by relative_size (map relative_of xs)
members_few [] = omega arith
members_few (m ∷ xs) =
    omega (arith, sum_by-append compound_size (compounds_in m) (flat_map compounds_in xs), sum_by-cons relative_size (relative_of m) (map relative_of xs), member_few m, members_few xs)

still_outside : (within v : Bool) → v ≡ false → (within || v) ≡ within
still_outside true v h = refl
still_outside false v h = h

-- choices
module _ (n i k j : ℕ) (xs : List Member) (le : i + 1 ≤ k) where
  module _ (within : Bool) (w : Word) (plain : is_has w ≡ false) (g : GivesList n (within || is_has w) w k xs j) where
    any_fit : (around : Around) (negated : Bool) (v : Weight) → members_refusal (is_none around) xs ≡ None → Fit (suc n) within around (simple_of negated (any v (map member_value xs)))
    any_fit around negated v r =
        subst (λ t. Fit (suc n) within around (simple_of negated t)) (sym (any_is v xs))
        (any_fits n within around negated v (flat_map compounds_in xs) g.some_compounds
        (subst (λ b. All (IsFit n b around) (flat_map compounds_in xs)) (still_outside within (is_has w) plain) (g.fits plain around r)))

    negation_fit : (around : Around) (o : Option Test) → only_of (map member_value xs) ≡ o → members_refusal (is_none around) xs ≡ None → Fit (suc n) within around (negation o (map member_value xs))
    negation_fit around None e r = any_fit around true weight.Most r
    negation_fit around (Some t) e r = g.alone plain t e around r (suc n) within

  has_fit : (within : Bool) → GivesList n (within || true) word.Has k xs j → within ≡ false → (around : Around) → members_refusal true xs ≡ None → Fit (suc n) within around (simple_of false (has (map member_value xs)))
  has_fit true g h around r = cc
  has_fit false g h around r = subst (λ t. Fit (suc n) false around (simple_of false t)) (sym (has_is xs)) (has_fits n around false (map relative_of xs) g.some (g.relatives refl r))

  value_fit : (within : Bool) (w : Word) → GivesList n (within || is_has w) w k xs j → (is_has w && within) ≡ false → (around : Around) → members_refusal (is_has w || is_none around) xs ≡ None
      → Fit (suc n) within around (choice_value w (map member_value xs))
  value_fit within word.Is g h around r = any_fit within word.Is refl g around false weight.Most r
  value_fit within word.Where g h around r = any_fit within word.Where refl g around false weight.Zero r
  value_fit within word.Not g h around r = negation_fit within word.Not refl g around (only_of (map member_value xs)) refl r
  value_fit within word.Has g h around r = has_fit within g h around r

  module _ (few : sum_by relative_size (map relative_of xs) + k ≤ j) where
    any_few : (negated : Bool) (v : Weight) → simple_size (simple_of negated (any v (map member_value xs))) + i ≤ j
    any_few negated v = subst (λ t. simple_size (simple_of negated t) + i ≤ j) (sym (any_is v xs))
        (omega (arith, le, few, members_few xs, of_size negated (test.Any v (flat_map compounds_in xs)) (sum_by compound_size (flat_map compounds_in xs)) (size_of_any v (flat_map compounds_in xs))))

    has_few : simple_size (simple_of false (has (map member_value xs))) + i ≤ j
    has_few = subst (λ t. simple_size (simple_of false t) + i ≤ j) (sym (has_is xs))
        (omega (arith, le, few, of_size false (test.Has (map relative_of xs)) (sum_by relative_size (map relative_of xs)) (size_of_has (map relative_of xs))))

    negation_few : (o : Option Test) → only_of (map member_value xs) ≡ o → simple_size (negation o (map member_value xs)) + i ≤ j
    negation_few None e = any_few true weight.Most
    negation_few (Some t) e = omega (arith, le, few, alone_one xs t e)

    value_few : (w : Word) → simple_size (choice_value w (map member_value xs)) + i ≤ j
    value_few word.Is = any_few false weight.Most
    value_few word.Where = any_few false weight.Zero
    value_few word.Not = negation_few (only_of (map member_value xs)) refl
    value_few word.Has = has_few

  choice_gives : (within : Bool) (w : Word) → (is_has w && within) ≡ false → GivesList n (within || is_has w) w k xs j → Gives (suc n) within i (form.Choice w xs) j
  choice_gives within w first g = record {
    fits = λ around last h. subst (All (Fit (suc n) within around)) (sym (choice_simples w xs))
        (All-cons (Fit (suc n) within around) (choice_value w (map member_value xs)) [] (value_fit within w g first around (sym (choice_refusal (is_none around) last w xs) ∙ h)) (All-nil (Fit (suc n) within around)));
    alone = λ t e around last h. let z : None ≡ Some t = sym (choice_alone w xs) ∙ e in cc;
    size = omega (arith, value_few g.size w, sum_by-cons simple_size (choice_value w (map member_value xs)) [], ap (sum_by simple_size) (choice_simples w xs));
  }

read_gives : (n : ℕ) (within : Bool) (i : ℕ) (w : Word) (o : Option ListRead) → (is_has w && within) ≡ false → GivesListRead n (within || is_has w) w (i + 2) o → GivesRead (suc n) within i (choice_read w o)
read_gives n within i w None first h = tt
read_gives n within i w (Some r) first h = choice_gives n i (i + 2) r.end r.list (omega arith) within w first h

-- what is read at each place
module _ (text : List ℕ) (ts : List CssToken) where
  deep_read_gives : (n : ℕ) (within : Bool) (i : ℕ) (o : Option ListRead) → EndsList ts (i + 2) o → GivesRead n within i (deep_read o)
  deep_read_gives n within i None h = tt
  deep_read_gives n within i (Some r) h = let l = h.moves in deep_gives n within i r.end (omega arith)

  deep_here : (n : ℕ) (within : Bool) (i : ℕ) (w : Word) → i ≤ length ts → word_at ts i ≡ Some w → GivesRead n within i (deep text ts i)
  deep_here n within i w low e =
      let l = word_inside text ts i w e in
      subst (GivesRead n within i) (sym (deep_is text ts i w low e)) (deep_read_gives n within i _ (list_ends text ts (deep text ts) (deep_ends text ts (length ts)) w (length ts) (i + 2) (omega arith)))

  pub by_gives : (n i : ℕ) (within : Bool) → i ≤ length ts → GivesRead n within i (simple_by text ts n within i)
  unfolding simple_by
  by_gives zero i within low = by_word (word_at ts i) refl
    where
      by_word : (w : Option Word) → word_at ts i ≡ w → GivesRead zero within i (simple_by text ts zero within i)
      by_word None e = subst (GivesRead zero within i) (sym (at_piece text ts zero within i e)) (piece_gives zero within i ts (piece_at text ts i) (piece_good ts text i))
      by_word (Some w) e = deep_here zero within i w low e
  by_gives (suc n) i within low = by_word (λ v k l. by_gives n k v l) (word_at ts i) refl
    where
      by_word : ((v : Bool) (k : ℕ) → k ≤ length ts → GivesRead n v k (simple_by text ts n v k)) → (w : Option Word) → word_at ts i ≡ w → GivesRead (suc n) within i (simple_by text ts (suc n) within i)
      by_word go None e = subst (GivesRead (suc n) within i) (sym (at_piece text ts (suc n) within i e)) (piece_gives (suc n) within i ts (piece_at text ts i) (piece_good ts text i))
      by_word go (Some w) e =
          let l = word_inside text ts i w e in
          let v : Bool = within || is_has w in
          subst (GivesRead (suc n) within i) (sym (kept_at text ts n within i w e))
          (by_second (is_has w && within) refl
          (λ first. read_gives n within i w _ first (list_gives text ts n v (simple_by text ts n v) (by_ends text ts n v) (λ k low. go v k low) w (length ts) (i + 2) (omega arith))))
        where
          by_second : (b : Bool) → (is_has w && within) ≡ b → ((is_has w && within) ≡ false → GivesRead (suc n) within i (choice_read w (members text ts (simple_by text ts n (within || is_has w)) w (i + 2))))
              → GivesRead (suc n) within i (cond b (deep text ts i) (choice_read w (members text ts (simple_by text ts n (within || is_has w)) w (i + 2))))
          by_second true h k = deep_here (suc n) within i w low e
          by_second false h k = k h
