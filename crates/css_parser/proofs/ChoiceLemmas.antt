-- Choices: where they end, and more room than is needed changes nothing.
use Rattle.std.proofs.Common.{◌≡◌, ℕ, zero, suc, ◌+◌, ◌-◌, ◌<◌, ◌≤◌, Bool, true, false, cond, List, [], ◌∷◌, ◌++◌, length, get_or, refl, sym, ◌∙◌, ap, subst, arith}
use Rattle.std.proofs.lemmas.Bool.{and_parts}
use Rattle.std.specs.Prelude.{◌==◌, ◌≢◌, ◌↔◌, ◌&&◌, ◌||◌, IsTrue, Option, Some, None}
use Rattle.std.proofs.lemmas.Bool.Decides.{nat_tests}
use Rattle.css_lexer.specs.declared.tokens.CssKind.TheVariants as kind
use Rattle.css_lexer.specs.declared.tokens.CssToken.{CssToken}
use Rattle.css_selectors.specs.declared.selector.Link.{Link}
use Rattle.css_selectors.specs.declared.selector.Link.TheVariants as link
use Rattle.css_parser.specs.declared.pieces.Word.{Word}
use Rattle.css_parser.specs.declared.pieces.Word.TheVariants as word
use Rattle.css_parser.specs.declared.pieces.Form.{Form}
use Rattle.css_parser.specs.declared.pieces.Read.{Read}
use Rattle.css_parser.specs.declared.pieces.FormRead.{FormRead}
use Rattle.css_parser.specs.declared.pieces.FormsRead.{FormsRead}
use Rattle.css_parser.specs.declared.pieces.Inner.{Inner}
use Rattle.css_parser.specs.declared.pieces.InnerRead.{InnerRead}
use Rattle.css_parser.specs.declared.pieces.InnersRead.{InnersRead}
use Rattle.css_parser.specs.declared.pieces.Member.{Member}
use Rattle.css_parser.specs.declared.pieces.ListRead.{ListRead}
use Rattle.css_parser.specs.declared.pieces.LinkRead.{LinkRead}
use Rattle.css_parser.specs.declared.pieces.ElementRead.{ElementRead}
use Rattle.css_parser.specs.Places.{code_at, stands, skip}
use Rattle.css_parser.specs.Simples.{element, piece_at}
use Rattle.css_parser.specs.Links.{combinator, sign}
use Rattle.css_parser.specs.Choices.{word_at, form_read, one_read, choice_read, deep_read, is_has, Reader, Forms, forms_by, forms_from, inner_read, some_read, inner_with, parts_by, alone, joined, member_of, front, inner_at, further_with, further_at, parts_from, member_at, list_by, list_from, members, choice_with, deep_by, deep, simple_by, simple}
use Rattle.css_parser.specs.inner.Reading.{IsBehind, EndsElement, Ends, EndsForm, EndsInner, EndsInners, EndsList, EndsLink, IsFormsRead, deep_end, IsTable}
use Rattle.css_parser.proofs.PlaceLemmas.{skip_order, skip_within, stands_within}
use Rattle.css_parser.proofs.Endings.{element_ends, piece_ends, combinator_ends}

pub not_empty : (b : Bool) (xs : List Form) → (IsTrue b ↔ (xs ≡ [])) → b ≡ false → xs ≢ []
not_empty b xs both off e = let f : false ≡ true = sym off ∙ both.1 e in cc

-- what a reader reads ends behind its place
abbrev pub IsSound : List CssToken → Reader → Type 0
IsSound ts f = (i : ℕ) → i ≤ length ts → EndsForm ts i (f i)

pub forms_push : (f : Reader) (i j k : ℕ) (xs : List Form) (x : Form) → Forms f i xs j → f j ≡ Some (form_read x k) → Forms f i (xs ++ x ∷ []) k
forms_push f i j k [] x h e = (k, ap f h ∙ e, refl)
forms_push f i j k (y ∷ xs) x h e = (h.0, h.1, forms_push f h.0 j k xs x h.2 e)

module _ (ts : List CssToken) (f : Reader) (sound : IsSound ts f) where
  -- the forms that are read end at their place or behind it
  record Reaches (i : ℕ) (r : FormsRead) : Type 0 where
    order : i ≤ r.end
    within : r.end ≤ length ts
    moves : r.forms ≢ [] → i < r.end

  forms_reach : (m i : ℕ) → i ≤ length ts → Reaches i (forms_from f m i)
  forms_reach zero i low = record { order = omega arith; within = low; moves = λ h. absurd (h refl) }
  forms_reach (suc m) i low = by_form (λ k l. forms_reach m k l) (f i) (sound i low)
    where
      by_form : ((k : ℕ) → k ≤ length ts → Reaches k (forms_from f m k)) → (o : Option FormRead) → EndsForm ts i o → Reaches i (forms_by i (forms_from f m) o)
      by_form go None h = record { order = omega arith; within = low; moves = λ h. absurd (h refl) }
      by_form go (Some r) h =
          let rest = go r.end h.within in
          let first = h.moves in
          let order = rest.order in
          record { order = omega arith; within = rest.within; moves = λ _. omega arith }

  -- the forms that stand there are those that are read
  pub forms_are : (m i j : ℕ) (xs : List Form) → i ≤ length ts → length ts ≤ m + i → Forms f i xs j → f j ≡ None → forms_from f m i ≡ record { forms = xs; end = j }
  forms_are zero i j [] low near h stops = ap (λ n. record { forms = []; end = n }) h
  forms_are zero i j (x ∷ xs) low near h stops = let b : IsBehind ts i h.0 = subst (EndsForm ts i) h.1 (sound i low) in let l = b.moves in let w = b.within in absurd (omega arith)
  forms_are (suc m) i j [] low near h stops = ap (forms_by i (forms_from f m)) (ap f h ∙ stops) ∙ ap (λ n. record { forms = []; end = n }) h
  forms_are (suc m) i j (x ∷ xs) low near h stops =
      let b : IsBehind ts i h.0 = subst (EndsForm ts i) h.1 (sound i low) in
      let l = b.moves in
      ap (forms_by i (forms_from f m)) h.1 ∙ ap (λ (r : FormsRead). read_of (x ∷ r.forms) r.end) (forms_are m h.0 j xs b.within (omega arith) h.2 stops)
    where
      read_of : List Form → ℕ → FormsRead
      read_of ys n = record { forms = ys; end = n }

  pub forms_read : (i : ℕ) (r : FormsRead) → i ≤ length ts → IsFormsRead ts f i r → forms_from f (length ts) i ≡ r
  forms_read i r low h = forms_are (length ts) i r.end r.forms low (omega arith) h.reads h.stops

  some_ends : (l : Link) (i : ℕ) (r : FormsRead) → Reaches i r → (xs : List Form) → r.forms ≡ xs → EndsInner ts i (some_read xs (inner_read l false None false r))
  some_ends l i r h [] e = tt
  some_ends l i r h (x ∷ xs) e = record { moves = h.moves (λ n. let z : x ∷ xs ≡ [] = sym e ∙ n in cc); within = h.within }

  with_ends : (l : Link) (i : ℕ) → i ≤ length ts → (e : Option ElementRead) → EndsElement ts i e → EndsInner ts i (inner_with l e (forms_from f (length ts)) i)
  with_ends l i low None h = let r = forms_from f (length ts) i in some_ends l i r (forms_reach (length ts) i low) r.forms refl
  with_ends l i low (Some e) h =
      let rest = forms_reach (length ts) e.end h.within in
      let first = h.moves in
      let order = rest.order in
      record { moves = omega arith; within = rest.within }

-- some forms end behind their place
pub some_moves : (ts : List CssToken) (f : Reader) → IsSound ts f → (i : ℕ) (r : FormsRead) → i ≤ length ts → IsFormsRead ts f i r → r.forms ≢ [] → IsBehind ts i r.end
some_moves ts f sound i r low h some =
    let reach : Reaches ts f sound i r = subst (Reaches ts f sound i) (forms_read ts f sound i r low h) (forms_reach ts f sound (length ts) i low) in
    record { moves = reach.moves some; within = reach.within }

-- a place that is not before another
pub record IsFrom (ts : List CssToken) (i j : ℕ) : Type 0 where
  pub order : i ≤ j
  pub within : j ≤ length ts

-- compounds of a choice
module _ (text : List ℕ) (ts : List CssToken) where
  sign_if : (i : ℕ) (b : Bool) (x y : LinkRead) → (b ≡ true → IsFrom ts i x.end) → IsFrom ts i y.end → IsFrom ts i (cond b x y).end
  sign_if i true x y h g = h refl
  sign_if i false x y h g = g

  pub sign_ends : (i : ℕ) → i ≤ length ts → IsFrom ts i (sign ts i).end
  unfolding sign
  sign_ends i low =
      let one : (n : ℕ) → 0 < n → (code_at ts i == n) ≡ true → IsFrom ts i (skip ts (i + 1)) = λ n some h. (let l = stands_within ts i n some h in record { order = omega (arith, skip_order ts (i + 1)); within = skip_within ts (i + 1) (omega arith) }) in
      sign_if i (stands kind.Greater ts i) _ _ (λ h. one 21 (omega arith) h)
      (sign_if i (stands kind.Plus ts i) _ _ (λ h. one 20 (omega arith) h)
      (sign_if i (stands kind.Tilde ts i) _ _ (λ h. one 22 (omega arith) h) (record { order = omega arith; within = low })))

  pub inner_ends : (f : Reader) → IsSound ts f → (l : Link) (i : ℕ) → i ≤ length ts → EndsInner ts i (inner_at text ts f l i)
  unfolding inner_at
  inner_ends f sound l i low = with_ends ts f sound l i low (element ts i) (element_ends text ts i)

  lower_inner : (i k : ℕ) (o : Option InnerRead) → i ≤ k → EndsInner ts k o → EndsInner ts i o
  lower_inner i k None le h = tt
  lower_inner i k (Some r) le h = let l = h.moves in record { moves = omega arith; within = h.within }

  pub further_ends : (f : Reader) → IsSound ts f → (i : ℕ) → i ≤ length ts → EndsInner ts i (further_at text ts f i)
  further_ends f sound i low = by_link (combinator ts i) (combinator_ends text ts i low)
    where
      by_link : (o : Option LinkRead) → EndsLink ts i o → EndsInner ts i (further_with text ts f o)
      by_link None h = tt
      by_link (Some r) h = let l = h.moves in lower_inner i r.end _ (omega arith) (inner_ends f sound r.link r.end h.within)

  parts_end : (f : Reader) → IsSound ts f → (m i : ℕ) → i ≤ length ts → IsFrom ts i (parts_from text ts f m i).end
  parts_end f sound zero i low = record { order = omega arith; within = low }
  parts_end f sound (suc m) i low = by_part (λ k l. parts_end f sound m k l) (further_at text ts f i) (further_ends f sound i low)
    where
      by_part : ((k : ℕ) → k ≤ length ts → IsFrom ts k (parts_from text ts f m k).end) → (o : Option InnerRead) → EndsInner ts i o → IsFrom ts i (parts_by i (parts_from text ts f m) o).end
      by_part go None h = record { order = omega arith; within = low }
      by_part go (Some r) h = let rest = go r.end h.within in let l = h.moves in let o = rest.order in record { order = omega arith; within = rest.within }

  alone_ends : (i : ℕ) (o : Option InnerRead) → EndsInner ts i o → EndsInners ts i (alone o)
  alone_ends i None h = tt
  alone_ends i (Some r) h = h

  joined_ends : (f : Reader) → IsSound ts f → (i k : ℕ) → i ≤ k → (o : Option InnerRead) → EndsInner ts k o → EndsInners ts i (joined (parts_from text ts f (length ts)) o)
  joined_ends f sound i k le None h = tt
  joined_ends f sound i k le (Some r) h =
      let rest = parts_end f sound (length ts) r.end h.within in
      let l = h.moves in
      let o = rest.order in
      record { moves = omega arith; within = rest.within }

  pub member_ends : (f : Reader) → IsSound ts f → (w : Word) (i : ℕ) → i ≤ length ts → EndsInners ts i (member_at text ts f w i)
  unfolding member_at
  member_ends f sound word.Has i low = let s = sign_ends i low in joined_ends f sound i (sign ts i).end s.order _ (inner_ends f sound (sign ts i).link (sign ts i).end s.within)
  member_ends f sound word.Is i low = alone_ends i _ (inner_ends f sound link.First i low)
  member_ends f sound word.Where i low = alone_ends i _ (inner_ends f sound link.First i low)
  member_ends f sound word.Not i low = alone_ends i _ (inner_ends f sound link.First i low)

  list_if : (a : ℕ) (b : Bool) (x y : Option ListRead) → (b ≡ true → EndsList ts a x) → (b ≡ false → EndsList ts a y) → EndsList ts a (cond b x y)
  list_if a true x y h k = h refl
  list_if a false x y h k = k refl

  front_ends : (a k : ℕ) (x : Member) (o : Option ListRead) → a ≤ k → EndsList ts k o → EndsList ts a (front x o)
  front_ends a k x None le h = tt
  front_ends a k x (Some r) le h = let l = h.moves in record { moves = omega arith; within = h.within }

  pub list_ends : (f : Reader) → IsSound ts f → (w : Word) (m i : ℕ) → i ≤ length ts → EndsList ts i (list_from text ts f w m i)
  list_ends f sound w zero i low = tt
  list_ends f sound w (suc m) i low =
      by_member (λ k l. list_ends f sound w m k l) (member_at text ts f w (skip ts i)) (member_ends f sound w (skip ts i) (skip_within ts i low))
    where
      by_member : ((k : ℕ) → k ≤ length ts → EndsList ts k (list_from text ts f w m k)) → (o : Option InnersRead) → EndsInners ts (skip ts i) o → EndsList ts i (list_by text ts (list_from text ts f w m) o)
      by_member go None h = tt
      by_member go (Some r) h =
          let j : ℕ = skip ts r.end in
          let first = h.moves in
          list_if i (stands kind.CloseRound ts j) _ _ (λ c. let l = stands_within ts j 18 (omega arith) c in record { moves = omega (arith, skip_order ts i, skip_order ts r.end); within = omega arith })
          (λ _. list_if i (stands kind.Comma ts j) _ _ (λ c. let l = stands_within ts j 19 (omega arith) c in front_ends i (j + 1) (member_of r.inners) _ (omega (arith, skip_order ts i, skip_order ts r.end)) (go (j + 1) (omega arith))) (λ _. tt))

  one_ends : (i : ℕ) (o : Option Read) → Ends ts i o → EndsForm ts i (one_read o)
  one_ends i None h = tt
  one_ends i (Some r) h = h

  -- a choice begins with two tokens
  word_if : (b : Bool) (o : Option Word) (w : Word) → cond b o None ≡ Some w → b ≡ true
  word_if true o w e = refl
  word_if false o w e = cc

  pub word_inside : (i : ℕ) (w : Word) → word_at ts i ≡ Some w → i + 1 < length ts
  unfolding word_at
  word_inside i w e = stands_within ts (i + 1) 2 (omega arith) (and_parts (stands kind.Colon ts i) (stands kind.Function ts (i + 1)) (word_if (stands kind.Colon ts i && stands kind.Function ts (i + 1)) _ w e)).1

  deep_read_ends : (i : ℕ) (o : Option ListRead) → EndsList ts (i + 2) o → EndsForm ts i (deep_read o)
  deep_read_ends i None h = tt
  deep_read_ends i (Some r) h = let l = h.moves in record { moves = omega arith; within = h.within }

  choice_read_ends : (i : ℕ) (w : Word) (o : Option ListRead) → EndsList ts (i + 2) o → EndsForm ts i (choice_read w o)
  choice_read_ends i w None h = tt
  choice_read_ends i w (Some r) h = let l = h.moves in record { moves = omega arith; within = h.within }

  choice_with_ends : (i : ℕ) (choice : Word → Option FormRead) → ((w : Word) → i + 1 < length ts → EndsForm ts i (choice w)) → (w : Option Word) → word_at ts i ≡ w → EndsForm ts i (choice_with text ts w (one_read (piece_at text ts i)) choice)
  choice_with_ends i choice h None e = one_ends i (piece_at text ts i) (piece_ends text ts i)
  choice_with_ends i choice h (Some w) e = h w (word_inside i w e)

  pub deep_ends : (n : ℕ) → IsSound ts (deep_by text ts n)
  unfolding deep_by
  deep_ends zero i low = choice_with_ends i _ (λ w l. tt) (word_at ts i) refl
  deep_ends (suc n) i low = choice_with_ends i _ (λ w l. deep_read_ends i _ (list_ends (deep_by text ts n) (deep_ends n) w (length ts) (i + 2) (omega arith))) (word_at ts i) refl

  form_if : (i : ℕ) (b : Bool) (x y : Option FormRead) → EndsForm ts i x → EndsForm ts i y → EndsForm ts i (cond b x y)
  form_if i true x y h g = h
  form_if i false x y h g = g

  pub by_ends : (n : ℕ) (within : Bool) → IsSound ts (simple_by text ts n within)
  unfolding simple_by
  by_ends zero within i low = deep_ends (length ts) i low
  by_ends (suc n) within i low =
      choice_with_ends i _ (λ w l. form_if i (is_has w && within) _ _ (deep_ends (length ts) i low) (choice_read_ends i w _ (list_ends (simple_by text ts n (within || is_has w)) (by_ends n (within || is_has w)) w (length ts) (i + 2) (omega arith)))) (word_at ts i) refl

  pub simple_ends : (i : ℕ) → i ≤ length ts → EndsForm ts i (simple text ts i)
  simple_ends i low = by_ends 8 false i low

  -- readers that agree from a place on read the same from there on
  module _ (f g : Reader) (from : ℕ) (sound : IsSound ts f) (same : (k : ℕ) → from ≤ k → k ≤ length ts → f k ≡ g k) where
    forms_agree : (m i : ℕ) → from ≤ i → i ≤ length ts → forms_from f m i ≡ forms_from g m i
    forms_agree zero i le low = refl
    forms_agree (suc m) i le low = by_form (λ k h l. forms_agree m k h l) (f i) (sound i low) ∙ ap (forms_by i (forms_from g m)) (same i le low)
      where
        by_form : ((k : ℕ) → from ≤ k → k ≤ length ts → forms_from f m k ≡ forms_from g m k) → (o : Option FormRead) → EndsForm ts i o → forms_by i (forms_from f m) o ≡ forms_by i (forms_from g m) o
        by_form go None h = refl
        by_form go (Some r) h = let l = h.moves in ap (λ (rest : FormsRead). read_of (r.form ∷ rest.forms) rest.end) (go r.end (omega arith) h.within)
          where
            read_of : List Form → ℕ → FormsRead
            read_of ys n = record { forms = ys; end = n }

    with_agree : (l : Link) (i : ℕ) → from ≤ i → i ≤ length ts → (e : Option ElementRead) → EndsElement ts i e → inner_with l e (forms_from f (length ts)) i ≡ inner_with l e (forms_from g (length ts)) i
    with_agree l i le low None h = ap (λ r. some_read r.forms (inner_read l false None false r)) (forms_agree (length ts) i le low)
    with_agree l i le low (Some e) h = let m = h.moves in ap (λ r. Some (inner_read l true e.name e.prefixed r)) (forms_agree (length ts) e.end (omega arith) h.within)

    inner_agree : (l : Link) (i : ℕ) → from ≤ i → i ≤ length ts → inner_at text ts f l i ≡ inner_at text ts g l i
    unfolding inner_at
    inner_agree l i le low = with_agree l i le low (element ts i) (element_ends text ts i)

    further_agree : (i : ℕ) → from ≤ i → i ≤ length ts → further_at text ts f i ≡ further_at text ts g i
    further_agree i le low = by_link (combinator ts i) (combinator_ends text ts i low)
      where
        by_link : (o : Option LinkRead) → EndsLink ts i o → further_with text ts f o ≡ further_with text ts g o
        by_link None h = refl
        by_link (Some r) h = let l = h.moves in inner_agree r.link r.end (omega arith) h.within

    rest_of : Inner → InnersRead → InnersRead
    rest_of x r = record { inners = x ∷ r.inners; end = r.end }

    parts_agree : (m i : ℕ) → from ≤ i → i ≤ length ts → parts_from text ts f m i ≡ parts_from text ts g m i
    unfolding rest_of
    parts_agree zero i le low = refl
    parts_agree (suc m) i le low = by_part (λ k h l. parts_agree m k h l) (further_at text ts f i) (further_ends f sound i low) ∙ ap (parts_by i (parts_from text ts g m)) (further_agree i le low)
      where
        by_part : ((k : ℕ) → from ≤ k → k ≤ length ts → parts_from text ts f m k ≡ parts_from text ts g m k) → (o : Option InnerRead) → EndsInner ts i o → parts_by i (parts_from text ts f m) o ≡ parts_by i (parts_from text ts g m) o
        by_part go None h = refl
        by_part go (Some r) h = let l = h.moves in ap (rest_of r.inner) (go r.end (omega arith) h.within)

    joined_agree : (k : ℕ) → from ≤ k → (o : Option InnerRead) → EndsInner ts k o → joined (parts_from text ts f (length ts)) o ≡ joined (parts_from text ts g (length ts)) o
    unfolding rest_of
    joined_agree k le None h = refl
    joined_agree k le (Some r) h = let l = h.moves in ap (λ x. Some (rest_of r.inner x)) (parts_agree (length ts) r.end (omega arith) h.within)

    member_agree : (w : Word) (i : ℕ) → from ≤ i → i ≤ length ts → member_at text ts f w i ≡ member_at text ts g w i
    unfolding member_at
    member_agree word.Has i le low =
        let s = sign_ends i low in
        let o = s.order in
        joined_agree (sign ts i).end (omega arith) _ (inner_ends f sound (sign ts i).link (sign ts i).end s.within)
        ∙ ap (joined (parts_from text ts g (length ts))) (inner_agree (sign ts i).link (sign ts i).end (omega arith) s.within)
    member_agree word.Is i le low = ap alone (inner_agree link.First i le low)
    member_agree word.Where i le low = ap alone (inner_agree link.First i le low)
    member_agree word.Not i le low = ap alone (inner_agree link.First i le low)

    cond_same : (b : Bool) (x y z : Option ListRead) → (b ≡ true → x ≡ y) → cond b x z ≡ cond b y z
    cond_same true x y z h = h refl
    cond_same false x y z h = refl

    pub list_agree : (w : Word) (m i : ℕ) → from ≤ i → i ≤ length ts → list_from text ts f w m i ≡ list_from text ts g w m i
    list_agree w zero i le low = refl
    list_agree w (suc m) i le low =
        by_member (λ k h l. list_agree w m k h l) (member_at text ts f w (skip ts i)) (member_ends f sound w (skip ts i) (skip_within ts i low))
        ∙ ap (list_by text ts (list_from text ts g w m)) (member_agree w (skip ts i) (omega (arith, skip_order ts i)) (skip_within ts i low))
      where
        by_member : ((k : ℕ) → from ≤ k → k ≤ length ts → list_from text ts f w m k ≡ list_from text ts g w m k) → (o : Option InnersRead) → EndsInners ts (skip ts i) o → list_by text ts (list_from text ts f w m) o ≡ list_by text ts (list_from text ts g w m) o
        by_member go None h = refl
        by_member go (Some r) h =
            let j : ℕ = skip ts r.end in
            let l = h.moves in
            ap (cond (stands kind.CloseRound ts j) (Some (record { list = member_of r.inners ∷ []; end = j + 1 })))
            (cond_same (stands kind.Comma ts j) _ _ None (λ c. let w = stands_within ts j 19 (omega arith) c in ap (front (member_of r.inners)) (go (j + 1) (omega (arith, skip_order ts i, skip_order ts r.end)) (omega arith))))

  -- as many levels as tokens behind a place are enough there
  deep_steady : (n i : ℕ) → i ≤ length ts → length ts ≤ n + i → deep_by text ts n i ≡ deep_by text ts (suc n) i
  unfolding deep_by
  deep_steady zero i low near = by_word (word_at ts i) refl
    where
      by_word : (w : Option Word) → word_at ts i ≡ w → choice_with text ts w (one_read (piece_at text ts i)) (λ v. None) ≡ choice_with text ts w (one_read (piece_at text ts i)) (λ v. deep_read (members text ts (deep_by text ts zero) v (i + 2)))
      by_word None e = refl
      by_word (Some w) e = let l = word_inside i w e in absurd (omega arith)
  deep_steady (suc n) i low near = by_word (λ k l h. deep_steady n k l h) (word_at ts i) refl
    where
      by_word : ((k : ℕ) → k ≤ length ts → length ts ≤ n + k → deep_by text ts n k ≡ deep_by text ts (suc n) k) → (w : Option Word) → word_at ts i ≡ w
          → choice_with text ts w (one_read (piece_at text ts i)) (λ v. deep_read (members text ts (deep_by text ts n) v (i + 2))) ≡ choice_with text ts w (one_read (piece_at text ts i)) (λ v. deep_read (members text ts (deep_by text ts (suc n)) v (i + 2)))
      by_word go None e = refl
      by_word go (Some w) e =
          let l = word_inside i w e in
          ap deep_read (list_agree (deep_by text ts n) (deep_by text ts (suc n)) (i + 1) (deep_ends n) (λ k le low. go k low (omega arith)) w (length ts) (i + 2) (omega arith) (omega arith))

  -- what is read of a choice at any depth
  pub deep_is : (i : ℕ) (w : Word) → i ≤ length ts → word_at ts i ≡ Some w → deep text ts i ≡ deep_read (members text ts (deep text ts) w (i + 2))
  unfolding deep_by
  deep_is i w low e =
      let l = word_inside i w e in
      deep_steady (length ts) i low (omega arith) ∙ ap (λ o. choice_with text ts o (one_read (piece_at text ts i)) (λ v. deep_read (members text ts (deep text ts) v (i + 2)))) e

  pub deep_piece : (n i : ℕ) → word_at ts i ≡ None → deep_by text ts n i ≡ one_read (piece_at text ts i)
  unfolding deep_by
  deep_piece zero i e = ap (λ o. choice_with text ts o (one_read (piece_at text ts i)) (λ v. None)) e
  deep_piece (suc n) i e = ap (λ o. choice_with text ts o (one_read (piece_at text ts i)) (λ v. deep_read (members text ts (deep_by text ts n) v (i + 2)))) e

  -- the ways of `simple`
  abbrev pub kept : ℕ → Bool → ℕ → Word → Option FormRead
  kept n within i w = cond (is_has w && within) (deep text ts i) (choice_read w (members text ts (simple_by text ts n (within || is_has w)) w (i + 2)))

  pub at_piece : (n : ℕ) (within : Bool) (i : ℕ) → word_at ts i ≡ None → simple_by text ts n within i ≡ one_read (piece_at text ts i)
  unfolding simple_by
  at_piece zero within i e = deep_piece (length ts) i e
  at_piece (suc n) within i e = ap (λ o. choice_with text ts o (one_read (piece_at text ts i)) (kept n within i)) e

  pub kept_at : (n : ℕ) (within : Bool) (i : ℕ) (w : Word) → word_at ts i ≡ Some w → simple_by text ts (suc n) within i ≡ kept n within i w
  unfolding simple_by
  kept_at n within i w e = ap (λ o. choice_with text ts o (one_read (piece_at text ts i)) (kept n within i)) e

  not_zero : {A : Type 0} → (zero == 0) ≡ false → A
  not_zero h = let f : (zero == 0) ≡ true = grind (arith, nat_tests) in let z : true ≡ false = sym f ∙ h in cc

  less : (n : ℕ) → n ≡ suc n - 1
  less n = omega arith

  pub at_choice : (n : ℕ) (within : Bool) (i : ℕ) (w : Word) → word_at ts i ≡ Some w → (n == 0) ≡ false → (is_has w && within) ≡ false
      → simple_by text ts n within i ≡ choice_read w (members text ts (simple_by text ts (n - 1) (within || is_has w)) w (i + 2))
  at_choice zero within i w e h k = not_zero h
  at_choice (suc n) within i w e h k =
      kept_at n within i w e ∙ ap (λ b. cond b (deep text ts i) (choice_read w (members text ts (simple_by text ts n (within || is_has w)) w (i + 2)))) k
      ∙ ap (λ m. choice_read w (members text ts (simple_by text ts m (within || is_has w)) w (i + 2))) (less n)

  entry_is : (i : ℕ) (w : Word) (ends : List (Option ℕ)) → word_at ts i ≡ Some w → IsTable text ts ends → length ts ≤ i + length ends → deep_end (get_or ends (length ts - 1 - i) None) ≡ deep text ts i
  entry_is i w ends e table known = table i (let l = word_inside i w e in omega arith) known w e

  pub at_deep : (n : ℕ) (within : Bool) (i : ℕ) (w : Word) (ends : List (Option ℕ)) → word_at ts i ≡ Some w → (n == 0) ≡ true → IsTable text ts ends → length ts ≤ i + length ends
      → deep_end (get_or ends (length ts - 1 - i) None) ≡ simple_by text ts n within i
  unfolding simple_by
  at_deep zero within i w ends e h table known = entry_is i w ends e table known
  at_deep (suc n) within i w ends e h table known = let f : (suc n == 0) ≡ false = grind (arith, nat_tests) in let z : true ≡ false = sym h ∙ f in cc

  pub at_has : (n : ℕ) (within : Bool) (i : ℕ) (w : Word) (ends : List (Option ℕ)) → word_at ts i ≡ Some w → (n == 0) ≡ false → (is_has w && within) ≡ true → IsTable text ts ends → length ts ≤ i + length ends
      → deep_end (get_or ends (length ts - 1 - i) None) ≡ simple_by text ts n within i
  at_has zero within i w ends e h k table known = not_zero h
  at_has (suc n) within i w ends e h k table known =
      entry_is i w ends e table known ∙ sym (kept_at n within i w e ∙ ap (λ b. cond b (deep text ts i) (choice_read w (members text ts (simple_by text ts n (within || is_has w)) w (i + 2)))) k)

  pub deep_entry_ends : (i : ℕ) (w : Word) (ends : List (Option ℕ)) → word_at ts i ≡ Some w → IsTable text ts ends → length ts ≤ i + length ends
      → EndsForm ts i (deep_end (get_or ends (length ts - 1 - i) None))
  deep_entry_ends i w ends e table known = let l = word_inside i w e in subst (EndsForm ts i) (sym (entry_is i w ends e table known)) (deep_ends (length ts) i (omega arith))
