-- The grammar of choices has no depth.
use Rattle.std.proofs.Common.{◌≡◌, ℕ, zero, suc, ◌+◌, ◌≤◌, Bool, true, false, cond, List, [], ◌∷◌, length, refl, sym, ◌∙◌, ap, arith}
use Rattle.std.specs.Prelude.{◌&&◌, ◌||◌, Option, Some, None}
use Rattle.css_lexer.specs.declared.tokens.CssKind.TheVariants as kind
use Rattle.css_lexer.specs.declared.tokens.CssToken.{CssToken}
use Rattle.css_selectors.specs.declared.selector.Link.{Link}
use Rattle.css_selectors.specs.declared.selector.Link.TheVariants as link
use Rattle.css_parser.specs.declared.pieces.Word.{Word}
use Rattle.css_parser.specs.declared.pieces.Word.TheVariants as word
use Rattle.css_parser.specs.declared.pieces.Form.{Form}
use Rattle.css_parser.specs.declared.pieces.FormRead.{FormRead}
use Rattle.css_parser.specs.declared.pieces.FormsRead.{FormsRead}
use Rattle.css_parser.specs.declared.pieces.InnerRead.{InnerRead}
use Rattle.css_parser.specs.declared.pieces.InnersRead.{InnersRead}
use Rattle.css_parser.specs.declared.pieces.Member.{Member}
use Rattle.css_parser.specs.declared.pieces.ListRead.{ListRead}
use Rattle.css_parser.specs.declared.pieces.LinkRead.{LinkRead}
use Rattle.css_parser.specs.declared.pieces.ElementRead.{ElementRead}
use Rattle.css_parser.specs.Places.{stands, skip}
use Rattle.css_parser.specs.Simples.{element, piece_at}
use Rattle.css_parser.specs.Links.{combinator, sign}
use Rattle.css_parser.specs.Choices.{is_has, word_at, one_read, choice_read, deep_read, deep, choice_with, simple_by, Reader, forms_by, forms_from, some_read, inner_with, parts_by, alone, joined, front, inner_at, further_with, further_at, parts_from, member_at, list_by, list_from, members}
use Rattle.css_parser.specs.inner.Reading.{EndsForm, EndsElement, EndsInner, EndsInners, EndsLink}
use Rattle.text_base.specs.Strings.{is_empty}
use Rattle.css_parser.specs.Laws.{end_of, IsReadAlike, KeepsEnds}
use Rattle.css_parser.proofs.PlaceLemmas.{skip_order, skip_within, stands_within}
use Rattle.css_parser.proofs.Endings.{element_ends, combinator_ends}
use Rattle.css_parser.proofs.ChoiceLemmas.{IsSound, by_ends, at_piece, kept_at, deep_is, deep_piece, word_inside, inner_ends, further_ends, sign_ends, member_ends}

inner_end : Option InnerRead → Option ℕ
inner_end None = None
inner_end (Some r) = Some r.end

parts_end : Option InnersRead → Option ℕ
parts_end None = None
parts_end (Some r) = Some r.end

list_end : Option ListRead → Option ℕ
list_end None = None
list_end (Some r) = Some r.end

-- readers that end alike from a place on
module _ (text : List ℕ) (ts : List CssToken) (f g : Reader) (from : ℕ) (sound : IsSound ts f) (same : (k : ℕ) → from ≤ k → k ≤ length ts → end_of (f k) ≡ end_of (g k)) where
  record IsAlike (r q : FormsRead) : Type 0 where
    end : r.end ≡ q.end
    empty : is_empty r.forms ≡ is_empty q.forms

  forms_alike : (m i : ℕ) → from ≤ i → i ≤ length ts → IsAlike (forms_from f m i) (forms_from g m i)
  forms_alike zero i le low = record { end = refl; empty = refl }
  forms_alike (suc m) i le low = by_form (λ k h l. forms_alike m k h l) (f i) (g i) (sound i low) (same i le low)
    where
      by_form : ((k : ℕ) → from ≤ k → k ≤ length ts → IsAlike (forms_from f m k) (forms_from g m k)) → (o p : Option FormRead) → EndsForm ts i o → end_of o ≡ end_of p
          → IsAlike (forms_by i (forms_from f m) o) (forms_by i (forms_from g m) p)
      by_form go None None h e = record { end = refl; empty = refl }
      by_form go None (Some q) h e = cc
      by_form go (Some r) None h e = cc
      by_form go (Some r) (Some q) h e =
          let moves = h.moves in
          let rest = go r.end (omega arith) h.within in
          let one : r.end ≡ q.end = cc in
          record { end = rest.end ∙ ap (λ k. (forms_from g m k).end) one; empty = refl }

  some_alike : (xs ys : List Form) (r q : InnerRead) → is_empty xs ≡ is_empty ys → r.end ≡ q.end → inner_end (some_read xs r) ≡ inner_end (some_read ys q)
  unfolding inner_end
  some_alike [] [] r q e h = refl
  some_alike [] (y ∷ ys) r q e h = cc
  some_alike (x ∷ xs) [] r q e h = cc
  some_alike (x ∷ xs) (y ∷ ys) r q e h = ap Some h

  with_alike : (l : Link) (i : ℕ) → from ≤ i → i ≤ length ts → (o : Option ElementRead) → EndsElement ts i o → inner_end (inner_with l o (forms_from f (length ts)) i) ≡ inner_end (inner_with l o (forms_from g (length ts)) i)
  unfolding inner_end
  with_alike l i le low None h = let both = forms_alike (length ts) i le low in some_alike _ _ _ _ both.empty both.end
  with_alike l i le low (Some e) h = let moves = h.moves in let both = forms_alike (length ts) e.end (omega arith) h.within in ap Some both.end

  inner_alike : (l : Link) (i : ℕ) → from ≤ i → i ≤ length ts → inner_end (inner_at text ts f l i) ≡ inner_end (inner_at text ts g l i)
  unfolding inner_at
  inner_alike l i le low = with_alike l i le low (element ts i) (element_ends text ts i)

  further_alike : (i : ℕ) → from ≤ i → i ≤ length ts → inner_end (further_at text ts f i) ≡ inner_end (further_at text ts g i)
  further_alike i le low = by_link (combinator ts i) (combinator_ends text ts i low)
    where
      by_link : (o : Option LinkRead) → EndsLink ts i o → inner_end (further_with text ts f o) ≡ inner_end (further_with text ts g o)
      by_link None h = refl
      by_link (Some r) h = let moves = h.moves in inner_alike r.link r.end (omega arith) h.within

  parts_alike : (m i : ℕ) → from ≤ i → i ≤ length ts → (parts_from text ts f m i).end ≡ (parts_from text ts g m i).end
  unfolding inner_end
  parts_alike zero i le low = refl
  parts_alike (suc m) i le low = by_part (λ k h l. parts_alike m k h l) (further_at text ts f i) (further_at text ts g i) (further_ends text ts f sound i low) (further_alike i le low)
    where
      by_part : ((k : ℕ) → from ≤ k → k ≤ length ts → (parts_from text ts f m k).end ≡ (parts_from text ts g m k).end) → (o p : Option InnerRead) → EndsInner ts i o → inner_end o ≡ inner_end p
          → (parts_by i (parts_from text ts f m) o).end ≡ (parts_by i (parts_from text ts g m) p).end
      by_part go None None h e = refl
      by_part go None (Some q) h e = cc
      by_part go (Some r) None h e = cc
      by_part go (Some r) (Some q) h e =
          let moves = h.moves in
          let one : r.end ≡ q.end = cc in
          go r.end (omega arith) h.within ∙ ap (λ k. (parts_from text ts g m k).end) one

  alone_alike : (o p : Option InnerRead) → inner_end o ≡ inner_end p → parts_end (alone o) ≡ parts_end (alone p)
  unfolding inner_end parts_end
  alone_alike None None e = refl
  alone_alike None (Some q) e = cc
  alone_alike (Some r) None e = cc
  alone_alike (Some r) (Some q) e = e

  joined_alike : (k : ℕ) → from ≤ k → (o p : Option InnerRead) → EndsInner ts k o → inner_end o ≡ inner_end p → parts_end (joined (parts_from text ts f (length ts)) o) ≡ parts_end (joined (parts_from text ts g (length ts)) p)
  unfolding inner_end parts_end
  joined_alike k le None None h e = refl
  joined_alike k le None (Some q) h e = cc
  joined_alike k le (Some r) None h e = cc
  joined_alike k le (Some r) (Some q) h e =
      let moves = h.moves in
      let one : r.end ≡ q.end = cc in
      ap Some (parts_alike (length ts) r.end (omega arith) h.within ∙ ap (λ j. (parts_from text ts g (length ts) j).end) one)

  member_alike : (w : Word) (i : ℕ) → from ≤ i → i ≤ length ts → parts_end (member_at text ts f w i) ≡ parts_end (member_at text ts g w i)
  unfolding member_at
  member_alike word.Has i le low =
      let s = sign_ends text ts i low in
      let order = s.order in
      joined_alike (sign ts i).end (omega arith) _ _ (inner_ends text ts f sound (sign ts i).link (sign ts i).end s.within) (inner_alike (sign ts i).link (sign ts i).end (omega arith) s.within)
  member_alike word.Is i le low = alone_alike _ _ (inner_alike link.First i le low)
  member_alike word.Where i le low = alone_alike _ _ (inner_alike link.First i le low)
  member_alike word.Not i le low = alone_alike _ _ (inner_alike link.First i le low)

  -- where a list ends, of which a member ends at k
  goes_on : (ℕ → Option ListRead) → ℕ → Option ℕ
  goes_on more k = let j = skip ts k in cond (stands kind.CloseRound ts j) (Some (j + 1)) (cond (stands kind.Comma ts j) (list_end (more (j + 1))) None)

  end_if : (b : Bool) (x y : Option ListRead) (m n : Option ℕ) → list_end x ≡ m → list_end y ≡ n → list_end (cond b x y) ≡ cond b m n
  end_if true x y m n h k = h
  end_if false x y m n h k = k

  front_end : (x : Member) (o : Option ListRead) → list_end (front x o) ≡ list_end o
  unfolding list_end
  front_end x None = refl
  front_end x (Some r) = refl

  by_end : (more : ℕ → Option ListRead) (r : InnersRead) → list_end (list_by text ts more (Some r)) ≡ goes_on more r.end
  unfolding goes_on list_end
  by_end more r =
      end_if (stands kind.CloseRound ts (skip ts r.end)) _ _ _ _ refl
      (end_if (stands kind.Comma ts (skip ts r.end)) (front _ (more (skip ts r.end + 1))) None _ None (front_end _ (more (skip ts r.end + 1))) refl)

  same_if : (b : Bool) (x y z : Option ℕ) → (b ≡ true → x ≡ y) → cond b x z ≡ cond b y z
  same_if true x y z h = h refl
  same_if false x y z h = refl

  list_alike : (w : Word) (m i : ℕ) → from ≤ i → i ≤ length ts → list_end (list_from text ts f w m i) ≡ list_end (list_from text ts g w m i)
  unfolding goes_on parts_end list_end
  list_alike w zero i le low = refl
  list_alike w (suc m) i le low =
      by_member (λ k h l. list_alike w m k h l) (member_at text ts f w (skip ts i)) (member_at text ts g w (skip ts i)) (member_ends text ts f sound w (skip ts i) (skip_within ts i low))
      (member_alike w (skip ts i) (omega (arith, skip_order ts i)) (skip_within ts i low))
    where
      by_member : ((k : ℕ) → from ≤ k → k ≤ length ts → list_end (list_from text ts f w m k) ≡ list_end (list_from text ts g w m k)) → (o p : Option InnersRead) → EndsInners ts (skip ts i) o
          → parts_end o ≡ parts_end p → list_end (list_by text ts (list_from text ts f w m) o) ≡ list_end (list_by text ts (list_from text ts g w m) p)
      by_member go None None h e = refl
      by_member go None (Some q) h e = cc
      by_member go (Some r) None h e = cc
      by_member go (Some r) (Some q) h e =
          let j : ℕ = skip ts r.end in
          let moves = h.moves in
          let one : r.end ≡ q.end = cc in
          by_end (list_from text ts f w m) r
          ∙ ap (cond (stands kind.CloseRound ts j) (Some (j + 1)))
          (same_if (stands kind.Comma ts j) _ _ None (λ c. let l = stands_within ts j 19 (omega arith) c in go (j + 1) (omega (arith, skip_order ts i, skip_order ts r.end)) (omega arith)))
          ∙ ap (goes_on (list_from text ts g w m)) one
          ∙ sym (by_end (list_from text ts g w m) q)

deep_list : (o : Option ListRead) → end_of (deep_read o) ≡ list_end o
unfolding list_end
deep_list None = refl
deep_list (Some r) = refl

choice_list : (w : Word) (o : Option ListRead) → end_of (choice_read w o) ≡ list_end o
unfolding list_end
choice_list w None = refl
choice_list w (Some r) = refl

either_end : (b : Bool) (x y : Option FormRead) (m : Option ℕ) → end_of x ≡ m → end_of y ≡ m → end_of (cond b x y) ≡ m
either_end true x y m h k = h
either_end false x y m h k = k

pub keeps_ends : KeepsEnds
unfolding simple_by
keeps_ends text ts zero i within low = refl
keeps_ends text ts (suc n) i within low = by_word (λ v k l. keeps_ends text ts n k v l) (word_at ts i) refl
  where
    by_word : ((v : Bool) (k : ℕ) → k ≤ length ts → end_of (simple_by text ts n v k) ≡ end_of (deep text ts k)) → (w : Option Word) → word_at ts i ≡ w → end_of (simple_by text ts (suc n) within i) ≡ end_of (deep text ts i)
    by_word go None e = ap end_of (at_piece text ts (suc n) within i e ∙ sym (deep_piece text ts (length ts) i e))
    by_word go (Some w) e =
        let l = word_inside text ts i w e in
        let v : Bool = within || is_has w in
        ap end_of (kept_at text ts n within i w e)
        ∙ either_end (is_has w && within) (deep text ts i) (choice_read w (members text ts (simple_by text ts n v) w (i + 2))) (end_of (deep text ts i)) refl
        (choice_list w (members text ts (simple_by text ts n v) w (i + 2))
        ∙ list_alike text ts (simple_by text ts n v) (deep text ts) 0 (by_ends text ts n v) (λ k le low. go v k low) w (length ts) (i + 2) (omega arith) (omega arith)
        ∙ sym (ap end_of (deep_is text ts i w low e) ∙ deep_list (members text ts (deep text ts) w (i + 2))))

pub read_alike : IsReadAlike
read_alike text ts i low = by_word (word_at ts i) refl
  where
    by_word : (w : Option Word) → word_at ts i ≡ w → deep text ts i ≡ choice_with text ts (word_at ts i) (one_read (piece_at text ts i)) (λ v. deep_read (members text ts (deep text ts) v (i + 2)))
    by_word None e = deep_piece text ts (length ts) i e ∙ ap (λ o. choice_with text ts o (one_read (piece_at text ts i)) (λ v. deep_read (members text ts (deep text ts) v (i + 2)))) (sym e)
    by_word (Some w) e = deep_is text ts i w low e ∙ ap (λ o. choice_with text ts o (one_read (piece_at text ts i)) (λ v. deep_read (members text ts (deep text ts) v (i + 2)))) (sym e)
