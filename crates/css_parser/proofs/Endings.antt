-- What is read ends behind its place, and not behind the last token.
use Rattle.std.proofs.Common.{◌≡◌, ℕ, ◌+◌, ◌<◌, ◌≤◌, Bool, true, false, cond, List, length, refl, arith, eqb-true, inl, inr}
use Rattle.std.proofs.lemmas.Bool.{and_parts, or_cases}
use Rattle.std.specs.Prelude.{◌==◌, ◌&&◌, nat_lt, Option, Some, None}
use borrow.Author.Tests.{ltb-true}
use Rattle.css_selectors.specs.declared.selector.Nth.{Nth}
use Rattle.css_selectors.specs.declared.selector.Op.{Op}
use Rattle.css_lexer.specs.declared.tokens.CssKind.TheVariants as kind
use Rattle.css_lexer.specs.declared.tokens.CssToken.{CssToken}
use Rattle.css_parser.specs.declared.nth.Line.{Line}
use Rattle.css_parser.specs.declared.pieces.Piece.{Piece}
use Rattle.css_parser.specs.declared.pieces.Read.{Read}
use Rattle.css_parser.specs.declared.pieces.ElementRead.{ElementRead}
use Rattle.css_parser.specs.declared.pieces.LinkRead.{LinkRead}
use Rattle.css_parser.specs.Places.{code_at, stands, skip, is_name, is_word, text_at}
use Rattle.css_parser.specs.Names.{nth_called}
use Rattle.css_parser.specs.Simples as spec
use Rattle.css_parser.specs.Links.{combinator}
use Rattle.css_parser.specs.inner.Reading.{IsBehind, EndsElement, Ends, EndsLink}
use Rattle.css_parser.proofs.PlaceLemmas.{code_within, skip_order, skip_within}

close_order : (ts : List CssToken) (i : ℕ) → i ≤ spec.round_close ts i
unfolding spec.round_close
close_order ts i = omega arith

balanced_order : (ts : List CssToken) (i : ℕ) → i ≤ spec.balanced_close ts i
unfolding spec.balanced_close
balanced_order ts i = omega arith

module _ (text : List ℕ) (ts : List CssToken) where
  -- a token stands at a place inside
  here : (n i : ℕ) → 0 < n → (code_at ts i == n) ≡ true → i < length ts
  here n i some h = code_within ts i (omega (arith, eqb-true (code_at ts i) n h))

  name_here : (i : ℕ) → is_name ts i ≡ true → i < length ts
  name_here i h = elim (or_cases (stands kind.Ident ts i) (stands kind.Star ts i) h) [ inl a ↦ here 3 i (omega arith) a | inr b ↦ here 13 i (omega arith) b ]

  word_here : (i : ℕ) → is_word ts i ≡ true → i < length ts
  word_here i h = elim (or_cases (stands kind.Ident ts i) (stands kind.Quoted ts i) h) [ inl a ↦ here 3 i (omega arith) a | inr b ↦ here 5 i (omega arith) b ]

  behind : (i j : ℕ) → i ≤ j → j < length ts → IsBehind ts i (j + 1)
  behind i j low inside = record { moves = omega arith; within = omega arith }

  two_behind : (i : ℕ) → i + 1 < length ts → IsBehind ts i (i + 2)
  two_behind i inside = record { moves = omega arith; within = omega arith }

  ends_if : (a : ℕ) (b : Bool) (x y : Option Read) → (b ≡ true → Ends ts a x) → (b ≡ false → Ends ts a y) → Ends ts a (cond b x y)
  ends_if a true x y h k = h refl
  ends_if a false x y h k = k refl

  number_if : (b : Bool) (x y i : ℕ) → i ≤ x → i ≤ y → i ≤ cond b x y
  number_if true x y i h k = h
  number_if false x y i h k = k

  prefix_order : (i : ℕ) → i ≤ spec.past_prefix ts i
  prefix_order i = number_if (stands kind.Bar ts i) (i + 1) _ i (omega arith) (number_if (is_name ts i && stands kind.Bar ts (i + 1)) (i + 2) i i (omega arith) (omega arith))

  element_if : (a : ℕ) (b : Bool) (x : ElementRead) → (b ≡ true → IsBehind ts a x.end) → EndsElement ts a (cond b (Some x) None)
  element_if a true x h = h refl
  element_if a false x h = tt

  pub element_ends : (i : ℕ) → EndsElement ts i (spec.element ts i)
  unfolding spec.element
  element_ends i = element_if i (is_name ts (spec.past_prefix ts i)) _ (λ h. behind i (spec.past_prefix ts i) (prefix_order i) (name_here (spec.past_prefix ts i) h))

  compared_ends : (a : ℕ) (prefixed : Bool) (name : List ℕ) (o : Option Op) (i : ℕ) → a ≤ i → Ends ts a (spec.compared ts prefixed name o i)
  compared_ends a prefixed name None i low = tt
  compared_ends a prefixed name (Some o) i low =
      let k : ℕ = skip ts i in
      let m : ℕ = skip ts (k + 1) in
      ends_if a (is_word ts k && stands kind.CloseSquare ts m) _ _ (λ h. behind a m (omega (arith, skip_order ts i, skip_order ts (k + 1))) (here 17 m (omega arith) (and_parts (is_word ts k) (stands kind.CloseSquare ts m) h).1)) (λ _. tt)

  name_ends : (a : ℕ) (prefixed : Bool) (name : List ℕ) (i : ℕ) → a ≤ i → Ends ts a (spec.behind_name ts prefixed name i)
  name_ends a prefixed name i low =
      ends_if a (stands kind.CloseSquare ts i) _ _ (λ h. behind a i low (here 17 i (omega arith) h)) (λ _. compared_ends a prefixed name (spec.op_at ts i) (i + 1) (omega arith))

  attribute_ends : (i : ℕ) → Ends ts i (spec.attribute ts i)
  unfolding spec.attribute
  attribute_ends i =
      let j : ℕ = skip ts (i + 1) in
      let k : ℕ = spec.past_prefix ts j in
      ends_if i (stands kind.Ident ts k) _ _ (λ h. name_ends i (nat_lt j k) _ (skip ts (k + 1)) (omega (arith, skip_order ts (i + 1), prefix_order j, skip_order ts (k + 1)))) (λ _. tt)

  nth_ends : (a j : ℕ) (position : Nth) (l : Option Line) → IsBehind ts a j → Ends ts a (spec.nth_read position l j)
  nth_ends a j position None h = tt
  nth_ends a j position (Some l) h = h

  nth_argument_ends : (a : ℕ) (position : Nth) (i : ℕ) → a ≤ i → Ends ts a (spec.nth_argument text ts position i)
  unfolding spec.nth_argument
  nth_argument_ends a position i low =
      let j : ℕ = spec.round_close ts i in
      ends_if a (stands kind.CloseRound ts j) _ _ (λ h. nth_ends a (j + 1) position _ (behind a j (omega (arith, close_order ts i)) (here 18 j (omega arith) h))) (λ _. tt)

  closed_ends : (a : ℕ) (piece : Piece) (i : ℕ) → a ≤ i → Ends ts a (spec.closed ts piece i)
  closed_ends a piece i low =
      let j : ℕ = skip ts (i + 1) in
      ends_if a (stands kind.CloseRound ts j) _ _ (λ h. behind a j (omega (arith, skip_order ts (i + 1))) (here 18 j (omega arith) h)) (λ _. tt)

  contains_ends : (a i : ℕ) → a ≤ i → Ends ts a (spec.contains_argument ts i)
  contains_ends a i low = ends_if a (is_word ts (skip ts i)) _ _ (λ _. closed_ends a _ (skip ts i) (omega (arith, skip_order ts i))) (λ _. tt)

  lang_ends : (a i : ℕ) → a ≤ i → Ends ts a (spec.lang_argument ts i)
  lang_ends a i low = ends_if a (is_word ts (skip ts i)) _ _ (λ _. closed_ends a _ (skip ts i) (omega (arith, skip_order ts i))) (λ _. tt)

  attr_ends : (a i : ℕ) → a ≤ i → Ends ts a (spec.attr_argument ts i)
  attr_ends a i low = ends_if a (stands kind.Ident ts (skip ts i)) _ _ (λ _. closed_ends a _ (skip ts i) (omega (arith, skip_order ts i))) (λ _. tt)

  other_ends : (a : ℕ) (piece : Piece) (i : ℕ) → a ≤ i → Ends ts a (spec.other_argument ts piece i)
  unfolding spec.other_argument
  other_ends a piece i low =
      let j : ℕ = spec.balanced_close ts i in
      ends_if a (stands kind.CloseRound ts j) _ _ (λ h. behind a j (omega (arith, balanced_order ts i)) (here 18 j (omega arith) h)) (λ _. tt)

  called_if : (a : ℕ) (b c d : Bool) (x y z : Option Read) → Ends ts a x → Ends ts a y → Ends ts a z → Ends ts a (cond b x (cond c y (cond d None z)))
  called_if a true c d x y z h k l = h
  called_if a false true d x y z h k l = k
  called_if a false false true x y z h k l = tt
  called_if a false false false x y z h k l = l

  class_with_ends : (a : ℕ) (name : List ℕ) (position : Option Nth) (i : ℕ) → a ≤ i → Ends ts a (spec.class_with text ts name position i)
  class_with_ends a name (Some position) i low = nth_argument_ends a position i low
  class_with_ends a name None i low = called_if a _ _ _ _ _ _ (contains_ends a i low) (lang_ends a i low) (other_ends a _ i low)

  pseudo_class_ends : (i : ℕ) → Ends ts i (spec.pseudo_class text ts i)
  unfolding spec.pseudo_class
  pseudo_class_ends i =
      ends_if i (stands kind.Ident ts (i + 1)) _ _ (λ h. two_behind i (here 3 (i + 1) (omega arith) h))
      (λ _. ends_if i (stands kind.Function ts (i + 1)) _ _ (λ _. class_with_ends i (text_at ts (i + 1)) (nth_called (text_at ts (i + 1))) (i + 2) (omega arith)) (λ _. tt))

  strange_ends : (a : ℕ) (r : Option Read) → Ends ts a r → Ends ts a (spec.strange r)
  strange_ends a None h = tt
  strange_ends a (Some r) h = h

  attr_if : (a : ℕ) (b c : Bool) (x z : Option Read) → Ends ts a x → Ends ts a z → Ends ts a (cond b x (cond c None z))
  attr_if a true c x z h l = h
  attr_if a false true x z h l = tt
  attr_if a false false x z h l = l

  element_with_ends : (a : ℕ) (name : List ℕ) (position : Option Nth) (i : ℕ) → a ≤ i → Ends ts a (spec.element_with text ts name position i)
  element_with_ends a name (Some position) i low = strange_ends a _ (nth_argument_ends a position i low)
  element_with_ends a name None i low = attr_if a _ _ _ _ (attr_ends a i low) (other_ends a _ i low)

  pseudo_element_ends : (i : ℕ) → Ends ts i (spec.pseudo_element text ts i)
  unfolding spec.pseudo_element
  pseudo_element_ends i =
      ends_if i (stands kind.Ident ts (i + 1)) _ _ (λ h. two_behind i (here 3 (i + 1) (omega arith) h))
      (λ _. ends_if i (stands kind.Function ts (i + 1)) _ _ (λ _. element_with_ends i (text_at ts (i + 1)) (nth_called (text_at ts (i + 1))) (i + 2) (omega arith)) (λ _. tt))

  class_ends : (i : ℕ) → Ends ts i (spec.class ts i)
  class_ends i = ends_if i (stands kind.Ident ts (i + 1)) _ _ (λ h. two_behind i (here 3 (i + 1) (omega arith) h)) (λ _. tt)

  pub piece_ends : (i : ℕ) → Ends ts i (spec.piece_at text ts i)
  unfolding spec.piece_at
  piece_ends i =
      ends_if i (stands kind.Hash ts i) _ _ (λ h. behind i i (omega arith) (here 4 i (omega arith) h))
      (λ _. ends_if i (stands kind.Dot ts i) _ _ (λ _. class_ends i)
      (λ _. ends_if i (stands kind.OpenSquare ts i) _ _ (λ _. attribute_ends i)
      (λ _. ends_if i (stands kind.Colon ts i) _ _ (λ _. pseudo_class_ends i)
      (λ _. ends_if i (stands kind.DoubleColon ts i) _ _ (λ _. pseudo_element_ends i) (λ _. tt)))))

  link_if : (a : ℕ) (b : Bool) (x y : Option LinkRead) → (b ≡ true → EndsLink ts a x) → (b ≡ false → EndsLink ts a y) → EndsLink ts a (cond b x y)
  link_if a true x y h k = h refl
  link_if a false x y h k = k refl

  sign_behind : (i j : ℕ) → i ≤ j → j < length ts → IsBehind ts i (skip ts (j + 1))
  sign_behind i j low inside = record { moves = omega (arith, skip_order ts (j + 1)); within = skip_within ts (j + 1) (omega arith) }

  pub combinator_ends : (i : ℕ) → i ≤ length ts → EndsLink ts i (combinator ts i)
  unfolding combinator
  combinator_ends i within =
      let j : ℕ = skip ts i in
      let low : i ≤ j = skip_order ts i in
      link_if i (stands kind.Greater ts j) _ _ (λ h. sign_behind i j low (here 21 j (omega arith) h))
      (λ _. link_if i (stands kind.Plus ts j) _ _ (λ h. sign_behind i j low (here 20 j (omega arith) h))
      (λ _. link_if i (stands kind.Tilde ts j) _ _ (λ h. sign_behind i j low (here 22 j (omega arith) h))
      (λ _. link_if i (nat_lt i j) _ _ (λ h. record { moves = ltb-true i j h; within = skip_within ts i within }) (λ _. tt))))
