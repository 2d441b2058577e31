-- What simple selectors and pseudo-elements are where they are read, and where they end.
use Rattle.std.proofs.Common.{◌≡◌, ℕ, ◌+◌, ◌<◌, ◌≤◌, Bool, true, false, ◌&&◌, ◌||◌, cond, List, [], length, refl, sym, subst, arith, zero, suc, pos, neg_ℤ}
use Rattle.std.proofs.lemmas.Bool.{and_parts}
use Rattle.std.specs.Prelude.{◌==◌, Option, Some, None, nat_lt, nat_abs, codes}
use Rattle.std.proofs.lemmas.Bool.Decides.{nat_tests}
use Rattle.css_lexer.proofs.EscapeLemmas.{cases_if}
use Rattle.css_lexer.specs.declared.tokens.CssKind.TheVariants as kind
use Rattle.css_lexer.specs.declared.tokens.CssToken.{CssToken}
use Rattle.css_selectors.specs.declared.selector.Nth.{Nth}
use Rattle.css_selectors.specs.declared.selector.Op.{Op}
use Rattle.css_selectors.specs.declared.selector.Op.TheVariants as op
use Rattle.css_selectors.specs.declared.selector.Pseudo.{Pseudo}
use Rattle.css_selectors.specs.declared.selector.Tail.TheVariants as tail
use Rattle.css_parser.specs.declared.pieces.Plain.{Plain}
use Rattle.css_parser.specs.declared.pieces.Plain.TheVariants as plain
use Rattle.css_selectors.specs.WellMade.{FitsOp, IsSmall, most_number}
use Rattle.css_parser.specs.declared.nth.Number.{Number}
use Rattle.css_parser.specs.declared.nth.Line.{Line}
use Rattle.css_parser.specs.declared.pieces.Piece.{Piece}
use Rattle.css_parser.specs.declared.pieces.Piece.TheVariants as piece
use Rattle.css_parser.specs.declared.pieces.Read.{Read}
use Rattle.css_parser.specs.declared.pieces.ElementRead.{ElementRead}
use Rattle.css_parser.specs.Places.{code_at, stands, value_at, text_at, skip, is_name, is_word, is_called}
use Rattle.css_parser.specs.Names.{first_or_last, pseudo_called, pseudo_piece, position_piece, class_called, nth_called}
use Rattle.css_parser.specs.Simples as s
use Rattle.css_parser.specs.inner.Reading.{IsBehind}
use Rattle.css_parser.proofs.PlaceLemmas.{code_within, skip_order, stands_within}

-- what a test keeps in itself
abbrev pub FitsPlain : Plain → Type 0
FitsPlain (plain.Attr name o v) = FitsOp o v
FitsPlain (plain.Nth position a b) = IsSmall a × IsSmall b
FitsPlain _ = Unit {0}

abbrev pub FitsPiece : Piece → Type 0
FitsPiece (piece.Plain t) = FitsPlain t
FitsPiece _ = Unit {0}

pub record IsGood (ts : List CssToken) (i : ℕ) (p : Piece) (j : ℕ) : Type 0 where
  pub fits : FitsPiece p
  pub behind : IsBehind ts i j

abbrev pub Good : List CssToken → ℕ → Option Read → Type 0
Good ts i None = Unit {0}
Good ts i (Some r) = IsGood ts i r.piece r.end

either_within : (ts : List CssToken) (i m n : ℕ) → 0 < m → 0 < n → ((code_at ts i == m) || (code_at ts i == n)) ≡ true → i < length ts
either_within ts i m n a b h = code_within ts i (let e : 0 < code_at ts i = grind (arith, nat_tests) in e)

module _ (ts : List CssToken) where
  -- a reading that ends behind a token that stands at j
  ends : (i j : ℕ) (p : Piece) → i ≤ j → j < length ts → FitsPiece p → IsGood ts i p (j + 1)
  ends i j p low l f = record { fits = f; behind = record { moves = omega arith; within = omega arith } }

  if_read : (i : ℕ) (b : Bool) (r : Read) → (b ≡ true → IsGood ts i r.piece r.end) → Good ts i (cond b (Some r) None)
  if_read i b r h = cases_if b (Some r) None (Good ts i) h (λ _. tt)

  if_good : (i : ℕ) (b : Bool) (o p : Option Read) → (b ≡ true → Good ts i o) → (b ≡ false → Good ts i p) → Good ts i (cond b o p)
  if_good i b o p h g = cases_if b o p (Good ts i) h g

  lower : (i k : ℕ) (o : Option Read) → i ≤ k → Good ts k o → Good ts i o
  lower i k None le h = tt
  lower i k (Some r) le h = let moves = h.behind.moves in record { fits = h.fits; behind = record { moves = omega arith; within = h.behind.within } }

  -- attributes
  abbrev Compares : Option Op → Type 0
  Compares None = Unit {0}
  Compares (Some op.Exists) = ⊥
  Compares (Some o) = Unit {0}

  op_compares : (i : ℕ) → Compares (s.op_at ts i)
  op_compares i =
      cases_if (stands kind.Equal ts i) _ _ Compares (λ _. tt)
      (λ _. cases_if (stands kind.WordMatch ts i) _ _ Compares (λ _. tt)
      (λ _. cases_if (stands kind.DashMatch ts i) _ _ Compares (λ _. tt)
      (λ _. cases_if (stands kind.PrefixMatch ts i) _ _ Compares (λ _. tt)
      (λ _. cases_if (stands kind.SuffixMatch ts i) _ _ Compares (λ _. tt)
      (λ _. cases_if (stands kind.PartMatch ts i) (Some op.Substring) None Compares (λ _. tt) (λ _. tt))))))

  any_value : (o : Op) (v : List ℕ) → Compares (Some o) → FitsOp o v
  any_value op.Exists v h = absurd h
  any_value op.Equals v h = tt
  any_value op.Word v h = tt
  any_value op.Dash v h = tt
  any_value op.Prefix v h = tt
  any_value op.Suffix v h = tt
  any_value op.Substring v h = tt

  attribute_fits : (prefixed : Bool) (name : List ℕ) (o : Op) (v : List ℕ) → FitsOp o v → FitsPiece (s.attribute_piece prefixed name o v)
  attribute_fits true name o v h = tt
  attribute_fits false name o v h = h

  word_end : (i : ℕ) → is_word ts i ≡ true → i < length ts
  word_end i h = either_within ts i 3 5 (omega arith) (omega arith) h

  compared_good : (prefixed : Bool) (name : List ℕ) (o : Option Op) (i : ℕ) → Compares o → Good ts i (s.compared ts prefixed name o i)
  compared_good prefixed name None i c = tt
  compared_good prefixed name (Some o) i c =
      let k = skip ts i in let m = skip ts (k + 1) in
      if_read i (is_word ts k && stands kind.CloseSquare ts m) _ (λ h.
      let close = (and_parts (is_word ts k) (stands kind.CloseSquare ts m) h).1 in
      let low = skip_order ts i in let more = skip_order ts (k + 1) in
      ends i m _ (omega arith) (stands_within ts m 17 (omega arith) close) (attribute_fits prefixed name o _ (any_value o _ c)))

  behind_good : (prefixed : Bool) (name : List ℕ) (i : ℕ) → Good ts i (s.behind_name ts prefixed name i)
  behind_good prefixed name i =
      if_good i (stands kind.CloseSquare ts i) (Some (s.read (s.attribute_piece prefixed name op.Exists []) (i + 1))) (s.compared ts prefixed name (s.op_at ts i) (i + 1))
      (λ h. ends i i _ (omega arith) (stands_within ts i 17 (omega arith) h) (attribute_fits prefixed name op.Exists [] refl))
      (λ _. lower i (i + 1) _ (omega arith) (compared_good prefixed name (s.op_at ts i) (i + 1) (op_compares i)))

  prefix_order : (i : ℕ) → i ≤ s.past_prefix ts i
  prefix_order i = cases_if (stands kind.Bar ts i) (i + 1) _ (λ n. i ≤ n) (λ _. omega arith)
      (λ _. cases_if (is_name ts i && stands kind.Bar ts (i + 1)) (i + 2) i (λ n. i ≤ n) (λ _. omega arith) (λ _. omega arith))

  attribute_good : (i : ℕ) → Good ts i (s.attribute ts i)
  unfolding s.attribute
  attribute_good i =
      let j = skip ts (i + 1) in let k = s.past_prefix ts j in let m = skip ts (k + 1) in
      let a = skip_order ts (i + 1) in let b = prefix_order j in let c = skip_order ts (k + 1) in
      if_good i (stands kind.Ident ts k) (s.behind_name ts (nat_lt j k) (value_at ts k) m) None
      (λ _. lower i m _ (omega arith) (behind_good (nat_lt j k) (value_at ts k) m)) (λ _. tt)

  -- pseudo-classes
  pseudo_fits : (o : Option Pseudo) → FitsPiece (pseudo_piece o)
  pseudo_fits None = tt
  pseudo_fits (Some p) = tt

  position_fits : (name : List ℕ) (o : Option Nth) → FitsPiece (position_piece name o)
  position_fits name None = pseudo_fits (pseudo_called name)
  position_fits name (Some position) = let a : 0 ≤ most_number = omega arith in let b : 1 ≤ most_number = omega arith in (a, b)

  class_fits : (name : List ℕ) → FitsPiece (class_called name)
  unfolding class_called
  class_fits name = position_fits name (first_or_last name)

  abs_neg : (n : ℕ) → nat_abs (neg_ℤ (pos n)) ≡ n
  abs_neg zero = refl
  abs_neg (suc n) = refl

  small : (n : Number) → s.is_small n ≡ true → IsSmall (s.signed n)
  small n h =
      let fits : n.size ≤ most_number = grind (arith, nat_tests) in
      cases_if n.minus (neg_ℤ (pos n.size)) (pos n.size) IsSmall (λ _. subst (λ m. m ≤ most_number) (sym (abs_neg n.size)) fits) (λ _. fits)

  nth_fits : (position : Nth) (l : Line) → FitsPiece (s.nth_piece position l)
  nth_fits position l = cases_if (s.is_small l.a && s.is_small l.b) (piece.Plain (plain.Nth position (s.signed l.a) (s.signed l.b))) (piece.Large position) (FitsPiece)
      (λ h. let sizes = and_parts (s.is_small l.a) (s.is_small l.b) h in (small l.a sizes.0, small l.b sizes.1)) (λ _. tt)

  round_order : (i : ℕ) → i ≤ s.round_close ts i
  unfolding s.round_close
  round_order i = omega arith

  balanced_order : (i : ℕ) → i ≤ s.balanced_close ts i
  unfolding s.balanced_close
  balanced_order i = omega arith

  nth_read_good : (i j : ℕ) (position : Nth) (o : Option Line) → i ≤ j → j < length ts → Good ts i (s.nth_read position o (j + 1))
  nth_read_good i j position None low l = tt
  nth_read_good i j position (Some x) low l = ends i j _ low l (nth_fits position x)

  close_within : (i : ℕ) → stands kind.CloseRound ts i ≡ true → i < length ts
  close_within i h = stands_within ts i 18 (omega arith) h

  nth_good : (text : List ℕ) (position : Nth) (i : ℕ) → Good ts i (s.nth_argument text ts position i)
  unfolding s.nth_argument
  nth_good text position i =
      let j = s.round_close ts i in
      if_good i (stands kind.CloseRound ts j) _ None (λ h. nth_read_good i j position _ (round_order i) (close_within j h)) (λ _. tt)

  closed_good : (i j : ℕ) (p : Piece) → i ≤ j → FitsPiece p → Good ts i (s.closed ts p j)
  closed_good i j p low f =
      let m = skip ts (j + 1) in let more = skip_order ts (j + 1) in
      if_read i (stands kind.CloseRound ts m) _ (λ h. ends i m p (omega arith) (close_within m h) f)

  contains_good : (i : ℕ) → Good ts i (s.contains_argument ts i)
  contains_good i = let j = skip ts i in if_good i (is_word ts j) _ None (λ _. closed_good i j _ (skip_order ts i) tt) (λ _. tt)

  lang_good : (i : ℕ) → Good ts i (s.lang_argument ts i)
  lang_good i = let j = skip ts i in if_good i (is_word ts j) _ None (λ _. closed_good i j _ (skip_order ts i) tt) (λ _. tt)

  attr_good : (i : ℕ) → Good ts i (s.attr_argument ts i)
  attr_good i = let j = skip ts i in if_good i (stands kind.Ident ts j) _ None (λ _. closed_good i j _ (skip_order ts i) tt) (λ _. tt)

  other_good : (p : Piece) (i : ℕ) → FitsPiece p → Good ts i (s.other_argument ts p i)
  unfolding s.other_argument
  other_good p i f = let j = s.balanced_close ts i in if_read i (stands kind.CloseRound ts j) _ (λ h. ends i j p (balanced_order i) (close_within j h) f)

  class_with_good : (text name : List ℕ) (o : Option Nth) (i : ℕ) → Good ts i (s.class_with text ts name o i)
  class_with_good text name (Some position) i = nth_good text position i
  class_with_good text name None i =
      let other = cond (s.is_choice name) None (s.other_argument ts piece.Unknown i) in
      if_good i (is_called name (codes "contains")) (s.contains_argument ts i) (cond (is_called name (codes "lang")) (s.lang_argument ts i) other) (λ _. contains_good i)
      (λ _. if_good i (is_called name (codes "lang")) (s.lang_argument ts i) other (λ _. lang_good i)
      (λ _. if_good i (s.is_choice name) None (s.other_argument ts piece.Unknown i) (λ _. tt) (λ _. other_good piece.Unknown i tt)))

  ident_within : (i : ℕ) → stands kind.Ident ts i ≡ true → i < length ts
  ident_within i h = stands_within ts i 3 (omega arith) h

  behind_two : (i : ℕ) (p : Piece) → i + 1 < length ts → FitsPiece p → IsGood ts i p (i + 2)
  behind_two i p l f = record { fits = f; behind = record { moves = omega arith; within = omega arith } }

  pseudo_class_good : (text : List ℕ) (i : ℕ) → Good ts i (s.pseudo_class text ts i)
  unfolding s.pseudo_class
  pseudo_class_good text i =
      if_good i (stands kind.Ident ts (i + 1)) (Some (s.read (class_called (text_at ts (i + 1))) (i + 2))) _ (λ h. behind_two i _ (ident_within (i + 1) h) (class_fits (text_at ts (i + 1))))
      (λ _. if_good i (stands kind.Function ts (i + 1)) (s.class_with text ts (text_at ts (i + 1)) (nth_called (text_at ts (i + 1))) (i + 2)) None
      (λ _. lower i (i + 2) _ (omega arith) (class_with_good text (text_at ts (i + 1)) (nth_called (text_at ts (i + 1))) (i + 2))) (λ _. tt))

  strange_good : (i : ℕ) (o : Option Read) → Good ts i o → Good ts i (s.strange o)
  strange_good i None h = tt
  strange_good i (Some r) h = record { fits = tt; behind = h.behind }

  element_with_good : (text name : List ℕ) (o : Option Nth) (i : ℕ) → Good ts i (s.element_with text ts name o i)
  element_with_good text name (Some position) i = strange_good i (s.nth_argument text ts position i) (nth_good text position i)
  element_with_good text name None i =
      if_good i (is_called name (codes "attr")) (s.attr_argument ts i) (cond (s.is_choice name) None (s.other_argument ts piece.Strange i)) (λ _. attr_good i)
      (λ _. if_good i (s.is_choice name) None (s.other_argument ts piece.Strange i) (λ _. tt) (λ _. other_good piece.Strange i tt))

  element_fits : (name : List ℕ) → FitsPiece (s.element_called name)
  element_fits name = cases_if (is_called name (codes "text")) (piece.Tail tail.Text) piece.Strange (FitsPiece) (λ _. tt) (λ _. tt)

  pseudo_element_good : (text : List ℕ) (i : ℕ) → Good ts i (s.pseudo_element text ts i)
  unfolding s.pseudo_element
  pseudo_element_good text i =
      if_good i (stands kind.Ident ts (i + 1)) (Some (s.read (s.element_called (text_at ts (i + 1))) (i + 2))) _ (λ h. behind_two i _ (ident_within (i + 1) h) (element_fits (text_at ts (i + 1))))
      (λ _. if_good i (stands kind.Function ts (i + 1)) (s.element_with text ts (text_at ts (i + 1)) (nth_called (text_at ts (i + 1))) (i + 2)) None
      (λ _. lower i (i + 2) _ (omega arith) (element_with_good text (text_at ts (i + 1)) (nth_called (text_at ts (i + 1))) (i + 2))) (λ _. tt))

  class_good : (i : ℕ) → Good ts i (s.class ts i)
  class_good i = if_read i (stands kind.Ident ts (i + 1)) _ (λ h. behind_two i _ (ident_within (i + 1) h) tt)

  pub piece_good : (text : List ℕ) (i : ℕ) → Good ts i (s.piece_at text ts i)
  unfolding s.piece_at
  piece_good text i =
      if_good i (stands kind.Hash ts i) (s.id ts i) _ (λ h. ends i i _ (omega arith) (stands_within ts i 4 (omega arith) h) tt)
      (λ _. if_good i (stands kind.Dot ts i) (s.class ts i) _ (λ _. class_good i)
      (λ _. if_good i (stands kind.OpenSquare ts i) (s.attribute ts i) _ (λ _. attribute_good i)
      (λ _. if_good i (stands kind.Colon ts i) (s.pseudo_class text ts i) _ (λ _. pseudo_class_good text i)
      (λ _. if_good i (stands kind.DoubleColon ts i) (s.pseudo_element text ts i) None (λ _. pseudo_element_good text i) (λ _. tt)))))

-- elements
abbrev GoodElement : List CssToken → ℕ → Option ElementRead → Type 0
GoodElement ts i None = Unit {0}
GoodElement ts i (Some e) = IsBehind ts i e.end

name_within : (ts : List CssToken) (i : ℕ) → is_name ts i ≡ true → i < length ts
name_within ts i h = either_within ts i 3 13 (omega arith) (omega arith) h

element_good : (ts : List CssToken) (i : ℕ) → GoodElement ts i (s.element ts i)
unfolding s.element
element_good ts i =
    let j = s.past_prefix ts i in let low = prefix_order ts i in
    cases_if (is_name ts j) (Some (record { name = s.name_at ts j; prefixed = nat_lt i j; end = j + 1 })) None (GoodElement ts i)
    (λ h. let l = name_within ts j h in record { moves = omega arith; within = omega arith }) (λ _. tt)

pub element_behind : (ts : List CssToken) (i : ℕ) (e : ElementRead) → s.element ts i ≡ Some e → IsBehind ts i e.end
element_behind ts i e h = subst (GoodElement ts i) h (element_good ts i)
