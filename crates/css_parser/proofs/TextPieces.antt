-- Where the values of tokens are texts, so are the names and values of what is read from them: elements, simple selectors and
-- pseudo-elements.
use Rattle.std.proofs.Common.{◌≡◌, ℕ, ◌+◌, Bool, true, false, ◌&&◌, cond, List, [], refl, sym, ◌∙◌, subst, inl, inr}
use Rattle.std.proofs.lemmas.Bool.{and_from}
use Rattle.std.proofs.lemmas.Option.{slice_get_cases}
use Rattle.std.specs.Prelude.{Option, Some, None, All, nat_lt, codes, pos}
use lib.Utf8.{scalars}
use Rattle.css_lexer.specs.declared.tokens.CssKind.TheVariants as kind
use Rattle.css_lexer.specs.declared.tokens.CssToken.{CssToken}
use Rattle.css_selectors.specs.declared.selector.Nth.{Nth}
use Rattle.css_selectors.specs.declared.selector.Op.{Op}
use Rattle.css_selectors.specs.declared.selector.Op.TheVariants as op
use Rattle.css_selectors.specs.declared.selector.Pseudo.{Pseudo}
use Rattle.css_selectors.specs.declared.selector.Tail.TheVariants as tail
use Rattle.css_selectors.specs.Texts.{element_text, test_texts, tail_text}
use Rattle.css_selectors.proofs.TextsAt.{at_id, at_class, at_attr, at_nth, at_pseudo, at_contains, at_lang}
use Rattle.css_parser.specs.declared.nth.Line.{Line}
use Rattle.css_parser.specs.declared.pieces.Plain.TheVariants as plain
use Rattle.css_parser.specs.declared.pieces.Piece.{Piece}
use Rattle.css_parser.specs.declared.pieces.Piece.TheVariants as piece
use Rattle.css_parser.specs.declared.pieces.Read.{Read}
use Rattle.css_parser.specs.declared.pieces.ElementRead.{ElementRead}
use Rattle.css_parser.specs.Places.{stands, value_in, value_at, text_at, skip, is_name, is_word, is_called}
use Rattle.css_parser.specs.Names.{first_or_last, pseudo_called, pseudo_piece, position_piece, class_called, nth_called}
use Rattle.css_parser.specs.Nth.{nth}
use Rattle.css_parser.specs.Values.{test_of}
use Rattle.css_parser.specs.Simples as s

-- the values of all tokens are texts
abbrev pub HaveTexts : List CssToken → Type 0
HaveTexts ts = All (λ (t : CssToken). scalars t.value ≡ true) ts

abbrev pub IsTextPiece : Piece → Type 0
IsTextPiece (piece.Plain x) = test_texts (test_of x) ≡ true
IsTextPiece (piece.Tail t) = tail_text t ≡ true
IsTextPiece _ = Unit {0}

abbrev pub IsTextRead : Option Read → Type 0
IsTextRead None = Unit {0}
IsTextRead (Some r) = IsTextPiece r.piece

abbrev pub IsTextElement : Option ElementRead → Type 0
IsTextElement None = Unit {0}
IsTextElement (Some e) = element_text e.name ≡ true

text_if : (b : Bool) (o p : Option Read) → IsTextRead o → IsTextRead p → IsTextRead (cond b o p)
text_if true o p h g = h
text_if false o p h g = g

module _ (ts : List CssToken) (texts : HaveTexts ts) where
  value_text : (i : ℕ) → scalars (value_at ts i) ≡ true
  unfolding value_at
  value_text i = elim (slice_get_cases ts i).1 [
    | inl (x, l, e, g) ↦ subst (λ o. scalars (value_in o) ≡ true) (sym e) (subst (λ (t : CssToken). scalars t.value ≡ true) g (texts i x l))
    | inr (_, e) ↦ subst (λ o. scalars (value_in o) ≡ true) (sym e) refl
  ]

  -- attributes
  attribute_text : (prefixed : Bool) (name : List ℕ) (o : Op) (v : List ℕ) → scalars name ≡ true → scalars v ≡ true → IsTextPiece (s.attribute_piece prefixed name o v)
  attribute_text true name o v h g = tt
  attribute_text false name o v h g = at_attr name o v ∙ and_from _ _ h g

  compared_text : (prefixed : Bool) (name : List ℕ) (o : Option Op) (i : ℕ) → scalars name ≡ true → IsTextRead (s.compared ts prefixed name o i)
  compared_text prefixed name None i h = tt
  compared_text prefixed name (Some o) i h =
      let k = skip ts i in let m = skip ts (k + 1) in
      text_if (is_word ts k && stands kind.CloseSquare ts m) (Some (s.read (s.attribute_piece prefixed name o (value_at ts k)) (m + 1))) None (attribute_text prefixed name o (value_at ts k) h (value_text k)) tt

  behind_text : (prefixed : Bool) (name : List ℕ) (i : ℕ) → scalars name ≡ true → IsTextRead (s.behind_name ts prefixed name i)
  behind_text prefixed name i h =
      text_if (stands kind.CloseSquare ts i) (Some (s.read (s.attribute_piece prefixed name op.Exists []) (i + 1))) (s.compared ts prefixed name (s.op_at ts i) (i + 1))
      (attribute_text prefixed name op.Exists [] h refl) (compared_text prefixed name (s.op_at ts i) (i + 1) h)

  attribute_read : (i : ℕ) → IsTextRead (s.attribute ts i)
  unfolding s.attribute
  attribute_read i =
      let j = skip ts (i + 1) in let k = s.past_prefix ts j in
      text_if (stands kind.Ident ts k) (s.behind_name ts (nat_lt j k) (value_at ts k) (skip ts (k + 1))) None (behind_text (nat_lt j k) (value_at ts k) (skip ts (k + 1)) (value_text k)) tt

  -- pseudo-classes
  pseudo_text : (o : Option Pseudo) → IsTextPiece (pseudo_piece o)
  pseudo_text None = tt
  pseudo_text (Some p) = at_pseudo p

  position_text : (name : List ℕ) (o : Option Nth) → IsTextPiece (position_piece name o)
  position_text name None = pseudo_text (pseudo_called name)
  position_text name (Some position) = at_nth position (pos 0) (pos 1)

  class_text : (name : List ℕ) → IsTextPiece (class_called name)
  unfolding class_called
  class_text name = position_text name (first_or_last name)

  nth_text : (position : Nth) (l : Line) (b : Bool) → IsTextPiece (cond b (piece.Plain (plain.Nth position (s.signed l.a) (s.signed l.b))) (piece.Large position))
  nth_text position l true = at_nth position (s.signed l.a) (s.signed l.b)
  nth_text position l false = tt

  nth_read_text : (position : Nth) (o : Option Line) (j : ℕ) → IsTextRead (s.nth_read position o j)
  nth_read_text position None j = tt
  nth_read_text position (Some l) j = nth_text position l (s.is_small l.a && s.is_small l.b)

  nth_argument_text : (text : List ℕ) (position : Nth) (i : ℕ) → IsTextRead (s.nth_argument text ts position i)
  unfolding s.nth_argument
  nth_argument_text text position i =
      let j = s.round_close ts i in
      text_if (stands kind.CloseRound ts j) (s.nth_read position (nth (s.written_up_to text ts i j)) (j + 1)) None (nth_read_text position (nth (s.written_up_to text ts i j)) (j + 1)) tt

  closed_text : (p : Piece) (i : ℕ) → IsTextPiece p → IsTextRead (s.closed ts p i)
  closed_text p i h = text_if (stands kind.CloseRound ts (skip ts (i + 1))) (Some (s.read p (skip ts (i + 1) + 1))) None h tt

  contains_text : (i : ℕ) → IsTextRead (s.contains_argument ts i)
  contains_text i =
      let j = skip ts i in
      text_if (is_word ts j) (s.closed ts (piece.Plain (plain.Contains (value_at ts j))) j) None (closed_text (piece.Plain (plain.Contains (value_at ts j))) j (at_contains (value_at ts j) ∙ value_text j)) tt

  lang_text : (i : ℕ) → IsTextRead (s.lang_argument ts i)
  lang_text i =
      let j = skip ts i in
      text_if (is_word ts j) (s.closed ts (piece.Plain (plain.Lang (value_at ts j))) j) None (closed_text (piece.Plain (plain.Lang (value_at ts j))) j (at_lang (value_at ts j) ∙ value_text j)) tt

  attr_text : (i : ℕ) → IsTextRead (s.attr_argument ts i)
  attr_text i =
      let j = skip ts i in
      text_if (stands kind.Ident ts j) (s.closed ts (piece.Tail (tail.Attr (value_at ts j))) j) None (closed_text (piece.Tail (tail.Attr (value_at ts j))) j (value_text j)) tt

  other_text : (p : Piece) (i : ℕ) → IsTextPiece p → IsTextRead (s.other_argument ts p i)
  unfolding s.other_argument
  other_text p i h = text_if (stands kind.CloseRound ts (s.balanced_close ts i)) (Some (s.read p (s.balanced_close ts i + 1))) None h tt

  class_with_text : (text name : List ℕ) (o : Option Nth) (i : ℕ) → IsTextRead (s.class_with text ts name o i)
  class_with_text text name (Some position) i = nth_argument_text text position i
  class_with_text text name None i =
      text_if (is_called name (codes "contains")) (s.contains_argument ts i) _ (contains_text i)
      (text_if (is_called name (codes "lang")) (s.lang_argument ts i) _ (lang_text i)
      (text_if (s.is_choice name) None (s.other_argument ts piece.Unknown i) tt (other_text piece.Unknown i tt)))

  pseudo_class_text : (text : List ℕ) (i : ℕ) → IsTextRead (s.pseudo_class text ts i)
  unfolding s.pseudo_class
  pseudo_class_text text i =
      text_if (stands kind.Ident ts (i + 1)) (Some (s.read (class_called (text_at ts (i + 1))) (i + 2))) _ (class_text (text_at ts (i + 1)))
      (text_if (stands kind.Function ts (i + 1)) (s.class_with text ts (text_at ts (i + 1)) (nth_called (text_at ts (i + 1))) (i + 2)) None
      (class_with_text text (text_at ts (i + 1)) (nth_called (text_at ts (i + 1))) (i + 2)) tt)

  -- pseudo-elements
  strange_text : (o : Option Read) → IsTextRead (s.strange o)
  strange_text None = tt
  strange_text (Some r) = tt

  element_with_text : (text name : List ℕ) (o : Option Nth) (i : ℕ) → IsTextRead (s.element_with text ts name o i)
  element_with_text text name (Some position) i = strange_text (s.nth_argument text ts position i)
  element_with_text text name None i =
      text_if (is_called name (codes "attr")) (s.attr_argument ts i) _ (attr_text i)
      (text_if (s.is_choice name) None (s.other_argument ts piece.Strange i) tt (other_text piece.Strange i tt))

  tail_called : (b : Bool) → IsTextPiece (cond b (piece.Tail tail.Text) piece.Strange)
  tail_called true = refl
  tail_called false = tt

  pseudo_element_text : (text : List ℕ) (i : ℕ) → IsTextRead (s.pseudo_element text ts i)
  unfolding s.pseudo_element
  pseudo_element_text text i =
      text_if (stands kind.Ident ts (i + 1)) (Some (s.read (s.element_called (text_at ts (i + 1))) (i + 2))) _ (tail_called (is_called (text_at ts (i + 1)) (codes "text")))
      (text_if (stands kind.Function ts (i + 1)) (s.element_with text ts (text_at ts (i + 1)) (nth_called (text_at ts (i + 1))) (i + 2)) None
      (element_with_text text (text_at ts (i + 1)) (nth_called (text_at ts (i + 1))) (i + 2)) tt)

  pub piece_text : (text : List ℕ) (i : ℕ) → IsTextRead (s.piece_at text ts i)
  unfolding s.piece_at
  piece_text text i =
      text_if (stands kind.Hash ts i) (s.id ts i) _ (at_id (value_at ts i) ∙ value_text i)
      (text_if (stands kind.Dot ts i) (s.class ts i) _
      (text_if (stands kind.Ident ts (i + 1)) (Some (s.read (piece.Plain (plain.Class (value_at ts (i + 1)))) (i + 2))) None (at_class (value_at ts (i + 1)) ∙ value_text (i + 1)) tt)
      (text_if (stands kind.OpenSquare ts i) (s.attribute ts i) _ (attribute_read i)
      (text_if (stands kind.Colon ts i) (s.pseudo_class text ts i) _ (pseudo_class_text text i)
      (text_if (stands kind.DoubleColon ts i) (s.pseudo_element text ts i) None (pseudo_element_text text i) tt))))

  -- elements
  name_text : (i : ℕ) (b : Bool) → element_text (cond b (Some (value_at ts i)) None) ≡ true
  name_text i true = value_text i
  name_text i false = refl

  element_if : (b : Bool) (e : ElementRead) → element_text e.name ≡ true → IsTextElement (cond b (Some e) None)
  element_if true e h = h
  element_if false e h = tt

  pub element_is_text : (i : ℕ) → IsTextElement (s.element ts i)
  unfolding s.element
  element_is_text i =
      let j = s.past_prefix ts i in
      element_if (is_name ts j) (record { name = s.name_at ts j; prefixed = nat_lt i j; end = j + 1 }) (name_text j (stands kind.Ident ts j))
