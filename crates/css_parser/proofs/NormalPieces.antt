-- Elements, simple selectors that are no choice, and pseudo-elements are read of their signs.
use Rattle.std.proofs.Common.{◌≡◌, ℕ, suc, ◌+◌, ◌-◌, true, false, cond, List, [], ◌∷◌, ◌++◌, length, take, drop, flat_map, refl, sym, ◌∙◌, ap, arith, append-nil, ℤ, pos, negsuc}
use Rattle.std.specs.Prelude.{◌==◌, ◌||◌, ◌&&◌, Option, Some, None, nat_lt, nat_abs, encode_utf8_all, codes}
use Rattle.std.specs.List.{AllByRecursion, list_all}
use Rattle.std.specs.Fmt.{decimal}
use Rattle.std.proofs.lemmas.Bool.{and_parts, and_from, and_right, le-leb, ltb-true}
use Rattle.std.proofs.lemmas.Bool.Decides.{nat_tests}
use Rattle.std.proofs.lemmas.Str.{encode_ascii}
use Rattle.css_lexer.specs.declared.tokens.CssKind.{CssKind}
use Rattle.css_lexer.specs.declared.tokens.CssKind.TheVariants as kind
use Rattle.css_lexer.specs.declared.tokens.CssToken.{CssToken}
use Rattle.css_lexer.specs.Spelled.{Sign, Name, Call, Hash, Quoted, Mark, kind_of, mark}
use Rattle.css_selectors.specs.declared.selector.Nth.{Nth}
use Rattle.css_selectors.specs.declared.selector.Nth.TheVariants as nth_kind
use Rattle.css_selectors.specs.declared.selector.Op.{Op}
use Rattle.css_selectors.specs.declared.selector.Op.TheVariants as op
use Rattle.css_selectors.specs.declared.selector.Pseudo.{Pseudo}
use Rattle.css_selectors.specs.declared.selector.Pseudo.TheVariants as pseudo
use Rattle.css_selectors.specs.declared.selector.Tail.TheVariants as tail
use Rattle.css_selectors.specs.WellMade.{FitsOp, IsSmall, most_number}
use Rattle.css_parser.specs.declared.pieces.Plain.{Plain}
use Rattle.css_parser.specs.declared.pieces.Plain.TheVariants as plain
use Rattle.css_parser.specs.declared.pieces.Piece.{Piece}
use Rattle.css_parser.specs.declared.pieces.Piece.TheVariants as piece
use Rattle.css_parser.specs.declared.pieces.ElementRead.{ElementRead}
use Rattle.css_parser.specs.Places.{code, code_at, stands, value_at, text_at, skip, is_name, is_word}
use Rattle.css_parser.specs.Names.{class_called, nth_called}
use Rattle.css_parser.specs.Normal.{element_signs, called, attribute_signs, nth_name, sign_of, line_signs, pseudo_name}
use Rattle.css_parser.specs.Nth.{line, nth}
use Rattle.css_parser.specs.Choices.{word_at}
use Rattle.css_parser.specs.Simples as s
use Rattle.css_parser.proofs.NormalNth.{line_text, number_of, signed_is, nth_written}
use Rattle.css_parser.proofs.NormalPlaces.{IsAt, AreAt, sign_text, code_is, value_is, text_is, at_within, moved, halves, no_skip, written_there}
use Rattle.css_parser.proofs.PlaceLemmas.{close_step, close_stop}

-- ---- names of the grammar

-- ASCII characters are their bytes
pub ascii_bytes : (x : List ℕ) → list_all (λ c. nat_lt c 128) x ≡ true → encode_utf8_all x ≡ x
ascii_bytes [] h = refl
ascii_bytes (c ∷ x) h =
    let both = and_parts (nat_lt c 128) (list_all (λ d. nat_lt d 128) x) h in
    ap (λ v. v ++ encode_utf8_all x) (encode_ascii c (ltb-true c 128 both.0)) ∙ ap (λ v. c ∷ v) (ascii_bytes x both.1)

nth_bytes : (k : Nth) → encode_utf8_all (nth_name k) ≡ nth_name k
nth_bytes nth_kind.Child = ascii_bytes (codes "nth-child") refl
nth_bytes nth_kind.LastChild = ascii_bytes (codes "nth-last-child") refl
nth_bytes nth_kind.OfType = ascii_bytes (codes "nth-of-type") refl
nth_bytes nth_kind.LastOfType = ascii_bytes (codes "nth-last-of-type") refl

nth_said : (k : Nth) → nth_called (nth_name k) ≡ Some k
unfolding nth_called
nth_said nth_kind.Child = refl
nth_said nth_kind.LastChild = refl
nth_said nth_kind.OfType = refl
nth_said nth_kind.LastOfType = refl

nth_no_word : (k : Nth) → s.word_called (nth_name k) ≡ None
unfolding s.word_called
nth_no_word nth_kind.Child = refl
nth_no_word nth_kind.LastChild = refl
nth_no_word nth_kind.OfType = refl
nth_no_word nth_kind.LastOfType = refl

pseudo_bytes : (p : Pseudo) → encode_utf8_all (pseudo_name p) ≡ pseudo_name p
pseudo_bytes pseudo.OnlyChild = ascii_bytes (codes "only-child") refl
pseudo_bytes pseudo.OnlyOfType = ascii_bytes (codes "only-of-type") refl
pseudo_bytes pseudo.Empty = ascii_bytes (codes "empty") refl
pseudo_bytes pseudo.Root = ascii_bytes (codes "root") refl
pseudo_bytes pseudo.Never = ascii_bytes (codes "hover") refl
pseudo_bytes pseudo.Link = ascii_bytes (codes "link") refl
pseudo_bytes pseudo.Checked = ascii_bytes (codes "checked") refl
pseudo_bytes pseudo.Enabled = ascii_bytes (codes "enabled") refl
pseudo_bytes pseudo.Disabled = ascii_bytes (codes "disabled") refl

pseudo_said : (p : Pseudo) → class_called (pseudo_name p) ≡ piece.Plain (plain.Pseudo p)
unfolding class_called
pseudo_said pseudo.OnlyChild = refl
pseudo_said pseudo.OnlyOfType = refl
pseudo_said pseudo.Empty = refl
pseudo_said pseudo.Root = refl
pseudo_said pseudo.Never = refl
pseudo_said pseudo.Link = refl
pseudo_said pseudo.Checked = refl
pseudo_said pseudo.Enabled = refl
pseudo_said pseudo.Disabled = refl

-- ---- the text of `an+b`

mark_text : (a : ℤ) → sign_text (Mark (sign_of a)) ≡ mark (sign_of a)
mark_text (pos n) = refl
mark_text (negsuc n) = refl

line_said : (a b : ℤ) → flat_map sign_text (line_signs a b) ≡ line_text a b
line_said (pos m) (pos n) = ap (λ v. 43 ∷ (decimal m ++ 110 ∷ 43 ∷ v)) (append-nil (decimal n))
line_said (pos m) (negsuc n) = ap (λ v. 43 ∷ (decimal m ++ 110 ∷ 45 ∷ v)) (append-nil (decimal (suc n)))
line_said (negsuc m) (pos n) = ap (λ v. 45 ∷ (decimal (suc m) ++ 110 ∷ 43 ∷ v)) (append-nil (decimal n))
line_said (negsuc m) (negsuc n) = ap (λ v. 45 ∷ (decimal (suc m) ++ 110 ∷ 45 ∷ v)) (append-nil (decimal (suc n)))

abbrev IsNoClose : Sign → Type 0
IsNoClose t = (code (kind_of t) == 18) ≡ false

sign_no_close : (a : ℤ) → IsNoClose (Mark (sign_of a))
sign_no_close (pos n) = refl
sign_no_close (negsuc n) = refl

not_below : (i : ℕ) → nat_lt i i ≡ false
not_below i = grind (arith, nat_tests)

abbrev pub read_of : Option (List ℕ) → ℕ → ElementRead
read_of e j = record { name = e; prefixed = false; end = j }

module _ (text : List ℕ) (ts : List CssToken) (no_bar : (i : ℕ) → stands kind.Bar ts i ≡ false) where
  -- ---- elements

  prefix_is : (i : ℕ) → s.past_prefix ts i ≡ i
  prefix_is i =
      ap (λ b. cond b (i + 1) (cond (is_name ts i && stands kind.Bar ts (i + 1)) (i + 2) i)) (no_bar i)
      ∙ ap (λ b. cond b (i + 2) i) (and_right (is_name ts i) (stands kind.Bar ts (i + 1)) (no_bar (i + 1)))

  element_by : ℕ → Option ElementRead
  element_by i = cond (is_name ts i) (Some (record { name = s.name_at ts i; prefixed = nat_lt i i; end = i + 1 })) None

  element_at : (i : ℕ) → s.element ts i ≡ element_by i
  unfolding s.element element_by
  element_at i = ap (λ j. cond (is_name ts j) (Some (record { name = s.name_at ts j; prefixed = nat_lt i j; end = j + 1 })) None) (prefix_is i)

  pub element_is : (i : ℕ) (e : Option (List ℕ)) → AreAt text ts i (element_signs e) → s.element ts i ≡ Some (read_of e (i + 1))
  unfolding element_by
  element_is i None h =
      let c : code_at ts i ≡ 13 = code_is text ts i (Mark kind.Star) h.0 in
      element_at i ∙ rw (c, not_below i) refl
  element_is i (Some n) h =
      let c : code_at ts i ≡ 3 = code_is text ts i (Name n) h.0 in
      let v : value_at ts i ≡ n = value_is text ts i (Name n) h.0 in
      element_at i ∙ rw (c, not_below i, v) refl

  pub no_element : (i : ℕ) → is_name ts i ≡ false → s.element ts i ≡ None
  unfolding element_by
  no_element i h = element_at i ∙ ap (λ b. cond b (Some (record { name = s.name_at ts i; prefixed = nat_lt i i; end = i + 1 })) None) h

  -- ---- attributes

  name_read : (i : ℕ) (n : List ℕ) (next : Sign) → IsAt text ts (i + 1) (Name n) → IsAt text ts (i + 1 + 1) next → (code (kind_of next) == 1) ≡ false → s.attribute ts i ≡ s.behind_name ts false n (i + 1 + 1)
  unfolding s.attribute
  name_read i n next h g other =
      let c : code_at ts (i + 1) ≡ 3 = code_is text ts (i + 1) (Name n) h in
      ap (λ j. cond (stands kind.Ident ts (s.past_prefix ts j)) (s.behind_name ts (nat_lt j (s.past_prefix ts j)) (value_at ts (s.past_prefix ts j)) (skip ts (s.past_prefix ts j + 1))) None) (no_skip text ts (i + 1) (Name n) h refl)
      ∙ ap (λ k. cond (stands kind.Ident ts k) (s.behind_name ts (nat_lt (i + 1) k) (value_at ts k) (skip ts (k + 1))) None) (prefix_is (i + 1))
      ∙ ap (λ m. cond (m == 3) (s.behind_name ts (nat_lt (i + 1) (i + 1)) (value_at ts (i + 1)) (skip ts (i + 1 + 1))) None) c
      ∙ ap (λ b. s.behind_name ts b (value_at ts (i + 1)) (skip ts (i + 1 + 1))) (not_below (i + 1))
      ∙ ap (λ v. s.behind_name ts false v (skip ts (i + 1 + 1))) (value_is text ts (i + 1) (Name n) h)
      ∙ ap (s.behind_name ts false n) (no_skip text ts (i + 1 + 1) next g other)

  exists_reads : (k : ℕ) (n : List ℕ) → IsAt text ts k (Mark kind.CloseSquare) → s.behind_name ts false n k ≡ Some (s.read (piece.Plain (plain.Attr n op.Exists [])) (k + 1))
  exists_reads k n h = let c : code_at ts k ≡ 17 = code_is text ts k (Mark kind.CloseSquare) h in rw c refl

  compared_reads : (k : ℕ) (n : List ℕ) (o : Op) (v : List ℕ) (m : CssKind) → AreAt text ts k (Mark m ∷ Quoted v ∷ Mark kind.CloseSquare ∷ []) → (code m == 17) ≡ false → s.op_at ts k ≡ Some o
      → s.behind_name ts false n k ≡ Some (s.read (piece.Plain (plain.Attr n o v)) (k + 1 + 1 + 1))
  compared_reads k n o v m h other is =
      let q : code_at ts (k + 1) ≡ 5 = code_is text ts (k + 1) (Quoted v) h.1.0 in
      let z : code_at ts (k + 1 + 1) ≡ 17 = code_is text ts (k + 1 + 1) (Mark kind.CloseSquare) h.1.1.0 in
      ap (λ b. cond b (Some (s.read (s.attribute_piece false n op.Exists []) (k + 1))) (s.compared ts false n (s.op_at ts k) (k + 1))) (ap (λ c. c == 17) (code_is text ts k (Mark m) h.0) ∙ other)
      ∙ ap (λ x. s.compared ts false n x (k + 1)) is
      ∙ ap (λ j. cond (is_word ts j && stands kind.CloseSquare ts (skip ts (j + 1))) (Some (s.read (s.attribute_piece false n o (value_at ts j)) (skip ts (j + 1) + 1))) None) (no_skip text ts (k + 1) (Quoted v) h.1.0 refl)
      ∙ ap (λ j. cond (is_word ts (k + 1) && stands kind.CloseSquare ts j) (Some (s.read (s.attribute_piece false n o (value_at ts (k + 1))) (j + 1))) None) (no_skip text ts (k + 1 + 1) (Mark kind.CloseSquare) h.1.1.0 refl)
      ∙ ap (λ b. cond b (Some (s.read (piece.Plain (plain.Attr n o (value_at ts (k + 1)))) (k + 1 + 1 + 1))) None)
      (and_from (is_word ts (k + 1)) (stands kind.CloseSquare ts (k + 1 + 1)) (ap (λ c. (c == 3) || (c == 5)) q) (ap (λ c. c == 17) z))
      ∙ ap (λ x. Some (s.read (piece.Plain (plain.Attr n o x)) (k + 1 + 1 + 1))) (value_is text ts (k + 1) (Quoted v) h.1.0)

  op_reads : (i : ℕ) (n : List ℕ) (o : Op) (v : List ℕ) (m : CssKind) → AreAt text ts i (Mark kind.OpenSquare ∷ Name n ∷ Mark m ∷ Quoted v ∷ Mark kind.CloseSquare ∷ []) → (code m == 17) ≡ false → (code m == 1) ≡ false → s.op_at ts (i + 1 + 1) ≡ Some o
      → s.attribute ts i ≡ Some (s.read (piece.Plain (plain.Attr n o v)) (i + 5))
  op_reads i n o v m h other no_blank is =
      name_read i n (Mark m) h.1.0 h.1.1.0 no_blank ∙ compared_reads (i + 1 + 1) n o v m h.1.1 other is
      ∙ ap (λ j. Some (s.read (piece.Plain (plain.Attr n o v)) j)) (let z : i + 1 + 1 + 1 + 1 + 1 ≡ i + 5 = omega arith in z)

  attribute_reads : (i : ℕ) (n : List ℕ) (o : Op) (v : List ℕ) → FitsOp o v → AreAt text ts i (attribute_signs n o v) → s.attribute ts i ≡ Some (s.read (piece.Plain (plain.Attr n o v)) (i + length (attribute_signs n o v)))
  attribute_reads i n op.Exists v fit h =
      name_read i n (Mark kind.CloseSquare) h.1.0 h.1.1.0 refl ∙ exists_reads (i + 1 + 1) n h.1.1.0
      ∙ ap (λ j. Some (s.read (piece.Plain (plain.Attr n op.Exists [])) j)) (let z : i + 1 + 1 + 1 ≡ i + 3 = omega arith in z)
      ∙ ap (λ x. Some (s.read (piece.Plain (plain.Attr n op.Exists x)) (i + 3))) (sym fit)
  attribute_reads i n op.Equals v fit h = let c : code_at ts (i + 1 + 1) ≡ 24 = code_is text ts (i + 1 + 1) (Mark kind.Equal) h.1.1.0 in op_reads i n op.Equals v kind.Equal h refl refl (rw c refl)
  attribute_reads i n op.Word v fit h = let c : code_at ts (i + 1 + 1) ≡ 7 = code_is text ts (i + 1 + 1) (Mark kind.WordMatch) h.1.1.0 in op_reads i n op.Word v kind.WordMatch h refl refl (rw c refl)
  attribute_reads i n op.Dash v fit h = let c : code_at ts (i + 1 + 1) ≡ 8 = code_is text ts (i + 1 + 1) (Mark kind.DashMatch) h.1.1.0 in op_reads i n op.Dash v kind.DashMatch h refl refl (rw c refl)
  attribute_reads i n op.Prefix v fit h = let c : code_at ts (i + 1 + 1) ≡ 9 = code_is text ts (i + 1 + 1) (Mark kind.PrefixMatch) h.1.1.0 in op_reads i n op.Prefix v kind.PrefixMatch h refl refl (rw c refl)
  attribute_reads i n op.Suffix v fit h = let c : code_at ts (i + 1 + 1) ≡ 10 = code_is text ts (i + 1 + 1) (Mark kind.SuffixMatch) h.1.1.0 in op_reads i n op.Suffix v kind.SuffixMatch h refl refl (rw c refl)
  attribute_reads i n op.Substring v fit h = let c : code_at ts (i + 1 + 1) ≡ 11 = code_is text ts (i + 1 + 1) (Mark kind.PartMatch) h.1.1.0 in op_reads i n op.Substring v kind.PartMatch h refl refl (rw c refl)

  -- ---- arguments

  close_there : (i : ℕ) (ss : List Sign) → AllByRecursion IsNoClose ss → AreAt text ts i ss → s.round_close ts i ≡ s.round_close ts (i + length ss)
  close_there i [] g h = ap (s.round_close ts) (let z : i ≡ i + 0 = omega arith in z)
  close_there i (t ∷ ss) g h =
      close_step ts i (at_within text ts i t h.0) (ap (λ c. c == 18) (code_is text ts i t h.0) ∙ g.0)
      ∙ close_there (i + 1) ss g.1 h.1
      ∙ ap (s.round_close ts) (let z : i + 1 + length ss ≡ i + length (t ∷ ss) = omega arith in z)

  small_read : (k : Nth) (a b : ℤ) → IsSmall a → IsSmall b → s.nth_piece k (line (number_of a) (number_of b)) ≡ piece.Plain (plain.Nth k a b)
  small_read k a b small_a small_b =
      ap (λ t. cond t (piece.Plain (plain.Nth k (s.signed (number_of a)) (s.signed (number_of b)))) (piece.Large k)) (and_from _ _ (le-leb (nat_abs a) most_number small_a) (le-leb (nat_abs b) most_number small_b))
      ∙ ap (λ x. piece.Plain (plain.Nth k x (s.signed (number_of b)))) (signed_is a)
      ∙ ap (λ x. piece.Plain (plain.Nth k a x)) (signed_is b)

  nth_reads : (i : ℕ) (k : Nth) (a b : ℤ) → IsSmall a → IsSmall b → AreAt text ts i (line_signs a b ++ Mark kind.CloseRound ∷ []) → s.nth_argument text ts k i ≡ Some (s.read (piece.Plain (plain.Nth k a b)) (i + 6))
  unfolding s.nth_argument s.written_up_to
  nth_reads i k a b small_a small_b h =
      let parts = halves text ts i (line_signs a b) (Mark kind.CloseRound ∷ []) h in
      let close = parts.1.0 in
      let stand : stands kind.CloseRound ts (i + 5) ≡ true = ap (λ c. c == 18) (code_is text ts (i + 5) (Mark kind.CloseRound) close) in
      let at : s.round_close ts i ≡ i + 5 = close_there i (line_signs a b) (sign_no_close a, (refl, (refl, (sign_no_close b, (refl, tt))))) parts.0 ∙ close_stop ts (i + 5) stand in
      let said : s.written_up_to text ts i (i + 5) ≡ line_text a b =
      ap (λ n. flat_map (s.written text) (take n (drop i ts))) (let z : i + 5 - i ≡ 5 = omega arith in z) ∙ written_there text ts i (line_signs a b) parts.0 ∙ line_said a b in
      ap (λ j. cond (stands kind.CloseRound ts j) (s.nth_read k (nth (s.written_up_to text ts i j)) (j + 1)) None) at
      ∙ ap (λ t. cond t (s.nth_read k (nth (s.written_up_to text ts i (i + 5))) (i + 5 + 1)) None) stand
      ∙ ap (λ v. s.nth_read k (nth v) (i + 5 + 1)) said
      ∙ ap (λ o. s.nth_read k o (i + 5 + 1)) (nth_written a b small_a small_b)
      ∙ ap (λ p. Some (s.read p (i + 5 + 1))) (small_read k a b small_a small_b)
      ∙ ap (λ j. Some (s.read (piece.Plain (plain.Nth k a b)) j)) (let z : i + 5 + 1 ≡ i + 6 = omega arith in z)

  closed_reads : (i : ℕ) (p : Piece) → IsAt text ts (i + 1) (Mark kind.CloseRound) → s.closed ts p i ≡ Some (s.read p (i + 2))
  closed_reads i p h =
      let c : code_at ts (i + 1) ≡ 18 = code_is text ts (i + 1) (Mark kind.CloseRound) h in
      ap (λ j. cond (stands kind.CloseRound ts j) (Some (s.read p (j + 1))) None) (no_skip text ts (i + 1) (Mark kind.CloseRound) h refl)
      ∙ ap (λ m. cond (m == 18) (Some (s.read p (i + 1 + 1))) None) c
      ∙ ap (λ j. Some (s.read p j)) (let z : i + 1 + 1 ≡ i + 2 = omega arith in z)

  contains_reads : (i : ℕ) (x : List ℕ) → AreAt text ts i (Quoted x ∷ Mark kind.CloseRound ∷ []) → s.contains_argument ts i ≡ Some (s.read (piece.Plain (plain.Contains x)) (i + 2))
  contains_reads i x h =
      let c : code_at ts i ≡ 5 = code_is text ts i (Quoted x) h.0 in
      ap (λ j. cond (is_word ts j) (s.closed ts (piece.Plain (plain.Contains (value_at ts j))) j) None) (no_skip text ts i (Quoted x) h.0 refl)
      ∙ ap (λ m. cond ((m == 3) || (m == 5)) (s.closed ts (piece.Plain (plain.Contains (value_at ts i))) i) None) c
      ∙ ap (λ v. s.closed ts (piece.Plain (plain.Contains v)) i) (value_is text ts i (Quoted x) h.0)
      ∙ closed_reads i (piece.Plain (plain.Contains x)) h.1.0

  lang_reads : (i : ℕ) (x : List ℕ) → AreAt text ts i (Quoted x ∷ Mark kind.CloseRound ∷ []) → s.lang_argument ts i ≡ Some (s.read (piece.Plain (plain.Lang x)) (i + 2))
  lang_reads i x h =
      let c : code_at ts i ≡ 5 = code_is text ts i (Quoted x) h.0 in
      ap (λ j. cond (is_word ts j) (s.closed ts (piece.Plain (plain.Lang (value_at ts j))) j) None) (no_skip text ts i (Quoted x) h.0 refl)
      ∙ ap (λ m. cond ((m == 3) || (m == 5)) (s.closed ts (piece.Plain (plain.Lang (value_at ts i))) i) None) c
      ∙ ap (λ v. s.closed ts (piece.Plain (plain.Lang v)) i) (value_is text ts i (Quoted x) h.0)
      ∙ closed_reads i (piece.Plain (plain.Lang x)) h.1.0

  attr_reads : (i : ℕ) (x : List ℕ) → AreAt text ts i (Name x ∷ Mark kind.CloseRound ∷ []) → s.attr_argument ts i ≡ Some (s.read (piece.Tail (tail.Attr x)) (i + 2))
  attr_reads i x h =
      let c : code_at ts i ≡ 3 = code_is text ts i (Name x) h.0 in
      ap (λ j. cond (stands kind.Ident ts j) (s.closed ts (piece.Tail (tail.Attr (value_at ts j))) j) None) (no_skip text ts i (Name x) h.0 refl)
      ∙ ap (λ m. cond (m == 3) (s.closed ts (piece.Tail (tail.Attr (value_at ts i))) i) None) c
      ∙ ap (λ v. s.closed ts (piece.Tail (tail.Attr v)) i) (value_is text ts i (Name x) h.0)
      ∙ closed_reads i (piece.Tail (tail.Attr x)) h.1.0

  -- ---- pieces

  called_reads : (i : ℕ) (name bytes : List ℕ) → AreAt text ts i (Mark kind.Colon ∷ Call name ∷ []) → encode_utf8_all name ≡ bytes → s.piece_at text ts i ≡ s.class_with text ts bytes (nth_called bytes) (i + 2)
  unfolding s.piece_at s.pseudo_class
  called_reads i name bytes h e =
      let c : code_at ts i ≡ 15 = code_is text ts i (Mark kind.Colon) h.0 in
      let f : code_at ts (i + 1) ≡ 2 = code_is text ts (i + 1) (Call name) h.1.0 in
      rw (c, f) (ap (λ v. s.class_with text ts v (nth_called v) (i + 2)) (text_is text ts (i + 1) (Call name) h.1.0 ∙ e))

  -- a simple selector that is no choice, read from i up to j
  pub record IsPlain (i : ℕ) (p : Plain) (j : ℕ) : Type 0 where
    pub reads : s.piece_at text ts i ≡ Some (s.read (piece.Plain p) j)
    pub no_word : word_at ts i ≡ None
    pub no_name : is_name ts i ≡ false
    pub no_space : skip ts i ≡ i

  no_name_by : (i n : ℕ) → code_at ts i ≡ n → ((n == 3) || (n == 13)) ≡ false → is_name ts i ≡ false
  no_name_by i n c other = ap (λ m. (m == 3) || (m == 13)) c ∙ other

  no_word_by : (i n : ℕ) → code_at ts i ≡ n → (n == 15) ≡ false → word_at ts i ≡ None
  unfolding word_at
  no_word_by i n c other = ap (λ b. cond (b && stands kind.Function ts (i + 1)) (s.word_called (text_at ts (i + 1))) None) (ap (λ m. m == 15) c ∙ other)

  -- a Function with another name is no choice
  no_choice : (i : ℕ) (name bytes : List ℕ) → AreAt text ts i (Mark kind.Colon ∷ Call name ∷ []) → encode_utf8_all name ≡ bytes → s.word_called bytes ≡ None → word_at ts i ≡ None
  unfolding word_at
  no_choice i name bytes h e none =
      let c : code_at ts i ≡ 15 = code_is text ts i (Mark kind.Colon) h.0 in
      let f : code_at ts (i + 1) ≡ 2 = code_is text ts (i + 1) (Call name) h.1.0 in
      rw (c, f) (ap s.word_called (text_is text ts (i + 1) (Call name) h.1.0 ∙ e) ∙ none)

  front : (i : ℕ) (name : List ℕ) (argument : List Sign) → AreAt text ts i (called name argument) → AreAt text ts i (Mark kind.Colon ∷ Call name ∷ [])
  front i name argument h = (h.0, (h.1.0, tt))

  inside : (i : ℕ) (name : List ℕ) (argument : List Sign) → AreAt text ts i (called name argument) → AreAt text ts (i + 2) (argument ++ Mark kind.CloseRound ∷ [])
  inside i name argument h = moved text ts (i + 1 + 1) (i + 2) (argument ++ Mark kind.CloseRound ∷ []) (omega arith) h.1.1

  at_colon : (i : ℕ) (p : Plain) (j : ℕ) → IsAt text ts i (Mark kind.Colon) → s.piece_at text ts i ≡ Some (s.read (piece.Plain p) j) → word_at ts i ≡ None → IsPlain i p j
  at_colon i p j h e w = record {
    reads = e;
    no_word = w;
    no_name = no_name_by i 15 (code_is text ts i (Mark kind.Colon) h) refl;
    no_space = no_skip text ts i (Mark kind.Colon) h refl;
  }

  pub id_is : (i : ℕ) (x : List ℕ) → AreAt text ts i (Hash x ∷ []) → IsPlain i (plain.Id x) (i + 1)
  unfolding s.piece_at
  id_is i x h =
      let c : code_at ts i ≡ 4 = code_is text ts i (Hash x) h.0 in
      record {
        reads = rw c (ap (λ v. Some (s.read (piece.Plain (plain.Id v)) (i + 1))) (value_is text ts i (Hash x) h.0));
        no_word = no_word_by i 4 c refl;
        no_name = no_name_by i 4 c refl;
        no_space = no_skip text ts i (Hash x) h.0 refl;
      }

  pub class_is : (i : ℕ) (x : List ℕ) → AreAt text ts i (Mark kind.Dot ∷ Name x ∷ []) → IsPlain i (plain.Class x) (i + 2)
  unfolding s.piece_at
  class_is i x h =
      let c : code_at ts i ≡ 14 = code_is text ts i (Mark kind.Dot) h.0 in
      let f : code_at ts (i + 1) ≡ 3 = code_is text ts (i + 1) (Name x) h.1.0 in
      record {
        reads = rw (c, f) (ap (λ v. Some (s.read (piece.Plain (plain.Class v)) (i + 2))) (value_is text ts (i + 1) (Name x) h.1.0));
        no_word = no_word_by i 14 c refl;
        no_name = no_name_by i 14 c refl;
        no_space = no_skip text ts i (Mark kind.Dot) h.0 refl;
      }

  pub attribute_is : (i : ℕ) (n : List ℕ) (o : Op) (v : List ℕ) → FitsOp o v → AreAt text ts i (attribute_signs n o v) → IsPlain i (plain.Attr n o v) (i + length (attribute_signs n o v))
  unfolding s.piece_at
  attribute_is i n o v fit h =
      let c : code_at ts i ≡ 16 = code_is text ts i (Mark kind.OpenSquare) h.0 in
      record {
        reads = rw c (attribute_reads i n o v fit h);
        no_word = no_word_by i 16 c refl;
        no_name = no_name_by i 16 c refl;
        no_space = no_skip text ts i (Mark kind.OpenSquare) h.0 refl;
      }

  pub nth_is : (i : ℕ) (k : Nth) (a b : ℤ) → IsSmall a → IsSmall b → AreAt text ts i (called (nth_name k) (line_signs a b)) → IsPlain i (plain.Nth k a b) (i + 8)
  nth_is i k a b small_a small_b h =
      let begins = front i (nth_name k) (line_signs a b) h in
      at_colon i (plain.Nth k a b) (i + 8) h.0
      (called_reads i (nth_name k) (nth_name k) begins (nth_bytes k)
      ∙ ap (λ o. s.class_with text ts (nth_name k) o (i + 2)) (nth_said k)
      ∙ nth_reads (i + 2) k a b small_a small_b (inside i (nth_name k) (line_signs a b) h)
      ∙ ap (λ j. Some (s.read (piece.Plain (plain.Nth k a b)) j)) (let z : i + 2 + 6 ≡ i + 8 = omega arith in z))
      (no_choice i (nth_name k) (nth_name k) begins (nth_bytes k) (nth_no_word k))

  pub pseudo_is : (i : ℕ) (p : Pseudo) → AreAt text ts i (Mark kind.Colon ∷ Name (pseudo_name p) ∷ []) → IsPlain i (plain.Pseudo p) (i + 2)
  unfolding s.piece_at s.pseudo_class word_at
  pseudo_is i p h =
      let c : code_at ts i ≡ 15 = code_is text ts i (Mark kind.Colon) h.0 in
      let f : code_at ts (i + 1) ≡ 3 = code_is text ts (i + 1) (Name (pseudo_name p)) h.1.0 in
      at_colon i (plain.Pseudo p) (i + 2) h.0
      (rw (c, f) (ap (λ v. Some (s.read (class_called v) (i + 2))) (text_is text ts (i + 1) (Name (pseudo_name p)) h.1.0 ∙ pseudo_bytes p) ∙ ap (λ q. Some (s.read q (i + 2))) (pseudo_said p)))
      (rw (c, f) refl)

  pub contains_is : (i : ℕ) (x : List ℕ) → AreAt text ts i (called (codes "contains") (Quoted x ∷ [])) → IsPlain i (plain.Contains x) (i + 4)
  unfolding nth_called s.word_called
  contains_is i x h =
      let begins = front i (codes "contains") (Quoted x ∷ []) h in
      let bytes = ascii_bytes (codes "contains") refl in
      at_colon i (plain.Contains x) (i + 4) h.0
      (called_reads i (codes "contains") (codes "contains") begins bytes
      ∙ contains_reads (i + 2) x (inside i (codes "contains") (Quoted x ∷ []) h)
      ∙ ap (λ j. Some (s.read (piece.Plain (plain.Contains x)) j)) (let z : i + 2 + 2 ≡ i + 4 = omega arith in z))
      (no_choice i (codes "contains") (codes "contains") begins bytes refl)

  pub lang_is : (i : ℕ) (x : List ℕ) → AreAt text ts i (called (codes "lang") (Quoted x ∷ [])) → IsPlain i (plain.Lang x) (i + 4)
  unfolding nth_called s.word_called
  lang_is i x h =
      let begins = front i (codes "lang") (Quoted x ∷ []) h in
      let bytes = ascii_bytes (codes "lang") refl in
      at_colon i (plain.Lang x) (i + 4) h.0
      (called_reads i (codes "lang") (codes "lang") begins bytes
      ∙ lang_reads (i + 2) x (inside i (codes "lang") (Quoted x ∷ []) h)
      ∙ ap (λ j. Some (s.read (piece.Plain (plain.Lang x)) j)) (let z : i + 2 + 2 ≡ i + 4 = omega arith in z))
      (no_choice i (codes "lang") (codes "lang") begins bytes refl)

  -- ---- pseudo-elements

  pub text_reads : (i : ℕ) → AreAt text ts i (Mark kind.DoubleColon ∷ Name (codes "text") ∷ []) → s.piece_at text ts i ≡ Some (s.read (piece.Tail tail.Text) (i + 2))
  unfolding s.piece_at s.pseudo_element
  text_reads i h =
      let c : code_at ts i ≡ 12 = code_is text ts i (Mark kind.DoubleColon) h.0 in
      let f : code_at ts (i + 1) ≡ 3 = code_is text ts (i + 1) (Name (codes "text")) h.1.0 in
      rw (c, f) (ap (λ v. Some (s.read (s.element_called v) (i + 2))) (text_is text ts (i + 1) (Name (codes "text")) h.1.0 ∙ ascii_bytes (codes "text") refl))

  pub attr_is : (i : ℕ) (n : List ℕ) → AreAt text ts i (Mark kind.DoubleColon ∷ Call (codes "attr") ∷ Name n ∷ Mark kind.CloseRound ∷ []) → s.piece_at text ts i ≡ Some (s.read (piece.Tail (tail.Attr n)) (i + 4))
  unfolding s.piece_at s.pseudo_element nth_called
  attr_is i n h =
      let c : code_at ts i ≡ 12 = code_is text ts i (Mark kind.DoubleColon) h.0 in
      let f : code_at ts (i + 1) ≡ 2 = code_is text ts (i + 1) (Call (codes "attr")) h.1.0 in
      rw (c, f)
      (ap (λ v. s.element_with text ts v (nth_called v) (i + 2)) (text_is text ts (i + 1) (Call (codes "attr")) h.1.0 ∙ ascii_bytes (codes "attr") refl)
      ∙ attr_reads (i + 2) n (moved text ts (i + 1 + 1) (i + 2) (Name n ∷ Mark kind.CloseRound ∷ []) (omega arith) h.1.1)
      ∙ ap (λ j. Some (s.read (piece.Tail (tail.Attr n)) j)) (let z : i + 2 + 2 ≡ i + 4 = omega arith in z))

  pub no_word_there : (i n : ℕ) → code_at ts i ≡ n → (n == 15) ≡ false → word_at ts i ≡ None
  no_word_there i n c other = no_word_by i n c other
