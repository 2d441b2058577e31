-- Elements, simple selectors and pseudo-elements, each read from a place of the tokens on: what it is, and the place behind
-- it. After the grammar of Selectors Level 3, section 10.1.
use Rattle.std.specs.Prelude.{ℕ, ◌+◌, ◌-◌, ◌==◌, ◌&&◌, not, nat_le, nat_lt, Bool, if◌then◌else◌, List, [], ◌∷◌, drop, length, slice_range, count_by, flat_map, Option, Some, None, is_some, ℤ, pos, neg_ℤ, codes}
use Rattle.std.specs.List.{prefix_len, range_with_len}
use Rattle.css_selectors.specs.declared.selector.Nth.{Nth}
use Rattle.css_selectors.specs.declared.selector.Op.{Op}
use Rattle.css_selectors.specs.declared.selector.Op.TheVariants as op
use Rattle.css_selectors.specs.declared.selector.Tail.TheVariants as tail
use Rattle.css_selectors.specs.WellMade.{most_number}
use Rattle.css_parser.specs.declared.pieces.Plain.TheVariants as plain
use Rattle.css_lexer.specs.declared.tokens.CssKind.TheVariants as kind
use Rattle.css_lexer.specs.declared.tokens.CssToken.{CssToken}
use Rattle.css_parser.specs.declared.nth.Number.{Number}
use Rattle.css_parser.specs.declared.nth.Line.{Line}
use Rattle.css_parser.specs.declared.pieces.Piece.{Piece}
use Rattle.css_parser.specs.declared.pieces.Piece.TheVariants as piece
use Rattle.css_parser.specs.declared.pieces.Read.{Read}
use Rattle.css_parser.specs.declared.pieces.Word.{Word}
use Rattle.css_parser.specs.declared.pieces.Word.TheVariants as word
use Rattle.css_parser.specs.declared.pieces.ElementRead.{ElementRead}
use Rattle.css_parser.specs.Places.{code, stands, value_at, text_at, skip, is_name, is_word, is_called, is_space}
use Rattle.css_parser.specs.Names.{class_called, nth_called}
use Rattle.css_parser.specs.Nth.{nth}

abbrev pub read : Piece → ℕ → Read
read piece j = record { piece = piece; end = j }

-- prefix: an Ident, `*` or nothing, and `|`. It gives the place behind the prefix at i, or i where there is none. A `|`
-- directly behind a name belongs to a prefix, since nothing else that may follow a name begins with it.
abbrev pub past_prefix : List CssToken → ℕ → ℕ
past_prefix ts i =
    if stands kind.Bar ts i then i + 1
    else (if is_name ts i && stands kind.Bar ts (i + 1) then i + 2
    else i)

-- none for `*`
abbrev pub name_at : List CssToken → ℕ → Option (List ℕ)
name_at ts i = if stands kind.Ident ts i then Some (value_at ts i) else None

-- element: an optional prefix, and an Ident or `*`
unfoldable pub element : List CssToken → ℕ → Option ElementRead
element ts i =
    let j = past_prefix ts i in
    if is_name ts j then Some (record { name = name_at ts j; prefixed = nat_lt i j; end = j + 1 }) else None

abbrev pub op_at : List CssToken → ℕ → Option Op
op_at ts i =
    if stands kind.Equal ts i then Some op.Equals
    else (if stands kind.WordMatch ts i then Some op.Word
    else (if stands kind.DashMatch ts i then Some op.Dash
    else (if stands kind.PrefixMatch ts i then Some op.Prefix
    else (if stands kind.SuffixMatch ts i then Some op.Suffix
    else (if stands kind.PartMatch ts i then Some op.Substring
    else None)))))

abbrev pub attribute_piece : Bool → List ℕ → Op → List ℕ → Piece
attribute_piece prefixed name o value = if prefixed then piece.Prefixed else piece.Plain (plain.Attr name o value)

-- behind an operator: S, an Ident or a String, S and `]`
abbrev pub compared : List CssToken → Bool → List ℕ → Option Op → ℕ → Option Read
compared ts prefixed name None i = None
compared ts prefixed name (Some o) i =
    let k = skip ts i in
    let m = skip ts (k + 1) in
    if is_word ts k && stands kind.CloseSquare ts m then Some (read (attribute_piece prefixed name o (value_at ts k)) (m + 1)) else None

-- behind the name and S: `]`, or an operator and what belongs to it
abbrev pub behind_name : List CssToken → Bool → List ℕ → ℕ → Option Read
behind_name ts prefixed name i =
    if stands kind.CloseSquare ts i then Some (read (attribute_piece prefixed name op.Exists []) (i + 1))
    else compared ts prefixed name (op_at ts i) (i + 1)

-- attribute: `[`, S, an optional prefix and an Ident, S, and what stands behind the name
unfoldable pub attribute : List CssToken → ℕ → Option Read
attribute ts i =
    let j = skip ts (i + 1) in
    let k = past_prefix ts j in
    if stands kind.Ident ts k then behind_name ts (nat_lt j k) (value_at ts k) (skip ts (k + 1)) else None

-- the text of a token as it is written, and one space for white space
abbrev pub written : List ℕ → CssToken → List ℕ
written text t = if is_space t then 32 ∷ [] else slice_range text t.from t.to

-- the first place from i on at which `)` stands, or the number of the tokens
unfoldable pub round_close : List CssToken → ℕ → ℕ
round_close ts i = i + prefix_len (λ t. not (code t.kind == 18)) (drop i ts)

-- the written texts of the tokens up to the next `)`
unfoldable pub written_up_to : List ℕ → List CssToken → ℕ → ℕ → List ℕ
written_up_to text ts i j = flat_map (written text) (slice_range ts i j)

abbrev pub is_small : Number → Bool
is_small n = nat_le n.size most_number

abbrev pub signed : Number → ℤ
signed n = if n.minus then neg_ℤ (pos n.size) else pos n.size

abbrev pub nth_piece : Nth → Line → Piece
nth_piece position l = if is_small l.a && is_small l.b then piece.Plain (plain.Nth position (signed l.a) (signed l.b)) else piece.Large position

abbrev pub nth_read : Nth → Option Line → ℕ → Option Read
nth_read position None j = None
nth_read position (Some l) j = Some (read (nth_piece position l) j)

-- `an+b` and `)`
unfoldable pub nth_argument : List ℕ → List CssToken → Nth → ℕ → Option Read
nth_argument text ts position i =
    let j = round_close ts i in
    if stands kind.CloseRound ts j then nth_read position (nth (written_up_to text ts i j)) (j + 1) else None

-- S and `)`, behind a word at i
abbrev pub closed : List CssToken → Piece → ℕ → Option Read
closed ts piece i = let j = skip ts (i + 1) in if stands kind.CloseRound ts j then Some (read piece (j + 1)) else None

-- S, an Ident or a String, S and `)`
abbrev pub contains_argument : List CssToken → ℕ → Option Read
contains_argument ts i = let j = skip ts i in if is_word ts j then closed ts (piece.Plain (plain.Contains (value_at ts j))) j else None

abbrev pub lang_argument : List CssToken → ℕ → Option Read
lang_argument ts i = let j = skip ts i in if is_word ts j then closed ts (piece.Plain (plain.Lang (value_at ts j))) j else None

-- S, an Ident, S and `)`
abbrev pub attr_argument : List CssToken → ℕ → Option Read
attr_argument ts i = let j = skip ts i in if stands kind.Ident ts j then closed ts (piece.Tail (tail.Attr (value_at ts j))) j else None

abbrev pub is_opening : CssToken → Bool
is_opening t = code t.kind == 2

abbrev pub is_closing : CssToken → Bool
is_closing t = code t.kind == 18

-- among the tokens from i through k stand more `)` than Functions
abbrev pub is_more_closed : List CssToken → ℕ → ℕ → Bool
is_more_closed ts i k = nat_lt (count_by is_opening (slice_range ts i (k + 1))) (count_by is_closing (slice_range ts i (k + 1)))

-- the place of the `)` that ends tokens with balanced Function and `)`, or the number of the tokens
unfoldable pub balanced_close : List CssToken → ℕ → ℕ
balanced_close ts i = i + prefix_len (λ k. not (is_more_closed ts i k)) (range_with_len i (length ts - i))

-- tokens with balanced Function and `)`, and `)`
unfoldable pub other_argument : List CssToken → Piece → ℕ → Option Read
other_argument ts piece i = let j = balanced_close ts i in if stands kind.CloseRound ts j then Some (read piece (j + 1)) else None

-- the word of a choice, by the name of its Function
unfoldable pub word_called : List ℕ → Option Word
word_called name =
    if is_called name (codes "is") then Some word.Is
    else (if is_called name (codes "where") then Some word.Where
    else (if is_called name (codes "not") then Some word.Not
    else (if is_called name (codes "has") then Some word.Has
    else None)))

-- a Function of this name is read by the choice alone
abbrev pub is_choice : List ℕ → Bool
is_choice name = is_some (word_called name)

abbrev pub class_with : List ℕ → List CssToken → List ℕ → Option Nth → ℕ → Option Read
class_with text ts name (Some position) i = nth_argument text ts position i
class_with text ts name None i =
    if is_called name (codes "contains") then contains_argument ts i
    else (if is_called name (codes "lang") then lang_argument ts i
    else (if is_choice name then None
    else other_argument ts piece.Unknown i))

-- pseudo-class: `:` and an Ident, or `:`, a Function, its argument and `)`. A Function with the name of a choice is read by
-- the choice alone.
unfoldable pub pseudo_class : List ℕ → List CssToken → ℕ → Option Read
pseudo_class text ts i =
    if stands kind.Ident ts (i + 1) then Some (read (class_called (text_at ts (i + 1))) (i + 2))
    else (if stands kind.Function ts (i + 1) then class_with text ts (text_at ts (i + 1)) (nth_called (text_at ts (i + 1))) (i + 2)
    else None)

abbrev pub strange : Option Read → Option Read
strange None = None
strange (Some r) = Some (read piece.Strange r.end)

abbrev pub element_with : List ℕ → List CssToken → List ℕ → Option Nth → ℕ → Option Read
element_with text ts name (Some position) i = strange (nth_argument text ts position i)
element_with text ts name None i =
    if is_called name (codes "attr") then attr_argument ts i
    else (if is_choice name then None
    else other_argument ts piece.Strange i)

abbrev pub element_called : List ℕ → Piece
element_called name = if is_called name (codes "text") then piece.Tail tail.Text else piece.Strange

-- pseudo-element: `::` and an Ident, or `::`, a Function, its argument and `)`
unfoldable pub pseudo_element : List ℕ → List CssToken → ℕ → Option Read
pseudo_element text ts i =
    if stands kind.Ident ts (i + 1) then Some (read (element_called (text_at ts (i + 1))) (i + 2))
    else (if stands kind.Function ts (i + 1) then element_with text ts (text_at ts (i + 1)) (nth_called (text_at ts (i + 1))) (i + 2)
    else None)

-- Hash
abbrev pub id : List CssToken → ℕ → Option Read
id ts i = Some (read (piece.Plain (plain.Id (value_at ts i))) (i + 1))

-- class: `.` and an Ident
abbrev pub class : List CssToken → ℕ → Option Read
class ts i = if stands kind.Ident ts (i + 1) then Some (read (piece.Plain (plain.Class (value_at ts (i + 1)))) (i + 2)) else None

-- a simple selector that is no choice, or a pseudo-element
unfoldable pub piece_at : List ℕ → List CssToken → ℕ → Option Read
piece_at text ts i =
    if stands kind.Hash ts i then id ts i
    else (if stands kind.Dot ts i then class ts i
    else (if stands kind.OpenSquare ts i then attribute ts i
    else (if stands kind.Colon ts i then pseudo_class text ts i
    else (if stands kind.DoubleColon ts i then pseudo_element text ts i
    else None))))
