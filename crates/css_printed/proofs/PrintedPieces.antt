-- The pieces of printed selectors are UTF-8, where the names and values in them are texts.
use Rattle.std.proofs.Common.{◌≡◌, ℕ, zero, suc, ◌/◌, ◌%◌, ◌-◌, ◌<◌, Bool, true, false, List, [], ◌∷◌, ◌++◌, length, map, refl, sym, ◌∙◌, ap, subst, arith, codes, encode_utf8_all}
use Rattle.std.specs.Prelude.{ℤ, pos, ◌==◌, ◌||◌, nat_lt, Option, Some, None, slice_index, if◌then◌else◌}
use Rattle.std.specs.Char.{to_ascii_lowercase}
use Rattle.std.specs.Fmt.{decimal, digits, digits_onto, digit_glyph}
use Rattle.std.specs.List.{AllByRecursion, list_all, list_any, flat_map}
use Rattle.std.specs.Str.{IsUtf8}
use Rattle.std.proofs.lemmas.Bool.{and_parts, and_from}
use Rattle.std.proofs.lemmas.Bool.Decides.{nat_tests}
use Rattle.std.proofs.lemmas.Str.{IsUtf8-append, IsUtf8-from_ascii}
use lib.Utf8.{scalar, scalars}
use Rattle.text_base.specs.Strings.{is_empty}
use Rattle.text_base.specs.Text.{is_space5}
use Rattle.css_selectors.specs.declared.selector.Dialect.{Dialect}
use Rattle.css_selectors.specs.declared.selector.Dialect.TheVariants.{Generic, Html}
use Rattle.css_selectors.specs.declared.selector.Link.{Link}
use Rattle.css_selectors.specs.declared.selector.Link.TheVariants as link
use Rattle.css_selectors.specs.declared.selector.Nth.{Nth}
use Rattle.css_selectors.specs.declared.selector.Nth.TheVariants as nth
use Rattle.css_selectors.specs.declared.selector.Op.{Op}
use Rattle.css_selectors.specs.declared.selector.Op.TheVariants as op
use Rattle.css_selectors.specs.declared.selector.Pseudo.{Pseudo}
use Rattle.css_selectors.specs.declared.selector.Pseudo.TheVariants as pseudo
use Rattle.css_selectors.specs.declared.selector.Tail.{Tail}
use Rattle.css_selectors.specs.declared.selector.Tail.TheVariants as tail
use Rattle.css_selectors.specs.Texts as texts
use Rattle.css_selectors.specs.Texts.{IsText}
use Rattle.css_meaning.specs.Names.{folded}
use Rattle.css_printed.specs.Conditions.{Condition, never, exactly, at_least, at_most, every, conditions}
use Rattle.css_printed.specs.Links.{first_text, step_text}
use Rattle.css_printed.specs.Literals.{Quoted, literal_parts, quoted, listed, shown, literal_text}
use Rattle.css_printed.specs.Names.{is_plain, name_bytes, name_bracket, element_text, attribute_text}
use Rattle.css_printed.specs.Printed.{tail_text}
use Rattle.css_printed.specs.Simples.{nowhere, op_text, siblings_text, condition_text, nth_text, html_text, pseudo_text, lang_text}
use Rattle.css_printed.proofs.LiteralBytes.{in_bytes, parts_bytes}
use Rattle.css_printed.proofs.LiteralParts.{value, are_closed, literal_value, literal_closed}
use Rattle.css_printed.proofs.SpellNames.{lower_text, folded_text, IsElementText}

abbrev pub Bytes : Type 0
Bytes = List ℕ

-- ---- one in front of the other

abbrev is_small : ℕ → Bool
is_small b = nat_lt b 128

small : (b : ℕ) → is_small b ≡ true → b < 128
small b h = grind (arith, nat_tests)

at_each : (x : Bytes) → list_all is_small x ≡ true → (i : ℕ) → slice_index x i < 128
at_each [] h i = omega arith
at_each (b ∷ x) h zero = small b (and_parts (is_small b) (list_all is_small x) h).0
at_each (b ∷ x) h (suc i) = at_each x (and_parts (is_small b) (list_all is_small x) h).1 i

pub ascii : (x : Bytes) → list_all is_small x ≡ true → IsUtf8 x
ascii x h = IsUtf8-from_ascii x (at_each x h)

-- what stands in every printed text, in front of what is UTF-8
pub after : (x y : Bytes) → list_all is_small x ≡ true → IsUtf8 y → IsUtf8 (x ++ y)
after x y h u = IsUtf8-append x y (ascii x h) u

pub chosen : (b : Bool) (x y : Bytes) → IsUtf8 x → IsUtf8 y → IsUtf8 (if b then x else y)
chosen true x y u v = u
chosen false x y u v = v

-- the bytes of a text
text : (x : List ℕ) → IsText x → IsUtf8 (encode_utf8_all x)
text x h = (x, (h, refl))

-- ---- literals

abbrev IsQuoted : Quoted → Type 0
IsQuoted q = IsUtf8 (quoted q)

one_quote : (q : ℕ) → ((q == 39) || (q == 34)) ≡ true → is_small q ≡ true
one_quote q h = grind (arith, nat_tests)

quoted_utf8 : (q : ℕ) (x : Bytes) → ((q == 39) || (q == 34)) ≡ true → IsUtf8 x → IsUtf8 (q ∷ (x ++ q ∷ []))
quoted_utf8 q x h u =
    let one : IsUtf8 (q ∷ []) = ascii (q ∷ []) (and_from (is_small q) true (one_quote q h) refl) in
    IsUtf8-append (q ∷ []) (x ++ q ∷ []) one (IsUtf8-append x (q ∷ []) u one)

front_text : (x y : List ℕ) → scalars (x ++ y) ≡ true → (scalars x ≡ true) × (scalars y ≡ true)
front_text [] y h = (refl, h)
front_text (c ∷ x) y h =
    let p = and_parts (scalar c) (scalars (x ++ y)) h in
    let q = front_text x y p.1 in
    (and_from (scalar c) (scalars x) p.0 q.0, q.1)

all_quoted : (qs : List Quoted) → scalars (value qs) ≡ true → are_closed (map in_bytes qs) ≡ true → AllByRecursion IsQuoted (map in_bytes qs)
all_quoted [] v h = tt
all_quoted (q ∷ qs) v h =
    let parts = front_text q.content (value qs) v in
    let closed = and_parts _ (are_closed (map in_bytes qs)) h in
    (quoted_utf8 q.quote (encode_utf8_all q.content) (and_parts ((q.quote == 39) || (q.quote == 34)) _ closed.0).0 (text q.content parts.0), all_quoted qs parts.1 closed.1)

listed_utf8 : (qs : List Quoted) → AllByRecursion IsQuoted qs → IsUtf8 (listed qs)
listed_utf8 [] h = ascii [] refl
listed_utf8 (q ∷ []) h = h.0
listed_utf8 (q ∷ r ∷ rs) h = IsUtf8-append (quoted q) (codes ", " ++ listed (r ∷ rs)) h.0 (after (codes ", ") (listed (r ∷ rs)) refl (listed_utf8 (r ∷ rs) h.1))

shown_utf8 : (qs : List Quoted) → AllByRecursion IsQuoted qs → IsUtf8 (shown qs)
shown_utf8 [] h = ascii [] refl
shown_utf8 (q ∷ []) h = h.0
shown_utf8 (q ∷ r ∷ rs) h = after (codes "concat(") (listed (q ∷ r ∷ rs) ++ codes ")") refl (IsUtf8-append (listed (q ∷ r ∷ rs)) (codes ")") (listed_utf8 (q ∷ r ∷ rs) h) (ascii (codes ")") refl))

of_text : (x : List ℕ) → IsText x → IsUtf8 (literal_text (encode_utf8_all x))
of_text x h =
    let P : List Quoted → Type 0 = λ qs. IsUtf8 (shown qs) in
    let Q : List Quoted → Type 0 = λ qs. are_closed qs ≡ true in
    subst P (sym (parts_bytes x)) (shown_utf8 (map in_bytes (literal_parts x)) (all_quoted (literal_parts x) (ap scalars (literal_value x) ∙ h) (subst Q (parts_bytes x) (literal_closed (encode_utf8_all x)))))

-- a literal of any UTF-8 text
literal : (x : Bytes) → IsUtf8 x → IsUtf8 (literal_text x)
literal x u = let P : Bytes → Type 0 = λ t. IsUtf8 (literal_text t) in subst P u.1.1 (of_text u.0 u.1.0)

-- a literal and what ends the piece
closes : (x y : Bytes) → IsUtf8 x → list_all is_small y ≡ true → IsUtf8 (literal_text x ++ y)
closes x y u h = IsUtf8-append (literal_text x) y (literal x u) (ascii y h)

-- ---- names

name_utf8 : (d : Dialect) (n : List ℕ) → IsText n → IsUtf8 (name_bytes d n)
name_utf8 d n h = text (folded d n) (folded_text d n h)

bracket_utf8 : (d : Dialect) (n : List ℕ) → IsText n → IsUtf8 (name_bracket d n)
bracket_utf8 d n h = after (codes "[name() = ") _ refl (closes (name_bytes d n) (codes "]") (name_utf8 d n h) refl)

pub element_utf8 : (d : Dialect) (el : Option (List ℕ)) → IsElementText el → IsUtf8 (element_text d el)
element_utf8 d None h = ascii (codes "*") refl
element_utf8 d (Some n) h = chosen (is_plain (folded d n)) (name_bytes d n) (codes "*" ++ name_bracket d n) (name_utf8 d n h) (after (codes "*") (name_bracket d n) refl (bracket_utf8 d n h))

pub attribute_utf8 : (d : Dialect) (n : List ℕ) → IsText n → IsUtf8 (attribute_text d n)
attribute_utf8 d n h =
    chosen (is_plain (folded d n)) (codes "@" ++ name_bytes d n) (codes "attribute::*" ++ name_bracket d n) (after (codes "@") (name_bytes d n) refl (name_utf8 d n h))
    (after (codes "attribute::*") (name_bracket d n) refl (bracket_utf8 d n h))

-- ---- numbers

glyph_small : (n : ℕ) → is_small (digit_glyph false (n % 10)) ≡ true
glyph_small n = let low : n % 10 < 10 = omega arith in digit (n % 10) low
  where
    digit : (d : ℕ) → d < 10 → is_small (digit_glyph false d) ≡ true
    digit d l = grind (arith, nat_tests)

onto_small : (k n : ℕ) (acc : Bytes) → list_all is_small acc ≡ true → list_all is_small (digits_onto k 10 false n acc) ≡ true
onto_small zero n acc h = h
onto_small (suc k) n acc h = by_test (n / 10 == 0) (and_from _ _ (glyph_small n) h) (λ b g. onto_small k (n / 10) b g)
  where
    by_test : (b : Bool) → list_all is_small (digit_glyph false (n % 10) ∷ acc) ≡ true → ((a : Bytes) → list_all is_small a ≡ true → list_all is_small (digits_onto k 10 false (n / 10) a) ≡ true) →
        list_all is_small (if b then digit_glyph false (n % 10) ∷ acc else digits_onto k 10 false (n / 10) (digit_glyph false (n % 10) ∷ acc)) ≡ true
    by_test true g go = g
    by_test false g go = go (digit_glyph false (n % 10) ∷ acc) g

decimal_small : (n : ℕ) → list_all is_small (decimal n) ≡ true
unfolding digits
decimal_small n = onto_small 64 n [] refl

number : (n : ℕ) (y : Bytes) → IsUtf8 y → IsUtf8 (decimal n ++ y)
number n y u = after (decimal n) y (decimal_small n) u

-- ---- attributes

module _ (a : Bytes) (u : IsUtf8 a) (v : List ℕ) (h : IsText v) where
  -- the attribute in front of more
  one : (y : Bytes) → IsUtf8 y → IsUtf8 (a ++ y)
  one y w = IsUtf8-append a y u w

  equals : IsUtf8 (literal_text (encode_utf8_all v) ++ codes "]")
  equals = closes (encode_utf8_all v) (codes "]") (text v h) refl

  spaced : IsUtf8 (codes " " ++ (encode_utf8_all v ++ codes " "))
  spaced = after (codes " ") _ refl (IsUtf8-append (encode_utf8_all v) (codes " ") (text v h) (ascii (codes " ") refl))

  dashed : IsUtf8 (encode_utf8_all v ++ codes "-")
  dashed = IsUtf8-append (encode_utf8_all v) (codes "-") (text v h) (ascii (codes "-") refl)

  called : IsUtf8 (literal_text (encode_utf8_all v) ++ codes ")]")
  called = closes (encode_utf8_all v) (codes ")]") (text v h) refl

  pub op_utf8 : (o : Op) → IsUtf8 (op_text a o v)
  op_utf8 op.Exists = after (codes "[") _ refl (one _ (ascii (codes "]") refl))
  op_utf8 op.Equals = after (codes "[") _ refl (one _ (after (codes " = ") _ refl equals))
  op_utf8 op.Word =
      chosen (is_empty v || list_any is_space5 v) nowhere _ (ascii nowhere refl)
      (after (codes "[") _ refl (one _ (after (codes " and contains(concat(' ', normalize-space(") _ refl (one _ (after (codes "), ' '), ") _ refl (closes _ (codes ")]") spaced refl))))))
  op_utf8 op.Dash =
      after (codes "[") _ refl (one _ (after (codes " and (") _ refl (one _ (after (codes " = ") _ refl (IsUtf8-append (literal_text (encode_utf8_all v)) _ (literal (encode_utf8_all v) (text v h))
      (after (codes " or starts-with(") _ refl (one _ (after (codes ", ") _ refl (closes _ (codes "))]") dashed refl)))))))))
  op_utf8 op.Prefix = chosen (is_empty v) nowhere _ (ascii nowhere refl) (after (codes "[") _ refl (one _ (after (codes " and starts-with(") _ refl (one _ (after (codes ", ") _ refl called)))))
  op_utf8 op.Suffix =
      chosen (is_empty v) nowhere _ (ascii nowhere refl)
      (after (codes "[") _ refl (one _ (after (codes " and substring(") _ refl (one _ (after (codes ", string-length(") _ refl (one _ (after (codes ") - ") _ refl (number (length v - 1) _
      (after (codes ") = ") _ refl equals)))))))))
  op_utf8 op.Substring = chosen (is_empty v) nowhere _ (ascii nowhere refl) (after (codes "[") _ refl (one _ (after (codes " and contains(") _ refl (one _ (after (codes ", ") _ refl called)))))

-- ---- positions

module _ (s : Bytes) (u : IsUtf8 s) where
  condition_utf8 : (c : Condition) → IsUtf8 (condition_text s c)
  condition_utf8 never = ascii nowhere refl
  condition_utf8 (exactly n) = after (codes "[count(") _ refl (IsUtf8-append s _ u (after (codes ") = ") _ refl (number n _ (ascii (codes "]") refl))))
  condition_utf8 (at_least n) = after (codes "[count(") _ refl (IsUtf8-append s _ u (after (codes ") >= ") _ refl (number n _ (ascii (codes "]") refl))))
  condition_utf8 (at_most n) = after (codes "[count(") _ refl (IsUtf8-append s _ u (after (codes ") <= ") _ refl (number n _ (ascii (codes "]") refl))))
  condition_utf8 (every n r) = after (codes "[count(") _ refl (IsUtf8-append s _ u (after (codes ") mod ") _ refl (number n _ (after (codes " = ") _ refl (number r _ (ascii (codes "]") refl))))))

  conditions_utf8 : (cs : List Condition) → IsUtf8 (flat_map (condition_text s) cs)
  conditions_utf8 [] = ascii [] refl
  conditions_utf8 (c ∷ cs) = IsUtf8-append (condition_text s c) (flat_map (condition_text s) cs) (condition_utf8 c) (conditions_utf8 cs)

html : (d : Dialect) (x : Bytes) → list_all is_small x ≡ true → IsUtf8 (html_text d x)
html Generic x h = ascii nowhere refl
html Html x h = ascii x h

module _ (d : Dialect) (el : Option (List ℕ)) (h : IsElementText el) where
  siblings_utf8 : (kind : Nth) → IsUtf8 (siblings_text d el kind)
  siblings_utf8 nth.Child = ascii (codes "preceding-sibling::*") refl
  siblings_utf8 nth.LastChild = ascii (codes "following-sibling::*") refl
  siblings_utf8 nth.OfType = after (codes "preceding-sibling::") _ refl (element_utf8 d el h)
  siblings_utf8 nth.LastOfType = after (codes "following-sibling::") _ refl (element_utf8 d el h)

  pub nth_utf8 : (kind : Nth) (a b : ℤ) → IsUtf8 (nth_text d el kind a b)
  nth_utf8 kind a b = conditions_utf8 (siblings_text d el kind) (siblings_utf8 kind) (conditions a b)

  -- ---- pseudo-classes

  pub pseudo_utf8 : (p : Pseudo) → IsUtf8 (pseudo_text d el p)
  pseudo_utf8 pseudo.OnlyChild = IsUtf8-append (nth_text d el nth.Child (pos 0) (pos 1)) (nth_text d el nth.LastChild (pos 0) (pos 1)) (nth_utf8 nth.Child (pos 0) (pos 1)) (nth_utf8 nth.LastChild (pos 0) (pos 1))
  pseudo_utf8 pseudo.OnlyOfType = IsUtf8-append (nth_text d el nth.OfType (pos 0) (pos 1)) (nth_text d el nth.LastOfType (pos 0) (pos 1)) (nth_utf8 nth.OfType (pos 0) (pos 1)) (nth_utf8 nth.LastOfType (pos 0) (pos 1))
  pseudo_utf8 pseudo.Empty = ascii _ refl
  pseudo_utf8 pseudo.Root = ascii _ refl
  pseudo_utf8 pseudo.Never = ascii nowhere refl
  pseudo_utf8 pseudo.Link = html d _ refl
  pseudo_utf8 pseudo.Checked = html d _ refl
  pseudo_utf8 pseudo.Enabled = html d _ refl
  pseudo_utf8 pseudo.Disabled = html d _ refl

pub lang_utf8 : (d : Dialect) (x : List ℕ) → IsText x → IsUtf8 (lang_text d x)
lang_utf8 Generic x h = after (codes "[lang(") _ refl (closes (encode_utf8_all x) (codes ")]") (text x h) refl)
lang_utf8 Html x h =
    let lower : IsUtf8 (encode_utf8_all (map to_ascii_lowercase x)) = text (map to_ascii_lowercase x) (lower_text x h) in
    after (codes "[ancestor-or-self::*[@lang][1][starts-with(concat(translate(@lang, 'ABCDEFGHIJKLMNOPQRSTUVWXYZ', 'abcdefghijklmnopqrstuvwxyz'), '-'), ") _ refl
    (closes (encode_utf8_all (map to_ascii_lowercase x) ++ codes "-") (codes ")]]") (IsUtf8-append (encode_utf8_all (map to_ascii_lowercase x)) (codes "-") lower (ascii (codes "-") refl)) refl)

-- an id and a text that is contained
pub id_utf8 : (x : List ℕ) → IsText x → IsUtf8 (codes "[@id = " ++ (literal_text (encode_utf8_all x) ++ codes "]"))
id_utf8 x h = after (codes "[@id = ") _ refl (closes (encode_utf8_all x) (codes "]") (text x h) refl)

pub contains_utf8 : (x : List ℕ) → IsText x → IsUtf8 (codes "[contains(., " ++ (literal_text (encode_utf8_all x) ++ codes ")]"))
contains_utf8 x h = after (codes "[contains(., ") _ refl (closes (encode_utf8_all x) (codes ")]") (text x h) refl)

-- ---- steps

module _ (d : Dialect) (el : Option (List ℕ)) (h : IsElementText el) where
  next : (n : Option (List ℕ)) → IsElementText n → IsUtf8 (first_text d link.Next n)
  next None g = ascii (codes "following-sibling::*[1]") refl
  next (Some n) g = after (codes "following-sibling::*[1]") _ refl (after (codes "[self::") _ refl (IsUtf8-append (element_text d (Some n)) (codes "]") (element_utf8 d (Some n) g) (ascii (codes "]") refl)))

  pub first_utf8 : (l : Link) → IsUtf8 (first_text d l el)
  first_utf8 link.First = after (codes "descendant-or-self::") _ refl (element_utf8 d el h)
  first_utf8 link.Descendant = after (codes "descendant::") _ refl (element_utf8 d el h)
  first_utf8 link.Child = after (codes "child::") _ refl (element_utf8 d el h)
  first_utf8 link.Next = next el h
  first_utf8 link.Later = after (codes "following-sibling::") _ refl (element_utf8 d el h)

  pub step_utf8 : (l : Link) → IsUtf8 (step_text d l el)
  step_utf8 link.First = first_utf8 link.First
  step_utf8 link.Descendant = after (codes "/") _ refl (first_utf8 link.Descendant)
  step_utf8 link.Child = after (codes "/") _ refl (element_utf8 d el h)
  step_utf8 link.Next = after (codes "/") _ refl (first_utf8 link.Next)
  step_utf8 link.Later = after (codes "/") _ refl (first_utf8 link.Later)

pub tail_utf8 : (d : Dialect) (t : Tail) → texts.tail_text t ≡ true → IsUtf8 (tail_text d t)
tail_utf8 d tail.Element h = ascii [] refl
tail_utf8 d tail.Text h = ascii (codes "/text()") refl
tail_utf8 d (tail.Attr n) h = after (codes "/") _ refl (attribute_utf8 d n h)
