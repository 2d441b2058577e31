-- Names of elements, as bytes and as characters, and pieces of markup as bytes.
use Rattle.std.proofs.Common.{◌≡◌, ℕ, Bool, true, false, ◌&&◌, ◌||◌, cond, ltb, List, [], ◌∷◌, ◌++◌, sym, refl, ◌∙◌, ap, encode_utf8_all}
use Rattle.std.specs.Prelude.{not, codes}
use Rattle.std.specs.List.{list_all, list_any}
use Rattle.std.specs.Str.{chars, bytes_eq, IsUtf8, str_to_ascii_lowercase, str_eq_ignore_ascii_case}
use Rattle.std.proofs.lemmas.Str.{encodes-append}
use Rattle.std.proofs.lemmas.Bool.{not-true}
use Rattle.text_base.specs.Strings.{is_among}
use Rattle.html_lexer.specs.Names.{is_escapable, literal_names, escapable_names}
use Rattle.html_reader.specs.Tables.{is_void, void_names}
use Rattle.html_reader.specs.Contents.{takes_newline, newline_names}
use Rattle.html_reader.proofs.InkParts.{ink_text, is_literal, newline, ink_content}
use Rattle.html_reader.proofs.NameFacts.{each_passes}
use Rattle.markup_out.specs.Escapes.{escaped_text, escaped_value}
use Rattle.markup_out.specs.Names as out
use Rattle.markup_out.specs.Markup.{begins_newline}
use Rattle.markup_out.proofs.NameLemmas.{void_same, raw_same, newline_same, begins_same, ascii_bytes}

-- ---- names

pub void_is : (name : List ℕ) → IsUtf8 name → out.is_void (chars name) ≡ is_void name
unfolding void_names
void_is name u = sym (void_same name u)

pub takes_is : (name : List ℕ) → IsUtf8 name → str_to_ascii_lowercase name ≡ name → out.takes_newline (chars name) ≡ takes_newline name
unfolding newline_names
takes_is name u low = sym (newline_same name u) ∙ ap out.takes_newline (sym low)

-- a name in lower case is one of a table in any case where it is one of the table
lit_is : (name : List ℕ) → str_to_ascii_lowercase name ≡ name → list_any (λ n. str_eq_ignore_ascii_case n name) literal_names ≡ out.is_raw name
unfolding literal_names
lit_is name low = λ j. list_any (λ n. bytes_eq n (low j)) literal_names

esc_names : List (List ℕ)
esc_names = codes "title" ∷ codes "textarea" ∷ []

esc_is : (name : List ℕ) → str_to_ascii_lowercase name ≡ name → is_escapable name ≡ is_among name esc_names
unfolding escapable_names esc_names
esc_is name low = λ j. list_any (λ n. bytes_eq n (low j)) escapable_names

esc_table : list_all (λ n. not (out.is_raw n)) esc_names ≡ true
unfolding literal_names esc_names
esc_table = refl

literal_by : (a b : Bool) → (b ≡ true → a ≡ false) → ((a || b) && not b) ≡ a
literal_by true true h = let no = h refl in cc
literal_by true false h = refl
literal_by false true h = refl
literal_by false false h = refl

-- elements whose texts are written as they are, in either table
pub raw_is : (name : List ℕ) → IsUtf8 name → str_to_ascii_lowercase name ≡ name → out.is_raw (chars name) ≡ is_literal name
raw_is name u low =
    sym (raw_same name u) ∙ sym (lit_is name low)
    ∙ sym (literal_by (list_any (λ n. str_eq_ignore_ascii_case n name) literal_names) (is_escapable name)
    (λ e. lit_is name low ∙ not-true (out.is_raw name) (each_passes (λ n. not (out.is_raw n)) esc_names name esc_table (sym (esc_is name low) ∙ e))))

raw_table : list_all (λ n. not (takes_newline n)) literal_names ≡ true
unfolding literal_names newline_names
raw_table = refl

-- they take no newline
pub literal_takes : (name : List ℕ) → IsUtf8 name → str_to_ascii_lowercase name ≡ name → is_literal name ≡ true → takes_newline name ≡ false
literal_takes name u low h = not-true (takes_newline name) (each_passes (λ n. not (takes_newline n)) literal_names name raw_table (raw_same name u ∙ raw_is name u low ∙ h))

pub none_raw : out.is_raw [] ≡ false
unfolding literal_names
none_raw = refl

literal_none : is_literal [] ≡ false
unfolding literal_names escapable_names
literal_none = refl

takes_none : takes_newline [] ≡ false
unfolding newline_names
takes_none = refl

newline_false : (s : List ℕ) → newline false s ≡ []
newline_false [] = refl
newline_false (c ∷ cs) = refl

-- a text that stands after no start tag
pub none_content : (s : List ℕ) → ink_content [] s ≡ ink_text false s
none_content s =
    ap (λ b. cond b s (newline (takes_newline []) s ++ ink_text false s)) literal_none
    ∙ ap (λ b. newline b s ++ ink_text false s) takes_none
    ∙ ap (λ z. z ++ ink_text false s) (newline_false s)

-- ---- bytes

pub enc : List ℕ → List ℕ
enc cs = encode_utf8_all cs

pub enc_is : (cs : List ℕ) → enc cs ≡ encode_utf8_all cs
unfolding enc
enc_is cs = refl

pub enc_both : (a b x y : List ℕ) → enc a ≡ x → enc b ≡ y → enc (a ++ b) ≡ x ++ y
unfolding enc
enc_both a b x y h k = encodes-append a b ∙ (λ j. h j ++ k j)

pub enc_lf : (b : Bool) → enc (cond b (10 ∷ []) []) ≡ cond b (10 ∷ []) []
unfolding enc
enc_lf true = ascii_bytes (10 ∷ []) refl
enc_lf false = refl

pub enc_ascii : (xs : List ℕ) → list_all (λ c. ltb c 128) xs ≡ true → enc xs ≡ xs
unfolding enc
enc_ascii xs h = ascii_bytes xs h

pub enc_none : enc [] ≡ []
unfolding enc
enc_none = refl

pub enc_text : (s : List ℕ) → enc (escaped_text true (chars s)) ≡ ink_text false s
unfolding enc
enc_text s = refl

pub enc_value : (s : List ℕ) → enc (escaped_value true (chars s)) ≡ ink_text true s
unfolding enc
enc_value s = refl

-- the newline that is added
pub lead_text : (takes : Bool) (s : List ℕ) → IsUtf8 s → cond (takes && begins_newline (chars s)) (10 ∷ []) [] ≡ newline takes s
lead_text takes s u = ap (λ b. cond (takes && b) (10 ∷ []) []) (sym (begins_same s u)) ∙ bytes takes s
  where
    bytes : (t : Bool) (s : List ℕ) → cond (t && begins_newline s) (10 ∷ []) [] ≡ newline t s
    bytes true [] = refl
    bytes false [] = refl
    bytes t (c ∷ cs) = refl
