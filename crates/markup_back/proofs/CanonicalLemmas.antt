-- The canonical markup of a document is its tree as it is written out.
use Rattle.std.proofs.Common.{◌≡◌, ℕ, ◌+◌, ◌<◌, Bool, true, false, ◌&&◌, cond, List, [], ◌∷◌, ◌++◌, map, length, drop, sym, refl, ◌∙◌, ap, arith, append_assoc, append-nil, length-append, lt-ltb, eq-eqb, encode_utf8_all}
use Rattle.std.specs.Prelude.{flat_map, filter, codes}
use Rattle.std.specs.List.{range_with_len}
use Rattle.std.specs.Str.{chars, IsUtf8, str_to_ascii_lowercase}
use Rattle.doc_model.specs.declared.Axis.TheVariants as axis
use Rattle.doc_model.specs.Axes.{on_axis}
use Rattle.doc_model.specs.Document.{Row, Document, no_row, row, is_attribute_kind, is_text_kind}
use Rattle.doc_model.proofs.Below.{Small}
use Rattle.html_lexer.specs.TokenLaws.{written}
use Rattle.html_reader.specs.Tokens.{Attr, Tag, text, comment, doctype}
use Rattle.html_reader.specs.Forest.{Forest, nothing, then_leaf, then_element}
use Rattle.html_reader.specs.Rows.{tag_rows, row_of_text, row_of_comment, row_of_element, row_of_attribute}
use Rattle.html_reader.specs.Tables.{is_void}
use Rattle.html_reader.specs.Contents.{takes_newline}
use Rattle.html_reader.specs.Places.{outside, place_grown, all_rows}
use Rattle.html_reader.proofs.InkLemmas.{ink}
use Rattle.html_reader.proofs.InkParts.{ink_text, ink_pair, ink_tag, end_ink, is_literal, newline as added, ink_content}
use Rattle.html_reader.proofs.CleanLemmas.{whole_tree}
use Rattle.html_reader.proofs.SegmentLemmas.{rows_at}
use Rattle.html_reader.proofs.ContentOfRows.{heads, tree_parents, row_first, drop_past}
use Rattle.markup_out.specs.Names as out
use Rattle.markup_out.specs.Escapes.{escaped_text, escaped_value}
use Rattle.markup_out.specs.Markup.{children, attributes, attribute_markup, begins_newline, newline_first, markup_of, styled, canonical}
use Rattle.markup_out.proofs.Levels.{markup_of_rows}
use Rattle.markup_back.proofs.InkNames.{void_is, takes_is, raw_is, literal_takes, none_raw, none_content, enc, enc_is, enc_both, enc_lf, enc_ascii, enc_none, enc_text, enc_value, lead_text}
use Rattle.markup_back.proofs.RootRows.{page_rows}
use Rattle.markup_back.proofs.RowFacts.{Each, each_append, Apart, NotIs, apart_more, apart_not, parents_apart, tree_document, children_here, attributes_here}
use Rattle.text_base.proofs.Text.{encode-chars}

-- ---- what is known of a tree whose document is written

-- an element whose text is written as it is has nothing but one text
abbrev pub IsLone : Forest → Type 0
IsLone nothing = Unit {0}
IsLone (then_leaf (text s) rest) = rest ≡ nothing
IsLone (then_leaf (comment s) rest) = ⊥
IsLone (then_leaf doctype rest) = ⊥
IsLone (then_element tag inside inserted rest) = ⊥

abbrev pub AreNames : List Attr → Type 0
AreNames [] = Unit {0}
AreNames (a ∷ attrs) = IsUtf8 a.name × AreNames attrs

-- names, comments and texts are UTF-8, and names of elements in lower case
abbrev pub IsSpelt : Forest → Type 0
IsSpelt nothing = Unit {0}
IsSpelt (then_leaf (text s) rest) = IsUtf8 s × IsSpelt rest
IsSpelt (then_leaf (comment s) rest) = IsUtf8 s × IsSpelt rest
IsSpelt (then_leaf doctype rest) = IsSpelt rest
IsSpelt (then_element tag inside inserted rest) =
    IsUtf8 tag.name × (str_to_ascii_lowercase tag.name ≡ tag.name) × AreNames tag.attrs × (is_literal tag.name ≡ true → IsLone inside) × IsSpelt inside × IsSpelt rest

-- ---- the newline that is added

-- what is written before a tree whose first text begins with a newline
abbrev lead : Bool → Forest → List ℕ
lead takes nothing = []
lead takes (then_leaf (text s) rest) = added takes s
lead takes (then_leaf (comment s) rest) = []
lead takes (then_leaf doctype rest) = lead takes rest
lead takes (then_element tag inside inserted rest) = []

lead_ink : (name : List ℕ) (g : Forest) → is_literal name ≡ false → ink name g ≡ lead (takes_newline name) g ++ ink [] g
lead_ink name nothing lit = refl
lead_ink name (then_leaf (text s) rest) lit =
    let t = takes_newline name in
    ap (λ b. cond b s (added t s ++ ink_text false s) ++ ink [] rest) lit ∙ append_assoc (added t s) (ink_text false s) (ink [] rest) ∙ ap (λ z. added t s ++ (z ++ ink [] rest)) (sym (none_content s))
lead_ink name (then_leaf (comment s) rest) lit = refl
lead_ink name (then_leaf doctype rest) lit = lead_ink name rest lit
lead_ink name (then_element tag inside inserted rest) lit = refl

enc_chars : (s : List ℕ) → IsUtf8 s → enc (chars s) ≡ s
enc_chars s u = enc_is (chars s) ∙ encode-chars s u

-- ---- one row

is_own : (doc : Document) (x y : ℕ) (r : Row) → row doc y ≡ r → is_attribute_kind r.kind ≡ true → 0 < y → r.parent ≡ x → on_axis doc axis.Attribute x y ≡ true
is_own doc x y r at a l e = λ j. (ap (λ (r : Row). is_attribute_kind r.kind) at ∙ a) j && (lt-ltb 0 y l j && eq-eqb _ _ (ap (λ (r : Row). r.parent) at ∙ e) j)

-- the attributes of an element in its start tag
attrs_ink : (doc : Document) (n k : ℕ) (attrs : List Attr) (post : List Row) → n < k → drop k doc ≡ map (row_of_attribute n) attrs ++ post → AreNames attrs
    → enc (flat_map (attribute_markup true doc) (filter (on_axis doc axis.Attribute n) (range_with_len k (length (map (row_of_attribute n) attrs))))) ≡ written (map ink_pair attrs)
attrs_ink doc n k [] post l h ok = enc_none
attrs_ink doc n k (a ∷ attrs) post l h ok =
    let p = on_axis doc axis.Attribute n in
    let rest = filter p (range_with_len (k + 1) (length (map (row_of_attribute n) attrs))) in
    let r = row_of_attribute n a in
    let at : row doc k ≡ r = row_first doc k r (map (row_of_attribute n) attrs ++ post) h in
    let own : p k ≡ true = is_own doc n k r at refl (omega (arith, l)) refl in
    let name = chars a.name in
    let value = escaped_value true (chars a.value) in
    let more = flat_map (attribute_markup true doc) rest in
    let one : attribute_markup true doc k ≡ codes " " ++ (name ++ (codes "=\"" ++ (value ++ codes "\""))) = ap (λ (r : Row). codes " " ++ (r.name ++ (codes "=\"" ++ (escaped_value true r.text ++ codes "\"")))) at in
    let flat : (codes " " ++ (name ++ (codes "=\"" ++ (value ++ codes "\"")))) ++ more ≡ codes " " ++ (name ++ (codes "=\"" ++ (value ++ (codes "\"" ++ more)))) =
    ap (λ z. 32 ∷ z) (append_assoc name (codes "=\"" ++ (value ++ codes "\"")) more ∙ ap (λ z. name ++ (61 ∷ (34 ∷ z))) (append_assoc value (codes "\"") more)) in
    let later : enc more ≡ written (map ink_pair attrs) = attrs_ink doc n (k + 1) attrs post (omega arith) (drop_past doc k (k + 1) (r ∷ []) (map (row_of_attribute n) attrs ++ post) (omega arith) h) ok.1 in
    ap (λ b. enc (flat_map (attribute_markup true doc) (cond b (k ∷ rest) rest))) own
    ∙ ap (λ z. enc (z ++ more)) one ∙ ap enc flat
    ∙ enc_both (codes " ") _ (codes " ") _ (enc_ascii (codes " ") refl)
    (enc_both name _ a.name _ (enc_chars a.name ok.0)
    (enc_both (codes "=\"") _ (codes "=\"") _ (enc_ascii (codes "=\"") refl)
    (enc_both value _ (ink_text true a.value) _ (enc_value a.value)
    (enc_both (codes "\"") more (codes "\"") _ (enc_ascii (codes "\"") refl) later))))

none : (t : Bool) → cond {A = List ℕ} (t && false) (10 ∷ []) [] ≡ []
none true = refl
none false = refl

-- the newline that an element's start tag has after it
first_newline : (doc : Document) (n m : ℕ) (inside : Forest) (post : List Row) (t : Bool) → drop m doc ≡ rows_at n m inside ++ post → IsSpelt inside → cond (t && newline_first doc (heads m inside)) (10 ∷ []) [] ≡ lead t inside
first_newline doc n m nothing post t h ok = none t
first_newline doc n m (then_leaf (text s) rest) post t h ok =
    let at : row doc m ≡ row_of_text n s = row_first doc m (row_of_text n s) (rows_at n (m + 1) rest ++ post) h in
    ap (λ (r : Row). cond (t && (is_text_kind r.kind && begins_newline r.text)) (10 ∷ []) []) at ∙ lead_text t s ok.0
first_newline doc n m (then_leaf (comment s) rest) post t h ok =
    let at : row doc m ≡ row_of_comment n s = row_first doc m (row_of_comment n s) (rows_at n (m + 1) rest ++ post) h in
    ap (λ (r : Row). cond (t && (is_text_kind r.kind && begins_newline r.text)) (10 ∷ []) []) at ∙ none t
first_newline doc n m (then_leaf doctype rest) post t h ok = first_newline doc n m rest post t h ok
first_newline doc n m (then_element tag inside inserted rest) post t h ok =
    let at : row doc m ≡ row_of_element n tag.name = row_first doc m (row_of_element n tag.name) _ h in
    ap (λ (r : Row). cond (t && (is_text_kind r.kind && begins_newline r.text)) (10 ∷ []) []) at ∙ none t

-- ---- all rows

module _ (doc : Document) (small : Small doc) (some : 0 < length doc) where
  abbrev canon : ℕ → List ℕ
  canon = styled true doc

  canon_is : (x : ℕ) → canon x ≡ markup_of true (row doc x).kind doc x (flat_map canon (children doc x))
  canon_is x = markup_of_rows true doc x small some

  -- a text
  text_row_ink : (p n : ℕ) (s : List ℕ) (raw : Bool) → row doc n ≡ row_of_text p s → out.is_raw (row doc p).name ≡ raw → canon n ≡ cond raw (chars s) (escaped_text true (chars s))
  text_row_ink p n s raw at is =
      canon_is n ∙ ap (λ (r : Row). markup_of true r.kind doc n (flat_map canon (children doc n))) at
      ∙ ap (λ (r : Row). cond (out.is_raw (row doc r.parent).name) r.text (escaped_text true r.text)) at
      ∙ ap (λ b. cond b (chars s) (escaped_text true (chars s))) is

  comment_row_ink : (p n : ℕ) (s : List ℕ) → row doc n ≡ row_of_comment p s → canon n ≡ codes "<!--" ++ (chars s ++ codes "-->")
  comment_row_ink p n s at =
      canon_is n ∙ ap (λ (r : Row). markup_of true r.kind doc n (flat_map canon (children doc n))) at ∙ ap (λ (r : Row). codes "<!--" ++ (r.text ++ codes "-->")) at

  -- the content and the end tag of an element that is not void
  content_ink : (n m : ℕ) (name : List ℕ) (inside : Forest) (post : List Row) (lit : Bool) → (row doc n).name ≡ chars name → drop m doc ≡ rows_at n m inside ++ post → IsUtf8 name → str_to_ascii_lowercase name ≡ name → is_literal name ≡ lit
      → (is_literal name ≡ true → IsLone inside) → IsSpelt inside → (is_literal name ≡ false → enc (flat_map canon (heads m inside)) ≡ ink [] inside)
      → enc (cond (takes_newline name && newline_first doc (heads m inside)) (10 ∷ []) [] ++ (flat_map canon (heads m inside) ++ (codes "</" ++ (chars name ++ codes ">")))) ≡ ink name inside ++ end_ink name
  content_ink n m name inside post lit named h u low is lone ok later = by_lit lit is
    where
      content : List ℕ
      content = flat_map canon (heads m inside)

      tail : List ℕ
      tail = codes "</" ++ (chars name ++ codes ">")

      end : enc tail ≡ end_ink name
      end = enc_both (codes "</") (chars name ++ codes ">") (codes "</") (name ++ codes ">") (enc_ascii (codes "</") refl) (enc_both (chars name) (codes ">") name (codes ">") (enc_chars name u) (enc_ascii (codes ">") refl))

      lone_ink : (g : Forest) → IsLone g → IsSpelt g → drop m doc ≡ rows_at n m g ++ post → is_literal name ≡ true → enc (flat_map canon (heads m g)) ≡ ink name g
      lone_ink nothing l k h e = enc_none
      lone_ink (then_leaf (text s) rest) l k h e =
          let at : row doc m ≡ row_of_text n s = row_first doc m (row_of_text n s) (rows_at n (m + 1) rest ++ post) h in
          let raw : out.is_raw (row doc n).name ≡ true = ap out.is_raw named ∙ raw_is name u low ∙ e in
          ap (λ g. enc (canon m ++ flat_map canon (heads (m + 1) g))) l ∙ ap enc (append-nil (canon m)) ∙ ap enc (text_row_ink n m s true at raw) ∙ enc_chars s k.0
          ∙ ap (λ b. cond b s (added (takes_newline name) s ++ ink_text false s)) (sym e) ∙ sym (append-nil (ink_content name s)) ∙ ap (λ g. ink_content name s ++ ink [] g) (sym l)
      lone_ink (then_leaf (comment s) rest) l k h e = absurd l
      lone_ink (then_leaf doctype rest) l k h e = absurd l
      lone_ink (then_element tag i inserted rest) l k h e = absurd l

      by_lit : (b : Bool) → is_literal name ≡ b → enc (cond (takes_newline name && newline_first doc (heads m inside)) (10 ∷ []) [] ++ (flat_map canon (heads m inside) ++ (codes "</" ++ (chars name ++ codes ">")))) ≡ ink name inside ++ end_ink name
      by_lit true e =
          ap (λ b. enc (cond (b && newline_first doc (heads m inside)) (10 ∷ []) [] ++ (content ++ tail))) (literal_takes name u low e)
          ∙ enc_both content tail (ink name inside) (end_ink name) (lone_ink inside (lone e) ok h e) end
      by_lit false e =
          let b = takes_newline name && newline_first doc (heads m inside) in
          let x = lead (takes_newline name) inside in
          enc_both (cond b (10 ∷ []) []) (content ++ tail) x (ink [] inside ++ end_ink name) (enc_lf b ∙ first_newline doc n m inside post (takes_newline name) h ok)
          (enc_both content tail (ink [] inside) (end_ink name) (later e) end)
          ∙ sym (append_assoc x (ink [] inside) (end_ink name)) ∙ ap (λ z. z ++ end_ink name) (sym (lead_ink name inside e))

  -- an element, where that of its content is known
  element_ink : (p n m : ℕ) (tag : Tag) (inside : Forest) (post : List Row) → m ≡ n + 1 + length (map (row_of_attribute n) tag.attrs) → drop n doc ≡ row_of_element p tag.name ∷ (map (row_of_attribute n) tag.attrs ++ (rows_at n m inside ++ post))
      → Each (NotIs n) post → m + length (rows_at n m inside) + length post ≡ length doc → IsUtf8 tag.name → str_to_ascii_lowercase tag.name ≡ tag.name → AreNames tag.attrs → (is_literal tag.name ≡ true → IsLone inside) → IsSpelt inside
      → (is_literal tag.name ≡ false → enc (flat_map canon (heads m inside)) ≡ ink [] inside)
      → enc (canon n) ≡ ink_tag tag ++ cond (is_void tag.name) [] (ink tag.name inside ++ end_ink tag.name)
  element_ink p n m tag inside post e h other long u low names lone ok later =
      let r = row_of_element p tag.name in
      let attrs = map (row_of_attribute n) tag.attrs in
      let at : row doc n ≡ r = row_first doc n r (attrs ++ (rows_at n m inside ++ post)) h in
      let h1 : drop (n + 1) doc ≡ attrs ++ (rows_at n m inside ++ post) = drop_past doc n (n + 1) (r ∷ []) (attrs ++ (rows_at n m inside ++ post)) (omega arith) h in
      let h2 : drop m doc ≡ rows_at n m inside ++ post = drop_past doc (n + 1) m attrs (rows_at n m inside ++ post) e h1 in
      let named : (row doc n).name ≡ chars tag.name = ap (λ (r : Row). r.name) at in
      let kids : children doc n ≡ heads m inside = children_here doc small n m tag.attrs inside post e h1 other long in
      let own = flat_map (attribute_markup true doc) (attributes doc n) in
      let own_is : enc own ≡ written (map ink_pair tag.attrs) =
      ap (λ xs. enc (flat_map (attribute_markup true doc) xs)) (attributes_here doc small n m tag.attrs inside post e h1 other long) ∙ attrs_ink doc n (n + 1) tag.attrs (rows_at n m inside ++ post) (omega arith) h1 names in
      let name = chars tag.name in
      let body : List ℕ = cond (takes_newline tag.name && newline_first doc (heads m inside)) (10 ∷ []) [] ++ (flat_map canon (heads m inside) ++ (codes "</" ++ (name ++ codes ">"))) in
      let whole : canon n ≡ (codes "<" ++ (name ++ (own ++ codes ">"))) ++ cond (is_void tag.name) [] body =
      canon_is n ∙ ap (λ (r : Row). markup_of true r.kind doc n (flat_map canon (children doc n))) at
      ∙ ap (λ q. (codes "<" ++ (q ++ (own ++ codes ">"))) ++ cond (out.is_void q) [] (cond (out.takes_newline q && newline_first doc (children doc n)) (10 ∷ []) [] ++ (flat_map canon (children doc n) ++ (codes "</" ++ (q ++ codes ">"))))) named
      ∙ ap (λ ks. (codes "<" ++ (name ++ (own ++ codes ">"))) ++ cond (out.is_void name) [] (cond (out.takes_newline name && newline_first doc ks) (10 ∷ []) [] ++ (flat_map canon ks ++ (codes "</" ++ (name ++ codes ">"))))) kids
      ∙ ap (λ b. (codes "<" ++ (name ++ (own ++ codes ">"))) ++ cond (out.is_void name) [] (cond (b && newline_first doc (heads m inside)) (10 ∷ []) [] ++ (flat_map canon (heads m inside) ++ (codes "</" ++ (name ++ codes ">"))))) (takes_is tag.name u low)
      ∙ ap (λ b. (codes "<" ++ (name ++ (own ++ codes ">"))) ++ cond b [] body) (void_is tag.name u) in
      ap enc whole
      ∙ enc_both (codes "<" ++ (name ++ (own ++ codes ">"))) (cond (is_void tag.name) [] body) (ink_tag tag) (cond (is_void tag.name) [] (ink tag.name inside ++ end_ink tag.name))
      (enc_both (codes "<") (name ++ (own ++ codes ">")) (codes "<") (tag.name ++ (written (map ink_pair tag.attrs) ++ codes ">")) (enc_ascii (codes "<") refl)
      (enc_both name (own ++ codes ">") tag.name (written (map ink_pair tag.attrs) ++ codes ">") (enc_chars tag.name u) (enc_both own (codes ">") (written (map ink_pair tag.attrs)) (codes ">") own_is (enc_ascii (codes ">") refl))))
      (enc_cond (is_void tag.name) body (ink tag.name inside ++ end_ink tag.name) (content_ink n m tag.name inside post (is_literal tag.name) named h2 u low refl lone ok later))
    where
      enc_cond : (b : Bool) (x y : List ℕ) → enc x ≡ y → enc (cond b [] x) ≡ cond b [] y
      enc_cond true x y h = enc_none
      enc_cond false x y h = h

  -- the trees below a row, side by side
  pub forest_ink : (p n : ℕ) (g : Forest) (post : List Row) → p < n → out.is_raw (row doc p).name ≡ false → IsSpelt g → drop n doc ≡ rows_at p n g ++ post → Each (Apart n (n + length (rows_at p n g))) post → n + length (rows_at p n g) + length post ≡ length doc
      → enc (flat_map canon (heads n g)) ≡ ink [] g
  forest_ink p n nothing post l raw ok h apart long = enc_none
  forest_ink p n (then_leaf (text s) rest) post l raw ok h apart long =
      let r = row_of_text p s in
      let at : row doc n ≡ r = row_first doc n r (rows_at p (n + 1) rest ++ post) h in
      enc_both (canon n) (flat_map canon (heads (n + 1) rest)) (ink_content [] s) (ink [] rest) (ap enc (text_row_ink p n s false at raw) ∙ enc_text s ∙ sym (none_content s))
      (forest_ink p (n + 1) rest post (omega arith) raw ok.1 (drop_past doc n (n + 1) (r ∷ []) (rows_at p (n + 1) rest ++ post) (omega arith) h) (apart_more n (n + length (r ∷ rows_at p (n + 1) rest)) (n + 1) (n + 1 + length (rows_at p (n + 1) rest)) post (omega arith) (omega arith) apart) (omega (arith, long)))
  forest_ink p n (then_leaf (comment s) rest) post l raw ok h apart long =
      let r = row_of_comment p s in
      let at : row doc n ≡ r = row_first doc n r (rows_at p (n + 1) rest ++ post) h in
      let more = flat_map canon (heads (n + 1) rest) in
      ap (λ z. enc (z ++ more)) (comment_row_ink p n s at) ∙ ap (λ z. enc (codes "<!--" ++ z)) (append_assoc (chars s) (codes "-->") more)
      ∙ enc_both (codes "<!--") _ (codes "<!--") _ (enc_ascii (codes "<!--") refl)
      (enc_both (chars s) _ s _ (enc_chars s ok.0)
      (enc_both (codes "-->") more (codes "-->") (ink [] rest) (enc_ascii (codes "-->") refl)
      (forest_ink p (n + 1) rest post (omega arith) raw ok.1 (drop_past doc n (n + 1) (r ∷ []) (rows_at p (n + 1) rest ++ post) (omega arith) h) (apart_more n (n + length (r ∷ rows_at p (n + 1) rest)) (n + 1) (n + 1 + length (rows_at p (n + 1) rest)) post (omega arith) (omega arith) apart) (omega (arith, long)))))
  forest_ink p n (then_leaf doctype rest) post l raw ok h apart long = forest_ink p n rest post l raw ok h apart long
  forest_ink p n (then_element tag inside inserted rest) post l raw ok h apart long =
      let attrs = map (row_of_attribute n) tag.attrs in
      let m = n + length (tag_rows p n tag) in
      let i = rows_at n m inside in
      let end = m + length i in
      let r = rows_at p end rest in
      let h0 : drop n doc ≡ row_of_element p tag.name ∷ ((attrs ++ (i ++ r)) ++ post) = h in
      let h1 : drop n doc ≡ row_of_element p tag.name ∷ (attrs ++ (i ++ (r ++ post))) = h0 ∙ ap (λ z. row_of_element p tag.name ∷ z) (append_assoc attrs (i ++ r) post ∙ ap (λ z. attrs ++ z) (append_assoc i r post)) in
      let h2 : drop m doc ≡ i ++ (r ++ post) = drop_past doc n m (row_of_element p tag.name ∷ attrs) (i ++ (r ++ post)) refl h1 in
      let h3 : drop end doc ≡ r ++ post = drop_past doc m end i (r ++ post) refl h2 in
      let long0 : length (rows_at p n (then_element tag inside inserted rest)) ≡ 1 + length attrs + length i + length r = omega (arith, length-append attrs (i ++ r), length-append i r) in
      let long1 : end + length r + length post ≡ length doc = omega (arith, long, long0) in
      let apart1 : Each (Apart end (end + length r)) post = apart_more n (n + length (rows_at p n (then_element tag inside inserted rest))) end (end + length r) post (omega arith) (omega (arith, long0)) apart in
      let apart2 : Each (Apart m end) (r ++ post) =
      each_append (Apart m end) r post (parents_apart p end m end r (omega arith) (omega arith) (tree_parents p end rest)) (apart_more n (n + length (rows_at p n (then_element tag inside inserted rest))) m end post (omega arith) (omega (arith, long0)) apart) in
      let apart3 : Each (NotIs n) (r ++ post) =
      apart_not n end n (r ++ post) (omega arith) (omega arith)
      (each_append (Apart n end) r post (parents_apart p end n end r l (omega arith) (tree_parents p end rest)) (apart_more n (n + length (rows_at p n (then_element tag inside inserted rest))) n end post (omega arith) (omega (arith, long0)) apart)) in
      let long2 : m + length i + length (r ++ post) ≡ length doc = omega (arith, long1, length-append r post) in
      let named : (row doc n).name ≡ chars tag.name = ap (λ (r : Row). r.name) (row_first doc n (row_of_element p tag.name) _ h1) in
      enc_both (canon n) (flat_map canon (heads end rest)) (ink_tag tag ++ cond (is_void tag.name) [] (ink tag.name inside ++ end_ink tag.name)) (ink [] rest)
      (element_ink p n m tag inside (r ++ post) (omega arith) h1 apart3 long2 ok.0 ok.1 ok.2 ok.3 ok.4
      (λ lit. forest_ink n m inside (r ++ post) (omega arith) (ap out.is_raw named ∙ raw_is tag.name ok.0 ok.1 ∙ lit) ok.4 h2 apart2 long2))
      (forest_ink p end rest post (omega arith) raw ok.5 h3 apart1 long1)
      ∙ append_assoc (ink_tag tag) (cond (is_void tag.name) [] (ink tag.name inside ++ end_ink tag.name)) (ink [] rest)

-- the document of a tree
tree_ink : (doc : Document) (g : Forest) → doc ≡ no_row ∷ rows_at 0 1 g → IsSpelt g → encode_utf8_all (canonical doc) ≡ ink [] g
tree_ink doc g e ok =
    let small = tree_document doc g e in
    let all : length doc ≡ 1 + length (rows_at 0 1 g) = omega (arith, ap length e) in
    let some : 0 < length doc = omega (arith, all) in
    let root : row doc 0 ≡ no_row = ap (λ (d : Document). row d 0) e in
    let h : drop 1 doc ≡ rows_at 0 1 g ++ [] = ap (drop 1) e ∙ sym (append-nil (rows_at 0 1 g)) in
    let long : 0 + 1 + length (rows_at 0 1 g) + 0 ≡ length doc = omega (arith, all) in
    sym (enc_is (canonical doc)) ∙ ap enc (markup_of_rows true doc 0 small some)
    ∙ ap (λ (r : Row). enc (markup_of true r.kind doc 0 (flat_map (styled true doc) (children doc 0)))) root
    ∙ ap (λ ks. enc (flat_map (styled true doc) ks)) (children_here doc small 0 1 [] g [] refl h tt long)
    ∙ forest_ink doc small some 0 1 g [] (omega arith) (ap (λ (r : Row). out.is_raw r.name) root ∙ none_raw) ok h tt long

-- the canonical markup of the document of a page
pub canonical_ink : (made : Bool) (f : Forest) (doc : Document) → IsSpelt (whole_tree made f) → doc ≡ all_rows (place_grown made (outside f)) → encode_utf8_all (canonical doc) ≡ ink [] (whole_tree made f)
canonical_ink made f doc ok e = tree_ink doc (whole_tree made f) (e ∙ page_rows made f) ok
