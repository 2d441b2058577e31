-- The rows that a balanced piece makes are a document.
use Rattle.std.proofs.Common.{◌≡◌, ℕ, zero, suc, ◌-◌, List, [], ◌∷◌, ◌++◌, map, length, sym, refl, ◌∙◌, ap, subst, arith, append-nil, append_assoc, IsUtf8, inl, inr, eqb}
use Rattle.std.specs.Prelude.{◌≢◌, ◌&&◌}
use Rattle.std.specs.Str.{chars}
use Rattle.std.proofs.lemmas.Bool.{or_right, eq-eqb, cases_lt}
use Rattle.std.proofs.lemmas.List.{length_push}
use Rattle.std.proofs.lemmas.Str.{IsUtf8-nil, IsUtf8-append}
use Rattle.doc_model.specs.Document.{Row, row, is_attribute, is_attribute_kind}
use Rattle.doc_model.specs.Growing.{Growing, growing, innermost, with_attr, with_element, attr_row, AwaitsAttr, IsGrowing}
use Rattle.doc_model.proofs.Awaits.{no_text, awaits_first_attr}
use Rattle.doc_model.proofs.Grown.{pushed_same, pushed_row, grown_element, grown_attr, grown_text, grown_comment, grown_close}
use Rattle.html_reader.specs.Tokens.{Attr, Tag, text, comment, doctype}
use Rattle.html_reader.specs.Forest.{Forest, nothing, then_leaf, then_element}
use Rattle.html_reader.specs.Rows.{Sofar, sofar, flushed, entered, with_leaf, grown, text_rows, tag_rows, row_of_attribute, row_of_comment, row_of_element, row_of_text}
use Rattle.html_reader.specs.Places.{below}
use Rattle.html_reader.specs.inner.Kept.{IsNew, AreKept}
use Rattle.html_reader.proofs.CalmLemmas.{IsCalm, calm_piece, calm_entered}
use Rattle.html_reader.proofs.PieceLemmas.{some_chars}
use Rattle.html_reader.proofs.SizeLemmas.{AreShort, ShortRows, short-append, short_flushed, short_attrs}

-- what the rows of a piece need of it; its values have n characters at most
abbrev pub MakesRows : ℕ → Forest → Type 0
MakesRows n nothing = Unit {0}
MakesRows n (then_leaf (text s) rest) = IsUtf8 s × MakesRows n rest
MakesRows n (then_leaf (comment s) rest) = MakesRows n rest
MakesRows n (then_leaf doctype rest) = MakesRows n rest
MakesRows n (then_element tag inside inserted rest) = (chars tag.name ≢ []) × AreKept tag.attrs × AreShort n tag.attrs × MakesRows n inside × MakesRows n rest

-- after an attribute one of another name may come
another : (g : Growing) (name value other : List ℕ) → AwaitsAttr g other → other ≢ name → AwaitsAttr (with_attr g name value) other
another g name value other h differs =
    let r = attr_row (innermost g.open_rows) name value in
    let doc = g.rows ++ r ∷ [] in
    let last : length doc - 1 ≡ length g.rows = omega (arith, length_push g.rows r) in
    let at : row doc (length doc - 1) ≡ r = ap (row doc) last ∙ pushed_row g.rows r in
    record {
      opened = h.opened;
      follows = or_right (eqb (innermost g.open_rows) (length doc - 1)) (is_attribute doc (length doc - 1) && eqb (row doc (length doc - 1)).parent (innermost g.open_rows))
          (λ i. ap (λ (x : Row). is_attribute_kind x.kind) at i && (ap (λ (x : Row). eqb x.parent (innermost g.open_rows)) at ∙ eq-eqb (innermost g.open_rows) (innermost g.open_rows) refl) i);
      new = λ k l kind parent. elim (cases_lt k (length g.rows)) [
        | inl less ↦ (
            let same = pushed_same g.rows r k less in
            λ e. h.new k less (sym (ap (λ (x : Row). x.kind) same) ∙ kind) (sym (ap (λ (x : Row). x.parent) same) ∙ parent) (sym (ap (λ (x : Row). x.name) same) ∙ e)
            )
        | inr more ↦ (
            let here : length g.rows ≡ k = omega (arith, l, more, length_push g.rows r) in
            λ e. differs (sym e ∙ ap (λ v. (row doc v).name) (sym here) ∙ ap (λ (x : Row). x.name) (pushed_row g.rows r))
            )
      ];
    }

-- each of the attributes may come
abbrev AllAwait : Growing → List Attr → Type 0
AllAwait g [] = Unit {0}
AllAwait g (a ∷ attrs) = AwaitsAttr g (chars a.name) × AllAwait g attrs

all_first : (g : Growing) (name : List ℕ) (attrs : List Attr) → IsGrowing g → AllAwait (with_element g name) attrs
all_first g name [] w = tt
all_first g name (a ∷ attrs) w = (awaits_first_attr g name (chars a.name) w, all_first g name attrs w)

all_more : (g : Growing) (name value : List ℕ) (attrs : List Attr) → AllAwait g attrs → IsNew name attrs → AllAwait (with_attr g (chars name) value) attrs
all_more g name value [] h new = tt
all_more g name value (a ∷ attrs) h new = (another g (chars name) value (chars a.name) h.0 new.0, all_more g name value attrs h.1 new.1)

attrs_growing : (g : Growing) (attrs : List Attr) → IsGrowing g → AreKept attrs → AllAwait g attrs → IsGrowing (growing (g.rows ++ map (row_of_attribute (innermost g.open_rows)) attrs) g.open_rows)
attrs_growing g [] w kept awaits = subst (λ rows. IsGrowing (growing rows g.open_rows)) (sym (append-nil g.rows)) w
attrs_growing g (a ∷ attrs) w kept awaits =
    let h = with_attr g (chars a.name) (chars a.value) in
    let n = innermost g.open_rows in
    subst (λ rows. IsGrowing (growing rows g.open_rows)) (append_assoc g.rows (row_of_attribute n a ∷ []) (map (row_of_attribute n) attrs))
    (attrs_growing h attrs (grown_attr g (chars a.name) (chars a.value) w kept.0 awaits.0) kept.2 (all_more g a.name (chars a.value) attrs awaits.1 kept.1))

-- an element and its attributes
tag_growing : (g : Growing) (tag : Tag) → IsGrowing g → chars tag.name ≢ [] → AreKept tag.attrs → IsGrowing (growing (g.rows ++ tag_rows (innermost g.open_rows) (length g.rows) tag) (length g.rows ∷ g.open_rows))
tag_growing g tag w some kept =
    let n = length g.rows in
    subst (λ rows. IsGrowing (growing rows (n ∷ g.open_rows))) (append_assoc g.rows (row_of_element (innermost g.open_rows) tag.name ∷ []) (map (row_of_attribute n) tag.attrs))
    (attrs_growing (with_element g (chars tag.name)) tag.attrs (grown_element g (chars tag.name) w some) kept (all_first g (chars tag.name) tag.attrs w))

-- the text that waits
pub flush_growing : (opens : List ℕ) (s : Sofar) → IsGrowing (growing s.rows opens) → IsCalm (below opens s) → IsUtf8 s.waits → IsGrowing (growing (flushed (innermost opens) s) opens)
flush_growing opens s w calm utf8 = by_text (innermost opens) refl s.waits utf8
  where
    by_text : (p : ℕ) → innermost opens ≡ p → (waits : List ℕ) → IsUtf8 waits → IsGrowing (growing (s.rows ++ text_rows p waits) opens)
    by_text zero e waits u = subst (λ rows. IsGrowing (growing rows opens)) (sym (append-nil s.rows)) w
    by_text (suc p) e [] u = subst (λ rows. IsGrowing (growing rows opens)) (sym (append-nil s.rows)) w
    by_text (suc p) e (c ∷ cs) u =
        let opened : (opens ≡ [] → ⊥) = (λ none. omega (arith, sym (ap innermost none) ∙ e)) in
        subst (λ q. IsGrowing (growing (s.rows ++ row_of_text q (c ∷ cs) ∷ []) opens)) e
        (grown_text (growing s.rows opens) (chars (c ∷ cs)) w (some_chars (c ∷ cs) u (λ none. cc)) (record { opened = opened; calm = no_text s.rows (innermost opens) calm.calm }))

-- what a piece leaves
pub record IsGrown (opens : List ℕ) (s : Sofar) : Type 0 where
  pub document : IsGrowing (growing s.rows opens)
  pub calm : IsCalm (below opens s)
  pub utf8 : IsUtf8 s.waits

pub piece_growing : (n : ℕ) (opens : List ℕ) (s : Sofar) (f : Forest) → MakesRows n f → IsGrown opens s → IsGrown opens (grown (innermost opens) s f)
piece_growing n opens s nothing m h = h
piece_growing n opens s (then_leaf (text content) rest) m h =
    piece_growing n opens (with_leaf (innermost opens) s (text content)) rest m.1
    (record { document = h.document; calm = calm_piece opens s (then_leaf (text content) nothing) h.calm; utf8 = IsUtf8-append s.waits content h.utf8 m.0 })
piece_growing n opens s (then_leaf (comment content) rest) m h =
    piece_growing n opens (with_leaf (innermost opens) s (comment content)) rest m
    (record {
      document = grown_comment (growing (flushed (innermost opens) s) opens) (chars content) (flush_growing opens s h.document h.calm h.utf8);
      calm = calm_piece opens s (then_leaf (comment content) nothing) h.calm;
      utf8 = IsUtf8-nil;
    })
piece_growing n opens s (then_leaf doctype rest) m h = piece_growing n opens s rest m h
piece_growing n opens s (then_element tag inside inserted rest) m h =
    let p = innermost opens in
    let k = length (flushed p s) in
    let into : IsGrown (k ∷ opens) (entered p s tag) = record {
      document = tag_growing (growing (flushed p s) opens) tag (flush_growing opens s h.document h.calm h.utf8) m.0 m.1;
      calm = calm_entered opens s tag h.calm;
      utf8 = IsUtf8-nil;
    } in
    let t = grown k (entered p s tag) inside in
    let out = piece_growing n (k ∷ opens) (entered p s tag) inside m.3 into in
    piece_growing n opens (sofar (flushed k t) []) rest m.4
    (record {
      document = grown_close (growing (flushed k t) (k ∷ opens)) (flush_growing (k ∷ opens) t out.document out.calm out.utf8) (λ none. cc);
      calm = calm_piece opens s (then_element tag inside inserted nothing) h.calm;
      utf8 = IsUtf8-nil;
    })

-- its values
pub piece_short : (n p : ℕ) (s : Sofar) (f : Forest) → MakesRows n f → ShortRows n s.rows → ShortRows n (grown p s f).rows
piece_short n p s nothing m h = h
piece_short n p s (then_leaf (text content) rest) m h = piece_short n p (with_leaf p s (text content)) rest m.1 h
piece_short n p s (then_leaf (comment content) rest) m h =
    piece_short n p (with_leaf p s (comment content)) rest m (short-append n (flushed p s) (row_of_comment p content ∷ []) (short_flushed n p s h) ((λ no. cc), tt))
piece_short n p s (then_leaf doctype rest) m h = piece_short n p s rest m h
piece_short n p s (then_element tag inside inserted rest) m h =
    let k = length (flushed p s) in
    let t = grown k (entered p s tag) inside in
    let into = short-append n (flushed p s) (tag_rows p k tag) (short_flushed n p s h) ((λ no. cc), short_attrs n k tag.attrs m.2) in
    piece_short n p (sofar (flushed k t) []) rest m.4 (short_flushed n k t (piece_short n k (entered p s tag) inside m.3 into))
