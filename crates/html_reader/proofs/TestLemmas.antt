-- The tests on the stack.
use Rattle.std.proofs.Common.{◌≡◌, ℕ, ◌<◌, ◌-◌, List, [], ◌∷◌, length, Bool, true, false, ◌&&◌, sym, refl, ◌∙◌, ap, arith, eqb, ne_eqb}
use Rattle.std.specs.Prelude.{slice_get, Option, Some, ◌||◌}
use Rattle.std.specs.List.{list_any}
use Rattle.html_reader.specs.Tables.{is_foreign, is_void}
use Rattle.html_reader.specs.Words.{is_shut, ends_at}
use Rattle.std.specs.Str.{bytes_eq}
use Rattle.html_reader.specs.declared.token.StartTag.{StartTag}
use Rattle.html_reader.specs.Tokens.{Tag, Tok}
use Rattle.html_reader.specs.inner.Pieces.{owned_bytes}
use Rattle.html_reader.specs.inner.Machine.{is_empty, is_innermost}
use Rattle.html_reader.specs.inner.States.{tag_of, tags_onto, is_foreign_tag, is_single_last}
use Rattle.html_reader.proofs.AttrLemmas.{length-tags}

empty_onto : (t : Tag) (tags : List Tag) (items : List StartTag) → is_empty (tags_onto (t ∷ tags) items) ≡ false
empty_onto t tags [] = refl
empty_onto t tags (x ∷ items) = empty_onto (tag_of x) (t ∷ tags) items

pub empty_tags : (items : List StartTag) → eqb (length items) 0 ≡ is_empty (tags_onto [] items)
empty_tags [] = refl
empty_tags (x ∷ items) = ne_eqb (length (x ∷ items)) 0 (λ e. omega (arith, e)) ∙ sym (empty_onto (tag_of x) [] items)

pub none : (items : List StartTag) (n : ℕ) → n ≡ length items → eqb n 0 ≡ is_empty (tags_onto [] items)
none items n e = ap (λ m. eqb m 0) e ∙ empty_tags items

pub deep : (items : List StartTag) (n k m : ℕ) → n ≡ length items → k ≡ m → eqb n k ≡ eqb (length (tags_onto [] items)) m
deep items n k m e f = ap (λ x. eqb x k) (e ∙ omega (arith, length-tags [] items)) ∙ ap (λ x. eqb (length (tags_onto [] items)) x) f

pub some_named : (items : List StartTag) (name : List ℕ) → is_innermost (tags_onto [] items) name ≡ true → 0 < length items
some_named [] name h = cc
some_named (x ∷ items) name h = omega arith

named_onto : (tags : List Tag) (x : StartTag) (items : List StartTag) (t : StartTag) (name : List ℕ) → slice_get (x ∷ items) (length items) ≡ Some t → is_innermost (tags_onto tags (x ∷ items)) name ≡ bytes_eq (owned_bytes t.name) name
named_onto tags x [] t name h = ap (λ (y : StartTag). bytes_eq (owned_bytes y.name) name) (some_same h)
  where
    some_same : {a b : StartTag} → Some a ≡ Some b → a ≡ b
    some_same e = cc
named_onto tags x (y ∷ items) t name h = named_onto (tag_of x ∷ tags) y items t name h

pub named_last : (items : List StartTag) (t : StartTag) (name : List ℕ) → slice_get items (length items - 1) ≡ Some t → is_innermost (tags_onto [] items) name ≡ bytes_eq (owned_bytes t.name) name
named_last [] t name h = cc
named_last (x ∷ items) t name h = named_onto [] x items t name (ap (slice_get (x ∷ items)) (omega arith) ∙ h)

swap : (a b c : Bool) → (b || (a || c)) ≡ ((a || b) || c)
swap true true c = refl
swap true false c = refl
swap false b c = refl

or_false : (b : Bool) → (b || false) ≡ b
or_false true = refl
or_false false = refl

abbrev any_tag : List Tag → Bool
any_tag tags = list_any (λ (t : Tag). is_foreign t.name) tags

shut_onto : (tags : List Tag) (x : StartTag) (items : List StartTag) (t : StartTag) (next : Option Tok) → slice_get (x ∷ items) (length items) ≡ Some t
    → is_shut (tags_onto tags (x ∷ items)) next ≡ ((is_void (owned_bytes t.name) || (t.slash && (list_any is_foreign_tag (x ∷ items) || any_tag tags))) || ends_at (owned_bytes t.name) next)
shut_onto tags x [] t next h =
    ap (λ b. (is_void (owned_bytes x.name) || (x.slash && (b || any_tag tags))) || ends_at (owned_bytes x.name) next) (sym (or_false (is_foreign (owned_bytes x.name))))
    ∙ ap (λ (y : StartTag). (is_void (owned_bytes y.name) || (y.slash && (list_any is_foreign_tag (x ∷ []) || any_tag tags))) || ends_at (owned_bytes y.name) next) (some_same h)
  where
    some_same : {a b : StartTag} → Some a ≡ Some b → a ≡ b
    some_same e = cc
shut_onto tags x (y ∷ items) t next h =
    shut_onto (tag_of x ∷ tags) y items t next h
    ∙ ap (λ b. (is_void (owned_bytes t.name) || (t.slash && b)) || ends_at (owned_bytes t.name) next) (swap (is_foreign (owned_bytes x.name)) (list_any is_foreign_tag (y ∷ items)) (any_tag tags))

pub shut_last : (items : List StartTag) (t : StartTag) (next : Option Tok) → slice_get items (length items - 1) ≡ Some t → is_shut (tags_onto [] items) next ≡ (is_single_last items t || ends_at (owned_bytes t.name) next)
shut_last [] t next h = cc
shut_last (x ∷ items) t next h =
    shut_onto [] x items t next (ap (slice_get (x ∷ items)) (omega arith) ∙ h)
    ∙ ap (λ b. (is_void (owned_bytes t.name) || (t.slash && b)) || ends_at (owned_bytes t.name) next) (or_false (list_any is_foreign_tag (x ∷ items)))
