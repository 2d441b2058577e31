-- What stands in a choice: what the loops keep of its compounds and of its members.
use Rattle.std.proofs.Common.{◌≡◌, ℕ, zero, suc, ◌+◌, ◌<◌, ◌≤◌, Bool, true, false, cond, List, [], ◌∷◌, ◌++◌, length, refl, sym, ◌∙◌, ap, subst, arith, append_assoc}
use Rattle.std.specs.Prelude.{◌==◌, ◌≢◌, Option, Some, None}
use Rattle.std.proofs.lemmas.Bool.Decides.{nat_tests}
use Rattle.css_lexer.specs.declared.tokens.CssKind.TheVariants as kind
use Rattle.css_lexer.specs.declared.tokens.CssToken.{CssToken}
use Rattle.css_selectors.specs.declared.selector.Link.{Link}
use Rattle.css_selectors.specs.declared.selector.Link.TheVariants as link
use Rattle.css_parser.specs.declared.pieces.Word.{Word}
use Rattle.css_parser.specs.declared.pieces.Word.TheVariants as word
use Rattle.css_parser.specs.declared.pieces.Form.{Form}
use Rattle.css_parser.specs.declared.pieces.FormsRead.{FormsRead}
use Rattle.css_parser.specs.declared.pieces.Inner.{Inner}
use Rattle.css_parser.specs.declared.pieces.InnerRead.{InnerRead}
use Rattle.css_parser.specs.declared.pieces.InnersRead.{InnersRead}
use Rattle.css_parser.specs.declared.pieces.Member.{Member}
use Rattle.css_parser.specs.declared.pieces.ListRead.{ListRead}
use Rattle.css_parser.specs.declared.pieces.LinkRead.{LinkRead}
use Rattle.css_parser.specs.declared.pieces.ElementRead.{ElementRead}
use Rattle.css_parser.specs.Places.{code_at, stands, skip}
use Rattle.css_parser.specs.Simples.{element}
use Rattle.css_parser.specs.Links.{combinator, sign}
use Rattle.css_parser.specs.Choices.{is_has, Reader, forms_from, inner_read, some_read, inner_with, parts_by, alone, joined, member_of, front, inner_at, further_with, further_at, parts_from, member_at, list_by, list_from, members, simple_by}
use Rattle.css_parser.specs.inner.Reading.{IsBehind, EndsInner, EndsInners, IsFormsRead, Parts}
use Rattle.css_parser.proofs.PlaceLemmas.{skip_order}
use Rattle.css_parser.proofs.ChoiceLemmas.{IsSound, forms_read, some_moves, further_ends, by_ends}

module _ (text : List ℕ) (ts : List CssToken) where
  -- what the code keeps of a compound
  module _ (n : ℕ) (within : Bool) where
    pub inner_moves : (l : Link) (i : ℕ) (r : FormsRead) → i ≤ length ts → IsFormsRead ts (simple_by text ts n within) i r → r.forms ≢ [] → EndsInner ts i (Some (inner_read l false None false r))
    inner_moves l i r low h some = some_moves ts (simple_by text ts n within) (by_ends text ts n within) i r low h some

    pub inner_named : (l : Link) (i : ℕ) (e : ElementRead) (r : FormsRead) → element ts i ≡ Some e → e.end ≤ length ts → IsFormsRead ts (simple_by text ts n within) e.end r → inner_at text ts (simple_by text ts n within) l i ≡ Some (inner_read l true e.name e.prefixed r)
    unfolding inner_at
    inner_named l i e r is low h =
        ap (λ o. inner_with l o (forms_from (simple_by text ts n within) (length ts)) i) is
        ∙ ap (λ x. Some (inner_read l true e.name e.prefixed x)) (forms_read ts (simple_by text ts n within) (by_ends text ts n within) e.end r low h)

    inner_alone : (l : Link) (i : ℕ) (r : FormsRead) → element ts i ≡ None → i ≤ length ts → IsFormsRead ts (simple_by text ts n within) i r → inner_at text ts (simple_by text ts n within) l i ≡ some_read r.forms (inner_read l false None false r)
    unfolding inner_at
    inner_alone l i r is low h =
        ap (λ o. inner_with l o (forms_from (simple_by text ts n within) (length ts)) i) is
        ∙ ap (λ x. some_read x.forms (inner_read l false None false x)) (forms_read ts (simple_by text ts n within) (by_ends text ts n within) i r low h)

    pub no_inner : (l : Link) (i : ℕ) (r : FormsRead) → element ts i ≡ None → i ≤ length ts → IsFormsRead ts (simple_by text ts n within) i r → r.forms ≡ [] → inner_at text ts (simple_by text ts n within) l i ≡ None
    no_inner l i r is low h none = inner_alone l i r is low h ∙ ap (λ xs. some_read xs (inner_read l false None false r)) none

    some_forms : (xs : List Form) (r : InnerRead) → xs ≢ [] → some_read xs r ≡ Some r
    some_forms [] r h = absurd (h refl)
    some_forms (x ∷ xs) r h = refl

    pub inner_forms : (l : Link) (i : ℕ) (r : FormsRead) → element ts i ≡ None → i ≤ length ts → IsFormsRead ts (simple_by text ts n within) i r → r.forms ≢ [] → inner_at text ts (simple_by text ts n within) l i ≡ Some (inner_read l false None false r)
    inner_forms l i r is low h some = inner_alone l i r is low h ∙ some_forms r.forms _ some

  -- the further parts of a relative
  pub after_link : (f : Reader) (i : ℕ) (l : LinkRead) → combinator ts i ≡ Some l → further_at text ts f i ≡ inner_at text ts f l.link l.end
  after_link f i l e = ap (further_with text ts f) e

  pub no_link : (f : Reader) (i : ℕ) → combinator ts i ≡ None → further_at text ts f i ≡ None
  no_link f i e = ap (further_with text ts f) e

  parts_push : (f : Reader) (i j : ℕ) (xs : List Inner) (r : InnerRead) → Parts text ts f i xs j → further_at text ts f j ≡ Some r → Parts text ts f i (xs ++ r.inner ∷ []) r.end
  parts_push f i j [] r h e = (r.end, ap (further_at text ts f) h ∙ e, refl)
  parts_push f i j (y ∷ xs) r h e = (h.0, h.1, parts_push f h.0 j xs r h.2 e)

  pub parts_are : (f : Reader) → IsSound ts f → (m i j : ℕ) (xs : List Inner) → i ≤ length ts → length ts ≤ m + i → Parts text ts f i xs j → further_at text ts f j ≡ None → parts_from text ts f m i ≡ record { inners = xs; end = j }
  parts_are f sound zero i j [] low near h stops = ap (λ n. record { inners = []; end = n }) h
  parts_are f sound zero i j (x ∷ xs) low near h stops = let b : IsBehind ts i h.0 = subst (EndsInner ts i) h.1 (further_ends text ts f sound i low) in let l = b.moves in let w = b.within in absurd (omega arith)
  parts_are f sound (suc m) i j [] low near h stops = ap (parts_by i (parts_from text ts f m)) (ap (further_at text ts f) h ∙ stops) ∙ ap (λ n. record { inners = []; end = n }) h
  parts_are f sound (suc m) i j (x ∷ xs) low near h stops =
      let b : IsBehind ts i h.0 = subst (EndsInner ts i) h.1 (further_ends text ts f sound i low) in
      let l = b.moves in
      ap (parts_by i (parts_from text ts f m)) h.1 ∙ ap (λ (r : InnersRead). read_of (x ∷ r.inners) r.end) (parts_are f sound m h.0 j xs b.within (omega arith) h.2 stops)
    where
      read_of : List Inner → ℕ → InnersRead
      read_of ys n = record { inners = ys; end = n }

-- these are the parts of a relative from the first on up to i
pub record IsJoinedUpTo (text : List ℕ) (ts : List CssToken) (f : Reader) (first : InnerRead) (done : List Inner) (i : ℕ) : Type 0 where
  pub more : List Inner
  pub is : done ≡ first.inner ∷ more
  pub reads : Parts text ts f first.end more i

module _ (text : List ℕ) (ts : List CssToken) (n : ℕ) (within : Bool) (first : InnerRead) where
  pub joined_begun : IsJoinedUpTo text ts (simple_by text ts n within) first (first.inner ∷ []) first.end
  joined_begun = record { more = []; is = refl; reads = refl }

  pub joined_push : (done : List Inner) (i : ℕ) (r : InnerRead) → IsJoinedUpTo text ts (simple_by text ts n within) first done i → further_at text ts (simple_by text ts n within) i ≡ Some r → IsJoinedUpTo text ts (simple_by text ts n within) first (done ++ r.inner ∷ []) r.end
  joined_push done i r h e = record { more = h.more ++ r.inner ∷ []; is = ap (λ xs. xs ++ r.inner ∷ []) h.is; reads = parts_push text ts (simple_by text ts n within) first.end i h.more r h.reads e }

  pub joined_done : (done : List Inner) (i : ℕ) → first.end ≤ length ts → IsJoinedUpTo text ts (simple_by text ts n within) first done i → further_at text ts (simple_by text ts n within) i ≡ None
      → Some (record { inners = done; end = i }) ≡ joined (parts_from text ts (simple_by text ts n within) (length ts)) (Some first)
  joined_done done i low h stops =
      ap (λ xs. Some (read_of xs i)) h.is
      ∙ sym (ap (λ (r : InnersRead). Some (read_of (first.inner ∷ r.inners) r.end)) (parts_are text ts (simple_by text ts n within) (by_ends text ts n within) (length ts) first.end i h.more low (omega arith) h.reads stops))
    where
      read_of : List Inner → ℕ → InnersRead
      read_of xs m = record { inners = xs; end = m }

-- what stands in a choice once
module _ (text : List ℕ) (ts : List CssToken) (f : Reader) (w : Word) (i : ℕ) where
  pub member_has : (r : InnerRead) → is_has w ≡ true → inner_at text ts f (sign ts i).link (sign ts i).end ≡ Some r → member_at text ts f w i ≡ joined (parts_from text ts f (length ts)) (Some r)
  unfolding member_at
  member_has r h e = by_word w h
    where
      by_word : (v : Word) → is_has v ≡ true → member_at text ts f v i ≡ joined (parts_from text ts f (length ts)) (Some r)
      by_word word.Has h = ap (joined (parts_from text ts f (length ts))) e
      by_word word.Is h = cc
      by_word word.Where h = cc
      by_word word.Not h = cc

  pub no_has : is_has w ≡ true → inner_at text ts f (sign ts i).link (sign ts i).end ≡ None → member_at text ts f w i ≡ None
  unfolding member_at
  no_has h e = by_word w h
    where
      by_word : (v : Word) → is_has v ≡ true → member_at text ts f v i ≡ None
      by_word word.Has h = ap (joined (parts_from text ts f (length ts))) e
      by_word word.Is h = cc
      by_word word.Where h = cc
      by_word word.Not h = cc

  other : (o : Option InnerRead) → is_has w ≡ false → inner_at text ts f link.First i ≡ o → member_at text ts f w i ≡ alone o
  unfolding member_at
  other o h e = by_word w h
    where
      by_word : (v : Word) → is_has v ≡ false → member_at text ts f v i ≡ alone o
      by_word word.Has h = cc
      by_word word.Is h = ap alone e
      by_word word.Where h = ap alone e
      by_word word.Not h = ap alone e

  pub member_other : (r : InnerRead) → is_has w ≡ false → inner_at text ts f link.First i ≡ Some r → member_at text ts f w i ≡ Some (record { inners = r.inner ∷ []; end = r.end })
  member_other r h e = other (Some r) h e

  pub no_other : is_has w ≡ false → inner_at text ts f link.First i ≡ None → member_at text ts f w i ≡ None
  no_other h e = other None h e

abbrev pub before : List Member → Option ListRead → Option ListRead
before xs None = None
before xs (Some r) = Some (record { list = xs ++ r.list; end = r.end })

before_front : (xs : List Member) (x : Member) (o : Option ListRead) → before xs (front x o) ≡ before (xs ++ x ∷ []) o
before_front xs x None = refl
before_front xs x (Some r) = ap (λ ys. Some (list_of ys r.end)) (sym (append_assoc xs (x ∷ []) r.list))
  where
    list_of : List Member → ℕ → ListRead
    list_of ys n = record { list = ys; end = n }

before_none : (o : Option ListRead) → o ≡ before [] o
before_none None = refl
before_none (Some r) = refl

-- the members from a place on are these, and then what is read from i on
pub record IsListUpTo (text : List ℕ) (ts : List CssToken) (f : Reader) (w : Word) (from : ℕ) (done : List Member) (i : ℕ) : Type 0 where
  pub more : ℕ
  pub enough : length ts ≤ more + i
  pub same : members text ts f w from ≡ before done (list_from text ts f w more i)

module _ (text : List ℕ) (ts : List CssToken) (f : Reader) (w : Word) (from : ℕ) where
  pub list_begun : IsListUpTo text ts f w from [] from
  list_begun = record { more = length ts; enough = omega arith; same = before_none (members text ts f w from) }

  none_from : (m i : ℕ) → member_at text ts f w (skip ts i) ≡ None → list_from text ts f w m i ≡ None
  none_from zero i e = refl
  none_from (suc m) i e = ap (list_by text ts (list_from text ts f w m)) e

  pub list_none : (done : List Member) (i : ℕ) → IsListUpTo text ts f w from done i → member_at text ts f w (skip ts i) ≡ None → members text ts f w from ≡ None
  list_none done i h e = h.same ∙ ap (before done) (none_from h.more i e)

  -- one member more
  step : (m i : ℕ) (r : InnersRead) → length ts ≤ m + i → i < length ts → member_at text ts f w (skip ts i) ≡ Some r
      → (k : ℕ) × (m ≡ k + 1) × (list_from text ts f w m i ≡ list_by text ts (list_from text ts f w k) (Some r))
  step zero i r near l e = absurd (omega arith)
  step (suc k) i r near l e = (k, omega arith, ap (list_by text ts (list_from text ts f w k)) e)

  pub list_last : (done : List Member) (i : ℕ) (r : InnersRead) → IsListUpTo text ts f w from done i → i < length ts → member_at text ts f w (skip ts i) ≡ Some r → stands kind.CloseRound ts (skip ts r.end) ≡ true
      → members text ts f w from ≡ Some (record { list = done ++ member_of r.inners ∷ []; end = skip ts r.end + 1 })
  list_last done i r h l e c =
      let s = step h.more i r h.enough l e in
      h.same ∙ ap (before done) (s.2 ∙ ap (λ b. cond b (Some (record { list = member_of r.inners ∷ []; end = skip ts r.end + 1 })) (cond (stands kind.Comma ts (skip ts r.end)) (front (member_of r.inners) (list_from text ts f w s.0 (skip ts r.end + 1))) None)) c)

  not_close : (n : ℕ) → (n == 19) ≡ true → (n == 18) ≡ false
  not_close n e = grind (arith, nat_tests)

  by_tests : (k : ℕ) (r : InnersRead) (b c : Bool) → Option ListRead
  by_tests k r b c = cond b (Some (record { list = member_of r.inners ∷ []; end = skip ts r.end + 1 })) (cond c (front (member_of r.inners) (list_from text ts f w k (skip ts r.end + 1))) None)

  pub list_strange : (done : List Member) (i : ℕ) (r : InnersRead) → IsListUpTo text ts f w from done i → i < length ts → member_at text ts f w (skip ts i) ≡ Some r → stands kind.CloseRound ts (skip ts r.end) ≡ false → stands kind.Comma ts (skip ts r.end) ≡ false
      → members text ts f w from ≡ None
  unfolding by_tests
  list_strange done i r h l e c d =
      let s = step h.more i r h.enough l e in
      h.same ∙ ap (before done) (s.2 ∙ ap (λ b. by_tests s.0 r b (stands kind.Comma ts (skip ts r.end))) c ∙ ap (by_tests s.0 r false) d)

  pub list_more : (done : List Member) (i : ℕ) (r : InnersRead) → IsListUpTo text ts f w from done i → i < length ts → i < r.end → member_at text ts f w (skip ts i) ≡ Some r → stands kind.Comma ts (skip ts r.end) ≡ true
      → IsListUpTo text ts f w from (done ++ member_of r.inners ∷ []) (skip ts r.end + 1)
  unfolding by_tests
  list_more done i r h l moves e d =
      let s = step h.more i r h.enough l e in
      let near = h.enough in
      let few = s.1 in
      record {
        more = s.0;
        enough = omega (arith, skip_order ts r.end);
        same = h.same
            ∙ ap (before done) (s.2 ∙ ap (λ b. by_tests s.0 r b (stands kind.Comma ts (skip ts r.end))) (not_close (code_at ts (skip ts r.end)) d) ∙ ap (by_tests s.0 r false) d)
            ∙ before_front done (member_of r.inners) (list_from text ts f w s.0 (skip ts r.end + 1));
      }

  -- the same in the words of the loop
  inside : (i start : ℕ) (o : Option InnersRead) (r : InnersRead) → i ≤ length ts → start ≡ skip ts i → EndsInners ts start o → o ≡ Some r → i < length ts
  inside i start o r low s ends e =
      let b : IsBehind ts start r.end = subst (EndsInners ts start) e ends in
      let m = b.moves in
      let w = b.within in
      omega (arith, skip_order ts i)

  pub list_closed : (done : List Member) (i : ℕ) (r : InnersRead) (start : ℕ) (o : Option InnersRead) (behind : ℕ) (pushed : List Member)
      → IsListUpTo text ts f w from done i → i ≤ length ts → start ≡ skip ts i → o ≡ member_at text ts f w start → EndsInners ts start o → o ≡ Some r → behind ≡ skip ts r.end
      → stands kind.CloseRound ts behind ≡ true → pushed ≡ done ++ member_of r.inners ∷ [] → Some (record { list = pushed; end = behind + 1 }) ≡ members text ts f w from
  list_closed done i r start o behind pushed h low s at ends e d c p =
      ap (λ xs. read_of xs (behind + 1)) p ∙ ap (λ n. read_of (done ++ member_of r.inners ∷ []) (n + 1)) d
      ∙ sym (list_last done i r h (inside i start o r low s ends e) (ap (member_at text ts f w) (sym s) ∙ sym at ∙ e) (ap (stands kind.CloseRound ts) (sym d) ∙ c))
    where
      read_of : List Member → ℕ → Option ListRead
      read_of xs n = Some (record { list = xs; end = n })

  pub list_cut : (done : List Member) (i : ℕ) (r : InnersRead) (start : ℕ) (o : Option InnersRead) (behind : ℕ)
      → IsListUpTo text ts f w from done i → i ≤ length ts → start ≡ skip ts i → o ≡ member_at text ts f w start → EndsInners ts start o → o ≡ Some r → behind ≡ skip ts r.end
      → stands kind.CloseRound ts behind ≡ false → stands kind.Comma ts behind ≡ false → None ≡ members text ts f w from
  list_cut done i r start o behind h low s at ends e d c g =
      sym (list_strange done i r h (inside i start o r low s ends e) (ap (member_at text ts f w) (sym s) ∙ sym at ∙ e) (ap (stands kind.CloseRound ts) (sym d) ∙ c) (ap (stands kind.Comma ts) (sym d) ∙ g))
