-- Compounds and selectors, as long as they go.
use Rattle.std.proofs.Common.{◌≡◌, ℕ, ◌+◌, ◌<◌, ◌≤◌, Bool, true, false, List, [], ◌∷◌, ◌++◌, length, refl, sym, ◌∙◌, ap, subst, arith, cond, eqb-true}
use Rattle.std.proofs.lemmas.Bool.Decides.{nat_tests}
use Rattle.std.proofs.lemmas.Bool.{cases_lt}
use Rattle.std.proofs.Common.{inl, inr}
use Rattle.std.specs.Prelude.{◌==◌, ◌≢◌, Option, Some, None, nat_lt}
use Rattle.css_selectors.specs.declared.selector.Link.{Link}
use Rattle.css_selectors.specs.declared.selector.Link.TheVariants as link
use Rattle.css_lexer.specs.declared.tokens.CssKind.TheVariants as kind
use Rattle.css_lexer.specs.declared.tokens.CssToken.{CssToken}
use Rattle.css_parser.specs.declared.pieces.Form.{Form}
use Rattle.css_parser.specs.declared.pieces.FormRead.{FormRead}
use Rattle.css_parser.specs.declared.pieces.Compound.{Compound}
use Rattle.css_parser.specs.declared.pieces.ElementRead.{ElementRead}
use Rattle.css_parser.specs.declared.pieces.FormsRead.{FormsRead}
use Rattle.css_parser.specs.declared.pieces.CompoundRead.{CompoundRead}
use Rattle.css_parser.specs.declared.pieces.LinkRead.{LinkRead}
use Rattle.css_parser.specs.Places.{code_at, stands, skip, is_name}
use Rattle.css_parser.specs.Simples.{past_prefix, name_at, element, piece_at}
use Rattle.css_parser.specs.Choices.{simple, form_read, simple_by, word_at}
use Rattle.css_parser.specs.Grammar.{Simples, HasElement, past_element, IsCompound, Further, IsSelector}
use Rattle.css_parser.specs.Links.{linked, combinator}
use Rattle.css_parser.specs.inner.Reading.{NoCompound, NoFurther, IsEnd, IsFormsRead, IsWholeCompound, IsLinked}
use Rattle.css_parser.proofs.PlaceLemmas.{skip_stop, code_end}

module _ (text : List ℕ) (ts : List CssToken) where
  -- two readings of which neither goes on are one
  pub record SameForms (xs ys : List Form) (j k : ℕ) : Type 0 where
    pub forms : xs ≡ ys
    pub end : j ≡ k

  no_read : {A : Type 0} (i : ℕ) (x : Form) (k : ℕ) → simple text ts i ≡ Some (form_read x k) → simple text ts i ≡ None → A
  no_read i x k e f = let g : Some (form_read x k) ≡ None = sym e ∙ f in cc

  cons_same : (x y : Form) (xs ys : List Form) → x ≡ y → xs ≡ ys → x ∷ xs ≡ y ∷ ys
  cons_same x y xs ys e f = cc

  read_same : (r s : FormRead) → Some r ≡ Some s → r ≡ s
  read_same r s e = cc

  forms_same : (i j k : ℕ) (xs ys : List Form) → Simples text ts i xs j → Simples text ts i ys k → simple text ts j ≡ None → simple text ts k ≡ None → SameForms xs ys j k
  forms_same i j k [] [] h g e f = record { forms = refl; end = sym h ∙ g }
  forms_same i j k [] (y ∷ ys) h g e f = no_read i y g.0 g.1 (ap (simple text ts) h ∙ e)
  forms_same i j k (x ∷ xs) [] h g e f = no_read i x h.0 h.1 (ap (simple text ts) g ∙ f)
  forms_same i j k (x ∷ xs) (y ∷ ys) h g e f =
      let both = read_same (form_read x h.0) (form_read y g.0) (sym h.1 ∙ g.1) in
      let rest = forms_same h.0 j k xs ys h.2 (subst (λ n. Simples text ts n ys k) (sym (ap (λ r. r.end) both)) g.2) e f in
      record { forms = cons_same x y xs ys (ap (λ r. r.form) both) rest.forms; end = rest.end }

  -- a compound of its element and what stands behind
  pub with_element : (i : ℕ) (l : Link) (e : ElementRead) (r : FormsRead) → element ts i ≡ Some e → i < e.end → IsFormsRead ts (simple text ts) e.end r
      → IsWholeCompound text ts l i (record { compound = record { link = l; element = e.name; prefixed = e.prefixed; forms = r.forms }; end = r.end })
  with_element i l e r is moves h = let order = h.order in record {
    link = refl;
    is = record {
      begins = subst (λ o. HasElement o (record { link = l; element = e.name; prefixed = e.prefixed; forms = r.forms })) (sym is) (refl, refl);
      simples = subst (λ o. Simples text ts (past_element o i) r.forms r.end) (sym is) h.reads;
    };
    stops = h.stops;
    order = omega arith;
    within = h.within;
  }

  some_forms : (i j : ℕ) (xs : List Form) → Simples text ts i xs j → xs ≢ [] → i ≤ j → simple text ts j ≡ None → i < j
  some_forms i j [] h some le stops = absurd (some refl)
  some_forms i j (x ∷ xs) h some le stops = strict (λ e. no_read i x h.0 h.1 (ap (simple text ts) e ∙ stops)) le
    where
      strict : (i ≡ j → ⊥) → i ≤ j → i < j
      strict other low = elim (cases_lt i j) [ inl l ↦ l | inr l ↦ absurd (other (omega arith)) ]

  pub without_element : (i : ℕ) (l : Link) (r : FormsRead) → element ts i ≡ None → r.forms ≢ [] → IsFormsRead ts (simple text ts) i r
      → IsWholeCompound text ts l i (record { compound = record { link = l; element = None; prefixed = false; forms = r.forms }; end = r.end })
  without_element i l r is some h = record {
    link = refl;
    is = record {
      begins = subst (λ o. HasElement o (record { link = l; element = None; prefixed = false; forms = r.forms })) (sym is) (refl, refl, some);
      simples = subst (λ o. Simples text ts (past_element o i) r.forms r.end) (sym is) h.reads;
    };
    stops = h.stops;
    order = some_forms i r.end r.forms h.reads some h.order h.stops;
    within = h.within;
  }

  -- where neither an element nor a simple selector stands, no compound does
  pub no_compound : (i : ℕ) → element ts i ≡ None → simple text ts i ≡ None → NoCompound text ts i
  no_compound i e f c j h =
      no_forms c.forms (subst (λ o. HasElement o c) e h.begins).2 (subst (λ o. Simples text ts (past_element o i) c.forms j) e h.simples)
    where
      no_forms : (xs : List Form) → xs ≢ [] → Simples text ts i xs j → ⊥
      no_forms [] some g = some refl
      no_forms (x ∷ xs) some g = no_read i x g.0 g.1 f

  pub nothing : (i : ℕ) (r : FormsRead) → element ts i ≡ None → r.forms ≡ [] → IsFormsRead ts (simple text ts) i r → NoCompound text ts i
  nothing i r e none h =
      let at : i ≡ r.end = subst (λ xs. Simples text ts i xs r.end) none h.reads in
      no_compound i e (ap (simple text ts) at ∙ h.stops)

  -- two compounds at a place, neither of which goes on, are one
  pub record SameCompound (c d : Compound) (j k : ℕ) : Type 0 where
    pub compound : c ≡ d
    pub end : j ≡ k

  compound_is : (c d : Compound) → c.link ≡ d.link → c.element ≡ d.element → c.prefixed ≡ d.prefixed → c.forms ≡ d.forms → c ≡ d
  compound_is c d e f g h =
      let P : Link → Option (List ℕ) → Bool → List Form → Compound = λ l n p xs. record { link = l; element = n; prefixed = p; forms = xs } in
      ap (λ l. P l c.element c.prefixed c.forms) e ∙ ap (λ n. P d.link n c.prefixed c.forms) f ∙ ap (λ p. P d.link d.element p c.forms) g ∙ ap (λ xs. P d.link d.element d.prefixed xs) h

  pub compounds_same : (i j k : ℕ) (c d : Compound) → c.link ≡ d.link → IsCompound text ts i c j → IsCompound text ts i d k → simple text ts j ≡ None → simple text ts k ≡ None → SameCompound c d j k
  compounds_same i j k c d e h g f s =
      let same = forms_same (past_element (element ts i) i) j k c.forms d.forms h.simples g.simples f s in
      record { compound = by_element (element ts i) h.begins g.begins same.forms; end = same.end }
    where
      by_element : (o : Option ElementRead) → HasElement o c → HasElement o d → c.forms ≡ d.forms → c ≡ d
      by_element None a b x = compound_is c d e (a.0 ∙ sym b.0) (a.1 ∙ sym b.1) x
      by_element (Some r) a b x = compound_is c d e (a.0 ∙ sym b.0) (a.1 ∙ sym b.1) x

  -- the tokens that no simple selector begins with
  quiet_space : (i : ℕ) → code_at ts i ≡ 1 → simple text ts i ≡ None
  unfolding simple_by word_at piece_at
  quiet_space i e = rw e refl

  quiet_plus : (i : ℕ) → code_at ts i ≡ 20 → simple text ts i ≡ None
  unfolding simple_by word_at piece_at
  quiet_plus i e = rw e refl

  quiet_greater : (i : ℕ) → code_at ts i ≡ 21 → simple text ts i ≡ None
  unfolding simple_by word_at piece_at
  quiet_greater i e = rw e refl

  quiet_tilde : (i : ℕ) → code_at ts i ≡ 22 → simple text ts i ≡ None
  unfolding simple_by word_at piece_at
  quiet_tilde i e = rw e refl

  pub quiet_comma : (i : ℕ) → code_at ts i ≡ 19 → simple text ts i ≡ None
  unfolding simple_by word_at piece_at
  quiet_comma i e = rw e refl

  pub quiet_end : (i : ℕ) → code_at ts i ≡ 0 → simple text ts i ≡ None
  unfolding simple_by word_at piece_at
  quiet_end i e = rw e refl

  kind_is : (i n : ℕ) → (code_at ts i == n) ≡ true → code_at ts i ≡ n
  kind_is i n h = eqb-true (code_at ts i) n h

  abbrev link_by : ℕ → ℕ → Option LinkRead
  link_by i j = cond (stands kind.Greater ts j) (Some (linked ts link.Child (j + 1)))
      (cond (stands kind.Plus ts j) (Some (linked ts link.Next (j + 1)))
      (cond (stands kind.Tilde ts j) (Some (linked ts link.Later (j + 1)))
      (cond (nat_lt i j) (Some (linked ts link.Descendant i)) None)))

  combinator_by : (i : ℕ) → combinator ts i ≡ link_by i (skip ts i)
  unfolding combinator
  combinator_by i = refl

  no_move : (i : ℕ) → cond (nat_lt i i) (Some (linked ts link.Descendant i)) None ≡ None
  no_move i = ap (λ v. cond v (Some (linked ts link.Descendant i)) None) (let f : nat_lt i i ≡ false = grind (arith, nat_tests) in f)

  no_link : {A : Type 0} (i : ℕ) (r : LinkRead) → combinator ts i ≡ None → combinator ts i ≡ Some r → A
  no_link i r e f = let g : None ≡ Some r = sym e ∙ f in cc

  -- where a combinator stands no simple selector does
  pub combinator_quiet : (i : ℕ) (r : LinkRead) → combinator ts i ≡ Some r → simple text ts i ≡ None
  combinator_quiet i r e = by_space (stands kind.Space ts i) refl
    where
      by_sign : (g p t : Bool) → stands kind.Greater ts i ≡ g → stands kind.Plus ts i ≡ p → stands kind.Tilde ts i ≡ t → skip ts i ≡ i → simple text ts i ≡ None
      by_sign true p t a b c s = quiet_greater i (kind_is i 21 a)
      by_sign false true t a b c s = quiet_plus i (kind_is i 20 b)
      by_sign false false true a b c s = quiet_tilde i (kind_is i 22 c)
      by_sign false false false a b c s =
          let none : link_by i i ≡ None = rw a (rw b (rw c (no_move i))) in
          no_link i r (combinator_by i ∙ ap (link_by i) s ∙ none) e

      by_space : (b : Bool) → stands kind.Space ts i ≡ b → simple text ts i ≡ None
      by_space true h = quiet_space i (kind_is i 1 h)
      by_space false h = by_sign _ _ _ refl refl refl (skip_stop ts i h)

  pub no_combinator : (i : ℕ) → combinator ts i ≡ None → NoFurther text ts i
  no_combinator i e r f = no_link i r e f

  same_link : (r l : LinkRead) → Some r ≡ Some l → r ≡ l
  same_link r l e = cc

  pub no_after : (i : ℕ) (l : LinkRead) → combinator ts i ≡ Some l → NoCompound text ts l.end → NoFurther text ts i
  no_after i l e h r f = subst (λ x. NoCompound text ts x.end) (same_link l r (sym e ∙ f)) h

  pub after_combinator : (i : ℕ) (l : LinkRead) (r : CompoundRead) → combinator ts i ≡ Some l → i < l.end → IsWholeCompound text ts l.link l.end r → IsLinked text ts i r
  after_combinator i l r e moves h = let order = h.order in record {
    place = l.end;
    combines = e ∙ ap (λ x. Some (read_at x l.end)) (sym h.link);
    is = h.is;
    stops = h.stops;
    order = omega arith;
    within = h.within;
  }
    where
      read_at : Link → ℕ → LinkRead
      read_at x n = record { link = x; end = n }

  pub selector_begun : (i : ℕ) (r : CompoundRead) → IsWholeCompound text ts link.First i r → IsSelector text ts i (r.compound ∷ []) r.end
  selector_begun i r h = (r.end, h.link, h.is, refl)

  further_push : (i j k m : ℕ) (cs : List Compound) (c : Compound) → Further text ts i cs j → combinator ts j ≡ Some (record { link = c.link; end = k }) → IsCompound text ts k c m → Further text ts i (cs ++ c ∷ []) m
  further_push i j k m [] c h e g = (k, m, ap (combinator ts) h ∙ e, g, refl)
  further_push i j k m (d ∷ cs) c h e g = (h.0, h.1, h.2, h.3, further_push h.1 j k m cs c h.4 e g)

  pub selector_push : (i j : ℕ) (cs : List Compound) (r : CompoundRead) → IsSelector text ts i cs j → IsLinked text ts j r → IsSelector text ts i (cs ++ r.compound ∷ []) r.end
  selector_push i j [] r h g = absurd h
  selector_push i j (c ∷ cs) r h g = (h.0, h.1, h.2, further_push h.0 j g.place r.end cs r.compound h.3 g.combines g.is)

  further_stops : (i j : ℕ) (cs : List Compound) → Further text ts i cs j → simple text ts j ≡ None → simple text ts i ≡ None
  further_stops i j [] h e = ap (simple text ts) h ∙ e
  further_stops i j (c ∷ cs) h e = combinator_quiet i _ h.2

  -- two selectors at a place, neither of which goes on, are one
  pub record SameSelector (cs ds : List Compound) (j k : ℕ) : Type 0 where
    pub compounds : cs ≡ ds
    pub end : j ≡ k

  more_same : (c d : Compound) (cs ds : List Compound) → c ≡ d → cs ≡ ds → c ∷ cs ≡ d ∷ ds
  more_same c d cs ds e f = cc

  further_same : (i j k : ℕ) (cs ds : List Compound) → Further text ts i cs j → Further text ts i ds k → IsEnd text ts j → IsEnd text ts k → SameSelector cs ds j k
  further_same i j k [] [] h g a b = record { compounds = refl; end = sym h ∙ g }
  further_same i j k [] (d ∷ ds) h g a b = absurd (a.no_further _ (ap (combinator ts) (sym h) ∙ g.2) d g.1 g.3)
  further_same i j k (c ∷ cs) [] h g a b = absurd (b.no_further _ (ap (combinator ts) (sym g) ∙ h.2) c h.1 h.3)
  further_same i j k (c ∷ cs) (d ∷ ds) h g a b =
      let both = same_link _ _ (sym h.2 ∙ g.2) in
      let first = compounds_same h.0 h.1 g.1 c d (ap (λ x. x.link) both) h.3 (subst (λ n. IsCompound text ts n d g.1) (sym (ap (λ x. x.end) both)) g.3)
      (further_stops h.1 j cs h.4 a.no_simple) (further_stops g.1 k ds g.4 b.no_simple) in
      let rest = further_same h.1 j k cs ds h.4 (subst (λ n. Further text ts n ds k) (sym first.end) g.4) a b in
      record { compounds = more_same c d cs ds first.compound rest.compounds; end = rest.end }

  pub selector_same : (i j k : ℕ) (cs ds : List Compound) → IsSelector text ts i cs j → IsSelector text ts i ds k → IsEnd text ts j → IsEnd text ts k → SameSelector cs ds j k
  selector_same i j k [] ds h g a b = absurd h
  selector_same i j k (c ∷ cs) [] h g a b = absurd g
  selector_same i j k (c ∷ cs) (d ∷ ds) h g a b =
      let first = compounds_same i h.0 g.0 c d (h.1 ∙ sym g.1) h.2 g.2 (further_stops h.0 j cs h.3 a.no_simple) (further_stops g.0 k ds g.3 b.no_simple) in
      let rest = further_same h.0 j k cs ds h.3 (subst (λ n. Further text ts n ds k) (sym first.end) g.3) a b in
      record { compounds = more_same c d cs ds first.compound rest.compounds; end = rest.end }

  -- behind a selector and S stands `,` or nothing
  abbrev element_by : ℕ → ℕ → Option ElementRead
  element_by i j = cond (is_name ts j) (Some (record { name = name_at ts j; prefixed = nat_lt i j; end = j + 1 })) None

  element_is : (i : ℕ) → element ts i ≡ element_by i (past_prefix ts i)
  unfolding element
  element_is i = refl

  prefix_comma : (i : ℕ) → code_at ts i ≡ 19 → past_prefix ts i ≡ i
  prefix_comma i e = rw e refl

  prefix_end : (i : ℕ) → code_at ts i ≡ 0 → past_prefix ts i ≡ i
  prefix_end i e = rw e refl

  no_element : (i : ℕ) → is_name ts i ≡ false → past_prefix ts i ≡ i → element ts i ≡ None
  no_element i f p = element_is i ∙ ap (element_by i) p ∙ ap (λ v. cond v (Some (record { name = name_at ts i; prefixed = nat_lt i i; end = i + 1 })) None) f

  element_comma : (i : ℕ) → code_at ts i ≡ 19 → element ts i ≡ None
  element_comma i e = no_element i (rw e refl) (prefix_comma i e)

  element_end : (i : ℕ) → code_at ts i ≡ 0 → element ts i ≡ None
  element_end i e = no_element i (rw e refl) (prefix_end i e)

  combinator_comma : (i : ℕ) → code_at ts (skip ts i) ≡ 19 → combinator ts i ≡ cond (nat_lt i (skip ts i)) (Some (linked ts link.Descendant i)) None
  combinator_comma i e = combinator_by i ∙ rw e refl

  combinator_end : (i : ℕ) → code_at ts (skip ts i) ≡ 0 → combinator ts i ≡ cond (nat_lt i (skip ts i)) (Some (linked ts link.Descendant i)) None
  combinator_end i e = combinator_by i ∙ rw e refl

  descends : (i : ℕ) (b : Bool) (r : LinkRead) → cond b (Some (linked ts link.Descendant i)) None ≡ Some r → r.end ≡ skip ts i
  descends i true r e = ap (λ x. x.end) (sym (same_link (linked ts link.Descendant i) r e))
  descends i false r e = cc

  end_where : (i : ℕ) → simple text ts (skip ts i) ≡ None → element ts (skip ts i) ≡ None → combinator ts i ≡ cond (nat_lt i (skip ts i)) (Some (linked ts link.Descendant i)) None → IsEnd text ts i
  end_where i e f g = record {
    no_simple = by_space (stands kind.Space ts i) refl;
    no_further = λ r h. subst (NoCompound text ts) (sym (descends i (nat_lt i (skip ts i)) r (sym g ∙ h))) (no_compound (skip ts i) f e);
  }
    where
      by_space : (b : Bool) → stands kind.Space ts i ≡ b → simple text ts i ≡ None
      by_space true h = quiet_space i (kind_is i 1 h)
      by_space false h = ap (simple text ts) (sym (skip_stop ts i h)) ∙ e

  pub end_at_comma : (i : ℕ) → stands kind.Comma ts (skip ts i) ≡ true → IsEnd text ts i
  end_at_comma i h = let e = kind_is (skip ts i) 19 h in end_where i (quiet_comma (skip ts i) e) (element_comma (skip ts i) e) (combinator_comma i e)

  pub end_at_last : (i : ℕ) → skip ts i ≡ length ts → IsEnd text ts i
  end_at_last i h = let e = code_end ts (skip ts i) (omega arith) in end_where i (quiet_end (skip ts i) e) (element_end (skip ts i) e) (combinator_end i e)
