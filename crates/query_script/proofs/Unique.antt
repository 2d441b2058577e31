-- A script reads as one list of fields at most.
use Rattle.std.proofs.Common.{◌≡◌, ℕ, Bool, true, List, [], ◌∷◌, refl, sym, ◌∙◌, ap, subst, arith, inl, inr, ◌⊎◌}
use Rattle.text_base.specs.declared.reasons.ScriptFault.{ScriptFault}
use Rattle.text_base.specs.declared.reasons.ScriptFault.TheVariants as script
use Rattle.test_registry.specs.Names.{Known}
use Rattle.css_selectors.specs.declared.selector.Dialect.{Dialect}
use Rattle.xpath_parser.specs.Laws.{NeverBoth}
use Rattle.query_script.specs.declared.script.Chain.{Chain}
use Rattle.query_script.specs.declared.script.Chain.TheVariants as chain
use Rattle.query_script.specs.declared.script.ChainStep.{ChainStep}
use Rattle.query_script.specs.declared.script.Field.{Field}
use Rattle.query_script.specs.declared.script.Reason.{Reason}
use Rattle.query_script.specs.declared.script.Reason.TheVariants as reason
use Rattle.query_script.specs.declared.script.Take.{Take}
use Rattle.query_script.specs.declared.steps.RawStep.{RawStep}
use Rattle.query_script.specs.Names.{after_colon}
use Rattle.query_script.specs.Steps.{IsChainText}
use Rattle.query_script.specs.Queries.{IsKept, AreKept, IsRefused, IsFirstRefusal}
use Rattle.query_script.specs.Fields.{IsNoChain, IsRefusedChain, IsAccepted, IsChain, IsUnnamedField, IsNamedField, IsFieldOver, AreFields, IsScriptOver, IsScriptFault}
use Rattle.query_script.proofs.ChainLemmas.{chain_complete}
use Rattle.query_script.proofs.OneStep.{one_kept, one_refused, kept_or_refused}

-- ---- steps

record IsSame (steps others : List RawStep) (take end : Take) : Type 0 where
  pub steps_same : steps ≡ others
  pub take_same : take ≡ end

same_text : (text : List ℕ) (steps others : List RawStep) (take end : Take) → IsChainText text steps take → IsChainText text others end → IsSame steps others take end
same_text text steps others take end h g =
    let a = chain_complete text steps take h in
    let b = chain_complete text others end g in
    let pair : ◌≡◌ {A = List RawStep × Take} (steps, take) (others, end) = cc in
    record { steps_same = ap (λ p. p.0) pair; take_same = ap (λ p. p.1) pair }

-- what the text after a name reads as, by which of the three it is
data Reading (tests : Known) (d : Dialect) (text : List ℕ) (c : Chain) : Type 0 where
  none : c ≡ chain.Refused reason.Chain → IsNoChain text → Reading tests d text c
  refused : (why : Reason) → c ≡ chain.Refused why → IsRefusedChain tests d text why → Reading tests d text c
  accepted : (kept : List ChainStep) (take : Take) → c ≡ chain.Steps kept take → IsAccepted tests d text kept take → Reading tests d text c

module _ (tests : Known) (d : Dialect) where
  -- a step is refused here or later
  abbrev Place : Bool → RawStep → List RawStep → Reason → Type 0
  Place nodes r steps why =
      IsRefused tests d nodes r why ⊎ ((t : ChainStep) × ((after : Bool) × (IsKept tests d nodes r t after × IsFirstRefusal tests d after steps why)))

  reading : (text : List ℕ) (c : Chain) → IsChain tests d text c → Reading tests d text c
  reading text (chain.Steps kept take) h = accepted kept take refl h
  reading text (chain.Refused reason.Name) h = absurd h
  reading text (chain.Refused reason.Chain) h = none refl h
  reading text (chain.Refused reason.Order) h = refused reason.Order refl h
  reading text (chain.Refused reason.Test) h = refused reason.Test refl h
  reading text (chain.Refused reason.Block) h = refused reason.Block refl h
  reading text (chain.Refused reason.Twice) h = refused reason.Twice refl h
  reading text (chain.Refused reason.Selection) h = refused reason.Selection refl h
  reading text (chain.Refused reason.Output) h = refused reason.Output refl h
  reading text (chain.Refused reason.Pattern) h = refused reason.Pattern refl h
  reading text (chain.Refused (reason.Css f)) h = refused (reason.Css f) refl h
  reading text (chain.Refused (reason.XPath f)) h = refused (reason.XPath f) refl h

  module _ (never_both : NeverBoth) where
    one_keeping : (nodes : Bool) (steps : List RawStep) (kept other : List ChainStep) → AreKept tests d nodes steps kept → AreKept tests d nodes steps other → kept ≡ other
    one_keeping nodes [] [] [] h g = refl
    one_keeping nodes [] [] (t ∷ other) h g = absurd g
    one_keeping nodes [] (s ∷ kept) other h g = absurd h
    one_keeping nodes (r ∷ steps) [] other h g = absurd h
    one_keeping nodes (r ∷ steps) (s ∷ kept) [] h g = absurd g
    one_keeping nodes (r ∷ steps) (s ∷ kept) (t ∷ other) h g =
        let first = one_kept tests d nodes r s t h.0 g.0 h.1.0 g.1.0 in
        let P : Bool → Type 0 = λ b. AreKept tests d b steps other in
        let rest : kept ≡ other = one_keeping h.0 steps kept other h.1.1 (subst P (sym first.1) g.1.1) in
        cc

    not_both : (nodes : Bool) (steps : List RawStep) (kept : List ChainStep) (why : Reason) → AreKept tests d nodes steps kept → IsFirstRefusal tests d nodes steps why → ⊥
    not_both nodes [] kept why h g = g
    not_both nodes (r ∷ steps) [] why h g = h
    not_both nodes (r ∷ steps) (s ∷ kept) why h g = by_place (λ q. not_both h.0 steps kept why h.1.1 q) g
      where
        by_place : (IsFirstRefusal tests d h.0 steps why → ⊥) → Place nodes r steps why → ⊥
        by_place go (inl here) = kept_or_refused tests d never_both nodes r s h.0 why h.1.0 here
        by_place go (inr later) =
            let same = one_kept tests d nodes r s later.0 h.0 later.1.0 h.1.0 later.1.1.0 in
            let P : Bool → Type 0 = λ b. IsFirstRefusal tests d b steps why in
            go (subst P (sym same.1) later.1.1.1)

    one_refusal : (nodes : Bool) (steps : List RawStep) (why other : Reason) → IsFirstRefusal tests d nodes steps why → IsFirstRefusal tests d nodes steps other → why ≡ other
    one_refusal nodes [] why other h g = absurd h
    one_refusal nodes (r ∷ steps) why other h g = by_both (λ b p q. one_refusal b steps why other p q) h g
      where
        by_both : ((b : Bool) → IsFirstRefusal tests d b steps why → IsFirstRefusal tests d b steps other → why ≡ other) → Place nodes r steps why → Place nodes r steps other → why ≡ other
        by_both go (inl here) (inl there) = one_refused tests d nodes r why other here there
        by_both go (inl here) (inr later) = absurd (kept_or_refused tests d never_both nodes r later.0 later.1.0 why later.1.1.0 here)
        by_both go (inr later) (inl here) = absurd (kept_or_refused tests d never_both nodes r later.0 later.1.0 other later.1.1.0 here)
        by_both go (inr a) (inr b) =
            let same = one_kept tests d nodes r a.0 b.0 a.1.0 b.1.0 a.1.1.0 b.1.1.0 in
            let P : Bool → Type 0 = λ x. IsFirstRefusal tests d x steps other in
            go a.1.0 a.1.1.1 (subst P (sym same.1) b.1.1.1)

    -- ---- chains

    one_reading_of : (text : List ℕ) (c e : Chain) → Reading tests d text c → Reading tests d text e → c ≡ e
    one_reading_of text c e (none p n) (none q m) = p ∙ sym q
    one_reading_of text c e (none p n) (refused why q r) = absurd (n r.steps r.take r.written)
    one_reading_of text c e (none p n) (accepted kept take q a) = absurd (n a.steps take a.written)
    one_reading_of text c e (refused why p r) (none q m) = absurd (m r.steps r.take r.written)
    one_reading_of text c e (refused why p r) (refused other q s) =
        let same = same_text text r.steps s.steps r.take s.take r.written s.written in
        let P : List RawStep → Type 0 = λ rs. IsFirstRefusal tests d true rs other in
        p ∙ (ap chain.Refused (one_refusal true r.steps why other r.first (subst P (sym same.steps_same) s.first)) ∙ sym q)
    one_reading_of text c e (refused why p r) (accepted kept take q a) =
        let same = same_text text r.steps a.steps r.take take r.written a.written in
        let P : List RawStep → Type 0 = λ rs. AreKept tests d true rs kept in
        absurd (not_both true r.steps kept why (subst P (sym same.steps_same) a.keeps) r.first)
    one_reading_of text c e (accepted kept take p a) (none q m) = absurd (m a.steps take a.written)
    one_reading_of text c e (accepted kept take p a) (refused why q r) =
        let same = same_text text r.steps a.steps r.take take r.written a.written in
        let P : List RawStep → Type 0 = λ rs. AreKept tests d true rs kept in
        absurd (not_both true r.steps kept why (subst P (sym same.steps_same) a.keeps) r.first)
    one_reading_of text c e (accepted kept take p a) (accepted others end q b) =
        let same = same_text text a.steps b.steps take end a.written b.written in
        let P : List RawStep → Type 0 = λ rs. AreKept tests d true rs others in
        let steps_same : kept ≡ others = one_keeping true a.steps kept others a.keeps (subst P (sym same.steps_same) b.keeps) in
        let take_same = same.take_same in
        p ∙ (ap (λ k. chain.Steps k take) steps_same ∙ (ap (chain.Steps others) take_same ∙ sym q))

    -- ---- fields

    one_chain : (piece : List ℕ) (f g : Field) → IsUnnamedField piece f ⊎ IsNamedField tests d piece f → IsUnnamedField piece g ⊎ IsNamedField tests d piece g → f.chain ≡ g.chain
    one_chain piece f g (inl a) (inl b) = a.is ∙ sym b.is
    one_chain piece f g (inl a) (inr b) = let no = a.unnamed in let yes = b.named in cc
    one_chain piece f g (inr a) (inl b) = let yes = a.named in let no = b.unnamed in cc
    one_chain piece f g (inr a) (inr b) = one_reading_of (after_colon piece) f.chain g.chain (reading (after_colon piece) f.chain a.is) (reading (after_colon piece) g.chain b.is)

    pub one_field : (piece : List ℕ) (f g : Field) → IsFieldOver tests d piece f → IsFieldOver tests d piece g → f ≡ g
    one_field piece f g h k =
        let name : f.name ≡ g.name = h.name ∙ sym k.name in
        let same : f.chain ≡ g.chain = one_chain piece f g h.reads k.reads in
        let both : List ℕ → Chain → Field = λ n c. record { name = n; chain = c } in
        ap (λ n. both n f.chain) name ∙ ap (both g.name) same

    one_list_of : (pieces : List (List ℕ)) (fields others : List Field) → AreFields tests d pieces fields → AreFields tests d pieces others → fields ≡ others
    one_list_of [] [] [] h g = refl
    one_list_of [] [] (x ∷ others) h g = absurd g
    one_list_of [] (f ∷ fields) others h g = absurd h
    one_list_of (p ∷ pieces) [] others h g = absurd h
    one_list_of (p ∷ pieces) (f ∷ fields) [] h g = absurd g
    one_list_of (p ∷ pieces) (f ∷ fields) (x ∷ others) h g =
        let first : f ≡ x = one_field p f x h.0 g.0 in
        let rest : fields ≡ others = one_list_of pieces fields others h.1 g.1 in
        cc

    pub one_script : (text : List ℕ) (fields others : List Field) → IsScriptOver tests d text fields → IsScriptOver tests d text others → fields ≡ others
    one_script text fields others h g = one_list_of _ fields others h.are g.are

  pub read_or_refused : (text : List ℕ) (fields : List Field) (f : ScriptFault) → IsScriptOver tests d text fields → IsScriptFault text f → ⊥
  read_or_refused text fields script.Long h g = omega (arith, h.short)
  read_or_refused text fields script.Fields h g = omega (arith, h.few, g.many)
  read_or_refused text fields script.Memory h g = g

-- ---- refusals

pub one_script_fault : (text : List ℕ) (f g : ScriptFault) → IsScriptFault text f → IsScriptFault text g → f ≡ g
one_script_fault text script.Long script.Long h g = refl
one_script_fault text script.Long script.Fields h g = absurd (omega (arith, g.short))
one_script_fault text script.Fields script.Long h g = absurd (omega (arith, h.short))
one_script_fault text script.Fields script.Fields h g = refl
one_script_fault text script.Memory g h k = absurd h
one_script_fault text script.Long script.Memory h g = absurd g
one_script_fault text script.Fields script.Memory h g = absurd g
