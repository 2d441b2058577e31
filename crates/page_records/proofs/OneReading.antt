-- A script reads as one list of entries at most.
use Rattle.std.proofs.Common.{◌≡◌, ◌⊎◌, ℕ, true, false, List, [], ◌∷◌, refl, sym, ◌∙◌, ap, subst, arith, inl, inr}
use Rattle.std.specs.Prelude.{Option, Some, None}
use Rattle.text_base.specs.declared.reasons.ScriptFault.{ScriptFault}
use Rattle.text_base.specs.declared.reasons.ScriptFault.TheVariants as script
use Rattle.test_registry.specs.Names.{Known}
use Rattle.css_selectors.specs.declared.selector.Dialect.{Dialect}
use Rattle.xpath_parser.specs.Laws.{NeverBoth}
use Rattle.query_script.specs.declared.script.ChainStep.{ChainStep}
use Rattle.query_script.specs.declared.script.Field.{Field}
use Rattle.query_script.specs.declared.script.Reason.{Reason}
use Rattle.query_script.specs.declared.script.Reason.TheVariants as reason
use Rattle.query_script.specs.declared.steps.RawStep.{RawStep}
use Rattle.query_script.specs.Cuts.{fields_of}
use Rattle.query_script.specs.Names.{after_colon}
use Rattle.query_script.specs.Steps.{AreStepsText}
use Rattle.query_script.specs.Fields.{AreFields}
use Rattle.query_script.proofs.ChainLemmas.{one_cut}
use Rattle.query_script.proofs.Unique.{one_field}
use Rattle.page_records.specs.declared.script.Block.{Block}
use Rattle.page_records.specs.declared.script.Entry.{Entry}
use Rattle.page_records.specs.declared.script.Entry.TheVariants as entry
use Rattle.page_records.specs.Blocks.{IsWritten, AreRowSteps, IsFirstRefused, Differ, names_of, IsAccepted, IsNoBlock, HasTwins, HasRefusedStep, IsEmpty, IsContent, IsUnnamedBlock, IsNamedBlock, IsBlock}
use Rattle.page_records.specs.Scripts.{IsEntry, AreEntries, IsRecordScript, IsRecordFault}
use Rattle.page_records.proofs.OneSteps.{one_rows, rows_or_refused, one_first}
use Rattle.page_records.proofs.WordLemmas.{one_front}

record IsSame (steps others : List RawStep) (body other : List ℕ) : Type 0 where
  pub steps_same : steps ≡ others
  pub body_same : body ≡ other

same_written : (text : List ℕ) (steps others : List RawStep) (body other : List ℕ) → IsWritten text steps body → IsWritten text others other → IsSame steps others body other
same_written text steps others body other h g =
    let P : List ℕ → Type 0 = λ t. AreStepsText t others in
    record {
      steps_same = one_cut h.front steps others h.are (subst P (sym (one_front text h.front body g.front other h.parts g.parts)) g.are);
      body_same = h.parts.is ∙ sym g.parts.is;
    }

module _ (tests : Known) (d : Dialect) where
  -- what the text after a name reads as, by which of the four it is
  data Reading (text : List ℕ) (r : Option Reason) (b : Block) : Type 0 where
    accepted : r ≡ None → IsAccepted tests d text b.steps b.fields → Reading text r b
    none : r ≡ Some reason.Block → IsNoBlock text → IsEmpty b → Reading text r b
    twins : r ≡ Some reason.Twice → HasTwins tests d text → IsEmpty b → Reading text r b
    refused : (why : Reason) → r ≡ Some why → HasRefusedStep tests d text why → IsEmpty b → Reading text r b

  reading : (text : List ℕ) (r : Option Reason) (b : Block) → IsContent tests d text r b → Reading text r b
  reading text None b h = accepted refl h
  reading text (Some reason.Name) b h = absurd h.0
  reading text (Some reason.Block) b h = none refl h.0 h.1
  reading text (Some reason.Twice) b h = twins refl h.0 h.1
  reading text (Some reason.Chain) b h = refused reason.Chain refl h.0 h.1
  reading text (Some reason.Order) b h = refused reason.Order refl h.0 h.1
  reading text (Some reason.Test) b h = refused reason.Test refl h.0 h.1
  reading text (Some reason.Selection) b h = refused reason.Selection refl h.0 h.1
  reading text (Some reason.Output) b h = refused reason.Output refl h.0 h.1
  reading text (Some reason.Pattern) b h = refused reason.Pattern refl h.0 h.1
  reading text (Some (reason.Css f)) b h = refused (reason.Css f) refl h.0 h.1
  reading text (Some (reason.XPath f)) b h = refused (reason.XPath f) refl h.0 h.1

  record IsSameBlock (r s : Option Reason) (b c : Block) : Type 0 where
    pub refused_same : r ≡ s
    pub steps_same : b.steps ≡ c.steps
    pub fields_same : b.fields ≡ c.fields

  both_empty : (r s : Option Reason) (b c : Block) → r ≡ s → IsEmpty b → IsEmpty c → IsSameBlock r s b c
  both_empty r s b c e h g = record { refused_same = e; steps_same = h.steps ∙ sym g.steps; fields_same = h.fields ∙ sym g.fields }

  module _ (never_both : NeverBoth) where
    one_list_of : (pieces : List (List ℕ)) (fields others : List Field) → AreFields tests d pieces fields → AreFields tests d pieces others → fields ≡ others
    one_list_of [] [] [] h g = refl
    one_list_of [] [] (x ∷ others) h g = absurd g
    one_list_of [] (f ∷ fields) others h g = absurd h
    one_list_of (p ∷ pieces) [] others h g = absurd h
    one_list_of (p ∷ pieces) (f ∷ fields) [] h g = absurd g
    one_list_of (p ∷ pieces) (f ∷ fields) (x ∷ others) h g =
        let first : f ≡ x = one_field tests d never_both p f x h.0 g.0 in
        let rest : fields ≡ others = one_list_of pieces fields others h.1 g.1 in
        cc

    module _ (text : List ℕ) where
      -- steps that are kept, and a step of theirs that is refused
      kept_refused : (written others : List RawStep) (body other : List ℕ) (kept : List ChainStep) (why : Reason) → IsWritten text written body → IsWritten text others other →
          AreRowSteps tests d true written kept → IsFirstRefused tests d true others why → ⊥
      kept_refused written others body other kept why h g k f =
          let P : List RawStep → Type 0 = λ rs. IsFirstRefused tests d true rs why in
          rows_or_refused tests d never_both true written kept why k (subst P (sym (same_written text written others body other h g).steps_same) f)

      -- names that differ, and two that are the same
      differ_same : (written others : List RawStep) (body other : List ℕ) → IsWritten text written body → IsWritten text others other →
          Differ (names_of (fields_of body)) → (Differ (names_of (fields_of other)) → ⊥) → ⊥
      differ_same written others body other h g differ same =
          let P : List ℕ → Type 0 = λ t. Differ (names_of (fields_of t)) in
          same (subst P (same_written text written others body other h g).body_same differ)

      both_accepted : (r s : Option Reason) (b c : Block) → r ≡ s → IsAccepted tests d text b.steps b.fields → IsAccepted tests d text c.steps c.fields → IsSameBlock r s b c
      both_accepted r s b c e h g =
          let same = same_written text h.written g.written h.body g.body h.is g.is in
          let P : List RawStep → Type 0 = λ rs. AreRowSteps tests d true rs c.steps in
          let Q : List ℕ → Type 0 = λ t. AreFields tests d (fields_of t) c.fields in
          record {
            refused_same = e;
            steps_same = one_rows tests d true h.written b.steps c.steps h.kept (subst P (sym same.steps_same) g.kept);
            fields_same = one_list_of (fields_of h.body) b.fields c.fields h.are (subst Q (sym same.body_same) g.are);
          }

      both_refused : (why other : Reason) → HasRefusedStep tests d text why → HasRefusedStep tests d text other → why ≡ other
      both_refused why other h g =
          let P : List RawStep → Type 0 = λ rs. IsFirstRefused tests d true rs other in
          one_first tests d never_both true h.written why other h.first (subst P (sym (same_written text h.written g.written h.body g.body h.is g.is).steps_same) g.first)

      one_content : (r s : Option Reason) (b c : Block) → Reading text r b → Reading text s c → IsSameBlock r s b c
      one_content r s b c (accepted p h) (accepted q g) = both_accepted r s b c (p ∙ sym q) h g
      one_content r s b c (accepted p h) (none q n m) = absurd (n h.written h.body h.is)
      one_content r s b c (accepted p h) (twins q t m) = absurd (differ_same h.written t.written h.body t.body h.is t.is h.differ t.same)
      one_content r s b c (accepted p h) (refused why q f m) = absurd (kept_refused h.written f.written h.body f.body b.steps why h.is f.is h.kept f.first)
      one_content r s b c (none p n m) (accepted q g) = absurd (n g.written g.body g.is)
      one_content r s b c (none p n m) (none q o k) = both_empty r s b c (p ∙ sym q) m k
      one_content r s b c (none p n m) (twins q t k) = absurd (n t.written t.body t.is)
      one_content r s b c (none p n m) (refused why q f k) = absurd (n f.written f.body f.is)
      one_content r s b c (twins p t m) (accepted q g) = absurd (differ_same g.written t.written g.body t.body g.is t.is g.differ t.same)
      one_content r s b c (twins p t m) (none q n k) = absurd (n t.written t.body t.is)
      one_content r s b c (twins p t m) (twins q u k) = both_empty r s b c (p ∙ sym q) m k
      one_content r s b c (twins p t m) (refused why q f k) = absurd (kept_refused t.written f.written t.body f.body t.steps why t.is f.is t.kept f.first)
      one_content r s b c (refused why p f m) (accepted q g) = absurd (kept_refused g.written f.written g.body f.body c.steps why g.is f.is g.kept f.first)
      one_content r s b c (refused why p f m) (none q n k) = absurd (n f.written f.body f.is)
      one_content r s b c (refused why p f m) (twins q t k) = absurd (kept_refused t.written f.written t.body f.body t.steps why t.is f.is t.kept f.first)
      one_content r s b c (refused why p f m) (refused other q g k) = both_empty r s b c (p ∙ (ap Some (both_refused why other f g) ∙ sym q)) m k

    same_block : (piece : List ℕ) (b c : Block) → IsUnnamedBlock piece b ⊎ IsNamedBlock tests d piece b → IsUnnamedBlock piece c ⊎ IsNamedBlock tests d piece c → IsSameBlock b.refused c.refused b c
    same_block piece b c (inl h) (inl g) = both_empty b.refused c.refused b c (h.is ∙ sym g.is) h.empty g.empty
    same_block piece b c (inl h) (inr g) = absurd (let clash : false ≡ true = sym h.unnamed ∙ g.named in cc)
    same_block piece b c (inr h) (inl g) = absurd (let clash : false ≡ true = sym g.unnamed ∙ h.named in cc)
    same_block piece b c (inr h) (inr g) =
        one_content (after_colon piece) b.refused c.refused b c (reading (after_colon piece) b.refused b h.is) (reading (after_colon piece) c.refused c g.is)

    one_block : (piece : List ℕ) (b c : Block) → IsBlock tests d piece b → IsBlock tests d piece c → b ≡ c
    one_block piece b c h g =
        let name : b.name ≡ c.name = h.name ∙ sym g.name in
        let same = same_block piece b c h.reads g.reads in
        let of : List ℕ → List ChainStep → List Field → Option Reason → Block = λ n ss fs r. record { name = n; steps = ss; fields = fs; refused = r } in
        ap (λ n. of n b.steps b.fields b.refused) name ∙ (ap (λ ss. of c.name ss b.fields b.refused) same.steps_same
        ∙ (ap (λ fs. of c.name c.steps fs b.refused) same.fields_same ∙ ap (of c.name c.steps c.fields) same.refused_same))

    one_entry : (piece : List ℕ) (e x : Entry) → IsEntry tests d piece e → IsEntry tests d piece x → e ≡ x
    one_entry piece (entry.Plain f) (entry.Plain g) h k = ap entry.Plain (one_field tests d never_both piece f g h.1 k.1)
    one_entry piece (entry.Plain f) (entry.Each c) h k = absurd (let clash : false ≡ true = sym h.0 ∙ k.0 in cc)
    one_entry piece (entry.Each b) (entry.Plain g) h k = absurd (let clash : false ≡ true = sym k.0 ∙ h.0 in cc)
    one_entry piece (entry.Each b) (entry.Each c) h k = ap entry.Each (one_block piece b c h.1 k.1)

    one_list : (pieces : List (List ℕ)) (entries others : List Entry) → AreEntries tests d pieces entries → AreEntries tests d pieces others → entries ≡ others
    one_list [] [] [] h g = refl
    one_list [] [] (x ∷ others) h g = absurd g
    one_list [] (e ∷ entries) others h g = absurd h
    one_list (p ∷ pieces) [] others h g = absurd h
    one_list (p ∷ pieces) (e ∷ entries) [] h g = absurd g
    one_list (p ∷ pieces) (e ∷ entries) (x ∷ others) h g =
        let first : e ≡ x = one_entry p e x h.0 g.0 in
        let rest : entries ≡ others = one_list pieces entries others h.1 g.1 in
        cc

    pub one_script : (text : List ℕ) (entries others : List Entry) → IsRecordScript tests d text entries → IsRecordScript tests d text others → entries ≡ others
    one_script text entries others h g = one_list _ entries others h.are g.are

  pub read_or_refused : (text : List ℕ) (entries : List Entry) (f : ScriptFault) → IsRecordScript tests d text entries → IsRecordFault text f → ⊥
  read_or_refused text entries script.Long h g = omega (arith, h.short)
  read_or_refused text entries script.Fields h g = omega (arith, h.few, g.many)
  read_or_refused text entries script.Memory h g = g

-- ---- refusals of a whole script

pub one_fault : (text : List ℕ) (f g : ScriptFault) → IsRecordFault text f → IsRecordFault text g → f ≡ g
one_fault text script.Long script.Long h g = refl
one_fault text script.Long script.Fields h g = absurd (omega (arith, g.short))
one_fault text script.Fields script.Long h g = absurd (omega (arith, h.short))
one_fault text script.Fields script.Fields h g = refl
one_fault text script.Memory g h k = absurd h
one_fault text script.Long script.Memory h g = absurd g
one_fault text script.Fields script.Memory h g = absurd g
