-- The attributes of a start tag whose text is UTF-8.
use Rattle.std.proofs.Common.{◌≡◌, ℕ, zero, suc, ◌+◌, ◌-◌, ◌<◌, ◌≤◌, inl, inr, true, cond, List, [], ◌∷◌, length, get_or, drop, sym, refl, ◌∙◌, ap, subst, arith, ltb, eqb-true, IsUtf8, length-take, length-drop, get_or-take, get_or-drop}
use Rattle.std.specs.Prelude.{◌==◌, slice_range}
use Rattle.std.specs.List.{AllPass}
use Rattle.std.proofs.lemmas.Bool.{ltb-true}
use Rattle.text_base.specs.Text.{run_end, is_not_byte, is_space5, IsPlace}
use Rattle.text_base.specs.Kinds.{space5_narrow}
use Rattle.text_base.specs.declared.reasons.PageReason.TheVariants.{BadTag}
use Rattle.text_base.proofs.Boundaries.{in_text, past_ascii, run_end_place}
use Rattle.text_base.proofs.Runs.{run_end_moves, run_end_passes, run_end_from}
use Rattle.html_lexer.specs.Cuts.{IsPart, IsCutOut}
use Rattle.html_lexer.specs.Kinds.{is_gap, is_attr_byte, is_bare_byte, gap_narrow, attr_wide, bare_wide}
use Rattle.html_lexer.specs.declared.tags.Attribute.{Attribute}
use Rattle.html_lexer.specs.declared.tags.AttrStep.TheVariants.{Reads, Refuses}
use Rattle.html_lexer.specs.Tags.{quoted, valued, named}
use Rattle.html_lexer.specs.Attributes.{Writes, pair_at}
use Rattle.html_lexer.proofs.SliceLemmas.{cond_is, same_attribute, refuses_reads, found}
use Rattle.html_lexer.proofs.TagLemmas.{is_part, cut_out, quoted_leads}
use Rattle.html_lexer.proofs.CutLemmas.{slice_utf8}

-- an attribute that is read: its name is not empty, of bytes of names, and its name and its value are UTF-8
abbrev pub IsPair : List ℕ × List ℕ → Type 0
IsPair p = (0 < length p.0) × AllPass is_attr_byte p.0 × IsUtf8 p.0 × IsUtf8 p.1

abbrev pub ArePairs : List (List ℕ × List ℕ) → Type 0
ArePairs [] = Unit {0}
ArePairs (p ∷ ps) = IsPair p × ArePairs ps

module _ (text : List ℕ) (utf8 : IsUtf8 text) where
  abbrev Cut : ℕ → ℕ → Attribute → Type 0
  Cut name name_to a = (a.name ≡ name) × (a.name_to ≡ name_to) × IsCutOut text a × IsPlace text a.to

  quoted_cut : (name name_to v : ℕ) (a : Attribute) → IsPart text name name_to → v < length text → get_or text v 0 < 128 → quoted text name name_to v ≡ Reads a → Cut name name_to a
  quoted_cut name name_to v a part l ascii h =
      let q = run_end (is_not_byte (get_or text v 0)) text (v + 1) in
      let r : Attribute = record { name = name; name_to = name_to; value = v + 1; value_to = q; to = q + 1 } in
      elim (cond_is (ltb q (length text)) (Reads r) (Refuses BadTag) (Reads a) h) [
        | inl p ↦ (let leads = quoted_leads text name name_to v q utf8 l ascii part refl (ltb-true q (length text) p.0) in
            subst (Cut name name_to) (same_attribute r a p.1) (refl, refl, leads.3, leads.2))
        | inr p ↦ absurd (refuses_reads BadTag a p.1)
      ]

  valued_cut : (name name_to v : ℕ) (a : Attribute) → IsPart text name name_to → IsPlace text v → valued text name name_to v ≡ Reads a → Cut name name_to a
  valued_cut name name_to v a part at h =
      let e = run_end is_bare_byte text v in
      let bare : Attribute = record { name = name; name_to = name_to; value = v; value_to = e; to = e } in
      elim (cond_is (get_or text v 0 == 34) (quoted text name name_to v) (cond (get_or text v 0 == 39) (quoted text name name_to v) (Reads bare)) (Reads a) h) [
        | inl p ↦ (let b = eqb-true (get_or text v 0) 34 p.0 in quoted_cut name name_to v a part (in_text text v (omega arith)) (omega arith) p.1)
        | inr p ↦ elim (cond_is (get_or text v 0 == 39) (quoted text name name_to v) (Reads bare) (Reads a) p.1) [
          | inl q ↦ (let b = eqb-true (get_or text v 0) 39 q.0 in quoted_cut name name_to v a part (in_text text v (omega arith)) (omega arith) q.1)
          | inr q ↦ (let end : IsPlace text e = run_end_place is_bare_byte text v e bare_wide utf8 at.within refl at in
              subst (Cut name name_to) (same_attribute bare a q.1) (refl, refl, cut_out text name name_to v e e part (run_end_from is_bare_byte text v) at end, end))
        ]
      ]

  named_cut : (k : ℕ) (a : Attribute) → IsPlace text k → named text k ≡ Reads a → Cut k (run_end is_attr_byte text k) a
  named_cut k a at h =
      let n = run_end is_attr_byte text k in
      let m = run_end is_space5 text n in
      let v = run_end is_space5 text (m + 1) in
      let alone : Attribute = record { name = k; name_to = n; value = n; value_to = n; to = n } in
      let n_at : IsPlace text n = run_end_place is_attr_byte text k n attr_wide utf8 at.within refl at in
      let part = is_part text k n (run_end_from is_attr_byte text k) at n_at in
      elim (cond_is (get_or text m 0 == 61) (valued text k n v) (Reads alone) (Reads a) h) [
        | inl p ↦
            let b = eqb-true (get_or text m 0) 61 p.0 in
            let past : IsPlace text (m + 1) = past_ascii text m utf8 (in_text text m (omega arith)) (omega arith) in
            valued_cut k n v a part (run_end_place is_space5 text (m + 1) v space5_narrow utf8 past.within refl past) p.1
        | inr p ↦ subst (Cut k n) (same_attribute alone a p.1) (refl, refl, cut_out text k n n n n part (omega arith) n_at n_at, n_at)
      ]

  pair_of : (k : ℕ) (a : Attribute) → k < length text → is_attr_byte (get_or text k 0) ≡ true → Cut k (run_end is_attr_byte text k) a → IsPair (pair_at text a)
  pair_of k a l first h =
      let n = run_end is_attr_byte text k in
      let some : k < n = run_end_moves is_attr_byte text k n refl l first in
      let cut = h.2 in
      let within : a.name_to ≤ length text = cut.name.end.within in
      let long : length (slice_range text a.name a.name_to) ≡ a.name_to - a.name = omega (arith, length-take (a.name_to - a.name) (drop a.name text), length-drop a.name text) in (
        omega (arith, long, h.0, h.1),
        (λ j d q.
            ap is_attr_byte (get_or_any (slice_range text a.name a.name_to) j d q ∙ get_or-take (a.name_to - a.name) (drop a.name text) j 0 (omega arith) ∙ get_or-drop a.name text j 0)
            ∙ run_end_passes is_attr_byte text k (a.name + j) (omega (arith, h.0)) (omega (arith, h.0, h.1))),
        slice_utf8 text utf8 a.name a.name_to cut.name.order cut.name.start cut.name.end,
        slice_utf8 text utf8 a.value a.value_to cut.value.order cut.value.start cut.value.end,
      )
    where
      get_or_any : (xs : List ℕ) (k d : ℕ) → k < length xs → get_or xs k d ≡ get_or xs k 0
      get_or_any [] k d l = absurd (omega arith)
      get_or_any (x ∷ xs) zero d l = refl
      get_or_any (x ∷ xs) (suc k) d l = get_or_any xs k d (omega arith)

  pub pairs_cut : (ps : List (List ℕ × List ℕ)) (i : ℕ) → IsPlace text i → Writes text i ps → ArePairs ps
  pairs_cut [] i at h = tt
  pairs_cut (p ∷ ps) i at h =
      let a = h.0 in
      let k = run_end is_gap text i in
      let f = found text i a h.1 in
      let k_at : IsPlace text k = run_end_place is_gap text i k gap_narrow utf8 at.within refl at in
      let c = named_cut k a k_at f.3 in
      (subst IsPair (sym h.2) (pair_of k a f.1 f.2 c), pairs_cut ps a.to c.3 h.3)
