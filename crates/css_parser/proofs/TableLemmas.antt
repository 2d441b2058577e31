-- Where the choices end.
use Rattle.std.proofs.lemmas.List.{get_or_append_left, get_or_push}
use Rattle.std.proofs.lemmas.Bool.{cases_lt}
use Rattle.std.proofs.Common.{inl, inr, ◌⊎◌, length-append, ◌≡◌, ℕ, ◌+◌, ◌-◌, ◌<◌, ◌≤◌, List, [], ◌∷◌, ◌++◌, length, get_or, sym, ◌∙◌, ap, subst, arith}
use Rattle.std.specs.Prelude.{false, Option, Some, None}
use Rattle.css_lexer.specs.declared.tokens.CssToken.{CssToken}
use Rattle.css_parser.specs.declared.pieces.Word.{Word}
use Rattle.css_parser.specs.declared.pieces.ListRead.{ListRead}
use Rattle.css_parser.specs.Choices.{word_at, deep_read, simple_by, members}
use Rattle.css_parser.specs.inner.Reading.{IsChoiceEnd, IsTable}
use Rattle.css_parser.proofs.ChoiceLemmas.{deep_is}

module _ (text : List ℕ) (ts : List CssToken) where
  pub no_choice : (i : ℕ) → word_at ts i ≡ None → IsChoiceEnd text ts i None
  no_choice i e w f = let z : None ≡ Some w = sym e ∙ f in cc

  -- the members that are read with no room are those that are read at any depth
  pub read_end : (i : ℕ) (w : Word) (r : ListRead) → i < length ts → word_at ts i ≡ Some w → Some r ≡ members text ts (simple_by text ts 0 false) w (i + 2) → IsChoiceEnd text ts i (Some r.end)
  unfolding simple_by
  read_end i w r l e h v f = sym (deep_is text ts i w (omega arith) e ∙ ap deep_read (sym h))

  pub no_end : (i : ℕ) (w : Word) → i < length ts → word_at ts i ≡ Some w → None ≡ members text ts (simple_by text ts 0 false) w (i + 2) → IsChoiceEnd text ts i None
  unfolding simple_by
  no_end i w l e h v f = sym (deep_is text ts i w (omega arith) e ∙ ap deep_read (sym h))

  pub no_table : IsTable text ts []
  no_table i l h = absurd (omega arith)

  pub table_more : (ends : List (Option ℕ)) (i : ℕ) (end : Option ℕ) → i + 1 + length ends ≡ length ts → IsTable text ts ends → IsChoiceEnd text ts i end → IsTable text ts (ends ++ end ∷ [])
  table_more ends i end known table here k l h = by_place (cases_lt i k)
    where
      by_place : (i < k) ⊎ (k ≤ i) → IsChoiceEnd text ts k (get_or (ends ++ end ∷ []) (length ts - 1 - k) None)
      by_place (inl more) = subst (IsChoiceEnd text ts k) (sym (get_or_append_left ends (end ∷ []) None (length ts - 1 - k) (omega arith))) (table k l (omega arith))
      by_place (inr less) =
          let at : k ≡ i = omega (arith, h, length-append ends (end ∷ [])) in
          let last : length ends ≡ length ts - 1 - k = omega arith in
          subst (λ n. IsChoiceEnd text ts n (get_or (ends ++ end ∷ []) (length ts - 1 - k) None)) (sym at)
          (subst (IsChoiceEnd text ts i) (sym (get_or_push ends end None (length ts - 1 - k) last)) here)
