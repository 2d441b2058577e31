-- The document that was worked by hand is one, and what stands on its axes.
use Rattle.std.proofs.Common.{◌≡◌, ℕ, zero, suc, ◌<◌, [], ◌∷◌, length, refl, arith, inl, inr}
use Rattle.std.proofs.lemmas.Bool.{eqb-true, and_parts}
use Rattle.doc_model.specs.declared.Kind.TheVariants.{Attribute, Text}
use Rattle.doc_model.specs.Document.{row, below_within, IsRow}
use Rattle.doc_model.specs.Worked.{worked, WorkedDocument, WorkedLists}

row_1 : IsRow worked 1
unfolding below_within
row_1 = record {
  kind = λ h. cc;
  parent = omega arith;
  owner = inl refl;
  nested = refl;
  element = λ h. ((λ e. cc), refl);
  attribute = λ h. cc;
  distinct = λ h. cc;
  words = λ h. cc;
  comment = λ h. cc;
}

attributes_before_2 : (k : ℕ) → k < 2 → (row worked k).kind ≡ Attribute → (row worked k).parent ≡ 1 → (row worked k).name ≡ 99 ∷ [] → ⊥
attributes_before_2 zero l a p n = cc
attributes_before_2 (suc zero) l a p n = cc
attributes_before_2 (suc (suc k)) l a p n = omega arith

row_2 : IsRow worked 2
unfolding below_within
row_2 = record {
  kind = λ h. cc;
  parent = omega arith;
  owner = inr refl;
  nested = refl;
  element = λ h. cc;
  attribute = λ h. ((λ e. cc), refl, refl);
  distinct = λ h. attributes_before_2;
  words = λ h. cc;
  comment = λ h. cc;
}

before_3 : (y : ℕ) → y < 3 → (row worked y).kind ≡ Text → ⊥
before_3 zero l t = cc
before_3 (suc zero) l t = cc
before_3 (suc (suc zero)) l t = cc
before_3 (suc (suc (suc y))) l t = omega arith

row_3 : IsRow worked 3
unfolding below_within
row_3 = record {
  kind = λ h. cc;
  parent = omega arith;
  owner = inr refl;
  nested = refl;
  element = λ h. cc;
  attribute = λ h. cc;
  distinct = λ h. cc;
  words = λ h. (refl, (λ e. cc), refl, (λ y last t. before_3 y last.2 t));
  comment = λ h. cc;
}

row_4 : IsRow worked 4
unfolding below_within
row_4 = record {
  kind = λ h. cc;
  parent = omega arith;
  owner = inr refl;
  nested = refl;
  element = λ h. cc;
  attribute = λ h. cc;
  distinct = λ h. cc;
  words = λ h. cc;
  comment = λ h. refl;
}

row_5 : IsRow worked 5
unfolding below_within
row_5 = record {
  kind = λ h. cc;
  parent = omega arith;
  owner = inr refl;
  nested = refl;
  element = λ h. ((λ e. cc), refl);
  attribute = λ h. cc;
  distinct = λ h. cc;
  words = λ h. cc;
  comment = λ h. cc;
}

-- row 5 has no child before row 6
no_child_5 : (y : ℕ) → y < 6 → (row worked y).parent ≡ 5 → ⊥
no_child_5 zero l p = omega arith
no_child_5 (suc zero) l p = omega arith
no_child_5 (suc (suc zero)) l p = omega arith
no_child_5 (suc (suc (suc zero))) l p = omega arith
no_child_5 (suc (suc (suc (suc zero)))) l p = omega arith
no_child_5 (suc (suc (suc (suc (suc zero))))) l p = omega arith
no_child_5 (suc (suc (suc (suc (suc (suc y)))))) l p = omega arith

row_6 : IsRow worked 6
unfolding below_within
row_6 = record {
  kind = λ h. cc;
  parent = omega arith;
  owner = inr refl;
  nested = refl;
  element = λ h. cc;
  attribute = λ h. cc;
  distinct = λ h. cc;
  words = λ h. (refl, (λ e. cc), refl, (λ y last t. no_child_5 y last.2 (eqb-true _ _ (and_parts _ _ last.0).1)));
  comment = λ h. cc;
}

rest : (i : ℕ) → 0 < i → i < length worked → IsRow worked i
rest zero p l = absurd (omega arith)
rest (suc zero) p l = row_1
rest (suc (suc zero)) p l = row_2
rest (suc (suc (suc zero))) p l = row_3
rest (suc (suc (suc (suc zero)))) p l = row_4
rest (suc (suc (suc (suc (suc zero))))) p l = row_5
rest (suc (suc (suc (suc (suc (suc zero)))))) p l = row_6
rest (suc (suc (suc (suc (suc (suc (suc i))))))) p l = absurd (omega arith)

pub worked_document : WorkedDocument
worked_document = record { some = omega arith; root = refl; rest = rest }

pub worked_lists : WorkedLists
unfolding below_within
worked_lists = record {
  child = refl;
  named = refl;
  attribute = refl;
  descendant = refl;
  ancestor_or_self = refl;
  preceding = refl;
  following_sibling = refl;
  value = refl;
}
