-- What the path of a relative tells at an element: it gives something where the parts lead on from there.
use Rattle.std.proofs.Common.{◌≡◌, ℕ, true, ◌&&◌, ◌<◌, length, List, [], ◌∷◌, map, ap, sym, ◌∙◌, subst, eqb, arith}
use Rattle.std.specs.Cmp.{both_ways as same_tests}
use Rattle.std.specs.List.{list_any, AllByRecursion}
use Rattle.std.proofs.lemmas.Bool.{eqb-true, eq-eqb}
use Rattle.doc_model.specs.Document.{Document, rows, is_element}
use Rattle.css_selectors.specs.declared.selector.Dialect.{Dialect}
use Rattle.css_selectors.specs.declared.selector.Part.{Part, out-Part}
use Rattle.css_selectors.specs.declared.selector.Relative.{Relative, out-Relative}
use Rattle.css_meaning.specs.Holding.{holds, tied, goes_on, relative_holds}
use Rattle.css_meaning.specs.Links.{linked}
use Rattle.css_meaning.proofs.HoldsAt.{link_of, at_relative}
use Rattle.css_meaning.proofs.ListTests as lists
use Rattle.xpath_values.specs.declared.value.Value.TheVariants.{Nodes}
use Rattle.xpath_parser.specs.declared.expression.Expr.TheVariants as e
use Rattle.xpath_parser.specs.declared.expression.Start.TheVariants.{Here}
use Rattle.xpath_parser.specs.declared.expression.Step.{Step}
use Rattle.xpath_parser.specs.Conversions.{is_any}
use Rattle.xpath_parser.specs.Denote.{has, path, walk_of}
use Rattle.xpath_parser.proofs.Equations.{at_path, at_here}
use Rattle.css_printed.specs.inner.TestPredicates.{step_of, relative_expression}
use Rattle.css_printed.proofs.Links.{near}
use Rattle.css_printed.proofs.Means.{related, walk, Further, near_linked, all_step, all_stay, walks}
use Rattle.css_printed.proofs.MeansChoices.{Tells, tells_nodes, tells_same}
use Rattle.css_printed.proofs.MeansParts.{element_row}
use Rattle.css_printed.proofs.MeansValues.{any_kept}
use Rattle.css_printed.proofs.Paths.{chain, path_rows, path_chain}
use Rattle.css_printed.proofs.PrintedAt.{asked_at_relative}

module _ (doc : Document) (d : Dialect) where
  -- the parts go on from a row where a chain of them leads to some row
  chain_goes_on : (ps : List Part) (x : ℕ) → AllByRecursion (Further doc d) ps → has x (rows doc) ≡ true
      → list_any (λ r. chain doc (related doc d) ps x r) (rows doc) ≡ goes_on doc d (map (tied doc d) ps) x
  chain_goes_on [] x h among = lists.any_same _ _ (λ r. same_tests (eqb x r) (eqb r x) (λ k. eq-eqb r x (sym (eqb-true x r k))) (λ k. eq-eqb x r (sym (eqb-true r x k)))) (rows doc) ∙ among
  chain_goes_on (p ∷ ps) x h among =
      lists.any_swap (λ r y. related doc d p x y && chain doc (related doc d) ps y r) (rows doc) (rows doc)
      ∙ lists.any_among _ _ (rows doc) (λ y in_rows.
      sym (lists.and_any (related doc d p x y) (λ r. chain doc (related doc d) ps y r) (rows doc))
      ∙ ap (λ b. related doc d p x y && b) (chain_goes_on ps y h.1 in_rows)
      ∙ lists.and_assoc (near doc (out-Part p).link x y) (holds doc d p y) (goes_on doc d (map (tied doc d) ps) y)
      ∙ ap (λ b. b && (holds doc d p y && goes_on doc d (map (tied doc d) ps) y)) (near_linked doc d (out-Part p).link x y h.0.link ∙ ap (λ l. linked doc l x y) (sym (link_of doc d p))))

  only : (y z : ℕ) → is_element doc y ≡ true → has z (y ∷ []) ≡ true → is_element doc z ≡ true
  only y z is h = subst (λ v. is_element doc v ≡ true) (eqb-true y z (sym (lists.or_false (eqb y z)) ∙ h)) is

  steps_tell : (ps : List Part) → 0 < length ps → AllByRecursion (Further doc d) ps → (y : ℕ) → is_element doc y ≡ true
      → is_any (path doc (y ∷ []) (map (walk_of doc) (map (step_of d) ps))) ≡ goes_on doc d (map (tied doc d) ps) y
  steps_tell [] some h y is = absurd (let no : ⊥ = omega arith in no)
  steps_tell (p ∷ ps) some h y is =
      ap (λ ws. is_any (path doc (y ∷ []) ws)) (walks doc d (p ∷ ps))
      ∙ ap is_any (path_rows doc (walk doc d p) (map (walk doc d) ps) (y ∷ []) (λ r. chain doc (related doc d) (p ∷ ps) y r) (λ r in_rows.
      path_chain doc (walk doc d) (related doc d) (is_element doc) (p ∷ ps) (y ∷ []) r (all_step doc d (p ∷ ps) h) (all_stay doc d (p ∷ ps)) (λ z i. only y z is i) ∙ lists.or_false _))
      ∙ any_kept (λ r. chain doc (related doc d) (p ∷ ps) y r) (rows doc)
      ∙ chain_goes_on (p ∷ ps) y h (element_row doc y is)

  pub relative_tells : (r : Relative) → 0 < length (out-Relative r).parts → AllByRecursion (Further doc d) (out-Relative r).parts
      → (y : ℕ) → is_element doc y ≡ true → Tells doc (relative_expression d r) y (relative_holds doc d r y)
  relative_tells r some h y is =
      let steps : List Step = map (step_of d) (out-Relative r).parts in
      tells_same doc (relative_expression d r) (e.Path Here steps) y (relative_holds doc d r y) (goes_on doc d (map (tied doc d) (out-Relative r).parts) y) (asked_at_relative d r) (at_relative doc d r y)
      (tells_nodes doc (e.Path Here steps) y (path doc (y ∷ []) (map (walk_of doc) steps)) (goes_on doc d (map (tied doc d) (out-Relative r).parts) y)
      (λ at size. at_path doc Here steps (record { row = y; position = at; size = size })
      ∙ ap (λ xs. Nodes (path doc xs (map (walk_of doc) steps))) (at_here doc (record { row = y; position = at; size = size })))
      (steps_tell (out-Relative r).parts some h y is))
