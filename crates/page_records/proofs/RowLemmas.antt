-- The steps of a block, one after the other.
use Rattle.std.proofs.Common.{◌≡◌, ℕ, ◌+◌, ◌<◌, ◌≤◌, true, false, List, [], ◌∷◌, ◌++◌, length, drop, get_or, refl, sym, ◌∙◌, ap, subst, append_assoc, inl, inr}
use Rattle.std.specs.List.{AllByRecursion}
use Rattle.std.proofs.lemmas.List.{append-nil, drop_all, drop_more}
use Rattle.test_registry.specs.Names.{Known}
use Rattle.css_selectors.specs.declared.selector.Dialect.{Dialect}
use Rattle.query_script.specs.declared.script.ChainStep.{ChainStep}
use Rattle.query_script.specs.declared.script.Reason.{Reason}
use Rattle.query_script.specs.declared.script.Reason.TheVariants as reason
use Rattle.query_script.specs.declared.steps.RawStep.{RawStep}
use Rattle.query_script.specs.declared.steps.RawStep.TheVariants as raw
use Rattle.query_script.specs.Queries.{IsKept}
use Rattle.page_records.specs.Blocks.{is_query, AreRowSteps, IsFirstRefused}
use Rattle.page_records.specs.Ordered.{IsRowQuery}
use Rattle.page_records.specs.inner.Contents.{IsRowFound}
use Rattle.page_records.specs.declared.rows.RowFound.TheVariants as found

-- where strings come to the steps, or of the last of them, they are out of order, whatever they are
strings_refused : (tests : Known) (d : Dialect) (steps : List RawStep) → IsFirstRefused tests d false steps reason.Order
strings_refused tests d [] = (refl, refl)
strings_refused tests d (raw.Css text ∷ steps) = inl refl
strings_refused tests d (raw.XPath text ∷ steps) = inl refl
strings_refused tests d (raw.Re text ∷ steps) = inl refl
strings_refused tests d (raw.Keep name text ∷ steps) = inl refl

pub strings_out : (tests : Known) (d : Dialect) (r : RawStep) (kept : ChainStep) → is_query r ≡ true → IsKept tests d true r kept false → (more : List RawStep) → IsFirstRefused tests d true (r ∷ more) reason.Order
strings_out tests d r kept q k more = inr (kept, (false, ((q, k), strings_refused tests d more)))

-- the steps before the rest were kept as these, and nodes come to the rest
pub record Rowing (tests : Known) (d : Dialect) (all rest : List RawStep) (kept : List ChainStep) : Type 0 where
  pub keeps : (more : List ChainStep) → AreRowSteps tests d true rest more → AreRowSteps tests d true all (kept ++ more)
  pub refuses : (why : Reason) → IsFirstRefused tests d true rest why → IsFirstRefused tests d true all why
  pub queries : AllByRecursion (IsRowQuery tests) kept

pub rowing_none : (tests : Known) (d : Dialect) (all : List RawStep) → Rowing tests d all all []
rowing_none tests d all = record { keeps = λ more h. h; refuses = λ why h. h; queries = tt }

queries_more : (tests : Known) (kept : List ChainStep) (s : ChainStep) → AllByRecursion (IsRowQuery tests) kept → IsRowQuery tests s → AllByRecursion (IsRowQuery tests) (kept ++ s ∷ [])
queries_more tests [] s h q = (q, tt)
queries_more tests (k ∷ kept) s h q = (h.0, queries_more tests kept s h.1 q)

rowing_more : (tests : Known) (d : Dialect) (all rest : List RawStep) (r : RawStep) (kept : List ChainStep) (s : ChainStep) →
    Rowing tests d all (r ∷ rest) kept → IsRowFound tests d r (found.Kept s) → Rowing tests d all rest (kept ++ s ∷ [])
rowing_more tests d all rest r kept s k f = record {
  keeps = λ more h. (let P : List ChainStep → Type 0 = λ t. AreRowSteps tests d true all t in subst P (sym (append_assoc kept (s ∷ []) more)) (k.keeps (s ∷ more) (true, (f.0, h))));
  refuses = λ why h. k.refuses why (inr (s, (true, (f.0, h))));
  queries = queries_more tests kept s k.queries f.1;
}

module _ (tests : Known) (d : Dialect) (xs : List RawStep) where
  next_of : (i : ℕ) (x : RawStep) → x ≡ get_or xs i x → i < length xs → drop i xs ≡ x ∷ drop (i + 1) xs
  next_of i x e l = drop_more xs i x l ∙ ap (λ y. y ∷ drop (i + 1) xs) (sym e)

  pub rowing_next : (i : ℕ) (x : RawStep) (kept : List ChainStep) (s : ChainStep) → x ≡ get_or xs i x → i < length xs → Rowing tests d xs (drop i xs) kept →
      IsRowFound tests d x (found.Kept s) → Rowing tests d xs (drop (i + 1) xs) (kept ++ s ∷ [])
  rowing_next i x kept s e l k f =
      let P : List RawStep → Type 0 = λ ws. Rowing tests d xs ws kept in
      rowing_more tests d xs (drop (i + 1) xs) x kept s (subst P (next_of i x e l) k) f

  pub row_refused : (i : ℕ) (x : RawStep) (kept : List ChainStep) (why : Reason) → x ≡ get_or xs i x → i < length xs → Rowing tests d xs (drop i xs) kept →
      IsRowFound tests d x (found.Refused why) → IsFirstRefused tests d true xs why
  row_refused i x kept why e l k f =
      let P : List RawStep → Type 0 = λ ws. IsFirstRefused tests d true ws why in
      k.refuses why (subst P (sym (next_of i x e l)) (f (drop (i + 1) xs)))

  pub all_rows : (i : ℕ) (kept : List ChainStep) → length xs ≤ i → Rowing tests d xs (drop i xs) kept → AreRowSteps tests d true xs kept
  all_rows i kept far k =
      let P : List RawStep → Type 0 = λ ws. Rowing tests d xs ws kept in
      let Q : List ChainStep → Type 0 = λ t. AreRowSteps tests d true xs t in
      subst Q (append-nil kept) ((subst P (drop_all i xs far) k).keeps [] refl)
