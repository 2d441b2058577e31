-- Steps that are kept or refused, one after the other.
use Rattle.std.proofs.Common.{◌≡◌, ℕ, ◌+◌, ◌<◌, ◌≤◌, Bool, true, List, [], ◌∷◌, ◌++◌, length, drop, get_or, refl, sym, ◌∙◌, ap, subst, append_assoc, inr}
use Rattle.std.specs.Prelude.{Result, Ok, Err, IfOk, encode_utf8_all}
use Rattle.std.specs.Str.{chars, IsUtf8}
use Rattle.std.proofs.lemmas.List.{append-nil, drop_all, drop_more}
use Rattle.text_base.proofs.Text.{encode-chars}
use Rattle.test_registry.specs.Names.{Known}
use Rattle.css_selectors.specs.declared.selector.Dialect.{Dialect}
use Rattle.css_selectors.specs.declared.selector.SelectorList.{SelectorList}
use Rattle.css_parser.specs.Selecting.{Accepts}
use Rattle.css_printed.specs.Printed.{printed}
use Rattle.css_printed.specs.Promise.{KeepsMeaning}
use Rattle.xpath_lexer.specs.Places.{most_xpath}
use Rattle.xpath_parser.specs.Reading.{ReadsOver}
use Rattle.xpath_parser.specs.Shapes.{is_nodes}
use Rattle.xpath_parser.proofs.MoreTerms.{reads_more}
use Rattle.query_script.specs.declared.script.ChainStep.{ChainStep}
use Rattle.query_script.specs.declared.script.ChainStep.TheVariants as step
use Rattle.query_script.specs.declared.script.Reason.{Reason}
use Rattle.query_script.specs.declared.steps.RawStep.{RawStep}
use Rattle.query_script.specs.Queries.{IsCssStep, IsKept, AreKept, IsFirstRefusal}
use Rattle.query_script.specs.Ordered.{IsInOrder, AreOrderedOver, IsStepStored, AreStored}

-- ---- one step

pub css_kept : (d : Dialect) (text bytes xpath : List ℕ) (list : SelectorList) → bytes ≡ encode_utf8_all text → Accepts bytes list → xpath ≡ printed d list → length xpath ≤ most_xpath →
    IsCssStep d text (step.Query (chars xpath)) true
css_kept d text bytes xpath list b h e short = record {
  list = list;
  accepted = (let P : List ℕ → Type 0 = λ t. Accepts t list in subst P b h);
  short = (let P : List ℕ → Type 0 = λ t. length t ≤ most_xpath in subst P e short);
  is = ap (λ t. step.Query (chars t)) e;
  shape = refl;
}

pub css_ordered : (tests : Known) (d : Dialect) (xpath : List ℕ) (list : SelectorList) → KeepsMeaning d list xpath → IsUtf8 xpath → IsInOrder tests true (step.Query (chars xpath)) true
css_ordered tests d xpath list m utf8 =
    let P : List ℕ → Type 0 = λ t. ReadsOver tests t m.expression in
    (refl, (m.expression, (subst P (sym (encode-chars xpath utf8)) (reads_more tests xpath m.expression m.reads), sym (ap is_nodes m.shape))))

-- what holds in every dialect
pub in_dialect : {A E : Type 0} (P : Dialect → A → Type 0) (d : Dialect) (r : Result A E) → IfOk r (λ a. (x : Dialect) → P x a) → IfOk r (P d)
in_dialect P d (Ok a) h = h d
in_dialect P d (Err e) h = tt

-- ---- all steps

-- the steps before the rest were kept as these, and nodes come to the rest or not
pub record Keeping (tests : Known) (d : Dialect) (all rest : List RawStep) (kept : List ChainStep) (nodes : Bool) : Type 0 where
  pub keeps : (more : List ChainStep) → AreKept tests d nodes rest more → AreKept tests d true all (kept ++ more)
  pub refuses : (why : Reason) → IsFirstRefusal tests d nodes rest why → IsFirstRefusal tests d true all why
  pub orders : (more : List ChainStep) → AreOrderedOver tests nodes more → AreOrderedOver tests true (kept ++ more)
  pub stores : (more : List ChainStep) → AreStored tests more → AreStored tests (kept ++ more)

module _ (tests : Known) (d : Dialect) where
  pub in_order : (nodes after : Bool) (s : ChainStep) (more : List ChainStep) → IsInOrder tests nodes s after → AreOrderedOver tests after more → AreOrderedOver tests nodes (s ∷ more)
  in_order nodes after (step.Query text) more i h = (i.0, (i.1.0, (i.1.1.0, (let P : Bool → Type 0 = λ b. AreOrderedOver tests b more in subst P i.1.1.1 h))))
  in_order nodes after (step.Match pattern) more i h = let P : Bool → Type 0 = λ b. AreOrderedOver tests b more in subst P i h
  in_order nodes after (step.Keep kind text) more i h = let P : Bool → Type 0 = λ b. AreOrderedOver tests b more in subst P i h

  keeping_more : (all rest : List RawStep) (r : RawStep) (kept : List ChainStep) (nodes after : Bool) (s : ChainStep) →
      Keeping tests d all (r ∷ rest) kept nodes → IsKept tests d nodes r s after → IsInOrder tests nodes s after → IsStepStored tests s → Keeping tests d all rest (kept ++ s ∷ []) after
  keeping_more all rest r kept nodes after s k is order stored = record {
    keeps = λ more h. (let P : List ChainStep → Type 0 = λ t. AreKept tests d true all t in subst P (sym (append_assoc kept (s ∷ []) more)) (k.keeps (s ∷ more) (after, (is, h))));
    refuses = λ why h. k.refuses why (inr (s, (after, (is, h))));
    orders = λ more h. (let P : List ChainStep → Type 0 = λ t. AreOrderedOver tests true t in subst P (sym (append_assoc kept (s ∷ []) more)) (k.orders (s ∷ more) (in_order nodes after s more order h)));
    stores = λ more h. (let P : List ChainStep → Type 0 = λ t. AreStored tests t in subst P (sym (append_assoc kept (s ∷ []) more)) (k.stores (s ∷ more) (stored, h)));
  }

  -- ---- by their places

  module _ (xs : List RawStep) where
    next_of : (i : ℕ) (r : RawStep) → r ≡ get_or xs i r → i < length xs → drop i xs ≡ r ∷ drop (i + 1) xs
    next_of i r e l = drop_more xs i r l ∙ ap (λ y. y ∷ drop (i + 1) xs) (sym e)

    pub keeping_next : (i : ℕ) (r : RawStep) (kept : List ChainStep) (nodes after : Bool) (s : ChainStep) → r ≡ get_or xs i r → i < length xs → Keeping tests d xs (drop i xs) kept nodes →
        IsKept tests d nodes r s after → IsInOrder tests nodes s after → IsStepStored tests s → Keeping tests d xs (drop (i + 1) xs) (kept ++ s ∷ []) after
    keeping_next i r kept nodes after s e l k is order stored =
        let P : List RawStep → Type 0 = λ rs. Keeping tests d xs rs kept nodes in
        keeping_more xs (drop (i + 1) xs) r kept nodes after s (subst P (next_of i r e l) k) is order stored

    at_end : (i : ℕ) (kept : List ChainStep) (nodes : Bool) → length xs ≤ i → Keeping tests d xs (drop i xs) kept nodes → Keeping tests d xs [] kept nodes
    at_end i kept nodes far k = let P : List RawStep → Type 0 = λ rs. Keeping tests d xs rs kept nodes in subst P (drop_all i xs far) k

    pub all_keep : (i : ℕ) (kept : List ChainStep) (nodes : Bool) → length xs ≤ i → Keeping tests d xs (drop i xs) kept nodes → AreKept tests d true xs kept
    all_keep i kept nodes far k = let P : List ChainStep → Type 0 = λ t. AreKept tests d true xs t in subst P (append-nil kept) ((at_end i kept nodes far k).keeps [] tt)

    pub all_ordered : (i : ℕ) (kept : List ChainStep) (nodes : Bool) → length xs ≤ i → Keeping tests d xs (drop i xs) kept nodes → AreOrderedOver tests true kept
    all_ordered i kept nodes far k = let P : List ChainStep → Type 0 = λ t. AreOrderedOver tests true t in subst P (append-nil kept) ((at_end i kept nodes far k).orders [] tt)

    pub all_stored : (i : ℕ) (kept : List ChainStep) (nodes : Bool) → length xs ≤ i → Keeping tests d xs (drop i xs) kept nodes → AreStored tests kept
    all_stored i kept nodes far k = let P : List ChainStep → Type 0 = λ t. AreStored tests t in subst P (append-nil kept) ((at_end i kept nodes far k).stores [] tt)
