-- The text after a block's name is a block's or is not, and its steps are kept or refused.
use Rattle.std.proofs.Common.{◌≡◌, ◌⊎◌, ℕ, ◌<◌, ◌≤◌, Bool, true, false, List, [], ◌∷◌, ◌++◌, length, refl, sym, ◌∙◌, ap, codes, arith, inl, inr}
use Rattle.std.specs.Prelude.{◌||◌, Option, Some, None}
use Rattle.std.specs.List.{list_any}
use Rattle.std.specs.Str.{bytes_eq}
use Rattle.std.proofs.lemmas.Bool.{cases_lt}
use Rattle.std.proofs.lemmas.Bool.Decides.{nat_tests}
use Rattle.std.proofs.lemmas.Slice.Eq.{bytes_eq-Decides}
use Rattle.test_registry.specs.Names.{Known}
use Rattle.css_selectors.specs.declared.selector.Dialect.{Dialect}
use Rattle.query_script.specs.declared.script.ChainStep.{ChainStep}
use Rattle.query_script.specs.declared.script.Reason.{Reason}
use Rattle.query_script.specs.declared.script.Reason.TheVariants as reason
use Rattle.query_script.specs.declared.steps.RawStep.{RawStep}
use Rattle.query_script.specs.declared.steps.RawStep.TheVariants as raw
use Rattle.query_script.specs.Cuts.{is_point, trimmed, fields_of}
use Rattle.query_script.specs.Queries.{IsKept, IsRefused}
use Rattle.query_script.specs.Steps.{AreStepsText, parts}
use Rattle.query_script.specs.inner.Reader.{read_steps}
use Rattle.query_script.proofs.ChainLemmas.{cut_some, cut_none}
use Rattle.query_script.proofs.Exists.{a_step}
use Rattle.page_records.specs.Braces.{opens, closes, stands, before_outside, after_outside}
use Rattle.page_records.specs.Blocks.{IsBlockText, IsWritten, AreRowSteps, IsFirstRefused, IsNoBlock, most_body}
use Rattle.page_records.proofs.ContentLemmas.{no_steps}
use Rattle.page_records.proofs.WordLemmas.{unclosed, pointless, another, nested, followed, is_text}

-- ---- the text

-- there is no point, or there is a last one
Last : List ℕ → Type 0
Last text = (list_any is_point text ≡ false) ⊎ ((front : List ℕ) × ((word : List ℕ) × ((text ≡ front ++ 46 ∷ word) × (list_any is_point word ≡ false))))

is_point_of : (c : ℕ) → is_point c ≡ true → c ≡ 46
is_point_of c e = grind (arith, nat_tests)

last_of : (text : List ℕ) → Last text
unfolding Last
last_of [] = inl refl
last_of (c ∷ text) = by_rest (last_of text)
  where
    by_byte : list_any is_point text ≡ false → (b : Bool) → is_point c ≡ b → Last (c ∷ text)
    by_byte none true e = inr ([], (text, (ap (λ x. x ∷ text) (is_point_of c e), none)))
    by_byte none false e = inl (ap (λ b. b || list_any is_point text) e ∙ none)

    by_rest : Last text → Last (c ∷ text)
    by_rest (inl none) = by_byte none (is_point c) refl
    by_rest (inr l) = inr (c ∷ l.0, (l.1.0, (ap (λ t. c ∷ t) l.1.1.0, l.1.1.1)))

-- a text is empty or not
is_none : (text : List ℕ) → (text ≡ []) ⊎ (text ≡ [] → ⊥)
is_none [] = inl refl
is_none (c ∷ text) = inr (λ e. cc)

is_word : (text word : List ℕ) → (text ≡ word) ⊎ (text ≡ word → ⊥)
is_word text word = by_test (bytes_eq text word) refl
  where
    by_test : (b : Bool) → bytes_eq text word ≡ b → (text ≡ word) ⊎ (text ≡ word → ⊥)
    by_test true e = inl ((bytes_eq-Decides text word).0 e)
    by_test false e = inr (λ same. let clash : false ≡ true = sym e ∙ (bytes_eq-Decides text word).1 same in cc)

-- what its steps are written in and its body, or that there is no such
Shape : List ℕ → Type 0
Shape text = ((front : List ℕ) × ((body : List ℕ) × IsBlockText text front body)) ⊎ ((front body : List ℕ) → IsBlockText text front body → ⊥)

a_shape : (text : List ℕ) → Shape text
unfolding Shape Last
a_shape text = by_close (stands closes 0 rest) refl
  where
    head : List ℕ
    head = before_outside opens 0 text

    rest : List ℕ
    rest = after_outside opens 0 text

    inside : List ℕ
    inside = before_outside closes 0 rest

    after : List ℕ
    after = after_outside closes 0 rest

    by_word : stands closes 0 rest ≡ true → stands opens 0 inside ≡ false → trimmed after ≡ [] → (front word : List ℕ) → head ≡ front ++ 46 ∷ word → list_any is_point word ≡ false →
        (trimmed word ≡ codes "each") ⊎ (trimmed word ≡ codes "each" → ⊥) → Shape text
    by_word closed plain blank front word e none (inl each) = inl (front, (inside, is_text text head rest refl refl inside after refl refl front word e each closed plain blank))
    by_word closed plain blank front word e none (inr other) = inr (another text head rest refl refl front word e none other)

    by_last : stands closes 0 rest ≡ true → stands opens 0 inside ≡ false → trimmed after ≡ [] → Last head → Shape text
    by_last closed plain blank (inl none) = inr (pointless text head rest refl refl none)
    by_last closed plain blank (inr l) = by_word closed plain blank l.0 l.1.0 l.1.1.0 l.1.1.1 (is_word (trimmed l.1.0) (codes "each"))

    by_after : stands closes 0 rest ≡ true → stands opens 0 inside ≡ false → (trimmed after ≡ []) ⊎ (trimmed after ≡ [] → ⊥) → Shape text
    by_after closed plain (inl blank) = by_last closed plain blank (last_of head)
    by_after closed plain (inr more) = inr (followed text head rest refl refl inside after refl refl more)

    by_open : stands closes 0 rest ≡ true → (b : Bool) → stands opens 0 inside ≡ b → Shape text
    by_open closed true e = inr (nested text head rest refl refl inside after refl refl e)
    by_open closed false e = by_after closed e (is_none (trimmed after))

    by_close : (b : Bool) → stands closes 0 rest ≡ b → Shape text
    by_close true e = by_open e (stands opens 0 inside) refl
    by_close false e = inr (unclosed text head rest refl refl e)

-- its steps and its body, or that there are none
abbrev pub Text : List ℕ → Type 0
Text text = ((written : List RawStep) × ((body : List ℕ) × IsWritten text written body)) ⊎ IsNoBlock text

pub a_text : (text : List ℕ) → Text text
unfolding Shape
a_text text = by_shape (a_shape text)
  where
    by_few : (front body : List ℕ) → IsBlockText text front body → (written : List RawStep) → AreStepsText front written → 0 < length (fields_of body) →
        (most_body < length (fields_of body)) ⊎ (length (fields_of body) ≤ most_body) → Text text
    by_few front body is written are some (inl many) = inr (λ w b h. let same : b ≡ body = h.parts.is ∙ sym is.is in
        let count : length (fields_of b) ≡ length (fields_of body) = ap (λ t. length (fields_of t)) same in omega (arith, h.few, many, count))
    by_few front body is written are some (inr few) = inl (written, (body, record { front = front; parts = is; are = are; some = some; few = few }))

    by_some : (front body : List ℕ) → IsBlockText text front body → (written : List RawStep) → AreStepsText front written → (0 < length (fields_of body)) ⊎ (length (fields_of body) ≤ 0) → Text text
    by_some front body is written are (inl some) = by_few front body is written are some (cases_lt most_body (length (fields_of body)))
    by_some front body is written are (inr none) = inr (λ w b h. let same : b ≡ body = h.parts.is ∙ sym is.is in
        let count : length (fields_of b) ≡ length (fields_of body) = ap (λ t. length (fields_of t)) same in omega (arith, h.some, none, count))

    by_steps : (front body : List ℕ) → IsBlockText text front body → (o : Option (List RawStep)) → read_steps (parts front) ≡ o → Text text
    by_steps front body is (Some written) e = by_some front body is written (cut_some front written (sym e)) (cases_lt 0 (length (fields_of body)))
    by_steps front body is None e = inr (no_steps text front body is (cut_none front (sym e)))

    by_shape : Shape text → Text text
    by_shape (inl s) = by_steps s.0 s.1.0 s.1.1 (read_steps (parts s.0)) refl
    by_shape (inr none) = inr (λ written body w. none w.front body w.parts)

-- ---- the steps

module _ (tests : Known) (d : Dialect) where
  abbrev pub Steps : Bool → List RawStep → Type 0
  Steps nodes rs = ((kept : List ChainStep) × AreRowSteps tests d nodes rs kept) ⊎ ((why : Reason) × IsFirstRefused tests d nodes rs why)

  pub some_rows : (nodes : Bool) (rs : List RawStep) → Steps nodes rs
  some_rows true [] = inl ([], refl)
  some_rows false [] = inr (reason.Order, (refl, refl))
  some_rows nodes (raw.Re text ∷ rs) = inr (reason.Order, inl refl)
  some_rows nodes (raw.Keep name text ∷ rs) = inr (reason.Order, inl refl)
  some_rows nodes (raw.Css text ∷ rs) = by_first (λ b. some_rows b rs) (a_step tests d nodes (raw.Css text))
    where
      by_rest : (s : ChainStep) (after : Bool) → IsKept tests d nodes (raw.Css text) s after → Steps after rs → Steps nodes (raw.Css text ∷ rs)
      by_rest s after h (inl rest) = inl (s ∷ rest.0, (after, ((refl, h), rest.1)))
      by_rest s after h (inr why) = inr (why.0, inr (s, (after, ((refl, h), why.1))))

      by_first : ((b : Bool) → Steps b rs) → ((s : ChainStep) × ((after : Bool) × IsKept tests d nodes (raw.Css text) s after)) ⊎ ((why : Reason) × IsRefused tests d nodes (raw.Css text) why) →
          Steps nodes (raw.Css text ∷ rs)
      by_first go (inl kept) = by_rest kept.0 kept.1.0 kept.1.1 (go kept.1.0)
      by_first go (inr why) = inr (why.0, inl why.1)
  some_rows nodes (raw.XPath text ∷ rs) = by_first (λ b. some_rows b rs) (a_step tests d nodes (raw.XPath text))
    where
      by_rest : (s : ChainStep) (after : Bool) → IsKept tests d nodes (raw.XPath text) s after → Steps after rs → Steps nodes (raw.XPath text ∷ rs)
      by_rest s after h (inl rest) = inl (s ∷ rest.0, (after, ((refl, h), rest.1)))
      by_rest s after h (inr why) = inr (why.0, inr (s, (after, ((refl, h), why.1))))

      by_first : ((b : Bool) → Steps b rs) → ((s : ChainStep) × ((after : Bool) × IsKept tests d nodes (raw.XPath text) s after)) ⊎ ((why : Reason) × IsRefused tests d nodes (raw.XPath text) why) →
          Steps nodes (raw.XPath text ∷ rs)
      by_first go (inl kept) = by_rest kept.0 kept.1.0 kept.1.1 (go kept.1.0)
      by_first go (inr why) = inr (why.0, inl why.1)
