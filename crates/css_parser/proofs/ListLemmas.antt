-- Lists of selectors.
use Rattle.std.proofs.Common.{◌≡◌, ℕ, ◌+◌, ◌<◌, true, false, List, [], ◌∷◌, ◌++◌, length, refl, sym, ◌∙◌, subst, arith, append_assoc}
use Rattle.css_lexer.specs.declared.tokens.CssKind.TheVariants as kind
use Rattle.css_lexer.specs.declared.tokens.CssToken.{CssToken}
use Rattle.css_parser.specs.declared.pieces.Compound.{Compound}
use Rattle.css_parser.specs.declared.pieces.SelectorRead.{SelectorRead}
use Rattle.css_parser.specs.Places.{stands, skip}
use Rattle.css_parser.specs.Grammar.{IsSelector, Others, From, Reads}
use Rattle.css_parser.specs.inner.Reading.{NoCompound, IsEnd, IsWholeSelector, IsReadUpTo}
use Rattle.std.specs.Prelude.{◌==◌}
use Rattle.css_parser.proofs.PlaceLemmas.{code_end}
use Rattle.css_parser.proofs.GrammarLemmas.{SameSelector, selector_same, end_at_comma, end_at_last}

module _ (text : List ℕ) (ts : List CssToken) where
  pub begun : IsReadUpTo text ts [] (skip ts 0)
  begun = record { goes = λ rest h. h; back = λ all h. (all, h) }

  -- a selector of a list cannot go on
  ends_there : (j : ℕ) (ss : List (List Compound)) → Others text ts (skip ts j) ss → IsEnd text ts j
  ends_there j [] h = end_at_last text ts j h
  ends_there j (s ∷ ss) h = end_at_comma text ts j h.1

  -- the selector that a list has at i is the one that is read there
  first_same : (i : ℕ) (r : SelectorRead) (s : List Compound) (ss : List (List Compound)) (j : ℕ) → IsWholeSelector text ts i r → IsSelector text ts i s j → Others text ts (skip ts j) ss → SameSelector text ts r.compounds s r.end j
  first_same i r s ss j h g others = selector_same text ts i r.end j r.compounds s h.is g h.ends (ends_there j ss others)

  others_after : (i : ℕ) (r : SelectorRead) (s : List Compound) (ss : List (List Compound)) → IsWholeSelector text ts i r → From text ts i (s ∷ ss) → Others text ts (skip ts r.end) ss
  others_after i r s ss h (j, g, others) = subst (λ n. Others text ts (skip ts n) ss) (sym (first_same i r s ss j h g others).end) others

  not_end : {A : Type 0} (i : ℕ) → i < length ts → i ≡ length ts → A
  not_end i l e = absurd (omega arith)

  pub went_on : (done : List (List Compound)) (i : ℕ) (r : SelectorRead) → IsReadUpTo text ts done i → IsWholeSelector text ts i r → skip ts r.end < length ts → stands kind.Comma ts (skip ts r.end) ≡ true
      → IsReadUpTo text ts (done ++ r.compounds ∷ []) (skip ts (skip ts r.end + 1))
  went_on done i r p h inside comma = record {
    goes = λ rest g. forth rest g;
    back = λ all g. let (rest, f) = p.back all g in behind rest f;
  }
    where
      forth : (rest : List (List Compound)) → From text ts (skip ts (skip ts r.end + 1)) rest → Reads text ts ((done ++ r.compounds ∷ []) ++ rest)
      forth [] g = absurd g
      forth (s ∷ ss) g = subst (Reads text ts) (sym (append_assoc done (r.compounds ∷ []) (s ∷ ss))) (p.goes (r.compounds ∷ s ∷ ss) (r.end, h.is, (g.0, comma, g.1, g.2)))

      next : (ss : List (List Compound)) → Others text ts (skip ts r.end) ss → (rest : List (List Compound)) × From text ts (skip ts (skip ts r.end + 1)) rest
      next [] o = not_end (skip ts r.end) inside o
      next (s ∷ ss) o = (s ∷ ss, (o.0, o.2, o.3))

      behind : (rest : List (List Compound)) → From text ts i rest → (more : List (List Compound)) × From text ts (skip ts (skip ts r.end + 1)) more
      behind [] f = absurd f
      behind (s ∷ ss) f = next ss (others_after i r s ss h f)

  pub finished : (done : List (List Compound)) (i : ℕ) (r : SelectorRead) → IsReadUpTo text ts done i → IsWholeSelector text ts i r → skip ts r.end ≡ length ts → Reads text ts (done ++ r.compounds ∷ [])
  finished done i r p h e = p.goes (r.compounds ∷ []) (r.end, h.is, e)

  pub no_selector : (done : List (List Compound)) (i : ℕ) → IsReadUpTo text ts done i → NoCompound text ts i → (all : List (List Compound)) → Reads text ts all → ⊥
  no_selector done i p none all g = let (rest, f) = p.back all g in nothing rest f
    where
      no_first : (s : List Compound) (j : ℕ) → IsSelector text ts i s j → ⊥
      no_first [] j h = h
      no_first (c ∷ cs) j h = none c h.0 h.2

      nothing : (rest : List (List Compound)) → From text ts i rest → ⊥
      nothing [] f = f
      nothing (s ∷ ss) f = no_first s f.0 f.1

  pub no_comma : (done : List (List Compound)) (i : ℕ) (r : SelectorRead) → IsReadUpTo text ts done i → IsWholeSelector text ts i r → skip ts r.end < length ts → stands kind.Comma ts (skip ts r.end) ≡ false
      → (all : List (List Compound)) → Reads text ts all → ⊥
  no_comma done i r p h inside none all g = let (rest, f) = p.back all g in nothing rest f
    where
      neither : (ss : List (List Compound)) → Others text ts (skip ts r.end) ss → ⊥
      neither [] o = not_end (skip ts r.end) inside o
      neither (s ∷ ss) o = let e : true ≡ false = sym o.1 ∙ none in cc

      nothing : (rest : List (List Compound)) → From text ts i rest → ⊥
      nothing [] f = f
      nothing (s ∷ ss) f = neither ss (others_after i r s ss h f)

  -- one list at most
  list_same : (s t : List Compound) (ss us : List (List Compound)) → s ≡ t → ss ≡ us → s ∷ ss ≡ t ∷ us
  list_same s t ss us e f = cc

  others_same : (i : ℕ) (ss us : List (List Compound)) → Others text ts i ss → Others text ts i us → ss ≡ us
  others_same i [] [] h g = refl
  others_same i [] (u ∷ us) h g = let past = code_end ts i (omega arith) in let e : (0 == 19) ≡ true = subst (λ n. (n == 19) ≡ true) past g.1 in cc
  others_same i (s ∷ ss) [] h g = let past = code_end ts i (omega arith) in let e : (0 == 19) ≡ true = subst (λ n. (n == 19) ≡ true) past h.1 in cc
  others_same i (s ∷ ss) (u ∷ us) h g =
      let first = selector_same text ts (skip ts (i + 1)) h.0 g.0 s u h.2 g.2 (ends_there h.0 ss h.3) (ends_there g.0 us g.3) in
      list_same s u ss us first.compounds (others_same (skip ts h.0) ss us h.3 (subst (λ n. Others text ts (skip ts n) us) (sym first.end) g.3))

  pub reads_same : (list other : List (List Compound)) → Reads text ts list → Reads text ts other → list ≡ other
  reads_same [] other h g = absurd h
  reads_same (s ∷ ss) [] h g = absurd g
  reads_same (s ∷ ss) (u ∷ us) h g =
      let first = selector_same text ts (skip ts 0) h.0 g.0 s u h.1 g.1 (ends_there h.0 ss h.2) (ends_there g.0 us g.2) in
      list_same s u ss us first.compounds (others_same (skip ts h.0) ss us h.2 (subst (λ n. Others text ts (skip ts n) us) (sym first.end) g.2))
