-- The pieces of a UTF-8 text are UTF-8: a text is cut and trimmed at ASCII bytes alone.
use Rattle.std.proofs.Common.{◌≡◌, ℕ, suc, ◌+◌, ◌<◌, Bool, true, false, List, [], ◌∷◌, ◌++◌, length, drop, get_or, map, refl, sym, ◌∙◌, ap, subst, arith, append_assoc}
use Rattle.std.specs.Prelude.{◌==◌, ◌&&◌, filter, if◌then◌else◌}
use Rattle.std.specs.List.{AllByRecursion, list_all}
use Rattle.std.specs.Str.{IsUtf8}
use Rattle.std.proofs.lemmas.Bool.Decides.{nat_tests}
use Rattle.std.proofs.lemmas.List.{append-nil, length-append}
use Rattle.std.proofs.lemmas.Str.{IsUtf8-append, IsUtf8-take, IsUtf8-drop, IsCharBoundary-before_ascii, IsCharBoundary-after_ascii}
use Rattle.std.proofs.Math.Seq.{take-append_seam, get_or-append_seam}
use Rattle.query_script.specs.Cuts.{is_blank, is_written, quote_after, onto_first, pieces, skip_front, skip_back, trimmed}
use Rattle.query_script.specs.Steps.{doubled}

abbrev Bytes : Type 0
Bytes = List ℕ

abbrev pub AreUtf8 : List Bytes → Type 0
AreUtf8 texts = AllByRecursion IsUtf8 texts

-- what stands before an ASCII byte, and after it
module _ (xs : Bytes) (c : ℕ) (ys : Bytes) (ascii : c < 128) (utf8 : IsUtf8 (xs ++ c ∷ ys)) where
  here : get_or (xs ++ c ∷ ys) (length xs) 0 < 128
  here = let e = get_or-append_seam xs c ys 0 in omega arith

  within : length xs < length (xs ++ c ∷ ys)
  within = let n = length-append xs (c ∷ ys) in omega arith

  pub utf8_before : IsUtf8 xs
  utf8_before = subst IsUtf8 (take-append_seam xs (c ∷ ys)) (IsUtf8-take (xs ++ c ∷ ys) (length xs) utf8 (IsCharBoundary-before_ascii (xs ++ c ∷ ys) (length xs) within here))

  pub utf8_after : IsUtf8 ys
  utf8_after = subst IsUtf8 (past xs) (IsUtf8-drop (xs ++ c ∷ ys) (length xs + 1) utf8 (IsCharBoundary-after_ascii (xs ++ c ∷ ys) (length xs) utf8 within here))
    where
      past : (us : Bytes) → drop (length us + 1) (us ++ c ∷ ys) ≡ ys
      past [] = refl
      past (u ∷ us) = ap (λ k. drop k (u ∷ (us ++ c ∷ ys))) (let n : length (u ∷ us) + 1 ≡ suc (length us + 1) = omega arith in n) ∙ past us

-- ---- cut

-- what is put in front of the first piece makes it UTF-8, and the others are
abbrev pub FirstUtf8 : Bytes → List Bytes → Type 0
FirstUtf8 u [] = IsUtf8 u
FirstUtf8 u (p ∷ ps) = IsUtf8 (u ++ p) × AreUtf8 ps

pub all_utf8 : (ps : List Bytes) → FirstUtf8 [] ps → AreUtf8 ps
all_utf8 [] h = tt
all_utf8 (p ∷ ps) h = h

pub one_onto : (u : Bytes) (c : ℕ) (ps : List Bytes) → FirstUtf8 (u ++ c ∷ []) ps → FirstUtf8 u (onto_first c ps)
one_onto u c [] h = (h, tt)
one_onto u c (p ∷ ps) h = (subst IsUtf8 (append_assoc u (c ∷ []) p) h.0, h.1)

module _ (cuts : ℕ → Bool) (ascii : (q c : ℕ) → ((q == 0) && cuts c) ≡ true → c < 128) where
  first_utf8 : (text u : Bytes) (q : ℕ) → IsUtf8 (u ++ text) → FirstUtf8 u (pieces cuts q text)
  first_utf8 [] u q h = (h, tt)
  first_utf8 (c ∷ text) u q h = by_cut ((q == 0) && cuts c) refl (λ v p g. first_utf8 text v p g)
    where
      by_cut : (b : Bool) → ((q == 0) && cuts c) ≡ b → ((v : Bytes) (p : ℕ) → IsUtf8 (v ++ text) → FirstUtf8 v (pieces cuts p text)) →
          FirstUtf8 u (if b then [] ∷ pieces cuts 0 text else onto_first c (pieces cuts (quote_after q c) text))
      by_cut true e go = (subst IsUtf8 (sym (append-nil u)) (utf8_before u c text (ascii q c e) h), all_utf8 (pieces cuts 0 text) (go [] 0 (utf8_after u c text (ascii q c e) h)))
      by_cut false e go = one_onto u c (pieces cuts (quote_after q c) text) (go (u ++ c ∷ []) (quote_after q c) (subst IsUtf8 (sym (append_assoc u (c ∷ []) text)) h))

  pub pieces_utf8 : (text : Bytes) → IsUtf8 text → AreUtf8 (pieces cuts 0 text)
  pieces_utf8 text h = all_utf8 (pieces cuts 0 text) (first_utf8 text [] 0 h)

-- ---- trimmed

blank_ascii : (c : ℕ) → is_blank c ≡ true → c < 128
blank_ascii c h = grind (arith, nat_tests)

both : (a b : Bool) → (a && b) ≡ true → (a ≡ true) × (b ≡ true)
both true b e = (refl, e)
both false b e = cc

front_utf8 : (text : Bytes) → IsUtf8 text → IsUtf8 (skip_front text)
front_utf8 [] h = h
front_utf8 (c ∷ text) h = by_blank (is_blank c) refl (λ g. front_utf8 text g)
  where
    by_blank : (b : Bool) → is_blank c ≡ b → (IsUtf8 text → IsUtf8 (skip_front text)) → IsUtf8 (if b then skip_front text else c ∷ text)
    by_blank true e go = go (utf8_after [] c text (blank_ascii c e) h)
    by_blank false e go = h

back_utf8 : (text u : Bytes) → IsUtf8 (u ++ text) → IsUtf8 (u ++ skip_back text)
back_utf8 [] u h = h
back_utf8 (c ∷ text) u h = by_blank (is_blank c && list_all is_blank text) refl (λ v g. back_utf8 text v g)
  where
    by_blank : (b : Bool) → (is_blank c && list_all is_blank text) ≡ b → ((v : Bytes) → IsUtf8 (v ++ text) → IsUtf8 (v ++ skip_back text)) → IsUtf8 (u ++ (if b then [] else c ∷ skip_back text))
    by_blank true e go = subst IsUtf8 (sym (append-nil u)) (utf8_before u c text (blank_ascii c (both (is_blank c) (list_all is_blank text) e).0) h)
    by_blank false e go = subst IsUtf8 (append_assoc u (c ∷ []) (skip_back text)) (go (u ++ c ∷ []) (subst IsUtf8 (sym (append_assoc u (c ∷ []) text)) h))

trimmed_utf8 : (text : Bytes) → IsUtf8 text → IsUtf8 (trimmed text)
trimmed_utf8 text h = back_utf8 (skip_front text) [] (front_utf8 text h)

pub all_trimmed : (texts : List Bytes) → AreUtf8 texts → AreUtf8 (map trimmed texts)
all_trimmed [] h = tt
all_trimmed (t ∷ texts) h = (trimmed_utf8 t h.0, all_trimmed texts h.1)

-- ---- chosen

pub written_utf8 : (texts : List Bytes) → AreUtf8 texts → AreUtf8 (filter is_written texts)
written_utf8 [] h = tt
written_utf8 (t ∷ texts) h = by_written (is_written t) (written_utf8 texts h.1)
  where
    by_written : (b : Bool) → AreUtf8 (filter is_written texts) → AreUtf8 (if b then t ∷ filter is_written texts else filter is_written texts)
    by_written true g = (h.0, g)
    by_written false g = g

pub front_of : (xs ys : List Bytes) → AreUtf8 (xs ++ ys) → AreUtf8 xs
front_of [] ys h = tt
front_of (x ∷ xs) ys h = (h.0, front_of xs ys h.1)

-- ---- undoubled

pub undoubled : (q : ℕ) → q < 128 → (v u : Bytes) → IsUtf8 (u ++ doubled q v) → IsUtf8 (u ++ v)
undoubled q ascii [] u h = h
undoubled q ascii (c ∷ v) u h = by_quote (c == q) refl h (λ w g. undoubled q ascii v w g)
  where
    is_same : (a b : ℕ) → (a == b) ≡ true → b ≡ a
    is_same a b e = grind (arith, nat_tests)

    put : (k : ℕ) → ((w : Bytes) → IsUtf8 (w ++ doubled q v) → IsUtf8 (w ++ v)) → IsUtf8 (u ++ k ∷ doubled q v) → IsUtf8 (u ++ k ∷ v)
    put k go g = subst IsUtf8 (append_assoc u (k ∷ []) v) (go (u ++ k ∷ []) (subst IsUtf8 (sym (append_assoc u (k ∷ []) (doubled q v))) g))

    by_quote : (b : Bool) → (c == q) ≡ b → IsUtf8 (u ++ (if b then q ∷ q ∷ doubled q v else c ∷ doubled q v)) → ((w : Bytes) → IsUtf8 (w ++ doubled q v) → IsUtf8 (w ++ v)) → IsUtf8 (u ++ c ∷ v)
    by_quote true e g go =
        let P : ℕ → Type 0 = λ k. IsUtf8 (u ++ k ∷ v) in
        let once = IsUtf8-append u (q ∷ doubled q v) (utf8_before u q (q ∷ doubled q v) ascii g) (utf8_after u q (q ∷ doubled q v) ascii g) in
        subst P (is_same c q e) (put q go once)
    by_quote false e g go = put c go g
