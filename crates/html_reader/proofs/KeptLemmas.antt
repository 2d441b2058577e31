-- The attributes that are kept have names, and different ones.
use Rattle.std.proofs.Common.{◌≡◌, ℕ, List, [], ◌∷◌, Bool, true, false, cond, sym, refl, subst}
use Rattle.std.specs.Prelude.{◌≢◌}
use Rattle.std.specs.Str.{IsUtf8, bytes_eq, str_to_ascii_lowercase}
use Rattle.std.proofs.lemmas.Slice.Eq.{bytes_eq-Decides}
use Rattle.std.proofs.lemmas.Bool.{both_ways}
use Rattle.text_base.proofs.Text.{same_bytes}
use Rattle.html_reader.specs.Tokens.{Attr}
use Rattle.html_reader.specs.inner.Kept.{IsNew, AreKept}
use Rattle.html_reader.specs.inner.Keeping.{HaveTexts}
use Rattle.html_reader.specs.Contents.{without, kept}
use Rattle.html_reader.proofs.PieceLemmas.{some_chars}

-- the names that are written are not empty
abbrev pub HaveNames : List (List ℕ × List ℕ) → Type 0
HaveNames [] = Unit {0}
HaveNames (p ∷ written) = (p.0 ≢ []) × HaveNames written

texts_back : (name : List ℕ) (attrs : List Attr) → IsUtf8 name → HaveTexts (without name attrs) → HaveTexts attrs
texts_back name [] u h = tt
texts_back name (a ∷ attrs) u h = by_test (bytes_eq a.name name) refl (λ k. texts_back name attrs u k) h
  where
    by_test : (b : Bool) → bytes_eq a.name name ≡ b → (HaveTexts (without name attrs) → HaveTexts attrs) → HaveTexts (cond b (without name attrs) (a ∷ without name attrs)) → HaveTexts (a ∷ attrs)
    by_test true is back k = (subst IsUtf8 (sym ((bytes_eq-Decides a.name name).0 is)) u, back k)
    by_test false is back k = (k.0, back k.1)

new_without : (m name : List ℕ) (attrs : List Attr) → IsNew m attrs → IsNew m (without name attrs)
new_without m name [] h = tt
new_without m name (a ∷ attrs) h = by_test (bytes_eq a.name name) (new_without m name attrs h.1)
  where
    by_test : (b : Bool) → IsNew m (without name attrs) → IsNew m (cond b (without name attrs) (a ∷ without name attrs))
    by_test true k = k
    by_test false k = (h.0, k)

kept_without : (name : List ℕ) (attrs : List Attr) → AreKept attrs → AreKept (without name attrs)
kept_without name [] h = tt
kept_without name (a ∷ attrs) h = by_test (bytes_eq a.name name) (kept_without name attrs h.2)
  where
    by_test : (b : Bool) → AreKept (without name attrs) → AreKept (cond b (without name attrs) (a ∷ without name attrs))
    by_test true k = k
    by_test false k = (h.0, new_without a.name name attrs h.1, k)

new_after : (name : List ℕ) (attrs : List Attr) → IsUtf8 name → HaveTexts attrs → IsNew name (without name attrs)
new_after name [] u h = tt
new_after name (a ∷ attrs) u h = by_test (bytes_eq a.name name) refl (new_after name attrs u h.1)
  where
    by_test : (b : Bool) → bytes_eq a.name name ≡ b → IsNew name (without name attrs) → IsNew name (cond b (without name attrs) (a ∷ without name attrs))
    by_test true is k = k
    by_test false is k = ((λ e. both_ways _ is ((bytes_eq-Decides a.name name).1 (same_bytes a.name name h.0 u e))), k)

pub lower_some : (name : List ℕ) → name ≢ [] → str_to_ascii_lowercase name ≢ []
lower_some [] h e = h refl
lower_some (c ∷ cs) h e = cc

pub kept_are : (written : List (List ℕ × List ℕ)) → HaveNames written → HaveTexts (kept written) → AreKept (kept written)
kept_are [] named texts = tt
kept_are (p ∷ written) named texts =
    let name = str_to_ascii_lowercase p.0 in
    let rest = texts_back name (kept written) texts.0 texts.1 in
    (some_chars name texts.0 (lower_some p.0 named.0), new_after name (kept written) texts.0 rest, kept_without name (kept written) (kept_are written named.1 rest))
