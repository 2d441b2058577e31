-- What can be written of a page is known well enough for its document.
use Rattle.std.proofs.Common.{◌≡◌, ℕ, Bool, true, false, ◌&&◌, List, [], ◌∷◌, sym, refl, ap, subst}
use Rattle.std.specs.Prelude.{not}
use Rattle.std.proofs.lemmas.Bool.{both_ways}
use Rattle.html_lexer.specs.Names.{is_raw, is_escapable}
use Rattle.html_reader.specs.Tokens.{Attr, text, comment, doctype}
use Rattle.html_reader.specs.Forest.{Forest, nothing, then_leaf, then_element}
use Rattle.html_reader.specs.Tables.{is_void}
use Rattle.html_reader.proofs.InkLemmas.{IsInk, Inside, IsRawInside}
use Rattle.html_reader.proofs.InkParts.{is_literal}
use Rattle.html_reader.proofs.InkLawLemmas.{AttrsUtf8, IsTextual}
use Rattle.markup_back.proofs.CanonicalLemmas.{IsLone, AreNames, IsSpelt}

attr_names : (attrs : List Attr) → AttrsUtf8 attrs → AreNames attrs
attr_names [] h = tt
attr_names (a ∷ attrs) h = (h.0, attr_names attrs h.2)

raw_lone : (name : List ℕ) (g : Forest) → IsRawInside name g → IsLone g
raw_lone name nothing h = tt
raw_lone name (then_leaf (text []) rest) h = absurd h
raw_lone name (then_leaf (text (c ∷ cs)) rest) h = h.2
raw_lone name (then_leaf (comment s) rest) h = absurd h
raw_lone name (then_leaf doctype rest) h = absurd h
raw_lone name (then_element tag inside inserted rest) h = absurd h

raw_spelt : (name : List ℕ) (g : Forest) → IsRawInside name g → IsSpelt g
raw_spelt name nothing h = tt
raw_spelt name (then_leaf (text []) rest) h = absurd h
raw_spelt name (then_leaf (text (c ∷ cs)) rest) h = (h.0, subst IsSpelt (sym h.2) tt)
raw_spelt name (then_leaf (comment s) rest) h = absurd h
raw_spelt name (then_leaf doctype rest) h = absurd h
raw_spelt name (then_element tag inside inserted rest) h = absurd h

inside_lone : (void raw : Bool) (name : List ℕ) (inside : Forest) (other : Type 0) → is_raw name ≡ raw → Inside void raw name inside other → is_literal name ≡ true → IsLone inside
inside_lone true raw name inside other e h lit = subst IsLone (sym h.0) tt
inside_lone false true name inside other e h lit = raw_lone name inside h.1
inside_lone false false name inside other e h lit = absurd (both_ways _ (ap (λ b. b && not (is_escapable name)) e) lit)

inside_spelt : (void raw : Bool) (name : List ℕ) (inside : Forest) → Inside void raw name inside (IsInk inside) → (IsInk inside → IsSpelt inside) → IsSpelt inside
inside_spelt true raw name inside h later = subst IsSpelt (sym h.0) tt
inside_spelt false true name inside h later = raw_spelt name inside h.1
inside_spelt false false name inside h later = later h

pub spelt_of : (g : Forest) → IsInk g → IsTextual g → IsSpelt g
spelt_of nothing h u = tt
spelt_of (then_leaf (text []) rest) h u = absurd h
spelt_of (then_leaf (text (c ∷ cs)) rest) h u = (u.0, spelt_of rest h.2 u.1)
spelt_of (then_leaf (comment s) rest) h u = (u.0, spelt_of rest h.1 u.1)
spelt_of (then_leaf doctype rest) h u = absurd h
spelt_of (then_element tag inside inserted rest) h u =
    (u.0, h.0.1, attr_names tag.attrs u.1, inside_lone (is_void tag.name) (is_raw tag.name) tag.name inside (IsInk inside) refl h.2, inside_spelt (is_void tag.name) (is_raw tag.name) tag.name inside h.2 (λ k. spelt_of inside k u.2), spelt_of rest h.3 u.3)
