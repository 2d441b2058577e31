-- Entries with their values, one after the other.
use Rattle.std.proofs.Common.{◌≡◌, refl, ℕ, ◌+◌, ◌<◌, zero, suc, List, [], ◌∷◌, ◌++◌, ap, map, zip, take, length, get_or, arith, add-one}
use Rattle.std.proofs.lemmas.List.{map-append}
use Rattle.serde_json.specs.Data.{Data}
use Rattle.serde_json.specs.View.{view}
use Rattle.serde_json.specs.declared.value.Value.{Value}
use Rattle.json_lines.proofs.Zips.{zip_next, zip_all}
use Rattle.page_records.specs.declared.script.Entry.{Entry}
use Rattle.page_records.specs.declared.script.EntryValue.{EntryValue}
use Rattle.page_records.specs.Lines.{HasForm, HaveForms, entry_data}

-- as many values as entries
pub forms_length : (es : List Entry) (vs : List EntryValue) → HaveForms es vs → length es ≡ length vs
forms_length [] [] h = refl
forms_length [] (v ∷ vs) h = absurd h
forms_length (e ∷ es) [] h = absurd h
forms_length (e ∷ es) (v ∷ vs) h = ap suc (forms_length es vs h.1)

-- the value at a place has the form of the entry there
pub form_at : (es : List Entry) (vs : List EntryValue) (i : ℕ) (e : Entry) (v : EntryValue) → HaveForms es vs → i < length es → e ≡ get_or es i e → v ≡ get_or vs i v
    → HasForm e v
form_at [] vs i e v h w p q = absurd (omega arith)
form_at (a ∷ es) [] i e v h w p q = absurd h
form_at (a ∷ es) (b ∷ vs) zero e v h w p q = rw (p, q) h.0
form_at (a ∷ es) (b ∷ vs) (suc i) e v h w p q = form_at es vs i e v h.1 (omega arith) p q

abbrev pub pair_data : Entry × EntryValue → Data
pair_data p = entry_data p.0 p.1

-- one object more
pub entries_more : (es : List Entry) (vs : List EntryValue) (items : List Value) (i : ℕ) (e : Entry) (v : EntryValue) (x : Value)
    → map view items ≡ map pair_data (take i (zip es vs)) → i < length es → length es ≡ length vs → e ≡ get_or es i e → v ≡ get_or vs i v → view x ≡ entry_data e v
    → map view (items ++ x ∷ []) ≡ map pair_data (take (i + 1) (zip es vs))
entries_more es vs items i e v x h w l p q is =
    rw (add-one, zip_next es vs i e v w l p q, map-append view items (x ∷ []), map-append pair_data (take i (zip es vs)) ((e, v) ∷ []), h, is) refl

pub entries_all : (es : List Entry) (vs : List EntryValue) (i : ℕ) → length es ≡ i → length es ≡ length vs
    → map pair_data (take i (zip es vs)) ≡ map pair_data (zip es vs)
entries_all es vs i e l = rw (zip_all es vs i e l) refl
