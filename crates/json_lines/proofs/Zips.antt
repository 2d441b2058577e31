-- Fields with their values, one after the other.
use Rattle.std.proofs.Common.{◌≡◌, refl, ℕ, ◌+◌, ◌<◌, zero, suc, List, [], ◌∷◌, ◌++◌, ap, ◌∙◌, map, zip, take, length, get_or, arith, add-one}
use Rattle.std.proofs.lemmas.List.{map-append}
use Rattle.std.specs.Prelude.{encode_utf8_all}
use Rattle.serde_json.specs.Data.{Data}
use Rattle.serde_json.specs.View.{view}
use Rattle.serde_json.specs.declared.value.Value.{Value}
use Rattle.query_script.specs.declared.script.Field.{Field}
use Rattle.query_script.specs.declared.script.FieldValue.{FieldValue}
use Rattle.json_lines.specs.Pages.{field_data}

pub zip_next : {A B : Type 0} (ks : List A) (bs : List B) (i : ℕ) (a : A) (b : B) → i < length ks → length ks ≡ length bs → a ≡ get_or ks i a → b ≡ get_or bs i b
    → take (suc i) (zip ks bs) ≡ take i (zip ks bs) ++ (a, b) ∷ []
zip_next [] bs i a b w l p q = absurd (omega arith)
zip_next (x ∷ ks) [] i a b w l p q = absurd (omega arith)
zip_next (x ∷ ks) (y ∷ bs) zero a b w l p q = rw (p, q) refl
zip_next (x ∷ ks) (y ∷ bs) (suc i) a b w l p q = ap (λ t. (x, y) ∷ t) (zip_next ks bs i a b (omega arith) (omega arith) p q)

pub zip_all : {A B : Type 0} (ks : List A) (bs : List B) (i : ℕ) → length ks ≡ i → length ks ≡ length bs → take i (zip ks bs) ≡ zip ks bs
zip_all [] bs zero e l = refl
zip_all [] bs (suc i) e l = refl
zip_all (x ∷ ks) [] i e l = absurd (omega arith)
zip_all (x ∷ ks) (y ∷ bs) zero e l = absurd (omega arith)
zip_all (x ∷ ks) (y ∷ bs) (suc i) e l = ap (λ t. (x, y) ∷ t) (zip_all ks bs i (omega arith) (omega arith))

-- one object more
pub fields_more : (fields : List Field) (values : List FieldValue) (items : List Value) (i : ℕ) (f : Field) (v : FieldValue) (x : Value) (name : List ℕ)
    → map view items ≡ map (λ (p : Field × FieldValue). field_data (encode_utf8_all p.0.name) p.1) (take i (zip fields values))
    → i < length fields → length fields ≡ length values → f ≡ get_or fields i f → v ≡ get_or values i v → name ≡ encode_utf8_all f.name → view x ≡ field_data name v
    → map view (items ++ x ∷ []) ≡ map (λ (p : Field × FieldValue). field_data (encode_utf8_all p.0.name) p.1) (take (i + 1) (zip fields values))
fields_more fields values items i f v x name h w l p q n e =
    let g : Field × FieldValue → Data = λ (p : Field × FieldValue). field_data (encode_utf8_all p.0.name) p.1 in
    let last : view x ≡ g (f, v) = e ∙ ap (λ m. field_data m v) n in
    rw (add-one, zip_next fields values i f v w l p q, map-append view items (x ∷ []), map-append g (take i (zip fields values)) ((f, v) ∷ []), h, last) refl

pub fields_all : (fields : List Field) (values : List FieldValue) (i : ℕ) → length fields ≡ i → length fields ≡ length values
    → map (λ (p : Field × FieldValue). field_data (encode_utf8_all p.0.name) p.1) (take i (zip fields values)) ≡ map (λ (p : Field × FieldValue). field_data (encode_utf8_all p.0.name) p.1) (zip fields values)
fields_all fields values i e l = rw (zip_all fields values i e l) refl
