-- The members of a record, put into a map one after the other.
use Rattle.std.proofs.Common.{◌≡◌, refl, ℕ, ◌+◌, ◌<◌, zero, suc, Bool, true, false, true≢false, List, [], ◌∷◌, ◌++◌, ap, sym, ◌∙◌, map, take, length, get_or, arith, add-one, None, String, Global, string_bytes, string_cmp, bytes_eq, Ordering, Less, Equal, Greater, nat_cmp, is_eq}
use Rattle.std.proofs.lemmas.Cmp.{nat_list_cmp_total}
use Rattle.std.proofs.lemmas.List.{length-map, get_or-map}
use Rattle.std.proofs.lemmas.Map.Keys.{IsDistinct-head, IsDistinct-tail}
use Rattle.std.proofs.lemmas.Map.Text.{is_eq-slice_cmp}
use Rattle.std.proofs.lemmas.Slice.Eq.{bytes_eq-Decides}
use Rattle.std.proofs.lemmas.Str.{encodes_same}
use Rattle.std.specs.Prelude.{encode_utf8_all}
use Rattle.std.specs.BTreeMap.{insert_entry}
use Rattle.std.specs.Cmp.Lexicographic.{slice_cmp}
use Rattle.std.specs.FinMap.{entries, empty, from_entries, entries-insert, from_entries_push, len-entries, len-empty, slice_cmp-IsAntisymmetric, nat_cmp-IsAntisymmetric}
use Rattle.std.specs.FinMap as fin
use Rattle.std.specs.FinMap.Entries.{by_order}
use Rattle.std.specs.List.{AllByRecursion, IsDistinct}
use Rattle.std.specs.Ordering.{match_ordering}
use Rattle.serde_json.specs.Data.{member, put}
use Rattle.serde_json.specs.View.{view, members_view}
use Rattle.serde_json.specs.declared.value.Value.{Value}
use Rattle.serde_json.proofs.Views.{Entry, members_view-insert_entry}
use Rattle.query_script.specs.declared.script.Field.{Field}
use Rattle.query_script.specs.declared.script.FieldValue.{FieldValue}
use Rattle.json_lines.proofs.Zips.{zip_next, zip_all}
use Rattle.page_records.specs.Lines.{names, named_values, members, member_data, members_data}

-- ---- the names of a body as keys

abbrev keys : List Field → List (List ℕ)
keys fields = map (λ f. encode_utf8_all f.name) fields

by_bytes : (t u : List ℕ) (b : Bool) → bytes_eq (encode_utf8_all u) (encode_utf8_all t) ≡ b → bytes_eq t u ≡ false → b ≡ false
by_bytes t u true e apart =
    let same : t ≡ u = sym (encodes_same u t ((bytes_eq-Decides (encode_utf8_all u) (encode_utf8_all t)).0 e)) in
    absurd (true≢false (sym ((bytes_eq-Decides t u).1 same) ∙ apart))
by_bytes t u false e apart = refl

-- a name that differs from the name of every field differs from the one at a place
other_name : (t : List ℕ) (fields : List Field) (i : ℕ) (f : Field) → AllByRecursion (λ y. bytes_eq t y ≡ false) (names fields) → i < length fields → f ≡ get_or fields i f
    → bytes_eq t f.name ≡ false
other_name t [] i f apart w e = absurd (omega arith)
other_name t (g ∷ fields) zero f apart w e = ap (λ (x : Field). bytes_eq t x.name) e ∙ apart.0
other_name t (g ∷ fields) (suc i) f apart w e = other_name t fields i f apart.1 (omega arith) e

-- the key at a place is none of those before it
not_before : (fields : List Field) (values : List FieldValue) (i : ℕ) (f : Field) → IsDistinct bytes_eq (names fields) → i < length fields → f ≡ get_or fields i f
    → fin.find (slice_cmp nat_cmp) (encode_utf8_all f.name) (take i (named_values fields values)) ≡ None
not_before [] values i f apart w e = absurd (omega arith)
not_before (g ∷ fields) [] zero f apart w e = refl
not_before (g ∷ fields) [] (suc i) f apart w e = refl
not_before (g ∷ fields) (v ∷ values) zero f apart w e = refl
not_before (g ∷ fields) (v ∷ values) (suc i) f apart w e =
    let below : i < length fields = omega arith in
    let differs : bytes_eq g.name f.name ≡ false = other_name g.name fields i f (IsDistinct-head bytes_eq g.name (names fields) apart) below e in
    let unequal : is_eq (slice_cmp nat_cmp (encode_utf8_all f.name) (encode_utf8_all g.name)) ≡ false =
    is_eq-slice_cmp (encode_utf8_all f.name) (encode_utf8_all g.name) ∙ by_bytes g.name f.name _ refl differs in
    rw unequal (not_before fields values i f (IsDistinct-tail bytes_eq g.name (names fields) apart) below e)

-- ---- the members in a map

by_order_data : (o : Ordering) (a b c : List (List ℕ × FieldValue)) → match_ordering o (members_data a) (members_data b) (members_data c) ≡ members_data (by_order o a b c)
by_order_data Less a b c = refl
by_order_data Equal a b c = refl
by_order_data Greater a b c = refl

put_data : (k : List ℕ) (v : FieldValue) (ms : List (List ℕ × FieldValue)) → put k (member_data v) (members_data ms) ≡ members_data (fin.put (slice_cmp nat_cmp) k v ms)
put_data k v [] = refl
put_data k v (m ∷ ms) =
    ap (λ t. match_ordering (slice_cmp nat_cmp k m.0) (member k (member_data v) (members_data (m ∷ ms))) (member m.0 (member_data v) (members_data ms)) (member m.0 (member_data m.1) t)) (put_data k v ms)
    ∙ by_order_data (slice_cmp nat_cmp k m.0) _ _ _

-- the pairs in the order of their keys
abbrev pub in_order : List (List ℕ × FieldValue) → List (List ℕ × FieldValue)
in_order ps = entries (from_entries {R = slice_cmp nat_cmp} ps)

-- one pair more, whose key is new
more_in_order : (ps : List (List ℕ × FieldValue)) (k : List ℕ) (v : FieldValue) → fin.find (slice_cmp nat_cmp) k ps ≡ None
    → in_order (ps ++ (k, v) ∷ []) ≡ fin.put (slice_cmp nat_cmp) k v (in_order ps)
more_in_order ps k v new =
    ap entries (from_entries_push nat_list_cmp_total (slice_cmp-IsAntisymmetric nat_cmp-IsAntisymmetric) ps k v new)
    ∙ entries-insert nat_list_cmp_total (from_entries ps) k v

no_length : {A : Type 0} (xs : List A) → length xs ≡ 0 → xs ≡ []
no_length [] e = refl
no_length (x ∷ xs) e = absurd (omega arith)

-- no members
pub none_in_order : in_order [] ≡ []
none_in_order = no_length (in_order []) (sym (len-entries (empty {R = slice_cmp nat_cmp})) ∙ len-empty (slice_cmp nat_cmp) FieldValue)

-- one member more
pub members_more : (fields : List Field) (values : List FieldValue) (es new : List Entry) (i : ℕ) (f : Field) (v : FieldValue) (name : String Global) (x : Value)
    → members_view es ≡ members_data (in_order (take i (named_values fields values)))
    → i < length fields → length values ≡ length fields → IsDistinct bytes_eq (names fields) → f ≡ get_or fields i f → v ≡ get_or values i v
    → string_bytes name ≡ encode_utf8_all f.name → view x ≡ member_data v → new ≡ insert_entry string_cmp es name x
    → members_view new ≡ members_data (in_order (take (i + 1) (named_values fields values)))
members_more fields values es new i f v name x h w l apart p q n e is =
    let k : List ℕ = encode_utf8_all f.name in
    let ps : List (List ℕ × FieldValue) = take i (named_values fields values) in
    let here : k ≡ get_or (keys fields) i k = ap (λ (g : Field). encode_utf8_all g.name) p ∙ sym (get_or-map (λ (g : Field). encode_utf8_all g.name) fields i f k w) in
    let one : take (i + 1) (named_values fields values) ≡ ps ++ (k, v) ∷ [] =
    ap (λ j. take j (named_values fields values)) (add-one i)
    ∙ zip_next (keys fields) values i k v (omega (arith, length-map fields (λ (g : Field). encode_utf8_all g.name))) (omega (arith, length-map fields (λ (g : Field). encode_utf8_all g.name))) here q in
    ap members_view is
    ∙ members_view-insert_entry es name x
    ∙ ap (λ t. put t (view x) (members_view es)) n
    ∙ ap (λ d. put k d (members_view es)) e
    ∙ ap (put k (member_data v)) h
    ∙ put_data k v (in_order ps)
    ∙ ap members_data (sym (more_in_order ps k v (not_before fields values i f apart w p)))
    ∙ ap (λ l. members_data (in_order l)) (sym one)

-- all members
pub members_all : (fields : List Field) (values : List FieldValue) (i : ℕ) → length fields ≡ i → length values ≡ length fields
    → members_data (in_order (take i (named_values fields values))) ≡ members_data (members fields values)
members_all fields values i e l =
    ap (λ ps. members_data (in_order ps)) (zip_all (keys fields) values i (length-map fields (λ (g : Field). encode_utf8_all g.name) ∙ e) (length-map fields (λ (g : Field). encode_utf8_all g.name) ∙ sym l))
