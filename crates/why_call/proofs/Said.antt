-- What is said of the pieces of a script, one after the other.
use Rattle.std.proofs.Common.{◌≡◌, refl, ℕ, zero, suc, ◌+◌, ◌<◌, List, [], ◌∷◌, ◌++◌, length, take, get_or, ap, ap₂, sym, ◌∙◌, append_assoc, arith, inl, inr, add-one, append-nil, subst, map, Bor}
use Rattle.test_registry.specs.Names.{Known}
use Rattle.css_selectors.specs.declared.selector.Dialect.{Dialect}
use Rattle.query_script.specs.declared.script.Field.{Field}
use Rattle.page_records.specs.declared.script.Entry.{Entry}
use Rattle.page_records.specs.Scripts.{AreEntries}
use Rattle.why_call.specs.Scripts.{member_said, members_said, entry_said, entries_said}

-- as many entries as pieces
pub as_many : (tests : Known) (d : Dialect) (pieces : List (List ℕ)) (entries : List Entry) → AreEntries tests d pieces entries → length pieces ≡ length entries
as_many tests d [] [] h = refl
as_many tests d [] (e ∷ entries) h = absurd h
as_many tests d (p ∷ pieces) [] h = absurd h
as_many tests d (p ∷ pieces) (e ∷ entries) h = ap suc (as_many tests d pieces entries h.1)

-- one more field
pub member_more : (n k : ℕ) (fields : List Field) (i : ℕ) (f d : Field) → i < length fields → f ≡ get_or fields i d
    → members_said n k (take (suc i) fields) ≡ members_said n k (take i fields) ++ member_said n (k + i) f
member_more n k [] i f d w e = absurd (omega arith)
member_more n k (x ∷ fields) zero f d w e = append-nil (member_said n k x) ∙ ap₂ (λ m y. member_said n m y) (omega arith) (sym e)
member_more n k (x ∷ fields) (suc i) f d w e =
    ap (λ t. member_said n k x ++ t) (member_more n (suc k) fields i f d (omega arith) e ∙ ap (λ m. members_said n (suc k) (take i fields) ++ member_said n m f) (omega arith))
    ∙ sym (append_assoc (member_said n k x) (members_said n (suc k) (take i fields)) (member_said n (k + suc i) f))

-- one more piece
pub entry_more : (n : ℕ) (pieces : List (List ℕ)) (entries : List Entry) (i : ℕ) (p q : List ℕ) (e d : Entry) → i < length pieces → i < length entries
    → p ≡ get_or pieces i q → e ≡ get_or entries i d
    → entries_said n (take (suc i) pieces) (take (suc i) entries) ≡ entries_said n (take i pieces) (take i entries) ++ entry_said (n + i) p e
entry_more n [] entries i p q e d v w a b = absurd (omega arith)
entry_more n (x ∷ pieces) [] i p q e d v w a b = absurd (omega arith)
entry_more n (x ∷ pieces) (y ∷ entries) zero p q e d v w a b =
    append-nil (entry_said n x y) ∙ (ap (λ m. entry_said m x y) (omega arith) ∙ ap₂ (λ s t. entry_said (n + 0) s t) (sym a) (sym b))
entry_more n (x ∷ pieces) (y ∷ entries) (suc i) p q e d v w a b =
    ap (λ t. entry_said n x y ++ t)
    (entry_more (suc n) pieces entries i p q e d (omega arith) (omega arith) a b ∙ ap (λ m. entries_said (suc n) (take i pieces) (take i entries) ++ entry_said m p e) (omega arith))
    ∙ sym (append_assoc (entry_said n x y) (entries_said (suc n) (take i pieces) (take i entries)) (entry_said (n + suc i) p e))

-- one more field, behind what was written before
pub members_step : (n : ℕ) (old mid new : List ℕ) (fields : List Field) (i : ℕ) (f d : Field) → i < length fields → f ≡ get_or fields i d
    → mid ≡ old ++ members_said n 1 (take i fields) → new ≡ mid ++ member_said n (i + 1) f → new ≡ old ++ members_said n 1 (take (i + 1) fields)
members_step n old mid new fields i f d w e h t =
    let more : members_said n 1 (take (suc i) fields) ≡ members_said n 1 (take i fields) ++ member_said n (1 + i) f = member_more n 1 fields i f d w e in
    let number : 1 + i ≡ i + 1 = omega arith in
    let next : suc i ≡ i + 1 = omega arith in
    t ∙ (ap (λ s. s ++ member_said n (i + 1) f) h ∙ (append_assoc old (members_said n 1 (take i fields)) (member_said n (i + 1) f)
    ∙ ap (λ x. old ++ x) (sym (ap (λ m. members_said n 1 (take m fields)) (sym next) ∙ (more ∙ ap (λ m. members_said n 1 (take i fields) ++ member_said n m f) number)))))

-- one more piece, behind what was written before
pub entries_step : (mid new : List ℕ) (pieces : List (Bor (List ℕ))) (entries : List Entry) (i : ℕ) (p : List ℕ) (q : Bor (List ℕ)) (e d : Entry)
    → length (map (λ (b : Bor (List ℕ)). b.now) pieces) ≡ length entries → i < length entries → p ≡ (get_or pieces i q).now → e ≡ get_or entries i d
    → mid ≡ entries_said 1 (take i (map (λ (b : Bor (List ℕ)). b.now) pieces)) (take i entries) → new ≡ mid ++ entry_said (i + 1) p e
    → new ≡ entries_said 1 (take (i + 1) (map (λ (b : Bor (List ℕ)). b.now) pieces)) (take (i + 1) entries)
entries_step mid new pieces entries i p q e d same w a b h t =
    let texts : List (List ℕ) = map (λ (b : Bor (List ℕ)). b.now) pieces in
    let within : i < length texts = omega (arith, same, w) in
    let piece : p ≡ get_or texts i q.now = a ∙ mapped pieces i q in
    let more : entries_said 1 (take (suc i) texts) (take (suc i) entries) ≡ entries_said 1 (take i texts) (take i entries) ++ entry_said (1 + i) p e =
    entry_more 1 texts entries i p q.now e d within w piece b in
    let number : 1 + i ≡ i + 1 = omega arith in
    let next : suc i ≡ i + 1 = omega arith in
    t ∙ (ap (λ s. s ++ entry_said (i + 1) p e) h
    ∙ sym (ap (λ m. entries_said 1 (take m texts) (take m entries)) (sym next) ∙ (more ∙ ap (λ m. entries_said 1 (take i texts) (take i entries) ++ entry_said m p e) number)))
  where
    mapped : (xs : List (Bor (List ℕ))) (j : ℕ) (x : Bor (List ℕ)) → (get_or xs j x).now ≡ get_or (map (λ (b : Bor (List ℕ)). b.now) xs) j x.now
    mapped [] j x = refl
    mapped (y ∷ xs) zero x = refl
    mapped (y ∷ xs) (suc j) x = mapped xs j x
