-- Attributes that are kept one by one.
use Rattle.std.proofs.Common.{◌≡◌, ℕ, ◌+◌, ◌-◌, ◌<◌, ◌≤◌, List, [], ◌∷◌, ◌++◌, Bool, true, false, cond, ◌||◌, length, map, take, drop, get_or, sym, refl, ◌∙◌, ap, subst, arith, length-take, length-drop, append-nil, append_assoc, take-append-drop}
use Rattle.std.specs.Prelude.{◌≢◌, slice_range, Result, Ok, Err, OnOk}
use Rattle.std.specs.Str.{IsUtf8, bytes_eq, str_to_ascii_lowercase}
use Rattle.std.proofs.lemmas.Slice.Eq.{bytes_eq-Decides}
use Rattle.std.proofs.lemmas.List.{map-append, take_more}
use Rattle.std.proofs.lemmas.List.Folds.{list_any-append}
use Rattle.std.proofs.lemmas.Bool.{both_ways}
use Rattle.char_refs.specs.References.{decoded}
use Rattle.html_lexer.specs.declared.tags.Attribute.{Attribute}
use Rattle.html_lexer.specs.declared.tags.AttrStep.TheVariants.{Reads}
use Rattle.html_lexer.specs.Tags.{attr_at}
use Rattle.html_lexer.specs.Attributes.{Writes, IsLast, pair_at}
use Rattle.html_reader.specs.declared.token.Attr as code
use Rattle.html_reader.specs.Tokens.{Attr}
use Rattle.html_reader.specs.Contents.{without, kept}
use Rattle.html_reader.specs.inner.Kept.{AreKept}
use Rattle.html_reader.specs.inner.Pieces.{owned_bytes}
use Rattle.html_reader.specs.inner.States.{attr_of}
use Rattle.html_reader.specs.inner.Keeping.{has_name, HaveTexts, Knows, HasKept, Keeps}
use Rattle.html_reader.proofs.KeptLemmas.{HaveNames, kept_are}
use Rattle.html_reader.proofs.MoveLemmas.{read_moves}

flip : (a b : List ℕ) (c : Bool) → bytes_eq a b ≡ c → bytes_eq b a ≡ c
flip a b true h = (bytes_eq-Decides b a).1 (sym ((bytes_eq-Decides a b).0 h))
flip a b false h = by_test (bytes_eq b a) refl
  where
    by_test : (d : Bool) → bytes_eq b a ≡ d → d ≡ false
    by_test true k = absurd (both_ways _ h ((bytes_eq-Decides a b).1 (sym ((bytes_eq-Decides b a).0 k))))
    by_test false k = refl

-- attributes of other names
without-append : (name : List ℕ) (attrs bs : List Attr) → without name (attrs ++ bs) ≡ without name attrs ++ without name bs
without-append name [] bs = refl
without-append name (a ∷ attrs) bs = by_test (bytes_eq a.name name) (without-append name attrs bs)
  where
    by_test : (b : Bool) → without name (attrs ++ bs) ≡ without name attrs ++ without name bs → cond b (without name (attrs ++ bs)) (a ∷ without name (attrs ++ bs)) ≡ cond b (without name attrs) (a ∷ without name attrs) ++ without name bs
    by_test true h = h
    by_test false h = ap (λ cs. a ∷ cs) h

-- a name that differs stays
has_without : (name other : List ℕ) (attrs : List Attr) → bytes_eq name other ≡ false → has_name (without name attrs) other ≡ has_name attrs other
has_without name other [] h = refl
has_without name other (a ∷ attrs) h = by_test (bytes_eq a.name name) refl (has_without name other attrs h)
  where
    by_test : (b : Bool) → bytes_eq a.name name ≡ b → has_name (without name attrs) other ≡ has_name attrs other → has_name (cond b (without name attrs) (a ∷ without name attrs)) other ≡ (bytes_eq a.name other || has_name attrs other)
    by_test true is k =
        let e : a.name ≡ name = (bytes_eq-Decides a.name name).0 is in
        k ∙ sym (ap (λ n. bytes_eq n other || has_name attrs other) e ∙ ap (λ b. b || has_name attrs other) h)
    by_test false is k = ap (λ b. bytes_eq a.name other || b) k

-- one attribute more is kept, unless its name is there
abbrev pub with_kept : List Attr → Attr → List Attr
with_kept attrs a = cond (has_name attrs a.name) attrs (attrs ++ a ∷ [])

abbrev pub attr_with : List ℕ × List ℕ → Attr
attr_with p = record { name = str_to_ascii_lowercase p.0; value = decoded p.1 }

without_one : (b a : Attr) (ks : List Attr) → without b.name (with_kept ks a) ≡ cond (bytes_eq b.name a.name || has_name ks a.name) (without b.name ks) (without b.name ks ++ a ∷ [])
without_one b a ks = by_test (has_name ks a.name) (bytes_eq b.name a.name) refl
  where
    one : (c : Bool) → bytes_eq b.name a.name ≡ c → without b.name (a ∷ []) ≡ cond c [] (a ∷ [])
    one c h = ap (λ d. cond d [] (a ∷ [])) (flip b.name a.name c h)

    by_test : (has same : Bool) → bytes_eq b.name a.name ≡ same → without b.name (cond has ks (ks ++ a ∷ [])) ≡ cond (same || has) (without b.name ks) (without b.name ks ++ a ∷ [])
    by_test true true h = refl
    by_test true false h = refl
    by_test false true h = without-append b.name ks (a ∷ []) ∙ ap (λ cs. without b.name ks ++ cs) (one true h) ∙ append-nil (without b.name ks)
    by_test false false h = without-append b.name ks (a ∷ []) ∙ ap (λ cs. without b.name ks ++ cs) (one false h)

has_behind : (b a : Attr) (ks : List Attr) → has_name (b ∷ without b.name ks) a.name ≡ (bytes_eq b.name a.name || has_name ks a.name)
has_behind b a ks = by_test (bytes_eq b.name a.name) refl
  where
    by_test : (same : Bool) → bytes_eq b.name a.name ≡ same → (same || has_name (without b.name ks) a.name) ≡ (same || has_name ks a.name)
    by_test true h = refl
    by_test false h = has_without b.name a.name ks h

cons_cond : (c : Bool) (b : Attr) (xs ys : List Attr) → b ∷ cond c xs ys ≡ cond c (b ∷ xs) (b ∷ ys)
cons_cond true b xs ys = refl
cons_cond false b xs ys = refl

pub kept-push : (written : List (List ℕ × List ℕ)) (p : List ℕ × List ℕ) → kept (written ++ p ∷ []) ≡ with_kept (kept written) (attr_with p)
kept-push [] p = refl
kept-push (q ∷ written) p =
    let b = attr_with q in
    let a = attr_with p in
    let ks = kept written in
    ap (λ cs. b ∷ without b.name cs) (kept-push written p)
    ∙ ap (λ cs. b ∷ cs) (without_one b a ks)
    ∙ cons_cond (bytes_eq b.name a.name || has_name ks a.name) b (without b.name ks) (without b.name ks ++ a ∷ [])
    ∙ ap (λ c. cond c (b ∷ without b.name ks) (b ∷ (without b.name ks ++ a ∷ []))) (sym (has_behind b a ks))

-- the set and the last attributes together
pub taken : (has : List ℕ → Bool) (attrs : List code.Attr) (known : ℕ) (name : List ℕ) → Knows has attrs known → (has name || has_name (map attr_of (drop known attrs)) name) ≡ has_name (map attr_of attrs) name
taken has attrs known name h =
    ap (λ b. b || has_name (map attr_of (drop known attrs)) name) (h.same name)
    ∙ sym (list_any-append (λ (a : Attr). bytes_eq a.name name) (map attr_of (take known attrs)) (map attr_of (drop known attrs)))
    ∙ ap (λ attrs. has_name attrs name) (sym (map-append attr_of (take known attrs) (drop known attrs)) ∙ ap (map attr_of) (take-append-drop known attrs))

pub learns : (has new : List ℕ → Bool) (attrs : List code.Attr) (known : ℕ) (d : code.Attr) (bytes : List ℕ) → Knows has attrs known → known < length attrs → bytes ≡ owned_bytes (get_or attrs known d).name → ((cs : List ℕ) → new cs ≡ cond (bytes_eq bytes cs) true (has cs)) → Knows new attrs (known + 1)
learns has new attrs known d bytes h l named is = record { within = omega (arith, l); same = same }
  where
    last : code.Attr
    last = get_or attrs known d

    or_last : (b c : Bool) → cond b true c ≡ (c || (b || false))
    or_last true true = refl
    or_last true false = refl
    or_last false true = refl
    or_last false false = refl

    same : (name : List ℕ) → new name ≡ has_name (map attr_of (take (known + 1) attrs)) name
    same name =
        is name
        ∙ or_last (bytes_eq bytes name) (has name)
        ∙ ap (λ c. c || (bytes_eq bytes name || false)) (h.same name)
        ∙ ap (λ n. has_name (map attr_of (take known attrs)) name || (bytes_eq n name || false)) named
        ∙ sym (list_any-append (λ (a : Attr). bytes_eq a.name name) (map attr_of (take known attrs)) (attr_of (get_or attrs known d) ∷ []))
        ∙ ap (λ attrs. has_name attrs name) (sym (ap (map attr_of) (take_more attrs known d l) ∙ map-append attr_of (take known attrs) (get_or attrs known d ∷ [])))

pub texts_push : (attrs : List Attr) (a : Attr) → HaveTexts attrs → IsUtf8 a.name → HaveTexts (attrs ++ a ∷ [])
texts_push [] a h u = (u, tt)
texts_push (b ∷ attrs) a h u = (h.0, texts_push attrs a h.1 u)

-- what a step of the loop keeps
pub none_kept : (raw : List ℕ) (attrs : List Attr) → attrs ≡ [] → HasKept raw 0 attrs
none_kept raw attrs e = record { written = []; more = λ ps h. h; is = e; texts = subst HaveTexts (sym e) tt }

pub more_kept : (raw : List ℕ) (at : ℕ) (attrs new : List Attr) (a : Attribute) (name value : List ℕ) → HasKept raw at attrs → attr_at raw at ≡ Reads a → (name, value) ≡ pair_at raw a → HaveTexts new → new ≡ with_kept attrs (attr_with (name, value)) → HasKept raw a.to new
more_kept raw at attrs new a name value h reads pair texts is = record {
  written = h.written ++ (name, value) ∷ [];
  more = λ ps later. subst (Writes raw 0) (sym (append_assoc h.written ((name, value) ∷ []) ps)) (h.more ((name, value) ∷ ps) (a, reads, pair, later));
  is = is ∙ ap (λ ks. with_kept ks (attr_with (name, value))) h.is ∙ sym (kept-push h.written (name, value));
  texts = texts;
}

pub all_kept : (raw : List ℕ) (at : ℕ) (attrs : List Attr) → HasKept raw at attrs → IsLast (attr_at raw at) → Keeps raw attrs
all_kept raw at attrs h last = record { written = h.written; writes = subst (Writes raw 0) (append-nil h.written) (h.more [] last); is = h.is }

-- the names that are written are not empty, and each attribute has a byte
named : (raw : List ℕ) (a : Attribute) (at : ℕ) → attr_at raw at ≡ Reads a → slice_range raw a.name a.name_to ≢ []
named raw a at reads none =
    let m = read_moves raw at a reads in
    omega (arith, m, ap length none, length-take (a.name_to - a.name) (drop a.name raw), length-drop a.name raw)

pub written_named : (raw : List ℕ) (at : ℕ) (ps : List (List ℕ × List ℕ)) → Writes raw at ps → HaveNames ps
written_named raw at [] h = tt
written_named raw at (p ∷ ps) h = (λ none. named raw h.0 at h.1 (sym (ap (λ (q : List ℕ × List ℕ). q.0) h.2) ∙ none), written_named raw h.0.to ps h.3)

pub keeps_kept : (raw : List ℕ) (attrs : List Attr) → Keeps raw attrs → HaveTexts attrs → AreKept attrs
keeps_kept raw attrs h texts = subst AreKept (sym h.is) (kept_are h.written (written_named raw 0 h.written h.writes) (subst HaveTexts h.is texts))

pub written_few : (raw : List ℕ) (at : ℕ) (ps : List (List ℕ × List ℕ)) → Writes raw at ps → length ps ≤ length raw - at
written_few raw at [] h = omega arith
written_few raw at (p ∷ ps) h = let m = read_moves raw at h.0 h.1 in omega (arith, m, written_few raw h.0.to ps h.3)

length-without : (name : List ℕ) (attrs : List Attr) → length (without name attrs) ≤ length attrs
length-without name [] = omega arith
length-without name (a ∷ attrs) = by_test (bytes_eq a.name name) (length-without name attrs)
  where
    by_test : (b : Bool) → length (without name attrs) ≤ length attrs → length (cond b (without name attrs) (a ∷ without name attrs)) ≤ length (a ∷ attrs)
    by_test true h = omega (arith, h)
    by_test false h = omega (arith, h)

pub length-kept : (written : List (List ℕ × List ℕ)) → length (kept written) ≤ length written
length-kept [] = omega arith
length-kept (p ∷ written) = omega (arith, length-kept written, length-without (str_to_ascii_lowercase p.0) (kept written))

pub texts_pushed : {E : Type 0} (r : Result (Unit {0}) E) (attrs new : List code.Attr) (a : code.Attr) → HaveTexts (map attr_of attrs) → IsUtf8 (owned_bytes a.name) → OnOk r (new ≡ attrs ++ a ∷ []) → OnOk r (HaveTexts (map attr_of new))
texts_pushed (Ok u) attrs new a h utf8 is = subst HaveTexts (sym (ap (map attr_of) is ∙ map-append attr_of attrs (a ∷ []))) (texts_push (map attr_of attrs) (attr_of a) h utf8)
texts_pushed (Err e) attrs new a h utf8 is = is

take_all : {A : Type 0} (xs : List A) → take (length xs) xs ≡ xs
take_all [] = refl
take_all (x ∷ xs) = ap (λ ys. x ∷ ys) (take_all xs)

pub rest_of : {A : Type 0} (k : ℕ) (xs : List A) → take (length xs - k) (drop k xs) ≡ drop k xs
rest_of k xs = ap (λ n. take n (drop k xs)) (sym (length-drop k xs)) ∙ take_all (drop k xs)
