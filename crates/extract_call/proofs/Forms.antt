-- What the words say is what they spell.
use Rattle.std.proofs.Common.{◌≡◌, ◌≢◌, refl, ℕ, ◌≤◌, Bool, true, false, List, [], ◌∷◌, length, ap, ◌∙◌, sym, codes, Option, Some, None, arith}
use Rattle.std.specs.Prelude.{option_map, if◌then◌else◌, nat_le, ◌&&◌}
use Rattle.std.specs.List.{list_all}
use Rattle.std.specs.Str.{bytes_eq}
use Rattle.std.proofs.lemmas.Bool.Decides.{nat_tests}
use Rattle.std.proofs.lemmas.Slice.Eq.{bytes_eq-Decides}
use Rattle.text_base.specs.Text.{is_digit, digits_value}
use Rattle.css_selectors.specs.declared.selector.Dialect.{Dialect}
use Rattle.css_selectors.specs.declared.selector.Dialect.TheVariants.{Generic, Html}
use Rattle.extract_call.specs.Words.{Command, css, run, bulk, clean, IsWords, IsCount, count_of, dialect_of, dialect_word, read}
use Rattle.extract_call.specs.Laws.{WordsLaw}
use Rattle.extract_call.proofs.Counts.{count_read}

pub dialect_read : (w : List ℕ) (d : Dialect) → dialect_of w ≡ Some d → w ≡ dialect_word d
unfolding dialect_of
dialect_read w d h = by_tests (bytes_eq w (codes "generic")) (bytes_eq w (codes "html")) refl refl h
  where
    by_tests : (a b : Bool) → bytes_eq w (codes "generic") ≡ a → bytes_eq w (codes "html") ≡ b
        → (if a then Some Generic else (if b then Some Html else None)) ≡ Some d → w ≡ dialect_word d
    by_tests true b p q e = (bytes_eq-Decides w (codes "generic")).0 p ∙ ap dialect_word (let same : Generic ≡ d = (let x = e in cc) in same)
    by_tests false true p q e = (bytes_eq-Decides w (codes "html")).0 q ∙ ap dialect_word (let same : Html ≡ d = (let x = e in cc) in same)
    by_tests false false p q e = let x = e in cc

pub word_dialect : (d : Dialect) → dialect_of (dialect_word d) ≡ Some d
unfolding dialect_of
word_dialect Generic = refl
word_dialect Html = refl

at_most : (a b : ℕ) → nat_le a b ≡ true → a ≤ b
at_most a b h = grind (arith, nat_tests)

-- the tests of a number, where it is read
pub record AreTrue (a b c d e : Bool) (v n : ℕ) : Type 0 where
  pub first : a ≡ true
  pub second : b ≡ true
  pub third : c ≡ true
  pub fourth : d ≡ true
  pub fifth : e ≡ true
  pub value : v ≡ n

all_true : (a b c d e : Bool) (v n : ℕ) → (if a && (b && (c && (d && e))) then Some v else None) ≡ Some n → AreTrue a b c d e v n
all_true true true true true true v n h = record { first = refl; second = refl; third = refl; fourth = refl; fifth = refl; value = (let x = h in cc) }
all_true true true true true false v n h = let x = h in cc
all_true true true true false e v n h = let x = h in cc
all_true true true false d e v n h = let x = h in cc
all_true true false c d e v n h = let x = h in cc
all_true false b c d e v n h = let x = h in cc

pub count_said : (word : List ℕ) (n : ℕ) → count_of word ≡ Some n → IsCount word n
unfolding count_of
count_said word n h = from_tests (all_true (nat_le 1 (length word)) (nat_le (length word) 5) (list_all is_digit word) (nat_le 1 (digits_value word)) (nat_le (digits_value word) 20000) (digits_value word) n h)
  where
    from_tests : AreTrue (nat_le 1 (length word)) (nat_le (length word) 5) (list_all is_digit word) (nat_le 1 (digits_value word)) (nat_le (digits_value word) 20000) (digits_value word) n → IsCount word n
    from_tests t =
        let least : 1 ≤ digits_value word = at_most 1 (digits_value word) t.fourth in
        let most : digits_value word ≤ 20000 = at_most (digits_value word) 20000 t.fifth in
        record {
          some = at_most 1 (length word) t.first;
          few = at_most (length word) 5 t.second;
          digits = t.third;
          value = t.value;
          least = rw t.value at least;
          most = rw t.value at most;
        }

count_back : (word : List ℕ) (n : ℕ) → IsCount word n → count_of word ≡ Some n
count_back word n h = sym (count_read word h.some h.few h.digits (rw h.value h.least) (rw h.value h.most)) ∙ ap Some h.value

two_said : (w n : List ℕ) (command : Command) → read (w ∷ n ∷ []) ≡ Some command → IsWords command (w ∷ n ∷ [])
two_said w n command h = by_tests (bytes_eq w (codes "bulk")) refl (count_of n) refl (bytes_eq w (codes "clean")) refl h
  where
    counted : (k : ℕ) → bytes_eq w (codes "bulk") ≡ true → count_of n ≡ Some k → (c : Command) → bulk k ≡ c → IsWords c (w ∷ n ∷ [])
    counted k p q (css d s) e = let x = e in cc
    counted k p q (run d s names) e = let x = e in cc
    counted k p q (clean page) e = let x = e in absurd (cc)
    counted k p q (bulk m) e =
        let same : k ≡ m = (let x = e in cc) in
        (n, ap (λ v. v ∷ n ∷ []) ((bytes_eq-Decides w (codes "bulk")).0 p), count_said n m (q ∙ ap Some same))

    kept : bytes_eq w (codes "clean") ≡ true → (c : Command) → clean n ≡ c → IsWords c (w ∷ n ∷ [])
    kept p (css d s) e = let x = e in absurd (cc)
    kept p (run d s names) e = let x = e in absurd (cc)
    kept p (bulk m) e = let x = e in absurd (cc)
    kept p (clean page) e =
        let same : n ≡ page = (let x = e in cc) in
        ap (λ v. v ∷ n ∷ []) ((bytes_eq-Decides w (codes "clean")).0 p) ∙ ap (λ v. codes "clean" ∷ v ∷ []) same

    by_tests : (a : Bool) → bytes_eq w (codes "bulk") ≡ a → (o : Option ℕ) → count_of n ≡ o → (b : Bool) → bytes_eq w (codes "clean") ≡ b
        → (if a then option_map bulk o else (if b then Some (clean n) else None)) ≡ Some command → IsWords command (w ∷ n ∷ [])
    by_tests true p (Some k) q b r e = counted k p q command (let x = e in cc)
    by_tests true p None q b r e = let x = e in absurd (cc)
    by_tests false p o q true r e = kept r command (let x = e in cc)
    by_tests false p o q false r e = let x = e in absurd (cc)

css_said : (w d s : List ℕ) (command : Command) → read (w ∷ d ∷ s ∷ []) ≡ Some command → IsWords command (w ∷ d ∷ s ∷ [])
css_said w d s command h = by_tests (bytes_eq w (codes "css")) refl (dialect_of d) refl h
  where
    spelled : (x : Dialect) → bytes_eq w (codes "css") ≡ true → dialect_of d ≡ Some x → (c : Command) → css x s ≡ c → IsWords c (w ∷ d ∷ s ∷ [])
    spelled x p q (css y t) e =
        let one : x ≡ y = (let z = e in cc) in
        let two : s ≡ t = (let z = e in cc) in
        ap (λ v. v ∷ d ∷ s ∷ []) ((bytes_eq-Decides w (codes "css")).0 p) ∙ ap (λ v. codes "css" ∷ v ∷ s ∷ []) (dialect_read d x q ∙ ap dialect_word one)
        ∙ ap (λ v. codes "css" ∷ dialect_word y ∷ v ∷ []) two
    spelled x p q (run y t names) e = let z = e in absurd (cc)
    spelled x p q (bulk n) e = let z = e in absurd (cc)
    spelled x p q (clean page) e = let z = e in absurd (cc)

    by_tests : (a : Bool) → bytes_eq w (codes "css") ≡ a → (o : Option Dialect) → dialect_of d ≡ o
        → (if a then option_map (λ x. css x s) o else None) ≡ Some command → IsWords command (w ∷ d ∷ s ∷ [])
    by_tests true p (Some x) q e = spelled x p q command (let y = e in cc)
    by_tests true p None q e = let y = e in absurd (cc)
    by_tests false p o q e = let y = e in absurd (cc)

run_said : (w d s n : List ℕ) (ns : List (List ℕ)) (command : Command) → read (w ∷ d ∷ s ∷ n ∷ ns) ≡ Some command → IsWords command (w ∷ d ∷ s ∷ n ∷ ns)
run_said w d s n ns command h = by_tests (bytes_eq w (codes "run")) refl (dialect_of d) refl h
  where
    spelled : (x : Dialect) → bytes_eq w (codes "run") ≡ true → dialect_of d ≡ Some x → (c : Command) → run x s (n ∷ ns) ≡ c → IsWords c (w ∷ d ∷ s ∷ n ∷ ns)
    spelled x p q (css y t) e = let z = e in absurd (cc)
    spelled x p q (run y t names) e =
        let one : x ≡ y = (let z = e in cc) in
        let two : s ≡ t = (let z = e in cc) in
        let three : n ∷ ns ≡ names = (let z = e in cc) in (
          ap (λ v. v ∷ d ∷ s ∷ n ∷ ns) ((bytes_eq-Decides w (codes "run")).0 p) ∙ ap (λ v. codes "run" ∷ v ∷ s ∷ n ∷ ns) (dialect_read d x q ∙ ap dialect_word one)
              ∙ ap (λ v. codes "run" ∷ dialect_word y ∷ v ∷ n ∷ ns) two ∙ ap (λ v. codes "run" ∷ dialect_word y ∷ t ∷ v) three,
          λ none. let z = none in cc,
        )
    spelled x p q (bulk k) e = let z = e in absurd (cc)
    spelled x p q (clean page) e = let z = e in absurd (cc)

    by_tests : (a : Bool) → bytes_eq w (codes "run") ≡ a → (o : Option Dialect) → dialect_of d ≡ o
        → (if a then option_map (λ x. run x s (n ∷ ns)) o else None) ≡ Some command → IsWords command (w ∷ d ∷ s ∷ n ∷ ns)
    by_tests true p (Some x) q e = spelled x p q command (let y = e in cc)
    by_tests true p None q e = let y = e in absurd (cc)
    by_tests false p o q e = let y = e in absurd (cc)

read_words : (words : List (List ℕ)) (command : Command) → read words ≡ Some command → IsWords command words
read_words [] command h = let x = h in absurd (cc)
read_words (w ∷ []) command h = let x = h in absurd (cc)
read_words (w ∷ n ∷ []) command h = two_said w n command h
read_words (w ∷ d ∷ s ∷ []) command h = css_said w d s command h
read_words (w ∷ d ∷ s ∷ n ∷ ns) command h = run_said w d s n ns command h

run_back : (d : Dialect) (s : List ℕ) (names : List (List ℕ)) → names ≢ [] → read (codes "run" ∷ dialect_word d ∷ s ∷ names) ≡ Some (run d s names)
run_back d s [] some = absurd (some refl)
run_back d s (n ∷ ns) some = ap (option_map (λ x. run x s (n ∷ ns))) (word_dialect d)

words_back : (words : List (List ℕ)) (command : Command) → IsWords command words → read words ≡ Some command
words_back words (css d s) h = ap read h ∙ ap (option_map (λ x. css x s)) (word_dialect d)
words_back words (run d s names) h = ap read h.0 ∙ run_back d s names h.1
words_back words (bulk n) h = ap read h.1 ∙ ap (option_map bulk) (count_back h.0 n h.2)
words_back words (clean page) h = ap read h

pub words_read : WordsLaw
words_read words command = (read_words words command, words_back words command)

-- a number that is read is from 1 to 20,000
pub bulk_count : (words : List (List ℕ)) (said : Option Command) (n : ℕ) → said ≡ read words → said ≡ Some (bulk n) → (1 ≤ n) × (n ≤ 20000)
bulk_count words said n same e = let h = read_words words (bulk n) (sym same ∙ e) in (h.2.least, h.2.most)
