-- Where the tokens and attributes of a page end, and that each place has one.
use Rattle.std.proofs.Common.{◌≡◌, ℕ, zero, suc, ◌+◌, ◌-◌, ◌<◌, ◌≤◌, Bool, true, false, cond, ◌&&◌, ◌||◌, List, [], ◌∷◌, length, get_or, take, drop, sym, refl, ap, subst, arith, ltb, leb, length-take, length-drop}
use Rattle.std.specs.Prelude.{◌==◌, slice_range, codes}
use Rattle.std.specs.Bool.{MatchBool}
use Rattle.std.proofs.lemmas.Bool.Decides.{nat_tests}
use Rattle.std.proofs.lemmas.Slice.Eq.{bytes_eq-Decides}
use Rattle.std.proofs.lemmas.Bool.{and_parts, eqb-true, ltb-true, leb-false}
use Rattle.text_base.specs.Text.{run_end, find_where, begins_with, is_not_byte, is_space5, is_letter}
use Rattle.text_base.proofs.Boundaries.{in_text}
use Rattle.text_base.proofs.Runs.{run_end_from, run_end_le, run_end_moves}
use Rattle.text_base.proofs.Places.{find_in}
use Rattle.html_lexer.specs.Kinds.{is_gap, is_attr_byte, is_bare_byte, is_name_byte}
use Rattle.html_lexer.specs.Names.{is_raw, is_escapable, is_plaintext, closes, has_letters}
use Rattle.html_lexer.specs.declared.tags.Attribute.{Attribute}
use Rattle.html_lexer.specs.declared.tags.AttrStep.{AttrStep}
use Rattle.html_lexer.specs.declared.tags.AttrStep.TheVariants.{Reads, Closes, Refuses}
use Rattle.html_lexer.specs.Tags.{quoted, valued, named, attr_at, TagReads, TagComesTo}
use Rattle.html_lexer.specs.declared.steps.TokenAt.{TokenAt}
use Rattle.html_lexer.specs.declared.steps.TokenAt.TheVariants.{Start, End, Text, Comment, Doctype}
use Rattle.html_lexer.specs.declared.steps.Step.{Step}
use Rattle.html_lexer.specs.declared.steps.Step.TheVariants.{Gives, Fails}
use Rattle.html_lexer.specs.Steps.{opens, end_tag_at, has_bang_end, comment_at, bracket, doctype_at, query_at, declaration_at, other_at, starts_at, start_of, StartAt, MarkupAt, raw_end, StepAt}
use Rattle.html_reader.specs.PageLaws.{IsPageReason}
use Rattle.html_lexer.proofs.PlainLemmas.{other_moves, letter_is_name, letter_some}
use Rattle.text_base.specs.declared.reasons.PageReason.{PageReason}
use Rattle.text_base.specs.declared.reasons.PageReason.TheVariants.{BadTag}

pick : {A : Type 0} (P : A → Type 0) (b : Bool) (x y : A) → (b ≡ true → P x) → (b ≡ false → P y) → P (cond b x y)
pick P true x y h k = h refl
pick P false x y h k = k refl

-- An attribute and the end of a tag lie where the step begins or after it, in the text. A refusal has one of the reasons
-- of a page.
abbrev pub Moves : List ℕ → ℕ → AttrStep → Type 0
Moves text i (Reads a) = (i ≤ a.name) × (a.name < a.name_to) × (a.name_to ≤ a.to) × (a.to ≤ length text)
Moves text i (Closes attrs_to to slash) = (i ≤ attrs_to) × (attrs_to < to) × (to ≤ length text)
Moves text i (Refuses reason) = IsPageReason reason

-- a byte that is not 0 stands in the text
has_byte : (text : List ℕ) (i b : ℕ) → (get_or text i 0 == b) ≡ true → 0 < b → i < length text
has_byte text i b h some = in_text text i (omega (arith, eqb-true (get_or text i 0) b h))

quoted_moves : (text : List ℕ) (i name name_to v : ℕ) → i ≤ name → name < name_to → name_to ≤ v → v < length text → Moves text i (quoted text name name_to v)
quoted_moves text i name name_to v low some past within =
    let q = run_end (is_not_byte (get_or text v 0)) text (v + 1) in
    pick (Moves text i) (ltb q (length text)) _ _
    (λ h. (low, some, omega (arith, run_end_from (is_not_byte (get_or text v 0)) text (v + 1)), omega (arith, ltb-true q (length text) h)))
    (λ h. tt)

valued_moves : (text : List ℕ) (i name name_to v : ℕ) → i ≤ name → name < name_to → name_to ≤ v → v ≤ length text → Moves text i (valued text name name_to v)
valued_moves text i name name_to v low some past within =
    pick (Moves text i) (get_or text v 0 == 34) _ _
    (λ h. quoted_moves text i name name_to v low some past (has_byte text v 34 h (omega arith)))
    (λ h. pick (Moves text i) (get_or text v 0 == 39) _ _
    (λ k. quoted_moves text i name name_to v low some past (has_byte text v 39 k (omega arith)))
    (λ k. (low, some, omega (arith, run_end_from is_bare_byte text v), run_end_le is_bare_byte text v within)))

named_moves : (text : List ℕ) (i k : ℕ) → i ≤ k → k < length text → is_attr_byte (get_or text k 0) ≡ true → Moves text i (named text k)
named_moves text i k low within begins =
    let n = run_end is_attr_byte text k in
    let m = run_end is_space5 text n in
    let some : k < n = run_end_moves is_attr_byte text k n refl within begins in
    let inside : n ≤ length text = run_end_le is_attr_byte text k (omega arith) in
    pick (Moves text i) (get_or text m 0 == 61) _ _
    (λ h.
    let sign : m < length text = has_byte text m 61 h (omega arith) in
    valued_moves text i k n (run_end is_space5 text (m + 1)) low some (omega (arith, run_end_from is_space5 text n, run_end_from is_space5 text (m + 1))) (run_end_le is_space5 text (m + 1) (omega arith)))
    (λ h. (low, some, omega arith, inside))

pub attr_moves : (text : List ℕ) (i : ℕ) → Moves text i (attr_at text i)
attr_moves text i =
    let k = run_end is_gap text i in
    let low : i ≤ k = run_end_from is_gap text i in
    pick (Moves text i) (get_or text k 0 == 62) _ _
    (λ h.
    let within : k < length text = has_byte text k 62 h (omega arith) in
    pick (Moves text i) (ltb i k && (get_or text (k - 1) 0 == 47)) _ _
    (λ s. let l = ltb-true i k (and_parts _ _ s).0 in (omega arith, omega arith, omega arith))
    (λ s. (low, omega arith, omega arith)))
    (λ h. pick (Moves text i) (leb (length text) k) _ _ (λ l. tt) (λ l. pick (Moves text i) (is_attr_byte (get_or text k 0)) _ _ (named_moves text i k low (leb-false (length text) k l)) (λ a. tt)))

pub read_moves : (text : List ℕ) (i : ℕ) (a : Attribute) → attr_at text i ≡ Reads a → Moves text i (Reads a)
read_moves text i a e = subst (Moves text i) e (attr_moves text i)

-- a tag ends in the text
pub tag_moves : (text : List ℕ) (n : ℕ) (attributes : List Attribute) (attrs_to to : ℕ) (slash : Bool) → TagReads text n attributes (Closes attrs_to to slash) → (n ≤ attrs_to) × (attrs_to < to) × (to ≤ length text)
tag_moves text n [] attrs_to to slash h = subst (Moves text n) h (attr_moves text n)
tag_moves text n (a ∷ attributes) attrs_to to slash h =
    let first = read_moves text n a h.0 in
    let rest = tag_moves text a.to attributes attrs_to to slash h.1 in
    (omega (arith, first, rest), rest.1, rest.2)

tag_refuses : (text : List ℕ) (n : ℕ) (attributes : List Attribute) (reason : PageReason) → TagReads text n attributes (Refuses reason) → IsPageReason reason
tag_refuses text n [] reason h = subst (Moves text n) h (attr_moves text n)
tag_refuses text n (a ∷ attributes) reason h = tag_refuses text a.to attributes reason h.1

-- each tag comes to something
tag_by : (text : List ℕ) (n : ℕ) (s : AttrStep) → attr_at text n ≡ s → ((a : Attribute) → attr_at text n ≡ Reads a → (out : AttrStep) × TagComesTo text a.to out) → (out : AttrStep) × TagComesTo text n out
tag_by text n (Reads a) e more = let rest = more a e in (rest.0, (a ∷ rest.1.0, (e, rest.1.1)))
tag_by text n (Closes attrs_to to slash) e more = (Closes attrs_to to slash, ([], e))
tag_by text n (Refuses reason) e more = (Refuses reason, ([], e))

some_tag : (fuel : ℕ) (text : List ℕ) (n : ℕ) → length text - n ≤ fuel → (out : AttrStep) × TagComesTo text n out
some_tag zero text n l = tag_by text n (attr_at text n) refl (λ a e. absurd (let m = read_moves text n a e in omega (arith, l, m)))
some_tag (suc fuel) text n l =
    tag_by text n (attr_at text n) refl (λ a e. some_tag fuel text a.to (let m = read_moves text n a e in omega (arith, l, m)))

-- A token lies after the place where it begins, in the text. What a start tag has after its name is read to its end.
abbrev pub PartsMove : List ℕ → ℕ → TokenAt → Type 0
PartsMove text i (Start name_to attrs_to to slash) =
    (i + 1 < name_to) × (name_to ≤ attrs_to) × (attrs_to < to) × (to ≤ length text) × ((attributes : List Attribute) × TagReads text name_to attributes (Closes attrs_to to slash))
PartsMove text i (End name_to to) = (i < to) × (to ≤ length text)
PartsMove text i (Text to refs) = (i < to) × (to ≤ length text)
PartsMove text i (Comment text_from text_to to) = (i < to) × (to ≤ length text)
PartsMove text i (Doctype to) = (i < to) × (to ≤ length text)

abbrev pub StepMoves : List ℕ → ℕ → Step → Type 0
StepMoves text i (Gives parts) = PartsMove text i parts
StepMoves text i (Fails reason) = IsPageReason reason

end_moves : (text : List ℕ) (i : ℕ) → StepMoves text i (end_tag_at text i)
end_moves text i =
    let n = run_end is_name_byte text (i + 2) in
    let m = run_end is_space5 text n in
    pick (StepMoves text i) (is_letter (get_or text (i + 2) 0) && (get_or text m 0 == 62)) _ _
    (λ h.
    let within : m < length text = has_byte text m 62 (and_parts (is_letter (get_or text (i + 2) 0)) (get_or text m 0 == 62) h).1 (omega arith) in
    (omega (arith, run_end_from is_name_byte text (i + 2), run_end_from is_space5 text n), omega arith))
    (λ h. tt)

needle_fits : (text needle : List ℕ) (j : ℕ) → j < length text → begins_with needle (drop j text) ≡ true → j + length needle ≤ length text
needle_fits text needle j l h =
    let same : take (length needle) (drop j text) ≡ needle = (bytes_eq-Decides (take (length needle) (drop j text)) needle).0 h in
    omega (arith, ap length same, length-take (length needle) (drop j text), length-drop j text, l)

comment_moves : (text : List ℕ) (i t : ℕ) → i < t → t ≤ length text → StepMoves text i (comment_at text t)
comment_moves text i t low within =
    let e = find_where (begins_with (codes "-->")) text t in
    let found = find_in (begins_with (codes "-->")) text t within in
    pick (StepMoves text i) (get_or text t 0 == 62) _ _ (λ h. tt)
    (λ h. pick (StepMoves text i) ((get_or text t 0 == 45) && (get_or text (t + 1) 0 == 62)) _ _ (λ h. tt)
    (λ h. pick (StepMoves text i) (leb (length text) e) _ _ (λ h. tt)
    (λ some. pick (StepMoves text i) (has_bang_end (slice_range text t e)) _ _ (λ h. tt)
    (λ h.
    let inside : e < length text = leb-false (length text) e some in
    let fits : e + 3 ≤ length text = needle_fits text (codes "-->") e inside (found.2 inside) in
    (omega (arith, low, found.0), fits)))))

doctype_moves : (text : List ℕ) (i : ℕ) → StepMoves text i (doctype_at text i)
doctype_moves text i =
    pick (StepMoves text i) (ltb (bracket text i) (length text)) _ _
    (λ h. let l = ltb-true (bracket text i) (length text) h in (omega (arith, run_end_from (is_not_byte 62) text i), omega (arith, l)))
    (λ h. tt)

query_moves : (text : List ℕ) (i : ℕ) → StepMoves text i (query_at text i)
query_moves text i =
    pick (StepMoves text i) (ltb (bracket text (i + 1)) (length text)) _ _
    (λ h. let l = ltb-true (bracket text (i + 1)) (length text) h in (omega (arith, run_end_from (is_not_byte 62) text (i + 1)), omega (arith, l)))
    (λ h. tt)

declaration_moves : (text : List ℕ) (i : ℕ) → StepMoves text i (declaration_at text i)
declaration_moves text i =
    pick (StepMoves text i) ((get_or text (i + 2) 0 == 45) && (get_or text (i + 3) 0 == 45)) _ _
    (λ h.
    let l : i + 3 < length text = has_byte text (i + 3) 45 (and_parts (get_or text (i + 2) 0 == 45) (get_or text (i + 3) 0 == 45) h).1 (omega arith) in
    comment_moves text i (i + 4) (omega arith) (omega arith))
    (λ h. pick (StepMoves text i) (has_letters text (i + 2) (codes "doctype")) _ _ (λ d. doctype_moves text i) (λ d. tt))

not_both : (a b x y : ℕ) → ((a == x) && (b == y)) ≡ false → a ≡ x → b ≡ y → ⊥
not_both a b x y h e f = grind (arith, nat_tests)

any_moves : (text : List ℕ) (i : ℕ) → i < length text → starts_at text i ≡ false → StepMoves text i (other_at text i)
any_moves text i within starts =
    let a = get_or text i 0 in
    let b = get_or text (i + 1) 0 in
    pick (StepMoves text i) ((a == 60) && (b == 47)) _ _ (λ h. end_moves text i)
    (λ ends. pick (StepMoves text i) ((a == 60) && (b == 33)) _ _ (λ h. declaration_moves text i)
    (λ bang. pick (StepMoves text i) ((a == 60) && (b == 63)) _ _ (λ h. query_moves text i)
    (λ query. (
      other_moves text i (find_where opens text i) within refl starts (not_both a b 60 47 ends) (not_both a b 60 33 bang) (not_both a b 60 63 query),
      (find_in opens text i (omega arith)).1,
    ))))

-- which side of a choice a step is from
by_bool : (text : List ℕ) (i : ℕ) (step : Step) (b : Bool) (P Q : Type 0) → MatchBool b P Q → (b ≡ true → P → StepMoves text i step) → (b ≡ false → Q → StepMoves text i step) → StepMoves text i step
by_bool text i step true P Q h f g = f refl h
by_bool text i step false P Q h f g = g refl h

of_tag : (text name : List ℕ) (i n : ℕ) (out : AttrStep) → i + 1 < n → TagComesTo text n out → StepMoves text i (start_of name n out)
of_tag text name i n (Reads a) some comes = tt
of_tag text name i n (Closes attrs_to to slash) some comes =
    pick (StepMoves text i) (is_plaintext name || (slash && is_raw name)) _ _ (λ h. tt)
    (λ h. let m = tag_moves text n comes.0 attrs_to to slash comes.1 in (some, m.0, m.1, m.2, comes))
of_tag text name i n (Refuses reason) some comes = tag_refuses text n comes.0 reason comes.1

start_moves : (text : List ℕ) (i n : ℕ) (step : Step) → i + 1 < n → StartAt text i n step → StepMoves text i step
start_moves text i n step some h =
    by_bool text i step (is_gap (get_or text n 0) || (get_or text n 0 == 62)) _ _ h
    (λ b k. subst (StepMoves text i) (sym k.2) (of_tag text (slice_range text (i + 1) n) i n k.0 some k.1))
    (λ b k. subst (StepMoves text i) (sym k) tt)

name_ends : (text : List ℕ) (i : ℕ) → starts_at text i ≡ true → i + 1 < run_end is_name_byte text (i + 1)
name_ends text i h =
    let letter = (and_parts (get_or text i 0 == 60) (is_letter (get_or text (i + 1) 0)) h).1 in
    run_end_moves is_name_byte text (i + 1) (run_end is_name_byte text (i + 1)) refl (in_text text (i + 1) (letter_some (get_or text (i + 1) 0) letter)) (letter_is_name (get_or text (i + 1) 0) letter)

markup_moves : (text : List ℕ) (i : ℕ) (step : Step) → i < length text → MarkupAt text i step → StepMoves text i step
markup_moves text i step within h =
    by_bool text i step (starts_at text i) _ _ h
    (λ b k. start_moves text i (run_end is_name_byte text (i + 1)) step (name_ends text i b) k)
    (λ b k. subst (StepMoves text i) (sym k) (any_moves text i within b))

raw_within : (text name : List ℕ) (i : ℕ) → i < length text → raw_end text name i ≤ length text
raw_within text name i l = pick (λ n. n ≤ length text) (is_raw name) _ _ (λ h. (find_in (closes name) text i (omega arith)).1) (λ h. omega arith)

pub step_moves : (text name : List ℕ) (i : ℕ) (step : Step) → StepAt text name i step → StepMoves text i step
step_moves text name i step h =
    by_bool text i step (ltb i (raw_end text name i)) _ _ h.1
    (λ b k. subst (StepMoves text i) (sym k) (ltb-true i (raw_end text name i) b, raw_within text name i h.0))
    (λ b k. markup_moves text i step h.0 k)

-- something begins at each place before the end
choose : (b : Bool) (P Q : Step → Type 0) → (s : Step) × P s → (s : Step) × Q s → (s : Step) × MatchBool b (P s) (Q s)
choose true P Q p q = p
choose false P Q p q = q

some_start : (text : List ℕ) (i n : ℕ) → (s : Step) × StartAt text i n s
some_start text i n =
    let name = slice_range text (i + 1) n in
    let tag = some_tag (length text - n) text n (omega arith) in
    choose (is_gap (get_or text n 0) || (get_or text n 0 == 62)) (λ step. (out : AttrStep) × TagComesTo text n out × (step ≡ start_of name n out)) (λ step. step ≡ Fails BadTag) (start_of name n tag.0, (tag.0, tag.1, refl)) (Fails BadTag, refl)

some_markup : (text : List ℕ) (i : ℕ) → (s : Step) × MarkupAt text i s
some_markup text i =
    choose (starts_at text i) (StartAt text i (run_end is_name_byte text (i + 1))) (λ step. step ≡ other_at text i) (some_start text i (run_end is_name_byte text (i + 1))) (other_at text i, refl)

pub some_step : (text name : List ℕ) (i : ℕ) → i < length text → (s : Step) × StepAt text name i s
some_step text name i l =
    let raw = Gives (Text (raw_end text name i) (is_escapable name)) in
    let found = choose (ltb i (raw_end text name i)) (λ step. step ≡ raw) (MarkupAt text i) (raw, refl) (some_markup text i) in
    (found.0, (l, found.1))
