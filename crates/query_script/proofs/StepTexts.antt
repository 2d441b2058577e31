-- Steps and ends, read from the left.
use Rattle.std.proofs.Common.{◌≡◌, ℕ, ◌+◌, ◌-◌, ◌<◌, Bool, true, false, List, [], ◌∷◌, ◌++◌, length, refl, sym, ◌∙◌, ap, subst, arith, codes, length-drop, append_assoc}
use Rattle.std.specs.Prelude.{Option, Some, None, option_map, option_and_then, if◌then◌else◌}
use Rattle.std.specs.List.{list_any, before_first, after_first, position_or_len}
use Rattle.std.specs.Str.{bytes_eq}
use Rattle.std.proofs.lemmas.Bool.Decides.{nat_tests}
use Rattle.std.proofs.lemmas.List.{length-append}
use Rattle.std.proofs.lemmas.List.Sums.{passes_at_first, split_at_first}
use Rattle.std.proofs.lemmas.Slice.Eq.{bytes_eq-Decides}
use Rattle.query_script.specs.declared.script.Take.{Take}
use Rattle.query_script.specs.declared.script.Take.TheVariants as end
use Rattle.query_script.specs.declared.steps.RawStep.{RawStep}
use Rattle.query_script.specs.declared.steps.RawStep.TheVariants as raw
use Rattle.query_script.specs.declared.steps.Word.{Word}
use Rattle.query_script.specs.declared.steps.Word.TheVariants as word
use Rattle.query_script.specs.Cuts.{trimmed}
use Rattle.query_script.specs.Steps.{IsCall, IsStepText, AreStepTexts, end_text}
use Rattle.query_script.specs.inner.Reader.{is_open, read_string, inside_of, read_word, read_inside, read_step, read_steps, read_end}
use Rattle.query_script.proofs.BlankLemmas.{no_open}
use Rattle.query_script.proofs.KeepLemmas.{keep_complete, keep_sound}
use Rattle.query_script.proofs.SplitLemmas.{before_is, after_is, none_after}
use Rattle.query_script.proofs.StepLemmas.{inside_complete, inside_sound}
use Rattle.query_script.proofs.StringLemmas.{string_complete, string_sound}

-- ---- what is written is read

-- a step by its word and what stands in its brackets
call_reads : (w : Word) (text head inside : List ℕ) → list_any is_open head ≡ false → read_word head ≡ Some w → text ≡ head ++ 40 ∷ (inside ++ 41 ∷ []) → read_step text ≡ read_inside w inside
call_reads w text head inside none is spelled =
    let before : before_first is_open text ≡ head = ap (before_first is_open) spelled ∙ before_is is_open 40 refl head (inside ++ 41 ∷ []) none in
    let after : after_first is_open text ≡ inside ++ 41 ∷ [] = ap (after_first is_open) spelled ∙ after_is is_open 40 refl head (inside ++ 41 ∷ []) none in
    ap (λ t. option_and_then (λ u. option_and_then (read_inside u) (inside_of (after_first is_open text))) (read_word t)) before
    ∙ (ap (option_and_then (λ u. option_and_then (read_inside u) (inside_of (after_first is_open text)))) is
    ∙ (ap (λ t. option_and_then (read_inside w) (inside_of t)) after ∙ ap (option_and_then (read_inside w)) (inside_complete inside)))

keep_word : (head : List ℕ) → trimmed head ≡ codes "keep" → read_word head ≡ Some word.Keep
keep_word head h =
    ap (λ t. if bytes_eq t (codes "keep") then Some word.Keep
    else (if bytes_eq head (codes "css") then Some word.Css else (if bytes_eq head (codes "xpath") then Some word.XPath else (if bytes_eq head (codes "re") then Some word.Re else None)))) h

pub step_complete : (text : List ℕ) (s : RawStep) → IsStepText text s → read_step text ≡ Some s
step_complete text (raw.Css value) h = call_reads word.Css text (codes "css") h.inside refl refl h.spelled ∙ ap (option_map raw.Css) (string_complete h.inside value h.string)
step_complete text (raw.XPath value) h = call_reads word.XPath text (codes "xpath") h.inside refl refl h.spelled ∙ ap (option_map raw.XPath) (string_complete h.inside value h.string)
step_complete text (raw.Re value) h = call_reads word.Re text (codes "re") h.inside refl refl h.spelled ∙ ap (option_map raw.Re) (string_complete h.inside value h.string)
step_complete text (raw.Keep name value) h =
    let none : list_any is_open h.word ≡ false = no_open h.word (ap (list_any is_open) h.keeps) in
    let spelled : text ≡ h.word ++ 40 ∷ ((h.first ++ 44 ∷ h.second) ++ 41 ∷ []) = h.spelled ∙ ap (λ t. h.word ++ 40 ∷ t) (sym (append_assoc h.first (44 ∷ h.second) (41 ∷ []))) in
    call_reads word.Keep text h.word (h.first ++ 44 ∷ h.second) none (keep_word h.word h.keeps) spelled
    ∙ (keep_complete h.first h.second value h.named h.string ∙ ap (λ n. Some (raw.Keep n value)) (sym h.name_is))

pub steps_complete : (texts : List (List ℕ)) (steps : List RawStep) → AreStepTexts texts steps → read_steps texts ≡ Some steps
steps_complete [] [] h = refl
steps_complete [] (s ∷ steps) h = absurd h
steps_complete (t ∷ texts) [] h = absurd h
steps_complete (t ∷ texts) (s ∷ steps) h = rw (step_complete t s h.0, steps_complete texts steps h.1) refl

pub end_complete : (t : Take) → read_end (end_text t) ≡ Some t
end_complete end.First = refl
end_complete end.All = refl

-- a text without a bracket is no step
pub no_call : (text : List ℕ) → list_any is_open text ≡ false → None ≡ read_step text
no_call text h = sym (by_word (read_word (before_first is_open text)))
  where
    nothing : inside_of (after_first is_open text) ≡ None
    nothing = ap inside_of (none_after is_open text h)

    by_word : (o : Option Word) → option_and_then (λ w. option_and_then (read_inside w) (inside_of (after_first is_open text))) o ≡ None
    by_word None = refl
    by_word (Some w) = ap (option_and_then (read_inside w)) nothing

-- ---- what is read was written

-- how the word is written before a bracket
abbrev IsWord : Word → List ℕ → Type 0
IsWord word.Css text = text ≡ codes "css"
IsWord word.XPath text = text ≡ codes "xpath"
IsWord word.Re text = text ≡ codes "re"
IsWord word.Keep text = trimmed text ≡ codes "keep"

word_sound : (text : List ℕ) (w : Word) → read_word text ≡ Some w → IsWord w text
word_sound text w e = by_keep (bytes_eq (trimmed text) (codes "keep")) refl e
  where
    found : (k : Word) → IsWord k text → ◌≡◌ {A = Option Word} (Some k) (Some w) → IsWord w text
    found k h e = let is : k ≡ w = cc in let P : Word → Type 0 = λ u. IsWord u text in subst P is h

    by_re : (b : Bool) → bytes_eq text (codes "re") ≡ b → (if b then Some word.Re else None) ≡ Some w → IsWord w text
    by_re true t e = found word.Re ((bytes_eq-Decides _ _).0 t) e
    by_re false t e = cc

    by_xpath : (b : Bool) → bytes_eq text (codes "xpath") ≡ b → (if b then Some word.XPath else (if bytes_eq text (codes "re") then Some word.Re else None)) ≡ Some w → IsWord w text
    by_xpath true t e = found word.XPath ((bytes_eq-Decides _ _).0 t) e
    by_xpath false t e = by_re (bytes_eq text (codes "re")) refl e

    by_css : (b : Bool) → bytes_eq text (codes "css") ≡ b → (if b then Some word.Css else (if bytes_eq text (codes "xpath") then Some word.XPath else (if bytes_eq text (codes "re") then Some word.Re else None))) ≡ Some w → IsWord w text
    by_css true t e = found word.Css ((bytes_eq-Decides _ _).0 t) e
    by_css false t e = by_xpath (bytes_eq text (codes "xpath")) refl e

    by_keep : (b : Bool) → bytes_eq (trimmed text) (codes "keep") ≡ b →
        (if b then Some word.Keep
        else (if bytes_eq text (codes "css") then Some word.Css else (if bytes_eq text (codes "xpath") then Some word.XPath else (if bytes_eq text (codes "re") then Some word.Re else None)))) ≡ Some w → IsWord w text
    by_keep true t e = found word.Keep ((bytes_eq-Decides _ _).0 t) e
    by_keep false t e = by_css (bytes_eq text (codes "css")) refl e

-- a call of a word but `keep`
called : (make : List ℕ → RawStep) (head text inside : List ℕ) (s : RawStep) → ((v : List ℕ) → IsCall head text v → IsStepText text (make v)) → text ≡ head ++ 40 ∷ (inside ++ 41 ∷ []) →
    option_map make (read_string inside) ≡ Some s → IsStepText text s
called make head text inside s is spelled e = by_value (read_string inside) refl e
  where
    by_value : (o : Option (List ℕ)) → read_string inside ≡ o → option_map make o ≡ Some s → IsStepText text s
    by_value None r e = cc
    by_value (Some v) r e =
        let same : make v ≡ s = cc in
        let P : RawStep → Type 0 = λ x. IsStepText text x in
        subst P same (is v (record { inside = inside; spelled = spelled; string = string_sound inside v r }))

inside_is : (w : Word) (head text inside : List ℕ) (s : RawStep) → IsWord w head → text ≡ head ++ 40 ∷ (inside ++ 41 ∷ []) → read_inside w inside ≡ Some s → IsStepText text s
inside_is word.Css head text inside s h spelled e = called raw.Css (codes "css") text inside s (λ v r. r) (spelled ∙ ap (λ t. t ++ 40 ∷ (inside ++ 41 ∷ [])) h) e
inside_is word.XPath head text inside s h spelled e = called raw.XPath (codes "xpath") text inside s (λ v r. r) (spelled ∙ ap (λ t. t ++ 40 ∷ (inside ++ 41 ∷ [])) h) e
inside_is word.Re head text inside s h spelled e = called raw.Re (codes "re") text inside s (λ v r. r) (spelled ∙ ap (λ t. t ++ 40 ∷ (inside ++ 41 ∷ [])) h) e
inside_is word.Keep head text inside s h spelled e =
    let r = keep_sound inside s e in
    let P : RawStep → Type 0 = λ x. IsStepText text x in
    subst P (sym r.is) (record {
      word = head;
      first = r.first;
      second = r.second;
      spelled = spelled ∙ ap (λ t. head ++ 40 ∷ t) (ap (λ t. t ++ 41 ∷ []) r.spelled ∙ append_assoc r.first (44 ∷ r.second) (41 ∷ []));
      keeps = h;
      named = r.named;
      name_is = refl;
      string = r.string;
    })

open_byte : (c : ℕ) → is_open c ≡ true → c ≡ 40
open_byte c h = grind (arith, nat_tests)

-- a text in which something stands after a bracket
opened : (text inside : List ℕ) → after_first is_open text ≡ inside ++ 41 ∷ [] → text ≡ before_first is_open text ++ 40 ∷ (inside ++ 41 ∷ [])
opened text inside e =
    let n : length (after_first is_open text) ≡ length text - (position_or_len is_open text + 1) = length-drop (position_or_len is_open text + 1) text in
    let m : length (after_first is_open text) ≡ length inside + 1 = ap length e ∙ length-append inside (41 ∷ []) in
    let within : position_or_len is_open text < length text = omega arith in
    split_at_first is_open text 0 within ∙ (ap (λ c. before_first is_open text ++ c ∷ after_first is_open text) (open_byte _ (passes_at_first is_open text 0 within))
    ∙ ap (λ t. before_first is_open text ++ 40 ∷ t) e)

pub step_sound : (text : List ℕ) (s : RawStep) → read_step text ≡ Some s → IsStepText text s
step_sound text s e = by_word (read_word (before_first is_open text)) refl e
  where
    by_inside : (w : Word) → IsWord w (before_first is_open text) → (o : Option (List ℕ)) → inside_of (after_first is_open text) ≡ o → option_and_then (read_inside w) o ≡ Some s → IsStepText text s
    by_inside w h None i e = cc
    by_inside w h (Some inside) i e = inside_is w (before_first is_open text) text inside s h (opened text inside (inside_sound (after_first is_open text) inside i)) e

    by_word : (o : Option Word) → read_word (before_first is_open text) ≡ o → option_and_then (λ w. option_and_then (read_inside w) (inside_of (after_first is_open text))) o ≡ Some s → IsStepText text s
    by_word None h e = cc
    by_word (Some w) h e = by_inside w (word_sound (before_first is_open text) w h) (inside_of (after_first is_open text)) refl e

pub steps_sound : (texts : List (List ℕ)) (steps : List RawStep) → read_steps texts ≡ Some steps → AreStepTexts texts steps
steps_sound [] steps e = let is : [] ≡ steps = cc in let P : List RawStep → Type 0 = λ x. AreStepTexts [] x in subst P is tt
steps_sound (t ∷ texts) steps e = by_first (read_step t) refl (λ us h. steps_sound texts us h) e
  where
    by_rest : (s : RawStep) → read_step t ≡ Some s → ((us : List RawStep) → read_steps texts ≡ Some us → AreStepTexts texts us) → (o : Option (List RawStep)) → read_steps texts ≡ o →
        option_map (λ us. s ∷ us) o ≡ Some steps → AreStepTexts (t ∷ texts) steps
    by_rest s h go None g e = cc
    by_rest s h go (Some us) g e =
        let is : s ∷ us ≡ steps = cc in
        let P : List RawStep → Type 0 = λ x. AreStepTexts (t ∷ texts) x in
        subst P is (step_sound t s h, go us g)

    by_first : (o : Option RawStep) → read_step t ≡ o → ((us : List RawStep) → read_steps texts ≡ Some us → AreStepTexts texts us) →
        option_and_then (λ s. option_map (λ us. s ∷ us) (read_steps texts)) o ≡ Some steps → AreStepTexts (t ∷ texts) steps
    by_first None h go e = cc
    by_first (Some s) h go e = by_rest s h go (read_steps texts) refl e

pub end_sound : (part : List ℕ) (t : Take) → read_end part ≡ Some t → part ≡ end_text t
end_sound part t e = by_get (bytes_eq part (codes "get()")) refl e
  where
    by_all : (b : Bool) → bytes_eq part (codes "getall()") ≡ b → (if b then Some end.All else None) ≡ Some t → part ≡ end_text t
    by_all true h e = (bytes_eq-Decides _ _).0 h ∙ ap end_text (let is : end.All ≡ t = cc in is)
    by_all false h e = cc

    by_get : (b : Bool) → bytes_eq part (codes "get()") ≡ b → (if b then Some end.First else (if bytes_eq part (codes "getall()") then Some end.All else None)) ≡ Some t → part ≡ end_text t
    by_get true h e = (bytes_eq-Decides _ _).0 h ∙ ap end_text (let is : end.First ≡ t = cc in is)
    by_get false h e = by_all (bytes_eq part (codes "getall()")) refl e
