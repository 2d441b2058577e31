-- What is written of a page, by the size and the text of its bytes.
use Rattle.std.proofs.Common.{◌≡◌, refl, ℕ, ◌<◌, ◌≤◌, Bool, true, false, List, [], length, ap, sym, ◌∙◌, arith, inl, inr, Ok, Err}
use Rattle.std.specs.Prelude.{Result, IfOk, if◌then◌else◌, nat_lt, Some}
use Rattle.std.proofs.lemmas.Bool.Decides.{nat_tests}
use Rattle.std.proofs.lemmas.Result.{IfOk-weaker}
use Rattle.text_base.specs.declared.memory.NoMemory.{NoMemory}
use Rattle.text_base.specs.declared.reasons.PageFault.{PageFault}
use Rattle.text_base.specs.Decoding.{decoded}
use Rattle.extract_call.specs.declared.answers.Line.{Line}
use Rattle.extract_call.specs.Answers.{Answer, answer_of}
use Rattle.extract_call.specs.PageLines.{most_page, too_long}
use Rattle.refusal_texts.specs.declared.refusal.Refusal.TheVariants as refusal
use Rattle.refusal_texts.specs.Written.{refusal_text}
use Rattle.why_call.specs.inner.OnePage.{IsTextAnswer}
use Rattle.why_call.specs.Pages.{byte_text, decoded_fault_text, fault_text, IsPageAnswer}

is_less : (a b : ℕ) → a < b → nat_lt a b ≡ true
is_less a b h = grind arith

is_not_less : (a b : ℕ) → b ≤ a → nat_lt a b ≡ false
is_not_less a b h = grind arith

first : (b : Bool) (x y : List ℕ) → b ≡ true → x ≡ (if b then x else y)
first true x y e = refl
first false x y e = cc

second : (b : Bool) (x y : List ℕ) → b ≡ false → y ≡ (if b then x else y)
second true x y e = cc
second false x y e = refl

-- of too many bytes
long_text : (bytes : List ℕ) (f : PageFault) → most_page < length bytes → byte_text f ≡ fault_text bytes f
long_text bytes f long = first (nat_lt most_page (length bytes)) (byte_text f) (decoded_fault_text (decoded bytes) f) (is_less most_page (length bytes) long)

-- of others
short_text : (bytes : List ℕ) (f : PageFault) → length bytes ≤ most_page → decoded_fault_text (decoded bytes) f ≡ fault_text bytes f
short_text bytes f short = second (nat_lt most_page (length bytes)) (byte_text f) (decoded_fault_text (decoded bytes) f) (is_not_less most_page (length bytes) short)

pub long_answer : (bytes : List ℕ) (a : Answer) → most_page < length bytes → a ≡ record { text = byte_text too_long; refused = true } → IsPageAnswer bytes a
long_answer bytes a long line = inl (record {
  fault = too_long;
  cause = inl (record { long = long; is = refl });
  line = line ∙ ap (λ t. record { text = t; refused = true }) (long_text bytes too_long long);
})

-- of bytes that are no text
pub other_answer : (bytes : List ℕ) (f : PageFault) (a : Answer) → length bytes ≤ most_page → decoded bytes ≡ Err f → a ≡ record { text = byte_text f; refused = true } → IsPageAnswer bytes a
other_answer bytes f a short decodes line = inl (record {
  fault = f;
  cause = inr (inl (record { short = short; is = decodes }));
  line = line ∙ ap (λ t. record { text = t; refused = true }) (sym (ap (λ r. decoded_fault_text r f) decodes) ∙ short_text bytes f short);
})

-- of a text
pub text_answer : (bytes text : List ℕ) (a : Answer) → length bytes ≤ most_page → decoded bytes ≡ Ok text → IsTextAnswer text a → IsPageAnswer bytes a
text_answer bytes text a short decodes (inl h) = inl (record {
  fault = h.fault;
  cause = inr (inr (record { short = short; text = text; decodes = decodes; is = h.is }));
  line = h.line ∙ ap (λ t. record { text = t; refused = true }) (sym (ap (λ r. decoded_fault_text r h.fault) decodes) ∙ short_text bytes h.fault short);
})
text_answer bytes text a short decodes (inr h) = inr (record { short = short; text = text; decodes = decodes; doc = h.doc; builds = h.builds; line = h.line })

-- ---- the same of what was made

pub long_made : (bytes : List ℕ) (made : Result Line NoMemory) → most_page < length bytes → IfOk made (λ l. answer_of l ≡ record { text = byte_text too_long; refused = true })
    → IfOk made (λ l. IsPageAnswer bytes (answer_of l))
long_made bytes made long h = IfOk-weaker made _ _ (λ l e. long_answer bytes (answer_of l) long e) h

pub other_made : (bytes : List ℕ) (f : PageFault) (made : Result Line NoMemory) → length bytes ≤ most_page → decoded bytes ≡ Err f
    → IfOk made (λ l. answer_of l ≡ record { text = byte_text f; refused = true }) → IfOk made (λ l. IsPageAnswer bytes (answer_of l))
other_made bytes f made short decodes h = IfOk-weaker made _ _ (λ l e. other_answer bytes f (answer_of l) short decodes e) h

pub text_made : (bytes text : List ℕ) (made : Result Line NoMemory) → length bytes ≤ most_page → decoded bytes ≡ Ok text
    → IfOk made (λ l. IsTextAnswer text (answer_of l)) → IfOk made (λ l. IsPageAnswer bytes (answer_of l))
text_made bytes text made short decodes h = IfOk-weaker made _ _ (λ l is. text_answer bytes text (answer_of l) short decodes is) h
