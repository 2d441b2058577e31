-- What calls add to an output, one after the other.
use Rattle.std.proofs.Common.{◌≡◌, ℕ, ◌+◌, ◌<◌, List, [], ◌++◌, length, true, false, refl, sym, ◌∙◌, ap, subst, arith, string_bytes, encode_utf8_all, append_assoc, length-append, Ok, Err, Result, OnOk}
use Rattle.std.specs.Bool.{MatchBool}
use Rattle.std.proofs.lemmas.List.{append-nil}
use Rattle.std.proofs.lemmas.Str.{encodes-append}
use Rattle.markup_out.specs.declared.output.Output.{Output}
use Rattle.markup_out.proofs.NameLemmas.{is_ascii, ascii_bytes}
use Rattle.markup_out.specs.inner.Adding.{limit_of, Holds, AddsBytes, Adds}

-- ---- one push

pub held_over : (o : Output) (bytes : List ℕ) → o.over ≡ true → Holds o bytes → limit_of o < length bytes
held_over o bytes h k = subst (λ b. MatchBool b (limit_of o < length bytes) (string_bytes o.text ≡ bytes)) h k

pub held_within : (o : Output) (bytes : List ℕ) → o.over ≡ false → Holds o bytes → string_bytes o.text ≡ bytes
held_within o bytes h k = subst (λ b. MatchBool b (limit_of o < length bytes) (string_bytes o.text ≡ bytes)) h k

holds_over : (o : Output) (bytes : List ℕ) → o.over ≡ true → limit_of o < length bytes → Holds o bytes
holds_over o bytes h k = subst (λ b. MatchBool b (limit_of o < length bytes) (string_bytes o.text ≡ bytes)) (sym h) k

holds_within : (o : Output) (bytes : List ℕ) → o.over ≡ false → string_bytes o.text ≡ bytes → Holds o bytes
holds_within o bytes h k = subst (λ b. MatchBool b (limit_of o < length bytes) (string_bytes o.text ≡ bytes)) (sym h) k

-- an output that is over stays as it is
pub stays_over : (o : Output) (bytes : List ℕ) → o.over ≡ true → AddsBytes o o bytes
stays_over o bytes h = record {
  limit = refl;
  each = λ was k. holds_over o (was ++ bytes) h (let more : limit_of o < length was = held_over o was h k in omega (arith, length-append was bytes));
}

-- bytes that it allows are
pub grows : (o n : Output) (bytes : List ℕ) → o.over ≡ false → n.over ≡ false → string_bytes n.text ≡ string_bytes o.text ++ bytes → n.left + length bytes ≡ o.left → AddsBytes o n bytes
grows o n bytes h k same left = record {
  limit = omega (arith, ap (length {A = ℕ}) same, length-append (string_bytes o.text) bytes);
  each = λ was w. holds_within n (was ++ bytes) k (same ∙ ap (λ t. t ++ bytes) (held_within o was h w));
}

-- ---- one after the other

pub adds : (o n : Output) (bytes text : List ℕ) → encode_utf8_all text ≡ bytes → AddsBytes o n bytes → Adds o n text
adds o n bytes text e a = record { bytes = subst (λ (t : List ℕ). AddsBytes o n t) (sym e) a }

bytes_both : (a b c : Output) (xs ys : List ℕ) → AddsBytes a b xs → AddsBytes b c ys → AddsBytes a c (xs ++ ys)
bytes_both a b c xs ys h k = record {
  limit = k.limit ∙ h.limit;
  each = λ was w. subst (λ (t : List ℕ). Holds c t) (append_assoc was xs ys) (k.each (was ++ xs) (h.each was w));
}

pub none : (o : Output) → Adds o o []
none o = record { bytes = record { limit = refl; each = λ was w. subst (λ (t : List ℕ). Holds o t) (sym (append-nil was)) w } }

pub both : (a b c : Output) (xs ys : List ℕ) → Adds a b xs → Adds b c ys → Adds a c (xs ++ ys)
both a b c xs ys h k = record { bytes = subst (λ (t : List ℕ). AddsBytes a c t) (sym (encodes-append xs ys)) (bytes_both a b c (encode_utf8_all xs) (encode_utf8_all ys) h.bytes k.bytes) }

pub same : (a b : Output) (xs ys : List ℕ) → xs ≡ ys → Adds a b xs → Adds a b ys
same a b xs ys e h = subst (λ (t : List ℕ). Adds a b t) e h

pub adds_ascii : (o n : Output) (text : List ℕ) → is_ascii text ≡ true → AddsBytes o n text → Adds o n text
adds_ascii o n text h a = adds o n text text (ascii_bytes text h) a

-- an output that is over says so of everything that begins with what was written
pub adds_over : (o n : Output) (xs ys : List ℕ) → n.over ≡ true → Adds o n xs → Adds o n (xs ++ ys)
adds_over o n xs ys h a = both o n n xs ys a (record { bytes = stays_over n (encode_utf8_all ys) h })

-- ---- where the last call's answer is handed on

pub on_ok : {P Q V E : Type 0} (r : Result V E) → (P → Q) → OnOk r P → OnOk r Q
on_ok (Ok v) f h = f h
on_ok (Err e) f h = h

pub adds_last : {V E : Type 0} (r : Result V E) (o n : Output) (bytes text : List ℕ) → encode_utf8_all text ≡ bytes → OnOk r (AddsBytes o n bytes) → OnOk r (Adds o n text)
adds_last r o n bytes text e h = on_ok r (adds o n bytes text e) h

pub both_last : {V E : Type 0} (r : Result V E) (a b c : Output) (xs ys : List ℕ) → Adds a b xs → OnOk r (Adds b c ys) → OnOk r (Adds a c (xs ++ ys))
both_last r a b c xs ys h k = on_ok r (both a b c xs ys h) k

pub ascii_last : {V E : Type 0} (r : Result V E) (o n : Output) (text : List ℕ) → is_ascii text ≡ true → OnOk r (AddsBytes o n text) → OnOk r (Adds o n text)
ascii_last r o n text h k = on_ok r (adds_ascii o n text h) k
