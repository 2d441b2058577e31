-- What a start tag comes to, step by step, and that it comes to one thing.
use Rattle.std.proofs.Common.{◌≡◌, ℕ, ◌+◌, ◌<◌, ◌≤◌, List, [], ◌∷◌, false, not, length, get_or, sym, ◌∙◌, ap, refl, subst, arith, IsUtf8}
use Rattle.std.specs.Prelude.{◌==◌}
use Rattle.std.proofs.lemmas.Bool.Decides.{nat_tests}
use Rattle.text_base.specs.Text.{run_end, is_not_byte, IsPlace}
use Rattle.text_base.proofs.Runs.{run_end_from, run_end_stops}
use Rattle.text_base.proofs.Boundaries.{past_ascii, after_ascii, find_byte_place}
use Rattle.html_lexer.specs.Cuts.{IsPart, IsCutOut, LeadsOn}
use Rattle.html_lexer.specs.declared.tags.Attribute.{Attribute}
use Rattle.html_lexer.specs.declared.tags.AttrStep.{AttrStep}
use Rattle.html_lexer.specs.declared.tags.AttrStep.TheVariants.{Reads, Closes, Refuses}
use Rattle.html_lexer.specs.Tags.{TagReads}
use Rattle.html_lexer.specs.Attributes.{Writes, IsLast, pair_at}

-- a tag reads one list of attributes, and comes to one thing
pub same_tag : (text : List ℕ) (i : ℕ) (us vs : List Attribute) (x y : AttrStep) → TagReads text i us x → TagReads text i vs y → (us ≡ vs) × (x ≡ y)
same_tag text i [] [] (Reads a) y h k = absurd h
same_tag text i [] [] (Closes a b c) (Reads d) h k = absurd k
same_tag text i [] [] (Closes a b c) (Closes d e f) h k = (refl, sym h ∙ k)
same_tag text i [] [] (Closes a b c) (Refuses r) h k = cc
same_tag text i [] [] (Refuses r) (Reads d) h k = absurd k
same_tag text i [] [] (Refuses r) (Closes d e f) h k = cc
same_tag text i [] [] (Refuses r) (Refuses s) h k = (refl, sym h ∙ k)
same_tag text i [] (b ∷ vs) (Reads a) y h k = absurd h
same_tag text i [] (b ∷ vs) (Closes a c d) y h k = let e = k.0 in cc
same_tag text i [] (b ∷ vs) (Refuses r) y h k = let e = k.0 in cc
same_tag text i (a ∷ us) [] x (Reads b) h k = absurd k
same_tag text i (a ∷ us) [] x (Closes b c d) h k = let e = h.0 in cc
same_tag text i (a ∷ us) [] x (Refuses r) h k = let e = h.0 in cc
same_tag text i (a ∷ us) (b ∷ vs) x y h k =
    let e : a ≡ b = (let f : Reads a ≡ Reads b = sym h.0 ∙ k.0 in cc) in
    let later = same_tag text a.to us vs x y h.1 (subst (λ (c : Attribute). TagReads text c.to vs y) (sym e) k.1) in
    let tails : us ≡ vs = later.0 in
    (cc, later.1)

pub is_part : (text : List ℕ) (from to : ℕ) → from ≤ to → IsPlace text from → IsPlace text to → IsPart text from to
is_part text from to order start end = record { order = order; start = start; end = end }

pub cut_out : (text : List ℕ) (name name_to value value_to to : ℕ) → IsPart text name name_to → value ≤ value_to → IsPlace text value → IsPlace text value_to → IsCutOut text (record { name = name; name_to = name_to; value = value; value_to = value_to; to = to })
cut_out text name name_to value value_to to part order start end = record { name = part; value = is_part text value value_to order start end }

-- an attribute whose value ends with the byte that it begins with
pub quoted_leads : (text : List ℕ) (name name_to v q : ℕ) → IsUtf8 text → v < length text → get_or text v 0 < 128 → IsPart text name name_to → q ≡ run_end (is_not_byte (get_or text v 0)) text (v + 1) → q < length text → LeadsOn text v (Reads (record { name = name; name_to = name_to; value = v + 1; value_to = q; to = q + 1 }))
quoted_leads text name name_to v q utf8 l ascii part e within =
    let b = get_or text v 0 in
    let t : is_not_byte b (get_or text q 0) ≡ false = subst (λ n. is_not_byte b (get_or text n 0) ≡ false) (sym e) (run_end_stops (is_not_byte b) text (v + 1) (omega arith)) in
    let same : get_or text q 0 ≡ get_or text v 0 = same_byte (get_or text q 0) (get_or text v 0) t in
    let from = run_end_from (is_not_byte b) text (v + 1) in (
      omega arith,
      omega arith,
      after_ascii text q (q + 1) utf8 refl within (omega arith),
      cut_out text name name_to (v + 1) q (q + 1) part (omega arith) (past_ascii text v utf8 l ascii) (find_byte_place b text (v + 1) q utf8 ascii (omega arith) e),
    )
  where
    same_byte : (x y : ℕ) → not (x == y) ≡ false → x ≡ y
    same_byte x y h = grind (arith, nat_tests)

-- what stands in a start tag writes one list of attributes
pub same_attributes : (attrs : List ℕ) (i : ℕ) (ps qs : List (List ℕ × List ℕ)) → Writes attrs i ps → Writes attrs i qs → ps ≡ qs
same_attributes attrs i [] [] h k = refl
same_attributes attrs i [] (q ∷ qs) h k = absurd (subst IsLast k.1 h)
same_attributes attrs i (p ∷ ps) [] h k = absurd (subst IsLast h.1 k)
same_attributes attrs i (p ∷ ps) (q ∷ qs) h k =
    let f : Reads h.0 ≡ Reads k.0 = sym h.1 ∙ k.1 in
    let e : h.0 ≡ k.0 = cc in
    let first : p ≡ q = h.2 ∙ ap (pair_at attrs) e ∙ sym k.2 in
    let later : ps ≡ qs = same_attributes attrs h.0.to ps qs h.3 (subst (λ (a : Attribute). Writes attrs a.to qs) (sym e) k.3) in
    cc
