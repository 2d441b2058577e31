-- A script without `{` outside quotes reads as fields.
use Rattle.std.proofs.Common.{◌≡◌, ℕ, ◌<◌, ◌≤◌, Bool, true, false, List, [], ◌∷◌, length, map, refl, sym, ◌∙◌, ap, subst, arith}
use Rattle.std.specs.Prelude.{◌&&◌, ◌||◌, ◌==◌, not, filter}
use Rattle.std.specs.List.{AllByRecursion}
use Rattle.std.proofs.lemmas.Bool.Decides.{nat_tests}
use Rattle.text_base.specs.declared.reasons.ScriptFault.{ScriptFault}
use Rattle.text_base.specs.declared.reasons.ScriptFault.TheVariants as script
use Rattle.test_registry.specs.Names.{Known}
use Rattle.css_selectors.specs.declared.selector.Dialect.{Dialect}
use Rattle.query_script.specs.declared.script.Field.{Field}
use Rattle.query_script.specs.Cuts.{quote_after, onto_first, pieces, ends_field, is_written, fields_of}
use Rattle.query_script.specs.Fields.{AreFields, IsScriptOver, IsScriptFault, most_fields}
use Rattle.page_records.specs.declared.script.Entry.TheVariants as entry
use Rattle.page_records.specs.Braces.{opens, closes, stands, open_after, block_pieces, entries_of, is_block}
use Rattle.page_records.specs.Scripts.{AreEntries, IsRecordScript, IsRecordFault}

-- ---- the first byte and the rest

either_false : (a b : Bool) → (a || b) ≡ false → (a ≡ false) × (b ≡ false)
either_false false b e = (refl, e)
either_false true b e = absurd (let clash : true ≡ false = e in cc)

-- none is open after it
still_closed : (q c : ℕ) → ((q == 0) && opens c) ≡ false → open_after false q c ≡ false
still_closed q c e = grind (arith, nat_tests)

-- a byte at which a script is cut is no quote
no_quote : (q c : ℕ) → ((q == 0) && ends_field c) ≡ true → quote_after q c ≡ 0
no_quote q c e = grind (arith, nat_tests)

same_test : (q c : ℕ) (later : Bool) → ((q == 0) && (ends_field c && not (false && later))) ≡ ((q == 0) && ends_field c)
same_test q c later = grind (arith, nat_tests)

-- ---- the pieces are the same

pub same_pieces : (q : ℕ) (text : List ℕ) → stands opens q text ≡ false → block_pieces false q text ≡ pieces ends_field q text
same_pieces q [] h = refl
same_pieces q (c ∷ text) h = by_test ((q == 0) && ends_field c) refl (λ r e. same_pieces r text e)
  where
    here : ((q == 0) && opens c) ≡ false
    here = (either_false ((q == 0) && opens c) (stands opens (quote_after q c) text) h).0

    rest : stands opens (quote_after q c) text ≡ false
    rest = (either_false ((q == 0) && opens c) (stands opens (quote_after q c) text) h).1

    cut : (b : Bool) → ((q == 0) && ends_field c) ≡ b → ((q == 0) && (ends_field c && not (false && stands closes 0 text))) ≡ b
    cut b e = same_test q c (stands closes 0 text) ∙ e

    by_test : (b : Bool) → ((q == 0) && ends_field c) ≡ b → ((r : ℕ) → stands opens r text ≡ false → block_pieces false r text ≡ pieces ends_field r text) →
        block_pieces false q (c ∷ text) ≡ pieces ends_field q (c ∷ text)
    by_test true e ih =
        let P : ℕ → Type 0 = λ r. stands opens r text ≡ false in
        let left : block_pieces false q (c ∷ text) ≡ [] ∷ block_pieces false 0 text = rw (cut true e) refl in
        let right : pieces ends_field q (c ∷ text) ≡ [] ∷ pieces ends_field 0 text = rw e refl in
        left ∙ (ap (λ ps. [] ∷ ps) (ih 0 (subst P (no_quote q c e) rest)) ∙ sym right)
    by_test false e ih =
        let left : block_pieces false q (c ∷ text) ≡ onto_first c (block_pieces (open_after false q c) (quote_after q c) text) = rw (cut false e) refl in
        let right : pieces ends_field q (c ∷ text) ≡ onto_first c (pieces ends_field (quote_after q c) text) = rw e refl in
        left ∙ (ap (λ b. onto_first c (block_pieces b (quote_after q c) text)) (still_closed q c here) ∙ (ap (onto_first c) (ih (quote_after q c) rest) ∙ sym right))

pub same_entries : (text : List ℕ) → stands opens 0 text ≡ false → entries_of text ≡ fields_of text
same_entries text h = ap (filter is_written) (same_pieces 0 text h)

-- ---- none of them has a `{` outside quotes

abbrev IsPlain : List ℕ → Type 0
IsPlain piece = is_block piece ≡ false

-- the first piece begins with this quote open, each other outside quotes
ArePlain : ℕ → List (List ℕ) → Type 0
ArePlain q [] = Unit {0}
ArePlain q (p ∷ ps) = (stands opens q p ≡ false) × AllByRecursion IsPlain ps

plain_more : (q c : ℕ) (ps : List (List ℕ)) → ((q == 0) && opens c) ≡ false → ArePlain (quote_after q c) ps → ArePlain q (onto_first c ps)
unfolding ArePlain
plain_more q c [] e h = (ap (λ b. b || false) e, tt)
plain_more q c (p ∷ ps) e h = (ap (λ b. b || stands opens (quote_after q c) p) e ∙ h.0, h.1)

all_plain : (ps : List (List ℕ)) → ArePlain 0 ps → AllByRecursion IsPlain ps
unfolding ArePlain
all_plain [] h = tt
all_plain (p ∷ ps) h = h

pieces_plain : (q : ℕ) (text : List ℕ) → stands opens q text ≡ false → ArePlain q (pieces ends_field q text)
unfolding ArePlain
pieces_plain q [] h = (refl, tt)
pieces_plain q (c ∷ text) h = by_test ((q == 0) && ends_field c) refl (λ r e. pieces_plain r text e)
  where
    here : ((q == 0) && opens c) ≡ false
    here = (either_false ((q == 0) && opens c) (stands opens (quote_after q c) text) h).0

    rest : stands opens (quote_after q c) text ≡ false
    rest = (either_false ((q == 0) && opens c) (stands opens (quote_after q c) text) h).1

    by_test : (b : Bool) → ((q == 0) && ends_field c) ≡ b → ((r : ℕ) → stands opens r text ≡ false → ArePlain r (pieces ends_field r text)) → ArePlain q (pieces ends_field q (c ∷ text))
    by_test true e ih =
        let P : ℕ → Type 0 = λ r. stands opens r text ≡ false in
        let Q : List (List ℕ) → Type 0 = λ ps. ArePlain q ps in
        let right : pieces ends_field q (c ∷ text) ≡ [] ∷ pieces ends_field 0 text = rw e refl in
        subst Q (sym right) (refl, all_plain (pieces ends_field 0 text) (ih 0 (subst P (no_quote q c e) rest)))
    by_test false e ih =
        let Q : List (List ℕ) → Type 0 = λ ps. ArePlain q ps in
        let right : pieces ends_field q (c ∷ text) ≡ onto_first c (pieces ends_field (quote_after q c) text) = rw e refl in
        subst Q (sym right) (plain_more q c (pieces ends_field (quote_after q c) text) here (ih (quote_after q c) rest))

kept_plain : (ps : List (List ℕ)) → AllByRecursion IsPlain ps → AllByRecursion IsPlain (filter is_written ps)
kept_plain [] h = tt
kept_plain (p ∷ ps) h = by_test (is_written p) refl (kept_plain ps h.1)
  where
    by_test : (b : Bool) → is_written p ≡ b → AllByRecursion IsPlain (filter is_written ps) → AllByRecursion IsPlain (filter is_written (p ∷ ps))
    by_test true e ih = rw e (h.0, ih)
    by_test false e ih = rw e ih

fields_plain : (text : List ℕ) → stands opens 0 text ≡ false → AllByRecursion IsPlain (fields_of text)
fields_plain text h = kept_plain (pieces ends_field 0 text) (all_plain (pieces ends_field 0 text) (pieces_plain 0 text h))

-- ---- the script

plain_entries : (tests : Known) (d : Dialect) (ps : List (List ℕ)) (fields : List Field) → AllByRecursion IsPlain ps → AreFields tests d ps fields → AreEntries tests d ps (map entry.Plain fields)
plain_entries tests d [] [] h are = tt
plain_entries tests d [] (f ∷ fields) h are = absurd are
plain_entries tests d (p ∷ ps) [] h are = absurd are
plain_entries tests d (p ∷ ps) (f ∷ fields) h are = ((h.0, are.0), plain_entries tests d ps fields h.1 are.1)

pub reads_as_fields : (tests : Known) (d : Dialect) (text : List ℕ) (fields : List Field) → stands opens 0 text ≡ false → IsScriptOver tests d text fields → IsRecordScript tests d text (map entry.Plain fields)
reads_as_fields tests d text fields h s =
    let P : List (List ℕ) → Type 0 = λ ps. AreEntries tests d ps (map entry.Plain fields) in
    let Q : List (List ℕ) → Type 0 = λ ps. length ps ≤ most_fields in
    record { short = s.short; few = subst Q (sym (same_entries text h)) s.few; are = subst P (sym (same_entries text h)) (plain_entries tests d (fields_of text) fields (fields_plain text h) s.are) }

pub refused_as_fields : (text : List ℕ) (fault : ScriptFault) → stands opens 0 text ≡ false → IsScriptFault text fault → IsRecordFault text fault
refused_as_fields text script.Long h f = f
refused_as_fields text script.Fields h f = let Q : List (List ℕ) → Type 0 = λ ps. most_fields < length ps in record { short = f.short; many = subst Q (sym (same_entries text h)) f.many }
refused_as_fields text script.Memory h f = f
