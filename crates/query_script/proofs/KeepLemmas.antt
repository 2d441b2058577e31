-- What stands in the brackets of `keep`, read from the left.
use Rattle.std.proofs.Common.{◌≡◌, ℕ, ◌<◌, Bool, true, false, List, ◌∷◌, ◌++◌, length, refl, ◌∙◌, ap, arith, inl, inr}
use Rattle.std.specs.Prelude.{◌&&◌, Option, Some, None, option_map, if◌then◌else◌}
use Rattle.std.specs.List.{list_any, before_first, after_first, position_or_len}
use Rattle.std.specs.Str.{chars}
use Rattle.std.proofs.lemmas.Bool.{cases_lt}
use Rattle.std.proofs.lemmas.Bool.Decides.{nat_tests}
use Rattle.std.proofs.lemmas.List.Sums.{passes_at_first, split_at_first}
use Rattle.query_script.specs.declared.steps.RawStep.{RawStep}
use Rattle.query_script.specs.declared.steps.RawStep.TheVariants as raw
use Rattle.query_script.specs.Cuts.{trimmed}
use Rattle.query_script.specs.Names.{is_test_name}
use Rattle.query_script.specs.Steps.{IsString}
use Rattle.query_script.specs.inner.Reader.{is_comma, read_string, read_keep}
use Rattle.query_script.proofs.BlankLemmas.{no_comma}
use Rattle.query_script.proofs.SplitLemmas.{none_there, before_is, after_is, one_is}
use Rattle.query_script.proofs.StringLemmas.{string_complete, string_sound}

pub keep_complete : (first second value : List ℕ) → is_test_name (trimmed first) ≡ true → IsString (trimmed second) value → read_keep (first ++ 44 ∷ second) ≡ Some (raw.Keep (chars (trimmed first)) value)
keep_complete first second value named string =
    let none : list_any is_comma first ≡ false = no_comma first named in
    let some : list_any is_comma (first ++ 44 ∷ second) ≡ true = one_is is_comma 44 refl first second in
    let before : before_first is_comma (first ++ 44 ∷ second) ≡ first = before_is is_comma 44 refl first second none in
    let after : after_first is_comma (first ++ 44 ∷ second) ≡ second = after_is is_comma 44 refl first second none in
    by_parts (first ++ 44 ∷ second) some before after
  where
    by_parts : (text : List ℕ) → list_any is_comma text ≡ true → before_first is_comma text ≡ first → after_first is_comma text ≡ second → read_keep text ≡ Some (raw.Keep (chars (trimmed first)) value)
    by_parts text some before after = rw (some, before, after, named, string_complete (trimmed second) value string) refl

-- a name, a comma and a string were read
pub record IsKeepRead (text : List ℕ) (s : RawStep) : Type 0 where
  pub first : List ℕ
  pub second : List ℕ
  pub value : List ℕ
  pub spelled : text ≡ first ++ 44 ∷ second
  pub named : is_test_name (trimmed first) ≡ true
  pub string : IsString (trimmed second) value
  pub is : s ≡ raw.Keep (chars (trimmed first)) value

comma_byte : (c : ℕ) → is_comma c ≡ true → c ≡ 44
comma_byte c h = grind (arith, nat_tests)

both : (a b : Bool) → (a && b) ≡ true → (a ≡ true) × (b ≡ true)
both true b e = (refl, e)
both false b e = cc

-- a list with an element that passes has a first one
within : (text : List ℕ) → list_any is_comma text ≡ true → position_or_len is_comma text < length text
within text h = elim (cases_lt (position_or_len is_comma text) (length text)) [
  | inl l ↦ l
  | inr l ↦ let no : list_any is_comma text ≡ false = none_there is_comma text l in cc
]

pub keep_sound : (text : List ℕ) (s : RawStep) → read_keep text ≡ Some s → IsKeepRead text s
keep_sound text s e = by_test (list_any is_comma text && is_test_name (trimmed (before_first is_comma text))) refl e
  where
    by_string : list_any is_comma text ≡ true → is_test_name (trimmed (before_first is_comma text)) ≡ true → (o : Option (List ℕ)) → read_string (trimmed (after_first is_comma text)) ≡ o →
        option_map (raw.Keep (chars (trimmed (before_first is_comma text)))) o ≡ Some s → IsKeepRead text s
    by_string some named None r e = cc
    by_string some named (Some v) r e = record {
      first = before_first is_comma text;
      second = after_first is_comma text;
      value = v;
      spelled =
          (let l = within text some in
          split_at_first is_comma text 0 l ∙ ap (λ c. before_first is_comma text ++ c ∷ after_first is_comma text) (comma_byte _ (passes_at_first is_comma text 0 l)));
      named = named;
      string = string_sound (trimmed (after_first is_comma text)) v r;
      is = (let is : s ≡ raw.Keep (chars (trimmed (before_first is_comma text))) v = cc in is);
    }

    by_test : (b : Bool) → (list_any is_comma text && is_test_name (trimmed (before_first is_comma text))) ≡ b →
        (if b then option_map (raw.Keep (chars (trimmed (before_first is_comma text)))) (read_string (trimmed (after_first is_comma text))) else None) ≡ Some s → IsKeepRead text s
    by_test true t e = let two = both (list_any is_comma text) (is_test_name (trimmed (before_first is_comma text))) t in by_string two.0 two.1 (read_string (trimmed (after_first is_comma text))) refl e
    by_test false t e = cc
