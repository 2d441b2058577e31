-- Each page has a line by entries that can be run, and one that is its canonical markup.
use Rattle.std.proofs.Common.{◌≡◌, refl, ℕ, ◌<◌, ◌≤◌, List, [], ◌∷◌, length, inl, inr, ◌⊎◌}
use Rattle.std.specs.Prelude.{Result, Ok, Err, true, false, encode_utf8_all}
use Rattle.std.specs.List.{AllByRecursion, list_any}
use Rattle.text_base.specs.declared.reasons.PageFault.{PageFault}
use Rattle.text_base.specs.Decoding.{decoded}
use Rattle.doc_model.specs.Document.{Document}
use Rattle.html_reader.specs.PageLaws.{PageAnswer}
use Rattle.test_registry.specs.Names.{Known}
use Rattle.json_lines.specs.Pages.{refused_text}
use Rattle.page_records.specs.declared.script.Entry.{Entry}
use Rattle.page_records.specs.declared.script.EntryValue.{EntryValue}
use Rattle.page_records.specs.Lines.{line_text, holds_refusal}
use Rattle.page_records.specs.Ordered.{IsOrderedEntry}
use Rattle.page_records.specs.Records.{IsEntryValue}
use Rattle.markup_out.specs.Markup.{canonical}
use Rattle.extract_call.specs.Below.{Below}
use Rattle.extract_call.specs.Answers.{Answer}
use Rattle.extract_call.specs.PageLines.{most_page, too_long, AreValues, IsPageLine, IsValuesLine, IsMarkupLine, MakesLines}
use Rattle.extract_call.proofs.Readings.{within_or_past}

-- a document shows a line
abbrev pub ShowsSome : (List ℕ → Document → Answer → Type 0) → Type 0
ShowsSome shows = (name : List ℕ) (doc : Document) → (a : Answer) × shows name doc a

module _ (below : Below) (shows : List ℕ → Document → Answer → Type 0) (some : ShowsSome shows) (name bytes : List ℕ) where
  of_text : (text : List ℕ) → length bytes ≤ most_page → decoded bytes ≡ Ok text → PageAnswer text → (a : Answer) × IsPageLine shows name bytes a
  of_text text short decodes (inl built) =
      let line : (a : Answer) × shows name built.0 a = some name built.0 in
      (line.0, inr (record { short = short; text = text; decodes = decodes; doc = built.0; builds = built.1; shown = line.1 }))
  of_text text short decodes (inr (reason, at, fault)) =
      let why : PageFault = record { reason = reason; at = at } in (
        record { text = refused_text name why; refused = true },
        inl (record { fault = why; cause = inr (inr (record { short = short; text = text; decodes = decodes; is = fault })); line = refl }),
      )

  of_decoded : length bytes ≤ most_page → (read : Result (List ℕ) PageFault) → decoded bytes ≡ read → (a : Answer) × IsPageLine shows name bytes a
  of_decoded short (Ok text) e = of_text text short e (below.some_page text)
  of_decoded short (Err why) e =
      (record { text = refused_text name why; refused = true }, inl (record { fault = why; cause = inr (inl (record { short = short; is = e })); line = refl }))

  of_size : (length bytes ≤ most_page) ⊎ (most_page < length bytes) → (a : Answer) × IsPageLine shows name bytes a
  of_size (inl short) = of_decoded short (decoded bytes) refl
  of_size (inr long) =
      (record { text = refused_text name too_long; refused = true }, inl (record { fault = too_long; cause = inl (record { long = long; is = refl }); line = refl }))

some_markup_line : ShowsSome IsMarkupLine
some_markup_line name doc = (record { text = encode_utf8_all (canonical doc); refused = false }, refl)

module _ (below : Below) where
  a_line : (shows : List ℕ → Document → Answer → Type 0) → ShowsSome shows → (name bytes : List ℕ) → (a : Answer) × IsPageLine shows name bytes a
  a_line shows some name bytes = of_size below shows some name bytes (within_or_past (length bytes) most_page)

  lines : (shows : List ℕ → Document → Answer → Type 0) → ShowsSome shows → (line : List ℕ → List ℕ → Answer) × MakesLines shows line
  lines shows some = (λ name bytes. (a_line shows some name bytes).0, λ name bytes. (a_line shows some name bytes).1)

  -- there is what makes the canonical markup of pages
  pub makes_markup : (line : List ℕ → List ℕ → Answer) × MakesLines IsMarkupLine line
  makes_markup = lines IsMarkupLine some_markup_line

  some_values : (tests : Known) (doc : Document) (entries : List Entry) → AllByRecursion (IsOrderedEntry tests) entries → (values : List EntryValue) × AreValues tests doc entries values
  some_values tests doc [] h = ([], tt)
  some_values tests doc (e ∷ entries) h =
      let first : (v : EntryValue) × IsEntryValue tests doc e v = below.some_value tests doc e h.0 in
      let rest : (values : List EntryValue) × AreValues tests doc entries values = some_values tests doc entries h.1 in
      (first.0 ∷ rest.0, (first.1, rest.1))

  some_values_line : (tests : Known) (entries : List Entry) → AllByRecursion (IsOrderedEntry tests) entries → ShowsSome (IsValuesLine tests entries)
  some_values_line tests entries ordered name doc =
      let values : (vs : List EntryValue) × AreValues tests doc entries vs = some_values tests doc entries ordered in
      (record { text = line_text name entries values.0; refused = list_any holds_refusal values.0 }, record { values = values.0; are = values.1; line = refl })

  pub a_page_line : (tests : Known) (entries : List Entry) → AllByRecursion (IsOrderedEntry tests) entries → (name bytes : List ℕ) → (a : Answer) × IsPageLine (IsValuesLine tests entries) name bytes a
  a_page_line tests entries ordered = a_line (IsValuesLine tests entries) (some_values_line tests entries ordered)

  -- and there is what makes the lines of pages by the entries
  pub makes_lines : (tests : Known) (entries : List Entry) → AllByRecursion (IsOrderedEntry tests) entries → (line : List ℕ → List ℕ → Answer) × MakesLines (IsValuesLine tests entries) line
  makes_lines tests entries ordered = lines (IsValuesLine tests entries) (some_values_line tests entries ordered)
