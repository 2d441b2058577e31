use Rattle.std.proofs.Common.{◌≡◌, ◌++◌, ◌||◌, true, false, map, codes, string_bytes, sym, ◌∙◌, ap}
use Rattle.std.specs.Char.{to_ascii_lowercase}
use Rattle.std.specs.Str.{chars, bytes_eq}
use Rattle.std.proofs.lemmas.Str.{IsUtf8-string_bytes}
use Rattle.text_base.specs.Strings.{starts_with}
use Rattle.xpath_functions.proofs.Lists.{dash_chars}
use Rattle.xpath_functions.proofs.Pushes.{encoded, pushed}
use Rattle.xpath_functions.proofs.languages.is_language.Goals as goal

pub returns-then-compare_atoms : goal.returns-then-compare_atoms
returns-then-compare_atoms c = λ doc.
    let low = map to_ascii_lowercase (chars c.args.language.now) in
    let wanted = map to_ascii_lowercase (chars c.args.wanted.now) in
    let is_low : chars c.as_str.result.now ≡ low = ap chars c.as_str.ensures.value ∙ encoded (string_bytes c.in_ok-low.low) low (IsUtf8-string_bytes c.in_ok-low.low) c.in_ok-low.ensures in
    let is_wanted : chars c.as_str-2.result.now ≡ wanted =
    ap chars c.as_str-2.ensures.value ∙ encoded (string_bytes c.in_ok-start.start) wanted (IsUtf8-string_bytes c.in_ok-start.start) c.in_ok-start.ensures in
    let same : bytes_eq low wanted ≡ true =
    ap (λ v. bytes_eq v wanted) (sym is_low) ∙ ap (bytes_eq (chars c.as_str.result.now)) (sym is_wanted) ∙ sym c.compare_atoms.ensures ∙ c.if-compare_atoms.true in
    sym (ap (λ b. b || starts_with low (wanted ++ codes "-")) same)

pub returns : goal.returns
returns c = λ doc.
    let low = map to_ascii_lowercase (chars c.args.language.now) in
    let wanted = map to_ascii_lowercase (chars c.args.wanted.now) in
    let low_chars : chars (string_bytes c.in_ok-low.low) ≡ low = encoded (string_bytes c.in_ok-low.low) low (IsUtf8-string_bytes c.in_ok-low.low) c.in_ok-low.ensures in
    let start_chars : chars (string_bytes c.in_ok-start.start) ≡ wanted = encoded (string_bytes c.in_ok-start.start) wanted (IsUtf8-string_bytes c.in_ok-start.start) c.in_ok-start.ensures in
    let other : bytes_eq low wanted ≡ false =
    ap (λ v. bytes_eq v wanted) (sym (ap chars c.as_str.ensures.value ∙ low_chars)) ∙ ap (bytes_eq (chars c.as_str.result.now)) (sym (ap chars c.as_str-2.ensures.value ∙ start_chars))
    ∙ sym c.compare_atoms.ensures ∙ c.if-compare_atoms.false in
    let behind : chars c.as_str-4.result.now ≡ wanted ++ codes "-" =
    ap chars c.as_str-4.ensures.value
    ∙ pushed (string_bytes c.in_ok-start.start) (string_bytes c.push_str.new.self) (codes "-") (IsUtf8-string_bytes c.in_ok-start.start) c.in_ok-push_str.ensures.bytes
    ∙ ap (λ v. v ++ chars (codes "-")) start_chars ∙ ap (λ v. wanted ++ v) dash_chars in
    c.begins.ensures ∙ ap (λ v. starts_with v (chars c.as_str-4.result.now)) (ap chars c.as_str-3.ensures.value ∙ low_chars) ∙ ap (starts_with low) behind
    ∙ sym (ap (λ b. b || starts_with low (wanted ++ codes "-")) other)
