use Rattle.std.proofs.Common.{◌≡◌, List, ℕ, refl, ◌∙◌, ap}
use Rattle.text_base.specs.Strings.{starts_with}
use Rattle.css_meaning.proofs.ByteWords.{lower}
use Rattle.css_meaning.proofs.Dashes.{lang_here, no_lang, same_stops}
use Rattle.css_meaning.proofs.attribute_values.is_language.Goals as goal

pub returns-then-begins_in_any_case : goal.returns-then-begins_in_any_case
returns-then-begins_in_any_case c =
    let begins : c.begins_in_any_case.result ≡ starts_with (lower c.args.value.now) (lower c.args.wanted.now) =
    c.begins_in_any_case.ensures ∙ ap (λ (t : List ℕ). starts_with (lower t) (lower c.as_bytes-2.result.now)) c.as_bytes.ensures.value
    ∙ ap (λ (t : List ℕ). starts_with (lower c.args.value.now) (lower t)) c.as_bytes-2.ensures.value in
    same_stops c.as_bytes-then-begins_in_any_case.result.now c.args.value.now c.args.wanted.now _ _ c.stops_or_dash.ensures c.as_bytes-then-begins_in_any_case.ensures.value refl
    ∙ lang_here c.args.value.now c.args.wanted.now c.utf8.value c.utf8.wanted c.begins_in_any_case.result begins c.if-begins_in_any_case.true

pub returns-else-begins_in_any_case : goal.returns-else-begins_in_any_case
returns-else-begins_in_any_case c =
    let begins : c.begins_in_any_case.result ≡ starts_with (lower c.args.value.now) (lower c.args.wanted.now) =
    c.begins_in_any_case.ensures ∙ ap (λ (t : List ℕ). starts_with (lower t) (lower c.as_bytes-2.result.now)) c.as_bytes.ensures.value
    ∙ ap (λ (t : List ℕ). starts_with (lower c.args.value.now) (lower t)) c.as_bytes-2.ensures.value in
    no_lang c.args.value.now c.args.wanted.now c.utf8.value c.utf8.wanted c.begins_in_any_case.result begins c.if-begins_in_any_case.false
