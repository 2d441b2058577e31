use Rattle.std.proofs.Common.{◌≡◌, ◌++◌, [], ◌∷◌, true, ◌&&◌, not, cond, string_bytes, sym, ◌∙◌, ap}
use Rattle.std.specs.Str.{chars}
use Rattle.std.proofs.lemmas.Str.{IsUtf8-string_bytes}
use Rattle.text_base.specs.Strings.{is_empty}
use Rattle.xpath_functions.proofs.Pushes.{pushed_char}
use Rattle.xpath_functions.proofs.building.push_space.Goals as goal

pub returns-in_ok-push : goal.returns-in_ok-push
returns-in_ok-push c =
    let old = chars (string_bytes c.args.out.now) in
    let same : c.is_empty.result ≡ is_empty old = c.is_empty.ensures ∙ ap (λ v. is_empty (chars v)) c.as_str.ensures.value in
    let h = c.if-not-is_empty.true in
    let some : not (is_empty old) ≡ true = ap not (sym same ∙ h) in
    let both : (c.args.wanted && not (is_empty old)) ≡ true = ap (λ b. b && not (is_empty old)) c.if-wanted.true ∙ some in
    pushed_char (string_bytes c.args.out.now) (string_bytes c.push.new.self) 32 (IsUtf8-string_bytes c.args.out.now) (IsUtf8-string_bytes c.push.new.self) c.in_ok-push.ensures.bytes
    ∙ ap (λ b. cond b (old ++ 32 ∷ []) old) (sym both)
