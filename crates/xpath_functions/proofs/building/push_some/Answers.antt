use Rattle.std.proofs.Common.{◌++◌, string_bytes, option_to_list, sym, ◌∙◌, ap}
use Rattle.std.specs.Str.{chars}
use Rattle.std.proofs.lemmas.Str.{IsUtf8-string_bytes}
use Rattle.xpath_functions.proofs.Pushes.{pushed_char}
use Rattle.xpath_functions.proofs.building.push_some.Goals as goal

pub returns-in_ok-push : goal.returns-in_ok-push
returns-in_ok-push c =
    pushed_char (string_bytes c.args.out.now) (string_bytes c.push.new.self) c.in-Some.c (IsUtf8-string_bytes c.args.out.now) (IsUtf8-string_bytes c.push.new.self) c.in_ok-push.ensures.bytes
    ∙ ap (λ o. chars (string_bytes c.args.out.now) ++ option_to_list o) (sym c.in-Some.is)
