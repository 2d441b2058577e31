use Rattle.std.proofs.Common.{string_bytes}
use Rattle.std.proofs.lemmas.Str.{IsUtf8-string_bytes}
use Rattle.xpath_functions.proofs.Pushes.{pushed}
use Rattle.xpath_functions.proofs.building.push_text.Goals as goal

pub returns : goal.returns
returns c = pushed (string_bytes c.args.out.now) (string_bytes c.push_str.new.self) c.args.text.now (IsUtf8-string_bytes c.args.out.now) c.in_ok-push_str.ensures.bytes
