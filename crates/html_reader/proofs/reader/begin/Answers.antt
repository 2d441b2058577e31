use Rattle.std.proofs.Common.{refl, ap, arith, length, rules}
use Rattle.doc_model.specs.Growing.{Growing}
use Rattle.std.specs.Prelude.{codes}
use Rattle.std.specs.Str.{IsUtf8}
use Rattle.html_reader.proofs.PieceLemmas.{some_chars}
use Rattle.html_reader.proofs.reader.begin.Goals as goal

utf8 : IsUtf8 (codes "html")
utf8 = search rules

pub element-requires : goal.element-requires
element-requires g c κs = ((refl, tt), (some_chars (codes "html") utf8 (λ e. cc), omega (arith, ap (λ (x : Growing). length x.rows) c.requires)))
