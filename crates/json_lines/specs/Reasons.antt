-- Reasons as they are printed: a family, a point and the reason's own name.
use Rattle.std.specs.Prelude.{ℕ, List, ◌++◌, codes}
use Rattle.text_base.specs.declared.reasons.PageReason.{PageReason}
use Rattle.text_base.specs.Reasons.{page_word}
use Rattle.query_script.specs.declared.script.Reason.{Reason}
use Rattle.query_script.specs.Words.{first_word, second_word}

-- why a page is refused
abbrev pub page_reason : PageReason → List ℕ
page_reason why = codes "page." ++ page_word why

-- why a field is refused
abbrev pub field_reason : Reason → List ℕ
field_reason why = first_word why ++ (codes "." ++ second_word why)
