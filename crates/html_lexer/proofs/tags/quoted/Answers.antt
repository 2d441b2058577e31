use Rattle.std.proofs.Common.{◌+◌, ◌∙◌, ap, arith}
use Rattle.text_base.specs.Text.{run_end, is_not_byte}
use Rattle.html_lexer.proofs.TagLemmas.{quoted_leads}
use Rattle.html_lexer.proofs.tags.quoted.Goals as goal

pub returns-then-q-text-clause-bounds : goal.returns-then-q-text-clause-bounds
returns-then-q-text-clause-bounds c =
    quoted_leads c.args.text.now c.args.name c.args.name_to c.args.v c.find_byte-q.result c.utf8.text c.requires.within c.requires.ascii c.requires.name
    (c.find_byte-q.ensures.end ∙ ap (λ b. run_end (is_not_byte b) c.args.text.now (c.args.v + 1)) c.byte_at.ensures) (omega arith)
