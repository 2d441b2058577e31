use Rattle.html_lexer.proofs.LexLemmas.{same_step}
use Rattle.html_lexer.proofs.TextLemmas.{plain_text, raw_text}
use Rattle.html_lexer.proofs.CommentLemmas.{comment_text}
use Rattle.html_lexer.proofs.WrittenLemmas.{written_tag_reads, written_attributes}
use Rattle.html_lexer.proofs.laws.token_laws.Goals as goal

pub returns-clause-plain : goal.returns-clause-plain
returns-clause-plain c = plain_text

pub returns-clause-raw : goal.returns-clause-raw
returns-clause-raw c = raw_text

pub returns-clause-comment : goal.returns-clause-comment
returns-clause-comment c = comment_text

pub returns-clause-one_step : goal.returns-clause-one_step
returns-clause-one_step c = same_step

pub returns-clause-start_tag : goal.returns-clause-start_tag
returns-clause-start_tag c = written_tag_reads

pub returns-clause-attributes : goal.returns-clause-attributes
returns-clause-attributes c = written_attributes
