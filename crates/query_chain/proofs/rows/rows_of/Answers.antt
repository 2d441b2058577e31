use Rattle.std.proofs.Common.{◌∙◌, sym}
use Rattle.query_chain.proofs.Rowing.{rows_nodes, rows_texts}
use Rattle.query_chain.proofs.rows.rows_of.Goals as goal

pub returns-in-Rows-clause-rows : goal.returns-in-Rows-clause-rows
returns-in-Rows-clause-rows c = rw c.in-Rows.is (c.from_vec.ensures ∙ sym (rows_nodes c.in-Rows.rows.items))

pub returns-clause-rows : goal.returns-clause-rows
returns-clause-rows c = rw c.in-Texts.is (c.from_vec-in-Texts.ensures ∙ (c.new.ensures.items ∙ sym (rows_texts c.in-Texts.field-0.items)))
