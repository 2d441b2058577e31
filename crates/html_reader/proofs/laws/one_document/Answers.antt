use Rattle.html_reader.proofs.LawLemmas.{document_law}
use Rattle.html_reader.proofs.laws.one_document.Goals as goal

pub returns : goal.returns
returns c = document_law
