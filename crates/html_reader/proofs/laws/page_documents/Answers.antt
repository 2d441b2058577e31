use Rattle.html_reader.proofs.PageDocuments.{page_documents}
use Rattle.html_reader.proofs.laws.page_documents.Goals as goal

pub returns : goal.returns
returns c = page_documents
