use Rattle.bisection.proofs.LawDocuments.{each_document_once}
use Rattle.bisection.proofs.laws.each_document_once.Goals as goal

pub returns : goal.returns
returns c = record { law = each_document_once c.halves_keep_documents.ensures.law }
