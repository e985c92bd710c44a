use Rattle.ciff_format.proofs.ReadRows.{reversed_is_accepted, second_gap_is_bad, past_documents_is_bad, same_term_is_refused, same_document_is_refused, absent_list_is_cut}
use Rattle.ciff_format.proofs.rows.files_past_their_header.Goals as goal

pub returns : goal.returns
returns c = record {
  reversed = reversed_is_accepted;
  second_gap = second_gap_is_bad;
  past_documents = past_documents_is_bad;
  same_term = same_term_is_refused;
  same_document = same_document_is_refused;
  absent_list = absent_list_is_cut c.varint_is_shortest.ensures.shortest;
}
