use Rattle.ciff_format.proofs.CanonicalFiles.{file_tells_index}
use Rattle.ciff_format.proofs.laws.file_tells_index.Goals as goal

pub returns : goal.returns
returns c = record {
  one = file_tells_index (record { read_is_one = c.spelling_is_read_again.ensures.one; one_message = c.message_is_one.ensures.one })
      (record { shortest = c.varint_is_shortest.ensures.shortest; message = c.canonical_is_message.ensures.message });
}
