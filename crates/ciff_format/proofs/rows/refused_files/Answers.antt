use Rattle.ciff_format.proofs.RefusedRows.{empty_file, endless, huge, group, other_type, broken, negative}
use Rattle.ciff_format.proofs.rows.refused_files.Goals as goal

pub returns : goal.returns
returns c = record {
  empty = empty_file;
  endless_length = endless;
  huge_length = huge c.varint_is_shortest.ensures.shortest;
  group = group c.message_is_one.ensures.fault;
  other_type = other_type c.message_is_one.ensures.one;
  not_utf8 = broken;
  negative = negative c.varint_is_shortest.ensures.shortest;
}
