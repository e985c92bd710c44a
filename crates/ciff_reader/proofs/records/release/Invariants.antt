use Rattle.std.proofs.Common.{◌≡◌, length}
use Rattle.std.specs.BTreeMap.{btree_map_len}
use Rattle.ciff_format.specs.Accepted.{Front}
use Rattle.ciff_reader.specs.Awaited.{HasRead, WaitsFrom}
use Rattle.ciff_reader.proofs.records.release.Given as goal

abbrev pub invariant-turns : goal.invariant-turns
invariant-turns l = record {
  read : (front : Front) → WaitsFrom (length l.fn.builder.records) l.fn.waiting → HasRead front l.fn.builder l.fn.waiting → HasRead front l.builder l.waiting;
  lists : l.builder.lists ≡ l.fn.builder.lists;
  documents : l.builder.documents ≡ l.fn.builder.documents;
  later : WaitsFrom (length l.fn.builder.records) l.fn.waiting → WaitsFrom (length l.builder.records) l.waiting;
}

abbrev pub decreases-turns : goal.decreases-turns
decreases-turns l = btree_map_len l.waiting.records
