use Rattle.std.proofs.Common.{◌≡◌, ◌+◌, length, drop}
use Rattle.rgb_host.specs.Seen.{Lacks}
use Rattle.ciff_writer.specs.Pieces.{lists_bytes}
use Rattle.ciff_writer.specs.Sending.{Puts}
use Rattle.ciff_writer.proofs.write.write_lists.Given as goal

abbrev pub invariant-loop-list : goal.invariant-loop-list
invariant-loop-list g l = record {
  len : l.len + length (lists_bytes (drop l.list l.index.lists)) ≡ length (lists_bytes l.index.lists);
  puts : Puts l.name (lists_bytes l.index.lists) (lists_bytes (drop l.list l.index.lists)) l.fn.buffer l.buffer (g.H.Host.seen l.fn.host) (g.H.Host.seen l.host);
  there : ¬ Lacks (g.H.Host.seen l.host) l.name;
}
