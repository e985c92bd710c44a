use Rattle.std.proofs.Common.{◌≡◌, ◌-◌, ◌≤◌, ◌^◌, ℕ, List, vec_len}
use Rattle.query_file.specs.Steps.{IsFile, IsFront}
use Rattle.query_file.proofs.bytes.read_bytes.Given as goal

abbrev pub invariant-pieces : goal.invariant-pieces
invariant-pieces g l =
    let seen = g.H.Host.seen in
    record {
      few : vec_len l.bytes ≤ 2 ^ 24;
      room : vec_len l.piece ≡ 65536;
      front : (file : List ℕ) → IsFile (seen l.fn.host) l.name file → IsFront l.bytes.items file;
      same : seen l.host ≡ seen l.fn.host;
    }

abbrev pub decreases-pieces : goal.decreases-pieces
decreases-pieces g l = 16777216 - vec_len l.bytes
