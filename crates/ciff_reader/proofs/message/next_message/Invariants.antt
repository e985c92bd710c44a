use Rattle.std.proofs.Common.{◌≡◌, ℕ, ◌-◌, ◌^◌, List, length}
use Rattle.ciff_reader.specs.Window.{Opens, IsAt}
use Rattle.ciff_reader.proofs.message.next_message.Given as goal

abbrev pub invariant-pieces : goal.invariant-pieces
invariant-pieces g l = record {
  place : l.window.place ≡ l.fn.window.place;
  at : (file : List ℕ) → Opens (g.H.Host.seen l.fn.host) l.name l.fn.window file → IsAt l.window file;
  same : g.H.Host.seen l.host ≡ g.H.Host.seen l.fn.host;
}

abbrev pub decreases-pieces : goal.decreases-pieces
decreases-pieces g l = 2 ^ 64 - length l.window.bytes
