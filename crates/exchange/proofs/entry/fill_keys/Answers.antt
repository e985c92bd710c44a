use Rattle.std.proofs.Common.{◌≡◌, ◌^◌, ℤ, to_z, of_z, w64, map, subst, arith}
use Rattle.exchange.specs.Keys.{entry_at}
use Rattle.exchange.proofs.Bounds.{read_back}
use Rattle.exchange.proofs.Keys.{same_entries}
use Rattle.exchange.proofs.entry.fill_keys.Goals as goal

pub returns : goal.returns
returns c =
    let greatest = c.args.greatest in
    let keys = c.loop-place.keys in
    let entries = c.args.entries.now in
    let back : to_z w64 (of_z w64 greatest) ≡ greatest = read_back (2 ^ 56) greatest (omega arith) c.requires.small in
    subst (λ (z : ℤ). map (entry_at z) keys ≡ entries) back
    (same_entries (to_z w64 (of_z w64 greatest)) keys entries (omega (arith, c.requires.room, c.loop-place.auto.keys)) (λ k within. c.loop-place.invariant k (omega (arith, within, c.loop-place-test.false, c.loop-place.auto.place-end))))
