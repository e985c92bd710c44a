use Rattle.std.proofs.Common.{◌≡◌, ◌^◌, ℤ, to_z, of_z, w64, map, sym, subst, arith}
use Rattle.exchange.specs.Keys.{entry_at}
use Rattle.exchange.proofs.Bounds.{read_back}
use Rattle.exchange.proofs.Keys.{same_entries}
use Rattle.exchange.proofs.entry.fill_entries.Goals as goal

pub returns : goal.returns
returns c =
    let greatest = c.args.greatest in
    let keys = c.args.keys.now in
    let entries = c.loop-place.entries in
    let back : to_z w64 (of_z w64 greatest) ≡ greatest = read_back (2 ^ 56) greatest (omega arith) c.requires.small in
    subst (λ (z : ℤ). entries ≡ map (entry_at z) keys) back
    (sym (same_entries (to_z w64 (of_z w64 greatest)) keys entries (omega (arith, c.requires.len, c.loop-place.auto.entries)) (λ k within. sym (c.loop-place.invariant k (omega (arith, within, c.requires.len, c.loop-place.auto.entries, c.loop-place-test.false, c.loop-place.auto.place-end))))))
