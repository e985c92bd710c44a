use Rattle.std.proofs.Common.{◌≡◌, ◌<◌, length, List, ap, ◌∙◌, sym, arith}
use Rattle.std.specs.Mem.Slots.{slots_items, slots_filled, slots_len}
use mathlib.Core.Option.{some, some-injective}
use lib.ListN.{get_elem?}
use Rattle.cell_claims.specs.declared.cell.Slot.{Slot}
use Rattle.cell_claims.specs.declared.cell.Slot.TheVariants.{Done}
use Rattle.cell_claims.proofs.Gathers.{taken_next, emptied_more, emptied_so_far}
use Rattle.cell_claims.proofs.claims.empty.Goals as goal

pub unreachable-requires : goal.unreachable-requires
unreachable-requires c =
    let i = c.loop-place.invariant in
    let there = c.requires.done c.loop-place.place (omega (arith, i.0, c.loop-place-test.true, c.slot_count.ensures)) in
    let found : get_elem? (slots_items c.args.closed.slots) c.loop-place.place ≡ some c.take.result = ap (λ (xs : List Slot). get_elem? xs c.loop-place.place) (sym i.1) ∙ c.take.ensures.value in
    c.in_default.not-Done there.0 (some-injective _ _ (sym found ∙ there.1))

pub loop-place-preserved : goal.loop-place-preserved
loop-place-preserved c =
    let i = c.loop-place.invariant in
    let o = c.take.ensures.others in
    let place = c.loop-place.place in
    let filled = slots_filled c.loop-place.closed.slots in
    let within : place < slots_len c.loop-place.closed.slots = omega (arith, c.loop-place-test.true, c.slot_count.ensures) in
    let room : place < length filled = omega (arith, c.loop-place.closed.slots.ok.1) in
    let found : get_elem? (slots_items c.args.closed.slots) place ≡ some (Done c.in-Done.done) = ap (λ (xs : List Slot). get_elem? xs place) (sym i.1) ∙ c.take.ensures.value ∙ ap (λ (s : Slot). some s) c.in-Done.is in (
      o.2 ∙ i.0,
      o.0 ∙ i.1,
      emptied_more filled (slots_filled c.take.new.self.slots) place _ _ o.1 o.2 i.2,
      emptied_so_far filled (slots_filled c.take.new.self.slots) place room o.1 i.3,
      omega (arith, within, o.2),
      c.push_reserved.ensures.capacity ∙ i.5,
      taken_next place (slots_items c.args.closed.slots) c.loop-place.dones.items c.push_reserved.new.self.items c.in-Done.done i.6 found c.push_reserved.ensures.items,
    )
