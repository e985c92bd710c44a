use Rattle.std.proofs.Common.{◌≡◌, ap, ◌∙◌, sym, subst, arith}
use Rattle.atomic_table.specs.Table.{Me}
use Rattle.cell_claims.specs.declared.cell.Slot.{Slot}
use Rattle.cell_claims.specs.declared.rule.Hand.{Hand}
use Rattle.cell_claims.specs.Rule.{both_hands}
use Rattle.cell_claims.specs.Claims.{Known}
use Rattle.cell_claims.specs.Kept.{AreFree, IsGathered, hand_of}
use Rattle.cell_claims.proofs.Steps.{joins}
use Rattle.cell_claims.proofs.Gathers.{free_front, gather_first, gather_next}
use Rattle.cell_claims.proofs.claims.Claims.gather.Goals as goal

pub loop-other-init : goal.loop-other-init
loop-other-init c =
    let b = c.requires.back in
    let all : AreFree c.args.self.now c.args.seats.items = record { each = b.each; free = b.free } in
    let f = free_front c.args.self.now c.args.seats.items c.pop.new.self.items c.in-Some.last c.in-Some.ensures.items all in
    let e = c.into_seat-all.ensures in (
      e.id ∙ f.1.0,
      ap (λ (m : Me Slot Hand). m.1) e.same,
      f.0,
      subst (IsGathered c.args.self.now c.args.seats.items c.pop.new.self.items) (sym (ap (λ (m : Me Slot Hand). m.0) e.same))
          (gather_first c.args.self.now c.args.seats.items c.pop.new.self.items c.in-Some.last c.in-Some.ensures.items b e.sound),
    )

pub join_seat-requires : goal.join_seat-requires
join_seat-requires c =
    let i = c.loop-other.invariant in
    let f = free_front c.args.self.now c.loop-other.seats.items c.pop-in-loop-other.new.self.items c.in-Some-pop.other c.in-Some-pop.ensures.items i.2 in
    let e = c.into_seat.ensures in
    let id = sym (ap (λ (k : Known). k.id) c.self.view_is) in
    let cells = sym (ap (λ (k : Known). k.cells) c.self.view_is) in (
      i.0 ∙ id,
      e.id ∙ f.1.0 ∙ id,
      ap (λ (m : Me Slot Hand). m.1) e.same,
      omega (arith, c.self.invariant.words),
      joins c.self.inside.table.shared.key.value.items c.loop-other.all.id c.into_seat.result.id c.loop-other.all.me.0 c.into_seat.result.me.0 (i.3.own ∙ cells) i.3.some,
    )

pub loop-other-preserved : goal.loop-other-preserved
loop-other-preserved c =
    let i = c.loop-other.invariant in
    let f = free_front c.args.self.now c.loop-other.seats.items c.pop-in-loop-other.new.self.items c.in-Some-pop.other c.in-Some-pop.ensures.items i.2 in
    let e = c.into_seat.ensures in
    let j = c.join_seat.ensures in
    let w : c.into_seat.result.me.0 ≡ hand_of c.in-Some-pop.other = ap (λ (m : Me Slot Hand). m.0) e.same in
    let both : c.join_seat.new.seat.me.0 ≡ both_hands c.loop-other.all.me.0 (hand_of c.in-Some-pop.other) = ap (λ (m : Me Slot Hand). m.0) j.2 ∙ ap (both_hands c.loop-other.all.me.0) w in (
      j.0 ∙ i.0,
      ap (λ (m : Me Slot Hand). m.1) j.2 ∙ i.1,
      f.0,
      subst (IsGathered c.args.self.now c.args.seats.items c.pop-in-loop-other.new.self.items) (sym both)
          (gather_next c.args.self.now c.args.seats.items c.loop-other.seats.items c.pop-in-loop-other.new.self.items c.loop-other.all.me.0 c.in-Some-pop.other i.3 c.in-Some-pop.ensures.items f.1.1 f.2 e.sound),
    )
