use Rattle.std.proofs.Common.{◌≡◌, ◌-◌, [], ap, ◌∙◌, sym, arith}
use Rattle.atomic_table.specs.Table.{Me}
use Rattle.cell_claims.specs.declared.cell.Slot.{Slot}
use Rattle.cell_claims.specs.declared.rule.Hand.{Hand}
use Rattle.cell_claims.specs.Rule.{hand, one_share}
use Rattle.cell_claims.specs.Claims.{Known}
use Rattle.cell_claims.proofs.Steps.{splits}
use Rattle.cell_claims.proofs.Gathers.{split_me, fresh_as, deals_one, deals_all}
use Rattle.cell_claims.proofs.claims.Claims.deal.Goals as goal

pub split_seat-seat-requires : goal.split_seat-seat-requires
split_seat-seat-requires c =
    let i = c.loop.invariant in
    let v : c.loop.first.me.0 ≡ hand c.args.self.now.cells (65 - c.loop.counter) [] [] = ap (λ (m : Me Slot Hand). m.0) i.1 in
    let shares : c.loop.first.me.0.shares ≡ 65 - c.loop.counter = ap (λ (h : Hand). h.shares) v in (
      i.0 ∙ sym (ap (λ (k : Known). k.id) c.self.view_is),
      omega (arith, c.self.invariant.words),
      splits c.self.inside.table.shared.key.value.items c.loop.first.id c.loop.first.me.0
          (ap (λ (h : Hand). h.cells) v ∙ sym (ap (λ (k : Known). k.cells) c.self.view_is))
          (ap (λ (h : Hand). h.drawn) v) (ap (λ (h : Hand). h.given) v) (omega (arith, shares, c.loop-test.true, c.requires.most)),
    )

pub loop-preserved : goal.loop-preserved
loop-preserved c =
    let i = c.loop.invariant in
    let s = c.split_seat-seat.ensures in
    let v : c.loop.first.me.0 ≡ hand c.args.self.now.cells (65 - c.loop.counter) [] [] = ap (λ (m : Me Slot Hand). m.0) i.1 in
    let w : c.split_seat-seat.result.me.0 ≡ one_share c.loop.first.me.0 = ap (λ (m : Me Slot Hand). m.0) s.4 in (
      s.0 ∙ i.0,
      split_me c.args.self.now.cells c.loop.counter c.loop.first.me c.split_seat-seat.new.seat.me i.1 s.2,
      omega arith,
      omega (arith, c.loop-test.true),
      deals_one c.args.self.now (c.loop.counter - 1) _ c.loop.made.items c.push.new.self.items c.fresh.result i.4
          (fresh_as c.args.self.now _ _ _ 1 c.fresh.result c.fresh.ensures.same (s.3 ∙ i.0)
          (ap (λ (h : Hand). h.cells) w ∙ ap (λ (h : Hand). h.cells) v) (ap (λ (h : Hand). h.shares) w))
          c.in_ok-push.ensures.items (omega (arith, i.2)),
    )

pub returns-clause-seats : goal.returns-clause-seats
returns-clause-seats c =
    let i = c.loop.invariant in
    let v : c.loop.first.me.0 ≡ hand c.args.self.now.cells (65 - c.loop.counter) [] [] = ap (λ (m : Me Slot Hand). m.0) i.1 in
    deals_all c.args.self.now (c.loop.counter - 1) (65 - c.loop.counter) c.loop.made.items c.push-2.new.self.items c.fresh-2.result i.4
    (fresh_as c.args.self.now _ _ _ (65 - c.loop.counter) c.fresh-2.result c.fresh-2.ensures.same i.0 (ap (λ (h : Hand). h.cells) v) (ap (λ (h : Hand). h.shares) v))
    c.in_ok-push-2.ensures.items (omega (arith, i.2, i.3, c.requires.most))
