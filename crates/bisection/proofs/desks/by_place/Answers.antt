use Rattle.std.proofs.Common.{refl, arith}
use Rattle.bisection.proofs.Shares.{placing_none, placing_next, last_within}
use Rattle.bisection.proofs.desks.by_place.Goals as goal

pub loop-left-init : goal.loop-left-init
loop-left-init c = placing_none c.args.count c.args.lefts.items c.loop.table.items (omega (arith, c.loop.invariant, c.loop-test.false)) c.requires.within c.requires.cover

pub index_mut-requires : goal.index_mut-requires
index_mut-requires c =
    let i = c.loop-left.invariant in
    let low = last_within c.args.count c.loop-left.lefts.items c.pop.new.self.items c.in-Some.left c.in-Some.ensures.items i.within in
    let len = i.len in omega (arith, low, len, c.loop-left.table.ok)

pub loop-left-preserved : goal.loop-left-preserved
loop-left-preserved c = placing_next c.args.count c.args.lefts.items c.loop-left.lefts.items c.pop.new.self.items c.in-Some.left c.loop-left.table.items _ c.loop-left.invariant c.in-Some.ensures.items refl
