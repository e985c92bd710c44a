use Rattle.std.proofs.Common.{length, sym, subst, ap, arith}
use Rattle.rgb_base.specs.Order.{AreNumbers}
use Rattle.degrees.specs.Counts.{Counted, AreBelow}
use Rattle.exchange.specs.Halving.{half_a, half_b}
use Rattle.exchange.proofs.Cells.{cell_is, length_a, length_b, loaded_below}
use Rattle.exchange.proofs.round.loaded_cost.Goals as goal

pub cost-requires : goal.cost-requires
cost-requires c =
    let docs = c.args.docs.now in
    let forward = c.args.ground.now.forward.now in
    let numbers = subst (AreNumbers (length forward.rows)) (sym (cell_is docs)) c.requires.places in
    record {
      some_a = omega (arith, ap (λ (t : Counted). t.len_a) c.requires.table, length_a docs, c.requires.some);
      some_b = omega (arith, ap (λ (t : Counted). t.len_b) c.requires.table, length_b docs, c.requires.some);
      top = subst (AreBelow c.args.ground.now.logs.now) (sym c.requires.table) (loaded_below c.args.ground.now.logs.now forward (half_a docs) (half_b docs) c.args.degrees.now.loads numbers c.requires.top);
    }
