use Rattle.std.proofs.Common.{◌<◌, ℕ, get_or, All, subst, arith}
use Rattle.std.proofs.lemmas.List.{take_all}
use Rattle.std.proofs.lemmas.List.Elements.{All-more}
use Rattle.degrees.specs.Counts.{counts_in}
use Rattle.exchange_rows.proofs.gains.is_counted.Goals as goal

pub returns : goal.returns
returns c told =
    subst (All (λ (term : ℕ). 0 < get_or (counts_in c.args.side c.args.table.now) term 0)) (take_all c.loop-term.term-index c.args.row.now c.loop-term-test.false) c.loop-term.invariant

pub loop-term-preserved : goal.loop-term-preserved
loop-term-preserved c =
    All-more (λ (term : ℕ). 0 < get_or (counts_in c.args.side c.args.table.now) term 0) c.args.row.now c.loop-term.term-index 0 c.loop-term-test.true c.loop-term.invariant
    (omega (arith, c.count_in.ensures))
