use Rattle.std.proofs.Common.{rules}
use Rattle.std.proofs.lemmas.List.{take_rest}
use Rattle.rgb_host.proofs.Pieces.{printed-start, printed-step, printed-cut}
use Rattle.rgb_host.proofs.write.print_all.Goals as goal

pub loop-rest-init : goal.loop-rest-init
loop-rest-init g c = search (rules, printed-start)

pub returns-in_err-taken-clause-fault : goal.returns-in_err-taken-clause-fault
returns-in_err-taken-clause-fault g c =
    let cut = printed-cut _ _ _ _ _ c.loop-rest.invariant c.in_err-taken.ensures.fault in
    search (rules, cut)

pub loop-rest-preserved : goal.loop-rest-preserved
loop-rest-preserved g c =
    printed-step _ _ _ _ _ _ c.in_ok-taken.taken c.loop-rest.invariant c.in_ok-taken.ensures.ok (take_rest c.loop-rest.rest.now c.in_ok-taken.taken)
