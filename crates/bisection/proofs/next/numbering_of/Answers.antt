use Rattle.rgb_base.specs.declared.error.OrderError.TheVariants.{NotAPermutation}
use Rattle.bisection.proofs.next.numbering_of.Goals as goal

pub unreachable-requires : goal.unreachable-requires
unreachable-requires c =
    let place = c.in-Err-NotAPermutation.field-0-0 in
    let value = c.in-Err-NotAPermutation.field-0-1 in
    c.faults_exclude.ensures.order c.args.order.items (NotAPermutation place value) (λ same. cc) c.requires (rw c.in-Err-NotAPermutation.field-0-is at c.in-Err-NotAPermutation.ensures.fault)
