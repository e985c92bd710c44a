use Rattle.std.proofs.Common.{◌≤◌, ◌*◌, ◌/◌, arith}
use Rattle.std.proofs.Math.Nat.{mul-le-mul_left}
use Rattle.gap_report.proofs.Tallies.{IsTallyOf-both, both_have_room}
use Rattle.gap_report.proofs.costs.+halves.Goals as goal

pub overflow_sub-rest : goal.overflow_sub-rest
overflow_sub-rest g t c =
    let each = c.args.postings / c.args.workers in
    let fewer : each * (c.args.workers / 2) ≤ each * c.args.workers = mul-le-mul_left each (omega arith) in
    omega arith

pub and-requires : goal.and-requires
and-requires g t c =
    omega (
      arith,
      c.join.ensures.first.postings,
      c.join.ensures.second.postings,
      both_have_room c.args.index.now c.args.from c.cut-middle.result c.args.to c.is_sound.ensures.sound c.cut-middle.ensures.low c.cut-middle.ensures.high,
    )

pub returns : goal.returns
returns g t c =
    IsTallyOf-both c.args.index.now.lists c.args.from c.cut-middle.result c.args.to c.and.result c.join.result.0 c.join.result.1 c.cut-middle.ensures.low c.cut-middle.ensures.high c.and.ensures c.join.ensures.first c.join.ensures.second
