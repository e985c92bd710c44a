use Rattle.std.proofs.Common.{◌≡◌, ◌+◌, ◌<◌, length, set, refl, ◌∙◌, arith}
use Rattle.std.proofs.lemmas.List.{length-set}
use Rattle.ciff_wire.specs.Varint.{varint}
use Rattle.ciff_wire.proofs.Groups.{put_last, put_next, fewer_left, drop-next, length-written}
use Rattle.ciff_wire.proofs.put.put_longer.Goals as goal

pub loop-left-init : goal.loop-left-init
unfolding varint
loop-left-init c = (omega arith, omega arith, refl, refl)

pub loop-left-preserved : goal.loop-left-preserved
loop-left-preserved c =
    let left = c.loop-left.left in
    let used = c.loop-left.used in
    let out = c.loop-left.out in
    let inside : used < length out = omega arith in
    let fewer = fewer_left left used c.loop-left-test.true c.loop-left.invariant.1 in (
      omega arith,
      fewer.1,
      put_next out used left inside c.loop-left-test.true fewer.0 ∙ c.loop-left.invariant.2,
      drop-next out c.args.out.now used _ c.loop-left.invariant.3,
    )

pub returns-clause-len : goal.returns-clause-len
returns-clause-len c =
    let inside : c.loop-left.used < length c.loop-left.out = omega arith in
    let written = set c.loop-left.out c.loop-left.used c.loop-left.left in
    let same : length written ≡ length c.loop-left.out = length-set c.loop-left.out c.loop-left.used c.loop-left.left in
    let e = put_last c.loop-left.out c.loop-left.used c.loop-left.left inside c.loop-left-test.false c.loop-left.invariant.0 ∙ c.loop-left.invariant.2 in
    length-written written _ (c.loop-left.used + 1) (omega arith) e

pub returns-clause-front : goal.returns-clause-front
returns-clause-front c =
    let inside : c.loop-left.used < length c.loop-left.out = omega arith in
    put_last c.loop-left.out c.loop-left.used c.loop-left.left inside c.loop-left-test.false c.loop-left.invariant.0 ∙ c.loop-left.invariant.2
