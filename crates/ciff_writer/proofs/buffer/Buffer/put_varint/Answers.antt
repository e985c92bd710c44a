use Rattle.std.proofs.Common.{◌≡◌, ◌+◌, ◌-◌, ◌++◌, ℕ, List, length, take, refl, sym, ap, ◌∙◌, arith}
use Rattle.std.proofs.Math.ListN.{length-set}
use Rattle.ciff_wire.specs.Varint.{varint}
use Rattle.ciff_writer.proofs.Fields.{varint-groups}
use Rattle.ciff_writer.proofs.Varints.{put_next, put_last, fewer_left, inside_of}
use Rattle.ciff_writer.proofs.buffer.Buffer.put_varint.Goals as goal

pub loop-left-init : goal.loop-left-init
loop-left-init g c =
    let at = c.self.inside.filled in
    let nine : at + 9 - at ≡ 9 = omega arith in
    record {
      room = refl;
      begun = omega arith;
      used = omega arith;
      fits = rw nine (omega arith);
      bytes = rw nine (ap (λ (v : List ℕ). take at c.self.inside.room ++ v) (sym (varint-groups c.args.value)));
    }

pub loop-left-preserved : goal.loop-left-preserved
loop-left-preserved g c =
    let at = c.self.inside.filled in
    let l = c.loop-left in
    let more = at + 9 - l.end in
    let fewer = fewer_left more l.left c.loop-left-test.true l.invariant.fits in
    let less : at + 9 - (l.end + 1) ≡ more - 1 = omega (arith, fewer.0) in
    let inside = inside_of c.self.inside.filled l.end c.self.inside.room c.args.self.now (length l.self-inside.room) g.row.N c.self.view_is c.self.told c.self.invariant l.invariant.room c.requires l.invariant.used in
    record {
      room = length-set l.self-inside.room _ _ ∙ l.invariant.room;
      begun = omega (arith, l.invariant.begun);
      used = omega (arith, fewer.0, l.invariant.used);
      fits = rw less fewer.1;
      bytes = put_next l.self-inside.room l.end more (at + 9 - (l.end + 1)) l.left inside c.loop-left-test.true (omega (arith, fewer.0)) ∙ l.invariant.bytes;
    }

pub returns-clause-bytes : goal.returns-clause-bytes
returns-clause-bytes g c =
    let l = c.loop-left in
    let inside = inside_of c.self.inside.filled l.end c.self.inside.room c.args.self.now (length l.self-inside.room) g.row.N c.self.view_is c.self.told c.self.invariant l.invariant.room c.requires l.invariant.used in
    put_last l.self-inside.room l.end (c.self.inside.filled + 9 - l.end) l.left inside c.loop-left-test.false
    ∙ l.invariant.bytes
    ∙ ap (λ (p : List ℕ). p ++ varint c.args.value) c.self.view_is
