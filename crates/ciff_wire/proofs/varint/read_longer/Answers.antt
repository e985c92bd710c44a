use Rattle.std.proofs.Common.{ℕ, ◌<◌, ◌≤◌, ◌≡◌, length, take, refl, sym, subst, arith}
use Rattle.std.specs.List.{All}
use Rattle.std.proofs.lemmas.List.{take_all}
use Rattle.std.proofs.lemmas.List.Elements.{All-nil, All-more}
use Rattle.ciff_wire.specs.Varint.{sum_of, sum_from}
use Rattle.ciff_wire.proofs.Varints.{sum_of-or, Reads-at}
use Rattle.ciff_wire.proofs.varint.read_longer.Goals as goal

pub loop-i-init : goal.loop-i-init
unfolding sum_of sum_from
loop-i-init c = (refl, All-nil (λ (b : ℕ). 128 ≤ b))

pub returns-then-byte-lt128 : goal.returns-then-byte-lt128
returns-then-byte-lt128 c =
    record {
      read = Reads-at c.args.bytes.now c.loop-i.i c.loop-i.value c.from.result (λ k. omega (arith, c.type_inv.bytes k)) (omega arith) (omega arith) c.loop-i.invariant.0 c.loop-i.invariant.1 c.from.ensures c.if-byte-lt128.true;
    }

pub loop-i-preserved : goal.loop-i-preserved
loop-i-preserved c =
    let inside : c.loop-i.i < length c.args.bytes.now = omega arith in (
      sym (sum_of-or c.args.bytes.now c.loop-i.i c.loop-i.value c.from.result inside (omega arith) c.loop-i.invariant.0 c.from.ensures),
      All-more (λ (b : ℕ). 128 ≤ b) c.args.bytes.now c.loop-i.i 0 inside c.loop-i.invariant.1 c.if-byte-lt128.false,
    )

pub returns-then-end-lt-MOST_BYTES : goal.returns-then-end-lt-MOST_BYTES
returns-then-end-lt-MOST_BYTES c =
    let whole = take_all c.loop-i.i c.args.bytes.now (omega arith) in
    record {
      read = record {
        few = omega arith;
        unended = subst (All (λ (b : ℕ). 128 ≤ b)) whole c.loop-i.invariant.1;
      };
    }

pub returns-else-end-lt-MOST_BYTES : goal.returns-else-end-lt-MOST_BYTES
returns-else-end-lt-MOST_BYTES c =
    let e : c.loop-i.i ≡ 10 = omega arith in
    record {
      read = record {
        many = omega arith;
        unended = subst (λ n. All (λ (b : ℕ). 128 ≤ b) (take n c.args.bytes.now)) e c.loop-i.invariant.1;
      };
    }
