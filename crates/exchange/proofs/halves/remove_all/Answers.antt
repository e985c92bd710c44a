use Rattle.std.proofs.Common.{◌≡◌, ◌≢◌, ℕ, ◌+◌, ◌<◌, length, get_or, sym, ap, ◌∙◌, arith}
use Rattle.std.proofs.Math.ListN.{set}
use Rattle.exchange.proofs.Merged.{same_taken, one_taken, one_kept, taken_same}
use Rattle.exchange.proofs.halves.remove_all.Goals as goal
use Rattle.exchange.proofs.halves.remove_all.Goals.{then-left-leave+then-leave-left, else-left-leave, else-left-leave-via-then-left-leave+else-leave-left, else-left-leave-via-else-left-leave}

pub loop-place-preserved : goal.loop-place-preserved
loop-place-preserved c =
    let old = c.args.docs.now in
    let leave = c.args.leave.now in
    let docs = c.loop-place.docs in
    let place = c.loop-place.place in
    let staying = c.loop-place.staying in
    let left = c.loop-place.left in
    let are = c.loop-place.invariant in
    let within : place < length old = omega (arith, are.len, c.loop-place-test.true, c.loop-place.auto.place-end) in
    let here : get_or docs place 0 ≡ get_or old place 0 = are.ahead place (omega arith) in
    elim c.if-left-leave.branch [
      | then-left-leave+then-leave-left w ↦
          same_taken (place + 1) staying c.if-left-leave.staying (left + 1) c.if-left-leave.left old docs c.if-left-leave.docs leave w.staying-is w.left-is w.docs-is
          (one_taken place staying left old docs leave c.requires.rising c.requires.rising_leave within are w.if-left-leave.true (w.if-leave-left.true ∙ here))
      | else-left-leave w ↦
          let apart : left < length leave → get_or leave left 0 ≢ get_or old place 0 =
          elim w.else-left-leave.branch [
            | else-left-leave-via-then-left-leave+else-leave-left u ↦ λ more same. u.if-leave-left.false (same ∙ sym here)
            | else-left-leave-via-else-left-leave u ↦ λ more. absurd (omega (arith, more, u.if-left-leave.false))
          ] in
          same_taken (place + 1) (staying + 1) c.if-left-leave.staying left c.if-left-leave.left old (set docs staying (get_or old place 0)) c.if-left-leave.docs leave w.staying-is w.left-is (w.docs-is ∙ ap (λ (d : ℕ). set docs staying d) here)
          (one_kept place staying left old docs leave c.requires.rising c.requires.rising_leave within are apart)
    ]

pub returns-clause-same : goal.returns-clause-same
returns-clause-same c =
    let are = c.loop-place.invariant in
    taken_same c.loop-place.place c.loop-place.staying c.loop-place.left c.args.docs.now c.loop-place.docs c.args.leave.now
    (omega (arith, are.len, c.loop-place-test.false, c.loop-place.auto.place-end)) (omega (arith, are.len, c.loop-place.auto.place-end)) are
