use Rattle.std.proofs.Common.{◌≡◌, ℕ, ◌+◌, ◌-◌, ◌<◌, ◌≤◌, get_or, sym, subst, arith}
use Rattle.std.proofs.Math.ListN.{set}
use Rattle.exchange.proofs.Merged.{AreMerged, ahead_moves, coming_moves, merged_same, merged_sorted}
use Rattle.exchange.proofs.halves.merge_into.Goals as goal
use Rattle.exchange.proofs.halves.merge_into.Goals.{else-ahead-gt0-via-then-ahead-gt0+else-doc-docs, else-ahead-gt0-via-else-ahead-gt0}

pub loop-coming-preserved-then-doc-docs : goal.loop-coming-preserved-then-doc-docs
loop-coming-preserved-then-doc-docs c =
    let old = c.args.docs.now in
    let come = c.args.come.now in
    let docs = c.loop-coming.docs in
    let ahead = c.loop-coming.ahead in
    let coming = c.loop-coming.coming in
    let are = c.loop-coming.invariant in
    let some : 0 < coming = omega (arith, c.loop-coming-test.true) in
    let more : 0 < ahead = omega (arith, c.if-ahead-gt0.true) in
    let front : get_or docs (ahead - 1) 0 ≡ get_or old (ahead - 1) 0 = are.front (ahead - 1) (omega (arith, more)) in
    subst (λ (d : ℕ). AreMerged (ahead - 1) coming c.args.staying old (set docs (ahead + coming - 1) d) come) (sym front)
    (ahead_moves c.args.staying old come c.requires.sorted c.requires.sorted_come (omega (arith, c.requires.len)) ahead coming (ahead + coming - 1) docs (omega (arith, some)) (omega (arith, some, are.len, are.low, are.few, c.requires.len)) are
    (ahead - 1) (omega (arith, more)) some (omega (arith, c.if-doc-docs.true, front)))

pub loop-coming-preserved : goal.loop-coming-preserved
loop-coming-preserved c =
    let old = c.args.docs.now in
    let come = c.args.come.now in
    let docs = c.loop-coming.docs in
    let ahead = c.loop-coming.ahead in
    let coming = c.loop-coming.coming in
    let are = c.loop-coming.invariant in
    let some : 0 < coming = omega (arith, c.loop-coming-test.true) in
    let low : 0 < ahead → get_or old (ahead - 1) 0 ≤ get_or come (coming - 1) 0 =
    elim c.else-ahead-gt0.branch [
      | else-ahead-gt0-via-then-ahead-gt0+else-doc-docs w ↦ λ more. omega (arith, w.if-doc-docs.false, are.front (ahead - 1) (omega (arith, more)))
      | else-ahead-gt0-via-else-ahead-gt0 w ↦ λ more. absurd (omega (arith, more, w.if-ahead-gt0.false))
    ] in
    coming_moves c.args.staying old come c.requires.sorted c.requires.sorted_come (omega (arith, c.requires.len)) ahead coming (ahead + coming - 1) docs (omega (arith, some)) (omega (arith, some, are.len, are.low, are.few, c.requires.len)) are
    (coming - 1) (omega (arith, some)) low

pub returns-clause-same : goal.returns-clause-same
returns-clause-same c =
    let old = c.args.docs.now in
    let come = c.args.come.now in
    let none : c.loop-coming.coming ≡ 0 = omega (arith, c.loop-coming-test.false) in
    merged_same c.args.staying old come c.requires.sorted c.requires.sorted_come (omega (arith, c.requires.len)) c.loop-coming.ahead c.loop-coming.docs
    (subst (λ (n : ℕ). AreMerged c.loop-coming.ahead n c.args.staying old c.loop-coming.docs come) none c.loop-coming.invariant)

pub returns-clause-sorted : goal.returns-clause-sorted
returns-clause-sorted c =
    let old = c.args.docs.now in
    let come = c.args.come.now in
    let none : c.loop-coming.coming ≡ 0 = omega (arith, c.loop-coming-test.false) in
    merged_sorted c.args.staying old come c.requires.sorted c.requires.sorted_come (omega (arith, c.requires.len)) c.loop-coming.ahead c.loop-coming.docs
    (subst (λ (n : ℕ). AreMerged c.loop-coming.ahead n c.args.staying old c.loop-coming.docs come) none c.loop-coming.invariant)
