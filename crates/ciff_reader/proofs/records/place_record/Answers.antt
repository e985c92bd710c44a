use Rattle.std.proofs.Common.{◌≡◌, ◌≢◌, length, ◌∙◌, arith}
use Rattle.std.specs.Int.{w32}
use Rattle.std.proofs.lemmas.Int.{to_z-of_z}
use Rattle.std.proofs.lemmas.Result.{on_ok_weaker}
use Rattle.ciff_reader.proofs.Windows.{ok_both}
use Rattle.ciff_reader.proofs.Placing.{stands_now, put_now, waits_shorter, waits_still}
use Rattle.ciff_format.specs.Accepted.{with_record}
use Rattle.ciff_reader.proofs.records.place_record.Goals as goal

pub returns-then-number-records-clause-read : goal.returns-then-number-records-clause-read
returns-then-number-records-clause-read c =
    let now : c.args.number ≡ length c.args.builder.now.records = c.if-number-records.true ∙ c.records.ensures.same in
    on_ok_weaker c.release.result
    (λ step. λ front one number document new later read.
    step (with_record front one) (waits_shorter c.args.builder.now c.push_record.new.self _ _ c.args.waiting.now c.in-Ok.ensures.ok later)
    (stands_now front c.args.builder.now c.args.waiting.now one c.args.number c.args.name.now c.args.size number document read c.push_record.new.self _ now (to_z-of_z w32 c.args.size c.ranges.size) c.in-Ok.ensures.ok))
    c.release.ensures.read

pub returns-then-number-records-clause-later : goal.returns-then-number-records-clause-later
returns-then-number-records-clause-later c =
    on_ok_weaker c.release.result (λ step. λ late later. step (waits_shorter c.args.builder.now c.push_record.new.self _ _ c.args.waiting.now c.in-Ok.ensures.ok later)) c.release.ensures.later

pub returns-clause-read : goal.returns-clause-read
returns-clause-read c =
    on_ok_weaker c.put.result
    (λ put. λ front one number document new later read.
    put_now front c.args.builder.now c.args.waiting.now one c.args.number c.args.name.now c.args.size number document read c.put.new.self _ _ new (c.of-name.ensures.same ∙ c.in_ok-from_str.ensures.ok) (to_z-of_z w32 c.args.size c.ranges.size) put.0 put.1)
    (ok_both c.put.result _ _ c.put.ensures.put c.put.ensures.others)

pub returns-clause-later : goal.returns-clause-later
returns-clause-later c =
    let other : c.args.number ≢ length c.args.builder.now.records = omega (arith, c.if-number-records.false, c.records.ensures.same) in
    on_ok_weaker c.put.result (λ others. λ late later. waits_still (length c.args.builder.now.records) c.args.number c.args.waiting.now c.put.new.self late other others later) c.put.ensures.others
