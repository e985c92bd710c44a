use Rattle.std.proofs.Common.{◌++◌, codes, refl}
use Rattle.std.proofs.lemmas.Result.{on_ok_weaker, on_err_weaker}
use Rattle.rgb_app.specs.Text.{blocks, readers_line}
use Rattle.rgb_app.specs.Prepared.{text_of, all_lent}
use Rattle.rgb_app.proofs.Prints.{on_err}
use Rattle.rgb_app.proofs.Sending.{cut_in_first, cut_in_second, two_sent}
use Rattle.rgb_app.proofs.live_answers.send_live.Goals as goal

pub returns-in_err-send_reordering-clause-fault : goal.returns-in_err-send_reordering-clause-fault
returns-in_err-send_reordering-clause-fault g c =
    let seen = g.H.Host.seen in
    let index = c.args.index.now in
    let first = text_of c.args.work.now in
    let second = (readers_line c.args.readers ++ (blocks (codes "live") index (all_lent c.args.answers.now) ++ blocks (codes "final") index (all_lent c.args.finals.now))) in
    on_err _ _ (cut_in_first (first ++ second) first second c.args.held.now.bytes (seen c.args.host.now) (seen c.send_reordering.new.host) (refl) c.in_err-send_reordering.ensures.fault)

pub returns-clause-ok : goal.returns-clause-ok
returns-clause-ok g c =
    let seen = g.H.Host.seen in
    let index = c.args.index.now in
    let first = text_of c.args.work.now in
    let second = (readers_line c.args.readers ++ (blocks (codes "live") index (all_lent c.args.answers.now) ++ blocks (codes "final") index (all_lent c.args.finals.now))) in
    on_ok_weaker c.send_answered.result (λ last.
    two_sent (first ++ second) first second c.args.held.now.bytes c.send_reordering.new.held.bytes c.send_answered.new.held.bytes (seen c.args.host.now) (seen c.send_reordering.new.host) (seen c.send_answered.new.host)
    (refl) c.in_ok-send_reordering.ensures.ok last) c.send_answered.ensures.ok

pub returns-clause-fault : goal.returns-clause-fault
returns-clause-fault g c =
    let seen = g.H.Host.seen in
    let index = c.args.index.now in
    let first = text_of c.args.work.now in
    let second = (readers_line c.args.readers ++ (blocks (codes "live") index (all_lent c.args.answers.now) ++ blocks (codes "final") index (all_lent c.args.finals.now))) in
    on_err_weaker c.send_answered.result (λ cut.
    cut_in_second (first ++ second) first second c.args.held.now.bytes c.send_reordering.new.held.bytes (seen c.args.host.now) (seen c.send_reordering.new.host) (seen c.send_answered.new.host)
    (refl) c.in_ok-send_reordering.ensures.ok cut) c.send_answered.ensures.fault
