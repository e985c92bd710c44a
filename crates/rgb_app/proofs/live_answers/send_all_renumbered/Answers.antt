use Rattle.std.proofs.Common.{get_or, zip, arith}
use Rattle.rgb_app.specs.Text.{line_of, renumbered_words}
use Rattle.rgb_app.proofs.Prints.{on_err}
use Rattle.rgb_app.proofs.Sending.{one_sent, cut_at_item, all_sent, pair_at, pairs_count, taken_whole}
use Rattle.rgb_app.proofs.live_answers.send_all_renumbered.Goals as goal

pub loop-place-preserved : goal.loop-place-preserved
loop-place-preserved g c =
    let seen = g.H.Host.seen in
    let l = c.loop-place in
    let ids = c.args.ids.now in
    let originals = c.args.originals.now in
    one_sent (λ pair. line_of (renumbered_words c.args.index.now pair)) (zip ids originals) l.place (0, 0) (get_or ids l.place 0, get_or originals l.place 0)
    c.args.held.now.bytes l.held.bytes c.send_renumbered.new.held.bytes (seen c.args.host.now) (seen l.host) (seen c.send_renumbered.new.host)
    (omega (arith, c.loop-place-test.true, pairs_count ids originals c.requires.len)) (pair_at ids originals l.place c.requires.len c.loop-place-test.true) l.invariant c.in_ok-send_renumbered.ensures.ok

pub returns-in_err-send_renumbered-clause-fault : goal.returns-in_err-send_renumbered-clause-fault
returns-in_err-send_renumbered-clause-fault g c =
    let seen = g.H.Host.seen in
    let l = c.loop-place in
    let ids = c.args.ids.now in
    let originals = c.args.originals.now in
    on_err _ _ (cut_at_item (λ pair. line_of (renumbered_words c.args.index.now pair)) (zip ids originals) l.place (0, 0) (get_or ids l.place 0, get_or originals l.place 0)
    c.args.held.now.bytes l.held.bytes (seen c.args.host.now) (seen l.host) (seen c.send_renumbered.new.host)
    (omega (arith, c.loop-place-test.true, pairs_count ids originals c.requires.len)) (pair_at ids originals l.place c.requires.len c.loop-place-test.true) l.invariant c.in_err-send_renumbered.ensures.fault)

pub returns-clause-ok : goal.returns-clause-ok
returns-clause-ok g c =
    let seen = g.H.Host.seen in
    let l = c.loop-place in
    let ids = c.args.ids.now in
    let originals = c.args.originals.now in
    all_sent (λ pair. line_of (renumbered_words c.args.index.now pair)) (zip ids originals) l.place c.args.held.now.bytes l.held.bytes (seen c.args.host.now) (seen l.host)
    (taken_whole ids originals l.place c.requires.len (omega (arith, c.loop-place-test.false))) l.invariant
