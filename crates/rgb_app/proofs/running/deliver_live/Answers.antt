use Rattle.ciff_format.specs.Canonical.{bytes_of}
use Rattle.rgb_app.specs.Prepared.{text_of, all_lent}
use Rattle.rgb_app.proofs.Delivery.{on_err, cut_at_print, stands_whole}
use Rattle.rgb_app.proofs.Lives.{text_with}
use Rattle.rgb_app.proofs.running.deliver_live.Goals as goal

pub returns-in_err-store-clause-fault : goal.returns-in_err-store-clause-fault
returns-in_err-store-clause-fault g c =
    let text = text_with (text_of c.args.reordered.now) c.args.index.now c.args.readers (all_lent c.args.answers.now) (all_lent c.args.finals.now) in
    on_err _ _ (c.in_err-store.ensures.fault text)

pub returns-in_err-print_live-clause-fault : goal.returns-in_err-print_live-clause-fault
returns-in_err-print_live-clause-fault g c =
    let seen = g.H.Host.seen in
    let text = text_with (text_of c.args.reordered.now) c.args.index.now c.args.readers (all_lent c.args.answers.now) (all_lent c.args.finals.now) in
    on_err _ _ (cut_at_print c.args.name.now (bytes_of c.args.reordered.now.new) text (seen c.args.host.now) (seen c.store.new.host) (seen c.print_live.new.host) c.in_ok-store.ensures.ok c.in_err-print_live.ensures.fault)

pub returns-clause-ok : goal.returns-clause-ok
returns-clause-ok g c =
    let seen = g.H.Host.seen in
    let text = text_with (text_of c.args.reordered.now) c.args.index.now c.args.readers (all_lent c.args.answers.now) (all_lent c.args.finals.now) in
    stands_whole c.args.name.now (bytes_of c.args.reordered.now.new) text (seen c.args.host.now) (seen c.store.new.host) (seen c.print_live.new.host) c.in_ok-store.ensures.ok c.in_ok-print_live.ensures.ok
