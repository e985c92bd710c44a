use Rattle.ciff_format.specs.Canonical.{bytes_of}
use Rattle.rgb_app.specs.Prepared.{text_of}
use Rattle.rgb_app.proofs.Delivery.{on_err, cut_at_print, stands_whole}
use Rattle.rgb_app.proofs.running.deliver_reordered.Goals as goal

pub returns-in_err-store-clause-fault : goal.returns-in_err-store-clause-fault
returns-in_err-store-clause-fault g c = on_err _ _ (c.in_err-store.ensures.fault (text_of c.args.work.now))

pub returns-in_err-print_reordering-clause-fault : goal.returns-in_err-print_reordering-clause-fault
returns-in_err-print_reordering-clause-fault g c =
    let seen = g.H.Host.seen in
    on_err _ _ (cut_at_print c.args.name.now (bytes_of c.args.work.now.new) (text_of c.args.work.now) (seen c.args.host.now) (seen c.store.new.host) (seen c.print_reordering.new.host) c.in_ok-store.ensures.ok c.in_err-print_reordering.ensures.fault)

pub returns-clause-ok : goal.returns-clause-ok
returns-clause-ok g c =
    let seen = g.H.Host.seen in
    stands_whole c.args.name.now (bytes_of c.args.work.now.new) (text_of c.args.work.now) (seen c.args.host.now) (seen c.store.new.host) (seen c.print_reordering.new.host) c.in_ok-store.ensures.ok c.in_ok-print_reordering.ensures.ok
