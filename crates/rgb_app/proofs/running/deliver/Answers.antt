use Rattle.std.proofs.Common.{ap, subst, ◌∙◌}
use Rattle.rgb_host.specs.Seen.{with_print, PrintedThenFailed}
use Rattle.ciff_format.specs.Canonical.{bytes_of}
use Rattle.rgb_app.proofs.Delivery.{on_err, cut_at_print, stands_whole}
use Rattle.rgb_app.proofs.running.deliver.Goals as goal

pub returns-in_err-store-clause-fault : goal.returns-in_err-store-clause-fault
returns-in_err-store-clause-fault g c = on_err _ _ (c.in_err-store.ensures.fault c.args.text.now)

pub returns-in_err-print_all-clause-fault : goal.returns-in_err-print_all-clause-fault
returns-in_err-print_all-clause-fault g c =
    let seen = g.H.Host.seen in
    on_err _ _ (cut_at_print c.args.name.now (bytes_of c.args.index.now) c.args.text.now (seen c.args.host.now) (seen c.store.new.host) (seen c.print_all.new.host) c.in_ok-store.ensures.ok
    (subst (λ t. PrintedThenFailed t (seen c.store.new.host) (seen c.print_all.new.host)) c.as_bytes.ensures.value c.in_err-print_all.ensures.fault))

pub returns-clause-ok : goal.returns-clause-ok
returns-clause-ok g c =
    let seen = g.H.Host.seen in
    stands_whole c.args.name.now (bytes_of c.args.index.now) c.args.text.now (seen c.args.host.now) (seen c.store.new.host) (seen c.print_all.new.host) c.in_ok-store.ensures.ok
    (c.in_ok-print_all.ensures.ok ∙ ap (λ t. with_print t (seen c.store.new.host)) c.as_bytes.ensures.value)
