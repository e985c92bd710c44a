use Rattle.std.proofs.Common.{List, ℕ, subst}
use Rattle.std.proofs.lemmas.Result.{on_err_weaker}
use Rattle.rgb_app.specs.Prepared.{text_of}
use Rattle.rgb_app.specs.Printing.{Adds}
use Rattle.rgb_app.proofs.Prints.{cut_held}
use Rattle.rgb_app.proofs.printing.print_reordering.Goals as goal

pub returns-clause-fault : goal.returns-clause-fault
returns-clause-fault g c =
    let seen = g.H.Host.seen in
    let text = text_of c.args.work.now in
    let begun = subst (λ (w : List ℕ). Adds text w c.send_reordering.new.held.bytes (seen c.args.host.now) (seen c.send_reordering.new.host)) c.new-held.ensures c.in_ok-send_reordering.ensures.ok in
    on_err_weaker c.flush.result (cut_held text c.send_reordering.new.held.bytes (seen c.args.host.now) (seen c.send_reordering.new.host) (seen c.flush.new.host) begun) c.flush.ensures.fault
