use Rattle.std.proofs.Common.{List, ℕ, ◌++◌, codes, subst}
use Rattle.std.proofs.lemmas.Result.{on_err_weaker}
use Rattle.rgb_app.specs.Text.{blocks, readers_line}
use Rattle.rgb_app.specs.Prepared.{text_of, all_lent}
use Rattle.rgb_app.specs.Printing.{Adds}
use Rattle.rgb_app.proofs.Prints.{cut_held}
use Rattle.rgb_app.proofs.live_answers.print_live.Goals as goal

pub returns-clause-fault : goal.returns-clause-fault
returns-clause-fault g c =
    let seen = g.H.Host.seen in
    let index = c.args.index.now in
    let text = text_of c.args.work.now ++ (readers_line c.args.readers ++ (blocks (codes "live") index (all_lent c.args.answers.now) ++ blocks (codes "final") index (all_lent c.args.finals.now))) in
    let begun = subst (λ (w : List ℕ). Adds text w c.send_live.new.held.bytes (seen c.args.host.now) (seen c.send_live.new.host)) c.new-held.ensures c.in_ok-send_live.ensures.ok in
    on_err_weaker c.flush.result (cut_held text c.send_live.new.held.bytes (seen c.args.host.now) (seen c.send_live.new.host) (seen c.flush.new.host) begun) c.flush.ensures.fault
