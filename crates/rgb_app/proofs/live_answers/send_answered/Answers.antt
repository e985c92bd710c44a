use Rattle.std.proofs.Common.{List, ℕ, ◌++◌, codes, ap, sym, ◌∙◌}
use Rattle.std.proofs.lemmas.Result.{on_ok_weaker, on_err_weaker}
use Rattle.rgb_app.specs.Text.{blocks, readers_line}
use Rattle.rgb_app.specs.Prepared.{all_lent}
use Rattle.rgb_app.proofs.Prints.{on_err}
use Rattle.rgb_app.proofs.Sending.{cut_in_first, cut_in_second, two_sent}
use Rattle.rgb_app.proofs.live_answers.send_answered.Goals as goal

pub returns-in_err-send-clause-fault : goal.returns-in_err-send-clause-fault
returns-in_err-send-clause-fault g c =
    let seen = g.H.Host.seen in
    let index = c.args.index.now in
    let first = readers_line c.args.readers in
    let second = (blocks (codes "live") index (all_lent c.args.answers.now) ++ blocks (codes "final") index (all_lent c.args.finals.now)) in
    on_err _ _ (cut_in_first (first ++ second) c.as_str.result.now second c.args.held.now.bytes (seen c.args.host.now) (seen c.send.new.host) (ap (λ (w : List ℕ). w ++ second) (sym (c.as_str.ensures.value ∙ c.readers_line.ensures))) c.in_err-send.ensures.fault)

pub returns-clause-ok : goal.returns-clause-ok
returns-clause-ok g c =
    let seen = g.H.Host.seen in
    let index = c.args.index.now in
    let first = readers_line c.args.readers in
    let second = (blocks (codes "live") index (all_lent c.args.answers.now) ++ blocks (codes "final") index (all_lent c.args.finals.now)) in
    on_ok_weaker c.send_both.result (λ last.
    two_sent (first ++ second) c.as_str.result.now second c.args.held.now.bytes c.send.new.held.bytes c.send_both.new.held.bytes (seen c.args.host.now) (seen c.send.new.host) (seen c.send_both.new.host)
    (ap (λ (w : List ℕ). w ++ second) (sym (c.as_str.ensures.value ∙ c.readers_line.ensures))) c.in_ok-send.ensures.ok last) c.send_both.ensures.ok

pub returns-clause-fault : goal.returns-clause-fault
returns-clause-fault g c =
    let seen = g.H.Host.seen in
    let index = c.args.index.now in
    let first = readers_line c.args.readers in
    let second = (blocks (codes "live") index (all_lent c.args.answers.now) ++ blocks (codes "final") index (all_lent c.args.finals.now)) in
    on_err_weaker c.send_both.result (λ cut.
    cut_in_second (first ++ second) c.as_str.result.now second c.args.held.now.bytes c.send.new.held.bytes (seen c.args.host.now) (seen c.send.new.host) (seen c.send_both.new.host)
    (ap (λ (w : List ℕ). w ++ second) (sym (c.as_str.ensures.value ∙ c.readers_line.ensures))) c.in_ok-send.ensures.ok cut) c.send_both.ensures.fault
