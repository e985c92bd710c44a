use Rattle.std.proofs.Common.{◌≡◌, List, ℕ, ◌++◌, ◌∙◌, subst}
use Rattle.rgb_host.specs.Seen.{PrintedThenFailed}
use Rattle.rgb_app.specs.Printing.{Adds}
use Rattle.rgb_app.proofs.Prints.{line_at, one_more, cut_at_line, on_err}
use Rattle.rgb_app.proofs.printing.send_rounds.Goals as goal

pub loop-round-preserved : goal.loop-round-preserved
loop-round-preserved g c =
    let seen = g.H.Host.seen in
    let l = c.loop-round in
    let line : c.as_str.result.now ≡ line_at c.args.rounds.now l.round-index = c.as_str.ensures.value ∙ c.round_line.ensures in
    let came = subst (λ (w : List ℕ). Adds w l.held.bytes c.send.new.held.bytes (seen l.host) (seen c.send.new.host)) line c.in_ok-send.ensures.ok in
    one_more c.args.rounds.now l.round-index c.args.held.now.bytes l.held.bytes c.send.new.held.bytes (seen c.args.host.now) (seen l.host) (seen c.send.new.host) c.loop-round-test.true l.invariant came

pub returns-in_err-send-clause-fault : goal.returns-in_err-send-clause-fault
returns-in_err-send-clause-fault g c =
    let seen = g.H.Host.seen in
    let l = c.loop-round in
    let line : c.as_str.result.now ≡ line_at c.args.rounds.now l.round-index = c.as_str.ensures.value ∙ c.round_line.ensures in
    let cut = subst (λ (w : List ℕ). PrintedThenFailed (l.held.bytes ++ w) (seen l.host) (seen c.send.new.host)) line c.in_err-send.ensures.fault in
    on_err _ _ (cut_at_line c.args.rounds.now l.round-index c.args.held.now.bytes l.held.bytes (seen c.args.host.now) (seen l.host) (seen c.send.new.host) c.loop-round-test.true l.invariant cut)
