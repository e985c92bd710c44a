use Rattle.std.proofs.Common.{◌++◌, refl}
use Rattle.std.proofs.lemmas.Result.{on_ok_weaker, on_err_weaker}
use Rattle.rgb_app.specs.Text.{round_lines}
use Rattle.rgb_app.proofs.Prints.{three, on_err}
use Rattle.rgb_app.proofs.Sending.{cut_in_first, cut_in_second}
use Rattle.rgb_app.proofs.printing.send_parts.Goals as goal

pub returns-in_err-send_rounds-clause-fault : goal.returns-in_err-send_rounds-clause-fault
returns-in_err-send_rounds-clause-fault g c =
    let seen = g.H.Host.seen in
    let first = c.args.first.now in
    let lines = round_lines c.args.rounds.now in
    let last = c.args.last.now in
    on_err _ _ (cut_in_second (first ++ (lines ++ last)) first (lines ++ last) c.args.held.now.bytes c.send.new.held.bytes (seen c.args.host.now) (seen c.send.new.host) (seen c.send_rounds.new.host) refl c.in_ok-send.ensures.ok
    (cut_in_first (lines ++ last) lines last c.send.new.held.bytes (seen c.send.new.host) (seen c.send_rounds.new.host) refl c.in_err-send_rounds.ensures.fault))

pub returns-clause-ok : goal.returns-clause-ok
returns-clause-ok g c = on_ok_weaker c.send-2.result (λ last. three c.in_ok-send.ensures.ok c.in_ok-send_rounds.ensures.ok last) c.send-2.ensures.ok

pub returns-clause-fault : goal.returns-clause-fault
returns-clause-fault g c =
    let seen = g.H.Host.seen in
    let first = c.args.first.now in
    let lines = round_lines c.args.rounds.now in
    let last = c.args.last.now in
    on_err_weaker c.send-2.result (λ cut.
    cut_in_second (first ++ (lines ++ last)) first (lines ++ last) c.args.held.now.bytes c.send.new.held.bytes (seen c.args.host.now) (seen c.send.new.host) (seen c.send-2.new.host) refl c.in_ok-send.ensures.ok
    (cut_in_second (lines ++ last) lines last c.send.new.held.bytes c.send_rounds.new.held.bytes (seen c.send.new.host) (seen c.send_rounds.new.host) (seen c.send-2.new.host) refl c.in_ok-send_rounds.ensures.ok cut)) c.send-2.ensures.fault
