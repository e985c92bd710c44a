use Rattle.std.proofs.Common.{List, ℕ, ◌++◌, sym, ap, subst, ◌∙◌}
use Rattle.std.proofs.lemmas.Result.{on_ok_weaker, on_err_weaker}
use Rattle.rgb_host.specs.Seen.{with_print, PrintedThenFailed}
use Rattle.rgb_app.proofs.Prints.{both, past, cut_later}
use Rattle.rgb_app.proofs.printing.send.Goals as goal

pub returns-then-text-gt-PIECE-clause-ok : goal.returns-then-text-gt-PIECE-clause-ok
returns-then-text-gt-PIECE-clause-ok g c =
    let seen = g.H.Host.seen in
    on_ok_weaker c.print_all.result (λ is.
    both c.in_ok-flush.ensures.ok (past c.args.text.now c.flush.new.held.bytes (seen c.flush.new.host) (seen c.print_all.new.host) c.in_ok-flush.ensures.empty
    (is ∙ ap (λ (w : List ℕ). with_print w (seen c.flush.new.host)) c.as_bytes.ensures.value))) c.print_all.ensures.ok

pub returns-then-text-gt-PIECE-clause-fault : goal.returns-then-text-gt-PIECE-clause-fault
returns-then-text-gt-PIECE-clause-fault g c =
    let seen = g.H.Host.seen in
    on_err_weaker c.print_all.result (λ cut.
    cut_later c.args.text.now c.in_ok-flush.ensures.ok (subst (λ (w : List ℕ). PrintedThenFailed (w ++ c.args.text.now) (seen c.flush.new.host) (seen c.print_all.new.host)) (sym c.in_ok-flush.ensures.empty)
    (subst (λ (w : List ℕ). PrintedThenFailed w (seen c.flush.new.host) (seen c.print_all.new.host)) c.as_bytes.ensures.value cut))) c.print_all.ensures.fault
