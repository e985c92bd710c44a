use Rattle.std.proofs.Common.{◌≡◌, ◌++◌, List, ℕ, [], refl, sym, ap, subst, ◌∙◌}
use Rattle.std.proofs.lemmas.Result.{on_err_weaker}
use Rattle.ciff_writer.specs.Sending.{Puts}
use Rattle.ciff_writer.proofs.Sends.{both, held, start, roomy, cut_room, cut_past, on_err}
use Rattle.ciff_writer.proofs.buffer.Buffer.send.Goals.{then-self-bytes+in_ok-flush+else-bytes, else-self-bytes}
use Rattle.ciff_writer.proofs.buffer.Buffer.send.Goals as goal

pub returns-in_err-flush-clause-fault : goal.returns-in_err-flush-clause-fault
returns-in_err-flush-clause-fault g c = on_err _ _ (cut_room (start (refl {a = c.args.bytes.now})) c.in_err-flush.ensures.fault)

pub returns-then-bytes-clause-fault : goal.returns-then-bytes-clause-fault
returns-then-bytes-clause-fault g c =
    let flushed = subst (λ (q : List ℕ). Puts c.args.name.now [] [] c.args.self.now q (g.H.Host.seen c.args.host.now) (g.H.Host.seen c.flush.new.host)) c.in_ok-flush.ensures.empty c.in_ok-flush.ensures.ok in
    on_err_weaker c.write_all.result (cut_past c.pieces_join.ensures.failed flushed) c.write_all.ensures.fault

pub returns-clause-ok : goal.returns-clause-ok
returns-clause-ok g c =
    let before = g.H.Host.seen c.args.host.now in
    let bytes = c.args.bytes.now in
    elim c.if-self-bytes.branch [
      | then-self-bytes+in_ok-flush+else-bytes w ↦
          let put : c.put.new.self ≡ w.flush.new.self ++ bytes = c.put.ensures ∙ ap (λ (q : List ℕ). q ++ bytes) w.self-is in
          subst (λ (h : g.row.H.Denot). Puts c.args.name.now bytes [] c.args.self.now c.put.new.self before (g.H.Host.seen h)) (sym w.host-is)
          (both (roomy (start (refl {a = bytes})) w.in_ok-flush.ensures.ok) (held put))
      | else-self-bytes w ↦
          let put : c.put.new.self ≡ c.args.self.now ++ bytes = c.put.ensures ∙ ap (λ (q : List ℕ). q ++ bytes) w.self-is in
          subst (λ (h : g.row.H.Denot). Puts c.args.name.now bytes [] c.args.self.now c.put.new.self before (g.H.Host.seen h)) (sym w.host-is) (held put)
    ]
