use Rattle.std.proofs.Common.{List, ℕ, [], length, OnOk, OnErr, refl, sym, subst, ◌∙◌}
use Rattle.std.proofs.lemmas.Bool.{eqb-true, eqb-false}
use Rattle.std.proofs.lemmas.Result.{on_err_weaker, on_ok_weaker}
use Rattle.ciff_writer.specs.Sending.{Puts, Breaks}
use Rattle.ciff_writer.proofs.Fields.{text-none, text-some}
use Rattle.ciff_writer.proofs.Sends.{start, next, held, both, roomy, cut_room, cut_last, on_err}
use Rattle.ciff_writer.proofs.write.write_text.Goals as goal

pub returns-then-is_empty-clause-ok : goal.returns-then-is_empty-clause-ok
returns-then-is_empty-clause-ok g c = start (text-none c.args.number c.args.text.now (eqb-true (length c.args.text.now) 0 (sym c.is_empty.ensures ∙ c.if-is_empty.true)))

pub returns-in_err-make_room-clause-fault : goal.returns-in_err-make_room-clause-fault
returns-in_err-make_room-clause-fault g c = on_err _ _ (cut_room (start refl) c.in_err-make_room.ensures.fault)

pub returns-clause-ok : goal.returns-clause-ok
returns-clause-ok g c =
    let some = eqb-false (length c.args.text.now) 0 (sym c.is_empty.ensures ∙ c.if-is_empty.false) in
    let room = roomy (start (text-some c.args.number c.args.text.now some)) c.in_ok-make_room.ensures.ok in
    let head = next room (held c.put_head.ensures.bytes) in
    on_ok_weaker c.send.result (both head)
    (subst (λ (bytes : List ℕ). OnOk c.send.result (Puts c.args.name.now bytes [] c.put_head.new.self c.send.new.self (g.H.Host.seen c.make_room.new.host) (g.H.Host.seen c.send.new.host))) c.as_bytes.ensures.value c.send.ensures.ok)

pub returns-clause-fault : goal.returns-clause-fault
returns-clause-fault g c =
    let some = eqb-false (length c.args.text.now) 0 (sym c.is_empty.ensures ∙ c.if-is_empty.false) in
    let room = roomy (start (text-some c.args.number c.args.text.now some)) c.in_ok-make_room.ensures.ok in
    let head = next room (held c.put_head.ensures.bytes) in
    on_err_weaker c.send.result (cut_last head)
    (subst (λ (bytes : List ℕ). OnErr c.send.result (Breaks c.args.name.now bytes c.put_head.new.self (g.H.Host.seen c.make_room.new.host) (g.H.Host.seen c.send.new.host))) c.as_bytes.ensures.value c.send.ensures.fault)
