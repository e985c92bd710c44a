use Rattle.std.proofs.Common.{length, ◌∙◌, refl}
use Rattle.std.proofs.lemmas.Result.{on_ok_weaker, on_err_weaker}
use Rattle.rgb_app.specs.Text.{document_lines, answer_text}
use Rattle.rgb_app.proofs.Prints.{on_err}
use Rattle.rgb_app.proofs.Sending.{answer_is, cut_in_first, cut_in_second, two_sent}
use Rattle.rgb_app.proofs.answers.send_answer.Goals as goal

pub returns-in_err-send-clause-fault : goal.returns-in_err-send-clause-fault
returns-in_err-send-clause-fault g c =
    let seen = g.H.Host.seen in
    let index = c.args.index.now in
    let answer = c.args.answer.now in
    let is = answer_is index answer (length c.as_slice-ids.result.now) c.as_slice-ids.result.now c.as_str.result.now c.as_slice-ids.ensures.same refl (c.as_str.ensures.value ∙ c.query_line.ensures) in
    on_err _ _ (cut_in_first (answer_text index answer) c.as_str.result.now (document_lines index c.as_slice-ids.result.now) c.args.held.now.bytes (seen c.args.host.now) (seen c.send.new.host) is c.in_err-send.ensures.fault)

pub returns-clause-ok : goal.returns-clause-ok
returns-clause-ok g c =
    let seen = g.H.Host.seen in
    let index = c.args.index.now in
    let answer = c.args.answer.now in
    let is = answer_is index answer (length c.as_slice-ids.result.now) c.as_slice-ids.result.now c.as_str.result.now c.as_slice-ids.ensures.same refl (c.as_str.ensures.value ∙ c.query_line.ensures) in
    on_ok_weaker c.send_documents.result (λ last.
    two_sent (answer_text index answer) c.as_str.result.now (document_lines index c.as_slice-ids.result.now) c.args.held.now.bytes c.send.new.held.bytes c.send_documents.new.held.bytes (seen c.args.host.now) (seen c.send.new.host) (seen c.send_documents.new.host) is c.in_ok-send.ensures.ok last)
    c.send_documents.ensures.ok

pub returns-clause-fault : goal.returns-clause-fault
returns-clause-fault g c =
    let seen = g.H.Host.seen in
    let index = c.args.index.now in
    let answer = c.args.answer.now in
    let is = answer_is index answer (length c.as_slice-ids.result.now) c.as_slice-ids.result.now c.as_str.result.now c.as_slice-ids.ensures.same refl (c.as_str.ensures.value ∙ c.query_line.ensures) in
    on_err_weaker c.send_documents.result (λ cut.
    cut_in_second (answer_text index answer) c.as_str.result.now (document_lines index c.as_slice-ids.result.now) c.args.held.now.bytes c.send.new.held.bytes (seen c.args.host.now) (seen c.send.new.host) (seen c.send_documents.new.host) is c.in_ok-send.ensures.ok cut)
    c.send_documents.ensures.fault
