use Rattle.rgb_app.specs.Text.{answer_text}
use Rattle.rgb_app.proofs.Prints.{on_err}
use Rattle.rgb_app.proofs.Sending.{one_sent, cut_at_item}
use Rattle.rgb_app.proofs.answers.send_answers.Goals as goal

pub loop-answer-preserved : goal.loop-answer-preserved
loop-answer-preserved g c =
    let seen = g.H.Host.seen in
    let l = c.loop-answer in
    let answer = c.answer-item.result in
    one_sent (answer_text c.args.index.now) c.args.answers.now l.answer-index answer answer c.args.held.now.bytes l.held.bytes c.send_answer.new.held.bytes (seen c.args.host.now) (seen l.host) (seen c.send_answer.new.host)
    c.loop-answer-test.true c.answer-item.is l.invariant c.in_ok-send_answer.ensures.ok

pub returns-in_err-send_answer-clause-fault : goal.returns-in_err-send_answer-clause-fault
returns-in_err-send_answer-clause-fault g c =
    let seen = g.H.Host.seen in
    let l = c.loop-answer in
    let answer = c.answer-item.result in
    on_err _ _ (cut_at_item (answer_text c.args.index.now) c.args.answers.now l.answer-index answer answer c.args.held.now.bytes l.held.bytes (seen c.args.host.now) (seen l.host) (seen c.send_answer.new.host)
    c.loop-answer-test.true c.answer-item.is l.invariant c.in_err-send_answer.ensures.fault)
