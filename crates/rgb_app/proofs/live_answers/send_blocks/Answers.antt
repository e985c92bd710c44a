use Rattle.std.proofs.Common.{List, ℕ, ◌++◌, subst, arith, take_all}
use Rattle.rgb_host.specs.Seen.{PrintedThenFailed}
use Rattle.rgb_app.specs.Text.{block_text}
use Rattle.rgb_app.specs.Printing.{Adds}
use Rattle.rgb_app.proofs.Prints.{on_err}
use Rattle.rgb_app.proofs.Sending.{one_sent, cut_at_item, all_sent, lent_texts, lent_at}
use Rattle.rgb_app.specs.Prepared.{HasOwners}
use Rattle.rgb_app.proofs.live_answers.send_blocks.Goals as goal

pub send_block-requires-clause-owners : goal.send_block-requires-clause-owners
send_block-requires-clause-owners g c =
    let l = c.loop-answer in
    lent_at (HasOwners c.args.index.now) c.args.answers.now l.answer-index c.answer-item.result c.loop-answer-test.true c.answer-item.is c.requires.owners

pub loop-answer-preserved : goal.loop-answer-preserved
loop-answer-preserved g c =
    let seen = g.H.Host.seen in
    let l = c.loop-answer in
    let answer = c.answer-item.result in
    one_sent (λ answer. block_text c.args.word.now c.args.index.now answer.now) c.args.answers.now l.answer-index answer answer c.args.held.now.bytes l.held.bytes c.send_block.new.held.bytes (seen c.args.host.now) (seen l.host) (seen c.send_block.new.host)
    c.loop-answer-test.true c.answer-item.is l.invariant c.in_ok-send_block.ensures.ok

pub returns-in_err-send_block-clause-fault : goal.returns-in_err-send_block-clause-fault
returns-in_err-send_block-clause-fault g c =
    let seen = g.H.Host.seen in
    let l = c.loop-answer in
    let answer = c.answer-item.result in
    on_err _ _ (subst (λ (w : List ℕ). PrintedThenFailed (c.args.held.now.bytes ++ w) (seen c.args.host.now) (seen c.send_block.new.host)) (lent_texts (block_text c.args.word.now c.args.index.now) c.args.answers.now)
    (cut_at_item (λ answer. block_text c.args.word.now c.args.index.now answer.now) c.args.answers.now l.answer-index answer answer c.args.held.now.bytes l.held.bytes (seen c.args.host.now) (seen l.host) (seen c.send_block.new.host)
    c.loop-answer-test.true c.answer-item.is l.invariant c.in_err-send_block.ensures.fault))

pub returns-clause-ok : goal.returns-clause-ok
returns-clause-ok g c =
    let seen = g.H.Host.seen in
    let l = c.loop-answer in
    subst (λ (w : List ℕ). Adds w c.args.held.now.bytes l.held.bytes (seen c.args.host.now) (seen l.host)) (lent_texts (block_text c.args.word.now c.args.index.now) c.args.answers.now)
    (all_sent (λ answer. block_text c.args.word.now c.args.index.now answer.now) c.args.answers.now l.answer-index c.args.held.now.bytes l.held.bytes (seen c.args.host.now) (seen l.host)
    (take_all l.answer-index c.args.answers.now (omega (arith, c.loop-answer-test.false))) l.invariant)
