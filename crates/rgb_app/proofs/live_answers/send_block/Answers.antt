use Rattle.std.proofs.Common.{length, zip, ◌∙◌, refl}
use Rattle.std.proofs.lemmas.Result.{on_ok_weaker, on_err_weaker}
use Rattle.rgb_app.specs.Text.{renumbered_lines, block_text}
use Rattle.rgb_app.proofs.Prints.{on_err}
use Rattle.rgb_app.proofs.Sending.{block_is, cut_in_first, cut_in_second, two_sent}
use Rattle.rgb_app.proofs.live_answers.send_block.Goals as goal

pub returns-in_err-send-clause-fault : goal.returns-in_err-send-clause-fault
returns-in_err-send-clause-fault g c =
    let seen = g.H.Host.seen in
    let index = c.args.index.now in
    let answer = c.args.answer.now in
    let word = c.args.word.now in
    let ids = c.as_slice-ids.result.now in
    let originals = c.as_slice-originals.result.now in
    let lines = renumbered_lines index (zip ids originals) in
    let is = block_is word index answer (length ids) ids originals c.as_str.result.now c.as_slice-ids.ensures.same c.as_slice-originals.ensures.same refl (c.as_str.ensures.value ∙ c.block_line-line.ensures) in
    on_err _ _ (cut_in_first (block_text word index answer) c.as_str.result.now lines c.args.held.now.bytes (seen c.args.host.now) (seen c.send.new.host) is c.in_err-send.ensures.fault)

pub returns-clause-ok : goal.returns-clause-ok
returns-clause-ok g c =
    let seen = g.H.Host.seen in
    let index = c.args.index.now in
    let answer = c.args.answer.now in
    let word = c.args.word.now in
    let ids = c.as_slice-ids.result.now in
    let originals = c.as_slice-originals.result.now in
    let lines = renumbered_lines index (zip ids originals) in
    let is = block_is word index answer (length ids) ids originals c.as_str.result.now c.as_slice-ids.ensures.same c.as_slice-originals.ensures.same refl (c.as_str.ensures.value ∙ c.block_line-line.ensures) in
    on_ok_weaker c.send_all_renumbered.result (λ last.
    two_sent (block_text word index answer) c.as_str.result.now lines c.args.held.now.bytes c.send.new.held.bytes c.send_all_renumbered.new.held.bytes (seen c.args.host.now) (seen c.send.new.host) (seen c.send_all_renumbered.new.host) is c.in_ok-send.ensures.ok last)
    c.send_all_renumbered.ensures.ok

pub returns-clause-fault : goal.returns-clause-fault
returns-clause-fault g c =
    let seen = g.H.Host.seen in
    let index = c.args.index.now in
    let answer = c.args.answer.now in
    let word = c.args.word.now in
    let ids = c.as_slice-ids.result.now in
    let originals = c.as_slice-originals.result.now in
    let lines = renumbered_lines index (zip ids originals) in
    let is = block_is word index answer (length ids) ids originals c.as_str.result.now c.as_slice-ids.ensures.same c.as_slice-originals.ensures.same refl (c.as_str.ensures.value ∙ c.block_line-line.ensures) in
    on_err_weaker c.send_all_renumbered.result (λ cut.
    cut_in_second (block_text word index answer) c.as_str.result.now lines c.args.held.now.bytes c.send.new.held.bytes (seen c.args.host.now) (seen c.send.new.host) (seen c.send_all_renumbered.new.host) is c.in_ok-send.ensures.ok cut)
    c.send_all_renumbered.ensures.fault
