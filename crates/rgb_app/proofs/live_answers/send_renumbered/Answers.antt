use Rattle.std.proofs.Common.{[], ◌∷◌, ◌++◌, ◌∙◌, refl}
use Rattle.std.proofs.lemmas.Result.{on_ok_weaker, on_err_weaker}
use Rattle.rgb_app.specs.Text.{line_of, renumbered_words}
use Rattle.rgb_app.proofs.Prints.{on_err, both}
use Rattle.rgb_app.proofs.Sending.{renumbered_is, renumbered_begins, cut_in_first, cut_in_second, two_sent}
use Rattle.rgb_app.proofs.live_answers.send_renumbered.Goals as goal

pub returns-in_err-send-clause-fault : goal.returns-in_err-send-clause-fault
returns-in_err-send-clause-fault g c =
    let seen = g.H.Host.seen in
    let index = c.args.index.now in
    let text = line_of (renumbered_words index (c.args.id, c.args.original)) in
    let head = c.as_str.ensures.value ∙ c.head_of.ensures in
    on_err _ _ (cut_in_first text c.as_str.result.now _ c.args.held.now.bytes (seen c.args.host.now) (seen c.send.new.host) (renumbered_begins index c.args.id c.args.original c.as_str.result.now head) c.in_err-send.ensures.fault)

pub returns-in_err-send-2-clause-fault : goal.returns-in_err-send-2-clause-fault
returns-in_err-send-2-clause-fault g c =
    let seen = g.H.Host.seen in
    let index = c.args.index.now in
    let text = line_of (renumbered_words index (c.args.id, c.args.original)) in
    let head = c.as_str.ensures.value ∙ c.head_of.ensures in
    let name = c.name.result.now in
    on_err _ _ (cut_in_second text c.as_str.result.now (name ++ 10 ∷ []) c.args.held.now.bytes c.send.new.held.bytes (seen c.args.host.now) (seen c.send.new.host) (seen c.send-2.new.host)
    (renumbered_is index c.args.id c.args.original c.as_str.result.now name head c.name.ensures.same) c.in_ok-send.ensures.ok
    (cut_in_first (name ++ 10 ∷ []) name (10 ∷ []) c.send.new.held.bytes (seen c.send.new.host) (seen c.send-2.new.host) refl c.in_err-send-2.ensures.fault))

pub returns-clause-ok : goal.returns-clause-ok
returns-clause-ok g c =
    let seen = g.H.Host.seen in
    let index = c.args.index.now in
    let text = line_of (renumbered_words index (c.args.id, c.args.original)) in
    let head = c.as_str.ensures.value ∙ c.head_of.ensures in
    let name = c.name.result.now in
    on_ok_weaker c.send-3.result (λ last.
    two_sent text c.as_str.result.now (name ++ 10 ∷ []) c.args.held.now.bytes c.send.new.held.bytes c.send-3.new.held.bytes (seen c.args.host.now) (seen c.send.new.host) (seen c.send-3.new.host)
    (renumbered_is index c.args.id c.args.original c.as_str.result.now name head c.name.ensures.same) c.in_ok-send.ensures.ok (both c.in_ok-send-2.ensures.ok last)) c.send-3.ensures.ok

pub returns-clause-fault : goal.returns-clause-fault
returns-clause-fault g c =
    let seen = g.H.Host.seen in
    let index = c.args.index.now in
    let text = line_of (renumbered_words index (c.args.id, c.args.original)) in
    let head = c.as_str.ensures.value ∙ c.head_of.ensures in
    let name = c.name.result.now in
    on_err_weaker c.send-3.result (λ cut.
    cut_in_second text c.as_str.result.now (name ++ 10 ∷ []) c.args.held.now.bytes c.send.new.held.bytes (seen c.args.host.now) (seen c.send.new.host) (seen c.send-3.new.host)
    (renumbered_is index c.args.id c.args.original c.as_str.result.now name head c.name.ensures.same) c.in_ok-send.ensures.ok
    (cut_in_second (name ++ 10 ∷ []) name (10 ∷ []) c.send.new.held.bytes c.send-2.new.held.bytes (seen c.send.new.host) (seen c.send-2.new.host) (seen c.send-3.new.host) refl c.in_ok-send-2.ensures.ok cut)) c.send-3.ensures.fault
