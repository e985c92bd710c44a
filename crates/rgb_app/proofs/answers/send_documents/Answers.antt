use Rattle.std.proofs.Common.{get_or, refl}
use Rattle.rgb_app.specs.Text.{line_of, document_words}
use Rattle.rgb_app.proofs.Prints.{on_err}
use Rattle.rgb_app.proofs.Sending.{one_sent, cut_at_item}
use Rattle.rgb_app.proofs.answers.send_documents.Goals as goal

pub loop-doc-preserved : goal.loop-doc-preserved
loop-doc-preserved g c =
    let seen = g.H.Host.seen in
    let l = c.loop-doc in
    one_sent (λ doc. line_of (document_words c.args.index.now doc)) c.args.ids.now l.doc-index 0 (get_or c.args.ids.now l.doc-index 0) c.args.held.now.bytes l.held.bytes c.send_document.new.held.bytes (seen c.args.host.now) (seen l.host) (seen c.send_document.new.host)
    c.loop-doc-test.true refl l.invariant c.in_ok-send_document.ensures.ok

pub returns-in_err-send_document-clause-fault : goal.returns-in_err-send_document-clause-fault
returns-in_err-send_document-clause-fault g c =
    let seen = g.H.Host.seen in
    let l = c.loop-doc in
    on_err _ _ (cut_at_item (λ doc. line_of (document_words c.args.index.now doc)) c.args.ids.now l.doc-index 0 (get_or c.args.ids.now l.doc-index 0) c.args.held.now.bytes l.held.bytes (seen c.args.host.now) (seen l.host) (seen c.send_document.new.host)
    c.loop-doc-test.true refl l.invariant c.in_err-send_document.ensures.fault)
