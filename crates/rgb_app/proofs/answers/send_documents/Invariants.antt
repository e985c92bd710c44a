use Rattle.std.proofs.Common.{take}
use Rattle.rgb_app.specs.Text.{document_lines}
use Rattle.rgb_app.specs.Printing.{Adds}
use Rattle.rgb_app.proofs.answers.send_documents.Given as goal

abbrev pub invariant-loop-doc : goal.invariant-loop-doc
invariant-loop-doc g l = Adds (document_lines l.index (take l.doc-index l.ids)) l.initial.held.bytes l.held.bytes (g.H.Host.seen l.initial.host) (g.H.Host.seen l.host)
