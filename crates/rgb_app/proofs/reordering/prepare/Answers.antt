use Rattle.rgb_app.proofs.Texts.{described_is, described_text}
use Rattle.rgb_app.proofs.reordering.prepare.Goals as goal

pub returns-clause-ok : goal.returns-clause-ok
returns-clause-ok g c =
    described_is c.args.options c.args.index.now c.in_ok-new.new c.in_ok-new.rounds c.described.result c.described.ensures.new c.described.ensures.rounds c.in_ok-new.ensures.ok

pub returns-clause-text : goal.returns-clause-text
returns-clause-text g c =
    described_text c.args.index.now c.in_ok-new.new c.in_ok-new.rounds c.described.result c.described.ensures.new c.described.ensures.rounds c.described.ensures.text
