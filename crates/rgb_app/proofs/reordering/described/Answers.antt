use Rattle.std.proofs.Common.{◌≡◌}
use Rattle.gap_report.specs.Costs.{costs_of}
use Rattle.rgb_app.proofs.Texts.{text_is, same_ok}
use Rattle.rgb_app.proofs.reordering.described.Goals as goal

pub returns-clause-text : goal.returns-clause-text
returns-clause-text g c =
    let before : c.in_ok-before.before ≡ costs_of c.args.index.now = same_ok _ _ c.in_ok-before.ensures.ok in
    let after : c.in_ok-after.after ≡ costs_of c.args.new = same_ok _ _ c.in_ok-after.ensures.ok in
    text_is c.args.index.now c.args.new c.args.rounds c.in_ok-before.before c.in_ok-after.after _ _ before after c.in_ok-first.ensures.line c.in_ok-last.ensures.lines
