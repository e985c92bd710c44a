use Rattle.std.proofs.Common.{◌≡◌, ◌++◌, length, codes, decimal, string_bytes, ap}
use Rattle.gap_report.specs.Costs.{costs_of}
use Rattle.rgb_app.specs.Text.{line_of, index_line, cost_lines}
use Rattle.rgb_app.specs.Summary.{IsSummary}
use Rattle.rgb_app.proofs.Texts.{same_ok, if_ok_map, summary_is}
use Rattle.rgb_app.proofs.reordering.summary.Goals as goal

pub returns : goal.returns
returns g c =
    let index = c.args.index.now in
    let before : c.in_ok-before.before ≡ costs_of index = same_ok _ _ c.in_ok-before.ensures.ok in
    let after : c.in_ok-after.after ≡ costs_of c.in_ok-new.new = same_ok _ _ c.in_ok-after.ensures.ok in
    let kept : length c.as_slice-kept.result.now ≡ length c.in_ok-new.rounds = ap length c.as_slice-kept.ensures.same in
    record {
      ok = if_ok_map c.make_text.result (λ text. string_bytes text ≡ index_line index ++ (line_of (codes "kept " ++ decimal (length c.as_slice-kept.result.now)) ++ cost_lines c.in_ok-before.before c.in_ok-after.after))
          (λ text. IsSummary c.args.options index (string_bytes text))
          (λ text is. summary_is c.args.options index c.in_ok-new.new c.in_ok-new.rounds (length c.as_slice-kept.result.now) c.in_ok-before.before c.in_ok-after.after (string_bytes text) c.in_ok-new.ensures.ok kept before after is)
          c.make_text.ensures.text;
    }
