use Rattle.std.proofs.Common.{[], ◌∷◌, ◌++◌, codes, sym, ◌∙◌, append_assoc}
use Rattle.rgb_app.specs.Text.{line_of, cost_words}
use Rattle.rgb_app.proofs.text.cost_lines.Goals as goal

pub returns : goal.returns
returns c = record {
  lines = c.in_ok-format.ensures.ok ∙ sym (append_assoc (codes "before " ++ cost_words c.args.before) (10 ∷ []) (line_of (codes "after " ++ cost_words c.args.after)));
}
