use Rattle.std.proofs.Common.{[], ◌∷◌, sym, ◌∙◌, append_assoc}
use Rattle.rgb_app.specs.Text.{line_of, index_words, cost_words}
use Rattle.rgb_app.proofs.Texts.{counted_text}
use Rattle.rgb_app.proofs.text.report_text.Goals as goal

pub returns : goal.returns
returns c =
    let counted = c.args.counted in
    record {
      text = λ index is.
          c.in_ok-format.ensures.ok ∙ sym (append_assoc (index_words counted.documents counted.lists counted.costs.postings) (10 ∷ []) (line_of (cost_words counted.costs)))
          ∙ counted_text counted index is;
    }
