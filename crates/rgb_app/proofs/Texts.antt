-- The texts that are printed, of their parts.
use Rattle.std.proofs.Common.{◌≡◌, ℕ, List, ◌++◌, length, codes, decimal, Result, Ok, Err, IfOk, string_bytes, ap, sym, subst, ◌∙◌}
use Rattle.rgb_base.specs.Parts.{IndexParts}
use Rattle.cell_claims.specs.declared.trace.KeptRound.{KeptRound}
use Rattle.ciff_reader.specs.Counting.{AreCostsOf}
use Rattle.ciff_reader.specs.declared.costs.IndexCosts.{IndexCosts}
use Rattle.gap_report.specs.declared.costs.Costs.{Costs}
use Rattle.gap_report.specs.Costs.{costs_of}
use Rattle.rgb_app.specs.Prepared.{text_of}
use Rattle.rgb_app.specs.declared.reordering.Reordered.{Reordered}
use Rattle.command_words.specs.declared.reordering.Reordering.{Reordering}
use Rattle.rgb_app.specs.Reordering.{IsReordered}
use Rattle.rgb_app.specs.Summary.{IsSummary}
use Rattle.rgb_app.specs.Text.{line_of, index_words, index_line, cost_words, round_lines, kept_line, cost_lines, report_text, reorder_text}

-- the lines of what was counted
pub counted_text : (counted : IndexCosts) (index : IndexParts) → AreCostsOf counted index → line_of (index_words counted.documents counted.lists counted.costs.postings) ++ line_of (cost_words counted.costs) ≡ report_text index
unfolding costs_of
counted_text counted index is =
    ap (λ n. line_of (index_words n counted.lists counted.costs.postings) ++ line_of (cost_words counted.costs)) is.documents
    ∙ ap (λ n. line_of (index_words (length index.documents) n counted.costs.postings) ++ line_of (cost_words counted.costs)) is.lists
    ∙ ap (λ (c : Costs). line_of (index_words (length index.documents) (length index.lists) c.postings) ++ line_of (cost_words c)) is.costs

-- the text between whose first and last lines the kept rounds stand
pub text_is : (index new : IndexParts) (trace : List KeptRound) (before after : Costs) (first last : List ℕ) → before ≡ costs_of index → after ≡ costs_of new
    → first ≡ index_line index → last ≡ cost_lines before after → first ++ (round_lines trace ++ last) ≡ reorder_text index new trace
text_is index new trace before after first last before_is after_is first_is last_is =
    ap (λ (w : List ℕ). w ++ (round_lines trace ++ last)) first_is
    ∙ ap (λ (w : List ℕ). index_line index ++ (round_lines trace ++ w)) (last_is ∙ ap (λ (c : Costs). cost_lines c after) before_is ∙ ap (cost_lines (costs_of index)) after_is)

pub same_ok : {T E : Type 0} (a b : T) → ◌≡◌ {A = Result T E} (Ok a) (Ok b) → a ≡ b
same_ok a b e = cc

-- the parts as they are lent
pub parts_are : (work : Reordered) (first last : List ℕ) (rounds : List KeptRound) → first ≡ string_bytes work.first → rounds ≡ work.rounds → last ≡ string_bytes work.last
    → first ++ (round_lines rounds ++ last) ≡ text_of work
parts_are work first last rounds first_is rounds_are last_is =
    ap (λ (w : List ℕ). w ++ (round_lines rounds ++ last)) first_is
    ∙ ap (λ (r : List KeptRound). string_bytes work.first ++ (round_lines r ++ last)) rounds_are
    ∙ ap (λ (w : List ℕ). string_bytes work.first ++ (round_lines work.rounds ++ w)) last_is

-- ---- what a reordering in memory comes to

pub if_ok_map : {X Y : Type 0} (r : Result X Y) (P Q : X → Type 0) → ((x : X) → P x → Q x) → IfOk r P → IfOk r Q
if_ok_map (Ok x) P Q step p = step x p
if_ok_map (Err e) P Q step p = tt

pub summary_is : (options : Reordering) (index new : IndexParts) (trace : List KeptRound) (kept : ℕ) (before after : Costs) (text : List ℕ) → IsReordered options index new trace → kept ≡ length trace
    → before ≡ costs_of index → after ≡ costs_of new → text ≡ index_line index ++ (line_of (codes "kept " ++ decimal kept) ++ cost_lines before after) → IsSummary options index text
summary_is options index new trace kept before after text is kept_is before_is after_is text_is = record {
  new = new;
  trace = trace;
  is_reordered = is;
  is_text = text_is ∙ ap (λ (k : ℕ). index_line index ++ (line_of (codes "kept " ++ decimal k) ++ cost_lines before after)) kept_is
      ∙ ap (λ (c : Costs). index_line index ++ (kept_line trace ++ cost_lines c after)) before_is
      ∙ ap (λ (c : Costs). index_line index ++ (kept_line trace ++ cost_lines (costs_of index) c)) after_is;
}

-- what is told of the new index and of its rounds
pub described_is : {E : Type 0} (options : Reordering) (index new : IndexParts) (rounds : List KeptRound) (r : Result Reordered E) → IfOk r (λ work. work.new ≡ new) → IfOk r (λ work. work.rounds ≡ rounds)
    → IsReordered options index new rounds → IfOk r (λ work. IsReordered options index work.new work.rounds)
described_is options index new rounds (Ok work) p q is =
    subst (λ (n : IndexParts). IsReordered options index n work.rounds) (sym p) (subst (λ (t : List KeptRound). IsReordered options index new t) (sym q) is)
described_is options index new rounds (Err e) p q is = tt

pub described_text : {E : Type 0} (index new : IndexParts) (rounds : List KeptRound) (r : Result Reordered E) → IfOk r (λ work. work.new ≡ new) → IfOk r (λ work. work.rounds ≡ rounds)
    → IfOk r (λ work. text_of work ≡ reorder_text index new rounds) → IfOk r (λ work. text_of work ≡ reorder_text index work.new work.rounds)
described_text index new rounds (Ok work) p q is = is ∙ ap (λ (n : IndexParts). reorder_text index n rounds) (sym p) ∙ ap (λ (t : List KeptRound). reorder_text index work.new t) (sym q)
described_text index new rounds (Err e) p q is = tt
