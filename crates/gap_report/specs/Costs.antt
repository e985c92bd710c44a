-- What the gaps of an index cost, all lists together.
use Rattle.std.specs.Prelude.{ℕ, List, sum_by}
use Rattle.rgb_base.specs.declared.parts.TermList.{TermList}
use Rattle.rgb_base.specs.Parts.{IndexParts, posting_count}
use Rattle.gap_report.specs.declared.costs.Costs.{Costs}
use Rattle.gap_report.specs.Codes.{coded_gaps, gamma_bits, delta_bits, varint_bytes}

-- the cost of each gap of each list, added up
abbrev pub sum_over_gaps : (ℕ → ℕ) → List TermList → ℕ
sum_over_gaps cost lists = sum_by (λ list. sum_by cost (coded_gaps list.postings)) lists

unfoldable pub costs_of : IndexParts → Costs
costs_of index = record {
  postings = posting_count index.lists;
  gamma = sum_over_gaps gamma_bits index.lists;
  delta = sum_over_gaps delta_bits index.lists;
  bytes = sum_over_gaps varint_bytes index.lists;
}
