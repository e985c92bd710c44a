-- Sums over gaps, as functions of this crate hand them to one another.
use Rattle.std.specs.Prelude.{◌≡◌, ℕ, ◌+◌, ◌*◌, List, length, sum_by}
use Rattle.rgb_base.specs.declared.parts.TermList.{TermList}
use Rattle.rgb_base.specs.Parts.{posting_count}
use Rattle.gap_report.specs.declared.tally.Tally.{Tally}
use Rattle.gap_report.specs.Codes.{gamma_bits, delta_bits, varint_bytes}
use Rattle.gap_report.specs.Costs.{sum_over_gaps}

-- ---- what the gaps seen cost

abbrev pub gamma_of : Tally → ℕ
gamma_of tally = 2 * tally.exponents + tally.postings

abbrev pub delta_of : Tally → ℕ
delta_of tally = tally.exponents + 2 * tally.lengths + tally.postings

abbrev pub bytes_of : Tally → ℕ
bytes_of tally = tally.groups + tally.postings

-- ---- how sums go together

-- the new sums are the old ones with those over the gaps
pub record Adds (old new : Tally) (gaps : List ℕ) : Type 0 where
  pub postings : new.postings ≡ old.postings + length gaps
  pub gamma : gamma_of new ≡ gamma_of old + sum_by gamma_bits gaps
  pub delta : delta_of new ≡ delta_of old + sum_by delta_bits gaps
  pub bytes : bytes_of new ≡ bytes_of old + sum_by varint_bytes gaps

-- the sums are those over the gaps of the lists
pub record IsTallyOf (tally : Tally) (lists : List TermList) : Type 0 where
  pub postings : tally.postings ≡ posting_count lists
  pub gamma : gamma_of tally ≡ sum_over_gaps gamma_bits lists
  pub delta : delta_of tally ≡ sum_over_gaps delta_bits lists
  pub bytes : bytes_of tally ≡ sum_over_gaps varint_bytes lists

pub record IsSumOf (tally a b : Tally) : Type 0 where
  pub postings : tally.postings ≡ a.postings + b.postings
  pub gamma : gamma_of tally ≡ gamma_of a + gamma_of b
  pub delta : delta_of tally ≡ delta_of a + delta_of b
  pub bytes : bytes_of tally ≡ bytes_of a + bytes_of b
