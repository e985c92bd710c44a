-- Tallies of gaps and of lists, put together.
use Rattle.std.proofs.Common.{◌≡◌, ℕ, ◌+◌, ◌-◌, ◌^◌, ◌<◌, ◌≤◌, List, [], ◌∷◌, ◌++◌, length, get_or, Some, option_map, refl, ◌∙◌, ap, subst, All, arith}
use Rattle.std.specs.Prelude.{pos, sum_by, slice_get, slice_range}
use Rattle.std.specs.List.Sorted.{IsStrictlyIncreasing}
use Rattle.std.proofs.Math.ListN.{get_or-map}
use Rattle.std.proofs.lemmas.List.{length-map, take_all}
use Rattle.std.proofs.lemmas.List.Sums.{sum_by-append, sum_by-cons}
use Rattle.std.proofs.lemmas.Option.{slice_get-get_or}
use Rattle.rgb_base.specs.declared.parts.Posting.{Posting}
use Rattle.rgb_base.specs.declared.parts.TermList.{TermList}
use Rattle.rgb_base.specs.Parts.{IndexParts, IsIndex, IsPostings, posting_count}
use Rattle.gap_report.specs.declared.tally.Tally.{Tally}
use Rattle.gap_report.specs.declared.costs.Costs.{Costs}
use Rattle.gap_report.specs.Codes.{docs_of, coded_gaps, gamma_bits, delta_bits, varint_bytes}
use Rattle.gap_report.specs.Costs.{sum_over_gaps, costs_of}
use Rattle.gap_report.specs.Tally.{gamma_of, delta_of, bytes_of, Adds, IsTallyOf, IsSumOf}
use Rattle.gap_report.proofs.Gaps.{no_posting, gaps_of_docs, length-gaps_after}
use Rattle.gap_report.proofs.Sums.{sum_by-range_more, sum_by-range_both, sum_by-range_le}

-- the sums so far, with those over the gaps that are left, are the first sums with those over all gaps
pub record IsOnTheWay (first now : Tally) (all left : List ℕ) : Type 0 where
  pub postings : now.postings + length left ≡ first.postings + length all
  pub gamma : gamma_of now + sum_by gamma_bits left ≡ gamma_of first + sum_by gamma_bits all
  pub delta : delta_of now + sum_by delta_bits left ≡ delta_of first + sum_by delta_bits all
  pub bytes : bytes_of now + sum_by varint_bytes left ≡ bytes_of first + sum_by varint_bytes all

pub IsOnTheWay-start : (first : Tally) (all : List ℕ) → IsOnTheWay first first all all
IsOnTheWay-start first all = record { postings = refl; gamma = refl; delta = refl; bytes = refl }

-- one cost, when the first gap that is left is added
cost_more : (f : ℕ → ℕ) (start now next gap : ℕ) (all left : List ℕ) → now + sum_by f (gap ∷ left) ≡ start + sum_by f all → next ≡ now + sum_by f (gap ∷ []) → next + sum_by f left ≡ start + sum_by f all
cost_more f start now next gap all left before added = omega (arith, before, added, sum_by-cons f gap left)

pub IsOnTheWay-more : (first now next : Tally) (all left : List ℕ) (gap : ℕ) → IsOnTheWay first now all (gap ∷ left) → Adds now next (gap ∷ []) → IsOnTheWay first next all left
IsOnTheWay-more first now next all left gap before added = record {
  postings = omega (arith, before.postings, added.postings);
  gamma = cost_more gamma_bits (gamma_of first) (gamma_of now) (gamma_of next) gap all left before.gamma added.gamma;
  delta = cost_more delta_bits (delta_of first) (delta_of now) (delta_of next) gap all left before.delta added.delta;
  bytes = cost_more varint_bytes (bytes_of first) (bytes_of now) (bytes_of next) gap all left before.bytes added.bytes;
}

pub Adds-all : (first now : Tally) (all : List ℕ) → IsOnTheWay first now all [] → Adds first now all
Adds-all first now all way = record {
  postings = omega (arith, way.postings);
  gamma = omega (arith, way.gamma);
  delta = omega (arith, way.delta);
  bytes = omega (arith, way.bytes);
}

-- ---- lists

abbrev pub no_list : TermList
no_list = record { term = []; df = pos 0; cf = pos 0; postings = [] }

pub postings_read : (lists : List TermList) (i : ℕ) (postings : List Posting) → i < length lists → option_map (λ (list : TermList). list.postings) (slice_get lists i) ≡ Some postings → (get_or lists i no_list).postings ≡ postings
postings_read lists i postings within read = let found = slice_get-get_or lists i no_list within in cc

pub IsTallyOf-more : (lists : List TermList) (from to : ℕ) (postings : List Posting) (now next : Tally) → from ≤ to → to < length lists → (get_or lists to no_list).postings ≡ postings → IsTallyOf now (slice_range lists from to) → Adds now next (coded_gaps postings) → IsTallyOf next (slice_range lists from (to + 1))
IsTallyOf-more lists from to postings now next order within read before added =
    let cost : (f : ℕ → ℕ) → sum_over_gaps f (slice_range lists from (to + 1)) ≡ sum_over_gaps f (slice_range lists from to) + sum_by f (coded_gaps postings) =
    λ f. sum_by-range_more (λ (list : TermList). sum_by f (coded_gaps list.postings)) lists from to no_list order within
    ∙ ap (λ (ps : List Posting). sum_over_gaps f (slice_range lists from to) + sum_by f (coded_gaps ps)) read in
    let count = sum_by-range_more (λ (list : TermList). length list.postings) lists from to no_list order within in
    let gaps : length (coded_gaps postings) ≡ length postings = ap length (gaps_of_docs postings) ∙ length-gaps_after 0 postings in
    record {
      postings = omega (arith, before.postings, added.postings, count, gaps, ap length read);
      gamma = omega (arith, before.gamma, added.gamma, cost gamma_bits);
      delta = omega (arith, before.delta, added.delta, cost delta_bits);
      bytes = omega (arith, before.bytes, added.bytes, cost varint_bytes);
    }

pub IsTallyOf-push : (lists : List TermList) (list : TermList) (postings : List Posting) (now next : Tally) → list.postings ≡ postings → IsTallyOf now lists → Adds now next (coded_gaps postings) → IsTallyOf next (lists ++ list ∷ [])
IsTallyOf-push lists list postings now next read before added =
    let cost : (f : ℕ → ℕ) → sum_over_gaps f (lists ++ list ∷ []) ≡ sum_over_gaps f lists + sum_by f (coded_gaps postings) =
    λ f. omega (
      arith,
      sum_by-append (λ (l : TermList). sum_by f (coded_gaps l.postings)) lists (list ∷ []),
      sum_by-cons (λ (l : TermList). sum_by f (coded_gaps l.postings)) list [],
      ap (λ (ps : List Posting). sum_by f (coded_gaps ps)) read,
    ) in
    let count = sum_by-append (λ (l : TermList). length l.postings) lists (list ∷ []) in
    let gaps : length (coded_gaps postings) ≡ length postings = ap length (gaps_of_docs postings) ∙ length-gaps_after 0 postings in
    record {
      postings = omega (arith, before.postings, added.postings, count, gaps, ap length read);
      gamma = omega (arith, before.gamma, added.gamma, cost gamma_bits);
      delta = omega (arith, before.delta, added.delta, cost delta_bits);
      bytes = omega (arith, before.bytes, added.bytes, cost varint_bytes);
    }

pub IsTallyOf-both : (lists : List TermList) (from middle to : ℕ) (whole a b : Tally) → from ≤ middle → middle ≤ to → IsSumOf whole a b → IsTallyOf a (slice_range lists from middle) → IsTallyOf b (slice_range lists middle to) → IsTallyOf whole (slice_range lists from to)
IsTallyOf-both lists from middle to whole a b low high sum front back =
    let cost : (f : ℕ → ℕ) → sum_over_gaps f (slice_range lists from to) ≡ sum_over_gaps f (slice_range lists from middle) + sum_over_gaps f (slice_range lists middle to) =
    λ f. sum_by-range_both (λ (list : TermList). sum_by f (coded_gaps list.postings)) lists from middle to low high in
    record {
      postings = omega (arith, sum.postings, front.postings, back.postings, sum_by-range_both (λ (list : TermList). length list.postings) lists from middle to low high);
      gamma = omega (arith, sum.gamma, front.gamma, back.gamma, cost gamma_bits);
      delta = omega (arith, sum.delta, front.delta, back.delta, cost delta_bits);
      bytes = omega (arith, sum.bytes, front.bytes, back.bytes, cost varint_bytes);
    }

-- ---- what an index keeps

pub IsPostings-at : (index : IndexParts) (i : ℕ) (postings : List Posting) → IsIndex index → i < length index.lists → (get_or index.lists i no_list).postings ≡ postings → IsPostings (length index.documents) postings
IsPostings-at index i postings sound within read = subst (IsPostings (length index.documents)) read (sound.ordered i no_list within)

pub below_limit : (documents : ℕ) (postings : List Posting) → documents < 2 ^ 31 → IsPostings documents postings → All (λ posting. posting.doc < 2 ^ 31) postings
below_limit documents postings few is = λ k d within. omega (arith, is.below k d within)

-- the postings of the lists from one on and before another, with those of the next, are not too many
pub next_has_room : (index : IndexParts) (from to : ℕ) (postings : List Posting) → IsIndex index → from ≤ to → to < length index.lists → (get_or index.lists to no_list).postings ≡ postings → posting_count (slice_range index.lists from to) + length postings < 2 ^ 32
next_has_room index from to postings sound order within read =
    omega (
      arith,
      sum_by-range_more (λ (list : TermList). length list.postings) index.lists from to no_list order within,
      sum_by-range_le (λ (list : TermList). length list.postings) index.lists from (to + 1) (omega arith),
      sound.sized.postings,
      ap length read,
    )

pub both_have_room : (index : IndexParts) (from middle to : ℕ) → IsIndex index → from ≤ middle → middle ≤ to → posting_count (slice_range index.lists from middle) + posting_count (slice_range index.lists middle to) < 2 ^ 32
both_have_room index from middle to sound low high =
    omega (
      arith,
      sum_by-range_both (λ (list : TermList). length list.postings) index.lists from middle to low high,
      sum_by-range_le (λ (list : TermList). length list.postings) index.lists from to (omega arith),
      sound.sized.postings,
    )

abbrev pub costs_made : ℕ → ℕ → ℕ → ℕ → Costs
costs_made postings gamma delta bytes = record { postings = postings; gamma = gamma; delta = delta; bytes = bytes }

pub costs_from_tally : (index : IndexParts) (tally : Tally) (postings gamma delta bytes : ℕ) → IsTallyOf tally index.lists → postings ≡ tally.postings → gamma ≡ gamma_of tally → delta ≡ delta_of tally → bytes ≡ bytes_of tally
    → costs_made postings gamma delta bytes ≡ costs_of index
unfolding costs_of
costs_from_tally index tally postings gamma delta bytes all p g d b =
    ap (λ n. costs_made n gamma delta bytes) (p ∙ all.postings)
    ∙ (ap (λ n. costs_made (posting_count index.lists) n delta bytes) (g ∙ all.gamma)
    ∙ (ap (λ n. costs_made (posting_count index.lists) (sum_over_gaps gamma_bits index.lists) n bytes) (d ∙ all.delta)
    ∙ ap (λ n. costs_made (posting_count index.lists) (sum_over_gaps gamma_bits index.lists) (sum_over_gaps delta_bits index.lists) n) (b ∙ all.bytes)))

-- the lists from the first to the last are all of them
pub tally_of_all : (lists : List TermList) (tally : Tally) → IsTallyOf tally (slice_range lists 0 (length lists)) → IsTallyOf tally lists
tally_of_all lists tally is =
    let whole : slice_range lists 0 (length lists) ≡ lists = take_all (length lists - 0) lists (omega arith) in
    subst (IsTallyOf tally) whole is

-- a posting that rises comes behind the one before it
pub next_rises : (postings : List Posting) (i : ℕ) → IsStrictlyIncreasing (docs_of postings) → i + 1 < length postings → (get_or postings i no_posting).doc + 1 ≤ (get_or postings (i + 1) no_posting).doc
next_rises postings i rising within =
    let here = get_or-map (λ (posting : Posting). posting.doc) postings i no_posting in
    let next = get_or-map (λ (posting : Posting). posting.doc) postings (i + 1) no_posting in
    omega (arith, rising i (omega (arith, length-map postings (λ (posting : Posting). posting.doc))), here, next)
