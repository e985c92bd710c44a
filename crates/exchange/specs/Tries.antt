-- What functions of this crate hand to one another: tables in which many documents were moved, and
-- halves of which a front of pairs changed places.
use Rattle.std.specs.Prelude.{◌≡◌, ◌⊎◌, ℕ, ◌+◌, ◌-◌, ◌/◌, ◌<◌, ◌≤◌, ℤ, pos, neg_ℤ, ◌^◌, ◌+ℤ◌, ◌<ℤ◌, ◌≤ℤ◌, ◌*◌, int_lt, List, ◌++◌, length, map, take, drop, slice_index, slice_index_or, zip, All, AllPairs, IsPermutation}
use Rattle.std.specs.List.{range_with_len, prefix_len}
use Rattle.rgb_base.specs.declared.parts.Side.{Side}
use Rattle.rgb_base.specs.declared.parts.Side.TheVariants.{A, B}
use Rattle.forward_index.specs.Forward.{ForwardIndex, row_at}
use Rattle.degrees.specs.Counts.{Counted, counts_in, cost_of, degrees_of}
use Rattle.exchange.specs.Gain.{gain_of, term_gain_of}
use Rattle.exchange.specs.declared.entry.Entry.{Entry}
use Rattle.exchange.specs.declared.tries.Tried.{Tried}

-- ---- the two halves of a table by a side

-- the counts in the other half
abbrev pub counts_beside : Side → Counted → List ℕ
counts_beside A table = table.b
counts_beside B table = table.a

-- the sizes of the half and of the other
abbrev pub size_in : Side → Counted → ℕ
size_in A table = table.len_a
size_in B table = table.len_b

abbrev pub size_beside : Side → Counted → ℕ
size_beside A table = table.len_b
size_beside B table = table.len_a

-- the number lies between -m and m
pub record IsWithin (m : ℕ) (z : ℤ) : Type 0 where
  pub low : neg_ℤ (pos m) ≤ℤ z
  pub high : z ≤ℤ pos m

-- the step of a term that the half has adds to the gain of a document what the term does; it fits
-- 32 bits
pub record IsStep (side : Side) (table : Counted) (term : ℕ) (step : ℤ) : Type 0 where
  pub same : 0 < slice_index (counts_in side table) term → step ≡ term_gain_of side table term
  pub small : 0 < slice_index (counts_in side table) term
      → IsWithin ((slice_index table.a term + slice_index table.b term) * 2 ^ 23) step
  pub low : neg_ℤ (pos (2 ^ 31)) ≤ℤ step
  pub high : step <ℤ pos (2 ^ 31)

-- so for each step that is there
abbrev pub AreSteps : Side → Counted → List ℤ → Type 0
AreSteps side table steps =
    (term : ℕ) → term < length steps → IsStep side table term (slice_index_or steps term (pos 0))

-- ---- tables in which many documents were moved

-- the counts with so much less, or more, for each term
abbrev pub all_less : (ℕ → ℕ) → List ℕ → List ℕ
all_less number counts =
    map (λ term. slice_index counts term - number term) (range_with_len 0 (length counts))

abbrev pub all_more : (ℕ → ℕ) → List ℕ → List ℕ
all_more number counts =
    map (λ term. slice_index counts term + number term) (range_with_len 0 (length counts))

-- so many of each term are taken in the half, and added in the other
abbrev pub all_across : Side → (ℕ → ℕ) → Counted → Counted
all_across A number table =
    record table { a = all_less number table.a; b = all_more number table.b }
all_across B number table =
    record table { a = all_more number table.a; b = all_less number table.b }

-- each term has at least so many there
abbrev pub AreCountedIn : Side → (ℕ → ℕ) → Counted → Type 0
AreCountedIn side number table =
    (term : ℕ) → term < length table.a → number term ≤ slice_index (counts_in side table) term

-- some documents left half A, and others half B
abbrev pub exchanged_by : (ℕ → ℕ) → (ℕ → ℕ) → Counted → Counted
exchanged_by leave come table = all_across B come (all_across A leave table)

-- a half after the first pairs changed places with the other half
abbrev pub half_after : ℕ → List ℕ → List ℕ → List ℕ
half_after pairs half other = take pairs other ++ drop pairs half

-- the degrees of two lists beside any sizes
abbrev pub counted : ForwardIndex → List ℕ → List ℕ → ℕ → ℕ → ℕ → Counted
counted forward a b len_a len_b loads = record {
  a = degrees_of forward a;
  b = degrees_of forward b;
  len_a = len_a;
  len_b = len_b;
  loads = loads;
}

-- the table while the first pairs of two ranked halves are exchanged
abbrev pub tried : ForwardIndex → List ℕ → List ℕ → ℕ → ℕ → Counted
tried forward a b pairs loads =
    counted forward (half_after pairs a b) (half_after pairs b a) (length a) (length b) loads

-- ---- ranked halves, each document beside its gain

-- the documents of entries
abbrev pub docs_of : List Entry → List ℕ
docs_of entries = map (λ entry. entry.doc) entries

-- the document with its gain by a table
abbrev pub entry_of : Side → Counted → List (List ℕ) → ℕ → Entry
entry_of side table rows doc = record { gain = gain_of side table (row_at rows doc); doc = doc }

-- the documents of a half after the first pairs changed places with the other half
abbrev pub docs_after : ℕ → List Entry → List Entry → List ℕ
docs_after pairs half other = half_after pairs (docs_of half) (docs_of other)

-- the gain of x is larger, or the gains are equal and x stands first
abbrev pub StandsBefore : Entry → Entry → Type 0
StandsBefore x y = (y.gain <ℤ x.gain) ⊎ ((x.gain ≡ y.gain) × (x.doc < y.doc))

-- the entry has its document's gain
abbrev pub HasGain : Side → Counted → List (List ℕ) → Entry → Type 0
HasGain side table rows entry = entry.gain ≡ gain_of side table (row_at rows entry.doc)

-- the gain is so small that two of them have a sum
abbrev pub IsLow : Entry → Type 0
IsLow entry = IsWithin (2 ^ 56) entry.gain

-- what stands for an entry behind the last one
abbrev pub no_entry : Entry
no_entry = record { gain = pos 0; doc = 0 }

-- how many pairs in front gain something
abbrev pub gaining : List Entry → List Entry → ℕ
gaining a b = prefix_len (λ pair. int_lt (pos 0) (pair.0.gain +ℤ pair.1.gain)) (zip a b)

-- ---- halves of which only a front is ranked

-- the entries in front have a positive sum with the other gain, and no other entry has
pub record IsParted (front : ℕ) (other : ℤ) (entries : List Entry) : Type 0 where
  pub within : front ≤ length entries
  pub above : All (λ entry. pos 0 <ℤ (entry.gain +ℤ other)) (take front entries)
  pub rest : All (λ entry. (entry.gain +ℤ other) ≤ℤ pos 0) (drop front entries)

-- the sum of the gains at a rank
abbrev pub sum_at : List Entry → List Entry → ℕ → ℤ
sum_at a b k = (slice_index_or a k no_entry).gain +ℤ (slice_index_or b k no_entry).gain

-- each pair of so many in front gains something, and the next one nothing
pub record ArePassed (pairs : ℕ) (a b : List Entry) : Type 0 where
  pub within_a : pairs ≤ length a
  pub within_b : pairs ≤ length b
  pub passed : (k : ℕ) → k < pairs → pos 0 <ℤ sum_at a b k
  pub next : pairs < length a → pairs < length b → sum_at a b pairs ≤ℤ pos 0

-- The entries in front are ranked, and no entry behind them has a positive sum with one of the
-- others at its rank or behind.
pub record IsFront (front : ℕ) (others entries : List Entry) : Type 0 where
  pub other : ℤ
  pub least : pos 0 ≤ℤ other
  pub parted : IsParted front other entries
  pub ranked : AllPairs StandsBefore (take front entries)
  pub high : All (λ entry. entry.gain ≤ℤ other) (drop front others)
  pub behind : All (λ entry. entry.gain ≤ℤ pos 0) (drop (length others) entries)

-- The ranked list of all entries: as far as the pairs go it differs from the entries behind a front
-- alone.
pub record IsRankedTo (pairs : ℕ) (entries ranked : List Entry) : Type 0 where
  pub order : AllPairs StandsBefore ranked
  pub front : (m : ℕ) → m ≤ pairs → take m entries ≡ take m ranked
  pub rest : (m : ℕ) → m ≤ pairs → IsPermutation (drop m entries) (drop m ranked)

-- so many pairs of two halves gain something
pub record HavePairs (pairs : ℕ) (a b : List Entry) : Type 0 where
  pub within_a : pairs ≤ length a
  pub within_b : pairs ≤ length b
  pub ranked_a : List Entry
  pub ranked_b : List Entry
  pub is_a : IsRankedTo pairs a ranked_a
  pub is_b : IsRankedTo pairs b ranked_b
  pub gaining : pairs ≡ gaining ranked_a ranked_b

-- ---- how the tries of a round end

-- what the halves cost while so many pairs are exchanged
abbrev pub cost_tried : ForwardIndex → List ℕ → List ℕ → ℕ → ℤ
cost_tried forward a b pairs = cost_of (tried forward a b pairs 0)

-- each try before this one costs as much as before, or more
abbrev pub NoneLess : ForwardIndex → List ℕ → List ℕ → ℕ → ℤ → ℕ → Type 0
NoneLess forward a b pairs before number =
    (try : ℕ) → try < number → before ≤ℤ cost_tried forward a b (pairs / 2 ^ try)

-- the first try that costs less exchanges so many pairs; where there is none, no pair is left
pub record IsFirstLess (forward : ForwardIndex) (a b : List ℕ) (pairs : ℕ) (before : ℤ)
    (last : Tried) : Type 0 where
  pub number : ℕ
  pub is_pairs : last.pairs ≡ pairs / 2 ^ number
  pub none_before : NoneLess forward a b pairs before number
  pub first : last.first ≡ cost_tried forward a b pairs
  pub after : last.after ≡ cost_tried forward a b last.pairs
  pub less : 0 < last.pairs → last.after <ℤ before
