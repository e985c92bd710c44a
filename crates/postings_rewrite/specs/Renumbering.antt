-- An index whose documents have other numbers. An order lists the old number at each new one.
use Rattle.std.specs.Prelude.{◌≡◌, ℕ, ◌<◌, List, length, map, slice_get, slice_index}
use Rattle.std.specs.List.{AllZip}
use Rattle.std.specs.List.Sorted.{IsPermutation, IsStrictlyIncreasing}
use Rattle.rgb_base.specs.declared.parts.Posting.{Posting}
use Rattle.rgb_base.specs.declared.parts.TermList.{TermList}
use Rattle.rgb_base.specs.declared.parts.DocRecord.{DocRecord}
use Rattle.rgb_base.specs.Parts.{IndexParts}
use Rattle.rgb_base.specs.Order.{new_of}

-- the posting with the new number of its document
abbrev pub moved : List ℕ → Posting → Posting
moved order posting = record posting { doc = new_of order posting.doc }

-- the new postings are the old ones with their new numbers, in strictly rising order
pub record ArePostingsRenumbered (order : List ℕ) (old new : List Posting) : Type 0 where
  pub pairs : IsPermutation (map (moved order) old) new
  pub rising : IsStrictlyIncreasing (map (λ posting. posting.doc) new)

-- term, df and cf stay
pub record IsListRenumbered (order : List ℕ) (old new : TermList) : Type 0 where
  pub term : new.term ≡ old.term
  pub df : new.df ≡ old.df
  pub cf : new.cf ≡ old.cf
  pub postings : ArePostingsRenumbered order old.postings new.postings

-- at each new number stands the record of the old one
pub record AreRecordsRenumbered (order : List ℕ) (old new : List DocRecord) : Type 0 where
  pub len : length new ≡ length old
  pub each : (number : ℕ) → number < length order
      → slice_get new number ≡ slice_get old (slice_index order number)

-- header and order of the lists stay
pub record IsRenumbered (old : IndexParts) (order : List ℕ) (new : IndexParts) : Type 0 where
  pub header : new.header ≡ old.header
  pub lists : AllZip (IsListRenumbered order) old.lists new.lists
  pub records : AreRecordsRenumbered order old.documents new.documents
