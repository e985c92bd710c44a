-- What is counted of a file whose postings aren't kept.
use Rattle.std.specs.Prelude.{◌≡◌, ℕ, List, length}
use Rattle.rgb_base.specs.Parts.{IndexParts, terms_of}
use Rattle.rgb_base.specs.Building.{Building}
use Rattle.rgb_host.specs.Seen.{Seen}
use Rattle.ciff_format.specs.Accepted.{Accepted}
use Rattle.gap_report.specs.Costs.{costs_of}
use Rattle.gap_report.specs.declared.tally.Tally.{Tally}
use Rattle.gap_report.specs.Tally.{IsTallyOf}
use Rattle.ciff_reader.specs.declared.costs.IndexCosts.{IndexCosts}
use Rattle.ciff_reader.specs.Awaited.{with_lists}
use Rattle.ciff_reader.specs.Listing.{listing, AddsList}
use Rattle.ciff_reader.specs.Steps.{AtGood}
use Rattle.ciff_reader.specs.Window.{Held}

-- these are the numbers of documents and lists of the index, and what its gaps cost
pub record AreCostsOf (counted : IndexCosts) (index : IndexParts) : Type 0 where
  pub documents : counted.documents ≡ length index.documents
  pub lists : counted.lists ≡ length index.lists
  pub costs : counted.costs ≡ costs_of index

-- those of the index as which the file is accepted
pub record CountsFile (file : List ℕ) (counted : IndexCosts) : Type 0 where
  pub index : IndexParts
  pub accepted : Accepted file index
  pub costs : AreCostsOf counted index

-- ---- list by list

-- what the messages say stands in the builder but for the postings of its lists, and the sums are
-- those over their gaps
pub record IsCounted (full kept : Building) (tally : Tally) : Type 0 where
  pub same : kept ≡ with_lists kept.lists full
  pub terms : terms_of full.lists ≡ terms_of kept.lists
  pub sums : IsTallyOf tally full.lists

-- the window is at the file, behind good messages that say this, in a file of so many lists
pub record AtCounted (host : Seen) (name : List ℕ) (window : Held) (lists : ℕ) (kept : Building)
    (tally : Tally) (file : List ℕ) : Type 0 where
  pub full : Building
  pub counted : IsCounted full kept tally
  pub at : AtGood host name window (listing lists full) file

-- the list of a good message is counted too
pub record AddsCounted (message : List ℕ) (full kept : Building) (tally : Tally) : Type 0 where
  pub after : Building
  pub adds : AddsList message full after
  pub counted : IsCounted after kept tally
