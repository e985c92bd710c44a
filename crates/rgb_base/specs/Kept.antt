-- What the tables of an index and of a builder keep.
use Rattle.std.specs.Prelude.{◌≡◌, ℕ, ◌+◌, ◌<◌, List, [], length, map, All, Contains}
use Rattle.rgb_base.specs.declared.parts.Posting.{Posting}
use Rattle.rgb_base.specs.declared.columns.Counts.{Counts}
use Rattle.rgb_base.specs.declared.index.Index.TheInside as index
use Rattle.rgb_base.specs.declared.builder.IndexBuilder.TheInside as builder
use Rattle.rgb_base.specs.Parts.{IndexParts, IsIndex}
use Rattle.rgb_base.specs.Building.{Building, IsBuilding}
use Rattle.rgb_base.specs.Flat.{lists_of, records_of}
use Rattle.rgb_base.specs.Marks.{mark_of}

-- the columns of lists are of one length
pub record AreListColumns
    (terms : List (List ℕ)) (counts : List Counts) (parts : List (List Posting)) : Type 0 where
  pub terms_len : length terms ≡ length counts
  pub parts_len : length parts ≡ length counts

-- the parts that the tables of an index hold
abbrev pub parts_in : index.Inside → IndexParts
parts_in tables = record {
  header = tables.header;
  lists = lists_of tables.terms tables.counts.items tables.postings.closed;
  documents = records_of tables.names tables.sizes.items;
}

pub record IsFlatIndex (tables : index.Inside) : Type 0 where
  pub index : IsIndex (parts_in tables)
  pub lists : AreListColumns tables.terms tables.counts.items tables.postings.closed
  pub records : length tables.names ≡ length tables.sizes.items
  pub none_pending : tables.postings.pending ≡ []

-- the pieces that the tables of a builder hold
abbrev pub building_in : builder.Inside → Building
building_in tables = record {
  header = tables.header;
  documents = tables.documents;
  lists = lists_of tables.terms tables.counts.items tables.postings.closed;
  postings = tables.postings.pending;
  records = records_of tables.names tables.sizes.items;
}

-- the next document of the open list is to be at least this: one above its last one, or 0
pub record IsLeast (least : ℕ) (postings : List Posting) : Type 0 where
  pub above : All (λ posting. posting.doc < least) postings
  pub reached : 0 < least → Contains (map (λ posting. posting.doc + 1) postings) least

pub record IsFlatBuilding (tables : builder.Inside) : Type 0 where
  pub building : IsBuilding (building_in tables)
  pub lists : AreListColumns tables.terms tables.counts.items tables.postings.closed
  pub records : length tables.names ≡ length tables.sizes.items
  pub least : IsLeast tables.least tables.postings.pending
  pub marked : All (λ term. Contains tables.marks.keys (mark_of term)) tables.terms
