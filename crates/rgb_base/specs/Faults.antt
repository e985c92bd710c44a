-- What is wrong with parts that are no index: the first fault in the order of the cases below.
-- The cases exclude each other and exclude an index, so each fault comes exactly where its case
-- holds.
use Rattle.std.specs.Prelude.{◌≡◌, ℕ, List, length, take, slice_get, Some, Contains}
use Rattle.rgb_base.specs.declared.parts.TermList.{TermList}
use Rattle.rgb_base.specs.declared.error.PartsError.{PartsError}
use Rattle.rgb_base.specs.declared.error.PartsError.TheVariants.{Counts, Order, Same, Size, OutOfMemory}
use Rattle.rgb_base.specs.Parts.{IndexParts, terms_of, IsPostings, AreOrdered, AreDifferent, AreCounted, AreSized}

-- list k is the first whose postings don't rise or don't lie below the number of documents
pub record IsFirstDisorder (documents : ℕ) (lists : List TermList) (k : ℕ) : Type 0 where
  pub list : TermList
  pub at : slice_get lists k ≡ Some list
  pub wrong : ¬ IsPostings documents list.postings
  pub before : AreOrdered documents (take k lists)

-- text k is the first that stands before it too
pub record IsFirstRepeat (texts : List (List ℕ)) (k : ℕ) : Type 0 where
  pub text : List ℕ
  pub at : slice_get texts k ≡ Some text
  pub wrong : Contains (take k texts) text
  pub before : AreDifferent (take k texts)

pub record HasDisorder (parts : IndexParts) (k : ℕ) : Type 0 where
  pub counted : AreCounted parts
  pub first : IsFirstDisorder (length parts.documents) parts.lists k

pub record HasRepeat (parts : IndexParts) (k : ℕ) : Type 0 where
  pub counted : AreCounted parts
  pub ordered : AreOrdered (length parts.documents) parts.lists
  pub first : IsFirstRepeat (terms_of parts.lists) k

pub record IsTooLarge (parts : IndexParts) : Type 0 where
  pub counted : AreCounted parts
  pub ordered : AreOrdered (length parts.documents) parts.lists
  pub different : AreDifferent (terms_of parts.lists)
  pub wrong : ¬ AreSized parts

-- the parts have this fault; want of memory is free
abbrev pub IsPartsFault : IndexParts → PartsError → Type 0
IsPartsFault parts Counts = ¬ AreCounted parts
IsPartsFault parts (Order list) = HasDisorder parts list
IsPartsFault parts (Same list) = HasRepeat parts list
IsPartsFault parts Size = IsTooLarge parts
IsPartsFault parts OutOfMemory = Unit {0}
