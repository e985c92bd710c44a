-- What holds of orders of documents, of the table of postings and of what is wrong with parts.
use Rattle.std.specs.Prelude.{◌≡◌, ◌≢◌, ℕ, ◌<◌, List, length, take, drop, slice_get, slice_index, Some}
use Rattle.rgb_base.specs.declared.parts.Posting.{Posting}
use Rattle.rgb_base.specs.declared.parts.TermList.{TermList}
use Rattle.rgb_base.specs.declared.error.PartsError.{PartsError}
use Rattle.rgb_base.specs.declared.error.PartsError.TheVariants.{OutOfMemory as no_memory}
use Rattle.rgb_base.specs.declared.error.OrderError.{OrderError}
use Rattle.rgb_base.specs.declared.error.OrderError.TheVariants.{OutOfMemory as no_memory_for_an_order}
use Rattle.rgb_base.specs.Parts.{IndexParts, IsIndex, posting_count}
use Rattle.rgb_base.specs.Faults.{IsPartsFault}
use Rattle.rgb_base.specs.Order.{IsOrder, IsInverse, IsOrderFault, Renumbers, new_of}
use Rattle.rgb_base.specs.Table.{all_postings, cut_anew}

-- ---- orders, in terms of the new numbers alone

-- two orders of one length that give each number the same new number are one
abbrev pub NewNumbersTellTheOrder : Type 0
NewNumbersTellTheOrder =
    (a b : List ℕ) → IsOrder a → IsOrder b → length b ≡ length a
    → ((old : ℕ) → old < length a → new_of b old ≡ new_of a old) → b ≡ a

-- undoing what undoes an order gives that order
abbrev pub InverseOfInverse : Type 0
InverseOfInverse = (a b c : List ℕ) → IsInverse a b → IsInverse b c → c ≡ a

-- an order undoes what undoes it
abbrev pub InverseBothWays : Type 0
InverseBothWays = (a b : List ℕ) → IsInverse a b → IsInverse b a

-- an order after the one that leaves each number is that order
abbrev pub AfterIdentity : Type 0
AfterIdentity =
    (a same both : List ℕ) → IsOrder a → IsOrder same → IsOrder both
    → Renumbers same (length a) (λ old. old)
    → Renumbers both (length a) (λ old. new_of a (new_of same old)) → both ≡ a

-- the one that leaves each number after an order is that order
abbrev pub IdentityAfter : Type 0
IdentityAfter =
    (a same both : List ℕ) → IsOrder a → IsOrder same → IsOrder both
    → Renumbers same (length a) (λ old. old)
    → Renumbers both (length a) (λ old. new_of same (new_of a old)) → both ≡ a

-- each number stands at its new number, and the new number of an entry is its place
abbrev pub NumbersUndoTheOrder : Type 0
NumbersUndoTheOrder =
    (order : List ℕ) → IsOrder order
    → ((old : ℕ) → old < length order
    → (new_of order old < length order) × (slice_index order (new_of order old) ≡ old))
    × ((new : ℕ) → new < length order
    → (slice_index order new < length order) × (new_of order (slice_index order new) ≡ new))

-- ---- the table of postings

-- a list's postings stand in the table behind those of the lists before it
abbrev pub PartsOfTheTable : Type 0
PartsOfTheTable =
    (lists : List TermList) (k : ℕ) (list : TermList) → slice_get lists k ≡ Some list
    → list.postings
    ≡ take (length list.postings) (drop (posting_count (take k lists)) (all_postings lists))

-- and so do those of a list that is cut anew from a table
abbrev pub ListsOfTheCut : Type 0
ListsOfTheCut =
    (lists : List TermList) (table : List Posting) (k : ℕ) (list : TermList)
    → slice_get lists k ≡ Some list
    → slice_get (cut_anew lists table) k
    ≡ Some (record list {
      postings = take (length list.postings) (drop (posting_count (take k lists)) table);
    })

-- cut anew from their own table, lists are as they were
abbrev pub CutOfTheTable : Type 0
CutOfTheTable = (lists : List TermList) → cut_anew lists (all_postings lists) ≡ lists

-- ---- what is wrong

-- parts have at most one fault that isn't want of memory
abbrev pub PartsFaultsExclude : Type 0
PartsFaultsExclude =
    (parts : IndexParts) (a b : PartsError) → a ≢ no_memory → b ≢ no_memory
    → IsPartsFault parts a → IsPartsFault parts b → a ≡ b

-- and an index has none
abbrev pub IndexHasNoFault : Type 0
IndexHasNoFault =
    (parts : IndexParts) (a : PartsError) → a ≢ no_memory → IsIndex parts → ¬ IsPartsFault parts a

-- entries have at most one fault that isn't want of memory
abbrev pub OrderFaultsExclude : Type 0
OrderFaultsExclude =
    (order : List ℕ) (a b : OrderError) → a ≢ no_memory_for_an_order → b ≢ no_memory_for_an_order
    → IsOrderFault order a → IsOrderFault order b → a ≡ b

-- and an order has none
abbrev pub OrderHasNoFault : Type 0
OrderHasNoFault =
    (order : List ℕ) (a : OrderError) → a ≢ no_memory_for_an_order
    → IsOrder order → ¬ IsOrderFault order a
