-- What follows of accepted, refused and canonical files, each the contract of a call of its own.
use Rattle.std.specs.Prelude.{◌≡◌, ◌⊎◌, ℕ, ◌<◌, ◌≤◌, List, ◌∷◌, ◌++◌, length, take}
use Rattle.ciff_wire.specs.Laws.{AreBytes}
use Rattle.rgb_base.specs.Parts.{IndexParts, IsIndex}
use Rattle.ciff_format.specs.declared.cause.Cause.{Cause}
use Rattle.ciff_format.specs.declared.cause.Cause.TheVariants.{CutShort, Trailing}
use Rattle.ciff_format.specs.Accepted.{Accepted}
use Rattle.ciff_format.specs.Refused.{Refused}
use Rattle.ciff_format.specs.Canonical.{bytes_of}

-- a file is accepted as at most one index
abbrev pub FileIsOneIndex : Type 0
FileIsOneIndex = (bytes : List ℕ) (i j : IndexParts) → Accepted bytes i → Accepted bytes j → i ≡ j

-- and what it is accepted as is an index
abbrev pub AcceptedIsIndex : Type 0
AcceptedIsIndex = (bytes : List ℕ) (index : IndexParts) → Accepted bytes index → IsIndex index

-- a file is refused at one place at most, for one cause
abbrev pub RefusalIsOne : Type 0
RefusalIsOne =
    (bytes : List ℕ) (p q : ℕ) (c d : Cause)
    → Refused bytes p c → Refused bytes q d → (p ≡ q) × (c ≡ d)

-- no file is both accepted and refused
abbrev pub NeverBoth : Type 0
NeverBoth =
    (bytes : List ℕ) (index : IndexParts) (place : ℕ) (cause : Cause)
    → Accepted bytes index → ¬ Refused bytes place cause

-- each file is accepted or refused
abbrev pub EveryFileIsRead : Type 0
EveryFileIsRead =
    (bytes : List ℕ) → AreBytes bytes
    → ((index : IndexParts) × Accepted bytes index)
    ⊎ ((place : ℕ) × (cause : Cause) × Refused bytes place cause)

-- bytes behind an accepted file make it refused at its end
abbrev pub NothingFollows : Type 0
NothingFollows =
    (bytes more : List ℕ) (b : ℕ) (index : IndexParts)
    → Accepted bytes index → Refused (bytes ++ b ∷ more) (length bytes) Trailing

-- an accepted file that is cut is refused as cut short, at a place where bytes are left or end
abbrev pub CutIsCutShort : Type 0
CutIsCutShort =
    (bytes : List ℕ) (k : ℕ) (index : IndexParts)
    → Accepted bytes index → k < length bytes
    → (place : ℕ) × (place ≤ k) × Refused (take k bytes) place CutShort

-- the canonical file of an index is accepted as that index
abbrev pub CanonicalIsAccepted : Type 0
CanonicalIsAccepted = (index : IndexParts) → IsIndex index → Accepted (bytes_of index) index

-- and as no other
abbrev pub CanonicalIsOnly : Type 0
CanonicalIsOnly =
    (index other : IndexParts) → IsIndex index → Accepted (bytes_of index) other → other ≡ index

-- different indexes have different files
abbrev pub FileTellsIndex : Type 0
FileTellsIndex =
    (i j : IndexParts) → IsIndex i → IsIndex j → bytes_of i ≡ bytes_of j → i ≡ j
