-- What follows of spellings and messages, each the contract of a call of its own.
use Rattle.std.specs.Prelude.{◌≡◌, ◌⊎◌, ℕ, ◌+◌, ◌%◌, ◌^◌, ◌<◌, ◌≤◌, List, [], ◌∷◌, ◌++◌, length, take, drop, All}
use Rattle.std.specs.List.{AllByRecursion}
use Rattle.ciff_wire.specs.declared.varint.Varint.{Varint}
use Rattle.ciff_wire.specs.declared.varint.Varint.TheVariants.{Done}
use Rattle.ciff_wire.specs.declared.field.FieldFault.{FieldFault}
use Rattle.ciff_wire.specs.Varint.{sum_of, IsSpelling, IsCanonicalVarint, IsRead, varint}
use Rattle.ciff_wire.specs.Field.{Held, Entry, as_number, as_eight, as_bytes, as_four, IsNumber, SpellsField, IsMessage, IsFault}
use Rattle.ciff_wire.specs.Canonical.{spelling_of, message_of}

-- a number of 64 bits has a shortest spelling, and it is this one
abbrev pub VarintIsShortest : Type 0
VarintIsShortest =
    (v : ℕ) → v < 2 ^ 64
    → IsSpelling (varint v) × (sum_of (varint v) ≡ v)
    × ((other : List ℕ) → IsSpelling other → sum_of other ≡ v → length (varint v) ≤ length other)

-- and no other spelling of it is so short
abbrev pub ShortestIsOne : Type 0
ShortestIsOne =
    (v : ℕ) (other : List ℕ) → v < 2 ^ 64 → IsSpelling other → sum_of other ≡ v
    → length other ≤ length (varint v) → other ≡ varint v

-- so it is the canonical spelling
abbrev pub VarintIsCanonical : Type 0
VarintIsCanonical = (v : ℕ) → v < 2 ^ 64 → IsCanonicalVarint v (varint v)

-- and a number of 64 bits has only this one
abbrev pub CanonicalVarintIsOne : Type 0
CanonicalVarintIsOne =
    (v : ℕ) (bytes : List ℕ) → v < 2 ^ 64 → IsCanonicalVarint v bytes → bytes ≡ varint v

-- no spelling is the front of another
abbrev pub NoneIsFront : Type 0
NoneIsFront =
    (a b x y : List ℕ) → IsSpelling a → IsSpelling b → a ++ x ≡ b ++ y → (a ≡ b) × (x ≡ y)

-- a spelling is read again, whatever follows it
abbrev pub SpellingIsReadAgain : Type 0
SpellingIsReadAgain =
    (text rest : List ℕ) (read : Varint) → IsSpelling text → IsRead (text ++ rest) read
    → read ≡ Done (sum_of text % 2 ^ 64) (length text)

-- bytes are read in one way
abbrev pub ReadIsOne : Type 0
ReadIsOne =
    (bytes : List ℕ) (one other : Varint) → IsRead bytes one → IsRead bytes other → one ≡ other

-- what a field can hold
abbrev pub FitsHeld : Held → Type 0
FitsHeld (as_number v) = v < 2 ^ 64
FitsHeld (as_eight v) = v < 2 ^ 64
FitsHeld (as_bytes bs) = length bs < 2 ^ 64
FitsHeld (as_four v) = v < 2 ^ 32

abbrev pub FitsEntry : Entry → Type 0
FitsEntry entry = IsNumber entry.number × FitsHeld entry.held

-- the canonical spelling of a field is one of its spellings
abbrev pub CanonicalSpells : Type 0
CanonicalSpells = (entry : Entry) → FitsEntry entry → SpellsField (spelling_of entry) entry

-- the canonical message of fields is a message of them
abbrev pub CanonicalIsMessage : Type 0
CanonicalIsMessage =
    (entries : List Entry) → AllByRecursion FitsEntry entries
    → IsMessage (message_of entries) entries

-- a message has at most one list of fields
abbrev pub OneMessage : Type 0
OneMessage =
    (message : List ℕ) (a b : List Entry) → IsMessage message a → IsMessage message b → a ≡ b

-- a field taken off the front is the first of them, and the others are what is left
abbrev pub FirstIsTaken : Type 0
FirstIsTaken =
    (message : List ℕ) (entries : List Entry) (entry : Entry) (used : ℕ)
    → used ≤ length message → SpellsField (take used message) entry → IsMessage message entries
    → (others : List Entry) × (entries ≡ entry ∷ others) × IsMessage (drop used message) others

-- a field stands before the fields of what follows it
abbrev pub FirstIsPut : Type 0
FirstIsPut =
    (message : List ℕ) (others : List Entry) (entry : Entry) (used : ℕ)
    → used ≤ length message → SpellsField (take used message) entry
    → IsMessage (drop used message) others → IsMessage message (entry ∷ others)

-- bytes with a fault at the front are no message
abbrev pub FaultIsNoMessage : Type 0
FaultIsNoMessage =
    (message : List ℕ) (fault : FieldFault) (entries : List Entry)
    → IsFault message fault → ¬ IsMessage message entries

-- a spelling of a field is taken off the front again, whatever follows it
abbrev pub FieldIsTakenAgain : Type 0
FieldIsTakenAgain =
    (text rest : List ℕ) (entry other : Entry) (used : ℕ)
    → SpellsField text entry → used ≤ length (text ++ rest)
    → SpellsField (take used (text ++ rest)) other → (other ≡ entry) × (used ≡ length text)

-- and is at no fault
abbrev pub FieldIsNoFault : Type 0
FieldIsNoFault =
    (text rest : List ℕ) (entry : Entry) (fault : FieldFault)
    → SpellsField text entry → ¬ IsFault (text ++ rest) fault

-- at most one fault stands at the front of a message
abbrev pub OneFault : Type 0
OneFault = (message : List ℕ) (a b : FieldFault) → IsFault message a → IsFault message b → a ≡ b

-- ---- whatever bytes there are

abbrev pub AreBytes : List ℕ → Type 0
AreBytes bytes = All (λ b. b < 256) bytes

-- bytes have a reading as a varint
abbrev pub ReadAlways : Type 0
ReadAlways = (bytes : List ℕ) → AreBytes bytes → (read : Varint) × IsRead bytes read

-- what stands at the front of a message: nothing, a field or a fault
pub data AtFront (message : List ℕ) : Type 0 where
  nothing : message ≡ [] → AtFront message
  a_field : (entry : Entry) (used : ℕ) → used ≤ length message
      → SpellsField (take used message) entry → AtFront message
  a_fault : (fault : FieldFault) → IsFault message fault → AtFront message

abbrev pub FrontAlways : Type 0
FrontAlways = (message : List ℕ) → AreBytes message → AtFront message

-- good fields stand at the front of the message, and then a fault
pub record IsFaulty (message : List ℕ) : Type 0 where
  pub used : ℕ
  pub fields : List Entry
  pub fault : FieldFault
  pub within : used ≤ length message
  pub front : IsMessage (take used message) fields
  pub stands : IsFault (drop used message) fault

-- each list of bytes is a message of fields, or good fields and then a fault
abbrev pub MessageOrFault : Type 0
MessageOrFault =
    (message : List ℕ) → AreBytes message
    → ((fields : List Entry) × IsMessage message fields) ⊎ IsFaulty message

-- and never both
abbrev pub FaultyIsNoMessage : Type 0
FaultyIsNoMessage =
    (message : List ℕ) (fields : List Entry) → IsFaulty message → ¬ IsMessage message fields

-- ---- field after field

-- a field behind the fields of a front
abbrev pub FieldIsAdded : Type 0
FieldIsAdded =
    (message : List ℕ) (fields : List Entry) (entry : Entry) (at used : ℕ)
    → IsMessage (take at message) fields → SpellsField (take used (drop at message)) entry
    → IsMessage (take (at + used) message) (fields ++ entry ∷ [])

-- the fields of a front are the first ones, and the others are those of what is left
abbrev pub FrontIsFirst : Type 0
FrontIsFirst =
    (message : List ℕ) (front fields : List Entry) (at : ℕ)
    → IsMessage (take at message) front → IsMessage message fields
    → (others : List Entry) × (fields ≡ front ++ others) × IsMessage (drop at message) others
