-- Fields of a message (Protocol Buffers, "Encoding", message structure).
use Rattle.std.specs.Prelude.{◌≡◌, ◌⊎◌, ℕ, ◌+◌, ◌*◌, ◌/◌, ◌%◌, ◌^◌, ◌<◌, ◌≤◌, List, [], ◌∷◌, ◌++◌, length, drop}
use Rattle.std.specs.Int.{w32, w64, to_le_bytes}
use Rattle.ciff_wire.specs.Varint.{Spells, Reads, EndsEarly, RunsOn}
use Rattle.ciff_wire.specs.declared.field.Content.{Content}
use Rattle.ciff_wire.specs.declared.field.Content.TheVariants as code
use Rattle.ciff_wire.specs.declared.field.Field.{Field}
use Rattle.ciff_wire.specs.declared.field.FieldFault.{FieldFault}
use Rattle.ciff_wire.specs.declared.field.FieldFault.TheVariants as faults
use Rattle.ciff_wire.specs.declared.field.Wire.{Wire}
use Rattle.ciff_wire.specs.declared.field.Wire.TheVariants as wires

-- what a field holds: a number of 64 bits, eight bytes or four as the number that they make, the
-- low byte first, or bytes
pub data Held : Type 0 where
  as_number : ℕ → Held
  as_eight : ℕ → Held
  as_bytes : List ℕ → Held
  as_four : ℕ → Held

pub record Entry : Type 0 where
  pub number : ℕ
  pub held : Held

-- the wire type
abbrev pub wire_of : Held → ℕ
wire_of (as_number v) = 0
wire_of (as_eight v) = 1
wire_of (as_bytes bs) = 2
wire_of (as_four v) = 5

-- the bytes behind the tag spell this
abbrev pub Holds : List ℕ → Held → Type 0
Holds content (as_number v) = Spells content v
Holds content (as_eight v) = (v < 2 ^ 64) × (content ≡ to_le_bytes w64 v)
Holds content (as_bytes bs) = (len : List ℕ) × Spells len (length bs) × (content ≡ len ++ bs)
Holds content (as_four v) = (v < 2 ^ 32) × (content ≡ to_le_bytes w32 v)

abbrev pub IsNumber : ℕ → Type 0
IsNumber number = (0 < number) × (number < 2 ^ 29)

-- a spelling of a field: a spelling of its tag, then one of what it holds
pub record SpellsField (text : List ℕ) (entry : Entry) : Type 0 where
  pub number : IsNumber entry.number
  pub tag : List ℕ
  pub content : List ℕ
  pub spells_tag : Spells tag (entry.number * 8 + wire_of entry.held)
  pub spells_content : Holds content entry.held
  pub parts : text ≡ tag ++ content

-- the message is the concatenation of spellings of the fields, in order
abbrev pub IsMessage : List ℕ → List Entry → Type 0
IsMessage message [] = message ≡ []
IsMessage message (entry ∷ entries) =
    (text : List ℕ) × (rest : List ℕ)
    × SpellsField text entry × IsMessage rest entries × (message ≡ text ++ rest)

-- ---- faults

-- a tag stands at the front: its field number, its wire type, and what follows it
pub record HasTag (message : List ℕ) (number wire : ℕ) (rest : List ℕ) : Type 0 where
  pub value : ℕ
  pub used : ℕ
  pub reads : Reads message value used
  pub number_is : number ≡ value / 8
  pub wire_is : wire ≡ value % 8
  pub rest_is : rest ≡ drop used message

-- a length stands at the front, and fewer bytes follow it than it says
pub record IsCut (content : List ℕ) : Type 0 where
  pub len : ℕ
  pub used : ℕ
  pub reads : Reads content len used
  pub short : length content < used + len

-- the bytes end inside the content of this wire type: in a number, in eight bytes, in a length,
-- in the bytes behind a length, or in four bytes
pub data ContentEnds (wire : ℕ) (content : List ℕ) : Type 0 where
  in_number : wire ≡ 0 → EndsEarly content → ContentEnds wire content
  in_eight : wire ≡ 1 → length content < 8 → ContentEnds wire content
  in_length : wire ≡ 2 → EndsEarly content → ContentEnds wire content
  in_bytes : wire ≡ 2 → IsCut content → ContentEnds wire content
  in_four : wire ≡ 5 → length content < 4 → ContentEnds wire content

-- what is wrong with a tag's field number and wire type, in the order in which it is looked for
abbrev pub IsTagFault : ℕ → ℕ → FieldFault → Type 0
IsTagFault number wire faults.Zero = number ≡ 0
IsTagFault number wire faults.TooLarge = 2 ^ 29 ≤ number
IsTagFault number wire faults.Group = IsNumber number × ((wire ≡ 3) ⊎ (wire ≡ 4))
IsTagFault number wire faults.Reserved = IsNumber number × ((wire ≡ 6) ⊎ (wire ≡ 7))
IsTagFault number wire faults.PastEnd = ⊥
IsTagFault number wire faults.Long = ⊥

-- what is wrong with content of this wire type: its varint runs on (the number or the length), or
-- the bytes end inside it
abbrev pub IsContentFault : ℕ → List ℕ → FieldFault → Type 0
IsContentFault wire content faults.Long = ((wire ≡ 0) ⊎ (wire ≡ 2)) × RunsOn content
IsContentFault wire content faults.PastEnd = ContentEnds wire content
IsContentFault wire content faults.Zero = ⊥
IsContentFault wire content faults.TooLarge = ⊥
IsContentFault wire content faults.Group = ⊥
IsContentFault wire content faults.Reserved = ⊥

-- what is wrong at the front of a message, in the order in which it is looked for: the tag's
-- varint, the tag, the content behind a good tag; the cases exclude each other, and exclude a field
pub data IsFault (message : List ℕ) (fault : FieldFault) : Type 0 where
  tag_runs_on : RunsOn message → fault ≡ faults.Long → IsFault message fault
  tag_ends : 0 < length message → EndsEarly message → fault ≡ faults.PastEnd → IsFault message fault
  in_tag : (number wire : ℕ) (rest : List ℕ) → HasTag message number wire rest
      → IsTagFault number wire fault → IsFault message fault
  in_content : (number wire : ℕ) (rest : List ℕ) → HasTag message number wire rest → IsNumber number
      → IsContentFault wire rest fault → IsFault message fault

-- what a content and a field of the code hold
abbrev pub held_of : Content → Held
held_of (code.Number v) = as_number v
held_of (code.Eight v) = as_eight v
held_of (code.Bytes bs) = as_bytes bs.now
held_of (code.Four v) = as_four v

abbrev pub entry_of : Field → Entry
entry_of field = record { number = field.number; held = held_of field.content }

-- the wire type of a tag of the code
abbrev pub number_of_wire : Wire → ℕ
number_of_wire wires.Number = 0
number_of_wire wires.Eight = 1
number_of_wire wires.Bytes = 2
number_of_wire wires.Four = 5
