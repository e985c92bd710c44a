-- The fields of CIFF's messages (Common Index File Format, its message types), and the values that
-- fields give (Protocol Buffers, "Encoding": last one wins, defaults, repeated fields, two's
-- complement).
use Rattle.std.specs.Prelude.{◌≡◌, ◌==◌, ℕ, ◌%◌, ◌^◌, ℤ, List, [], ◌∷◌, flat_map, Option, Some, None, All, if◌then◌else◌, IsUtf8}
use Rattle.std.specs.Int.{w32, w64, cast_signed}
use Rattle.std.specs.Option.{option_or}
use Rattle.std.specs.List.{AllByRecursion}
use Rattle.ciff_wire.specs.Field.{Held, Entry, as_number, as_eight, as_bytes, as_four, wire_of, IsMessage}

-- ---- the tables

-- the types that CIFF's fields have
pub data Kind : Type 0 where
  int32 : Kind
  int64 : Kind
  double : Kind
  text : Kind
  message : Kind

-- the wire type of each
abbrev pub wire_of_kind : Kind → ℕ
wire_of_kind int32 = 0
wire_of_kind int64 = 0
wire_of_kind double = 1
wire_of_kind text = 2
wire_of_kind message = 2

-- a known field: its number and its type
pub record Known : Type 0 where
  pub number : ℕ
  pub kind : Kind

abbrev pub field : ℕ → Kind → Known
field number kind = record { number = number; kind = kind }

-- Header: version, num_postings_lists, num_docs, total_postings_lists, total_docs,
-- total_terms_in_collection, average_doclength, description
abbrev pub header_table : List Known
header_table =
    field 1 int32 ∷ field 2 int32 ∷ field 3 int32 ∷ field 4 int32 ∷ field 5 int32 ∷ field 6 int64
    ∷ field 7 double ∷ field 8 text ∷ []

-- PostingsList: term, df, cf, postings (repeated)
abbrev pub list_table : List Known
list_table = field 1 text ∷ field 2 int64 ∷ field 3 int64 ∷ field 4 message ∷ []

-- Posting: docid, which is the gap to the document before it in the list, and tf
abbrev pub posting_table : List Known
posting_table = field 1 int32 ∷ field 2 int32 ∷ []

-- DocRecord: docid, collection_docid, doclength
abbrev pub record_table : List Known
record_table = field 1 int32 ∷ field 2 text ∷ field 3 int32 ∷ []

-- a field whose number is known has the wire type of that number; an unknown field may have any
abbrev pub FitsKnown : Entry → Known → Type 0
FitsKnown entry known = known.number ≡ entry.number → wire_of entry.held ≡ wire_of_kind known.kind

abbrev pub HasItsType : List Known → Entry → Type 0
HasItsType table entry = AllByRecursion (FitsKnown entry) table

-- the message is these fields one after another, and each known one has its wire type
pub record HasFields (table : List Known) (bytes : List ℕ) (fields : List Entry) : Type 0 where
  pub spelt : IsMessage bytes fields
  pub types : All (HasItsType table) fields

-- ---- the values of fields

-- the number, the eight bytes or the bytes that are held, or the default where there is none
abbrev pub number_or_zero : Option Held → ℕ
number_or_zero None = 0
number_or_zero (Some (as_number v)) = v
number_or_zero (Some (as_eight v)) = 0
number_or_zero (Some (as_bytes bs)) = 0
number_or_zero (Some (as_four v)) = 0

abbrev pub eight_or_zero : Option Held → ℕ
eight_or_zero None = 0
eight_or_zero (Some (as_number v)) = 0
eight_or_zero (Some (as_eight v)) = v
eight_or_zero (Some (as_bytes bs)) = 0
eight_or_zero (Some (as_four v)) = 0

abbrev pub bytes_or_none : Option Held → List ℕ
bytes_or_none None = []
bytes_or_none (Some (as_number v)) = []
bytes_or_none (Some (as_eight v)) = []
bytes_or_none (Some (as_bytes bs)) = bs
bytes_or_none (Some (as_four v)) = []

-- what the last field of this number holds: a later one wins
unfoldable pub held_at : ℕ → List Entry → Option Held
held_at number [] = None
held_at number (entry ∷ entries) =
    option_or (held_at number entries) (if entry.number == number then Some entry.held else None)

-- an int32 is the low 32 bits in two's complement
abbrev pub int32_at : ℕ → List Entry → ℤ
int32_at number fields = cast_signed w32 (number_or_zero (held_at number fields) % 2 ^ 32)

-- an int64 is all 64 bits in two's complement
abbrev pub int64_at : ℕ → List Entry → ℤ
int64_at number fields = cast_signed w64 (number_or_zero (held_at number fields))

-- a double is carried as its 64 bits
abbrev pub double_at : ℕ → List Entry → ℕ
double_at number fields = eight_or_zero (held_at number fields)

abbrev pub text_at : ℕ → List Entry → List ℕ
text_at number fields = bytes_or_none (held_at number fields)

-- what a field of this number holds, and nothing of another
abbrev pub bytes_where : ℕ → Entry → List (List ℕ)
bytes_where number entry =
    if entry.number == number then bytes_or_none (Some entry.held) ∷ [] else []

-- a repeated field: what each field of this number holds, in order
unfoldable pub each_at : ℕ → List Entry → List (List ℕ)
each_at number fields = flat_map (bytes_where number) fields

-- ---- texts

-- a field of a text holds UTF-8
abbrev pub IsTextOf : Kind → Held → Type 0
IsTextOf int32 held = Unit {0}
IsTextOf int64 held = Unit {0}
IsTextOf double held = Unit {0}
IsTextOf text held = ∥ IsUtf8 (bytes_or_none (Some held)) ∥₁
IsTextOf message held = Unit {0}

abbrev pub IsKnownText : Entry → Known → Type 0
IsKnownText entry known = known.number ≡ entry.number → IsTextOf known.kind entry.held

abbrev pub HasText : List Known → Entry → Type 0
HasText table entry = AllByRecursion (IsKnownText entry) table

-- each text among the fields is UTF-8, whether or not a later one replaces it
abbrev pub AreTexts : List Known → List Entry → Type 0
AreTexts table fields = All (HasText table) fields
