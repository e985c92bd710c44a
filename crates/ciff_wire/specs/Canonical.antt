-- The canonical spelling of fields: minimal varints.
use Rattle.std.specs.Prelude.{ℕ, ◌+◌, ◌*◌, ◌==◌, ℤ, List, [], ◌∷◌, ◌++◌, length, flat_map, if◌then◌else◌}
use Rattle.std.specs.Int.{w32, w64, to_le_bytes, cast_unsigned}
use Rattle.ciff_wire.specs.Varint.{varint}
use Rattle.ciff_wire.specs.Field.{Entry, Held, as_number, as_eight, as_bytes, as_four, wire_of}

-- the tag of a field number and a wire type
abbrev pub tag_of : ℕ → ℕ → List ℕ
tag_of number wire = varint (number * 8 + wire)

abbrev pub spelling_of_held : Held → List ℕ
spelling_of_held (as_number v) = varint v
spelling_of_held (as_eight v) = to_le_bytes w64 v
spelling_of_held (as_bytes bs) = varint (length bs) ++ bs
spelling_of_held (as_four v) = to_le_bytes w32 v

abbrev pub spelling_of : Entry → List ℕ
spelling_of entry = tag_of entry.number (wire_of entry.held) ++ spelling_of_held entry.held

-- the message of fields in order
unfoldable pub message_of : List Entry → List ℕ
message_of entries = flat_map spelling_of entries

-- a number's field, left out where the value is 0; a negative value is spelt as its two's
-- complement of 64 bits
abbrev pub number_field : ℕ → ℤ → List Entry
number_field n value =
    if cast_unsigned w64 value == 0 then []
    else record { number = n; held = as_number (cast_unsigned w64 value) } ∷ []

-- the front of a field of bytes, up to its length
abbrev pub head_of : ℕ → ℕ → List ℕ
head_of n len = tag_of n 2 ++ varint len
