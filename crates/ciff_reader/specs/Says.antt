-- What the fields of a message say, field by field: the values that a reader keeps of them.
use Rattle.std.specs.Prelude.{◌≡◌, ◌↔◌, ℕ, ◌+◌, ◌<◌, List, [], ◌∷◌, ◌++◌, Option, Some, None, slice_index, IsTrue}
use Rattle.ciff_wire.specs.Field.{Entry}
use Rattle.ciff_format.specs.Fields.{Known, HasItsType, HasFields, AreTexts, header_table, record_table, number_or_zero, held_at, int32_at, double_at, text_at}
use Rattle.ciff_reader.specs.declared.posting.PostingFields.{PostingFields}
use Rattle.ciff_reader.specs.declared.header.HeaderFields.{HeaderFields}
use Rattle.ciff_reader.specs.declared.record.RecordFields.{RecordFields}

-- ---- any message

-- one more field: what is kept then says the fields with it, or it has a wrong wire type
abbrev pub TakesField : {S : Type 0} → List Known → (List Entry → S → Type 0)
    → Entry → S → Option S → Type 0
TakesField table Says entry before None = ¬ HasItsType table entry
TakesField table Says entry before (Some after) =
    HasItsType table entry
    × ((fields : List Entry) → Says fields before → Says (fields ++ entry ∷ []) after)

-- the message has fields, and this is kept of them
pub record ReadAs {S : Type 0} (table : List Known) (Says : List Entry → S → Type 0)
    (message : List ℕ) (kept : S) : Type 0 where
  pub fields : List Entry
  pub read : HasFields table message fields
  pub says : Says fields kept

-- this is kept of the message's fields, or it has none
abbrev pub IsReadAs : {S : Type 0} → List Known → (List Entry → S → Type 0)
    → List ℕ → Option S → Type 0
IsReadAs table Says message None = (fields : List Entry) → ¬ HasFields table message fields
IsReadAs table Says message (Some kept) = ReadAs table Says message kept

-- ---- what is kept

pub record SaysPosting (fields : List Entry) (kept : PostingFields) : Type 0 where
  pub gap : kept.gap ≡ int32_at 1 fields
  pub tf : kept.tf ≡ int32_at 2 fields

pub record SaysRecord (fields : List Entry) (kept : RecordFields) : Type 0 where
  pub number : kept.number ≡ int32_at 1 fields
  pub name : IsTrue kept.are_texts → kept.name.now ≡ text_at 2 fields
  pub length : kept.length ≡ int32_at 3 fields
  pub texts : IsTrue kept.are_texts ↔ AreTexts record_table fields

pub record SaysHeader (fields : List Entry) (kept : HeaderFields) : Type 0 where
  pub numbers : (n : ℕ) → n < 6
      → slice_index kept.numbers n ≡ number_or_zero (held_at (n + 1) fields)
  pub average : kept.average_bits ≡ double_at 7 fields
  pub description : IsTrue kept.are_texts → kept.description.now ≡ text_at 8 fields
  pub texts : IsTrue kept.are_texts ↔ AreTexts header_table fields
