-- What the steps of taking a field show of the bytes at whose front they stand.
use Rattle.std.proofs.Common.{◌≡◌, ℕ, ◌+◌, ◌*◌, ◌/◌, ◌%◌, ◌<◌, ◌≤◌, List, ◌++◌, length, take, drop, refl, sym, ap, ◌∙◌, arith}
use Rattle.std.proofs.Math.Seq.{take-add}
use Rattle.std.proofs.lemmas.List.{length-take}
use Rattle.ciff_wire.specs.declared.field.FieldFault.{FieldFault}
use Rattle.ciff_wire.specs.Varint.{Reads}
use Rattle.ciff_wire.specs.declared.field.Wire.{Wire}
use Rattle.ciff_wire.specs.declared.field.Wire.TheVariants.{Number, Eight, Bytes, Four}
use Rattle.ciff_wire.specs.Field.{Entry, as_bytes, wire_of, Holds, IsNumber, SpellsField, HasTag, IsTagFault, IsContentFault, IsFault, in_tag, in_content, number_of_wire}

-- the tag whose value is read
has_tag : (m : List ℕ) (value used number wire : ℕ) → Reads m value used → number ≡ value / 8 → wire ≡ value % 8 → HasTag m number wire (drop used m)
has_tag m value used number wire r n w = record { value = value; used = used; reads = r; number_is = n; wire_is = w; rest_is = refl }

pub tag_fault : (m : List ℕ) (value used : ℕ) (fault : FieldFault) → Reads m value used → IsTagFault (value / 8) (value % 8) fault → IsFault m fault
tag_fault m value used fault r f = in_tag (value / 8) (value % 8) (drop used m) (has_tag m value used (value / 8) (value % 8) r refl refl) f

pub wire_below : (w : Wire) → number_of_wire w < 8
wire_below Number = omega arith
wire_below Eight = omega arith
wire_below Bytes = omega arith
wire_below Four = omega arith

good_tag : (m : List ℕ) (number wire used : ℕ) → wire < 8 → Reads m (number * 8 + wire) used → HasTag m number wire (drop used m)
good_tag m number wire used lt r = has_tag m (number * 8 + wire) used number wire r (omega arith) (omega arith)

pub content_fault : (m : List ℕ) (number wire used : ℕ) (fault : FieldFault) → wire < 8 → IsNumber number → Reads m (number * 8 + wire) used → IsContentFault wire (drop used m) fault → IsFault m fault
content_fault m number wire used fault lt n r f = in_content number wire (drop used m) (good_tag m number wire used lt r) n f

-- a length at the front, and that many bytes
pub holds_bytes : (m bs : List ℕ) (len used : ℕ) → Reads m len used → len ≤ length (drop used m) → bs ≡ take len (drop used m) → Holds (take (used + len) m) (as_bytes bs)
holds_bytes m bs len used r le e =
    let count : len ≡ length bs = omega (arith, ap length e, length-take len (drop used m), le) in
    (take used m, record { spelling = r.spells.spelling; sum = r.spells.sum ∙ count }, take-add used len m ∙ ap (λ (w : List ℕ). take used m ++ w) (sym e))

-- a tag and its content
pub spells_field : (m : List ℕ) (entry : Entry) (used len : ℕ) → IsNumber entry.number → Reads m (entry.number * 8 + wire_of entry.held) used → Holds (take len (drop used m)) entry.held → SpellsField (take (used + len) m) entry
spells_field m entry used len n r h = record {
  number = n;
  tag = take used m;
  content = take len (drop used m);
  spells_tag = r.spells;
  spells_content = h;
  parts = take-add used len m;
}
