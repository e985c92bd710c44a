-- The fields of a message, read one after another.
use Rattle.std.proofs.Common.{◌≡◌, ℕ, ◌+◌, ◌<◌, List, [], ◌∷◌, ◌++◌, length, take, drop, refl, sym, ap, subst, ◌∙◌, arith}
use Rattle.std.proofs.lemmas.List.{append-nil, take-append-drop, length-append, length-take}
use Rattle.std.proofs.lemmas.List.Elements.{All-nil}
use Rattle.ciff_wire.specs.declared.field.FieldFault.{FieldFault}
use Rattle.ciff_wire.specs.Field.{Entry, SpellsField, IsMessage, IsFault}
use Rattle.ciff_wire.specs.Laws.{FieldIsAdded, FrontIsFirst, FaultIsNoMessage}
use Rattle.ciff_format.specs.Fields.{Known, HasItsType, HasFields}
use Rattle.ciff_format.specs.Growing.{TypesGrow, WrongTypeIsBad}
use Rattle.ciff_reader.specs.Says.{ReadAs}

-- a field takes some bytes
pub used_some : (rest : List ℕ) (entry : Entry) (used : ℕ) → SpellsField (take used rest) entry → 0 < used
used_some rest entry used spells =
    omega (arith, spells.spells_tag.spelling.some, ap length spells.parts, length-append spells.tag spells.content, length-take used rest)

pub fields_begin : (table : List Known) (message : List ℕ) → HasFields table (take 0 message) []
fields_begin table message = record { spelt = refl; types = All-nil (HasItsType table) }

-- one more field
pub field_added : FieldIsAdded → TypesGrow → (table : List Known) (message rest : List ℕ) (at used : ℕ) (fields : List Entry) (entry : Entry)
    → rest ≡ drop at message → SpellsField (take used rest) entry → HasItsType table entry
    → HasFields table (take at message) fields → HasFields table (take (at + used) message) (fields ++ entry ∷ [])
field_added added grow table message rest at used fields entry behind spells typed read = record {
  spelt = added message fields entry at used read.spelt (subst (λ (bs : List ℕ). SpellsField (take used bs) entry) behind spells);
  types = (grow table fields entry).1 (read.types, typed);
}

-- that was all
pub whole : (message rest : List ℕ) (at : ℕ) → rest ≡ drop at message → rest ≡ [] → take at message ≡ message
whole message rest at behind none =
    sym (append-nil (take at message)) ∙ ap (λ (bs : List ℕ). take at message ++ bs) (sym none ∙ behind) ∙ take-append-drop at message

-- a fault behind the fields of a front
pub faulty : FrontIsFirst → FaultIsNoMessage → (table : List Known) (message rest : List ℕ) (at : ℕ) (front : List Entry) (fault : FieldFault)
    → rest ≡ drop at message → IsFault rest fault → HasFields table (take at message) front
    → (fields : List Entry) → ¬ HasFields table message fields
faulty first no_message table message rest at front fault behind stands read = λ fields has.
    let others = first message front fields at read.spelt has.spelt in
    no_message rest fault others.0 stands (subst (λ (bs : List ℕ). IsMessage bs others.0) (sym behind) others.2)

-- a field of another wire type behind the fields of a front
pub wrong_type : FieldIsAdded → TypesGrow → WrongTypeIsBad → (table : List Known) (message rest : List ℕ) (at used : ℕ) (front : List Entry) (entry : Entry)
    → rest ≡ drop at message → SpellsField (take used rest) entry → ¬ HasItsType table entry → HasFields table (take at message) front
    → (fields : List Entry) → ¬ HasFields table message fields
wrong_type added grow bad table message rest at used front entry behind spells other read = λ fields.
    bad table message (front ++ entry ∷ []) fields (at + used)
    (added message front entry at used read.spelt (subst (λ (bs : List ℕ). SpellsField (take used bs) entry) behind spells))
    (λ types. other ((grow table front entry).0 types).1)

-- ---- with what is kept of them

module _ {S : Type 0} (table : List Known) (Says : List Entry → S → Type 0) (message rest : List ℕ) where
  pub begins : (kept : S) → Says [] kept → ReadAs table Says (take 0 message) kept
  begins kept says = record { fields = []; read = fields_begin table message; says = says }

  pub goes_on : FieldIsAdded → TypesGrow → (at used : ℕ) (entry : Entry) (before after : S)
      → rest ≡ drop at message → SpellsField (take used rest) entry
      → HasItsType table entry × ((fields : List Entry) → Says fields before → Says (fields ++ entry ∷ []) after)
      → ReadAs table Says (take at message) before → ReadAs table Says (take (at + used) message) after
  goes_on added grow at used entry before after behind spells taken front = record {
    fields = front.fields ++ entry ∷ [];
    read = field_added added grow table message rest at used front.fields entry behind spells taken.0 front.read;
    says = taken.1 front.fields front.says;
  }

  pub ends : (at : ℕ) (kept : S) → rest ≡ drop at message → rest ≡ [] → ReadAs table Says (take at message) kept → ReadAs table Says message kept
  ends at kept behind none front = subst (λ (bs : List ℕ). ReadAs table Says bs kept) (whole message rest at behind none) front
