-- Whatever bytes there are, they have a reading: a varint, what stands at the front of a message, and its fields.
use Rattle.std.proofs.Common.{◌≡◌, ◌⊎◌, ℕ, zero, suc, ◌+◌, ◌-◌, ◌*◌, ◌/◌, ◌%◌, ◌^◌, ◌<◌, ◌≤◌, List, [], ◌∷◌, ◌++◌, length, take, drop, get_or, refl, sym, ap, subst, ◌∙◌, arith, inl, inr, append_assoc}
use Rattle.std.specs.Int.{w32, w64, from_le_bytes}
use Rattle.std.specs.List.{All, AllByRecursion}
use Rattle.std.proofs.lemmas.Bool.{cases_lt}
use Rattle.std.proofs.lemmas.Nat.{le_bytes_4, le_bytes_8}
use Rattle.std.proofs.lemmas.List.{take-append-drop, length-take, length-take-le, length-append, length-drop, take_all, get_or_past, drop-drop, append-nil, nil_from_length}
use Rattle.std.proofs.Math.Seq.{take-add}
use Rattle.std.proofs.lemmas.List.Elements.{All-from_recursion, recursion_from_All, All-take, All-drop}
use Rattle.ciff_wire.specs.declared.varint.Varint.{Varint}
use Rattle.ciff_wire.specs.declared.varint.Varint.TheVariants.{Done, Short, Long}
use Rattle.ciff_wire.specs.declared.field.FieldFault.{FieldFault}
use Rattle.ciff_wire.specs.declared.field.FieldFault.TheVariants.{Zero, TooLarge, Group, Reserved, PastEnd}
use Rattle.ciff_wire.specs.declared.field.FieldFault.TheVariants as faults
use Rattle.ciff_wire.specs.Varint.{sum_of, IsRead, Reads}
use Rattle.ciff_wire.specs.Field.{Held, Entry, as_number, as_eight, as_bytes, as_four, wire_of, Holds, IsNumber, SpellsField, IsMessage, IsContentFault, in_number, in_eight, in_length, in_bytes, in_four, IsFault, tag_runs_on, tag_ends}
use Rattle.ciff_wire.specs.Laws.{AreBytes, ReadAlways, AtFront, nothing, a_field, a_fault, FrontAlways, IsFaulty, MessageOrFault, FaultyIsNoMessage, FieldIsAdded, FrontIsFirst}
use Rattle.ciff_wire.proofs.Taking.{tag_fault, content_fault, holds_bytes, spells_field}
use Rattle.ciff_wire.proofs.Fields.{field_some, same_field}
use Rattle.ciff_wire.proofs.Messages.{fault_is_no_message}
use Rattle.ciff_wire.proofs.Spellings.{Ends, Ends-cons, spelling_from_Ends}

-- ---- a varint

-- a spelling ends among the first bytes, or they all go on
EndsWithin : ℕ → List ℕ → Type 0
EndsWithin room bytes =
    ((used : ℕ) × (used ≤ room) × (used ≤ length bytes) × Ends (take used bytes))
    ⊎ AllByRecursion (λ b. 128 ≤ b) (take room bytes)

ends_within : (room : ℕ) (bytes : List ℕ) → AllByRecursion (λ b. b < 256) bytes → EndsWithin room bytes
unfolding EndsWithin
ends_within zero bytes octets = inr tt
ends_within (suc room) [] octets = inr tt
ends_within (suc room) (b ∷ bytes) octets =
    elim (cases_lt b 128) [
      | inl small ↦ inl (1, omega arith, omega arith, small)
      | inr large ↦ elim (ends_within room bytes octets.1) [
        | inl e ↦ inl (suc e.0, omega (arith, e.1), omega (arith, e.2), Ends-cons b (take e.0 bytes) large octets.0 e.3)
        | inr on ↦ inr (large, on)
      ]
    ]

pub read_always : ReadAlways
unfolding EndsWithin
read_always bytes octets =
    elim (ends_within 10 bytes (recursion_from_All (λ b. b < 256) bytes octets)) [
      | inl e ↦
          let n : length (take e.0 bytes) ≡ e.0 = length-take-le e.0 bytes e.2 in (
            Done (sum_of (take e.0 bytes) % 2 ^ 64) e.0,
            record {
              within = e.2;
              spells = record { spelling = spelling_from_Ends (take e.0 bytes) e.3 (omega (arith, n, e.1)); sum = refl };
            },
          )
      | inr on ↦
          let all : All (λ b. 128 ≤ b) (take 10 bytes) = All-from_recursion (λ b. 128 ≤ b) (take 10 bytes) on in
          elim (cases_lt (length bytes) 10) [
            | inl few ↦ (Short, record { few = few; unended = subst (All (λ b. 128 ≤ b)) (take_all 10 bytes (omega (arith, few))) all })
            | inr many ↦ (Long, record { many = many; unended = all })
          ]
    ]

-- ---- a tag

-- the wire types that a field can have, and the others
data WireCase (wire : ℕ) : Type 0 where
  wire_number : wire ≡ 0 → WireCase wire
  wire_eight : wire ≡ 1 → WireCase wire
  wire_bytes : wire ≡ 2 → WireCase wire
  wire_four : wire ≡ 5 → WireCase wire
  wire_group : (wire ≡ 3) ⊎ (wire ≡ 4) → WireCase wire
  wire_reserved : (wire ≡ 6) ⊎ (wire ≡ 7) → WireCase wire

wire_case : (wire : ℕ) → wire < 8 → WireCase wire
wire_case zero lt = wire_number refl
wire_case (suc zero) lt = wire_eight refl
wire_case (suc (suc zero)) lt = wire_bytes refl
wire_case (suc (suc (suc zero))) lt = wire_group (inl refl)
wire_case (suc (suc (suc (suc zero)))) lt = wire_group (inr refl)
wire_case (suc (suc (suc (suc (suc zero))))) lt = wire_four refl
wire_case (suc (suc (suc (suc (suc (suc zero)))))) lt = wire_reserved (inl refl)
wire_case (suc (suc (suc (suc (suc (suc (suc zero))))))) lt = wire_reserved (inr refl)
wire_case (suc (suc (suc (suc (suc (suc (suc (suc wire)))))))) lt = absurd (omega (arith, lt))

-- ---- content

-- content of this wire type stands at the front, or what is wrong with it
data ContentCase (wire : ℕ) (rest : List ℕ) : Type 0 where
  good : (held : Held) (len : ℕ) → len ≤ length rest → wire_of held ≡ wire → Holds (take len rest) held → ContentCase wire rest
  bad : (fault : FieldFault) → IsContentFault wire rest fault → ContentCase wire rest

number_case : (rest : List ℕ) (read : Varint) → IsRead rest read → ContentCase 0 rest
number_case rest (Done value used) is = good (as_number value) used is.within refl is.spells
number_case rest Short is = bad PastEnd (in_number refl is)
number_case rest Long is = bad faults.Long (inl refl, is)

bytes_case : (rest : List ℕ) (read : Varint) → IsRead rest read → ContentCase 2 rest
bytes_case rest (Done len used) is =
    elim (cases_lt (length rest) (used + len)) [
      | inl cut ↦ bad PastEnd (in_bytes refl (record { len = len; used = used; reads = is; short = cut }))
      | inr whole ↦
          let n : length (drop used rest) ≡ length rest - used = length-drop used rest in
          good (as_bytes (take len (drop used rest))) (used + len) whole refl (holds_bytes rest (take len (drop used rest)) len used is (omega (arith, n, whole)) refl)
    ]
bytes_case rest Short is = bad PastEnd (in_length refl is)
bytes_case rest Long is = bad faults.Long (inr refl, is)

octets_at : (bs : List ℕ) → AreBytes bs → (i : ℕ) → get_or bs i 0 < 256
octets_at bs octets i =
    elim (cases_lt i (length bs)) [
      | inl inside ↦ octets i 0 inside
      | inr past ↦ omega (arith, get_or_past bs i 0 past)
    ]

small_8 : (bs : List ℕ) → ((i : ℕ) → get_or bs i 0 < 256) → from_le_bytes w64 bs < 2 ^ 64
small_8 bs each =
    omega (arith, each 0, each 1, each 2, each 3, each 4, each 5, each 6, each 7)

small_4 : (bs : List ℕ) → ((i : ℕ) → get_or bs i 0 < 256) → from_le_bytes w32 bs < 2 ^ 32
small_4 bs each = omega (arith, each 0, each 1, each 2, each 3)

eight_case : (rest : List ℕ) → AreBytes rest → ContentCase 1 rest
eight_case rest octets =
    elim (cases_lt (length rest) 8) [
      | inl few ↦ bad PastEnd (in_eight refl few)
      | inr many ↦
          let front = take 8 rest in
          let n : length front ≡ 8 = length-take-le 8 rest many in
          let value = from_le_bytes w64 front in
          let each = octets_at front (All-take (λ b. b < 256) 8 rest octets) in
          good (as_eight value) 8 many refl (small_8 front each, sym (le_bytes_8 front value n each refl))
    ]

four_case : (rest : List ℕ) → AreBytes rest → ContentCase 5 rest
four_case rest octets =
    elim (cases_lt (length rest) 4) [
      | inl few ↦ bad PastEnd (in_four refl few)
      | inr many ↦
          let front = take 4 rest in
          let n : length front ≡ 4 = length-take-le 4 rest many in
          let value = from_le_bytes w32 front in
          let each = octets_at front (All-take (λ b. b < 256) 4 rest octets) in
          good (as_four value) 4 many refl (small_4 front each, sym (le_bytes_4 front value n each refl))
    ]

-- ---- the front of a message

at_field : (m : List ℕ) (value used : ℕ) → Reads m value used → IsNumber (value / 8) → ContentCase (value % 8) (drop used m) → AtFront m
at_field m value used reads number (good held len within wire holds) =
    let same : value / 8 * 8 + wire_of held ≡ value = omega (arith, wire) in
    let n : length (drop used m) ≡ length m - used = length-drop used m in
    a_field (record { number = value / 8; held = held }) (used + len) (omega (arith, n, within, reads.within))
    (spells_field m (record { number = value / 8; held = held }) used len number (subst (λ v. Reads m v used) (sym same) reads) holds)
at_field m value used reads number (bad fault wrong) =
    let same : value / 8 * 8 + value % 8 ≡ value = omega arith in
    a_fault fault (content_fault m (value / 8) (value % 8) used fault (omega arith) number (subst (λ v. Reads m v used) (sym same) reads) wrong)

at_wire : (m : List ℕ) (value used : ℕ) → AreBytes m → Reads m value used → IsNumber (value / 8) → WireCase (value % 8) → AtFront m
at_wire m value used octets reads number (wire_number e) =
    let rest = drop used m in
    let read = read_always rest (All-drop (λ b. b < 256) used m octets) in
    at_field m value used reads number (subst (λ w. ContentCase w rest) (sym e) (number_case rest read.0 read.1))
at_wire m value used octets reads number (wire_eight e) =
    let rest = drop used m in
    at_field m value used reads number (subst (λ w. ContentCase w rest) (sym e) (eight_case rest (All-drop (λ b. b < 256) used m octets)))
at_wire m value used octets reads number (wire_bytes e) =
    let rest = drop used m in
    let read = read_always rest (All-drop (λ b. b < 256) used m octets) in
    at_field m value used reads number (subst (λ w. ContentCase w rest) (sym e) (bytes_case rest read.0 read.1))
at_wire m value used octets reads number (wire_four e) =
    let rest = drop used m in
    at_field m value used reads number (subst (λ w. ContentCase w rest) (sym e) (four_case rest (All-drop (λ b. b < 256) used m octets)))
at_wire m value used octets reads number (wire_group e) = a_fault Group (tag_fault m value used Group reads (number, e))
at_wire m value used octets reads number (wire_reserved e) = a_fault Reserved (tag_fault m value used Reserved reads (number, e))

at_tag : (m : List ℕ) (read : Varint) → AreBytes m → 0 < length m → IsRead m read → AtFront m
at_tag m (Done value used) octets some is =
    elim (cases_lt 0 (value / 8)) [
      | inr none ↦ a_fault Zero (tag_fault m value used Zero is (omega (arith, none)))
      | inl positive ↦ elim (cases_lt (value / 8) (2 ^ 29)) [
        | inr large ↦ a_fault TooLarge (tag_fault m value used TooLarge is large)
        | inl small ↦ at_wire m value used octets is (positive, small) (wire_case (value % 8) (omega arith))
      ]
    ]
at_tag m Short octets some is = a_fault PastEnd (tag_ends some is refl)
at_tag m Long octets some is = a_fault faults.Long (tag_runs_on is refl)

pub front_always : FrontAlways
front_always [] octets = nothing refl
front_always (b ∷ bs) octets =
    let read = read_always (b ∷ bs) octets in
    at_tag (b ∷ bs) read.0 octets (omega arith) read.1

-- ---- a message

-- a message of fields, or good fields and then a fault
abbrev MessageCase : List ℕ → Type 0
MessageCase m = ((fields : List Entry) × IsMessage m fields) ⊎ IsFaulty m

-- a field before it
field_before : (m : List ℕ) (entry : Entry) (used : ℕ) → used ≤ length m → SpellsField (take used m) entry → MessageCase (drop used m) → MessageCase m
field_before m entry used within spells (inl is) =
    inl (entry ∷ is.0, (take used m, drop used m, spells, is.1, sym (take-append-drop used m)))
field_before m entry used within spells (inr is) =
    let n : length (drop used m) ≡ length m - used = length-drop used m in
    inr (record {
      used = used + is.used;
      fields = entry ∷ is.fields;
      fault = is.fault;
      within = omega (arith, n, is.within, within);
      front = (take used m, take is.used (drop used m), spells, is.front, take-add used is.used m);
      stands = subst (λ (t : List ℕ). IsFault t is.fault) (drop-drop is.used used m) is.stands;
    })

message_at : (m : List ℕ) → AtFront m → ((used : ℕ) → 0 < used → used ≤ length m → MessageCase (drop used m)) → MessageCase m
message_at m (nothing e) rest = inl ([], e)
message_at m (a_field entry used within spells) rest =
    let some : 0 < used = omega (arith, field_some (take used m) entry spells, length-take used m) in
    field_before m entry used within spells (rest used some within)
message_at m (a_fault fault is) rest =
    inr (record { used = 0; fields = []; fault = fault; within = omega arith; front = refl; stands = is })

-- each field takes a byte at least
message_within : (room : ℕ) (m : List ℕ) → length m ≤ room → AreBytes m → MessageCase m
message_within zero m few octets = inl ([], nil_from_length m (omega (arith, few)))
message_within (suc room) m few octets =
    message_at m (front_always m octets)
    (λ used some within. message_within room (drop used m) (omega (arith, length-drop used m, few, some)) (All-drop (λ b. b < 256) used m octets))

pub message_or_fault : MessageOrFault
message_or_fault m octets = message_within (length m) m (omega arith) octets

-- ---- field after field

front_first : (text rest m : List ℕ) (front fields : List Entry) → IsMessage text front → text ++ rest ≡ m → IsMessage m fields
    → (others : List Entry) × (fields ≡ front ++ others) × IsMessage rest others
front_first text rest m [] fields none same is =
    (fields, refl, subst (λ (t : List ℕ). IsMessage t fields) (sym same ∙ ap (λ (t : List ℕ). t ++ rest) none) is)
front_first text rest m (a ∷ front) [] spelt same is =
    absurd (omega (arith, field_some spelt.0 a spelt.2, ap length is, ap length same, ap length spelt.4, length-append text rest, length-append spelt.0 spelt.1))
front_first text rest m (a ∷ front) (b ∷ fields) spelt same is =
    let split : spelt.0 ++ (spelt.1 ++ rest) ≡ is.0 ++ is.1 =
    sym (append_assoc spelt.0 spelt.1 rest) ∙ sym (ap (λ (t : List ℕ). t ++ rest) spelt.4) ∙ same ∙ is.4 in
    let one = same_field spelt.0 is.0 (spelt.1 ++ rest) is.1 a b spelt.2 is.2 split in
    let more = front_first spelt.1 rest is.1 front fields spelt.3 one.1 is.3 in
    (more.0, ap (λ (e : Entry). e ∷ fields) (sym one.2) ∙ ap (λ (es : List Entry). a ∷ es) more.1, more.2)

pub front_is_first : FrontIsFirst
front_is_first m front fields at spelt is = front_first (take at m) (drop at m) m front fields spelt (take-append-drop at m) is

pub faulty_is_no_message : FaultyIsNoMessage
faulty_is_no_message m fields faulty is =
    let rest = front_is_first m faulty.fields fields faulty.used faulty.front is in
    fault_is_no_message (drop faulty.used m) faulty.fault rest.0 faulty.stands rest.2

added : (text more : List ℕ) (fields : List Entry) (entry : Entry) → IsMessage text fields → SpellsField more entry → IsMessage (text ++ more) (fields ++ entry ∷ [])
added text more [] entry none spells =
    (more, [], spells, refl, ap (λ (t : List ℕ). t ++ more) none ∙ sym (append-nil more))
added text more (e ∷ fields) entry spelt spells =
    (spelt.0, spelt.1 ++ more, spelt.2, added spelt.1 more fields entry spelt.3 spells, ap (λ (t : List ℕ). t ++ more) spelt.4 ∙ append_assoc spelt.0 spelt.1 more)

pub field_is_added : FieldIsAdded
field_is_added m fields entry at used spelt spells =
    subst (λ (t : List ℕ). IsMessage t (fields ++ entry ∷ [])) (sym (take-add at used m)) (added (take at m) (take used (drop at m)) fields entry spelt spells)
