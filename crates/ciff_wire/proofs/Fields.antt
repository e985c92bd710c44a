-- A spelling of a field at the front of bytes determines the field and its length, and excludes each fault.
use Rattle.std.proofs.Common.{◌≡◌, ◌⊎◌, ℕ, ◌+◌, ◌*◌, ◌%◌, ◌^◌, ◌<◌, List, ◌++◌, length, refl, sym, ap, ◌∙◌, arith, inl, inr, append_assoc, length-append}
use Rattle.std.specs.Int.{w32, w64, to_le_bytes, from_le_bytes}
use Rattle.std.proofs.lemmas.Nat.{from_le_bytes-to_le_bytes_4, from_le_bytes-to_le_bytes_8}
use Rattle.ciff_wire.specs.declared.field.FieldFault.{FieldFault}
use Rattle.ciff_wire.specs.declared.field.FieldFault.TheVariants.{Zero, TooLarge, Group, Reserved, PastEnd, Long}
use Rattle.ciff_wire.specs.Varint.{sum_of, Spells, EndsEarly, RunsOn}
use Rattle.ciff_wire.specs.Field.{Held, Entry, as_number, as_eight, as_bytes, as_four, wire_of, Holds, SpellsField, IsNumber, HasTag, IsCut, ContentEnds, in_number, in_eight, in_length, in_bytes, in_four, IsTagFault, IsContentFault, IsFault, tag_runs_on, tag_ends, in_tag, in_content}
use Rattle.ciff_wire.proofs.SpellingFacts.{same_parts, read_once, not_early, not_long}
use Rattle.ciff_wire.proofs.Spellings.{none_is_front}

-- ---- what a field holds

same_eight : (c d x y : List ℕ) (v w : ℕ) → Holds c (as_eight v) → Holds d (as_eight w) → c ++ x ≡ d ++ y → (c ≡ d) × (x ≡ y) × (v ≡ w)
same_eight c d x y v w h k e =
    let same = same_parts c d x y (ap length h.1 ∙ sym (ap length k.1)) e in
    let bytes : to_le_bytes w64 v ≡ to_le_bytes w64 w = sym h.1 ∙ same.0 ∙ k.1 in
    (same.0, same.1, sym (from_le_bytes-to_le_bytes_8 v h.0) ∙ ap (from_le_bytes w64) bytes ∙ from_le_bytes-to_le_bytes_8 w k.0)

same_four : (c d x y : List ℕ) (v w : ℕ) → Holds c (as_four v) → Holds d (as_four w) → c ++ x ≡ d ++ y → (c ≡ d) × (x ≡ y) × (v ≡ w)
same_four c d x y v w h k e =
    let same = same_parts c d x y (ap length h.1 ∙ sym (ap length k.1)) e in
    let bytes : to_le_bytes w32 v ≡ to_le_bytes w32 w = sym h.1 ∙ same.0 ∙ k.1 in
    (same.0, same.1, sym (from_le_bytes-to_le_bytes_4 v h.0) ∙ ap (from_le_bytes w32) bytes ∙ from_le_bytes-to_le_bytes_4 w k.0)

same_number : (c d x y : List ℕ) (v w : ℕ) → Spells c v → Spells d w → c ++ x ≡ d ++ y → (c ≡ d) × (x ≡ y) × (v ≡ w)
same_number c d x y v w h k e =
    let same = none_is_front c d x y h.spelling k.spelling e in
    (same.0, same.1, sym h.sum ∙ ap (λ (t : List ℕ). sum_of t % 2 ^ 64) same.0 ∙ k.sum)

same_bytes : (c d x y us ws : List ℕ) → Holds c (as_bytes us) → Holds d (as_bytes ws) → c ++ x ≡ d ++ y → (c ≡ d) × (x ≡ y) × (us ≡ ws)
same_bytes c d x y us ws h k e =
    let left : h.0 ++ (us ++ x) ≡ c ++ x = sym (ap (λ (t : List ℕ). t ++ x) h.2 ∙ append_assoc h.0 us x) in
    let right : d ++ y ≡ k.0 ++ (ws ++ y) = ap (λ (t : List ℕ). t ++ y) k.2 ∙ append_assoc k.0 ws y in
    let front = same_number h.0 k.0 (us ++ x) (ws ++ y) (length us) (length ws) h.1 k.1 (left ∙ e ∙ right) in
    let back = same_parts us ws x y front.2 front.1 in
    (h.2 ∙ ap (λ (t : List ℕ). t ++ us) front.0 ∙ ap (λ (t : List ℕ). k.0 ++ t) back.0 ∙ sym k.2, back.1, back.0)

pub same_held : (c d x y : List ℕ) (h k : Held) → wire_of h ≡ wire_of k → Holds c h → Holds d k → c ++ x ≡ d ++ y → (c ≡ d) × (x ≡ y) × (h ≡ k)
same_held c d x y (as_number v) (as_number w) e p q f = let s = same_number c d x y v w p q f in (s.0, s.1, ap as_number s.2)
same_held c d x y (as_number v) (as_eight w) e p q f = absurd (omega arith)
same_held c d x y (as_number v) (as_bytes w) e p q f = absurd (omega arith)
same_held c d x y (as_number v) (as_four w) e p q f = absurd (omega arith)
same_held c d x y (as_eight v) (as_number w) e p q f = absurd (omega arith)
same_held c d x y (as_eight v) (as_eight w) e p q f = let s = same_eight c d x y v w p q f in (s.0, s.1, ap as_eight s.2)
same_held c d x y (as_eight v) (as_bytes w) e p q f = absurd (omega arith)
same_held c d x y (as_eight v) (as_four w) e p q f = absurd (omega arith)
same_held c d x y (as_bytes v) (as_number w) e p q f = absurd (omega arith)
same_held c d x y (as_bytes v) (as_eight w) e p q f = absurd (omega arith)
same_held c d x y (as_bytes v) (as_bytes w) e p q f = let s = same_bytes c d x y v w p q f in (s.0, s.1, ap as_bytes s.2)
same_held c d x y (as_bytes v) (as_four w) e p q f = absurd (omega arith)
same_held c d x y (as_four v) (as_number w) e p q f = absurd (omega arith)
same_held c d x y (as_four v) (as_eight w) e p q f = absurd (omega arith)
same_held c d x y (as_four v) (as_bytes w) e p q f = absurd (omega arith)
same_held c d x y (as_four v) (as_four w) e p q f = let s = same_four c d x y v w p q f in (s.0, s.1, ap as_four s.2)

pub wire_fits : (h : Held) → wire_of h < 8
wire_fits (as_number v) = omega arith
wire_fits (as_eight v) = omega arith
wire_fits (as_bytes v) = omega arith
wire_fits (as_four v) = omega arith

-- ---- a field at the front

front : (s x m : List ℕ) (a : Entry) (p : SpellsField s a) → s ++ x ≡ m → p.tag ++ (p.content ++ x) ≡ m
front s x m a p e = sym (ap (λ (w : List ℕ). w ++ x) p.parts ∙ append_assoc p.tag p.content x) ∙ e

abbrev entry : ℕ → Held → Entry
entry n h = record { number = n; held = h }

same_entry : (a b : Entry) → a.number ≡ b.number → a.held ≡ b.held → a ≡ b
same_entry a b e f =
    ap (λ (n : ℕ). entry n a.held) e ∙ ap (entry b.number) f

pub same_field : (s t x y : List ℕ) (a b : Entry) → SpellsField s a → SpellsField t b → s ++ x ≡ t ++ y → (s ≡ t) × (x ≡ y) × (a ≡ b)
same_field s t x y a b p q e =
    let left : p.tag ++ (p.content ++ x) ≡ s ++ x = front s x (s ++ x) a p refl in
    let right : t ++ y ≡ q.tag ++ (q.content ++ y) = sym (front t y (t ++ y) b q refl) in
    let tags = same_number p.tag q.tag (p.content ++ x) (q.content ++ y) (a.number * 8 + wire_of a.held) (b.number * 8 + wire_of b.held) p.spells_tag q.spells_tag (left ∙ e ∙ right) in
    let wires : wire_of a.held ≡ wire_of b.held = omega (arith, tags.2, wire_fits a.held, wire_fits b.held) in
    let numbers : a.number ≡ b.number = omega (arith, tags.2, wires) in
    let held = same_held p.content q.content x y a.held b.held wires p.spells_content q.spells_content tags.1 in
    (p.parts ∙ ap (λ (w : List ℕ). w ++ p.content) tags.0 ∙ ap (λ (w : List ℕ). q.tag ++ w) held.0 ∙ sym q.parts, held.1, same_entry a b numbers held.2)

pub field_some : (s : List ℕ) (a : Entry) → SpellsField s a → 0 < length s
field_some s a p = omega (arith, ap length p.parts, length-append p.tag p.content, p.spells_tag.spelling.some)

-- ---- and no fault there

-- the tag that is read is the field's
record IsTagOf (a : Entry) (after : List ℕ) (number wire : ℕ) (rest : List ℕ) : Type 0 where
  number_is : number ≡ a.number
  wire_is : wire ≡ wire_of a.held
  rest_is : after ≡ rest

tag_once : (s x m : List ℕ) (a : Entry) (p : SpellsField s a) (number wire : ℕ) (rest : List ℕ) → s ++ x ≡ m → HasTag m number wire rest → IsTagOf a (p.content ++ x) number wire rest
tag_once s x m a p number wire rest e t =
    let once = read_once p.tag (p.content ++ x) m t.value t.used p.spells_tag.spelling (front s x m a p e) t.reads in
    let value : t.value ≡ a.number * 8 + wire_of a.held = once.2 ∙ p.spells_tag.sum in
    record {
      number_is = omega (arith, value, t.number_is, wire_fits a.held);
      wire_is = omega (arith, value, t.wire_is, wire_fits a.held);
      rest_is = sym once.1 ∙ sym t.rest_is;
    }

held_not_long : (c x rest : List ℕ) (h : Held) (wire : ℕ) → Holds c h → wire ≡ wire_of h → c ++ x ≡ rest → ((wire ≡ 0) ⊎ (wire ≡ 2)) × RunsOn rest → ⊥
held_not_long c x rest (as_number v) wire k w e f = not_long c x rest k.spelling e f.1
held_not_long c x rest (as_eight v) wire k w e f = elim f.0 [ inl z ↦ omega (arith, w, z) | inr z ↦ omega (arith, w, z) ]
held_not_long c x rest (as_bytes v) wire k w e f =
    not_long k.0 (v ++ x) rest k.1.spelling (sym (append_assoc k.0 v x) ∙ sym (ap (λ (t : List ℕ). t ++ x) k.2) ∙ e) f.1
held_not_long c x rest (as_four v) wire k w e f = elim f.0 [ inl z ↦ omega (arith, w, z) | inr z ↦ omega (arith, w, z) ]

bytes_not_cut : (c x rest bs : List ℕ) → Holds c (as_bytes bs) → c ++ x ≡ rest → IsCut rest → ⊥
bytes_not_cut c x rest bs k e f =
    let front : k.0 ++ (bs ++ x) ≡ rest = sym (append_assoc k.0 bs x) ∙ sym (ap (λ (t : List ℕ). t ++ x) k.2) ∙ e in
    let once = read_once k.0 (bs ++ x) rest f.len f.used k.1.spelling front f.reads in
    let len : f.len ≡ length bs = once.2 ∙ k.1.sum in
    omega (arith, len, once.3, f.short, ap length front, length-append k.0 (bs ++ x), length-append bs x)

held_not_early : (c x rest : List ℕ) (h : Held) → Holds c h → c ++ x ≡ rest → (wire_of h ≡ 0) ⊎ (wire_of h ≡ 2) → EndsEarly rest → ⊥
held_not_early c x rest (as_number v) k e w early = not_early c x rest k.spelling e early
held_not_early c x rest (as_eight v) k e w early = elim w [ inl z ↦ omega (arith, z) | inr z ↦ omega (arith, z) ]
held_not_early c x rest (as_bytes v) k e w early =
    not_early k.0 (v ++ x) rest k.1.spelling (sym (append_assoc k.0 v x) ∙ sym (ap (λ (t : List ℕ). t ++ x) k.2) ∙ e) early
held_not_early c x rest (as_four v) k e w early = elim w [ inl z ↦ omega (arith, z) | inr z ↦ omega (arith, z) ]

held_not_few : (c x rest : List ℕ) (h : Held) (few : ℕ) → Holds c h → c ++ x ≡ rest → ((wire_of h ≡ 1) × (few ≡ 8)) ⊎ ((wire_of h ≡ 5) × (few ≡ 4)) → length rest < few → ⊥
held_not_few c x rest (as_number v) few k e w short = elim w [ inl z ↦ omega (arith, z.0) | inr z ↦ omega (arith, z.0) ]
held_not_few c x rest (as_eight v) few k e w short =
    elim w [ inl z ↦ omega (arith, z.1, short, ap length k.1, ap length e, length-append c x) | inr z ↦ omega (arith, z.0) ]
held_not_few c x rest (as_bytes v) few k e w short = elim w [ inl z ↦ omega (arith, z.0) | inr z ↦ omega (arith, z.0) ]
held_not_few c x rest (as_four v) few k e w short =
    elim w [ inl z ↦ omega (arith, z.0) | inr z ↦ omega (arith, z.1, short, ap length k.1, ap length e, length-append c x) ]

held_not_cut : (c x rest : List ℕ) (h : Held) → Holds c h → c ++ x ≡ rest → wire_of h ≡ 2 → IsCut rest → ⊥
held_not_cut c x rest (as_number v) k e w cut = omega (arith, w)
held_not_cut c x rest (as_eight v) k e w cut = omega (arith, w)
held_not_cut c x rest (as_bytes v) k e w cut = bytes_not_cut c x rest v k e cut
held_not_cut c x rest (as_four v) k e w cut = omega (arith, w)

-- the bytes do not end inside the content
held_not_past : (c x rest : List ℕ) (h : Held) (wire : ℕ) → Holds c h → wire ≡ wire_of h → c ++ x ≡ rest → ContentEnds wire rest → ⊥
held_not_past c x rest h wire k w e (in_number z early) = held_not_early c x rest h k e (inl (sym w ∙ z)) early
held_not_past c x rest h wire k w e (in_eight z few) = held_not_few c x rest h 8 k e (inl (sym w ∙ z, refl)) few
held_not_past c x rest h wire k w e (in_length z early) = held_not_early c x rest h k e (inr (sym w ∙ z)) early
held_not_past c x rest h wire k w e (in_bytes z cut) = held_not_cut c x rest h k e (sym w ∙ z) cut
held_not_past c x rest h wire k w e (in_four z few) = held_not_few c x rest h 4 k e (inr (sym w ∙ z, refl)) few

wire_known : (h : Held) → (wire_of h ≡ 0) ⊎ ((wire_of h ≡ 1) ⊎ ((wire_of h ≡ 2) ⊎ (wire_of h ≡ 5)))
wire_known (as_number v) = inl refl
wire_known (as_eight v) = inr (inl refl)
wire_known (as_bytes v) = inr (inr (inl refl))
wire_known (as_four v) = inr (inr (inr refl))

tag_is_good : (a : Entry) (number wire : ℕ) (fault : FieldFault) → IsNumber a.number → number ≡ a.number → wire ≡ wire_of a.held → IsTagFault number wire fault → ⊥
tag_is_good a number wire Zero good n w wrong = omega (arith, n, good.0, wrong)
tag_is_good a number wire TooLarge good n w wrong = omega (arith, n, good.1, wrong)
tag_is_good a number wire Group good n w wrong =
    let known = wire_known a.held in
    elim wrong.1 [ inl z ↦ omega (arith, known, w, z) | inr z ↦ omega (arith, known, w, z) ]
tag_is_good a number wire Reserved good n w wrong =
    let known = wire_known a.held in
    elim wrong.1 [ inl z ↦ omega (arith, known, w, z) | inr z ↦ omega (arith, known, w, z) ]
tag_is_good a number wire PastEnd good n w wrong = wrong
tag_is_good a number wire Long good n w wrong = wrong

content_is_good : (c x rest : List ℕ) (h : Held) (wire : ℕ) (fault : FieldFault) → Holds c h → wire ≡ wire_of h → c ++ x ≡ rest → IsContentFault wire rest fault → ⊥
content_is_good c x rest h wire Zero k w e wrong = wrong
content_is_good c x rest h wire TooLarge k w e wrong = wrong
content_is_good c x rest h wire Group k w e wrong = wrong
content_is_good c x rest h wire Reserved k w e wrong = wrong
content_is_good c x rest h wire PastEnd k w e wrong = held_not_past c x rest h wire k w e wrong
content_is_good c x rest h wire Long k w e wrong = held_not_long c x rest h wire k w e wrong

pub field_no_fault : (s x m : List ℕ) (a : Entry) (fault : FieldFault) → SpellsField s a → s ++ x ≡ m → IsFault m fault → ⊥
field_no_fault s x m a fault p e (tag_runs_on on is) = not_long p.tag (p.content ++ x) m p.spells_tag.spelling (front s x m a p e) on
field_no_fault s x m a fault p e (tag_ends some early is) = not_early p.tag (p.content ++ x) m p.spells_tag.spelling (front s x m a p e) early
field_no_fault s x m a fault p e (in_tag number wire rest tag wrong) =
    let t = tag_once s x m a p number wire rest e tag in
    tag_is_good a number wire fault p.number t.number_is t.wire_is wrong
field_no_fault s x m a fault p e (in_content number wire rest tag good wrong) =
    let t = tag_once s x m a p number wire rest e tag in
    content_is_good p.content x rest a.held wire fault p.spells_content t.wire_is t.rest_is wrong
