-- A message has one list of fields, and the canonical spelling of fields is a message of them.
use Rattle.std.proofs.Common.{◌≡◌, ℕ, ◌+◌, ◌*◌, List, [], ◌∷◌, ◌++◌, length, take, drop, refl, sym, ap, subst, ◌∙◌, arith, length-append}
use Rattle.std.proofs.lemmas.List.{take-append-drop, length-take}
use Rattle.ciff_wire.specs.declared.field.FieldFault.{FieldFault}
use Rattle.ciff_wire.specs.Field.{Held, Entry, as_number, as_eight, as_bytes, as_four, wire_of, Holds, SpellsField, IsMessage, HasTag, IsFault, tag_runs_on, tag_ends, in_tag, in_content}
use Rattle.ciff_wire.specs.Canonical.{spelling_of, spelling_of_held, message_of, tag_of}
use Rattle.ciff_wire.specs.Laws.{FitsHeld, CanonicalSpells, CanonicalIsMessage, OneMessage, FirstIsTaken, FirstIsPut, FaultIsNoMessage, FieldIsTakenAgain, FieldIsNoFault}
use Rattle.ciff_wire.proofs.SpellingFacts.{varint_spells}
use Rattle.ciff_wire.proofs.Fields.{wire_fits, same_field, field_some, field_no_fault}

-- ---- the canonical spelling

canonical_held : (h : Held) → FitsHeld h → Holds (spelling_of_held h) h
canonical_held (as_number v) fits = varint_spells v fits
canonical_held (as_eight v) fits = (fits, refl)
canonical_held (as_bytes bs) fits = (_, varint_spells (length bs) fits, refl)
canonical_held (as_four v) fits = (fits, refl)

pub canonical_spells : CanonicalSpells
canonical_spells entry fits = record {
  number = fits.0;
  tag = tag_of entry.number (wire_of entry.held);
  content = spelling_of_held entry.held;
  spells_tag = varint_spells (entry.number * 8 + wire_of entry.held) (omega (arith, fits.0.1, wire_fits entry.held));
  spells_content = canonical_held entry.held fits.1;
  parts = refl;
}

pub canonical_is_message : CanonicalIsMessage
unfolding message_of
canonical_is_message [] all = refl
canonical_is_message (e ∷ es) all = (spelling_of e, message_of es, canonical_spells e all.0, canonical_is_message es all.1, refl)

-- ---- one list of fields

-- the front of a field and the rest cannot be empty
not_empty : (s x m : List ℕ) (a : Entry) → SpellsField s a → s ++ x ≡ m → m ≡ [] → ⊥
not_empty s x m a p e f = omega (arith, field_some s a p, ap length e, ap length f, length-append s x)

pub one_message : OneMessage
one_message m [] [] p q = refl
one_message m [] (b ∷ bs) p q = absurd (not_empty q.0 q.1 m b q.2 (sym q.4) p)
one_message m (a ∷ rs) [] p q = absurd (not_empty p.0 p.1 m a p.2 (sym p.4) q)
one_message m (a ∷ rs) (b ∷ bs) p q =
    let same = same_field p.0 q.0 p.1 q.1 a b p.2 q.2 (sym p.4 ∙ q.4) in
    let rest : IsMessage p.1 bs = subst (λ (t : List ℕ). IsMessage t bs) (sym same.1) q.3 in
    ap (λ (e : Entry). e ∷ rs) same.2 ∙ ap (λ (es : List Entry). b ∷ es) (one_message p.1 rs bs p.3 rest)

pub first_is_taken : FirstIsTaken
first_is_taken m [] entry used within p q = absurd (not_empty (take used m) (drop used m) m entry p (take-append-drop used m) q)
first_is_taken m (e ∷ es) entry used within p q =
    let same = same_field (take used m) q.0 (drop used m) q.1 entry e p q.2 (take-append-drop used m ∙ q.4) in
    (es, ap (λ (f : Entry). f ∷ es) (sym same.2), subst (λ (t : List ℕ). IsMessage t es) (sym same.1) q.3)

pub first_is_put : FirstIsPut
first_is_put m others entry used within p q = (take used m, drop used m, p, q, sym (take-append-drop used m))

-- no fault stands where nothing does
no_tag : (m : List ℕ) (number wire : ℕ) (rest : List ℕ) → m ≡ [] → HasTag m number wire rest → ⊥
no_tag m number wire rest e t =
    omega (arith, ap length e, t.reads.within, length-take t.used m, t.reads.spells.spelling.some)

empty_no_fault : (m : List ℕ) (fault : FieldFault) → m ≡ [] → IsFault m fault → ⊥
empty_no_fault m fault e (tag_runs_on on is) = omega (arith, ap length e, on.many)
empty_no_fault m fault e (tag_ends some early is) = omega (arith, ap length e, some)
empty_no_fault m fault e (in_tag number wire rest tag wrong) = no_tag m number wire rest e tag
empty_no_fault m fault e (in_content number wire rest tag good wrong) = no_tag m number wire rest e tag

pub fault_is_no_message : FaultIsNoMessage
fault_is_no_message m fault [] f q = empty_no_fault m fault q f
fault_is_no_message m fault (e ∷ es) f q = field_no_fault q.0 q.1 m e fault q.2 (sym q.4) f

-- ---- a field is taken again

pub field_is_taken_again : FieldIsTakenAgain
field_is_taken_again text rest entry other used p within q =
    let m = text ++ rest in
    let same = same_field (take used m) text (drop used m) rest other entry q p (take-append-drop used m) in
    (same.2, omega (arith, ap length same.0, length-take used m, within))

pub field_is_no_fault : FieldIsNoFault
field_is_no_fault text rest entry fault p f = field_no_fault text rest (text ++ rest) entry fault p refl f
