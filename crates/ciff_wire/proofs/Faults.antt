-- At most one fault stands at the front of a message.
use Rattle.std.proofs.Common.{◌≡◌, ◌⊎◌, ℕ, ◌/◌, ◌%◌, ◌^◌, ◌≤◌, List, take, drop, refl, sym, ap, subst, ◌∙◌, arith, inl, inr}
use Rattle.std.proofs.lemmas.List.{take-append-drop}
use Rattle.ciff_wire.specs.declared.field.FieldFault.{FieldFault}
use Rattle.ciff_wire.specs.declared.field.FieldFault.TheVariants.{Zero, TooLarge, Group, Reserved, PastEnd, Long}
use Rattle.ciff_wire.specs.Varint.{Reads, EndsEarly, RunsOn}
use Rattle.ciff_wire.specs.Field.{IsNumber, HasTag, ContentEnds, in_number, in_eight, in_length, in_bytes, in_four, IsTagFault, IsContentFault, tag_runs_on, tag_ends, in_tag, in_content}
use Rattle.ciff_wire.specs.Laws.{OneFault}
use Rattle.ciff_wire.proofs.SpellingFacts.{read_once, not_early, not_long}

read_not_long : (m : List ℕ) (value used : ℕ) → Reads m value used → RunsOn m → ⊥
read_not_long m value used r f = not_long (take used m) (drop used m) m r.spells.spelling (take-append-drop used m) f

read_not_early : (m : List ℕ) (value used : ℕ) → Reads m value used → EndsEarly m → ⊥
read_not_early m value used r f = not_early (take used m) (drop used m) m r.spells.spelling (take-append-drop used m) f

early_not_long : (m : List ℕ) → EndsEarly m → RunsOn m → ⊥
early_not_long m e f = omega (arith, e.few, f.many)

-- ---- one tag

same_tag : (m : List ℕ) (n w : ℕ) (r : List ℕ) (o v : ℕ) (s : List ℕ) → HasTag m n w r → HasTag m o v s → (n ≡ o) × (w ≡ v) × (r ≡ s)
same_tag m n w r o v s p q =
    let once = read_once (take p.used m) (drop p.used m) m q.value q.used p.reads.spells.spelling (take-append-drop p.used m) q.reads in
    let value : p.value ≡ q.value = sym p.reads.spells.sum ∙ sym once.2 in
    (p.number_is ∙ ap (λ (k : ℕ). k / 8) value ∙ sym q.number_is, p.wire_is ∙ ap (λ (k : ℕ). k % 8) value ∙ sym q.wire_is, p.rest_is ∙ sym once.1 ∙ sym q.rest_is)

-- ---- one fault of a tag and its content

past_end_known : (w : ℕ) (r : List ℕ) → ContentEnds w r → (w ≤ 2) ⊎ (w ≡ 5)
past_end_known w r (in_number z f) = inl (omega (arith, z))
past_end_known w r (in_eight z f) = inl (omega (arith, z))
past_end_known w r (in_length z f) = inl (omega (arith, z))
past_end_known w r (in_bytes z f) = inl (omega (arith, z))
past_end_known w r (in_four z f) = inr z

content_known : (w : ℕ) (r : List ℕ) (f : FieldFault) → IsContentFault w r f → (w ≤ 2) ⊎ (w ≡ 5)
content_known w r Zero p = absurd p
content_known w r TooLarge p = absurd p
content_known w r Group p = absurd p
content_known w r Reserved p = absurd p
content_known w r PastEnd p = past_end_known w r p
content_known w r Long p = inl (omega (arith, p.0))

-- a good tag has no fault where its wire type has content
tag_not_content : (n w : ℕ) (f : FieldFault) → IsNumber n → (w ≤ 2) ⊎ (w ≡ 5) → IsTagFault n w f → ⊥
tag_not_content n w Zero good known p = omega (arith, good.0, p)
tag_not_content n w TooLarge good known p = omega (arith, good.1, p)
tag_not_content n w Group good known p = omega (arith, known, p.1)
tag_not_content n w Reserved good known p = omega (arith, known, p.1)
tag_not_content n w PastEnd good known p = p
tag_not_content n w Long good known p = p

-- the numbers and wire types of each
abbrev IsAmong : ℕ → ℕ → FieldFault → Type 0
IsAmong n w Zero = n ≡ 0
IsAmong n w TooLarge = 2 ^ 29 ≤ n
IsAmong n w Group = IsNumber n × (3 ≤ w) × (w ≤ 4)
IsAmong n w Reserved = IsNumber n × (6 ≤ w)
IsAmong n w PastEnd = ⊥
IsAmong n w Long = ⊥

among : (n w : ℕ) (f : FieldFault) → IsTagFault n w f → IsAmong n w f
among n w Zero p = p
among n w TooLarge p = p
among n w Group p = (p.0, omega (arith, p.1), omega (arith, p.1))
among n w Reserved p = (p.0, omega (arith, p.1))
among n w PastEnd p = p
among n w Long p = p

same_among : (n w : ℕ) (f g : FieldFault) → IsAmong n w f → IsAmong n w g → f ≡ g
same_among n w Zero Zero p q = refl
same_among n w TooLarge TooLarge p q = refl
same_among n w Group Group p q = refl
same_among n w Reserved Reserved p q = refl
same_among n w PastEnd g p q = absurd p
same_among n w Long g p q = absurd p
same_among n w f PastEnd p q = absurd q
same_among n w f Long p q = absurd q
same_among n w f g p q = absurd (omega (arith, p, q))

not_both : (w : ℕ) (r : List ℕ) → ContentEnds w r → ((w ≡ 0) ⊎ (w ≡ 2)) × RunsOn r → ⊥
not_both w r (in_number z f) l = early_not_long r f l.1
not_both w r (in_eight z f) l = omega (arith, l.0, z)
not_both w r (in_length z f) l = early_not_long r f l.1
not_both w r (in_bytes z cut) l = read_not_long r cut.len cut.used cut.reads l.1
not_both w r (in_four z f) l = omega (arith, l.0, z)

same_content : (w : ℕ) (r : List ℕ) (f g : FieldFault) → IsContentFault w r f → IsContentFault w r g → f ≡ g
same_content w r PastEnd PastEnd p q = refl
same_content w r Long Long p q = refl
same_content w r PastEnd Long p q = absurd (not_both w r p q)
same_content w r Long PastEnd p q = absurd (not_both w r q p)
same_content w r Zero g p q = absurd p
same_content w r TooLarge g p q = absurd p
same_content w r Group g p q = absurd p
same_content w r Reserved g p q = absurd p
same_content w r f Zero p q = absurd q
same_content w r f TooLarge p q = absurd q
same_content w r f Group p q = absurd q
same_content w r f Reserved p q = absurd q

-- ---- one fault

tag_and_content : (m : List ℕ) (n w : ℕ) (r : List ℕ) (o v : ℕ) (s : List ℕ) (f : FieldFault) → HasTag m n w r → IsTagFault n w f → HasTag m o v s → IsNumber o → (v ≤ 2) ⊎ (v ≡ 5) → ⊥
tag_and_content m n w r o v s f p wrong q good known =
    let same = same_tag m n w r o v s p q in
    tag_not_content n w f (omega (arith, same.0, good.0), omega (arith, same.0, good.1)) (subst (λ (k : ℕ). (k ≤ 2) ⊎ (k ≡ 5)) (sym same.1) known) wrong

-- a tag that is read does not run on, nor end early
tag_not_long : (m : List ℕ) (n w : ℕ) (r : List ℕ) → HasTag m n w r → RunsOn m → ⊥
tag_not_long m n w r t on = read_not_long m t.value t.used t.reads on

tag_not_early : (m : List ℕ) (n w : ℕ) (r : List ℕ) → HasTag m n w r → EndsEarly m → ⊥
tag_not_early m n w r t early = read_not_early m t.value t.used t.reads early

pub one_fault : OneFault
one_fault m f g (tag_runs_on on is) (tag_runs_on also same) = is ∙ sym same
one_fault m f g (tag_runs_on on is) (tag_ends some early same) = absurd (early_not_long m early on)
one_fault m f g (tag_runs_on on is) (in_tag o v s tag wrong) = absurd (tag_not_long m o v s tag on)
one_fault m f g (tag_runs_on on is) (in_content o v s tag good wrong) = absurd (tag_not_long m o v s tag on)
one_fault m f g (tag_ends some early is) (tag_runs_on on same) = absurd (early_not_long m early on)
one_fault m f g (tag_ends some early is) (tag_ends also too same) = is ∙ sym same
one_fault m f g (tag_ends some early is) (in_tag o v s tag wrong) = absurd (tag_not_early m o v s tag early)
one_fault m f g (tag_ends some early is) (in_content o v s tag good wrong) = absurd (tag_not_early m o v s tag early)
one_fault m f g (in_tag n w r tag wrong) (tag_runs_on on same) = absurd (tag_not_long m n w r tag on)
one_fault m f g (in_tag n w r tag wrong) (tag_ends some early same) = absurd (tag_not_early m n w r tag early)
one_fault m f g (in_tag n w r tag wrong) (in_tag o v s other bad) =
    let same = same_tag m n w r o v s tag other in
    same_among o v f g (among o v f (subst (λ (k : ℕ). IsTagFault o k f) same.1 (subst (λ (k : ℕ). IsTagFault k w f) same.0 wrong))) (among o v g bad)
one_fault m f g (in_tag n w r tag wrong) (in_content o v s other good bad) =
    absurd (tag_and_content m n w r o v s f tag wrong other good (content_known v s g bad))
one_fault m f g (in_content n w r tag good wrong) (tag_runs_on on same) = absurd (tag_not_long m n w r tag on)
one_fault m f g (in_content n w r tag good wrong) (tag_ends some early same) = absurd (tag_not_early m n w r tag early)
one_fault m f g (in_content n w r tag good wrong) (in_tag o v s other bad) =
    absurd (tag_and_content m o v s n w r g other bad tag good (content_known w r f wrong))
one_fault m f g (in_content n w r tag good wrong) (in_content o v s other fine bad) =
    let same = same_tag m n w r o v s tag other in
    same_content v s f g (subst (λ (t : List ℕ). IsContentFault v t f) same.2 (subst (λ (k : ℕ). IsContentFault k r f) same.1 wrong)) bad
