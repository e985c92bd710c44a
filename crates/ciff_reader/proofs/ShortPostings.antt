-- A posting that is spelt as most are: one byte of a tag and one of a length, and then the gap and the frequency, each behind one byte of a tag.
use Rattle.std.proofs.Common.{◌≡◌, inl, inr, ℕ, suc, ◌+◌, ◌-◌, ◌*◌, ◌/◌, ◌%◌, ◌^◌, ◌<◌, ◌≤◌, List, [], ◌∷◌, length, take, drop, get_or, refl, sym, ap, subst, ◌∙◌, arith}
use Rattle.std.specs.Int.{w32, cast_signed}
use Rattle.std.proofs.Math.Seq.{take-add}
use Rattle.std.proofs.lemmas.Bool.{cases_lt}
use Rattle.std.proofs.lemmas.List.{append-nil, length-take, length-drop, get_or-drop}
use Rattle.std.proofs.lemmas.List.Elements.{All-nil, All-cons}
use Rattle.ciff_wire.specs.Varint.{sum_of, sum_from, Spells, Reads}
use Rattle.ciff_wire.specs.Field.{Entry, as_number, as_bytes, SpellsField}
use Rattle.ciff_format.specs.Fields.{posting_table, HasItsType, HasFields, held_at}
use Rattle.ciff_reader.specs.declared.posting.PostingFields.{PostingFields}
use Rattle.ciff_reader.specs.Says.{SaysPosting}
use Rattle.ciff_reader.specs.Listing.{StartsWithPosting}

-- a byte without the top bit spells itself
pub spells_one : (b : ℕ) → b < 128 → Spells (b ∷ []) b
unfolding sum_of sum_from
spells_one b small = record {
  spelling = record {
    octets = All-cons (λ b. b < 256) b [] (omega arith) (All-nil (λ b. b < 256));
    some = omega arith;
    most = omega arith;
    goes_on = All-nil (λ b. 128 ≤ b);
    ends = small;
  };
  sum = omega arith;
}

-- ---- varints of one to three bytes

pub reads_one : (bytes : List ℕ) (value : ℕ) → 1 ≤ length bytes → value ≡ get_or bytes 0 0 → value < 128 → Reads bytes value 1
reads_one [] value some is end = absurd (omega arith)
reads_one (a ∷ rest) value some is end = record { within = omega arith; spells = subst (Spells (a ∷ [])) (sym is) (spells_one a (omega (arith, is, end))) }

pub reads_two : (bytes rest : List ℕ) (value : ℕ) → rest ≡ drop 1 bytes → 1 ≤ length rest → get_or bytes 0 0 < 256 → 128 ≤ get_or bytes 0 0 → get_or rest 0 0 < 128
    → value ≡ get_or bytes 0 0 - 128 + get_or rest 0 0 * 128 → Reads bytes value 2
unfolding sum_of sum_from
reads_two [] rest value behind some low on end is = absurd (omega arith)
reads_two (a ∷ []) rest value behind some low on end is = absurd (omega (arith, ap length behind))
reads_two (a ∷ b ∷ bs) rest value behind some low on end is =
    let second : get_or rest 0 0 ≡ b = ap (λ (l : List ℕ). get_or l 0 0) behind in
    record {
      within = omega arith;
      spells = record {
        spelling = record {
          octets = All-cons (λ b. b < 256) a (b ∷ []) low (All-cons (λ b. b < 256) b [] (omega arith) (All-nil (λ b. b < 256)));
          some = omega arith;
          most = omega arith;
          goes_on = All-cons (λ b. 128 ≤ b) a [] on (All-nil (λ b. 128 ≤ b));
          ends = omega (arith, second, end);
        };
        sum = omega (arith, is, low, on, end, second);
      };
    }

pub next_below : (bytes rest : List ℕ) → rest ≡ drop 1 bytes → get_or bytes 1 0 < 256 → get_or rest 0 0 < 256
next_below [] rest behind small = omega (arith, ap (λ (l : List ℕ). get_or l 0 0) behind)
next_below (a ∷ bs) rest behind small = omega (arith, ap (λ (l : List ℕ). get_or l 0 0) behind, small)

pub reads_three : (bytes rest last : List ℕ) (value : ℕ) → rest ≡ drop 1 bytes → last ≡ drop 1 rest → 1 ≤ length last
    → get_or bytes 0 0 < 256 → 128 ≤ get_or bytes 0 0 → get_or rest 0 0 < 256 → 128 ≤ get_or rest 0 0 → get_or last 0 0 < 128
    → value ≡ get_or bytes 0 0 - 128 + get_or rest 0 0 * 128 - 16384 + get_or last 0 0 * 16384 → Reads bytes value 3
unfolding sum_of sum_from
reads_three [] rest last value behind behind' some low on middle on' end is = absurd (omega arith)
reads_three (a ∷ []) rest last value behind behind' some low on middle on' end is = absurd (omega (arith, ap length (behind' ∙ ap (drop 1) behind)))
reads_three (a ∷ b ∷ []) rest last value behind behind' some low on middle on' end is = absurd (omega (arith, ap length (behind' ∙ ap (drop 1) behind)))
reads_three (a ∷ b ∷ h ∷ bs) rest last value behind behind' some low on middle on' end is =
    let second : get_or rest 0 0 ≡ b = ap (λ (l : List ℕ). get_or l 0 0) behind in
    let third : get_or last 0 0 ≡ h = ap (λ (l : List ℕ). get_or l 0 0) (behind' ∙ ap (drop 1) behind) in
    record {
      within = omega arith;
      spells = record {
        spelling = record {
          octets = All-cons (λ b. b < 256) a (b ∷ h ∷ []) low (All-cons (λ b. b < 256) b (h ∷ []) (omega (arith, second, middle)) (All-cons (λ b. b < 256) h [] (omega (arith, third, end)) (All-nil (λ b. b < 256))));
          some = omega arith;
          most = omega arith;
          goes_on = All-cons (λ b. 128 ≤ b) a (b ∷ []) on (All-cons (λ b. 128 ≤ b) b [] (omega (arith, second, on')) (All-nil (λ b. 128 ≤ b)));
          ends = omega (arith, third, end);
        };
        sum = omega (arith, is, low, on, middle, on', end, second, third);
      };
    }

-- ---- a number behind its tag

pub number_spelt : (bytes : List ℕ) (tag value used : ℕ) → 0 < tag → tag < 128 → tag % 8 ≡ 0 → 0 < length bytes → get_or bytes 0 0 ≡ tag → Reads (drop 1 bytes) value used
    → SpellsField (take (1 + used) bytes) (record { number = tag / 8; held = as_number value })
number_spelt [] tag value used above below which some is reads = absurd (omega arith)
number_spelt (b ∷ rest) tag value used above below which some is reads =
    let more : 1 + used ≡ suc used = omega arith in
    let whole : b ≡ tag / 8 * 8 + 0 = omega (arith, which, is) in
    record {
      number = (omega (arith, above, which), omega (arith, below));
      tag = b ∷ [];
      content = take used rest;
      spells_tag = subst (Spells (b ∷ [])) whole (spells_one b (omega (arith, below, is)));
      spells_content = reads.spells;
      parts = rw more refl;
    }

-- ---- a text of fewer than 128 bytes behind its tag

abbrev pub text_entry : ℕ → List ℕ → Entry
text_entry number text = record { number = number; held = as_bytes text }

pub text_spelt : (bytes text : List ℕ) (tag : ℕ) → 2 < tag → tag < 128 → tag % 8 ≡ 2 → 2 ≤ length bytes → get_or bytes 0 0 ≡ tag → get_or bytes 1 0 < 128 → get_or bytes 1 0 ≤ length (drop 2 bytes)
    → text ≡ take (get_or bytes 1 0) (drop 2 bytes)
    → SpellsField (take (2 + get_or bytes 1 0) bytes) (text_entry (tag / 8) text)
text_spelt [] text tag above below which some first small within is = absurd (omega (arith, some))
text_spelt (t ∷ []) text tag above below which some first small within is = absurd (omega (arith, some))
text_spelt (t ∷ size ∷ rest) text tag above below which some first small within is =
    let more : 2 + size ≡ suc (suc size) = omega arith in
    let count : size ≡ length text = omega (arith, ap length is, length-take size rest, within) in
    let whole : t ≡ tag / 8 * 8 + 2 = omega (arith, which, first) in
    record {
      number = (omega (arith, above, which), omega (arith, below));
      tag = t ∷ [];
      content = size ∷ text;
      spells_tag = subst (Spells (t ∷ [])) whole (spells_one t (omega (arith, below, first)));
      spells_content = (size ∷ [], subst (Spells (size ∷ [])) count (spells_one size small), refl);
      parts = rw more (ap (λ (bs : List ℕ). t ∷ size ∷ bs) (sym is));
    }

-- ---- a posting

abbrev pub number_entry : ℕ → ℕ → Entry
number_entry number value = record { number = number; held = as_number value }

abbrev row_of : ℕ → ℕ → List Entry
row_of gap tf = number_entry 1 gap ∷ number_entry 2 tf ∷ []

row_read : (content : List ℕ) (gap tf first second : ℕ) → SpellsField (take first content) (number_entry 1 gap) → SpellsField (take second (drop first content)) (number_entry 2 tf)
    → HasFields posting_table (take (first + second) content) (row_of gap tf)
row_read content gap tf first second one two = record {
  spelt = (
    take first content,
    take second (drop first content),
    one,
    (take second (drop first content), [], two, refl, sym (append-nil (take second (drop first content)))),
    take-add first second content,
  );
  types = All-cons (HasItsType posting_table) (number_entry 1 gap) (number_entry 2 tf ∷ []) (λ _. refl, (λ _. refl, tt))
      (All-cons (HasItsType posting_table) (number_entry 2 tf) [] (λ _. refl, (λ _. refl, tt)) (All-nil (HasItsType posting_table)));
}

row_says : (gap tf : ℕ) (kept : PostingFields) → kept.gap ≡ cast_signed w32 (gap % 2 ^ 32) → kept.tf ≡ cast_signed w32 (tf % 2 ^ 32) → SaysPosting (row_of gap tf) kept
unfolding held_at
row_says gap tf kept gap_is tf_is = record { gap = gap_is; tf = tf_is }

pub posting_starts : (bytes content : List ℕ) (gap tf first second : ℕ) (kept : PostingFields) → 2 ≤ length bytes → get_or bytes 0 0 ≡ 34 → get_or bytes 1 0 ≡ first + second → first + second < 128
    → content ≡ drop 2 bytes → first + second ≤ length content
    → SpellsField (take first content) (number_entry 1 gap) → SpellsField (take second (drop first content)) (number_entry 2 tf)
    → kept.gap ≡ cast_signed w32 (gap % 2 ^ 32) → kept.tf ≡ cast_signed w32 (tf % 2 ^ 32)
    → StartsWithPosting bytes kept (2 + (first + second))
posting_starts [] content gap tf first second kept some tag size small behind within one two gap_is tf_is = absurd (omega arith)
posting_starts (b ∷ []) content gap tf first second kept some tag size small behind within one two gap_is tf_is = absurd (omega arith)
posting_starts (b ∷ len ∷ rest) content gap tf first second kept some tag size small behind within one two gap_is tf_is =
    let posting = take (first + second) content in
    let count : len ≡ length posting = omega (arith, size, within, length-take (first + second) content) in
    let more : 2 + (first + second) ≡ suc (suc (first + second)) = omega arith in
    record {
      posting = posting;
      within = omega (arith, within, ap length behind);
      spells = record {
        number = (omega arith, omega arith);
        tag = b ∷ [];
        content = len ∷ posting;
        spells_tag = subst (Spells (b ∷ [])) tag (spells_one b (omega (arith, tag)));
        spells_content = (len ∷ [], subst (Spells (len ∷ [])) count (spells_one len (omega (arith, size, small))), refl);
        parts = rw more (ap (λ (bs : List ℕ). b ∷ len ∷ take (first + second) bs) (sym behind));
      };
      read = record {
        fields = row_of gap tf;
        read = row_read content gap tf first second one two;
        says = row_says gap tf kept gap_is tf_is;
      };
    }

-- ---- within eight bytes

-- what three bytes begin with
pub record Begins (low middle high value len : ℕ) : Type 0 where
  pub one : low < 128 → (value ≡ low) × (len ≡ 1)
  pub two : 128 ≤ low → middle < 128 → (value ≡ low - 128 + middle * 128) × (len ≡ 2)
  pub three : 128 ≤ low → 128 ≤ middle → high < 128 → (value ≡ low - 128 + middle * 128 - 16384 + high * 16384) × (len ≡ 3)
  pub more : 128 ≤ low → 128 ≤ middle → high < 128

begins_read : (text : List ℕ) (value len : ℕ) → 3 ≤ length text → get_or text 0 0 < 256 → get_or text 1 0 < 256 → Begins (get_or text 0 0) (get_or text 1 0) (get_or text 2 0) value len → Reads text value len
begins_read [] value len some low middle begins = absurd (omega arith)
begins_read (a ∷ []) value len some low middle begins = absurd (omega arith)
begins_read (a ∷ b ∷ []) value len some low middle begins = absurd (omega arith)
begins_read (a ∷ b ∷ h ∷ rest) value len some low middle begins =
    let text = a ∷ b ∷ h ∷ rest in
    elim (cases_lt a 128) [
      | inl end ↦ let is = begins.one end in subst (Reads text value) (sym is.1) (reads_one text value (omega arith) is.0 (omega (arith, is.0, end)))
      | inr on ↦ elim (cases_lt b 128) [
        | inl end ↦ let is = begins.two on end in subst (Reads text value) (sym is.1) (reads_two text (b ∷ h ∷ rest) value refl (omega arith) low on end is.0)
        | inr on' ↦ elim (cases_lt h 128) [
          | inl end ↦ let is = begins.three on on' end in
              subst (Reads text value) (sym is.1) (reads_three text (b ∷ h ∷ rest) (h ∷ rest) value refl refl (omega arith) low on middle on' end is.0)
          | inr on'' ↦ absurd (omega (arith, begins.more on on', on''))
        ]
      ]
    ]

few_bytes : (low middle high value len : ℕ) → Begins low middle high value len → len ≤ 3
few_bytes low middle high value len begins =
    elim (cases_lt low 128) [
      | inl end ↦ omega (arith, (begins.one end).1)
      | inr on ↦ elim (cases_lt middle 128) [
        | inl end ↦ omega (arith, (begins.two on end).1)
        | inr on' ↦ elim (cases_lt high 128) [ inl end ↦ omega (arith, (begins.three on on' end).1) | inr on'' ↦ absurd (omega (arith, begins.more on on', on'')) ]
      ]
    ]

byte_behind : (bytes : List ℕ) (n k place : ℕ) → place ≡ 2 + (n + k) → get_or (drop n (drop 2 bytes)) k 0 ≡ get_or bytes place 0
byte_behind bytes n k place is = get_or-drop n (drop 2 bytes) k 0 ∙ get_or-drop 2 bytes (n + k) 0 ∙ ap (λ (i : ℕ). get_or bytes i 0) (sym is)

pub eight_start : (bytes : List ℕ) (gap len size tf : ℕ) (kept : PostingFields) → 8 ≤ length bytes → get_or bytes 3 0 < 256 → get_or bytes 4 0 < 256
    → get_or bytes 0 0 ≡ 34 → get_or bytes 1 0 ≡ size → get_or bytes 2 0 ≡ 8 → Begins (get_or bytes 3 0) (get_or bytes 4 0) (get_or bytes 5 0) gap len → size ≡ len + 3
    → get_or bytes size 0 ≡ 16 → get_or bytes (size + 1) 0 ≡ tf → tf < 128
    → kept.gap ≡ cast_signed w32 (gap % 2 ^ 32) → kept.tf ≡ cast_signed w32 (tf % 2 ^ 32)
    → StartsWithPosting bytes kept (size + 2)
eight_start [] gap len size tf kept some low middle tag size_is first begins size_of second tf_is tf_small gap_says tf_says = absurd (omega arith)
eight_start (t ∷ []) gap len size tf kept some low middle tag size_is first begins size_of second tf_is tf_small gap_says tf_says = absurd (omega arith)
eight_start (t ∷ s ∷ []) gap len size tf kept some low middle tag size_is first begins size_of second tf_is tf_small gap_says tf_says = absurd (omega arith)
eight_start (t ∷ s ∷ f ∷ rest) gap len size tf kept some low middle tag size_is first begins size_of second tf_is tf_small gap_says tf_says =
    let bytes = t ∷ s ∷ f ∷ rest in
    let content = f ∷ rest in
    let behind = drop (1 + len) content in
    let few : len ≤ 3 = few_bytes (get_or rest 0 0) (get_or rest 1 0) (get_or rest 2 0) gap len begins in
    let long : length behind ≡ length content - (1 + len) = length-drop (1 + len) content in
    let last : tf ≡ get_or (drop 1 behind) 0 0 = sym (get_or-drop 1 behind 0 0 ∙ byte_behind bytes (1 + len) 1 (size + 1) (omega (arith, size_of)) ∙ tf_is) in
    let one = number_spelt content 8 gap len (omega arith) (omega arith) refl (omega arith) first (begins_read rest gap len (omega (arith, some)) low middle begins) in
    let two = number_spelt behind 16 tf 1 (omega arith) (omega arith) refl (omega (arith, long, few, some)) (byte_behind bytes (1 + len) 0 size (omega (arith, size_of)) ∙ second)
    (reads_one (drop 1 behind) tf (omega (arith, long, few, some, length-drop 1 behind)) last tf_small) in
    let used : 2 + (1 + len + 2) ≡ size + 2 = omega (arith, size_of) in
    subst (StartsWithPosting bytes kept) used
    (posting_starts bytes content gap tf (1 + len) 2 kept (omega (arith, some)) tag (omega (arith, size_is, size_of)) (omega (arith, few)) refl (omega (arith, some, few)) one two gap_says tf_says)
