-- Small files that are refused at their first byte.
use Rattle.std.proofs.Common.{◌≡◌, ℕ, suc, ◌+◌, ◌-◌, ◌%◌, ◌^◌, ◌<◌, ◌≤◌, true, false, pos, negsuc, List, [], ◌∷◌, length, refl, ap, subst, arith, inl, inr}
use Rattle.std.specs.Prelude.{◌≤ℤ◌}
use Rattle.std.specs.Str.{IsUtf8, is_utf8, chars}
use Rattle.std.specs.List.{All}
use Rattle.std.proofs.lemmas.Int.{ints}
use Rattle.std.proofs.lemmas.Str.{IsUtf8-had, is_utf8-from_IsUtf8}
use Rattle.std.proofs.lemmas.List.{take_all}
use Rattle.std.proofs.lemmas.List.Elements.{All-cons, All-nil, All-head, All-from_recursion}
use Rattle.ciff_wire.specs.declared.field.FieldFault.TheVariants.{Group}
use Rattle.ciff_wire.specs.Varint.{groups, varint, Spells, Reads}
use Rattle.ciff_wire.specs.Field.{Entry, as_number, as_bytes, IsMessage, HasTag, in_tag}
use Rattle.ciff_wire.specs.Laws.{VarintIsShortest, OneMessage, FaultIsNoMessage}
use Rattle.ciff_format.specs.declared.cause.Cause.TheVariants.{CutShort, BadLength, BadField, BadText, BadCount}
use Rattle.ciff_format.specs.Fields.{header_table, HasItsType, HasText, AreTexts, held_at, int32_at}
use Rattle.ciff_format.specs.Messages.{MessageAt}
use Rattle.ciff_format.specs.Refused.{Refused, at_header}
use Rattle.ciff_format.proofs.SmallMessages.{one_byte, reads_one, bytes_piece, whole}
use Rattle.ciff_format.specs.Rows.{minus_one, endless_length, huge_length, group_field, version_as_bytes, broken_text, negative_count}

-- a message of few bytes behind its length
short_message : (m : List ℕ) (size : ℕ) → size ≡ length m → size < 128 → MessageAt (size ∷ m) 0 m (suc size)
short_message m size same small = record {
  used = 1;
  reads = subst (λ k. Reads (size ∷ m) k 1) same (reads_one size m small);
  stands = take_all (length m) m (omega arith);
  ends = omega (arith, same);
  within = omega (arith, same);
  near = omega (arith, small);
}

-- ---- the rows

pub empty_file : Refused [] 0 CutShort
empty_file = at_header refl (inl (record { few = omega arith; unended = All-nil (λ b. 128 ≤ b) }))

pub endless : Refused endless_length 0 BadLength
endless = at_header refl (inl (record { many = omega arith; unended = All-from_recursion (λ b. 128 ≤ b) endless_length (omega arith) }))

huge_spells : VarintIsShortest → Spells huge_length (2 ^ 63 - 1)
unfolding varint groups
huge_spells shortest = let least = shortest (2 ^ 63 - 1) (omega arith) in record { spelling = least.0; sum = ap (λ v. v % 2 ^ 64) least.1 }

pub huge : VarintIsShortest → Refused huge_length 0 BadLength
huge shortest =
    at_header refl (inr (
      9 + (2 ^ 63 - 1),
      record {
        size = 2 ^ 63 - 1;
        used = 9;
        reads = record { within = omega arith; spells = huge_spells shortest };
        ends = omega arith;
      },
      omega arith,
    ))

pub group : FaultIsNoMessage → Refused group_field 0 BadField
group law =
    let m : List ℕ = 0x0b ∷ [] in
    let tag : HasTag m 1 3 [] = record { value = 11; used = 1; reads = reads_one 11 [] (omega arith); number_is = refl; wire_is = refl; rest_is = refl } in
    at_header refl (m, 2, short_message m 1 refl (omega arith), λ fields has. law m Group fields (in_tag 1 3 [] tag ((omega arith, omega arith), inl refl)) has.spelt)

pub other_type : OneMessage → Refused version_as_bytes 0 BadField
other_type one =
    let m : List ℕ = 0x0a ∷ 0x00 ∷ [] in
    let entry : Entry = record { number = 1; held = as_bytes [] } in
    let is : IsMessage m (entry ∷ []) = whole (bytes_piece 10 1 0 [] refl (omega arith) (omega arith) refl (omega arith) ∷ []) in
    at_header refl (
      m,
      3,
      short_message m 2 refl (omega arith),
      λ fields has.
          let same = one m fields (entry ∷ []) has.spelt is in
          let types = subst (λ (fs : List Entry). All (HasItsType header_table) fs) same has.types in
          let wrong = (All-head (HasItsType header_table) entry [] types).0 refl in
          omega (arith, wrong),
    )

not_utf8 : IsUtf8 (0xff ∷ []) → ⊥
unfolding is_utf8 chars
not_utf8 is = false_is (is_utf8-from_IsUtf8 (0xff ∷ []) is)
  where
    false_is : is_utf8 (0xff ∷ []) ≡ true → ⊥
    false_is e = let f : is_utf8 (0xff ∷ []) ≡ false = refl in cc

pub broken : Refused broken_text 0 BadText
broken =
    let m : List ℕ = 0x42 ∷ 0x01 ∷ 0xff ∷ [] in
    let entry : Entry = record { number = 8; held = as_bytes (0xff ∷ []) } in
    let is : IsMessage m (entry ∷ []) = whole (bytes_piece 66 8 1 (0xff ∷ []) refl (omega arith) (omega arith) refl (omega arith) ∷ []) in
    let types : All (HasItsType header_table) (entry ∷ []) = All-cons (HasItsType header_table) entry [] (omega arith) (All-nil (HasItsType header_table)) in
    at_header refl (
      m,
      4,
      short_message m 3 refl (omega arith),
      (
        entry ∷ [],
        record { spelt = is; types = types },
        λ texts.
            let text = All-head (HasText header_table) entry [] texts in
            not_utf8 (IsUtf8-had (0xff ∷ []) (text.1.1.1.1.1.1.1.0 refl)),
      ),
    )

minus_one_spells : VarintIsShortest → Spells minus_one (2 ^ 64 - 1)
unfolding varint groups
minus_one_spells shortest = let least = shortest (2 ^ 64 - 1) (omega arith) in record { spelling = least.0; sum = ap (λ v. v % 2 ^ 64) least.1 }

is_negative : int32_at 2 (record { number = 2; held = as_number (2 ^ 64 - 1) } ∷ []) ≡ negsuc 0
unfolding held_at
is_negative = refl

pub negative : VarintIsShortest → Refused negative_count 0 BadCount
negative shortest =
    let m : List ℕ = 0x10 ∷ minus_one in
    let entry : Entry = record { number = 2; held = as_number (2 ^ 64 - 1) } in
    let is : IsMessage m (entry ∷ []) = (
      m,
      [],
      record {
        number = (omega arith, omega arith);
        tag = 0x10 ∷ [];
        content = minus_one;
        spells_tag = one_byte 16 (omega arith);
        spells_content = minus_one_spells shortest;
        parts = refl;
      },
      refl,
      refl,
    ) in
    let types : All (HasItsType header_table) (entry ∷ []) = All-cons (HasItsType header_table) entry [] (omega arith) (All-nil (HasItsType header_table)) in
    let texts : AreTexts header_table (entry ∷ []) = All-cons (HasText header_table) entry [] ((λ e. tt), ((λ e. tt), ((λ e. tt), ((λ e. tt), ((λ e. tt), ((λ e. tt), ((λ e. tt), ((λ e. absurd (omega (arith, e))), tt)))))))) (All-nil (HasText header_table)) in
    at_header refl (
      m,
      12,
      short_message m 11 refl (omega arith),
      (
        entry ∷ [],
        record { spelt = is; types = types },
        (
          texts,
          λ counts.
              let low : pos 0 ≤ℤ negsuc 0 = subst (λ z. pos 0 ≤ℤ z) is_negative counts.lists in
              omega (arith, ints, low),
        ),
      ),
    )
