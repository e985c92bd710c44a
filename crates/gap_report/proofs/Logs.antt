-- The floor of a logarithm is an exponent between two powers.
use Rattle.std.proofs.Common.{◌≡◌, ℕ, zero, suc, ◌+◌, ◌-◌, ◌*◌, ◌/◌, ◌^◌, ◌<◌, ◌≤◌, min, true, false, cond, nat_lt, leb, length, ap, ◌∙◌, inl, inr, arith, add-one}
use Rattle.std.specs.Prelude.{count_by}
use Rattle.std.specs.List.{range_with_len}
use Rattle.std.proofs.Math.Nat.{pow-le-pow_right}
use Rattle.std.proofs.lemmas.Bool.{cases_lt, le-leb, lt-leb}
use Rattle.std.proofs.lemmas.Bool.Decides.{Decides-ltb, nat_tests}
use Rattle.std.proofs.lemmas.Nat.{leading_top, pow-add}
use Rattle.std.proofs.lemmas.List.Sums.{sum_by-cons}
use Rattle.ciff_wire.specs.Varint.{varint, groups}
use Rattle.gap_report.specs.Codes.{floor_log, varint_bytes}
use Rattle.gap_report.specs.Laws.{FloorLogIsGreatest}

-- the number of the exponents from `from` on, at most so many, whose power is not above the number
powers_below : (number e most from : ℕ) → 2 ^ e ≤ number → number < 2 ^ (e + 1) → count_by (λ power. leb (2 ^ power) number) (range_with_len from most) ≡ min most (e + 1 - from)
powers_below number e zero from low high = omega arith
powers_below number e (suc most) from low high =
    let others : count_by (λ power. leb (2 ^ power) number) (range_with_len (from + 1) most) ≡ min most (e + 1 - (from + 1)) = powers_below number e most (from + 1) low high in
    let split = sum_by-cons (λ power. cond (leb (2 ^ power) number) 1 0) from (range_with_len (from + 1) most) in
    elim (cases_lt e from) [
      | inl above ↦ let more : 2 ^ (e + 1) ≤ 2 ^ from = pow-le-pow_right {n = 2} (omega arith) (omega arith) in
          let none : leb (2 ^ from) number ≡ false = lt-leb (2 ^ from) number (omega arith) in
          split ∙ rw none (omega (arith, others))
      | inr within ↦ let less : 2 ^ from ≤ 2 ^ e = pow-le-pow_right {n = 2} (omega arith) (omega arith) in
          let one : leb (2 ^ from) number ≡ true = le-leb (2 ^ from) number (omega arith) in
          split ∙ rw one (omega (arith, others))
    ]

pub floor_log_is : (number e : ℕ) → e ≤ 64 → 2 ^ e ≤ number → number < 2 ^ (e + 1) → floor_log number ≡ e
unfolding floor_log
floor_log_is number e most low high = powers_below number e 64 1 low high ∙ omega arith

pub floor_log_is_greatest : FloorLogIsGreatest
floor_log_is_greatest number some most =
    let top = leading_top 64 number some most in
    let e : ℕ = top.0 in
    let low : 2 ^ e ≤ number = top.2 in
    let high : number < 2 ^ (e + 1) = rw add-one top.3 in
    let small : e ≤ 64 = omega (arith, top.1) in
    let same : floor_log number ≡ e = floor_log_is number e small low high in
    rw same (low, high)

-- ---- a varint has a byte for each seven bits from the highest one down

not_below : (number : ℕ) → 128 ≤ number → nat_lt number 128 ≡ false
not_below number many = grind (arith, nat_tests)

groups_len : (room number e : ℕ) → 2 ^ e ≤ number → number < 2 ^ (e + 1) → e < 7 * (room + 1) → length (groups room number) ≡ e / 7 + 1
unfolding groups
groups_len zero number e low high small = omega arith
groups_len (suc room) number e low high small =
    elim (cases_lt number 128) [
      | inl few ↦
          let short : e < 7 = elim (cases_lt e 7) [
            | inl lt ↦ lt
            | inr ge ↦ let most : 2 ^ 7 ≤ 2 ^ e = pow-le-pow_right {n = 2} (omega arith) ge in absurd (omega arith)
          ] in
          let test : nat_lt number 128 ≡ true = (Decides-ltb number 128).1 few in
          rw test (omega arith)
      | inr many ↦
          let long : 7 ≤ e = elim (cases_lt e 7) [
            | inl lt ↦ let order : e + 1 ≤ 7 = omega arith in let most : 2 ^ (e + 1) ≤ 2 ^ 7 = pow-le-pow_right {n = 2} (omega arith) order in absurd (omega arith)
            | inr ge ↦ ge
          ] in
          let rest = e - 7 in
          let low_pow : 2 ^ e ≡ 2 ^ rest * 2 ^ 7 = let same : e ≡ rest + 7 = omega arith in ap (λ n. 2 ^ n) same ∙ pow-add 2 rest 7 in
          let high_pow : 2 ^ (e + 1) ≡ 2 ^ (rest + 1) * 2 ^ 7 = let same : e + 1 ≡ rest + 1 + 7 = omega arith in ap (λ n. 2 ^ n) same ∙ pow-add 2 (rest + 1) 7 in
          let test : nat_lt number 128 ≡ false = not_below number many in
          let others : length (groups room (number / 128)) ≡ rest / 7 + 1 = groups_len room (number / 128) rest (omega (arith, low_pow)) (omega (arith, high_pow)) (omega arith) in
          rw test (omega (arith, others))
    ]

pub varint_bytes_is : (number : ℕ) → 0 < number → number < 2 ^ 64 → varint_bytes number ≡ floor_log number / 7 + 1
unfolding varint_bytes varint
varint_bytes_is number some most =
    let top = floor_log_is_greatest number some most in
    let small : floor_log number < 70 = elim (cases_lt (floor_log number) 70) [
      | inl lt ↦ lt
      | inr ge ↦ let pow : 2 ^ 70 ≤ 2 ^ floor_log number = pow-le-pow_right {n = 2} (omega arith) ge in absurd (omega (arith, top.0))
    ] in
    groups_len 9 number (floor_log number) top.0 top.1 small
