-- Reading a varint byte by byte: the sum over the bytes so far, and where a spelling ends.
use Rattle.std.proofs.Common.{◌≡◌, ℕ, zero, suc, ◌+◌, ◌-◌, ◌*◌, ◌%◌, ◌^◌, ◌<◌, ◌≤◌, List, [], ◌∷◌, ◌++◌, length, take, get_or, refl, ap, ◌∙◌, subst, lit<, arith, bit_and, bit_or}
use Rattle.std.specs.List.{All}
use Rattle.std.proofs.Math.Nat.{pow-suc, mod-eq_of_lt, mul-mod_left, pow-le-pow_right, add_comm}
use Rattle.std.proofs.lemmas.Nat.{pow-add, mod-pow-add, or_shifted, or_comm, shl-shr, shr_high, mod_low, and_mask}
use Rattle.std.proofs.lemmas.List.{length-take-le, take-take, get_or-take, take_more}
use Rattle.std.proofs.lemmas.List.Elements.{All-from_get_or, All-nil, All-take}
use Rattle.ciff_wire.specs.Varint.{sum_from, sum_of, IsSpelling, Reads}

-- the sum by recursion, each byte's group before 128 times the rest
abbrev pub weight : List ℕ → ℕ
weight [] = 0
weight (b ∷ bs) = b % 128 + 128 * weight bs

pub sum_from-weight : (i : ℕ) (bs : List ℕ) → sum_from i bs ≡ weight bs * 128 ^ i
unfolding sum_from
sum_from-weight i [] = omega arith
sum_from-weight i (b ∷ bs) =
    let rest : sum_from (i + 1) bs ≡ weight bs * 128 ^ (i + 1) = sum_from-weight (i + 1) bs in
    let more : 128 ^ (i + 1) ≡ 128 ^ i * 128 = grind (arith, pow-suc 128 i) in
    rw (rest, more) (omega arith)

pub sum_of-weight : (bs : List ℕ) → sum_of bs ≡ weight bs
unfolding sum_of
sum_of-weight bs = omega (arith, sum_from-weight 0 bs)

pub weight-push : (bs : List ℕ) (b : ℕ) → weight (bs ++ b ∷ []) ≡ weight bs + b % 128 * 128 ^ length bs
weight-push [] b = omega arith
weight-push (a ∷ bs) b =
    let more : 128 ^ suc (length bs) ≡ 128 ^ length bs * 128 = pow-suc 128 (length bs) in
    rw (weight-push bs b, more) (omega arith)

pub weight_lt : (bs : List ℕ) → weight bs < 128 ^ length bs
weight_lt [] = omega arith
weight_lt (b ∷ bs) =
    let more : 128 ^ suc (length bs) ≡ 128 ^ length bs * 128 = pow-suc 128 (length bs) in
    let low : b % 128 < 128 = omega arith in
    rw more (omega (arith, weight_lt bs))

-- the sum up to a byte and with it
pub sum_of-more : (bytes : List ℕ) (i : ℕ) → i < length bytes → sum_of (take (i + 1) bytes) ≡ sum_of (take i bytes) + get_or bytes i 0 % 128 * 128 ^ i
sum_of-more bytes i h =
    let l : i ≤ length bytes = omega arith in
    let pushed = weight-push (take i bytes) (get_or bytes i 0) in
    let e = take_more bytes i 0 h in
    let n = length-take-le i bytes l in
    sum_of-weight (take (i + 1) bytes) ∙ ap weight e ∙ pushed ∙ rw (n, sum_of-weight (take i bytes)) refl

pub sum_of-lt : (bytes : List ℕ) (i : ℕ) → i ≤ length bytes → sum_of (take i bytes) < 128 ^ i
sum_of-lt bytes i h =
    let below : weight (take i bytes) < 128 ^ length (take i bytes) = weight_lt (take i bytes) in
    let n : length (take i bytes) ≡ i = length-take-le i bytes h in
    rw sum_of-weight (rw n at below)

pub pow_128 : (i : ℕ) → 128 ^ i ≡ 2 ^ (7 * i)
pow_128 zero = refl
pow_128 (suc i) =
    let e : 7 * suc i ≡ 7 * i + 7 = omega arith in
    rw (pow-suc 128 i, pow_128 i, e, pow-add 2 (7 * i) 7) refl

-- an `|` of a shifted group, which loses what is past the top bit, is the sum modulo what the bits hold
or_sum-split : (total group j k : ℕ) → total < 2 ^ k → bit_or (total % 2 ^ (j + k)) (group * 2 ^ k % 2 ^ (j + k)) ≡ (total + group * 2 ^ k) % 2 ^ (j + k)
or_sum-split total group j k small =
    let wide : 2 ^ k ≤ 2 ^ (j + k) = pow-le-pow_right (lit< tt) (omega arith) in
    let low : total % 2 ^ (j + k) ≡ total = mod-eq_of_lt (omega arith) in
    let shifted : group * 2 ^ k % 2 ^ (j + k) ≡ group % 2 ^ j * 2 ^ k =
    mod-pow-add (group * 2 ^ k) j k ∙ rw (shl-shr group k, mul-mod_left group (2 ^ k)) (omega arith) in
    let both : (group * 2 ^ k + total) % 2 ^ (j + k) ≡ group % 2 ^ j * 2 ^ k + total =
    mod-pow-add (group * 2 ^ k + total) j k ∙ rw (shr_high group k total small, mod_low group k total small) refl in
    rw (low, shifted, or_comm total (group % 2 ^ j * 2 ^ k), or_shifted (group % 2 ^ j) k total small, ← both, add_comm (group * 2 ^ k) total) refl

pub or_sum : (total group k : ℕ) → total < 2 ^ k → k ≤ 64 → bit_or (total % 2 ^ 64) (group * 2 ^ k % 2 ^ 64) ≡ (total + group * 2 ^ k) % 2 ^ 64
or_sum total group k small fits =
    let P : ℕ → Type 0 = λ w. bit_or (total % 2 ^ w) (group * 2 ^ k % 2 ^ w) ≡ (total + group * 2 ^ k) % 2 ^ w in
    let e : 64 - k + k ≡ 64 = omega arith in
    subst P e (or_sum-split total group (64 - k) k small)

-- the value after one more byte
pub sum_of-or : (bytes : List ℕ) (i value group : ℕ) → i < length bytes → i < 10 → value ≡ sum_of (take i bytes) % 2 ^ 64 → group ≡ bit_and (get_or bytes i 0) 127
    → sum_of (take (i + 1) bytes) % 2 ^ 64 ≡ bit_or value (group * 2 ^ (7 * i) % 2 ^ 64)
sum_of-or bytes i value group inside most is low =
    let below : sum_of (take i bytes) < 2 ^ (7 * i) = subst (λ p. sum_of (take i bytes) < p) (pow_128 i) (sum_of-lt bytes i (omega arith)) in
    let seven : group ≡ get_or bytes i 0 % 128 = low ∙ and_mask (get_or bytes i 0) 7 in
    let or = or_sum (sum_of (take i bytes)) group (7 * i) below (omega arith) in
    let more = sum_of-more bytes i inside in
    rw (more, pow_128 i, ← seven, is, or) refl

pub IsSpelling-read : (bytes : List ℕ) (i : ℕ) → ((k : ℕ) → get_or bytes k 0 < 256) → i < length bytes → i < 10 → All (λ b. 128 ≤ b) (take i bytes) → get_or bytes i 0 < 128 → IsSpelling (take (i + 1) bytes)
IsSpelling-read bytes i octets inside most on end =
    let l : i + 1 ≤ length bytes = omega arith in
    let n : length (take (i + 1) bytes) ≡ i + 1 = length-take-le (i + 1) bytes l in
    let last : length (take (i + 1) bytes) - 1 ≡ i = omega arith in
    let front : take i (take (i + 1) bytes) ≡ take i bytes = take-take i (i + 1) bytes (omega arith) in
    let at : get_or (take (i + 1) bytes) i 0 ≡ get_or bytes i 0 = get_or-take (i + 1) bytes i 0 (omega arith) in
    record {
      octets = All-take (λ b. b < 256) (i + 1) bytes (All-from_get_or (λ b. b < 256) bytes 0 (λ k _. octets k));
      some = omega arith;
      most = omega arith;
      goes_on = rw (last, front) on;
      ends = rw (last, at) end;
    }

pub Reads-at : (bytes : List ℕ) (i value group : ℕ) → ((k : ℕ) → get_or bytes k 0 < 256) → i < length bytes → i < 10 → value ≡ sum_of (take i bytes) % 2 ^ 64 → All (λ b. 128 ≤ b) (take i bytes)
    → group ≡ bit_and (get_or bytes i 0) 127 → get_or bytes i 0 < 128 → Reads bytes (bit_or value (group * 2 ^ (7 * i) % 2 ^ 64)) (i + 1)
Reads-at bytes i value group octets inside most is on low end = record {
  within = omega arith;
  spells = record {
    spelling = IsSpelling-read bytes i octets inside most on end;
    sum = sum_of-or bytes i value group inside most is low;
  };
}

-- one byte
pub Reads-one : (bytes : List ℕ) (value : ℕ) → ((k : ℕ) → get_or bytes k 0 < 256) → 0 < length bytes → value ≡ get_or bytes 0 0 → get_or bytes 0 0 < 128 → Reads bytes value 1
Reads-one bytes value octets some is end =
    let more : sum_of (take 1 bytes) ≡ sum_of [] + get_or bytes 0 0 % 128 * 128 ^ 0 = sum_of-more bytes 0 some in
    let none : sum_of [] ≡ 0 = sum_of-weight [] in
    let low : get_or bytes 0 0 % 128 ≡ get_or bytes 0 0 = mod-eq_of_lt end in
    let sum : sum_of (take 1 bytes) ≡ value = omega arith in
    record {
      within = omega arith;
      spells = record {
        spelling = IsSpelling-read bytes 0 octets some (lit< tt) (All-nil (λ (b : ℕ). 128 ≤ b)) end;
        sum = rw sum (mod-eq_of_lt (omega arith));
      };
    }
