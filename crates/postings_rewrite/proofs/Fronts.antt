-- The number whose varint stands at the front of bytes, and the list that gaps spell.
use Rattle.std.proofs.Common.{◌≡◌, ℕ, zero, suc, ◌+◌, ◌-◌, ◌*◌, ◌/◌, ◌%◌, ◌^◌, ◌<◌, ◌≤◌, List, [], ◌∷◌, ◌++◌, length, get_or, take, drop, refl, sym, ap, subst, ◌∙◌, inl, inr, lit<, arith, add-one}
use Rattle.std.specs.Prelude.{if◌then◌else◌, nat_le}
use Rattle.std.proofs.Math.Nat.{pow-suc}
use Rattle.std.proofs.lemmas.Nat.{div_below}
use Rattle.std.proofs.lemmas.Bool.{cases_lt}
use Rattle.std.proofs.lemmas.Bool.Decides.{nat_tests}
use Rattle.std.proofs.lemmas.List.{append_assoc}
use Rattle.ciff_wire.specs.Varint.{groups, varint}
use Rattle.postings_rewrite.specs.Blocks.{front, behind, numbers_in, list_in, gaps, skip_head}

groups-small : (room v : ℕ) → v < 128 → groups room v ≡ v ∷ []
unfolding groups
groups-small zero v h = refl
groups-small (suc room) v h = grind (arith, nat_tests)

groups-large : (room v : ℕ) → 128 ≤ v → groups (suc room) v ≡ (128 + v % 128) ∷ groups room (v / 128)
unfolding groups
groups-large room v h = grind (arith, nat_tests)

front-last : (v : ℕ) (rest : List ℕ) → v < 128 → front (v ∷ rest) ≡ v
unfolding front
front-last v rest h = grind (arith, nat_tests)

front-more : (b : ℕ) (rest : List ℕ) → 128 ≤ b → front (b ∷ rest) ≡ b % 128 + 128 * front rest
unfolding front
front-more b rest h = grind (arith, nat_tests)

behind-last : (v : ℕ) (rest : List ℕ) → v < 128 → behind (v ∷ rest) ≡ rest
unfolding behind
behind-last v rest h = grind (arith, nat_tests)

behind-more : (b : ℕ) (rest : List ℕ) → 128 ≤ b → behind (b ∷ rest) ≡ behind rest
unfolding behind
behind-more b rest h = grind (arith, nat_tests)

front-groups : (room v : ℕ) (rest : List ℕ) → v < 128 ^ suc room → front (groups room v ++ rest) ≡ v
front-groups zero v rest fits = let low : v < 128 = fits in rw (groups-small zero v low) (front-last v rest low)
front-groups (suc room) v rest fits =
    elim (cases_lt v 128) [
      | inl small ↦ rw (groups-small (suc room) v small) (front-last v rest small)
      | inr large ↦
          let next : 128 ^ suc (suc room) ≡ 128 ^ suc room * 128 = pow-suc 128 (suc room) in
          let here = front-more (128 + v % 128) (groups room (v / 128) ++ rest) (omega arith) in
          let later = front-groups room (v / 128) rest (div_below v 128 (128 ^ suc room) (lit< tt) (omega arith)) in
          rw (groups-large room v large) (omega (arith, here, later))
    ]

behind-groups : (room v : ℕ) (rest : List ℕ) → v < 128 ^ suc room → behind (groups room v ++ rest) ≡ rest
behind-groups zero v rest fits = let low : v < 128 = fits in rw (groups-small zero v low) (behind-last v rest low)
behind-groups (suc room) v rest fits =
    elim (cases_lt v 128) [
      | inl small ↦ rw (groups-small (suc room) v small) (behind-last v rest small)
      | inr large ↦
          let next : 128 ^ suc (suc room) ≡ 128 ^ suc room * 128 = pow-suc 128 (suc room) in
          let here = behind-more (128 + v % 128) (groups room (v / 128) ++ rest) (omega arith) in
          let later = behind-groups room (v / 128) rest (div_below v 128 (128 ^ suc room) (lit< tt) (omega arith)) in
          rw (groups-large room v large) (here ∙ later)
    ]

pub front-varint : (v : ℕ) (rest : List ℕ) → v < 2 ^ 64 → front (varint v ++ rest) ≡ v
unfolding varint
front-varint v rest fits = front-groups 9 v rest (omega arith)

pub behind-varint : (v : ℕ) (rest : List ℕ) → v < 2 ^ 64 → behind (varint v ++ rest) ≡ rest
unfolding varint
behind-varint v rest fits = behind-groups 9 v rest (omega arith)

-- ---- lists

-- each number is at least the least that it can have, and below the limit
abbrev pub Rises : ℕ → ℕ → List ℕ → Type 0
Rises limit first [] = Unit {0}
Rises limit first (number ∷ numbers) = (first ≤ number) × (number < limit) × Rises limit (number + 1) numbers

pub length-numbers_in : (n first : ℕ) (bytes : List ℕ) → length (numbers_in n first bytes) ≡ n
unfolding numbers_in
length-numbers_in zero first bytes = refl
length-numbers_in (suc n) first bytes = ap suc (length-numbers_in n (first + front bytes + 1) (behind bytes))

-- gaps spell their numbers, whatever stands behind them
pub numbers-gaps : (list : List ℕ) (limit first : ℕ) (rest : List ℕ) → limit ≤ 2 ^ 32 → Rises limit first list → numbers_in (length list) first (gaps first list ++ rest) ≡ list
unfolding numbers_in
numbers-gaps [] limit first rest small rises = refl
numbers-gaps (number ∷ numbers) limit first rest small rises =
    let low : first ≤ number = rises.0 in
    let high : number < limit = rises.1 in
    let fits : number - first < 2 ^ 64 = omega arith in
    let tail = gaps (number + 1) numbers ++ rest in
    let joined : gaps first (number ∷ numbers) ++ rest ≡ varint (number - first) ++ tail = append_assoc (varint (number - first)) (gaps (number + 1) numbers) rest in
    let here : first + front (varint (number - first) ++ tail) ≡ number = omega (arith, front-varint (number - first) tail fits) in
    let later : numbers_in (length numbers) (number + 1) tail ≡ numbers = numbers-gaps numbers limit (number + 1) rest small rises.2 in
    rw (joined, here, behind-varint (number - first) tail fits, later) refl

-- what stands behind the length of a list
skip_head-one : (len first : ℕ) → len ≤ 128 → skip_head len first ≡ []
skip_head-one len first few = grind (arith, nat_tests)

skip_head-more : (len first : ℕ) → 128 < len → skip_head len first ≡ varint first
skip_head-more len first many = grind (arith, nat_tests)

gaps_of : (len : ℕ) (bytes : List ℕ) → List ℕ
gaps_of len bytes = if nat_le len 128 then bytes else behind bytes

chosen-one : (len : ℕ) (bytes : List ℕ) → len ≤ 128 → gaps_of len bytes ≡ bytes
unfolding gaps_of
chosen-one len bytes few = grind (arith, nat_tests)

chosen-more : (len : ℕ) (bytes : List ℕ) → 128 < len → gaps_of len bytes ≡ behind bytes
unfolding gaps_of
chosen-more len bytes many = grind (arith, nat_tests)

gaps_of-head : (len first : ℕ) (tail : List ℕ) → first < 2 ^ 32 → gaps_of len (skip_head len first ++ tail) ≡ tail
gaps_of-head len first tail fits =
    elim (cases_lt 128 len) [
      | inl more ↦
          let head : skip_head len first ≡ varint first = skip_head-more len first more in
          let skipped : behind (skip_head len first ++ tail) ≡ tail = ap (λ (h : List ℕ). behind (h ++ tail)) head ∙ behind-varint first tail (omega arith) in
          let chosen : gaps_of len (skip_head len first ++ tail) ≡ behind (skip_head len first ++ tail) = chosen-more len (skip_head len first ++ tail) more in
          chosen ∙ skipped
      | inr one ↦
          let head : skip_head len first ≡ [] = skip_head-one len first one in
          let chosen : gaps_of len (skip_head len first ++ tail) ≡ skip_head len first ++ tail = chosen-one len (skip_head len first ++ tail) one in
          chosen ∙ ap (λ (h : List ℕ). h ++ tail) head
    ]

-- and the bytes of a list spell the list
pub list_in-spelt : (list : List ℕ) (limit first : ℕ) (rest : List ℕ) → limit ≤ 2 ^ 32 → first < 2 ^ 32 → length list < 2 ^ 32 → Rises limit 0 list
    → list_in (varint (length list) ++ (skip_head (length list) first ++ (gaps 0 list ++ rest))) ≡ list
unfolding list_in gaps_of
list_in-spelt list limit first rest small fits few rises =
    let tail = gaps 0 list ++ rest in
    let whole = varint (length list) ++ (skip_head (length list) first ++ tail) in
    let read : front whole ≡ length list = front-varint (length list) (skip_head (length list) first ++ tail) (omega arith) in
    let left : behind whole ≡ skip_head (length list) first ++ tail = behind-varint (length list) (skip_head (length list) first ++ tail) (omega arith) in
    let chosen : gaps_of (front whole) (behind whole) ≡ tail = ap (λ (n : ℕ). gaps_of n (behind whole)) read ∙ (ap (gaps_of (length list)) left ∙ gaps_of-head (length list) first tail fits) in
    ap (λ (bytes : List ℕ). numbers_in (front whole) 0 bytes) chosen ∙ (ap (λ (n : ℕ). numbers_in n 0 tail) read ∙ numbers-gaps list limit 0 rest small rises)
