-- Spellings by recursion on their bytes: the shortest of a number, and that none is the front of another.
use Rattle.std.proofs.Common.{◌≡◌, ℕ, zero, suc, ◌+◌, ◌-◌, ◌*◌, ◌/◌, ◌%◌, ◌^◌, ◌<◌, ◌≤◌, ◌≢◌, List, [], ◌∷◌, ◌++◌, length, take, drop, get_or, sym, refl, ap, ◌∙◌, subst, inl, inr, lit<, arith}
use Rattle.std.specs.List.{AllByRecursion}
use Rattle.std.proofs.Math.Nat.{pow-suc}
use Rattle.std.proofs.lemmas.Nat.{div_below}
use Rattle.std.proofs.lemmas.Bool.{cases_lt}
use Rattle.std.proofs.lemmas.List.{take-append-drop, length-take-le}
use Rattle.std.proofs.lemmas.List.Elements.{All-from_recursion, recursion_from_All, All-take}
use Rattle.ciff_wire.specs.declared.varint.Varint.{Varint}
use Rattle.ciff_wire.specs.declared.varint.Varint.TheVariants.{Done, Short, Long}
use Rattle.ciff_wire.specs.Varint.{sum_of, IsSpelling, IsRead, groups, varint}
use Rattle.ciff_wire.specs.Laws.{VarintIsShortest, ShortestIsOne, VarintIsCanonical, CanonicalVarintIsOne, NoneIsFront, SpellingIsReadAgain, ReadIsOne}
use Rattle.ciff_wire.proofs.Varints.{weight, weight_lt, sum_of-weight}
use Rattle.ciff_wire.proofs.Groups.{groups-small, groups-large}

-- the bytes go on up to the last, which ends them
abbrev pub Ends : List ℕ → Type 0
Ends [] = ⊥
Ends (b ∷ []) = b < 128
Ends (b ∷ c ∷ bs) = (128 ≤ b) × (b < 256) × Ends (c ∷ bs)

pub Ends-cons : (b : ℕ) (bs : List ℕ) → 128 ≤ b → b < 256 → Ends bs → Ends (b ∷ bs)
Ends-cons b [] on octet ends = absurd ends
Ends-cons b (c ∷ bs) on octet ends = (on, octet, ends)

-- ---- from a spelling, and to it

Ends-from_parts : (bs : List ℕ) → AllByRecursion (λ b. b < 256) bs → 0 < length bs → AllByRecursion (λ b. 128 ≤ b) (take (length bs - 1) bs) → get_or bs (length bs - 1) 0 < 128 → Ends bs
Ends-from_parts [] octets some on end = absurd (omega arith)
Ends-from_parts (b ∷ []) octets some on end = end
Ends-from_parts (b ∷ c ∷ bs) octets some on end =
    let n : suc (suc (length bs)) - 1 ≡ suc (suc (length bs) - 1) = omega arith in
    let on' = rw n at on in
    let end' = rw n at end in
    (on'.0, octets.0, Ends-from_parts (c ∷ bs) octets.1 (omega arith) on'.1 end')

pub Ends-from_spelling : (bs : List ℕ) → IsSpelling bs → Ends bs
Ends-from_spelling bs s = Ends-from_parts bs (recursion_from_All (λ b. b < 256) bs s.octets) s.some (recursion_from_All (λ b. 128 ≤ b) (take (length bs - 1) bs) s.goes_on) s.ends

octets-from_Ends : (bs : List ℕ) → Ends bs → AllByRecursion (λ b. b < 256) bs
octets-from_Ends [] ends = absurd ends
octets-from_Ends (b ∷ []) ends = (omega arith, tt)
octets-from_Ends (b ∷ c ∷ bs) ends = (ends.1, octets-from_Ends (c ∷ bs) ends.2)

some-from_Ends : (bs : List ℕ) → Ends bs → 0 < length bs
some-from_Ends [] ends = absurd ends
some-from_Ends (b ∷ bs) ends = omega arith

on-from_Ends : (bs : List ℕ) → Ends bs → AllByRecursion (λ b. 128 ≤ b) (take (length bs - 1) bs)
on-from_Ends [] ends = absurd ends
on-from_Ends (b ∷ []) ends = tt
on-from_Ends (b ∷ c ∷ bs) ends =
    let n : suc (suc (length bs)) - 1 ≡ suc (suc (length bs) - 1) = omega arith in
    rw n (ends.0, on-from_Ends (c ∷ bs) ends.2)

end-from_Ends : (bs : List ℕ) → Ends bs → get_or bs (length bs - 1) 0 < 128
end-from_Ends [] ends = absurd ends
end-from_Ends (b ∷ []) ends = ends
end-from_Ends (b ∷ c ∷ bs) ends =
    let n : suc (suc (length bs)) - 1 ≡ suc (suc (length bs) - 1) = omega arith in
    rw n (end-from_Ends (c ∷ bs) ends.2)

pub spelling_from_Ends : (bs : List ℕ) → Ends bs → length bs ≤ 10 → IsSpelling bs
spelling_from_Ends bs ends most = record {
  octets = All-from_recursion (λ b. b < 256) bs (octets-from_Ends bs ends);
  some = some-from_Ends bs ends;
  most = most;
  goes_on = All-from_recursion (λ b. 128 ≤ b) (take (length bs - 1) bs) (on-from_Ends bs ends);
  ends = end-from_Ends bs ends;
}

-- ---- the groups of a number

Ends-groups : (room v : ℕ) → v < 128 ^ suc room → Ends (groups room v)
Ends-groups zero v fits = rw groups-small fits
Ends-groups (suc room) v fits =
    elim (cases_lt v 128) [
      | inl small ↦ rw (groups-small (suc room) v small) small
      | inr large ↦
          let next : 128 ^ suc (suc room) ≡ 128 ^ suc room * 128 = pow-suc 128 (suc room) in
          let rest = Ends-groups room (v / 128) (div_below v 128 (128 ^ suc room) (lit< tt) (omega arith)) in
          rw (groups-large room v large) (Ends-cons (128 + v % 128) (groups room (v / 128)) (omega arith) (omega arith) rest)
    ]

weight-groups : (room v : ℕ) → v < 128 ^ suc room → weight (groups room v) ≡ v
weight-groups zero v fits = rw groups-small (omega arith)
weight-groups (suc room) v fits =
    elim (cases_lt v 128) [
      | inl small ↦ rw (groups-small (suc room) v small) (omega arith)
      | inr large ↦
          let next : 128 ^ suc (suc room) ≡ 128 ^ suc room * 128 = pow-suc 128 (suc room) in
          let rest = weight-groups room (v / 128) (div_below v 128 (128 ^ suc room) (lit< tt) (omega arith)) in
          rw (groups-large room v large, rest) (omega arith)
    ]

length-groups_le : (room n v : ℕ) → v < 128 ^ suc n → length (groups room v) ≤ suc n
unfolding groups
length-groups_le zero n v fits = omega arith
length-groups_le (suc room) zero v fits =
    let small : v < 128 = fits in
    rw (groups-small (suc room) v small) (omega arith)
length-groups_le (suc room) (suc n) v fits =
    elim (cases_lt v 128) [
      | inl small ↦ rw (groups-small (suc room) v small) (omega arith)
      | inr large ↦
          let next : 128 ^ suc (suc n) ≡ 128 ^ suc n * 128 = pow-suc 128 (suc n) in
          let rest = length-groups_le room n (v / 128) (div_below v 128 (128 ^ suc n) (lit< tt) (omega arith)) in
          rw (groups-large room v large) (omega (arith, rest))
    ]

length-groups_room : (room v : ℕ) → length (groups room v) ≤ suc room
unfolding groups
length-groups_room zero v = omega arith
length-groups_room (suc room) v =
    elim (cases_lt v 128) [
      | inl small ↦ rw (groups-small (suc room) v small) (omega arith)
      | inr large ↦ rw (groups-large room v large) (omega (arith, length-groups_room room (v / 128)))
    ]

-- bytes that are no more than the groups of what they make are those groups
groups-one : (room : ℕ) (bs : List ℕ) → Ends bs → length bs ≤ length (groups room (weight bs)) → bs ≡ groups room (weight bs)
unfolding groups
groups-one room [] ends few = absurd ends
groups-one room (b ∷ []) ends few =
    let w : b % 128 + 128 * 0 ≡ b = omega arith in
    rw (w, groups-small room b ends) refl
groups-one zero (b ∷ c ∷ bs) ends few = absurd (omega arith)
groups-one (suc room) (b ∷ c ∷ bs) ends few =
    let w = b % 128 + 128 * weight (c ∷ bs) in
    elim (cases_lt w 128) [
      | inl small ↦
          let few' = rw (groups-small (suc room) w small) at few in
          absurd (omega arith)
      | inr large ↦
          let e = groups-large room w large in
          let low : 128 + w % 128 ≡ b = omega (arith, ends.0, ends.1) in
          let high : w / 128 ≡ weight (c ∷ bs) = omega arith in
          let few' = rw (e, high) at few in
          let rest = groups-one room (c ∷ bs) ends.2 (omega arith) in
          rw (e, low, high, ← rest) refl
    ]

-- ---- one after another

pub Ends-front : (a b x y : List ℕ) → Ends a → Ends b → a ++ x ≡ b ++ y → (a ≡ b) × (x ≡ y)
Ends-front [] b x y end_a end_b same = absurd end_a
Ends-front (p ∷ a) [] x y end_a end_b same = absurd end_b
Ends-front (p ∷ []) (q ∷ []) x y end_a end_b same = (cc, cc)
Ends-front (p ∷ []) (q ∷ r ∷ b) x y end_a end_b same =
    let e : p ≡ q = cc in
    absurd (omega (arith, end_b.0))
Ends-front (p ∷ r ∷ a) (q ∷ []) x y end_a end_b same =
    let e : p ≡ q = cc in
    absurd (omega (arith, end_a.0))
Ends-front (p ∷ r ∷ a) (q ∷ s ∷ b) x y end_a end_b same =
    let e : p ≡ q = cc in
    let behind : (r ∷ a) ++ x ≡ (s ∷ b) ++ y = cc in
    let rest = Ends-front (r ∷ a) (s ∷ b) x y end_a.2 end_b.2 behind in
    (let tails : r ∷ a ≡ s ∷ b = rest.0 in cc, rest.1)

-- the byte that ends a spelling is among the first ones
stops : (n : ℕ) (text rest : List ℕ) → Ends text → length text ≤ n → AllByRecursion (λ b. 128 ≤ b) (take n (text ++ rest)) → ⊥
stops n [] rest ends most on = ends
stops zero (b ∷ bs) rest ends most on = omega arith
stops (suc n) (b ∷ []) rest ends most on = omega (arith, on.0)
stops (suc n) (b ∷ c ∷ bs) rest ends most on = stops n (c ∷ bs) rest ends.2 (omega arith) on.1

pub varint_is_shortest : VarintIsShortest
unfolding varint
varint_is_shortest v fits =
    let room : v < 128 ^ suc 9 = omega arith in
    let sum : sum_of (varint v) ≡ v = sum_of-weight (varint v) ∙ weight-groups 9 v room in
    let least : (other : List ℕ) → IsSpelling other → sum_of other ≡ v → length (varint v) ≤ length other = λ other spelling e.
    let n : suc (length other - 1) ≡ length other = omega (arith, spelling.some) in
    let below : weight other < 128 ^ length other = weight_lt other in
    let w : weight other ≡ v = sym (sum_of-weight other) ∙ e in
    let fits' : v < 128 ^ suc (length other - 1) = rw (n, ← w) below in
    subst (λ k. length (varint v) ≤ k) n (length-groups_le 9 (length other - 1) v fits') in
    (spelling_from_Ends (varint v) (Ends-groups 9 v room) (length-groups_room 9 v), sum, least)

pub shortest_is_one : ShortestIsOne
unfolding varint
shortest_is_one v other fits spelling sum few =
    let w : weight other ≡ v = sym (sum_of-weight other) ∙ sum in
    let few' : length other ≤ length (groups 9 (weight other)) = rw w few in
    groups-one 9 other (Ends-from_spelling other spelling) few' ∙ ap (groups 9) w

pub none_is_front : NoneIsFront
none_is_front a b x y spelling_a spelling_b same = Ends-front a b x y (Ends-from_spelling a spelling_a) (Ends-from_spelling b spelling_b) same

pub spelling_is_read_again : SpellingIsReadAgain
spelling_is_read_again text rest (Done value used) spelling is =
    let whole = text ++ rest in
    let same = none_is_front text (take used whole) rest (drop used whole) spelling is.spells.spelling (sym (take-append-drop used whole)) in
    let front : text ≡ take used whole = same.0 in
    let sum : value ≡ sum_of text % 2 ^ 64 = rw front (sym is.spells.sum) in
    let n : used ≡ length text = sym (length-take-le used whole is.within) ∙ ap length (sym front) in
    rw (sum, n) refl
spelling_is_read_again text rest Short spelling is =
    absurd (stops 10 text rest (Ends-from_spelling text spelling) spelling.most (recursion_from_All (λ b. 128 ≤ b) (take 10 (text ++ rest)) (All-take (λ b. 128 ≤ b) 10 (text ++ rest) is.unended)))
spelling_is_read_again text rest Long spelling is =
    absurd (stops 10 text rest (Ends-from_spelling text spelling) spelling.most (recursion_from_All (λ b. 128 ≤ b) (take 10 (text ++ rest)) is.unended))

again_at : (bytes : List ℕ) (value used : ℕ) (other : Varint) → IsRead bytes (Done value used) → IsRead bytes other → other ≡ Done value used
again_at bytes value used other is is_other =
    let text = take used bytes in
    let whole : text ++ drop used bytes ≡ bytes = take-append-drop used bytes in
    let again = spelling_is_read_again text (drop used bytes) other is.spells.spelling (rw whole is_other) in
    let n : length text ≡ used = length-take-le used bytes is.within in
    again ∙ rw (is.spells.sum, n) refl

pub read_is_one : ReadIsOne
read_is_one bytes (Done value used) other is is_other = sym (again_at bytes value used other is is_other)
read_is_one bytes Short (Done value used) is is_other = again_at bytes value used Short is_other is
read_is_one bytes Short Short is is_other = refl
read_is_one bytes Short Long is is_other = absurd (omega arith)
read_is_one bytes Long (Done value used) is is_other = again_at bytes value used Long is_other is
read_is_one bytes Long Short is is_other = absurd (omega arith)
read_is_one bytes Long Long is is_other = refl

pub varint_is_canonical : VarintIsCanonical
varint_is_canonical v fits =
    let least = varint_is_shortest v fits in
    record {
      spelling = least.0;
      sum = least.1;
      shortest = λ other spelling sum differs. elim (cases_lt (length (varint v)) (length other)) [
        | inl longer ↦ longer
        | inr few ↦ absurd (differs (shortest_is_one v other fits spelling sum few))
      ];
    }

-- of two lists of bytes, one is not shorter
pub canonical_varint_is_one : CanonicalVarintIsOne
canonical_varint_is_one v bytes fits is =
    let least = varint_is_shortest v fits in
    let few : length bytes ≤ length (varint v) = elim (cases_lt (length (varint v)) (length bytes)) [
      | inr few ↦ few
      | inl longer ↦ absurd (shorter (is.shortest (varint v) least.0 least.1) longer)
    ] in
    shortest_is_one v bytes fits is.spelling is.sum few
  where
    shorter : (varint v ≢ bytes → length bytes < length (varint v)) → length (varint v) < length bytes → ⊥
    shorter less longer =
        let differs : varint v ≢ bytes = λ same. omega (arith, ap length same, longer) in
        omega (arith, less differs, longer)
