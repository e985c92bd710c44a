-- A cell has one halving.
use Rattle.std.proofs.Common.{◌≡◌, ℕ, zero, suc, ◌+◌, ◌<◌, ◌≤◌, ℤ, ◌<ℤ◌, List, length, get_or, sym, subst, ap, ◌∙◌, inl, inr, arith}
use Rattle.std.proofs.Common.{add-one}
use Rattle.std.specs.Prelude.{slice_get}
use Rattle.std.proofs.lemmas.Bool.{cases_lt}
use Rattle.std.proofs.lemmas.Int.{ints}
use Rattle.std.proofs.lemmas.List.{ext_get_or}
use Rattle.std.proofs.lemmas.Option.{same_Some}
use Rattle.forward_index.specs.Forward.{ForwardIndex}
use Rattle.degrees.specs.Cost.{cost}
use Rattle.exchange.specs.declared.round.Kept.{Kept}
use Rattle.exchange.specs.declared.round.Round.{Round}
use Rattle.exchange.specs.declared.round.Round.TheVariants.{Kept as kept}
use Rattle.exchange.specs.Round.{IsKept, IsRound}
use Rattle.exchange.specs.Halving.{Halves, halves_of, AreKept, Ends, IsHalving}
use Rattle.exchange.specs.Laws.{IsSameRound, HalvingIsOne, HalvesAreOne}
use Rattle.exchange.proofs.Entries.{no_round, entry_at, entry_there, entry_first, kept_there}
use Rattle.exchange.proofs.OneRound.{kept_round_is_one, same_round}

abbrev both : List ℕ → List ℕ → Halves
both a b = record { a = a; b = b }

same_both : (g h : Halves) → g.a ≡ h.a → g.b ≡ h.b → g ≡ h
same_both g h same_a same_b = ap (λ (x : List ℕ). both x g.b) same_a ∙ ap (both h.a) same_b

same_kept : (r s : Kept) → kept s ≡ kept r → s ≡ r
same_kept r s same = cc

not_below_itself : (before after z : ℤ) → before ≡ z → after ≡ z → after <ℤ before → ⊥
not_below_itself before after z is_before is_after less = omega (arith, ints, is_before, is_after, less)

-- where the halving ends no round is kept
ends_unkept : (forward : ForwardIndex) (h : Halves) (r : Kept) (x y : List ℕ) → Ends forward h → IsKept forward h.a h.b r x y → ⊥
ends_unkept forward h r x y ends is =
    let same = kept_round_is_one forward h.a h.b r ends.round x y h.a h.b is ends.is_round in
    let idle : IsKept forward h.a h.b r h.a h.b = subst (λ (round : Round). IsRound forward h.a h.b round h.a h.b) same.round ends.is_round in
    not_below_itself r.before r.after (cost forward h.a h.b) idle.before idle.after idle.less

module _ (forward : ForwardIndex) (cell : List ℕ) (entries others : List Halves) (records other_records : List Kept)
    (are : AreKept forward cell entries records) (other : AreKept forward cell others other_records) where
  -- the other round of these halves
  other_there : (k : ℕ) → k < length other_records → entry_at cell others k ≡ entry_at cell entries k
      → IsKept forward (entry_at cell entries k).a (entry_at cell entries k).b (get_or other_records k no_round) (entry_at cell others (k + 1)).a (entry_at cell others (k + 1)).b
  other_there k within same =
      subst (λ (h : Halves). IsKept forward h.a h.b (get_or other_records k no_round) (entry_at cell others (k + 1)).a (entry_at cell others (k + 1)).b) same
      (kept_there forward cell others other_records other k within)

  -- the round of these halves is one
  same_at : (k : ℕ) → k < length records → k < length other_records → entry_at cell others k ≡ entry_at cell entries k
      → IsSameRound (get_or records k no_round) (entry_at cell entries (k + 1)).a (entry_at cell entries (k + 1)).b (kept (get_or other_records k no_round)) (entry_at cell others (k + 1)).a (entry_at cell others (k + 1)).b
  same_at k within within_other same =
      let here = entry_at cell entries k in
      let one = entry_at cell entries (k + 1) in
      let two = entry_at cell others (k + 1) in
      same_round forward here.a here.b (get_or records k no_round) (get_or other_records k no_round) one.a one.b two.a two.b
      (kept_there forward cell entries records are k within) (other_there k within_other same)

  same_entry : (k : ℕ) → k < length records + 1 → k < length other_records + 1 → entry_at cell others k ≡ entry_at cell entries k
  same_entry zero within within_other = entry_first forward cell others other_records other ∙ sym (entry_first forward cell entries records are)
  same_entry (suc k) within within_other =
      let same = same_at k (omega (arith, within)) (omega (arith, within_other)) (same_entry k (omega (arith, within)) (omega (arith, within_other))) in
      subst (λ (n : ℕ). entry_at cell others n ≡ entry_at cell entries n) (add-one k)
      (same_both (entry_at cell others (k + 1)) (entry_at cell entries (k + 1)) same.half_a same.half_b)

  same_kept_round : (k : ℕ) → k < length records → k < length other_records → get_or other_records k no_round ≡ get_or records k no_round
  same_kept_round k within within_other =
      same_kept (get_or records k no_round) (get_or other_records k no_round)
      (same_at k within within_other (same_entry k (omega (arith, within)) (omega (arith, within_other)))).round

  -- a halving that has ended isn't outrun
  no_longer : (rounds : ℕ) → IsHalving forward cell rounds entries records → length other_records ≤ rounds → length other_records ≤ length records
  no_longer rounds is most =
      elim (cases_lt (length records) (length other_records)) [
        | inr low ↦ low
        | inl more ↦ elim is.end [
          | inl whole ↦ omega (arith, whole, most)
          | inr ends ↦
              let k = length records in
              let here = entry_at cell entries k in
              let two = entry_at cell others (k + 1) in
              absurd (ends_unkept forward here (get_or other_records k no_round) two.a two.b
              (ends here (entry_there forward cell entries records are k (omega arith)))
              (other_there k more (same_entry k (omega arith) (omega (arith, more)))))
        ]
      ]

pub halving_is_one : HalvingIsOne
halving_is_one forward cell rounds entries others records other_records is other =
    let are = is.are_kept in
    let are_other = other.are_kept in
    let low = no_longer forward cell entries others records other_records are are_other rounds is other.most in
    let high = no_longer forward cell others entries other_records records are_other are rounds other is.most in
    record {
      entries_ = ext_get_or (halves_of cell) others entries (omega (arith, low, high, are.len, are_other.len))
          (λ k within. same_entry forward cell entries others records other_records are are_other k (omega (arith, within, low, high, are_other.len)) (omega (arith, within, are_other.len)));
      records_ = ext_get_or no_round other_records records (omega (arith, low, high))
          (λ k within. same_kept_round forward cell entries others records other_records are are_other k (omega (arith, within, low, high)) within);
    }

pub halves_are_one : HalvesAreOne
halves_are_one forward cell rounds left other_left records other_records are other =
    let same = halving_is_one forward cell rounds are.entries other.entries records other_records are.is_halving other.is_halving in (
      same_Some other_left left (sym other.last ∙ ap (λ (hs : List Halves). slice_get hs (length other_records)) same.entries_ ∙ ap (λ (rs : List Kept). slice_get are.entries (length rs)) same.records_ ∙ are.last),
      same.records_,
    )
