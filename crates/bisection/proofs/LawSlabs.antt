-- Slabs of levels, one after the other, are one recursion.
use Rattle.std.proofs.Common.{◌≡◌, ℕ, zero, suc, ◌+◌, ◌<◌, ◌≤◌, List, [], ◌∷◌, ◌++◌, length, IsPermutation, refl, sym, ap, ap₂, subst, ◌∙◌, inl, inr, arith, append-nil, append_assoc}
use Rattle.std.specs.List.Sorted.{IsStrictlyIncreasing}
use Rattle.std.proofs.lemmas.List.Sorted.{IsPermutation-refl, IsPermutation-trans, IsPermutation-append, IsPermutation-map, length_permutation}
use Rattle.forward_index.specs.Forward.{ForwardIndex}
use Rattle.exchange.specs.Laws.{HalvesKeepDocuments, KeptRoundsAreAChain, ArePartsOf}
use Rattle.cell_claims.specs.declared.trace.KeptRound.{KeptRound}
use Rattle.bisection.specs.Trace.{own_rounds, round_at, moved_to, StandsBefore, IsTrace}
use Rattle.bisection.specs.Recursion.{Limits, StaysWhole, IsSplit, IsBisected, order_of}
use Rattle.bisection.specs.Laws.{AreBisected, HasEachOnce, IsOneRecursion, LevelsAddUp, SlabsAreOneRecursion}
use Rattle.bisection.proofs.LawOne.{joined}
use Rattle.bisection.proofs.LawLists.{shared_out, ordered_is_one}
use Rattle.bisection.proofs.LawDocuments.{each_document_once}
use Rattle.bisection.proofs.LawOrder.{stands_apart, stands_far, rounds_stand_in_order}
use Rattle.bisection.proofs.LawMoves.{moved_nowhere, moved-append}
use Rattle.bisection.proofs.LawParts.{AreMoved, AreBoth, moved_back, in_two}

-- ---- a small cell, and one cell alone

small_stays : (forward : ForwardIndex) (limits : Limits) (depth : ℕ) (cell : List ℕ) (cells : List (List ℕ)) (trace : List KeptRound)
    → length cell ≤ limits.leaf → IsBisected forward limits depth cell cells trace → StaysWhole cell cells trace
small_stays forward limits zero cell cells trace small is = is
small_stays forward limits (suc depth) cell cells trace small (inl is) = is.1
small_stays forward limits (suc depth) cell cells trace small (inr is) = let large = is.0 in absurd (omega (arith, small, large))

-- what a cell alone comes to
record IsAlone (forward : ForwardIndex) (limits : Limits) (depth level start : ℕ) (cell : List ℕ) (parts : List (List ℕ)) (others : List KeptRound) : Type 0 where
  own : List KeptRound
  is_bisected : IsBisected forward limits depth cell parts own
  is_others : others ≡ moved_to level start own

alone : (forward : ForwardIndex) (limits : Limits) (depth level start : ℕ) (cell : List ℕ) (parts : List (List ℕ)) (others : List KeptRound)
    → AreBisected forward limits depth level start (cell ∷ []) parts others → IsAlone forward limits depth level start cell parts others
alone forward limits depth level start cell parts others is = record {
  own = is.trace_first;
  is_bisected =
      let only : parts ≡ is.cells_first = is.is_cells ∙ ap (λ (xs : List (List ℕ)). is.cells_first ++ xs) is.others.0 ∙ append-nil is.cells_first in
      subst (λ (xs : List (List ℕ)). IsBisected forward limits depth cell xs is.trace_first) (sym only) is.first;
  is_others = is.is_trace ∙ ap (λ (xs : List KeptRound). moved_to level start is.trace_first ++ xs) is.others.1 ∙ append-nil (moved_to level start is.trace_first);
}

-- ---- all levels at once

-- no levels and then more
made_from_none : (forward : ForwardIndex) (limits : Limits) (more : ℕ) (cell : List ℕ) (cells parts : List (List ℕ)) (trace others : List KeptRound)
    → StaysWhole cell cells trace → AreBisected forward limits more 0 0 cells parts others → IsOneRecursion forward limits (0 + more) cell parts trace others
made_from_none forward limits more cell cells parts trace others is are =
    let only : IsAlone forward limits more 0 0 cell parts others = alone forward limits more 0 0 cell parts others (subst (λ (xs : List (List ℕ)). AreBisected forward limits more 0 0 xs parts others) is.is_cell are) in
    let levels : more ≡ 0 + more = omega arith in
    let rounds : only.own ≡ trace ++ others = sym (ap₂ (λ (xs ys : List KeptRound). xs ++ ys) is.is_trace (only.is_others ∙ moved_nowhere only.own)) in
    record {
      all = only.own;
      is_bisected = subst (λ (n : ℕ). IsBisected forward limits n cell parts only.own) levels only.is_bisected;
      same = subst (IsPermutation (trace ++ others)) (sym rounds) (IsPermutation-refl (trace ++ others));
    }

-- a cell that isn't halved
made_from_small : (forward : ForwardIndex) (limits : Limits) (depth more : ℕ) (cell : List ℕ) (cells parts : List (List ℕ)) (trace others : List KeptRound)
    → length cell ≤ limits.leaf → StaysWhole cell cells trace → AreBisected forward limits more (suc depth) 0 cells parts others → IsOneRecursion forward limits (suc (depth + more)) cell parts trace others
made_from_small forward limits depth more cell cells parts trace others small is are =
    let only : IsAlone forward limits more (suc depth) 0 cell parts others =
    alone forward limits more (suc depth) 0 cell parts others (subst (λ (xs : List (List ℕ)). AreBisected forward limits more (suc depth) 0 xs parts others) is.is_cell are) in
    let whole : StaysWhole cell parts only.own = small_stays forward limits more cell parts only.own small only.is_bisected in
    let none : others ≡ [] = only.is_others ∙ ap (moved_to (suc depth) 0) whole.is_trace in
    let rounds : only.own ≡ trace ++ others = whole.is_trace ∙ sym (ap₂ (λ (xs ys : List KeptRound). xs ++ ys) is.is_trace none) in
    record {
      all = only.own;
      is_bisected = inl (small, whole);
      same = subst (IsPermutation (trace ++ others)) (sym rounds) (IsPermutation-refl (trace ++ others));
    }

-- ---- a cell that is halved

-- the rounds of a half, and those of what the half was cut into
moved_together : (place : ℕ) (trace others made : List KeptRound) → IsPermutation (trace ++ others) made → IsPermutation (moved_to 1 place trace ++ moved_to 1 place others) (moved_to 1 place made)
moved_together place trace others made same =
    subst (λ (zs : List KeptRound). IsPermutation zs (moved_to 1 place made)) (moved-append 1 place trace others) (IsPermutation-map (round_at 1 place) (trace ++ others) made same)

rounds_of_both : (place : ℕ) (own trace_a trace_b others_a others_b made_a made_b : List KeptRound)
    → IsPermutation (trace_a ++ others_a) made_a → IsPermutation (trace_b ++ others_b) made_b
    → IsPermutation ((own ++ moved_to 1 0 trace_a ++ moved_to 1 place trace_b) ++ (moved_to 1 0 others_a ++ moved_to 1 place others_b)) (own ++ moved_to 1 0 made_a ++ moved_to 1 place made_b)
rounds_of_both place own trace_a trace_b others_a others_b made_a made_b first second =
    let old_a = moved_to 1 0 trace_a in
    let old_b = moved_to 1 place trace_b in
    let new_a = moved_to 1 0 others_a in
    let new_b = moved_to 1 place others_b in
    let front : IsPermutation ((own ++ old_a) ++ new_a) (own ++ moved_to 1 0 made_a) =
    subst (λ (zs : List KeptRound). IsPermutation zs (own ++ moved_to 1 0 made_a)) (sym (append_assoc own old_a new_a))
    (IsPermutation-append own own (old_a ++ new_a) (moved_to 1 0 made_a) (IsPermutation-refl own) (moved_together 0 trace_a others_a made_a first)) in
    IsPermutation-trans (((own ++ old_a) ++ old_b) ++ (new_a ++ new_b)) (((own ++ old_a) ++ new_a) ++ (old_b ++ new_b)) ((own ++ moved_to 1 0 made_a) ++ moved_to 1 place made_b)
    (shared_out (own ++ old_a) old_b new_a new_b)
    (IsPermutation-append ((own ++ old_a) ++ new_a) (own ++ moved_to 1 0 made_a) (old_b ++ new_b) (moved_to 1 place made_b) front (moved_together place trace_b others_b made_b second))

made_from_halves : (forward : ForwardIndex) (limits : Limits) (depth more : ℕ) (cell : List ℕ) (cells parts parts_a parts_b : List (List ℕ)) (trace others others_a others_b : List KeptRound)
    → limits.leaf < length cell → (s : IsSplit forward limits (IsBisected forward limits depth) cell cells trace)
    → (moved_a : AreMoved forward limits more depth 0 1 0 s.cells_a parts_a others_a) (moved_b : AreMoved forward limits more depth 0 1 (length s.left.a) s.cells_b parts_b others_b)
    → parts ≡ parts_a ++ parts_b → others ≡ others_a ++ others_b
    → IsOneRecursion forward limits (depth + more) s.left.a parts_a s.trace_a moved_a.before → IsOneRecursion forward limits (depth + more) s.left.b parts_b s.trace_b moved_b.before
    → IsOneRecursion forward limits (suc (depth + more)) cell parts trace others
made_from_halves forward limits depth more cell cells parts parts_a parts_b trace others others_a others_b large s moved_a moved_b is_parts is_others first second =
    let own = own_rounds (length cell) s.records in
    let place = length s.left.a in
    let rounds : trace ++ others ≡ (own ++ moved_to 1 0 s.trace_a ++ moved_to 1 place s.trace_b) ++ (moved_to 1 0 moved_a.before ++ moved_to 1 place moved_b.before) =
    ap₂ (λ (xs ys : List KeptRound). xs ++ ys) s.is_trace (is_others ∙ ap₂ (λ (xs ys : List KeptRound). xs ++ ys) moved_a.is moved_b.is) in
    record {
      all = joined (length cell) s.records place first.all second.all;
      is_bisected = inr (
        large,
        record {
          left = s.left;
          records = s.records;
          are_halves = s.are_halves;
          cells_a = parts_a;
          cells_b = parts_b;
          trace_a = first.all;
          trace_b = second.all;
          half_a = first.is_bisected;
          half_b = second.is_bisected;
          is_cells = is_parts;
          is_trace = refl;
        },
      );
      same = subst (λ (zs : List KeptRound). IsPermutation zs (joined (length cell) s.records place first.all second.all)) (sym rounds)
          (rounds_of_both place own s.trace_a s.trace_b moved_a.before moved_b.before first.all second.all first.same second.same);
    }

half_moved : (forward : ForwardIndex) (limits : Limits) (depth more start place : ℕ) (cells parts : List (List ℕ)) (trace : List KeptRound) → start ≡ 0 + place
    → AreBisected forward limits more (suc depth) start cells parts trace → AreMoved forward limits more depth 0 1 place cells parts trace
half_moved forward limits depth more start place cells parts trace at are =
    let level : suc depth ≡ depth + 1 = omega arith in
    moved_back forward limits more depth 0 1 place cells parts trace
    (subst (λ (n : ℕ). AreBisected forward limits more n (0 + place) cells parts trace) level (subst (λ (n : ℕ). AreBisected forward limits more (suc depth) n cells parts trace) at are))

-- ---- slabs

slab_made : HalvesKeepDocuments → (forward : ForwardIndex) (limits : Limits) (depth more : ℕ) (cell : List ℕ) (cells parts : List (List ℕ)) (trace others : List KeptRound) → IsStrictlyIncreasing cell
    → IsBisected forward limits depth cell cells trace → AreBisected forward limits more depth 0 cells parts others → IsOneRecursion forward limits (depth + more) cell parts trace others
slab_made keep forward limits zero more cell cells parts trace others rising is are = made_from_none forward limits more cell cells parts trace others is are
slab_made keep forward limits (suc depth) more cell cells parts trace others rising (inl is) are =
    let levels : suc (depth + more) ≡ suc depth + more = omega arith in
    subst (λ (n : ℕ). IsOneRecursion forward limits n cell parts trace others) levels (made_from_small forward limits depth more cell cells parts trace others is.0 is.1 are)
slab_made keep forward limits (suc depth) more cell cells parts trace others rising (inr is) are =
    let s = is.1 in
    let halves : ArePartsOf cell s.left = keep forward cell limits.rounds s.left s.records rising s.are_halves in
    let both : AreBoth forward limits more (suc depth) 0 s.cells_a s.cells_b parts others =
    in_two forward limits more (suc depth) 0 s.cells_a s.cells_b parts others (subst (λ (xs : List (List ℕ)). AreBisected forward limits more (suc depth) 0 xs parts others) s.is_cells are) in
    let once : HasEachOnce s.left.a s.cells_a = each_document_once keep forward limits depth s.left.a s.cells_a s.trace_a halves.rising_a s.half_a in
    let place : 0 + length (order_of s.cells_a) ≡ 0 + length s.left.a = ap (λ (n : ℕ). 0 + n) (length_permutation s.left.a (order_of s.cells_a) once.documents) in
    let moved_a : AreMoved forward limits more depth 0 1 0 s.cells_a both.parts_a both.trace_a = half_moved forward limits depth more 0 0 s.cells_a both.parts_a both.trace_a (omega arith) both.are_a in
    let moved_b : AreMoved forward limits more depth 0 1 (length s.left.a) s.cells_b both.parts_b both.trace_b =
    half_moved forward limits depth more (0 + length (order_of s.cells_a)) (length s.left.a) s.cells_b both.parts_b both.trace_b place both.are_b in
    let levels : suc (depth + more) ≡ suc depth + more = omega arith in
    subst (λ (n : ℕ). IsOneRecursion forward limits n cell parts trace others) levels
    (made_from_halves forward limits depth more cell cells parts both.parts_a both.parts_b trace others both.trace_a both.trace_b is.0 s moved_a moved_b both.is_parts both.is_trace
    (slab_made keep forward limits depth more s.left.a s.cells_a both.parts_a s.trace_a moved_a.before halves.rising_a s.half_a moved_a.are)
    (slab_made keep forward limits depth more s.left.b s.cells_b both.parts_b s.trace_b moved_b.before halves.rising_b s.half_b moved_b.are))

pub levels_add_up : HalvesKeepDocuments → LevelsAddUp
levels_add_up keep forward limits depth more cell cells parts trace others rising is are =
    slab_made keep forward limits depth more cell cells parts trace others rising is are

pub slabs_are_one : HalvesKeepDocuments → KeptRoundsAreAChain → SlabsAreOneRecursion
slabs_are_one keep chain forward limits depth more cell cells parts trace others all some rising is are same ordered =
    let is_made : IsOneRecursion forward limits (depth + more) cell parts trace others = slab_made keep forward limits depth more cell cells parts trace others rising is are in
    let rounds : IsTrace is_made.all = rounds_stand_in_order keep chain forward limits (depth + more) cell parts is_made.all some rising is_made.is_bisected in
    let one : is_made.all ≡ all = ordered_is_one StandsBefore stands_apart stands_far (trace ++ others) is_made.all all is_made.same same rounds.ordered ordered in
    subst (IsBisected forward limits (depth + more) cell parts) one is_made.is_bisected
