-- The costs of the kept rounds fall, each beginning at the cost at which the one before ended.
use Rattle.std.proofs.Common.{◌≡◌, ℕ, zero, suc, ◌+◌, ◌-◌, ◌<◌, ◌≤◌, ℤ, ◌<ℤ◌, ◌≤ℤ◌, List, length, get_or, All, AllPairs, sym, subst, ap, ◌∙◌, arith}
use Rattle.std.proofs.lemmas.Int.{ints}
use Rattle.std.proofs.lemmas.Option.{slice_get-get_or}
use Rattle.forward_index.specs.Forward.{ForwardIndex}
use Rattle.degrees.specs.Cost.{cost}
use Rattle.exchange.specs.declared.round.Kept.{Kept}
use Rattle.exchange.specs.Halving.{Halves, AreKept}
use Rattle.exchange.specs.Laws.{KeptRoundsAreAChain}
use Rattle.exchange.proofs.Entries.{no_round, entry_at, entry_first, entry_last, kept_at, kept_there}

lower : (p q r s z : ℤ) → p ≡ q → r ≡ s → r <ℤ p → q ≤ℤ z → s ≤ℤ z
lower p q r s z is_p is_r less low = omega (arith, ints)

same_low : (y z : ℤ) → y ≡ z → y ≤ℤ z
same_low y z same = omega (arith, ints)

under : (p q r s t : ℤ) → q ≡ r → r ≤ℤ s → s ≡ t → t <ℤ p → q <ℤ p
under p q r s t is_q low is_t less = omega (arith, ints)

module _ (forward : ForwardIndex) (cell : List ℕ) (entries : List Halves) (records : List Kept) (are : AreKept forward cell entries records) where
  -- the cost after so many kept rounds
  abbrev cost_after : ℕ → ℤ
  cost_after k = cost forward (entry_at cell entries k).a (entry_at cell entries k).b

  falls : (k n : ℕ) → k + n < length records + 1 → cost_after (k + n) ≤ℤ cost_after k
  falls k zero within = same_low (cost_after (k + 0)) (cost_after k) (ap (λ (m : ℕ). cost_after m) (omega arith))
  falls k (suc n) within =
      let r = get_or records (k + n) no_round in
      let is = kept_there forward cell entries records are (k + n) (omega (arith, within)) in
      subst (λ (m : ℕ). cost_after m ≤ℤ cost_after k) (omega arith)
      (lower r.before (cost_after (k + n)) r.after (cost_after (k + n + 1)) (cost_after k) is.before is.after is.less (falls k n (omega (arith, within))))

  falls_to : (k m : ℕ) → k ≤ m → m < length records + 1 → cost_after m ≤ℤ cost_after k
  falls_to k m order within =
      let sum : k + (m - k) ≡ m = omega arith in
      subst (λ (n : ℕ). cost_after n ≤ℤ cost_after k) sum (falls k (m - k) (omega (arith, within)))

  less_after : All (λ r. r.after <ℤ r.before) records
  less_after k d within = (kept_at forward cell entries records are k (get_or records k d) (slice_get-get_or records k d within)).less

  falling : AllPairs (λ r later. later.before <ℤ r.before) records
  falling i j d order within =
      let r = get_or records i d in
      let later = get_or records j d in
      let is = kept_at forward cell entries records are i r (slice_get-get_or records i d (omega (arith, order, within))) in
      let is_later = kept_at forward cell entries records are j later (slice_get-get_or records j d within) in
      under r.before later.before (cost_after j) (cost_after (i + 1)) r.after is_later.before (falls_to (i + 1) j (omega (arith, order)) (omega (arith, within))) (sym is.after) is.less

pub kept_rounds_are_a_chain : KeptRoundsAreAChain
kept_rounds_are_a_chain forward cell rounds left records are =
    let entries = are.entries in
    let kept = are.is_halving.are_kept in
    let begin = entry_first forward cell entries records kept in
    let end = entry_last forward cell entries records kept left are.last in
    let cost_of_halves = λ (h : Halves). cost forward h.a h.b in
    record {
      less = less_after forward cell entries records kept;
      first = λ r read. (kept_at forward cell entries records kept 0 r read).before ∙ ap cost_of_halves begin;
      linked = λ k r next read read_next. (kept_at forward cell entries records kept (k + 1) next read_next).before ∙ sym (kept_at forward cell entries records kept k r read).after;
      falling = falling forward cell entries records kept;
      last = λ k r len read.
          (kept_at forward cell entries records kept k r read).after
          ∙ ap (λ (n : ℕ). cost_of_halves (entry_at cell entries n)) (sym len)
          ∙ ap cost_of_halves end;
      no_more = subst (λ (h : Halves). cost_of_halves left ≤ℤ cost_of_halves h) begin
          (subst (λ (h : Halves). cost_of_halves h ≤ℤ cost_of_halves (entry_at cell entries 0)) end (falls_to forward cell entries records kept 0 (length records) (omega arith) (omega arith)));
    }
