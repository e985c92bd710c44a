-- The halves of a cell after each kept round.
use Rattle.std.proofs.Common.{◌≡◌, ℕ, zero, suc, ◌+◌, ◌<◌, pos, List, length, get_or, sym, subst, arith}
use Rattle.std.proofs.Common.{add-one}
use Rattle.std.specs.Prelude.{slice_get, Some}
use Rattle.std.proofs.lemmas.Option.{slice_get-get_or, slice_get_within, get_or_from_slice_get}
use Rattle.forward_index.specs.Forward.{ForwardIndex}
use Rattle.exchange.specs.declared.round.Kept.{Kept}
use Rattle.exchange.specs.Round.{IsKept}
use Rattle.exchange.specs.Halving.{Halves, halves_of, AreKept}

abbrev pub no_round : Kept
no_round = record { before = pos 0; after = pos 0; pairs = 0 }

-- the halves after so many kept rounds
abbrev pub entry_at : List ℕ → List Halves → ℕ → Halves
entry_at cell entries k = get_or entries k (halves_of cell)

module _ (forward : ForwardIndex) (cell : List ℕ) (entries : List Halves) (records : List Kept) (are : AreKept forward cell entries records) where
  pub entry_there : (k : ℕ) → k < length records + 1 → slice_get entries k ≡ Some (entry_at cell entries k)
  entry_there k within = slice_get-get_or entries k (halves_of cell) (omega (arith, within, are.len))

  pub entry_first : entry_at cell entries 0 ≡ halves_of cell
  entry_first = get_or_from_slice_get entries 0 (halves_of cell) (halves_of cell) are.opening

  pub kept_at : (k : ℕ) (r : Kept) → slice_get records k ≡ Some r
      → IsKept forward (entry_at cell entries k).a (entry_at cell entries k).b r (entry_at cell entries (k + 1)).a (entry_at cell entries (k + 1)).b
  kept_at k r read =
      let within = slice_get_within records k r read in
      are.each k (entry_at cell entries k) (entry_at cell entries (k + 1)) r (entry_there k (omega (arith, within))) (entry_there (k + 1) (omega (arith, within))) read

  pub kept_there : (k : ℕ) → k < length records
      → IsKept forward (entry_at cell entries k).a (entry_at cell entries k).b (get_or records k no_round) (entry_at cell entries (k + 1)).a (entry_at cell entries (k + 1)).b
  kept_there k within = kept_at k (get_or records k no_round) (slice_get-get_or records k no_round within)

  -- what the opening halves have, and what a kept round keeps, all have
  pub all_entries : (P : Halves → Type 0) → P (halves_of cell)
      → ((before after : Halves) (r : Kept) → IsKept forward before.a before.b r after.a after.b → P before → P after)
      → (k : ℕ) → k < length records + 1 → P (entry_at cell entries k)
  all_entries P opening step zero within = subst P (sym entry_first) opening
  all_entries P opening step (suc k) within =
      subst (λ (n : ℕ). P (entry_at cell entries n)) (add-one k)
      (step (entry_at cell entries k) (entry_at cell entries (k + 1)) (get_or records k no_round) (kept_there k (omega (arith, within)))
      (all_entries P opening step k (omega (arith, within))))

  pub entry_last : (left : Halves) → slice_get entries (length records) ≡ Some left → entry_at cell entries (length records) ≡ left
  entry_last left read = get_or_from_slice_get entries (length records) left (halves_of cell) read
