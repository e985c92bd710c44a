-- Traces that are moved to another level and start.
use Rattle.std.proofs.Common.{◌≡◌, ℕ, ◌+◌, List, [], ◌∷◌, ◌++◌, refl, ap, ap₂, ◌∙◌, arith}
use Rattle.std.proofs.lemmas.List.{map-append}
use Rattle.cell_claims.specs.declared.trace.KeptRound.{KeptRound}
use Rattle.bisection.specs.Trace.{round_at, moved_to}

abbrev put : KeptRound → ℕ → ℕ → KeptRound
put r level start = record r { level = level; start = start }

put_same : (r : KeptRound) (level other_level start other_start : ℕ) → level ≡ other_level → start ≡ other_start → put r level start ≡ put r other_level other_start
put_same r level other_level start other_start same_level same_start = ap (λ (l : ℕ). put r l start) same_level ∙ ap (put r other_level) same_start

moved_nowhere_one : (r : KeptRound) → round_at 0 0 r ≡ r
moved_nowhere_one r = put_same r (r.level + 0) r.level (r.start + 0) r.start (omega arith) (omega arith)

moved_twice_one : (level start level' start' : ℕ) (r : KeptRound) → round_at (level + level') (start + start') r ≡ round_at level' start' (round_at level start r)
moved_twice_one level start level' start' r =
    put_same r (r.level + (level + level')) (r.level + level + level') (r.start + (start + start')) (r.start + start + start') (omega arith) (omega arith)

pub moved_nowhere : (trace : List KeptRound) → moved_to 0 0 trace ≡ trace
moved_nowhere [] = refl
moved_nowhere (r ∷ trace) = ap₂ (λ (x : KeptRound) (xs : List KeptRound). x ∷ xs) (moved_nowhere_one r) (moved_nowhere trace)

pub moved_twice : (level start level' start' : ℕ) (trace : List KeptRound) → moved_to (level + level') (start + start') trace ≡ moved_to level' start' (moved_to level start trace)
moved_twice level start level' start' [] = refl
moved_twice level start level' start' (r ∷ trace) = ap₂ (λ (x : KeptRound) (xs : List KeptRound). x ∷ xs) (moved_twice_one level start level' start' r) (moved_twice level start level' start' trace)

pub moved-append : (level start : ℕ) (xs ys : List KeptRound) → moved_to level start (xs ++ ys) ≡ moved_to level start xs ++ moved_to level start ys
moved-append level start xs ys = map-append (round_at level start) xs ys
