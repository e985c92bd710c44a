-- Steps are filled one after another.
use Rattle.std.proofs.Common.{◌≡◌, ℕ, ◌+◌, ◌<◌, ℤ, pos, List, length, get_or, slice_set, sym, subst, inl, inr, arith}
use Rattle.std.proofs.lemmas.Bool.{cases_lt}
use Rattle.std.proofs.lemmas.List.{get_or-set_other}
use Rattle.std.proofs.lemmas.Grind.{get_or-set_at}
use Rattle.rgb_base.specs.declared.parts.Side.{Side}
use Rattle.degrees.specs.Counts.{Counted}
use Rattle.exchange.specs.Tries.{IsStep}

pub filled_more : (side : Side) (table : Counted) (steps : List ℤ) (t : ℕ) (step : ℤ) → t < length steps → ((u : ℕ) → u < t → IsStep side table u (get_or steps u (pos 0))) → IsStep side table t step
    → (u : ℕ) → u < t + 1 → IsStep side table u (get_or (slice_set steps t step) u (pos 0))
filled_more side table steps t step within filled here u below =
    elim (cases_lt u t) [
      | inl early ↦ subst (IsStep side table u) (sym (get_or-set_other steps t u step (pos 0) (λ same. omega (arith, early, same)))) (filled u early)
      | inr late ↦
          let is : u ≡ t = omega (arith, late, below) in
          subst (IsStep side table u) (sym (get_or-set_at steps t u step (pos 0) is within)) (subst (λ (v : ℕ). IsStep side table v step) (sym is) here)
    ]
