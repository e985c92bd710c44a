use Rattle.std.proofs.Common.{◌≡◌, ℕ, ◌+◌, ◌*◌, ◌/◌, ◌%◌, ◌^◌, add-one, sym, ap, ◌∙◌}
use Rattle.generated_index.specs.Generated.{next_state, state_after, draw}
use Rattle.generated_index.proofs.Ranges.{add-mod_first}
use Rattle.generated_index.proofs.draws.Draws.next.Goals as goal

state_more : (number made state : ℕ) → state ≡ state_after number made
    → (state * 6364136223846793005 % 2 ^ 64 + 1442695040888963407) % 2 ^ 64 ≡ state_after number (made + 1)
unfolding state_after next_state
state_more number made state known =
    add-mod_first (state * 6364136223846793005) 1442695040888963407 (2 ^ 64)
    ∙ ap (λ (s : ℕ). (s * 6364136223846793005 + 1442695040888963407) % 2 ^ 64) known
    ∙ sym (ap (state_after number) (add-one made))

pub invariant_of-self : goal.invariant_of-self
invariant_of-self c =
    let now = c.args.self.now in
    record { known = state_more now.number now.made now.state now.known }

pub returns-clause-drawn : goal.returns-clause-drawn
unfolding draw
returns-clause-drawn c =
    let now = c.args.self.now in
    ap (λ (s : ℕ). s / 2 ^ 33) (state_more now.number now.made now.state now.known)
