use Rattle.std.proofs.Common.{◌≡◌, ◌≢◌, ℕ, ◌+◌, ◌*◌, ◌/◌, ◌%◌, Bool, true, false, cond, sym, ap, ◌∙◌}
use Rattle.generated_index.specs.Generated.{draw, term_of}
use Rattle.generated_index.proofs.Ranges.{equal, unequal}
use Rattle.generated_index.proofs.draws.Draws.term.Goals as goal

shared : (topic drawn : ℕ) → drawn % 4 ≡ 3 → 1280 + drawn / 4 % 720 ≡ term_of topic drawn
unfolding term_of
shared topic drawn h = sym (ap (λ (b : Bool). cond b (1280 + drawn / 4 % 720) (topic * 40 + drawn / 4 % 40)) (equal (drawn % 4) 3 h))

own : (topic drawn : ℕ) → drawn % 4 ≢ 3 → topic * 40 + drawn / 4 % 40 ≡ term_of topic drawn
unfolding term_of
own topic drawn h = sym (ap (λ (b : Bool). cond b (1280 + drawn / 4 % 720) (topic * 40 + drawn / 4 % 40)) (unequal (drawn % 4) 3 h))

pub returns-then-drawn-eq3-clause-drawn : goal.returns-then-drawn-eq3-clause-drawn
returns-then-drawn-eq3-clause-drawn c = shared c.args.topic c.next-drawn.result c.if-drawn-eq3.true ∙ ap (term_of c.args.topic) c.next-drawn.ensures.drawn

pub returns-else-drawn-eq3-clause-drawn : goal.returns-else-drawn-eq3-clause-drawn
returns-else-drawn-eq3-clause-drawn c = own c.args.topic c.next-drawn.result c.if-drawn-eq3.false ∙ ap (term_of c.args.topic) c.next-drawn.ensures.drawn
