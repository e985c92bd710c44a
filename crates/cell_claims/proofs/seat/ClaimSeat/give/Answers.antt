use Rattle.std.proofs.Common.{ap, ◌≡◌, ◌∙◌, Some}
use Rattle.cell_claims.specs.Kept.{held_of}
use Rattle.cell_claims.proofs.Seats.{kept_given}
use Rattle.cell_claims.proofs.seat.ClaimSeat.give.Goals as goal

pub invariant_of-self : goal.invariant_of-self
invariant_of-self c =
    let held : held_of c.self.inside.seat.me.1 ≡ Some c.args.done.place = ap (λ s. s.held) c.self.view_is ∙ c.requires.held in
    kept_given _ _ _ _ _ c.args.done c.self.invariant held c.put.ensures.given
