use Rattle.std.proofs.Common.{List, length, ap, ◌≡◌, ◌∙◌, arith, None}
use Rattle.cell_claims.specs.declared.cell.CellWork.{CellWork}
use Rattle.cell_claims.specs.Claims.{Seated}
use Rattle.cell_claims.specs.Kept.{held_of}
use Rattle.cell_claims.proofs.Seats.{kept_none, kept_some, has_ended}
use Rattle.cell_claims.proofs.seat.ClaimSeat.claim.Goals as goal

pub invariant_of-self : goal.invariant_of-self
invariant_of-self c =
    let free : held_of c.self.inside.seat.me.1 ≡ None = ap (λ (s : Seated). s.held) c.self.view_is ∙ c.requires.free in
    let cells : c.self.inside.seat.me.0.cells ≡ c.args.claims.now.cells = ap (λ (s : Seated). s.cells) c.self.view_is ∙ c.requires.seat.1 in
    let len : length c.self.inside.seat.me.0.cells ≡ length c.args.claims.now.cells = ap (λ (w : List CellWork). length w) cells in
    kept_none _ _ _ _ _ c.draw-number.result c.self.invariant c.if-self.false free c.draw-number.ensures.drawn (omega (arith, len, c.len.ensures.same, c.if-number-len.true))

pub invariant_of-self-2 : goal.invariant_of-self-2
invariant_of-self-2 c =
    let free : held_of c.self.inside.seat.me.1 ≡ None = ap (λ (s : Seated). s.held) c.self.view_is ∙ c.requires.free in
    let cells : c.self.inside.seat.me.0.cells ≡ c.args.claims.now.cells = ap (λ (s : Seated). s.cells) c.self.view_is ∙ c.requires.seat.1 in
    let len : length c.self.inside.seat.me.0.cells ≡ length c.args.claims.now.cells = ap (λ (w : List CellWork). length w) cells in
    kept_some _ _ _ _ _ _ c.draw-number.result c.self.invariant c.if-self.false free c.draw-number.ensures.drawn (omega (arith, len, c.len.ensures.same, c.if-number-len.false)) c.take.ensures.away

pub returns-then-number-len-clause-none : goal.returns-then-number-len-clause-none
returns-then-number-len-clause-none c =
    let cells : c.self.inside.seat.me.0.cells ≡ c.args.claims.now.cells = ap (λ (s : Seated). s.cells) c.self.view_is ∙ c.requires.seat.1 in
    let len : length c.self.inside.seat.me.0.cells ≡ length c.args.claims.now.cells = ap (λ (w : List CellWork). length w) cells in
    has_ended c.args.self.now _ _ _ _ _ c.draw-number.result c.self.view_is c.self.invariant c.if-self.false c.draw-number.ensures.drawn (omega (arith, len, c.len.ensures.same, c.if-number-len.true)) c.draw-number.ensures.table
