use Rattle.std.proofs.Common.{refl}
use Rattle.std.proofs.lemmas.Option.{slice_get_read}
use Rattle.claim_rows.proofs.Seats.{back_set, over_set}
use Rattle.claim_rows.proofs.turns.turn.Goals as goal

pub returns-clause-back : goal.returns-clause-back
returns-clause-back c =
    let seats = c.args.seats.now.items in
    back_set c.args.claims.now seats c.args.seat c.index_mut.result.now c.step.new.seat c.requires.back (slice_get_read seats _ c.args.seat c.index_mut.result.now refl c.requires.within c.index_mut.ensures.value) c.step.ensures.seat c.step.ensures.free c.step.ensures.shares

pub returns-clause-over : goal.returns-clause-over
returns-clause-over c = over_set _ c.args.seats.now.items c.args.seat c.step.new.seat c.step.result c.requires.within c.step.ensures.over
