use Rattle.rgb_app.specs.Turns.{AreOfSeats}
use Rattle.rgb_app.proofs.living.answers_of.Given as goal

abbrev pub invariant-loop-seat : goal.invariant-loop-seat
invariant-loop-seat l = AreOfSeats l.yielded l.all.items
