use Rattle.std.proofs.Common.{◌≡◌, [], List, length, sym, subst, ◌∙◌, arith}
use Rattle.std.specs.Vec.Iter.{into_iter_len}
use Rattle.std.proofs.lemmas.List.{map-id}
use Rattle.std.proofs.lemmas.Iterator.Adapters.{YieldsList-from_vec}
use Rattle.std.proofs.lemmas.Iterator.Consumers.{YieldsList-end}
use Rattle.rgb_app.specs.Turns.{AreOfSeats}
use Rattle.rgb_app.specs.declared.beside.Seat.{Seat}
use Rattle.rgb_app.proofs.Assembly.{none_of_seats, one_more_of_seats}
use Rattle.rgb_app.proofs.living.answers_of.Goals as goal

pub loop-seat-init : goal.loop-seat-init
loop-seat-init c = subst (AreOfSeats []) (sym c.in_ok-all.ensures.items) none_of_seats

pub loop-seat-preserved : goal.loop-seat-preserved
loop-seat-preserved c =
    subst (AreOfSeats _) (sym c.in_ok-push.ensures.items)
    (one_more_of_seats c.loop-seat.yielded c.loop-seat.all.items c.in-Some.seat c.in_ok-answers.field-0 c.loop-seat.invariant c.in_ok-answers.was)

pub returns : goal.returns
returns c =
    let given = c.into_iter-seat-iterator.ensures.into_iter_gives in
    let len : into_iter_len c.into_iter-seat-iterator.result ≡ length c.args.seats.items = omega (arith, given.1, c.args.seats.ok.0) in
    let all = YieldsList-end (YieldsList-from_vec c.args.seats.items given.0 len) c.loop-seat.yielded _ c.loop-seat.yielded_by c.next.result c.next.new.self c.in-None.is c.next.ensures.steps in
    record {
      each = subst (λ (seats : List Seat). AreOfSeats seats c.loop-seat.all.items) (sym (map-id c.loop-seat.yielded) ∙ all.0) c.loop-seat.invariant;
    }
