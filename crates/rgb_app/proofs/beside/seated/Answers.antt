use Rattle.std.proofs.Common.{length, refl}
use Rattle.rgb_app.proofs.Seats.{one_more_seat, counted}
use Rattle.rgb_app.proofs.beside.seated.Goals as goal

pub readers-preserved : goal.readers-preserved
readers-preserved c =
    let l = c.readers in
    let rest = c.pop.new.self.items in
    let more = c.push.new.self.items in
    record {
      len = counted l.readers.items rest c.in-Some.reader l.seats.items more _ (length c.args.readers.items) c.in-Some.ensures.items c.in_ok-push.ensures.items l.invariant.len;
      same = λ history all. one_more_seat history l.readers.items rest c.in-Some.reader l.seats.items more _ c.in-Some.ensures.items c.in_ok-push.ensures.items refl (l.invariant.same history all);
    }
