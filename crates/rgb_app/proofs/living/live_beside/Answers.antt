use Rattle.std.proofs.Common.{◌≡◌, ◌<◌, ℕ, List, length, get_or, ap, sym, subst, ◌∙◌, arith}
use Rattle.query_file.specs.View.{all_seen}
use Rattle.rgb_app.specs.Turns.{AreOfSeats}
use Rattle.rgb_app.specs.declared.beside.Seat.{Seat}
use Rattle.rgb_app.proofs.Assembly.{seats_base, seats_plan, written_back, lived_is}
use Rattle.rgb_app.proofs.living.live_beside.Goals as goal

pub at_last-requires-clause-base : goal.at_last-requires-clause-base
at_last-requires-clause-base g c =
    seats_base c.args.index.now (record { options = c.args.options }) (all_seen c.args.queries.now) c.args.readers c.in_ok-published.field-0 c.as_mut_slice.result.now c.in_ok-published.ensures.beside c.as_mut_slice.ensures.value

pub at_last-requires-clause-plan : goal.at_last-requires-clause-plan
at_last-requires-clause-plan g c =
    seats_plan c.args.index.now (record { options = c.args.options }) (all_seen c.args.queries.now) c.args.readers c.in_ok-published.field-0 c.as_mut_slice.result.now c.in_ok-published.ensures.beside c.as_mut_slice.ensures.value

pub returns : goal.returns
returns g c =
    let beside = c.in_ok-published.field-0 in
    let lent = c.as_mut_slice.ensures.value in
    let later = c.at_last.new.seats in
    let len : length later ≡ length beside.seats.items = c.at_last.ensures.len ∙ ap length lent in
    let same : (reader : ℕ) (seat : Seat) → reader < length beside.seats.items → (get_or later reader seat).answers ≡ (get_or beside.seats.items reader seat).answers =
    λ reader seat lt. c.at_last.ensures.answers reader seat (subst (λ (seats : List Seat). reader < length seats) (sym lent) lt) ∙ ap (λ (seats : List Seat). (get_or seats reader seat).answers) lent in
    let held : AreOfSeats later c.in_ok-by_reader.by_reader.items =
    subst (λ (seats : List Seat). AreOfSeats seats c.in_ok-by_reader.by_reader.items) (written_back beside.seats.len later beside.seats.items (omega (arith, len, beside.seats.ok.0))) c.in_ok-by_reader.ensures.each in
    record {
      lived = lived_is c.args.options c.args.readers c.args.index.now c.in_ok-new.new (all_seen c.args.queries.now) beside later c.in_ok-work.work c.in_ok-by_reader.by_reader c.in_ok-finals.finals
          c.in_ok-published.ensures.beside len same held c.in_ok-new.ensures.ok c.in_ok-work.ensures.new c.in_ok-work.ensures.rounds c.in_ok-work.ensures.text
          c.in_ok-finals.ensures.finals c.in_ok-finals.ensures.at;
    }
