use Rattle.std.proofs.Common.{length}
use Rattle.query_file.specs.View.{all_seen}
use Rattle.rgb_app.proofs.Seats.{beside_is, published_is}
use Rattle.rgb_app.proofs.beside.ask_beside.Goals as goal

pub returns : goal.returns
returns g c =
    let history = c.args.publisher.now in
    let published = published_is history.base history.plan c.join-published.result.0 c.in_ok-published.field-0 c.join-published.ensures.first c.in_ok-published.was in
    record {
      beside = beside_is history (all_seen c.args.queries.now) (length c.args.readers.items) c.in_ok-seats.seats.items _ c.in_ok-seats.ensures.len (c.in_ok-seats.ensures.same history c.requires.readers) c.join-published.ensures.second published;
    }
