use Rattle.std.proofs.Common.{◌+◌, ◌-◌, take, drop, ◌∙◌, sym, subst}
use Rattle.ciff_reader.specs.Listing.{listing, IsRefusal}
use Rattle.ciff_format.specs.Refused.{IsListFault}
use Rattle.ciff_reader.specs.declared.error.Refusal.{Refusal}
use Rattle.ciff_reader.proofs.Steps.{stands_at, slice_is, list_refused, list_taken}
use Rattle.ciff_reader.proofs.Counting.{same_records, expects_list, counted_frame}
use Rattle.ciff_reader.proofs.counted.take_counted.Goals as goal

pub returns-in-Err-clause-error : goal.returns-in-Err-clause-error
returns-in-Err-clause-error g c = λ lists expected.
    counted_frame (g.H.Host.seen c.args.host.now) (g.H.Host.seen c.next_message.new.host) c.args.name.now c.args.window.now lists c.args.builder.now c.args.tally c.in-Err.error expected c.in-Err.ensures.error

pub returns-in-Err-Cause-clause-error : goal.returns-in-Err-Cause-clause-error
returns-in-Err-Cause-clause-error g c = λ lists expected. (
  λ file at.
      let seen = g.H.Host.seen c.args.host.now in
      let name = c.args.name.now in
      let window = c.args.window.now in
      let span = c.in-Ok.span in
      let mid = c.next_message.new.window in
      let front = listing lists at.full in
      let stands = stands_at window mid file _ span c.in-Ok.ensures.place (c.in-Ok.ensures.at file at.at.opens) c.in-Ok.ensures.span (slice_is c.bytes.result.now mid.bytes span.from span.size c.bytes.ensures.same) in
      list_refused seen name window front file _ c.place-place.result _ c.in-Err-Cause.cause
      (expects_list seen name window lists c.args.builder.now c.args.tally file expected at) c.place-place.ensures.same at.at stands
      (subst (λ (r : Refusal). IsRefusal (IsListFault front (take (span.from + span.size - span.from) (drop span.from c.bytes.result.now))) r) c.in-Err-Cause.field-0-is (c.in-Err-Cause.ensures.fault at.full lists at.counted)),
  c.in-Ok.ensures.same,
)

pub returns-clause-ok : goal.returns-clause-ok
returns-clause-ok g c = λ lists file expected at.
    let seen = g.H.Host.seen c.args.host.now in
    let name = c.args.name.now in
    let window = c.args.window.now in
    let span = c.in-Ok.span in
    let mid = c.next_message.new.window in
    let more = c.in-Ok-count_list.ensures.ok at.full at.counted in
    record {
      full = more.after;
      counted = more.counted;
      at = list_taken c.messages_grow.ensures.list seen name window mid c.advance.new.self lists at.full more.after file _ span
          (expects_list seen name window lists c.args.builder.now c.args.tally file expected at) (sym (same_records at.full c.args.builder.now c.args.tally at.counted) ∙ c.requires.no_record) at.at
          c.in-Ok.ensures.place (c.in-Ok.ensures.at file at.at.opens) c.in-Ok.ensures.span (slice_is c.bytes.result.now mid.bytes span.from span.size c.bytes.ensures.same)
          more.adds c.advance.ensures;
    }
