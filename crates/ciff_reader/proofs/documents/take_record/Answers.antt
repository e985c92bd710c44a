use Rattle.std.proofs.Common.{◌+◌, ◌-◌, take, drop, subst}
use Rattle.ciff_format.specs.Refused.{IsRecordFault}
use Rattle.ciff_reader.specs.declared.error.Refusal.{Refusal}
use Rattle.ciff_reader.specs.Listing.{IsRefusal}
use Rattle.ciff_reader.proofs.Steps.{stands_at, slice_is, record_frame, record_refused, record_taken}
use Rattle.ciff_reader.proofs.documents.take_record.Goals as goal

pub returns-in-Err-clause-error : goal.returns-in-Err-clause-error
returns-in-Err-clause-error g c = λ front expects all.
    record_frame (g.H.Host.seen c.args.host.now) (g.H.Host.seen c.next_message.new.host) c.args.name.now c.args.window.now front c.in-Err.error expects c.in-Err.ensures.error

pub returns-in-Err-Cause-clause-error : goal.returns-in-Err-Cause-clause-error
returns-in-Err-Cause-clause-error g c = λ front expects all. (
  λ file at.
      let span = c.in-Ok.span in
      let mid = c.next_message.new.window in
      let stands = stands_at c.args.window.now mid file _ span c.in-Ok.ensures.place (c.in-Ok.ensures.at file at.opens) c.in-Ok.ensures.span (slice_is c.bytes.result.now mid.bytes span.from span.size c.bytes.ensures.same) in
      record_refused (g.H.Host.seen c.args.host.now) c.args.name.now c.args.window.now front file _ c.place-place.result _ c.in-Err-Cause.cause
      expects c.place-place.ensures.same at stands
      (subst (λ (r : Refusal). IsRefusal (IsRecordFault front (take (span.from + span.size - span.from) (drop span.from c.bytes.result.now))) r) c.in-Err-Cause.field-0-is (c.in-Err-Cause.ensures.fault front all)),
  c.in-Ok.ensures.same,
)

pub returns-clause-ok : goal.returns-clause-ok
returns-clause-ok g c = λ front expects all.
    let span = c.in-Ok.span in
    let mid = c.next_message.new.window in
    let more = c.in-Ok-put_record.ensures.ok front all in
    record {
      one = more.one;
      read = more.read;
      new_number = more.new_number;
      below = more.below;
      at = λ file at.
          record_taken c.messages_grow.ensures.record (g.H.Host.seen c.args.host.now) c.args.name.now c.args.window.now mid c.advance.new.self front more.one file _ span
          expects at c.in-Ok.ensures.place (c.in-Ok.ensures.at file at.opens) c.in-Ok.ensures.span (slice_is c.bytes.result.now mid.bytes span.from span.size c.bytes.ensures.same)
          (more.next at.good.rules.sized.postings) c.advance.ensures;
    }
