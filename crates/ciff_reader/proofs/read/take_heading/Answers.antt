use Rattle.std.proofs.Common.{◌+◌, ◌-◌, take, drop, subst}
use Rattle.ciff_format.specs.Refused.{IsHeaderFault}
use Rattle.ciff_reader.specs.declared.error.Refusal.{Refusal}
use Rattle.ciff_reader.specs.Listing.{IsRefusal}
use Rattle.ciff_reader.proofs.Steps.{stands_at, slice_is, header_frame, header_refused, header_taken}
use Rattle.ciff_reader.proofs.read.take_heading.Goals as goal

pub returns-in-Err-clause-error : goal.returns-in-Err-clause-error
returns-in-Err-clause-error g c =
    header_frame (g.H.Host.seen c.args.host.now) (g.H.Host.seen c.next_message.new.host) c.args.name.now c.args.window.now c.in-Err.error c.requires c.in-Err.ensures.error

pub returns-in-Err-Cause-clause-error : goal.returns-in-Err-Cause-clause-error
returns-in-Err-Cause-clause-error g c = (
  λ file opens.
      let span = c.in-Ok.span in
      let mid = c.next_message.new.window in
      let stands = stands_at c.args.window.now mid file _ span c.in-Ok.ensures.place (c.in-Ok.ensures.at file opens) c.in-Ok.ensures.span (slice_is c.bytes.result.now mid.bytes span.from span.size c.bytes.ensures.same) in
      header_refused c.args.window.now file _ c.place-place.result _ c.in-Err-Cause.cause c.requires c.place-place.ensures.same stands
      (subst (λ (r : Refusal). IsRefusal (IsHeaderFault (take (span.from + span.size - span.from) (drop span.from c.bytes.result.now))) r) c.in-Err-Cause.field-0-is c.in-Err-Cause.ensures.fault),
  c.in-Ok.ensures.same,
)

pub returns-clause-ok : goal.returns-clause-ok
returns-clause-ok g c = λ file opens.
    let span = c.in-Ok.span in
    let mid = c.next_message.new.window in
    header_taken c.messages_grow.ensures.header (g.H.Host.seen c.args.host.now) c.args.name.now c.args.window.now mid c.advance.new.self c.in-Ok-read_heading.heading file _ span
    c.requires opens c.in-Ok.ensures.place (c.in-Ok.ensures.at file opens) c.in-Ok.ensures.span (slice_is c.bytes.result.now mid.bytes span.from span.size c.bytes.ensures.same)
    c.in-Ok-read_heading.ensures.ok c.advance.ensures
