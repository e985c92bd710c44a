use Rattle.std.proofs.Common.{◌+◌, ◌-◌, take, drop, subst}
use Rattle.ciff_reader.specs.Listing.{listing, IsRefusal}
use Rattle.ciff_format.specs.Refused.{IsListFault}
use Rattle.ciff_reader.specs.declared.error.Refusal.{Refusal}
use Rattle.ciff_reader.proofs.Steps.{stands_at, slice_is, list_frame, list_refused, list_taken}
use Rattle.ciff_reader.proofs.lists.take_list.Goals as goal

pub returns-in-Err-clause-error : goal.returns-in-Err-clause-error
returns-in-Err-clause-error g c = λ lists expected.
    list_frame (g.H.Host.seen c.args.host.now) (g.H.Host.seen c.next_message.new.host) c.args.name.now c.args.window.now (listing lists c.args.builder.now) c.in-Err.error expected c.in-Err.ensures.error

pub returns-in-Err-Cause-clause-error : goal.returns-in-Err-Cause-clause-error
returns-in-Err-Cause-clause-error g c = λ lists expected. (
  λ file at.
      let span = c.in-Ok.span in
      let mid = c.next_message.new.window in
      let stands = stands_at c.args.window.now mid file _ span c.in-Ok.ensures.place (c.in-Ok.ensures.at file at.opens) c.in-Ok.ensures.span (slice_is c.bytes.result.now mid.bytes span.from span.size c.bytes.ensures.same) in
      list_refused (g.H.Host.seen c.args.host.now) c.args.name.now c.args.window.now (listing lists c.args.builder.now) file _ c.place-place.result _ c.in-Err-Cause.cause
      expected c.place-place.ensures.same at stands (subst (λ (r : Refusal). IsRefusal (IsListFault (listing lists c.args.builder.now) (take (span.from + span.size - span.from) (drop span.from c.bytes.result.now))) r) c.in-Err-Cause.field-0-is (c.in-Err-Cause.ensures.fault lists)),
  c.in-Ok.ensures.same,
)

pub returns-clause-ok : goal.returns-clause-ok
returns-clause-ok g c = λ lists file expected at.
    let span = c.in-Ok.span in
    let mid = c.next_message.new.window in
    list_taken c.messages_grow.ensures.list (g.H.Host.seen c.args.host.now) c.args.name.now c.args.window.now mid c.advance.new.self lists c.args.builder.now c.read_list.new.builder file _ span
    expected c.requires.no_record at c.in-Ok.ensures.place (c.in-Ok.ensures.at file at.opens) c.in-Ok.ensures.span (slice_is c.bytes.result.now mid.bytes span.from span.size c.bytes.ensures.same)
    c.in-Ok-read_list.ensures.ok c.advance.ensures

pub returns-clause-more : goal.returns-clause-more
returns-clause-more g c = record { list = c.in-Ok-read_list.ensures.ok.list; is = c.in-Ok-read_list.ensures.ok.after_is }
