use Rattle.std.proofs.Common.{◌-◌, length, take, drop, arith}
use Rattle.std.proofs.lemmas.List.{take_rest, length-take, length-drop}
use Rattle.ciff_wire.specs.Field.{as_bytes}
use Rattle.ciff_reader.proofs.Fronts.{used_some}
use Rattle.ciff_reader.proofs.Reading.{posting_goes_on, changes_twice}
use Rattle.ciff_reader.proofs.gaps.Gaps.with_short_postings.Goals as goal

pub postings-preserved : goal.postings-preserved
postings-preserved c =
    let message = c.args.message.now in
    let at = c.in_ok-further.behind in
    let rest = take (length message - at) (drop at message) in
    let starts = c.in-Some.ensures.posting in
    let same = changes_twice c.args.pending.now c.postings.pending c.with_run.new.pending c.postings.invariant.same c.in_ok-further.ensures.same in
    record {
      behind = omega (arith, c.postings.invariant.behind, c.in_ok-further.ensures.behind);
      within = omega (arith, starts.within, length-take (length message - at) (drop at message), length-drop at message, c.in_ok-further.ensures.within);
      same = changes_twice c.args.pending.now c.with_run.new.pending c.with_posting.new.pending same c.in_ok-gaps.ensures.same;
      read = λ kept reads.
          posting_goes_on c.field_after_field.ensures.added c.fields_grow.ensures.types c.fields_grow.ensures.held c.fields_grow.ensures.texts c.fields_grow.ensures.each message rest at c.in-Some.used c.in-Some.posting
          kept c.in_ok-further.further c.in_ok-gaps.gaps c.with_run.new.pending c.with_posting.new.pending (take_rest message at) starts c.in_ok-gaps.ensures.taken
          (c.in_ok-further.ensures.read kept (c.postings.invariant.read kept reads));
    }

pub postings-smaller : goal.postings-smaller
postings-smaller c =
    let message = c.args.message.now in
    let at = c.in_ok-further.behind in
    let rest = take (length message - at) (drop at message) in
    let starts = c.in-Some.ensures.posting in
    let some = used_some rest (record { number = 4; held = as_bytes starts.posting }) c.in-Some.used starts.spells in
    omega (arith, starts.within, some, length-take (length message - at) (drop at message), length-drop at message, c.in_ok-further.ensures.within, c.in_ok-further.ensures.behind)
