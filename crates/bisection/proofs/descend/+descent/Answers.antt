use Rattle.std.proofs.Common.{◌≡◌, ◌+◌, List, ◌++◌, OnOk, rules, refl, sym, ap, ◌∙◌}
use Rattle.std.proofs.lemmas.Result.{on_ok_weaker}
use Rattle.exchange.specs.declared.round.Kept.{Kept}
use Rattle.bisection.specs.Trace.{own_rounds, moved_to}
use Rattle.bisection.specs.Progress.{limits_of}
use Rattle.bisection.specs.Cells.{Descends, output_of}
use Rattle.bisection.proofs.Descents.{descend_none, descend_last, descend_split, descend_both, goes_on, told, on_ok_two, descend_beside}
use Rattle.bisection.proofs.descend.+descent.Goals as goal

pub descend-returns-then-level-slab : goal.descend-returns-then-level-slab
descend-returns-then-level-slab g t c =
    let options = c.args.slab.now.options in
    record {
      ok = descend_last (limits_of options) options.depth c.args.level c.args.slab.now.last c.args.start c.args.part.now c.in-Some.rows c.args.docs.now _ _ c.if-level-slab.true (sym c.in-Some.ensures.value) c.in_ok-push-in-Some.ensures.items refl;
    }

pub descend-returns-in_ok-push-in-None : goal.descend-returns-in_ok-push-in-None
descend-returns-in_ok-push-in-None g t c =
    let options = c.args.slab.now.options in
    record {
      ok = descend_none (limits_of options) options.depth c.args.level c.args.slab.now.last c.args.start c.args.part.now c.args.docs.now _ _ c.requires.can.order c.requires.can.within (sym c.in-None.ensures.value) c.in_ok-push-in-None.ensures.items refl;
    }

pub descend-returns-in_ok-split-in-Some : goal.descend-returns-in_ok-split-in-Some
descend-returns-in_ok-split-in-Some g t c =
    let options = c.args.slab.now.options in
    record {
      ok = on_ok_weaker c.go_on.result
          (descend_split (limits_of options) options.depth c.args.level c.args.slab.now.last c.args.start c.requires.laws c.args.part.now c.in-Some.rows c.in_ok-split-in-Some.split c.args.docs.now c.halve_cell.new.docs c.go_on.new.docs
          (output_of c.args.made.now) (output_of c.go_on.new.made) (sym c.in-Some.ensures.value) c.in_ok-split-in-Some.ensures.ok)
          c.go_on.ensures.ok;
    }

pub go_on-returns : goal.go_on-returns
go_on-returns g t c =
    let options = c.args.slab.now.options in
    let size = c.args.split.a.len + c.args.split.b.len in
    record {
      ok = on_ok_weaker c.both.result
          (goes_on (limits_of options) options.depth c.args.level c.args.slab.now.last c.args.start c.requires.laws c.args.split size c.args.docs.now c.both.new.docs
          (output_of c.args.made.now) _ (output_of c.both.new.made) c.requires.order refl c.requires.len refl
          (c.in_ok-append_rounds.ensures.ok ∙ ap (λ (kept : List Kept). c.args.made.now.trace.items ++ moved_to c.args.level c.args.start (own_rounds size kept)) c.as_slice.ensures.same))
          c.both.ensures.ok;
    }

pub both-returns-then-workers-lt2 : goal.both-returns-then-workers-lt2
both-returns-then-workers-lt2 g t c =
    let options = c.args.slab.now.options in
    record {
      ok = on_ok_weaker c.descend-then-workers-lt2.result
          (descend_both (limits_of options) options.depth (c.args.level + 1) c.args.slab.now.last c.args.start (c.args.start + c.args.a.len) c.args.a c.args.b c.args.docs.now
          c.split_at_mut-docs_a.result.0.now c.split_at_mut-docs_a.result.1.now c.descend.new.docs c.descend-then-workers-lt2.new.docs (output_of c.args.made.now) (output_of c.descend.new.made) (output_of c.descend-then-workers-lt2.new.made)
          refl c.split_at_mut-docs_a.ensures.front c.split_at_mut-docs_a.ensures.back c.in_ok-descend.ensures.ok)
          c.descend-then-workers-lt2.ensures.ok;
    }

pub both-returns : goal.both-returns
both-returns g t c =
    let options = c.args.slab.now.options in
    let limits = limits_of options in
    let depth = options.depth in
    let below = c.args.level + 1 in
    let last = c.args.slab.now.last in
    let middle = c.args.start + c.args.a.len in
    let front = c.split_at_mut-docs_a.result.0.now in
    let back = c.split_at_mut-docs_a.result.1.now in
    let one = c.made_a-2-1.given.0 in
    let two = c.made_b-2-1.given.0 in
    let old = c.args.made.now in
    let mid = c.append_made.new.made in
    let new = c.append_made-2.new.made in
    let Said_a : Type 0 = Descends limits depth below last c.args.start c.args.a front c.docs_a-2-1.given.0 (output_of c.nothing-made_a.result) (output_of one) in
    let Said_b : Type 0 = Descends limits depth below last middle c.args.b back c.docs_b-2-1.given.0 (output_of c.nothing-made_b.result) (output_of two) in
    let said_a : OnOk c.join_mut-done_a.result.0 Said_a = search rules in
    let said_b : OnOk c.join_mut-done_a.result.1 Said_b = search rules in
    let first : Said_a = told Said_a c.join_mut-done_a.result.0 c.in_ok-done_a.field-0 c.in_ok-done_a.was said_a in
    let second : Said_b = told Said_b c.join_mut-done_a.result.1 c.in_ok-done_b.field-0 c.in_ok-done_b.was said_b in
    record {
      ok = on_ok_two (new.parts.items ≡ mid.parts.items ++ two.parts.items) (new.trace.items ≡ mid.trace.items ++ two.trace.items) _ c.append_made-2.result
          (descend_beside limits depth below last c.args.start middle c.args.a c.args.b c.args.docs.now front back c.docs_a-2-1.given.0 c.docs_b-2-1.given.0 (output_of c.nothing-made_a.result) (output_of one) (output_of c.nothing-made_b.result) (output_of two)
          (output_of old) (output_of mid) (output_of new) refl c.split_at_mut-docs_a.ensures.front c.split_at_mut-docs_a.ensures.back c.nothing-made_a.ensures.parts c.nothing-made_a.ensures.trace c.nothing-made_b.ensures.parts c.nothing-made_b.ensures.trace
          first second c.in_ok-append_made.ensures.parts c.in_ok-append_made.ensures.trace)
          c.append_made-2.ensures.parts c.append_made-2.ensures.trace;
    }
