use Rattle.std.proofs.Common.{◌≡◌, ◌+◌, ◌*◌, length, sym, subst, arith}
use Rattle.query_file.specs.View.{seen, all_seen}
use Rattle.rgb_app.specs.Live.{IsLiveAnswer}
use Rattle.rgb_app.proofs.Turning.{AreSoFar, none_so_far, one_more_turn, turns_done, still_same, same_at_first, answer_moved, seen_count, answered_at, next_place}
use Rattle.rgb_app.proofs.reading.answers_in_turn.Goals as goal

pub turns-init : goal.turns-init
turns-init g c = record {
  same = same_at_first c.args.reader.now;
  place = subst (λ items. c.args.number ≡ c.args.number + length items * c.args.readers) (sym c.new-answers.ensures.items) (omega arith);
  so_far = subst (λ items. AreSoFar c.args.reader.now.plan.options c.args.reader.now.base (all_seen c.args.queries.now) c.args.readers c.args.number c.args.reader.now.length items) (sym c.new-answers.ensures.items)
      (none_so_far c.args.reader.now.plan.options c.args.reader.now.base (all_seen c.args.queries.now) c.args.readers c.args.number c.args.reader.now.length);
}

pub returns-in_err-answer-clause-same : goal.returns-in_err-answer-clause-same
returns-in_err-answer-clause-same g c = still_same c.args.reader.now c.turns.reader c.answer_to.new.reader c.turns.invariant.same c.answer_to.ensures.continues.same

pub returns-in_err-push-clause-same : goal.returns-in_err-push-clause-same
returns-in_err-push-clause-same g c = still_same c.args.reader.now c.turns.reader c.answer_to.new.reader c.turns.invariant.same c.answer_to.ensures.continues.same

pub turns-preserved : goal.turns-preserved
turns-preserved g c =
    let first = c.args.reader.now in
    let l = c.turns in
    let i = l.invariant in
    let answer = c.in_ok-answer.answer in
    let queries = c.args.queries.now in
    let own : IsLiveAnswer first.plan.options first.base (seen c.index-queries-place.result) answer = answer_moved first l.reader (seen c.index-queries-place.result) answer i.same c.in_ok-answer.ensures.ok in
    let grown = c.push.new.self.items in
    record {
      same = still_same first l.reader c.answer_to.new.reader i.same c.answer_to.ensures.continues.same;
      place = next_place l.answers.items grown answer l.place c.args.number c.args.readers c.in_ok-push.ensures.items i.place;
      so_far = one_more_turn first.plan.options first.base (all_seen queries) c.args.readers c.args.number l.reader.length c.answer_to.new.reader.length l.answers.items grown answer c.in_ok-push.ensures.items i.so_far
          (answered_at first.plan.options first.base queries c.index-queries-place.result answer l.place (c.args.number + length l.answers.items * c.args.readers) i.place c.turns-test.true c.index-queries-place.is own)
          c.answer_to.ensures.continues.longer c.in_ok-answer.ensures.last;
    }

pub returns-clause-ok : goal.returns-clause-ok
returns-clause-ok g c =
    let first = c.args.reader.now in
    let l = c.turns in
    turns_done first.plan.options first.base (all_seen c.args.queries.now) c.args.readers c.args.number l.reader.length l.place l.answers.items l.invariant.so_far l.invariant.place
    (omega (arith, c.turns-test.false, seen_count c.args.queries.now))

pub returns-clause-same : goal.returns-clause-same
returns-clause-same g c = c.turns.invariant.same
