use Rattle.std.proofs.Common.{◌≡◌, ◌≤◌, length, sym, ap, subst, ◌∙◌, arith}
use Rattle.query_file.specs.View.{seen, all_seen}
use Rattle.rgb_app.specs.Live.{IsLiveAnswer, last_of}
use Rattle.rgb_app.proofs.Turning.{AreFirst, none_first, one_more_first, all_first, still_same, same_at_first, answer_moved, answered_at, one_longer}
use Rattle.rgb_app.proofs.reading.final_answers.Goals as goal

pub loop-query-init : goal.loop-query-init
loop-query-init c =
    let first = c.args.reader.now in
    record {
      same = same_at_first first;
      longer = omega arith;
      len = ap length c.new-answers.ensures.items;
      first = subst (λ items. AreFirst first.plan.options first.base (all_seen c.args.queries.now) (last_of first.plan.options) items) (sym c.new-answers.ensures.items)
          (none_first first.plan.options first.base (all_seen c.args.queries.now) (last_of first.plan.options));
    }

pub loop-query-preserved : goal.loop-query-preserved
loop-query-preserved c =
    let first = c.args.reader.now in
    let l = c.loop-query in
    let i = l.invariant in
    let query = c.query-item.result in
    let answer = c.in_ok-answer.answer in
    let queries = c.args.queries.now in
    let own : IsLiveAnswer first.plan.options first.base (seen query) answer = answer_moved first l.reader (seen query) answer i.same c.in_ok-answer.ensures.ok in
    let longer : first.length ≤ c.answer_to.new.reader.length = omega (arith, i.longer, c.answer_to.ensures.continues.longer) in
    let last : answer.version ≡ last_of first.plan.options = omega (arith, c.requires.last, longer, c.in_ok-answer.ensures.last, own.most) in
    let grown = c.push.new.self.items in
    record {
      same = still_same first l.reader c.answer_to.new.reader i.same c.answer_to.ensures.continues.same;
      longer = longer;
      len = ap length c.in_ok-push.ensures.items ∙ one_longer l.answers.items answer ∙ omega (arith, i.len);
      first = one_more_first first.plan.options first.base (all_seen queries) (last_of first.plan.options) l.answers.items grown answer c.in_ok-push.ensures.items i.first
          (answered_at first.plan.options first.base queries query answer l.query-index (length l.answers.items) (sym i.len) c.loop-query-test.true c.query-item.is own) last;
    }

pub returns-clause-ok : goal.returns-clause-ok
returns-clause-ok c =
    let first = c.args.reader.now in
    let l = c.loop-query in
    let i = l.invariant in
    all_first first.plan.options first.base c.args.queries.now (last_of first.plan.options) l.answers.items i.first (omega (arith, i.len, c.loop-query-test.false, l.auto.query-index-end))

pub returns-clause-at : goal.returns-clause-at
returns-clause-at c = c.loop-query.invariant.first.at
