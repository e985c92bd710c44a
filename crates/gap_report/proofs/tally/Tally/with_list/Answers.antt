use Rattle.std.proofs.Common.{◌+◌, ◌-◌, [], ◌∷◌, get_or, drop, subst, sym, ap, length, arith}
use Rattle.std.proofs.lemmas.List.{length-drop}
use Rattle.gap_report.specs.Tally.{Adds}
use Rattle.gap_report.proofs.Gaps.{gaps_after, gaps_after-drop, gaps_after-end, gaps_of_docs, length-gaps_after, no_posting}
use Rattle.gap_report.proofs.Tallies.{IsOnTheWay, IsOnTheWay-start, IsOnTheWay-more, Adds-all, IsTallyOf-push, next_rises}
use Rattle.gap_report.proofs.tally.Tally.with_list.Goals as goal

pub loop-posting-init : goal.loop-posting-init
loop-posting-init c = record { rises = λ h. omega arith; sums = IsOnTheWay-start c.args.self (gaps_after 0 c.args.postings.now) }

pub overflow_sub-number : goal.overflow_sub-number
overflow_sub-number c = omega (arith, c.loop-posting.invariant.rises c.loop-posting-test.true)

pub with_gap-tally-requires-clause-some : goal.with_gap-tally-requires-clause-some
with_gap-tally-requires-clause-some c = omega (arith, c.loop-posting.invariant.rises c.loop-posting-test.true)

pub with_gap-tally-requires-clause-room : goal.with_gap-tally-requires-clause-room
with_gap-tally-requires-clause-room c =
    let postings = c.args.postings.now in
    let i = c.loop-posting.posting-index in
    let within = c.loop-posting-test.true in
    omega (arith, c.loop-posting.invariant.sums.postings, length-gaps_after 0 postings, length-gaps_after c.loop-posting.before (drop i postings), length-drop i postings, c.requires.room)

pub loop-posting-preserved : goal.loop-posting-preserved
loop-posting-preserved c =
    let postings = c.args.postings.now in
    let i = c.loop-posting.posting-index in
    let doc = (get_or postings i no_posting).doc in
    let left = gaps_after (doc + 1) (drop (i + 1) postings) in
    let gap = doc + 1 - c.loop-posting.before in
    let split = gaps_after-drop c.loop-posting.before i postings c.loop-posting-test.true in
    let whole : IsOnTheWay c.args.self c.loop-posting.tally (gaps_after 0 postings) (gap ∷ left) = subst (IsOnTheWay c.args.self c.loop-posting.tally (gaps_after 0 postings)) split c.loop-posting.invariant.sums in
    record {
      rises = λ h. next_rises postings i c.requires.rising h;
      sums = IsOnTheWay-more c.args.self c.loop-posting.tally c.with_gap-tally.result (gaps_after 0 postings) left gap whole c.with_gap-tally.ensures;
    }

pub returns-clause-adds : goal.returns-clause-adds
returns-clause-adds c =
    let postings = c.args.postings.now in
    let i = c.loop-posting.posting-index in
    let ended = gaps_after-end c.loop-posting.before i postings c.loop-posting-test.false in
    let way : IsOnTheWay c.args.self c.loop-posting.tally (gaps_after 0 postings) [] = subst (IsOnTheWay c.args.self c.loop-posting.tally (gaps_after 0 postings)) ended c.loop-posting.invariant.sums in
    subst (Adds c.args.self c.loop-posting.tally) (sym (gaps_of_docs postings)) (Adds-all c.args.self c.loop-posting.tally (gaps_after 0 postings) way)

pub returns-clause-count : goal.returns-clause-count
returns-clause-count c =
    let postings = c.args.postings.now in
    omega (arith, (returns-clause-adds c).postings, ap length (gaps_of_docs postings), length-gaps_after 0 postings)

pub returns-clause-more : goal.returns-clause-more
returns-clause-more c = λ lists list before read. IsTallyOf-push lists list c.args.postings.now c.args.self c.loop-posting.tally read before (returns-clause-adds c)
