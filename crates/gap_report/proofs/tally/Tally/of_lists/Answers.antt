use Rattle.std.proofs.Common.{◌≡◌, ◌<◌, length, get_or, arith}
use Rattle.rgb_base.specs.Parts.{IsPostings}
use Rattle.gap_report.proofs.Tallies.{no_list, postings_read, IsTallyOf-more, IsPostings-at, below_limit, next_has_room}
use Rattle.gap_report.proofs.tally.Tally.of_lists.Goals as goal

-- the list that the loop has come to
within : (c : goal.After-postings) → c.loop-list.list < length c.args.index.now.lists
within c = omega (arith, c.loop-list-test.true, c.requires.within)

read : (c : goal.After-postings) → (get_or c.args.index.now.lists c.loop-list.list no_list).postings ≡ c.postings.result.now
read c = postings_read c.args.index.now.lists c.loop-list.list c.postings.result.now (within c) c.postings.ensures.same

ordered : (c : goal.After-postings) → IsPostings (length c.args.index.now.documents) c.postings.result.now
ordered c = IsPostings-at c.args.index.now c.loop-list.list c.postings.result.now c.is_sound.ensures.sound (within c) (read c)

pub with_list-tally-requires-clause-rising : goal.with_list-tally-requires-clause-rising
with_list-tally-requires-clause-rising c = (ordered c).rising

pub with_list-tally-requires-clause-below : goal.with_list-tally-requires-clause-below
with_list-tally-requires-clause-below c = below_limit (length c.args.index.now.documents) c.postings.result.now c.is_sound.ensures.sound.counted.documents (ordered c)

pub with_list-tally-requires-clause-room : goal.with_list-tally-requires-clause-room
with_list-tally-requires-clause-room c =
    omega (arith, c.loop-list.invariant.postings, next_has_room c.args.index.now c.args.from c.loop-list.list c.postings.result.now c.is_sound.ensures.sound c.loop-list.auto.list (within c) (read c))

pub loop-list-preserved : goal.loop-list-preserved
loop-list-preserved c =
    let lists = c.args.index.now.lists in
    let list = c.loop-list.list in
    let postings = c.postings.result.now in
    let inside : list < length lists = omega (arith, c.loop-list-test.true, c.requires.within) in
    let found = postings_read lists list postings inside c.postings.ensures.same in
    IsTallyOf-more lists c.args.from list postings c.loop-list.tally c.with_list-tally.result c.loop-list.auto.list inside found c.loop-list.invariant c.with_list-tally.ensures.adds
