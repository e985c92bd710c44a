use Rattle.std.proofs.lemmas.List.Elements.{All-take}
use Rattle.std.proofs.lemmas.List.Sorted.{All-permutation, IsPermutation-trans}
use Rattle.exchange.specs.Tries.{docs_of, IsLow}
use Rattle.exchange.proofs.Exchanged.{Differ-permutation}
use Rattle.exchange.proofs.Fronts.{docs_to}
use Rattle.exchange.proofs.Longer.{pairs_behind, pairs_before}
use Rattle.exchange.proofs.entry.rank_pairs.Goals as goal

pub rank_more-reach-requires-clause-low : goal.rank_more-reach-requires-clause-low
rank_more-reach-requires-clause-low g c = All-permutation IsLow c.args.a.now c.rank_fronts-front_a.new.a c.rank_fronts-front_a.ensures.same_a c.requires.low_a

pub rank_more-reach-requires-clause-low_others : goal.rank_more-reach-requires-clause-low_others
rank_more-reach-requires-clause-low_others g c =
    let b = c.rank_fronts-front_a.new.b in
    All-take IsLow c.rank_fronts-front_a.result.1 b (All-permutation IsLow c.args.b.now b c.rank_fronts-front_a.ensures.same_b c.requires.low_b)

pub rank_more-reach-requires-clause-differ : goal.rank_more-reach-requires-clause-differ
rank_more-reach-requires-clause-differ g c =
    let old = c.args.a.now in
    let new = c.rank_fronts-front_a.new.a in
    Differ-permutation (docs_of old) (docs_of new) (docs_to old new c.rank_fronts-front_a.ensures.same_a) c.requires.differ_a

pub gaining_pairs-requires-clause-low_a : goal.gaining_pairs-requires-clause-low_a
gaining_pairs-requires-clause-low_a g c =
    let a = c.rank_fronts-front_a.new.a in
    let new = c.rank_more-reach.new.entries in
    let low = All-permutation IsLow c.args.a.now a c.rank_fronts-front_a.ensures.same_a c.requires.low_a in
    All-take IsLow c.rank_more-reach.result new (All-permutation IsLow a new c.rank_more-reach.ensures.same low)

pub gaining_pairs-requires-clause-low_b : goal.gaining_pairs-requires-clause-low_b
gaining_pairs-requires-clause-low_b g c =
    let b = c.rank_fronts-front_a.new.b in
    All-take IsLow c.rank_fronts-front_a.result.1 b (All-permutation IsLow c.args.b.now b c.rank_fronts-front_a.ensures.same_b c.requires.low_b)

pub rank_more-reach-requires-else-front_a-front_b-clause-low : goal.rank_more-reach-requires-else-front_a-front_b-clause-low
rank_more-reach-requires-else-front_a-front_b-clause-low g c = All-permutation IsLow c.args.b.now c.rank_fronts-front_a.new.b c.rank_fronts-front_a.ensures.same_b c.requires.low_b

pub rank_more-reach-requires-else-front_a-front_b-clause-low_others : goal.rank_more-reach-requires-else-front_a-front_b-clause-low_others
rank_more-reach-requires-else-front_a-front_b-clause-low_others g c =
    let a = c.rank_fronts-front_a.new.a in
    All-take IsLow c.rank_fronts-front_a.result.0 a (All-permutation IsLow c.args.a.now a c.rank_fronts-front_a.ensures.same_a c.requires.low_a)

pub rank_more-reach-requires-else-front_a-front_b-clause-differ : goal.rank_more-reach-requires-else-front_a-front_b-clause-differ
rank_more-reach-requires-else-front_a-front_b-clause-differ g c =
    let old = c.args.b.now in
    let new = c.rank_fronts-front_a.new.b in
    Differ-permutation (docs_of old) (docs_of new) (docs_to old new c.rank_fronts-front_a.ensures.same_b) c.requires.differ_b

pub gaining_pairs-requires-else-front_a-front_b-clause-low_a : goal.gaining_pairs-requires-else-front_a-front_b-clause-low_a
gaining_pairs-requires-else-front_a-front_b-clause-low_a g c =
    let a = c.rank_fronts-front_a.new.a in
    All-take IsLow c.rank_fronts-front_a.result.0 a (All-permutation IsLow c.args.a.now a c.rank_fronts-front_a.ensures.same_a c.requires.low_a)

pub gaining_pairs-requires-else-front_a-front_b-clause-low_b : goal.gaining_pairs-requires-else-front_a-front_b-clause-low_b
gaining_pairs-requires-else-front_a-front_b-clause-low_b g c =
    let b = c.rank_fronts-front_a.new.b in
    let more = c.rank_more-reach-else-front_a-front_b in
    let low = All-permutation IsLow c.args.b.now b c.rank_fronts-front_a.ensures.same_b c.requires.low_b in
    All-take IsLow more.result more.new.entries (All-permutation IsLow b more.new.entries more.ensures.same low)

pub returns-then-front_a-front_b-clause-same_a : goal.returns-then-front_a-front_b-clause-same_a
returns-then-front_a-front_b-clause-same_a g c = IsPermutation-trans c.args.a.now c.rank_fronts-front_a.new.a c.rank_more-reach.new.entries c.rank_fronts-front_a.ensures.same_a c.rank_more-reach.ensures.same

pub returns-then-front_a-front_b-clause-pairs : goal.returns-then-front_a-front_b-clause-pairs
returns-then-front_a-front_b-clause-pairs g c =
    let old_a = c.args.a.now in
    let old_b = c.args.b.now in
    let a = c.rank_fronts-front_a.new.a in
    let b = c.rank_fronts-front_a.new.b in
    let fronts = c.rank_fronts-front_a.ensures in
    let more = c.rank_more-reach in
    let same = IsPermutation-trans old_a a more.new.entries fronts.same_a more.ensures.same in
    pairs_behind more.result c.rank_fronts-front_a.result.1 c.gaining_pairs.result more.new.entries b
    (Differ-permutation (docs_of old_a) (docs_of more.new.entries) (docs_to old_a more.new.entries same) c.requires.differ_a)
    (Differ-permutation (docs_of old_b) (docs_of b) (docs_to old_b b fronts.same_b) c.requires.differ_b)
    more.ensures.front fronts.parted_b fronts.ranked_b c.gaining_pairs.ensures.passed

pub returns-else-front_a-front_b-clause-same_b : goal.returns-else-front_a-front_b-clause-same_b
returns-else-front_a-front_b-clause-same_b g c =
    let more = c.rank_more-reach-else-front_a-front_b in
    IsPermutation-trans c.args.b.now c.rank_fronts-front_a.new.b more.new.entries c.rank_fronts-front_a.ensures.same_b more.ensures.same

pub returns-else-front_a-front_b-clause-pairs : goal.returns-else-front_a-front_b-clause-pairs
returns-else-front_a-front_b-clause-pairs g c =
    let old_a = c.args.a.now in
    let old_b = c.args.b.now in
    let a = c.rank_fronts-front_a.new.a in
    let b = c.rank_fronts-front_a.new.b in
    let fronts = c.rank_fronts-front_a.ensures in
    let more = c.rank_more-reach-else-front_a-front_b in
    let same = IsPermutation-trans old_b b more.new.entries fronts.same_b more.ensures.same in
    pairs_before more.result c.rank_fronts-front_a.result.0 c.gaining_pairs-else-front_a-front_b.result more.new.entries a
    (Differ-permutation (docs_of old_b) (docs_of more.new.entries) (docs_to old_b more.new.entries same) c.requires.differ_b)
    (Differ-permutation (docs_of old_a) (docs_of a) (docs_to old_a a fronts.same_a) c.requires.differ_a)
    more.ensures.front fronts.parted_a fronts.ranked_a c.gaining_pairs-else-front_a-front_b.ensures.passed
