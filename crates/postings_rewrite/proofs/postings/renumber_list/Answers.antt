use Rattle.std.proofs.Common.{rules}
use Rattle.std.proofs.lemmas.List.Sorted.{IsNonDecreasingBy-from_sort_by_key}
use Rattle.rgb_base.specs.declared.parts.Posting.{Posting}
use Rattle.postings_rewrite.proofs.Rising.{sorted_is_renumbered}
use Rattle.postings_rewrite.proofs.postings.renumber_list.Goals as goal

pub returns : goal.returns
returns c =
    let sorted = c.sort_unstable_by_key.new.self in
    sorted_is_renumbered c.args.by.now c.args.postings.now c.map_list.new.part sorted c.numbers_undo_the_order.ensures.law c.is_sound.ensures.sound c.requires.below c.map_list.ensures c.sort_unstable_by_key.ensures.permutation
    (IsNonDecreasingBy-from_sort_by_key (λ (posting : Posting). posting.doc) sorted c.sort_unstable_by_key.ensures.sorted (λ a r q k. search rules))
