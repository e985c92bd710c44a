use Rattle.std.proofs.Common.{rules, ◌≡◌, ◌↔◌, IsTrue, nat_eq}
use Rattle.command_words.specs.declared.reordering.Reordering.{Reordering}
use Rattle.command_words.proofs.Lines.{reordering_is}
use Rattle.command_words.proofs.command.reordering_of.Goals as goal

pub returns : goal.returns
returns c = λ parts are options.
    let start = c.in_ok-start.start in
    let by_name : IsTrue (nat_eq start 1) ↔ (start ≡ 1) = search rules in
    let found : Reordering = record { depth = c.in_ok-depth.depth; rounds = c.in_ok-rounds.rounds; leaf = c.in_ok-leaf.leaf; workers = c.in_ok-workers.workers; step = c.in_ok-step.step; min_df = c.in_ok-min_df.min_df; by_name = nat_eq start 1 } in
    reordering_is parts found start (c.in_ok-depth.ensures parts are) (c.in_ok-rounds.ensures parts are) (c.in_ok-leaf.ensures parts are) (c.in_ok-workers.ensures parts are)
    (c.in_ok-step.ensures parts are) (c.in_ok-min_df.ensures parts are) (c.in_ok-start.ensures parts are) by_name options
