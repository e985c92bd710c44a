use Rattle.std.proofs.Common.{◌≡◌, ℕ, List, length, map, sum, ap, ◌∙◌, arith}
use Rattle.forward_index.specs.Rows.{rows_of}
use Rattle.forward_index.proofs.Built.{block_all, sum_lengths, begins_from_lengths, few_entries}
use Rattle.forward_index.proofs.build.start_rows.Goals as goal

pub sums_before-requires : goal.sums_before-requires
sums_before-requires g c =
    let counted : c.count_rows.new.counts ≡ map (λ row. length row) (rows_of c.args.min_df c.args.index.now.lists c.args.start.now) = c.count_rows.ensures.same ∙ ap (λ (documents : List ℕ). map (λ row. length row) (rows_of c.args.min_df c.args.index.now.lists documents)) (block_all c.args.start.now (length c.args.counts.now) c.requires.len) in
    omega (arith, ap sum counted, sum_lengths (rows_of c.args.min_df c.args.index.now.lists c.args.start.now), few_entries c.args.index.now c.args.min_df c.args.start.now c.is_sound.ensures.sound c.is_sound-2.ensures.sound c.requires.documents)

pub returns-clause-starts : goal.returns-clause-starts
returns-clause-starts g c =
    let rows = rows_of c.args.min_df c.args.index.now.lists c.args.start.now in
    let counted : c.count_rows.new.counts ≡ map (λ row. length row) rows = c.count_rows.ensures.same ∙ ap (λ (documents : List ℕ). map (λ row. length row) (rows_of c.args.min_df c.args.index.now.lists documents)) (block_all c.args.start.now (length c.args.counts.now) c.requires.len) in
    begins_from_lengths rows c.count_rows.new.counts c.sums_before.new.numbers counted c.sums_before.auto.numbers c.sums_before.ensures.each

pub returns-clause-total : goal.returns-clause-total
returns-clause-total g c =
    let rows = rows_of c.args.min_df c.args.index.now.lists c.args.start.now in
    let counted : c.count_rows.new.counts ≡ map (λ row. length row) rows = c.count_rows.ensures.same ∙ ap (λ (documents : List ℕ). map (λ row. length row) (rows_of c.args.min_df c.args.index.now.lists documents)) (block_all c.args.start.now (length c.args.counts.now) c.requires.len) in
    c.sums_before.ensures.all ∙ ap sum counted ∙ sum_lengths rows
