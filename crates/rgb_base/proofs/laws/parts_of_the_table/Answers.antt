use Rattle.rgb_base.proofs.Places.{part_at, cut_at, cut_whole}
use Rattle.rgb_base.proofs.laws.parts_of_the_table.Goals as goal

pub returns : goal.returns
returns c = record { law = part_at; cut = cut_at; same = cut_whole }
