use Rattle.ciff_format.proofs.Cuts.{nothing_follows, cut_is_cut_short}
use Rattle.ciff_format.proofs.laws.accepted_is_whole.Goals as goal

pub returns : goal.returns
returns c = record {
  nothing_follows = nothing_follows;
  cut = cut_is_cut_short (record { read_is_one = c.spelling_is_read_again.ensures.one; one_message = c.message_is_one.ensures.one });
}
