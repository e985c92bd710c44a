use Rattle.ciff_format.proofs.Verdicts.{never_both}
use Rattle.ciff_format.proofs.laws.never_both.Goals as goal

pub returns : goal.returns
returns c = record {
  never_both = never_both (record { read_is_one = c.spelling_is_read_again.ensures.one; one_message = c.message_is_one.ensures.one });
}
