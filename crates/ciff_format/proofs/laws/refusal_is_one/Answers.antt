use Rattle.ciff_format.proofs.Verdicts.{refusal_is_one}
use Rattle.ciff_format.proofs.laws.refusal_is_one.Goals as goal

pub returns : goal.returns
returns c = record {
  one = refusal_is_one (record { read_is_one = c.spelling_is_read_again.ensures.one; one_message = c.message_is_one.ensures.one });
}
