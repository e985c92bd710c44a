use Rattle.bisection.proofs.ThereAll.{numbering_of_is_there}
use Rattle.bisection.proofs.laws.numbering_of_is_there.Goals as goal

pub returns : goal.returns
returns c = record {
  forward = c.forward_is_there.ensures.law;
  start = c.start_by_name_is_there.ensures.law;
  law = numbering_of_is_there c.numbering_is_there.ensures.numbering c.forward_is_there.ensures.law;
}
