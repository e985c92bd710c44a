use Rattle.bisection.proofs.LawSlabs.{levels_add_up, slabs_are_one}
use Rattle.bisection.proofs.laws.slabs_are_one_recursion.Goals as goal

pub returns : goal.returns
returns c = record {
  levels = levels_add_up c.halves_keep_documents.ensures.law;
  law = slabs_are_one c.halves_keep_documents.ensures.law c.kept_rounds_are_a_chain.ensures.law;
}
