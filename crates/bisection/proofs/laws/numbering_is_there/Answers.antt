use Rattle.exchange.specs.Laws.{HalvesAreThere}
use Rattle.bisection.specs.There.{BisectionIsThere}
use Rattle.bisection.proofs.ThereCells.{bisection_is_there, numbering_is_there}
use Rattle.bisection.proofs.laws.numbering_is_there.Goals as goal

pub returns : goal.returns
returns c =
    let halves : HalvesAreThere = assumption c in
    let law : BisectionIsThere = bisection_is_there halves c.halves_keep_documents.ensures.law in
    record { law = law; numbering = numbering_is_there law }
