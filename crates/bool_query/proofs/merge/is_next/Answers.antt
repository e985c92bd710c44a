use Rattle.std.proofs.Common.{◌≡◌, slice_get, arith}
use Rattle.std.proofs.lemmas.Grind.{common_steps}
use Rattle.std.proofs.lemmas.Option.{gets}
use Rattle.bool_query.proofs.Listing.{answers_there, passed_more}
use Rattle.bool_query.proofs.merge.is_next.Goals as goal

pub returns-clause-listed : goal.returns-clause-listed
returns-clause-listed c =
    let given : c.copied.result ≡ slice_get c.args.numbers.now c.first_from-at.result = grind (arith, common_steps, gets) in
    answers_there c.args.numbers.now c.args.number c.args.place.now c.first_from-at.result c.copied.result c.eq.result c.requires.rising c.requires.passed c.first_from-at.ensures given c.eq.ensures

pub returns-clause-passed : goal.returns-clause-passed
returns-clause-passed c =
    passed_more c.args.numbers.now c.args.number c.args.place.now c.first_from-at.result c.requires.passed c.first_from-at.ensures
