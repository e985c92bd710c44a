use Rattle.std.proofs.Common.{refl}
use Rattle.ciff_reader.proofs.ShortFronts.{nothing_stands}
use Rattle.ciff_reader.proofs.front.read_front.Goals as goal

pub returns-in-None-clause-read : goal.returns-in-None-clause-read
returns-in-None-clause-read c = nothing_stands c.fields_grow.ensures.nothing c.args.message.now _ refl refl refl refl
