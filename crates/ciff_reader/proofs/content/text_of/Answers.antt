use Rattle.std.proofs.lemmas.Str.{IsUtf8-had}
use Rattle.ciff_reader.proofs.content.text_of.Goals as goal

pub returns-in-Err-clause-other : goal.returns-in-Err-clause-other
returns-in-Err-clause-other c = λ had. c.in-Err.ensures.cases.0 (IsUtf8-had c.args.bytes.now had)
