use Rattle.std.proofs.Common.{sym, ◌∙◌, refl, arith}
use Rattle.ciff_wire.proofs.Groups.{length-varint, length-varint-small}
use Rattle.ciff_wire.proofs.put.varint_len.Goals as goal

pub returns-then-value-lt128 : goal.returns-then-value-lt128
returns-then-value-lt128 c = record { same = sym (length-varint-small c.args.value c.if-value-lt128.true) }

pub returns : goal.returns
returns c = record { same = c.div_ceil.ensures ∙ length-varint c.args.value _ (omega arith) (omega arith) refl }
