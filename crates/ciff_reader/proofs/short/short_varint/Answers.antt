use Rattle.std.proofs.Common.{◌-◌, ◌<◌, length, take, drop, get_or, arith}
use Rattle.std.proofs.lemmas.List.{take_rest}
use Rattle.ciff_reader.proofs.ShortPostings.{next_below, reads_one, reads_two, reads_three}
use Rattle.ciff_reader.proofs.short.short_varint.Goals as goal

pub returns-then-low-lt128-clause-reads : goal.returns-then-low-lt128-clause-reads
returns-then-low-lt128-clause-reads c = reads_one c.args.bytes.now c.from-low.result c.in-len1-up.len_at_least c.from-low.ensures c.if-low-lt128.true

pub returns-then-middle-lt128-clause-reads : goal.returns-then-middle-lt128-clause-reads
returns-then-middle-lt128-clause-reads c =
    let bytes = c.args.bytes.now in
    let rest = take (length bytes - 1) (drop 1 bytes) in
    let low : get_or bytes 0 0 < 256 = omega (arith, c.type_inv.bytes 0) in
    reads_two bytes rest _ (take_rest bytes 1) c.in-len1-up-rest.len_at_least low (omega arith) (omega arith) (omega arith)

pub returns-in-len1-up-rest-2-clause-reads : goal.returns-in-len1-up-rest-2-clause-reads
returns-in-len1-up-rest-2-clause-reads c =
    let bytes = c.args.bytes.now in
    let rest = take (length bytes - 1) (drop 1 bytes) in
    let last = take (length rest - 1) (drop 1 rest) in
    let low : get_or bytes 0 0 < 256 = omega (arith, c.type_inv.bytes 0) in
    let middle : get_or rest 0 0 < 256 = next_below bytes rest (take_rest bytes 1) (omega (arith, c.type_inv.bytes 1)) in
    reads_three bytes rest last _ (take_rest bytes 1) (take_rest rest 1) c.in-len1-up-rest-2.len_at_least low (omega arith) middle (omega arith) (omega arith) (omega arith)
