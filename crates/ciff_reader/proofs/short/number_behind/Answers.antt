use Rattle.std.proofs.Common.{drop, sym, subst}
use Rattle.std.proofs.lemmas.List.{take_rest}
use Rattle.ciff_wire.specs.Varint.{Reads}
use Rattle.ciff_reader.proofs.ShortPostings.{number_spelt}
use Rattle.ciff_reader.proofs.short.number_behind.Goals as goal

pub returns-in_ok-value-in-len1-up-clause-field : goal.returns-in_ok-value-in-len1-up-clause-field
returns-in_ok-value-in-len1-up-clause-field c =
    let read = c.in_ok-value-in-len1-up in
    number_spelt c.args.bytes.now c.args.tag c.from.result read.used c.requires.some c.requires.small c.requires.number c.in-len1-up.len_at_least c.if-first-tag.true
    (subst (λ v. Reads (drop 1 c.args.bytes.now) v read.used) (sym c.from.ensures) (subst (λ bs. Reads bs read.value read.used) (take_rest c.args.bytes.now 1) read.ensures.reads))
