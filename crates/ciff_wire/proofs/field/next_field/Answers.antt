use Rattle.std.proofs.Common.{ℕ, List, take, ◌+◌, ◌*◌, sym, subst}
use Rattle.std.proofs.lemmas.List.{take_rest}
use Rattle.std.proofs.lemmas.Result.{err_from_is_err_and}
use Rattle.ciff_wire.specs.Varint.{Reads}
use Rattle.ciff_wire.specs.Field.{Holds, held_of, number_of_wire, IsContentFault}
use Rattle.ciff_wire.proofs.Taking.{wire_below, content_fault, spells_field}
use Rattle.ciff_wire.proofs.field.next_field.Goals as goal

pub returns-in_err-content-clause-fault : goal.returns-in_err-content-clause-fault
returns-in_err-content-clause-fault c =
    let p = err_from_is_err_and c.from_residual-in_err-content.result c.from_residual-in_err-content.ensures.1 in
    let tag = c.in_ok-tag.tag in
    let good = c.in_ok-tag.ensures in
    rw (p.1, p.2) (content_fault c.args.bytes.now tag.number (number_of_wire tag.wire) tag.used _ (wire_below tag.wire) good.number good.tag (subst (λ (r : List ℕ). IsContentFault (number_of_wire tag.wire) r c.in_err-content.field-0.0) (take_rest c.args.bytes.now tag.used) c.in_err-content.ensures.fault))

pub returns-clause-field : goal.returns-clause-field
returns-clause-field c =
    let tag = c.in_ok-tag.tag in
    let good = c.in_ok-tag.ensures in
    let held = held_of c.in_ok-content.content in
    spells_field c.args.bytes.now _ tag.used c.in_ok-content.len good.number (subst (λ w. Reads c.args.bytes.now (tag.number * 8 + w) tag.used) (sym c.in_ok-content.ensures.wire) good.tag) (subst (λ (r : List ℕ). Holds (take c.in_ok-content.len r) held) (take_rest c.args.bytes.now tag.used) c.in_ok-content.ensures.holds)
