use Rattle.std.proofs.Common.{◌≡◌, ◌+◌, ◌/◌, ℕ, length, take, drop, get_or, sym, ap, subst, ◌∙◌, arith}
use Rattle.std.proofs.lemmas.List.{take_rest}
use Rattle.ciff_wire.specs.Field.{as_bytes, SpellsField}
use Rattle.ciff_reader.proofs.ShortPostings.{text_spelt}
use Rattle.ciff_reader.proofs.short.text_behind.Goals as goal

pub returns-in-Some-clause-field : goal.returns-in-Some-clause-field
returns-in-Some-clause-field c =
    let bytes = c.args.bytes.now in
    let text = c.in-Some.text.now in
    let is : text ≡ take (get_or bytes 1 0) (drop 2 bytes) = c.in-Some.ensures.same ∙ ap (take c.from-len.result) (take_rest bytes 2) ∙ ap (λ (n : ℕ). take n (drop 2 bytes)) c.from-len.ensures in
    subst (λ (n : ℕ). SpellsField (take (2 + n) bytes) (record { number = c.args.tag / 8; held = as_bytes text })) (sym c.from-len.ensures)
    (text_spelt bytes text c.args.tag c.requires.some c.requires.small c.requires.text (omega arith) (omega arith) (omega arith) (omega (arith, c.if-from-rest.true, c.from.ensures, ap length (take_rest bytes 2))) is)
