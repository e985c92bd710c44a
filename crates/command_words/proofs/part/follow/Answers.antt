use Rattle.std.proofs.Common.{◌≡◌, ◌-◌, suc, true, map, subst, sym, arith}
use Rattle.command_words.specs.Line.{operand, given, Follow}
use Rattle.command_words.specs.Command.{texts_of}
use Rattle.command_words.specs.View.{part_seen, option_seen}
use Rattle.command_words.proofs.Parting.{Begins, Tells, tells_on, one_operand, one_option, too_many, unknown, any_map, any_from_map}
use Rattle.command_words.proofs.part.follow.Goals as goal

pub returns-in-Operand : goal.returns-in-Operand
returns-in-Operand c =
    let rest = texts_of c.parts.rest.now in
    let behind = texts_of c.in-Some.behind.now in
    let options = map option_seen c.args.row.now.options.now in
    let seen : Begins rest (part_seen c.in-Some.part) behind = record { sound = c.in-Some.ensures.part; spelt = c.in-Some.ensures.words } in
    let begins : Begins rest (operand c.in-Operand.field-0.now) behind = subst (λ p. Begins rest (part_seen p) behind) c.in-Operand.is seen in
    let none : c.parts.left ≡ 0 = c.if-left-eq0.true in
    ((λ no. absurd (cc)), (λ f. absurd (too_many rest behind c.in-Operand.field-0.now options begins (subst (λ n. Follow n options rest) none (c.parts.invariant.0 f)))))

pub returns-in-Given : goal.returns-in-Given
returns-in-Given c =
    let rest = texts_of c.parts.rest.now in
    let behind = texts_of c.in-Some.behind.now in
    let options = map option_seen c.args.row.now.options.now in
    let name = c.in-Given.name.now in
    let seen : Begins rest (part_seen c.in-Some.part) behind = record { sound = c.in-Some.ensures.part; spelt = c.in-Some.ensures.words } in
    let begins : Begins rest (given name c.in-Given.value.now) behind = subst (λ p. Begins rest (part_seen p) behind) c.in-Given.is seen in (
      (λ no. absurd (cc)),
      (λ f. absurd (unknown rest behind name c.in-Given.value.now options c.parts.left begins
          (λ known. let yes : c.is_known.result ≡ true = c.is_known.ensures.1 (any_from_map option_seen (λ o. o.name ≡ name) c.args.row.now.options.now known) in absurd (cc))
          (c.parts.invariant.0 f))),
    )

pub parts-preserved-in-Operand-2 : goal.parts-preserved-in-Operand-2
parts-preserved-in-Operand-2 c =
    let rest = texts_of c.parts.rest.now in
    let behind = texts_of c.in-Some.behind.now in
    let options = map option_seen c.args.row.now.options.now in
    let seen : Begins rest (part_seen c.in-Some.part) behind = record { sound = c.in-Some.ensures.part; spelt = c.in-Some.ensures.words } in
    let begins : Begins rest (operand c.in-Operand.field-0.now) behind = subst (λ p. Begins rest (part_seen p) behind) c.in-Operand.is seen in
    let one : c.parts.left ≡ suc (c.parts.left - 1) = omega (arith, c.if-left-eq0.false) in
    tells_on c.parts.invariant (subst (λ n. Tells n options rest (c.parts.left - 1) behind) (sym one) (one_operand rest behind c.in-Operand.field-0.now options (c.parts.left - 1) begins))

pub parts-preserved : goal.parts-preserved
parts-preserved c =
    let rest = texts_of c.parts.rest.now in
    let behind = texts_of c.in-Some.behind.now in
    let options = map option_seen c.args.row.now.options.now in
    let name = c.in-Given.name.now in
    let seen : Begins rest (part_seen c.in-Some.part) behind = record { sound = c.in-Some.ensures.part; spelt = c.in-Some.ensures.words } in
    let begins : Begins rest (given name c.in-Given.value.now) behind = subst (λ p. Begins rest (part_seen p) behind) c.in-Given.is seen in
    tells_on c.parts.invariant (one_option rest behind name c.in-Given.value.now options c.parts.left begins
    (any_map option_seen (λ o. o.name ≡ name) c.args.row.now.options.now (c.is_known.ensures.0 (cc))))
