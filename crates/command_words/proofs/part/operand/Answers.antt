use Rattle.std.proofs.Common.{◌≡◌, ◌-◌, suc, subst, arith}
use Rattle.command_words.specs.Line.{operand, given}
use Rattle.command_words.specs.Command.{texts_of}
use Rattle.command_words.specs.View.{part_seen}
use Rattle.command_words.proofs.Parting.{Begins, LeavesOperand, found_operand, past_operand, past_option}
use Rattle.command_words.proofs.part.operand.Goals as goal

pub returns-in-Operand : goal.returns-in-Operand
returns-in-Operand c = λ parts are.
    let rest = texts_of c.parts.rest.now in
    let behind = texts_of c.in_ok-part.behind.now in
    let word = c.in-Operand.word.now in
    let seen : Begins rest (part_seen c.in_ok-part.part) behind = record { sound = c.in_ok-part.ensures.part; spelt = c.in_ok-part.ensures.words } in
    let begins : Begins rest (operand word) behind = subst (λ p. Begins rest (part_seen p) behind) c.in-Operand.is seen in
    found_operand c.args.place parts rest behind word begins (subst (λ n. LeavesOperand c.args.place parts n rest) c.if-before-eq0.true (c.parts.invariant parts are))

pub parts-preserved-in-Operand-2 : goal.parts-preserved-in-Operand-2
parts-preserved-in-Operand-2 c = λ parts are.
    let rest = texts_of c.parts.rest.now in
    let behind = texts_of c.in_ok-part.behind.now in
    let word = c.in-Operand.word.now in
    let seen : Begins rest (part_seen c.in_ok-part.part) behind = record { sound = c.in_ok-part.ensures.part; spelt = c.in_ok-part.ensures.words } in
    let begins : Begins rest (operand word) behind = subst (λ p. Begins rest (part_seen p) behind) c.in-Operand.is seen in
    let one : c.parts.before ≡ suc (c.parts.before - 1) = omega (arith, c.if-before-eq0.false) in
    past_operand c.args.place (c.parts.before - 1) parts rest behind word begins (subst (λ n. LeavesOperand c.args.place parts n rest) one (c.parts.invariant parts are))

pub parts-preserved : goal.parts-preserved
parts-preserved c = λ parts are.
    let rest = texts_of c.parts.rest.now in
    let behind = texts_of c.in_ok-part.behind.now in
    let seen : Begins rest (part_seen c.in_ok-part.part) behind = record { sound = c.in_ok-part.ensures.part; spelt = c.in_ok-part.ensures.words } in
    let begins : Begins rest (given c.in-Given.name.now c.in-Given.value.now) behind = subst (λ p. Begins rest (part_seen p) behind) c.in-Given.is seen in
    past_option c.args.place c.parts.before parts rest behind c.in-Given.name.now c.in-Given.value.now begins (c.parts.invariant parts are)
