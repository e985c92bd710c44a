use Rattle.std.specs.Option.{option_copied}
use Rattle.std.proofs.Common.{◌≡◌, true, is_some, sym, subst}
use Rattle.std.proofs.lemmas.Option.{none-some}
use Rattle.command_words.specs.Command.{texts_of}
use Rattle.command_words.specs.View.{part_seen, option_seen}
use Rattle.command_words.proofs.Parting.{Begins, LeavesValues, more_values, given_twice}
use Rattle.command_words.proofs.part.value_of.Goals as goal
use Rattle.command_words.proofs.part.value_of.Goals.{else-is_some-via-then-is_some+else-is_some-2, else-is_some-via-else-is_some}

pub returns-then-is_some-2 : goal.returns-then-is_some-2
returns-then-is_some-2 c = λ parts are number.
    let rest = texts_of c.parts.rest.now in
    let behind = texts_of c.in-Some.behind.now in
    let seen : Begins rest (part_seen c.in-Some.part) behind = record { sound = c.in-Some.ensures.part; spelt = c.in-Some.ensures.words } in (
      (λ no. absurd (none-some number no)),
      (λ comes. absurd (given_twice (option_seen c.args.option.now) parts c.parts.found c.value_in-value.result rest behind (part_seen c.in-Some.part) number seen
          c.value_in-value.ensures (sym c.if-is_some.ensures) (sym c.if-is_some-2.ensures) (c.parts.invariant parts are) comes)),
    )

pub parts-preserved : goal.parts-preserved
parts-preserved c = λ parts are.
    let name = c.args.option.now.name.now in
    let rest = texts_of c.parts.rest.now in
    let behind = texts_of c.in-Some.behind.now in
    let seen : Begins rest (part_seen c.in-Some.part) behind = record { sound = c.in-Some.ensures.part; spelt = c.in-Some.ensures.words } in
    let not_both : is_some c.value_in-value.result ≡ true → is_some c.parts.found ≡ true → ⊥ = λ value found. elim c.else-is_some.branch [
      | else-is_some-via-then-is_some+else-is_some-2 w ↦ cc
      | else-is_some-via-else-is_some w ↦ cc
    ] in
    subst (λ f. LeavesValues name parts (option_copied f) behind) (sym c.or-found.ensures)
    (more_values name parts c.parts.found c.value_in-value.result rest behind (part_seen c.in-Some.part) seen c.value_in-value.ensures not_both (c.parts.invariant parts are))
