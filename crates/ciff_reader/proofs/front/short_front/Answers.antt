use Rattle.std.proofs.Common.{◌+◌, ◌-◌, length, take, drop, refl, ◌∙◌, rules}
use mir.Val.{SFits}
use Rattle.std.specs.Int.{w64}
use Rattle.std.proofs.lemmas.Int.{to_z-of_z}
use Rattle.std.proofs.lemmas.List.{take_rest}
use Rattle.ciff_reader.proofs.ShortFronts.{three_stand}
use Rattle.ciff_reader.proofs.front.short_front.Goals as goal

pub returns-clause-read : goal.returns-clause-read
returns-clause-read c =
    let message = c.args.message.now in
    let first = c.in_ok-term.first in
    let second = c.in_ok-df.second in
    let third = c.in_ok-cf.third in
    let after = take (length message - first) (drop first message) in
    let last = take (length message - (first + second)) (drop (first + second) message) in
    let df_fits : SFits w64 c.as_i64.result = search rules in
    let cf_fits : SFits w64 c.as_i64-2.result = search rules in
    three_stand c.field_after_field.ensures.added c.fields_grow.ensures.types message after last c.in_ok-df.df c.in_ok-cf.cf first second third c.in_ok-term.term.now _
    (take_rest message first) (take_rest message (first + second)) c.in_ok-term.ensures.field c.in_ok-df.ensures.field c.in_ok-cf.ensures.field
    refl (to_z-of_z w64 c.as_i64.result df_fits ∙ c.as_i64.ensures.same) (to_z-of_z w64 c.as_i64-2.result cf_fits ∙ c.as_i64-2.ensures.same) refl c.in_ok-term.ensures.text
