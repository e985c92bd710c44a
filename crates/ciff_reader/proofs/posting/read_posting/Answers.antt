use Rattle.std.proofs.Common.{◌≡◌, ◌-◌, ◌≤◌, length, take, drop, IfSome, IfNone, [], subst, arith}
use Rattle.std.proofs.lemmas.List.{take_rest, length-take, length-drop}
use Rattle.ciff_wire.specs.Field.{SpellsField, entry_of}
use Rattle.ciff_format.specs.Fields.{posting_table}
use Rattle.ciff_reader.specs.Says.{SaysPosting}
use Rattle.ciff_reader.proofs.Fronts.{used_some, goes_on, ends, faulty, wrong_type}
use Rattle.ciff_reader.proofs.posting.read_posting.Goals as goal

pub returns-in_default : goal.returns-in_default
returns-in_default c =
    let message = c.args.message.now in
    let at = c.fields.at in
    record {
      read = faulty c.field_after_field.ensures.first c.message_is_one.ensures.fault posting_table message (take (length message - at) (drop at message)) at c.fields.invariant.front.fields c.in_default.field-0
          (take_rest message at) c.in_default.ensures.fault c.fields.invariant.front.read;
    }

pub returns-in_default-next : goal.returns-in_default-next
returns-in_default-next c =
    let message = c.args.message.now in
    let at = c.fields.at in
    let rest = take (length message - at) (drop at message) in
    let none : rest ≡ [] = subst (λ next. IfNone next (rest ≡ [])) c.in_default-next.is c.in-Ok.ensures.none in
    record { read = ends posting_table SaysPosting message rest at c.fields.kept (take_rest message at) none c.fields.invariant.front }

pub returns-in_default-with_field : goal.returns-in_default-with_field
returns-in_default-with_field c =
    let message = c.args.message.now in
    let at = c.fields.at in
    let rest = take (length message - at) (drop at message) in
    let spells : SpellsField (take c.in-Some.used rest) (entry_of c.in-Some.field) = subst (λ next. IfSome next (λ t. SpellsField (take t.1 rest) (entry_of t.0))) c.in-Some.is c.in-Ok.ensures.field in
    record {
      read = wrong_type c.field_after_field.ensures.added c.fields_grow.ensures.types c.fields_grow.ensures.wrong_type posting_table message rest at c.in-Some.used c.fields.invariant.front.fields (entry_of c.in-Some.field)
          (take_rest message at) spells c.in_default-with_field.ensures.taken c.fields.invariant.front.read;
    }

pub fields-smaller : goal.fields-smaller
fields-smaller c =
    let message = c.args.message.now in
    let at = c.fields.at in
    let rest = take (length message - at) (drop at message) in
    let spells : SpellsField (take c.in-Some.used rest) (entry_of c.in-Some.field) = subst (λ next. IfSome next (λ t. SpellsField (take t.1 rest) (entry_of t.0))) c.in-Some.is c.in-Ok.ensures.field in
    let within : c.in-Some.used ≤ length rest = subst (λ next. IfSome next (λ t. t.1 ≤ length rest)) c.in-Some.is c.in-Ok.ensures.within in
    omega (arith, within, used_some rest (entry_of c.in-Some.field) c.in-Some.used spells, length-take (length message - at) (drop at message), length-drop at message, c.fields.invariant.within)

pub fields-preserved : goal.fields-preserved
fields-preserved c =
    let message = c.args.message.now in
    let at = c.fields.at in
    let rest = take (length message - at) (drop at message) in
    let spells : SpellsField (take c.in-Some.used rest) (entry_of c.in-Some.field) = subst (λ next. IfSome next (λ t. SpellsField (take t.1 rest) (entry_of t.0))) c.in-Some.is c.in-Ok.ensures.field in
    let within : c.in-Some.used ≤ length rest = subst (λ next. IfSome next (λ t. t.1 ≤ length rest)) c.in-Some.is c.in-Ok.ensures.within in
    record {
      within = omega (arith, within, length-take (length message - at) (drop at message), length-drop at message, c.fields.invariant.within);
      front = goes_on posting_table SaysPosting message rest c.field_after_field.ensures.added c.fields_grow.ensures.types at c.in-Some.used (entry_of c.in-Some.field) c.fields.kept c.in-Some-with_field.after
          (take_rest message at) spells c.in-Some-with_field.ensures.taken c.fields.invariant.front;
    }
