use Rattle.std.proofs.Common.{◌≡◌, ◌-◌, ◌≤◌, List, ℕ, length, take, drop, IfSome, IfNone, [], refl, subst, arith}
use Rattle.std.proofs.lemmas.List.{take_rest, length-take, length-drop}
use Rattle.ciff_wire.specs.Field.{SpellsField, entry_of}
use Rattle.ciff_format.specs.Fields.{list_table}
use Rattle.std.specs.Prelude.{Option}
use Rattle.ciff_reader.specs.declared.gaps.Gaps.{Gaps}
use Rattle.ciff_reader.specs.Listing.{ReadsList, TakesPosting}
use Rattle.ciff_reader.proofs.Fronts.{used_some, faulty, wrong_type, whole}
use Rattle.ciff_reader.proofs.Reading.{gaps_begin, list_goes_on, bad_field, changes_twice}
use Rattle.ciff_reader.proofs.ShortFronts.{list_goes_on_behind}
use Rattle.ciff_reader.proofs.list.read_fields.Goals as goal

pub fields-init : goal.fields-init
fields-init c = record {
  within = c.read_front-behind_front.ensures.within;
  read = list_goes_on_behind _ _ _ c.args.pending.now c.read_front-behind_front.ensures.read (gaps_begin _ c.args.pending.now refl refl refl refl c.requires.none);
  same = refl;
}

pub returns-in_default-next_field-clause-fault : goal.returns-in_default-next_field-clause-fault
returns-in_default-next_field-clause-fault c = λ front fields rows has.
    let message = c.args.message.now in
    let at = c.in-Ok.behind in
    let so_far = c.in-Ok.ensures.read c.fields.kept c.fields.invariant.read in
    faulty c.field_after_field.ensures.first c.message_is_one.ensures.fault list_table message (take (length message - at) (drop at message)) at so_far.fields c.in_default-next_field.field-0
    (take_rest message at) c.in_default-next_field.ensures.fault so_far.read fields has.own

pub returns-in_default-next-clause-read : goal.returns-in_default-next-clause-read
returns-in_default-next-clause-read c =
    let message = c.args.message.now in
    let at = c.in-Ok.behind in
    let so_far = c.in-Ok.ensures.read c.fields.kept c.fields.invariant.read in
    let rest = take (length message - at) (drop at message) in
    let none : rest ≡ [] = subst (λ next. IfNone next (rest ≡ [])) c.in_default-next.is c.in-Ok-next_field.ensures.none in
    subst (λ (m : List ℕ). ReadsList m c.fields.kept c.in-Ok.gaps_so_far c.with_short_postings.new.pending) (whole message rest at (take_rest message at) none) so_far

pub returns-in_default-next-clause-same : goal.returns-in_default-next-clause-same
returns-in_default-next-clause-same c = changes_twice c.args.pending.now c.fields.pending c.with_short_postings.new.pending c.fields.invariant.same c.in-Ok.ensures.same

pub returns-in_default-with_field-clause-fault : goal.returns-in_default-with_field-clause-fault
returns-in_default-with_field-clause-fault c = λ front fields rows has.
    let message = c.args.message.now in
    let at = c.in-Ok.behind in
    let so_far = c.in-Ok.ensures.read c.fields.kept c.fields.invariant.read in
    let rest = take (length message - at) (drop at message) in
    let spells : SpellsField (take c.in-Some.used rest) (entry_of c.in-Some.field) = subst (λ next. IfSome next (λ t. SpellsField (take t.1 rest) (entry_of t.0))) c.in-Some.is c.in-Ok-next_field.ensures.field in
    wrong_type c.field_after_field.ensures.added c.fields_grow.ensures.types c.fields_grow.ensures.wrong_type list_table message rest at c.in-Some.used so_far.fields (entry_of c.in-Some.field)
    (take_rest message at) spells c.in_default-with_field.ensures.taken so_far.read fields has.own

pub returns-in_default-taken-clause-fault : goal.returns-in_default-taken-clause-fault
returns-in_default-taken-clause-fault c = λ front fields rows.
    let message = c.args.message.now in
    let at = c.in-Ok.behind in
    let so_far = c.in-Ok.ensures.read c.fields.kept c.fields.invariant.read in
    let rest = take (length message - at) (drop at message) in
    let spells : SpellsField (take c.in-Some.used rest) (entry_of c.in-Some.field) = subst (λ next. IfSome next (λ t. SpellsField (take t.1 rest) (entry_of t.0))) c.in-Some.is c.in-Ok-next_field.ensures.field in
    let bad = subst (λ (t : Option Gaps). TakesPosting (entry_of c.in-Some.field) c.in-Ok.gaps_so_far c.with_short_postings.new.pending t c.with_field-in-fields.new.pending) c.in_default-taken.is c.in-Ok-with_field.ensures.taken in
    bad_field c.field_after_field.ensures.added c.fields_grow.ensures.types c.fields_grow.ensures.wrong_type c.fields_grow.ensures.bad_posting message rest at c.in-Some.used so_far.fields (entry_of c.in-Some.field)
    (take_rest message at) spells bad so_far.read fields rows

pub fields-smaller : goal.fields-smaller
fields-smaller c =
    let message = c.args.message.now in
    let at = c.in-Ok.behind in
    let rest = take (length message - at) (drop at message) in
    let spells : SpellsField (take c.in-Some.used rest) (entry_of c.in-Some.field) = subst (λ next. IfSome next (λ t. SpellsField (take t.1 rest) (entry_of t.0))) c.in-Some.is c.in-Ok-next_field.ensures.field in
    let within : c.in-Some.used ≤ length rest = subst (λ next. IfSome next (λ t. t.1 ≤ length rest)) c.in-Some.is c.in-Ok-next_field.ensures.within in
    omega (arith, within, used_some rest (entry_of c.in-Some.field) c.in-Some.used spells, length-take (length message - at) (drop at message), length-drop at message, c.in-Ok.ensures.within, c.in-Ok.ensures.behind)

pub fields-preserved : goal.fields-preserved
fields-preserved c =
    let message = c.args.message.now in
    let at = c.in-Ok.behind in
    let so_far = c.in-Ok.ensures.read c.fields.kept c.fields.invariant.read in
    let rest = take (length message - at) (drop at message) in
    let spells : SpellsField (take c.in-Some.used rest) (entry_of c.in-Some.field) = subst (λ next. IfSome next (λ t. SpellsField (take t.1 rest) (entry_of t.0))) c.in-Some.is c.in-Ok-next_field.ensures.field in
    let within : c.in-Some.used ≤ length rest = subst (λ next. IfSome next (λ t. t.1 ≤ length rest)) c.in-Some.is c.in-Ok-next_field.ensures.within in
    let pushed = subst (λ (t : Option Gaps). TakesPosting (entry_of c.in-Some.field) c.in-Ok.gaps_so_far c.with_short_postings.new.pending t c.with_field-in-fields.new.pending) c.in-Some-taken.is c.in-Ok-with_field.ensures.taken in
    let same = changes_twice c.fields.pending c.with_short_postings.new.pending c.with_field-in-fields.new.pending c.in-Ok.ensures.same c.in-Ok-with_field.ensures.same in
    record {
      within = omega (arith, within, length-take (length message - at) (drop at message), length-drop at message, c.in-Ok.ensures.within);
      read = list_goes_on c.field_after_field.ensures.added c.fields_grow.ensures.types message rest at c.in-Some.used (entry_of c.in-Some.field) c.fields.kept c.in-Some-with_field.more c.in-Ok.gaps_so_far c.in-Some-taken.further c.with_short_postings.new.pending c.with_field-in-fields.new.pending
          (take_rest message at) spells c.in-Some-with_field.ensures.taken pushed so_far;
      same = changes_twice c.args.pending.now c.fields.pending c.with_field-in-fields.new.pending c.fields.invariant.same same;
    }
