use Rattle.std.proofs.Common.{◌∙◌, ◌-◌, ◌≤◌, List, ℕ, length, take, drop, subst, arith, rules}
use mir.Val.{SFits}
use Rattle.std.specs.Int.{w32}
use Rattle.std.proofs.lemmas.Int.{to_z-of_z}
use Rattle.std.proofs.lemmas.List.{take_rest, length-take, length-drop}
use Rattle.ciff_wire.specs.Field.{SpellsField, as_number}
use Rattle.ciff_reader.proofs.ShortPostings.{posting_starts}
use Rattle.ciff_reader.proofs.short.posting_by_parts.Goals as goal

pub returns : goal.returns
returns c =
    let bytes = c.args.bytes.now in
    let content = take (length bytes - 2) (drop 2 bytes) in
    let first = c.in_ok-gap.first in
    let second = c.in_ok-tf.second in
    let rest = take (length content - first) (drop first content) in
    let gap_fits : SFits w32 c.as_i32.result = search rules in
    let tf_fits : SFits w32 c.as_i32-2.result = search rules in
    let one : first ≤ length content = c.in_ok-gap.ensures.within in
    let two : second ≤ length rest = c.in_ok-tf.ensures.within in
    record {
      posting = posting_starts bytes content c.in_ok-gap.gap c.in_ok-tf.tf first second _ c.in-34.len_at_least (omega arith) (omega arith) (omega (arith, c.in_ok-gap.ensures.most, c.in_ok-tf.ensures.most))
          (take_rest bytes 2) (omega (arith, one, two, length-take (length content - first) (drop first content), length-drop first content))
          c.in_ok-gap.ensures.field (subst (λ (bs : List ℕ). SpellsField (take second bs) (record { number = 2; held = as_number c.in_ok-tf.tf })) (take_rest content first) c.in_ok-tf.ensures.field)
          (to_z-of_z w32 c.as_i32.result gap_fits ∙ c.as_i32.ensures.same) (to_z-of_z w32 c.as_i32-2.result tf_fits ∙ c.as_i32-2.ensures.same);
    }
