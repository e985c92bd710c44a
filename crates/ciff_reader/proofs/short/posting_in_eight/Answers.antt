use Rattle.std.proofs.Common.{◌∙◌, ◌+◌, ◌%◌, ◌^◌, ◌<◌, ℕ, get_or, refl, ap, sym, arith, rules}
use mir.Val.{SFits}
use Rattle.std.specs.Int.{w32, cast_signed}
use Rattle.std.proofs.lemmas.Int.{to_z-of_z}
use Rattle.ciff_reader.proofs.ShortPostings.{Begins, eight_start}
use Rattle.ciff_reader.proofs.short.posting_in_eight.Goals as goal

pub returns : goal.returns
returns c =
    let bytes = c.args.bytes.now in
    let gap = c.in-Some.gap in
    let len = c.in-Some.len in
    let size = c.from-end.result in
    let tf = get_or bytes (size + 1) 0 in
    let gap_fits : SFits w32 c.as_i32.result = search rules in
    let tf_fits : SFits w32 c.as_i32-2.result = search rules in
    let low : get_or bytes 3 0 < 256 = omega (arith, c.type_inv.bytes 3) in
    let middle : get_or bytes 4 0 < 256 = omega (arith, c.type_inv.bytes 4) in
    let begins : Begins (get_or bytes 3 0) (get_or bytes 4 0) (get_or bytes 5 0) gap len = record {
      one = c.in-Some.ensures.one;
      two = c.in-Some.ensures.two;
      three = c.in-Some.ensures.three;
      more = c.in-Some.ensures.more;
    } in
    record {
      posting = eight_start bytes gap len size tf _ c.in-34.len_at_least low middle (omega arith) (sym c.from-end.ensures) (omega arith) begins c.if-end-len.false c.if-bytes-end-ne-FREQUENCY.false refl c.if-tf-ge128.false
          (to_z-of_z w32 c.as_i32.result gap_fits ∙ c.as_i32.ensures.same ∙ ap (λ (n : ℕ). cast_signed w32 (n % 2 ^ 32)) c.from.ensures) (to_z-of_z w32 c.as_i32-2.result tf_fits ∙ c.as_i32-2.ensures.same ∙ ap (λ (n : ℕ). cast_signed w32 (n % 2 ^ 32)) c.from-2.ensures);
    }
