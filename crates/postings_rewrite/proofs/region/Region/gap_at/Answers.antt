use Rattle.std.proofs.Common.{◌≡◌, ℕ, ◌+◌, ◌-◌, ◌^◌, ◌<◌, ◌≤◌, ◌++◌, List, length, get_or, drop, refl, sym, ap, subst, ◌∙◌, arith}
use Rattle.ciff_wire.specs.Varint.{varint}
use Rattle.postings_rewrite.specs.Blocks.{least, gaps, IsBefore}
use Rattle.postings_rewrite.specs.BlockTables.{IsRegionOf}
use Rattle.postings_rewrite.proofs.Gapped.{gap_fits, gap_read, entry_numbers, next_place}
use Rattle.postings_rewrite.proofs.region.Region.gap_at.Goals as goal

pub bytes_from-requires : goal.bytes_from-requires
bytes_from-requires c =
    let list = c.args.self.now in
    let n = c.args.place.entry in
    let is = subst (IsRegionOf c.self.inside) c.self.view_is c.self.invariant in
    let numbers = entry_numbers c.self.inside.gaps.now list is.rest c.args.place (get_or list n 0 - least 0 list n) (length (varint (get_or list n 0 - least 0 list n))) is.spelt c.requires.stands c.requires.within is.sound refl refl in
    omega (arith, numbers.within)

pub varint_at-requires : goal.varint_at-requires
varint_at-requires c =
    let list = c.args.self.now in
    let n = c.args.place.entry in
    let is = subst (IsRegionOf c.self.inside) c.self.view_is c.self.invariant in
    (get_or list n 0 - least 0 list n, gaps (get_or list n 0 + 1) (drop (n + 1) list) ++ is.rest, gap_fits list n is.sound c.requires.within, c.bytes_from.ensures.same ∙ gap_read c.self.inside.gaps.now list is.rest c.args.place is.spelt c.requires.stands c.requires.within)

pub returns : goal.returns
returns c =
    let list = c.args.self.now in
    let n = c.args.place.entry in
    let is = subst (IsRegionOf c.self.inside) c.self.view_is c.self.invariant in
    let gap = get_or list n 0 - least 0 list n in
    let rest = gaps (get_or list n 0 + 1) (drop (n + 1) list) ++ is.rest in
    let fits : gap < 2 ^ 32 = gap_fits list n is.sound c.requires.within in
    let spelt : c.bytes_from.result.now ≡ varint gap ++ rest = c.bytes_from.ensures.same ∙ gap_read c.self.inside.gaps.now list is.rest c.args.place is.spelt c.requires.stands c.requires.within in
    let read : c.varint_at.result.0 ≡ gap = c.varint_at.ensures.number gap rest fits spelt in
    let size : c.varint_at.result.1 ≡ length (varint gap) = c.varint_at.ensures.used gap rest fits spelt in
    let numbers = entry_numbers c.self.inside.gaps.now list is.rest c.args.place c.varint_at.result.0 c.varint_at.result.1 is.spelt c.requires.stands c.requires.within is.sound read size in
    record {
      number = numbers.number;
      next = next_place c.args.place list n c.varint_at.result.0 c.varint_at.result.1 c.requires.stands c.requires.within is.sound.rising read size;
      entry = omega (arith, is.len, is.few, c.requires.within);
      bytes = omega (arith, numbers.within, c.self.invariant.small);
      before = numbers.below;
    }
