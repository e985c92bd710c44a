use Rattle.std.proofs.Common.{◌≡◌, length, sym, ap, subst, ◌∙◌, arith}
use Rattle.std.specs.Prelude.{slice_get, option_map, Some}
use Rattle.rgb_base.specs.declared.parts.DocRecord.{DocRecord}
use Rattle.rgb_base.specs.Parts.{IndexParts}
use Rattle.rgb_base.specs.Flat.{records_of}
use Rattle.rgb_base.proofs.Rows.{length-records_of, names_in, record_has}
use Rattle.rgb_base.proofs.index.Index.name.Goals as goal

pub at-requires : goal.at-requires
at-requires c =
    let t = c.self.inside in
    let h = c.self.invariant in
    let count : length c.args.self.now.documents ≡ length t.sizes.items = ap (λ (v : IndexParts). length v.documents) (sym c.self.view_is) ∙ length-records_of t.names t.sizes.items h.records in
    omega (arith, c.requires, count, h.records)

pub returns : goal.returns
returns c =
    let t = c.self.inside in
    let here = record_has (λ (d : DocRecord). d.name) (records_of t.names t.sizes.items) t.names c.args.doc _ (names_in t.names t.sizes.items c.self.invariant.records) c.at.ensures.same in
    record { same = subst (λ (v : IndexParts). option_map (λ (d : DocRecord). d.name) (slice_get v.documents c.args.doc) ≡ Some c.at.result.now) c.self.view_is here }
