use Rattle.std.proofs.Common.{◌≡◌, ◌<◌, length, refl, sym, ap, subst, ◌∙◌, arith}
use Rattle.std.specs.Prelude.{slice_get, option_map, Some, FitsSigned}
use Rattle.std.specs.Int.{w32}
use Rattle.std.proofs.lemmas.Int.{to_z-of_z}
use Rattle.std.proofs.lemmas.Option.{slice_get_read}
use Rattle.std.proofs.lemmas.List.Elements.{All-weaker}
use Rattle.rgb_base.specs.declared.parts.DocRecord.{DocRecord}
use Rattle.rgb_base.specs.Parts.{IndexParts, FitsRecord}
use Rattle.rgb_base.specs.Flat.{records_of}
use Rattle.rgb_base.proofs.Rows.{length-records_of, sizes_in, record_has, record_keeps}
use Rattle.rgb_base.proofs.index.Index.length.Goals as goal

pub index-requires : goal.index-requires
index-requires c =
    let t = c.self.inside in
    let h = c.self.invariant in
    let count : length c.args.self.now.documents ≡ length t.sizes.items = ap (λ (v : IndexParts). length v.documents) (sym c.self.view_is) ∙ length-records_of t.names t.sizes.items h.records in
    omega (arith, c.requires, count, t.sizes.ok.0)

pub returns : goal.returns
returns c =
    let t = c.self.inside in
    let h = c.self.invariant in
    let count : length c.args.self.now.documents ≡ length t.sizes.items = ap (λ (v : IndexParts). length v.documents) (sym c.self.view_is) ∙ length-records_of t.names t.sizes.items h.records in
    let documents = records_of t.names t.sizes.items in
    let within : c.args.doc < length t.sizes.items = omega (arith, c.requires, count) in
    let here = record_has (λ (d : DocRecord). d.length) documents t.sizes.items c.args.doc c.index.result.now (sizes_in t.names t.sizes.items h.records) (slice_get_read t.sizes.items (length t.sizes.items) c.args.doc _ refl within c.index.ensures) in
    let fits : FitsSigned w32 c.index.result.now = record_keeps (λ (d : DocRecord). d.length) (FitsSigned w32) documents c.args.doc _ (All-weaker FitsRecord (λ (d : DocRecord). FitsSigned w32 d.length) (λ d f. f.length) documents h.index.documents) here in
    record { same = subst (λ (v : IndexParts). option_map (λ (d : DocRecord). d.length) (slice_get v.documents c.args.doc) ≡ Some c.index.result.now) c.self.view_is here ∙ ap Some (sym (to_z-of_z w32 c.index.result.now fits)) }
