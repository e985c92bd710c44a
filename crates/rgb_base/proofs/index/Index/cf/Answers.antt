use Rattle.std.proofs.Common.{◌≡◌, ◌<◌, length, sym, ap, subst, ◌∙◌, arith}
use Rattle.std.specs.Prelude.{slice_get, option_map, Some, FitsSigned}
use Rattle.std.specs.Int.{w64}
use Rattle.std.proofs.lemmas.Int.{to_z-of_z}
use Rattle.std.proofs.lemmas.List.Elements.{All-weaker}
use Rattle.rgb_base.specs.declared.parts.TermList.{TermList}
use Rattle.rgb_base.specs.declared.columns.Counts.{Counts}
use Rattle.rgb_base.specs.Parts.{IndexParts, FitsList}
use Rattle.rgb_base.specs.Flat.{lists_of}
use Rattle.rgb_base.proofs.Rows.{length-lists_of, counts_in, list_counts, list_keeps}
use Rattle.rgb_base.proofs.index.Index.cf.Goals as goal

pub index-requires : goal.index-requires
index-requires c =
    let t = c.self.inside in
    let h = c.self.invariant in
    let count : length c.args.self.now.lists ≡ length t.counts.items = ap (λ (v : IndexParts). length v.lists) (sym c.self.view_is) ∙ length-lists_of t.terms t.counts.items t.postings.closed h.lists.terms_len h.lists.parts_len in
    omega (arith, c.requires, count, t.counts.ok.0)

pub returns : goal.returns
returns c =
    let t = c.self.inside in
    let h = c.self.invariant in
    let count : length c.args.self.now.lists ≡ length t.counts.items = ap (λ (v : IndexParts). length v.lists) (sym c.self.view_is) ∙ length-lists_of t.terms t.counts.items t.postings.closed h.lists.terms_len h.lists.parts_len in
    let lists = lists_of t.terms t.counts.items t.postings.closed in
    let within : c.args.list < length t.counts.items = omega (arith, c.requires, count) in
    let here = list_counts (λ (n : Counts). n.cf) lists t.counts.items c.args.list _ (counts_in t.terms t.counts.items t.postings.closed h.lists.terms_len h.lists.parts_len) within c.index.ensures in
    let fits : FitsSigned w64 c.index.result.now.cf = list_keeps (λ (l : TermList). l.cf) (FitsSigned w64) lists c.args.list _ (All-weaker FitsList (λ (l : TermList). FitsSigned w64 l.cf) (λ l f. f.cf) lists h.index.lists) here in
    record { same = subst (λ (v : IndexParts). option_map (λ (l : TermList). l.cf) (slice_get v.lists c.args.list) ≡ Some c.index.result.now.cf) c.self.view_is here ∙ ap Some (sym (to_z-of_z w64 c.index.result.now.cf fits)) }
