use Rattle.std.proofs.Common.{◌≡◌, ℕ, List, length, map, sym, ap, subst, ◌∙◌, arith}
use Rattle.std.proofs.lemmas.List.{length-map}
use Rattle.rgb_base.specs.declared.parts.Posting.{Posting}
use Rattle.postings_rewrite.specs.Stores.{StoredLists, IsStore}
use Rattle.postings_rewrite.specs.Pieces.{pieces, AreCuts}
use Rattle.postings_rewrite.proofs.plain.PlainStore.of_table.Goals as goal

abbrev store_at : ℕ → List ℕ → List ℕ → StoredLists
store_at documents ends entries = record { lists = pieces 0 ends entries; documents = documents }

pub invariant_of-result : goal.invariant_of-result
invariant_of-result c =
    let documents = c.args.documents in
    let old = c.args.ends.now in
    let kept = c.in_ok-entries.entries.items in
    let ends : c.in_ok-ends.ends.items ≡ old = c.in_ok-ends.ensures.items in
    let entries : kept ≡ map (λ (posting : Posting). posting.doc) c.args.table.now = c.in_ok-entries.ensures in
    let size : length kept ≡ length c.args.table.now = ap length entries ∙ length-map c.args.table.now (λ (posting : Posting). posting.doc) in
    record {
      few = omega (arith, ap length ends, c.requires.few);
      small = omega (arith, size, c.requires.small);
      cuts = subst (λ (es : List ℕ). AreCuts 0 es (length kept)) (sym ends) (subst (AreCuts 0 old) (sym size) c.requires.cuts);
      sound = subst (λ (es : List ℕ). IsStore (store_at documents es kept)) (sym ends) (subst (λ (ns : List ℕ). IsStore (store_at documents old ns)) (sym entries) c.requires.sound);
    }
