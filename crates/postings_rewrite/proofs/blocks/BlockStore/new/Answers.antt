use Rattle.std.proofs.Common.{◌≡◌, ℕ, List, length, sym, ap, subst, ◌∙◌}
use Rattle.rayon.proofs.ListFacts.{IfOk-then}
use Rattle.rgb_base.specs.declared.parts.Posting.{Posting}
use Rattle.rgb_base.specs.Parts.{IndexParts}
use Rattle.rgb_base.specs.Table.{all_postings}
use Rattle.postings_rewrite.specs.Stores.{StoredLists, stored_of}
use Rattle.postings_rewrite.specs.Pieces.{stored_in, IsStorable}
use Rattle.postings_rewrite.proofs.Stored.{storable, stored_same}
use Rattle.postings_rewrite.proofs.blocks.BlockStore.new.Goals as goal

pub of_table-requires : goal.of_table-requires
of_table-requires c =
    let index = c.args.index.now in
    let sound = c.is_sound.ensures.sound in
    let is : IsStorable (length index.documents) c.ends.result.now (all_postings index.lists) = storable index.lists c.ends.result.now (length index.documents) sound.counted.lists sound.sized.postings sound.ordered c.ends.ensures.same in
    subst (λ (n : ℕ). IsStorable n c.ends.result.now c.table.result.now) (sym c.documents.ensures.same)
    (subst (λ (t : List Posting). IsStorable (length index.documents) c.ends.result.now t) (sym c.table.ensures.same) is)

pub returns : goal.returns
returns c =
    let index = c.args.index.now in
    let same : stored_in c.documents.result c.ends.result.now c.table.result.now ≡ stored_of index =
    ap (λ (n : ℕ). stored_in n c.ends.result.now c.table.result.now) c.documents.ensures.same
    ∙ (ap (stored_in (length index.documents) c.ends.result.now) c.table.ensures.same ∙ stored_same index.lists c.ends.result.now (length index.documents) c.ends.ensures.same) in
    record { ok = IfOk-then c.of_table.result _ _ c.of_table.ensures.ok (λ (store : StoredLists) is. is ∙ same) }
