use Rattle.std.proofs.Common.{◌≡◌, ℕ, length, drop, ap, subst, ◌∙◌, arith}
use Rattle.std.proofs.lemmas.List.{length-map}
use Rattle.postings_rewrite.specs.Blocks.{list_in}
use Rattle.postings_rewrite.specs.Stores.{StoredLists, IsStore}
use Rattle.postings_rewrite.proofs.blocks.BlockStorePostingStore.lists.Goals as goal

pub overflow_cast-result : goal.overflow_cast-result
overflow_cast-result c = record { fits = omega (arith, c.len.ensures, c.self.invariant.few, c.self.inside.tables.starts.ok.0) }

pub returns-clause-same : goal.returns-clause-same
returns-clause-same c =
    let rows = ap (λ (v : StoredLists). length v.lists) c.self.view_is in
    omega (arith, c.len.ensures, rows, length-map c.self.inside.tables.starts.items (λ start. list_in (drop start c.self.inside.tables.bytes.items)), c.self.inside.tables.starts.ok.0)

pub returns-clause-sound : goal.returns-clause-sound
returns-clause-sound c = subst IsStore c.self.view_is c.self.invariant.sound
