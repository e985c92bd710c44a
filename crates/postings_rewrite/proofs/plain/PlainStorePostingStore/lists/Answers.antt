use Rattle.std.proofs.Common.{◌≡◌, ℕ, length, ap, subst, ◌∙◌, arith}
use Rattle.postings_rewrite.specs.Stores.{StoredLists, IsStore}
use Rattle.postings_rewrite.proofs.Pieces.{length-pieces}
use Rattle.postings_rewrite.proofs.plain.PlainStorePostingStore.lists.Goals as goal

pub overflow_cast-result : goal.overflow_cast-result
overflow_cast-result c = record { fits = omega (arith, c.len.ensures, c.self.invariant.few, c.self.inside.ends.ok.0) }

pub returns-clause-same : goal.returns-clause-same
returns-clause-same c =
    let rows = ap (λ (v : StoredLists). length v.lists) c.self.view_is in
    omega (arith, c.len.ensures, rows, length-pieces 0 c.self.inside.ends.items c.self.inside.entries.items, c.self.inside.ends.ok.0)

pub returns-clause-sound : goal.returns-clause-sound
returns-clause-sound c = subst IsStore c.self.view_is c.self.invariant.sound
