use Rattle.std.proofs.Common.{subst}
use Rattle.postings_rewrite.specs.Stores.{IsStore}
use Rattle.postings_rewrite.proofs.blocks.BlockStorePostingStore.documents.Goals as goal

pub returns-clause-sound : goal.returns-clause-sound
returns-clause-sound c = subst IsStore c.self.view_is c.self.invariant.sound
