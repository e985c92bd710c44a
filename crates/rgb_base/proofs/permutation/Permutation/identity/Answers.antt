use Rattle.std.proofs.Common.{ℕ}
use Rattle.rgb_base.proofs.Tables.{AreTables-identity, IsOrder-from_tables, Renumbers-from_tables}
use Rattle.rgb_base.proofs.permutation.Permutation.identity.Goals as goal

pub returns-clause-ok : goal.returns-clause-ok
returns-clause-ok c =
    let order = c.in_ok-order.ensures in
    let places = c.in_ok-places.ensures in
    Renumbers-from_tables _ _ c.args.n (λ (old : ℕ). old) (AreTables-identity _ _ c.args.n c.requires order.len places.len order.each places.each) order.len places.each

pub returns-clause-sound : goal.returns-clause-sound
returns-clause-sound c =
    let order = c.in_ok-order.ensures in
    let places = c.in_ok-places.ensures in
    IsOrder-from_tables _ _ (AreTables-identity _ _ c.args.n c.requires order.len places.len order.each places.each)
