use Rattle.std.proofs.Common.{List, [], ◌≡◌, ap, sym, subst}
use Rattle.bool_query.specs.Tree.{Tree}
use Rattle.bool_query.specs.State.{Frame, Waits}
use Rattle.bool_query.specs.View.{trees}
use Rattle.bool_query.specs.Parser.{frames}
use Rattle.bool_query.proofs.OpenTokens.{started}
use Rattle.bool_query.proofs.parser.Waiting.new.Goals as goal

pub returns : goal.returns
returns c =
    let outer : frames c.new.result.items ≡ [] = ap frames c.new.ensures.items in
    let alls : trees c.new-2.result.alls.items ≡ [] = ap trees c.new-2.ensures.alls in
    let nots : trees c.new-2.result.nots.items ≡ [] = ap trees c.new-2.ensures.nots in
    subst (λ (l : List Frame). Waits [] l (trees c.new-2.result.alls.items) (trees c.new-2.result.nots.items)) (sym outer)
    (subst (λ (l : List Tree). Waits [] [] l (trees c.new-2.result.nots.items)) (sym alls) (subst (λ (l : List Tree). Waits [] [] [] l) (sym nots) started))
