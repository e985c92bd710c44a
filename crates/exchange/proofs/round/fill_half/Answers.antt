use Rattle.std.proofs.Common.{◌∙◌, ap, sym, subst, List, All}
use Rattle.exchange.specs.declared.entry.Entry.{Entry}
use Rattle.exchange.specs.Tries.{docs_of, HasGain}
use Rattle.exchange.proofs.Outcome.{docs_of_entries, gains_of_entries}
use Rattle.exchange.proofs.round.fill_half.Goals as goal

pub returns-clause-same : goal.returns-clause-same
returns-clause-same g c = ap docs_of c.fill_shared.ensures.same ∙ docs_of_entries c.args.from c.args.degrees.now c.args.ground.now.forward.now.rows c.args.docs.now

pub returns-clause-gains : goal.returns-clause-gains
returns-clause-gains g c =
    let table = c.args.degrees.now in
    let rows = c.args.ground.now.forward.now.rows in
    subst (λ (xs : List Entry). All (HasGain c.args.from table rows) xs) (sym c.fill_shared.ensures.same) (gains_of_entries c.args.from table rows c.args.docs.now)
