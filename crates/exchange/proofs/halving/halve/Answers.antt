use Rattle.std.proofs.Common.{◌≡◌, ◌++◌, length, sym, subst, ap, ◌∙◌, arith}
use Rattle.rgb_base.specs.Order.{AreNumbers}
use Rattle.degrees.specs.Counts.{Counted}
use Rattle.exchange.specs.Halving.{half_a, half_b}
use Rattle.exchange.proofs.Cells.{AreNumbers-from_rising, joined}
use Rattle.exchange.proofs.Outcome.{loaded_terms}
use Rattle.exchange.proofs.Rounds.{cleared_after, loads_small, loads_grow}
use Rattle.exchange.proofs.halving.halve.Goals as goal

pub load-requires-clause-places : goal.load-requires-clause-places
load-requires-clause-places g c =
    let docs = c.args.docs.now in
    let both : c.split_at.result.0.now ++ c.split_at.result.1.now ≡ docs =
    joined _ docs c.split_at.result.0.now c.split_at.result.1.now c.split_at.ensures.front c.split_at.ensures.back in
    subst (AreNumbers (length c.args.ground.now.forward.now.rows)) (sym both) (AreNumbers-from_rising (length c.args.ground.now.forward.now.rows) docs c.requires.rising c.requires.below)

pub make_rounds-requires-clause-places : goal.make_rounds-requires-clause-places
make_rounds-requires-clause-places g c κs within =
    AreNumbers-from_rising (length c.args.ground.now.forward.now.rows) c.args.docs.now c.requires.rising c.requires.below

pub returns-clause-clear : goal.returns-clause-clear
returns-clause-clear g c =
    let forward = c.args.ground.now.forward.now in
    let docs = c.make_rounds.new.docs in
    let table = c.make_rounds.new.degrees in
    let len = ap (λ (t : Counted). length t.a) c.make_rounds.ensures.loaded ∙ loaded_terms forward (half_a docs) (half_b docs) c.load.new.self.loads in
    cleared_after forward.terms table c.clear.new.self len c.clear.ensures.clear

pub returns-clause-loads : goal.returns-clause-loads
returns-clause-loads g c =
    let last = ap (λ (t : Counted). t.loads) c.clear.ensures.clear in
    let made = ap (λ (t : Counted). t.loads) c.make_rounds.ensures.loaded in
    let first = ap (λ (t : Counted). t.loads) c.load.ensures.loaded in
    let before = c.args.degrees.now.loads in (
      omega (arith, last, made, first, loads_grow before c.is_sound.ensures.sound.loads),
      omega (arith, last, made, first, loads_small before),
    )
