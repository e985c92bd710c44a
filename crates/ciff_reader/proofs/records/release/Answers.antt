use Rattle.std.proofs.Common.{sym, ap, ◌∙◌, rules}
use mir.Val.{SFits}
use Rattle.std.specs.Int.{w32}
use Rattle.std.proofs.lemmas.Int.{to_z-of_z}
use Rattle.rgb_base.specs.Building.{Building}
use Rattle.ciff_reader.proofs.Placing.{no_turn, turn, later_turn, pushed}
use Rattle.ciff_reader.proofs.records.release.Goals as goal

pub returns-in_default-clause-read : goal.returns-in_default-clause-read
returns-in_default-clause-read c = λ front later read.
    no_turn front c.turns.builder c.turns.waiting c.take.new.self c.records.result (sym c.take.ensures.taken ∙ c.in_default.is) c.take.ensures.gone c.take.ensures.others (c.turns.invariant.read front later read)

pub turns-preserved : goal.turns-preserved
turns-preserved c =
    let fits : SFits w32 c.in-Some.document.length = search rules in
    record {
      read = λ front later read.
          turn front c.turns.builder c.push_record.new.self c.turns.waiting c.take.new.self c.in-Some.document c.records.result c.records.ensures.same (sym c.take.ensures.taken ∙ c.in-Some.is)
          c.take.ensures.gone c.take.ensures.others (pushed c.turns.builder c.push_record.new.self c.in-Some.document c.as_str.result.now _ c.as_str.ensures.same (to_z-of_z w32 c.in-Some.document.length fits) c.in-Ok.ensures.ok) (c.turns.invariant.read front later read);
      lists = ap (λ (b : Building). b.lists) c.in-Ok.ensures.ok ∙ c.turns.invariant.lists;
      documents = ap (λ (b : Building). b.documents) c.in-Ok.ensures.ok ∙ c.turns.invariant.documents;
      later = λ later. later_turn c.turns.builder c.push_record.new.self _ _ c.turns.waiting c.take.new.self c.records.result c.records.ensures.same c.take.ensures.gone c.take.ensures.others c.in-Ok.ensures.ok (c.turns.invariant.later later);
    }
