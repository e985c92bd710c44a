use Rattle.std.proofs.Common.{arith}
use Rattle.std.proofs.lemmas.Option.{slice_get_within}
use Rattle.forward_index.proofs.Passing.{list_few}
use Rattle.forward_index.proofs.bands.pass_lists.Goals as goal

pub passed_at-requires-clause-few : goal.passed_at-requires-clause-few
passed_at-requires-clause-few c =
    list_few c.args.index.now.lists c.loop-list.list c.postings.result.now (omega (arith, c.loop-list-test.true, c.lists-list-end.ensures.same)) c.postings.ensures.same c.is_sound.ensures.sound.sized.postings

pub returns : goal.returns
returns c = record {
  passed = record {
    len = omega (arith, c.loop-list.auto.table, c.requires.lists);
    each = λ k list found enough.
        let within = slice_get_within c.args.index.now.lists k list found in
        c.loop-list.invariant k list (omega (arith, within, c.loop-list-test.false, c.lists-list-end.ensures.same)) found;
  };
}
