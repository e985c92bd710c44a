use Rattle.std.proofs.Common.{◌+◌, ◌++◌, [], ◌∷◌, take, All, ◌<◌, length, refl, sym, subst}
use Rattle.std.proofs.lemmas.List.Elements.{All-push}
use Rattle.query_file.specs.View.{seen, all_seen}
use Rattle.rgb_app.specs.Answering.{IsAnswer, AreAnswers}
use Rattle.rgb_app.specs.declared.answers.Answer.{Answer}
use Rattle.bool_query.specs.View.{tree_of}
use Rattle.rgb_app.proofs.Answerings.{next_seen, one_more_answer, stored_answer, answer_within}
use Rattle.rgb_app.proofs.answers.answers_over.Goals as goal

pub loop-query-preserved : goal.loop-query-preserved
loop-query-preserved c =
    let index = c.args.index.now in
    let l = c.loop-query in
    let query = c.query-item.result in
    let ids = c.in_ok-ids.ids in
    let answer : Answer = record { line = query.line; ids = ids } in
    let are = stored_answer c.store_answers_as_the_index.ensures.law index c.args.dictionary.now c.args.store.now (tree_of query.query) ids c.requires.terms c.requires.store c.in_ok-ids.ensures.ok in
    let is : IsAnswer index (seen query) answer = record { line = refl; documents = are } in
    record {
      are = subst (λ all. AreAnswers index (all_seen (take (l.query-index + 1) c.args.queries.now)) all) (sym c.in_ok-push.ensures.items)
          (subst (λ asked. AreAnswers index asked (l.answers.items ++ answer ∷ [])) (sym (next_seen c.args.queries.now l.query-index query c.loop-query-test.true c.query-item.is))
          (one_more_answer index (all_seen (take l.query-index c.args.queries.now)) l.answers.items (seen query) answer l.invariant.are is));
      within = subst (λ all. All (λ (answer : Answer). All (λ doc. doc < length index.documents) answer.ids) all) (sym c.in_ok-push.ensures.items)
          (All-push (λ (answer : Answer). All (λ doc. doc < length index.documents) answer.ids) l.answers.items answer l.invariant.within (answer_within c.answers_are_renumbered.ensures.below index c.is_sound.ensures.sound (tree_of query.query) ids are));
    }
