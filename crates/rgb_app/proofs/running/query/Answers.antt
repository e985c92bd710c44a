use Rattle.std.proofs.Common.{[], ◌∷◌, ◌≡◌, refl, ◌∙◌, subst}
use Rattle.rgb_host.specs.Seen.{with_print, PrintedThenFailed}
use Rattle.query_file.specs.View.{all_seen}
use Rattle.rgb_app.specs.Answering.{AreAnswers}
use Rattle.rgb_app.specs.Text.{query_text}
use Rattle.command_words.specs.Command.{query}
use Rattle.rgb_app.specs.Outcome.{query_file}
use Rattle.rgb_app.specs.Status.{status_of_read, status_of_queries}
use Rattle.rgb_app.specs.Ends.{Says}
use Rattle.rgb_app.specs.declared.status.Status.TheVariants.{Done, WriteFault, Memory}
use Rattle.rgb_app.proofs.Commands.{explained, queries_explained, queried, query_cut, told_error}
use Rattle.rgb_app.proofs.running.query.Goals as goal

pub returns-in_err-index : goal.returns-in_err-index
returns-in_err-index g c =
    let seen = g.H.Host.seen in
    let command = query c.args.input.now c.args.queries.now in
    record {
      says = told_error c.from_residual.result (Says Done command (seen c.args.host.now) (seen c.read_index.new.host)) (λ status. Says status command (seen c.args.host.now) (seen c.read_index.new.host)) (status_of_read c.in_err-index.field-0.0)
          c.from_residual.ensures.1
          (explained c.in_err-index.field-0.0 command c.args.input.now (query_file c.args.queries.now ∷ []) (seen c.args.host.now) (seen c.read_index.new.host) refl c.in_err-index.ensures.error);
    }

pub returns-in_err-asked : goal.returns-in_err-asked
returns-in_err-asked g c =
    let seen = g.H.Host.seen in
    let command = query c.args.input.now c.args.queries.now in
    record {
      says = told_error c.from_residual-in_err-asked.result (Says Done command (seen c.args.host.now) (seen c.read_queries.new.host)) (λ status. Says status command (seen c.args.host.now) (seen c.read_queries.new.host)) (status_of_queries c.in_err-asked.field-0.0)
          c.from_residual-in_err-asked.ensures.1
          (queries_explained c.in_err-asked.field-0.0 command c.args.input.now c.args.queries.now c.in_ok-index.index (seen c.args.host.now) (seen c.read_index.new.host) (seen c.read_queries.new.host) refl c.in_ok-index.ensures.ok c.in_ok-index.ensures.same c.in_err-asked.ensures.error);
    }

pub returns-in_err-answers : goal.returns-in_err-answers
returns-in_err-answers g c =
    let seen = g.H.Host.seen in
    let command = query c.args.input.now c.args.queries.now in
    record {
      says = told_error c.from_residual-in_err-answers.result (Says Done command (seen c.args.host.now) (seen c.read_queries.new.host)) (λ status. Says status command (seen c.args.host.now) (seen c.read_queries.new.host)) Memory
          c.from_residual-in_err-answers.ensures.1 (c.in_ok-asked.ensures.same ∙ c.in_ok-index.ensures.same);
    }

pub returns-in_err-print_answers : goal.returns-in_err-print_answers
returns-in_err-print_answers g c =
    let seen = g.H.Host.seen in
    let command = query c.args.input.now c.args.queries.now in
    let index = c.in_ok-index.index in
    let answers = c.in_ok-answers.answers.items in
    let are = subst (λ qs. AreAnswers index (all_seen qs) answers) c.deref.ensures.value c.in_ok-answers.ensures.ok in
    let cut = subst (λ all. PrintedThenFailed (query_text index all) (seen c.read_queries.new.host) (seen c.print_answers.new.host)) c.deref-2.ensures.value c.in_err-print_answers.ensures.fault in
    record {
      says = told_error c.from_residual-in_err-print_answers.result (Says Done command (seen c.args.host.now) (seen c.print_answers.new.host)) (λ status. Says status command (seen c.args.host.now) (seen c.print_answers.new.host)) WriteFault
          c.from_residual-in_err-print_answers.ensures.1
          (query_cut c.args.input.now c.args.queries.now index (all_seen c.in_ok-asked.asked.items) answers (seen c.args.host.now) (seen c.read_index.new.host) (seen c.read_queries.new.host) (seen c.print_answers.new.host)
          c.in_ok-index.ensures.ok c.in_ok-index.ensures.same c.in_ok-asked.ensures.ok c.in_ok-asked.ensures.same are cut);
    }

pub returns : goal.returns
returns g c =
    let seen = g.H.Host.seen in
    let index = c.in_ok-index.index in
    let answers = c.in_ok-answers.answers.items in
    let are = subst (λ qs. AreAnswers index (all_seen qs) answers) c.deref.ensures.value c.in_ok-answers.ensures.ok in
    let came = subst (λ all. seen c.print_answers.new.host ≡ with_print (query_text index all) (seen c.read_queries.new.host)) c.deref-2.ensures.value c.in_ok-print_answers.ensures.ok in
    record {
      says = queried c.args.input.now c.args.queries.now index (all_seen c.in_ok-asked.asked.items) answers (seen c.args.host.now) (seen c.read_index.new.host) (seen c.read_queries.new.host) (seen c.print_answers.new.host)
          c.in_ok-index.ensures.ok c.in_ok-index.ensures.same c.in_ok-asked.ensures.ok c.in_ok-asked.ensures.same are came;
    }
