use Rattle.std.proofs.Common.{[], ◌∷◌, refl, ◌∙◌, subst}
use Rattle.query_file.specs.View.{all_seen}
use Rattle.command_words.specs.Command.{live}
use Rattle.rgb_app.specs.Outcome.{query_file}
use Rattle.rgb_app.specs.Status.{status_of_read, status_of_queries}
use Rattle.rgb_app.specs.Prepared.{all_lent, text_of}
use Rattle.rgb_app.specs.Live.{AreLive}
use Rattle.rgb_app.specs.Turns.{IsLived}
use Rattle.rgb_app.specs.Ends.{Says}
use Rattle.rgb_app.specs.declared.status.Status.TheVariants.{Done, WriteFault, Memory}
use Rattle.rgb_app.proofs.Commands.{explained, queries_explained, told_error}
use Rattle.rgb_app.proofs.Lives.{IsReady, told_live, turns_of, all_owned, lived, live_cut}
use Rattle.rgb_app.proofs.running.live.Goals as goal

pub returns-in_err-index : goal.returns-in_err-index
returns-in_err-index g c =
    let seen = g.H.Host.seen in
    let command = live c.args.input.now c.args.output.now c.args.queries.now c.args.options c.args.readers in
    record {
      says = told_error c.from_residual.result (Says Done command (seen c.args.host.now) (seen c.read_index.new.host)) (λ status. Says status command (seen c.args.host.now) (seen c.read_index.new.host)) (status_of_read c.in_err-index.field-0.0)
          c.from_residual.ensures.1
          (explained c.in_err-index.field-0.0 command c.args.input.now (query_file c.args.queries.now ∷ []) (seen c.args.host.now) (seen c.read_index.new.host) refl c.in_err-index.ensures.error);
    }

pub returns-in_err-queries : goal.returns-in_err-queries
returns-in_err-queries g c =
    let seen = g.H.Host.seen in
    let command = live c.args.input.now c.args.output.now c.args.queries.now c.args.options c.args.readers in
    record {
      says = told_error c.from_residual-in_err-queries.result (Says Done command (seen c.args.host.now) (seen c.read_queries.new.host)) (λ status. Says status command (seen c.args.host.now) (seen c.read_queries.new.host)) (status_of_queries c.in_err-queries.field-0.0)
          c.from_residual-in_err-queries.ensures.1
          (queries_explained c.in_err-queries.field-0.0 command c.args.input.now c.args.queries.now c.in_ok-index.index (seen c.args.host.now) (seen c.read_index.new.host) (seen c.read_queries.new.host) refl c.in_ok-index.ensures.ok
          c.in_ok-index.ensures.same c.in_err-queries.ensures.error);
    }

pub returns-in_err-lived : goal.returns-in_err-lived
returns-in_err-lived g c =
    let seen = g.H.Host.seen in
    let command = live c.args.input.now c.args.output.now c.args.queries.now c.args.options c.args.readers in
    record {
      says = told_error c.from_residual-in_err-lived.result (Says Done command (seen c.args.host.now) (seen c.read_queries.new.host)) (λ status. Says status command (seen c.args.host.now) (seen c.read_queries.new.host)) Memory
          c.from_residual-in_err-lived.ensures.1 (c.in_ok-queries.ensures.same ∙ c.in_ok-index.ensures.same);
    }

pub returns-in_err-answers : goal.returns-in_err-answers
returns-in_err-answers g c =
    let seen = g.H.Host.seen in
    let command = live c.args.input.now c.args.output.now c.args.queries.now c.args.options c.args.readers in
    record {
      says = told_error c.from_residual-in_err-answers.result (Says Done command (seen c.args.host.now) (seen c.read_queries.new.host)) (λ status. Says status command (seen c.args.host.now) (seen c.read_queries.new.host)) Memory
          c.from_residual-in_err-answers.ensures.1 (c.in_ok-queries.ensures.same ∙ c.in_ok-index.ensures.same);
    }

pub returns-in_err-finals : goal.returns-in_err-finals
returns-in_err-finals g c =
    let seen = g.H.Host.seen in
    let command = live c.args.input.now c.args.output.now c.args.queries.now c.args.options c.args.readers in
    record {
      says = told_error c.from_residual-in_err-finals.result (Says Done command (seen c.args.host.now) (seen c.read_queries.new.host)) (λ status. Says status command (seen c.args.host.now) (seen c.read_queries.new.host)) Memory
          c.from_residual-in_err-finals.ensures.1 (c.in_ok-queries.ensures.same ∙ c.in_ok-index.ensures.same);
    }

pub in_order-requires : goal.in_order-requires
in_order-requires g c = record {
  turns = turns_of c.args.options c.args.readers c.in_ok-index.index c.in_ok-queries.queries.items c.deref.result.now c.in_ok-lived.lived c.deref-2.result.now c.len.result c.requires.some c.deref.ensures.value c.in_ok-lived.ensures.lived c.deref-2.ensures.value (c.len.ensures ∙ c.in_ok-queries.queries.ok.0);
}

pub deliver_live-requires-clause-owners : goal.deliver_live-requires-clause-owners
deliver_live-requires-clause-owners g c =
    let told = told_live c.args.options c.args.readers c.in_ok-index.index c.in_ok-queries.queries.items c.deref.result.now c.in_ok-lived.lived c.deref-2.result.now c.in_ok-answers.answers.items c.deref-4.result.now c.in_ok-finals.finals.items c.deref-5.result.now c.deref-3.result.now
    c.len.result c.requires.some c.deref.ensures.value c.in_ok-lived.ensures.lived c.deref-2.ensures.value (c.len.ensures ∙ c.in_ok-queries.queries.ok.0) c.in_ok-answers.ensures.len c.in_ok-answers.ensures.each c.deref-4.ensures.value c.in_ok-finals.ensures.same c.deref-3.ensures.value
    c.deref-5.ensures.value in
    all_owned c.answers_are_renumbered.ensures.below c.args.options c.in_ok-index.index (all_seen c.in_ok-queries.queries.items) (all_lent c.deref-4.result.now) c.in_ok-index.ensures.sound told.answered

pub deliver_live-requires-clause-final_owners : goal.deliver_live-requires-clause-final_owners
deliver_live-requires-clause-final_owners g c =
    let told = told_live c.args.options c.args.readers c.in_ok-index.index c.in_ok-queries.queries.items c.deref.result.now c.in_ok-lived.lived c.deref-2.result.now c.in_ok-answers.answers.items c.deref-4.result.now c.in_ok-finals.finals.items c.deref-5.result.now c.deref-3.result.now
    c.len.result c.requires.some c.deref.ensures.value c.in_ok-lived.ensures.lived c.deref-2.ensures.value (c.len.ensures ∙ c.in_ok-queries.queries.ok.0) c.in_ok-answers.ensures.len c.in_ok-answers.ensures.each c.deref-4.ensures.value c.in_ok-finals.ensures.same c.deref-3.ensures.value
    c.deref-5.ensures.value in
    all_owned c.answers_are_renumbered.ensures.below c.args.options c.in_ok-index.index (all_seen c.in_ok-queries.queries.items) (all_lent c.deref-5.result.now) c.in_ok-index.ensures.sound told.again

pub returns-in_err-deliver_live : goal.returns-in_err-deliver_live
returns-in_err-deliver_live g c =
    let seen = g.H.Host.seen in
    let command = live c.args.input.now c.args.output.now c.args.queries.now c.args.options c.args.readers in
    let asked = all_seen c.in_ok-queries.queries.items in
    let answers = all_lent c.deref-4.result.now in
    let finals = all_lent c.deref-5.result.now in
    let told : AreLive c.args.options c.args.readers c.in_ok-index.index asked answers finals =
    told_live c.args.options c.args.readers c.in_ok-index.index c.in_ok-queries.queries.items c.deref.result.now c.in_ok-lived.lived c.deref-2.result.now c.in_ok-answers.answers.items c.deref-4.result.now c.in_ok-finals.finals.items c.deref-5.result.now c.deref-3.result.now
    c.len.result c.requires.some c.deref.ensures.value c.in_ok-lived.ensures.lived c.deref-2.ensures.value (c.len.ensures ∙ c.in_ok-queries.queries.ok.0) c.in_ok-answers.ensures.len c.in_ok-answers.ensures.each c.deref-4.ensures.value c.in_ok-finals.ensures.same c.deref-3.ensures.value
    c.deref-5.ensures.value in
    let work = c.in_ok-lived.lived.work in
    let is : IsLived c.args.options c.args.readers c.in_ok-index.index asked c.in_ok-lived.lived = subst (λ qs. IsLived c.args.options c.args.readers c.in_ok-index.index (all_seen qs) c.in_ok-lived.lived) c.deref.ensures.value c.in_ok-lived.ensures.lived in
    let ready : IsReady c.args.input.now c.args.queries.now c.args.options c.args.readers c.in_ok-index.index work.new work.rounds asked answers finals (text_of work) (seen c.args.host.now) (seen c.read_index.new.host) (seen c.read_queries.new.host) = record {
      holds = c.in_ok-index.ensures.ok;
      same = c.in_ok-index.ensures.same;
      holds_queries = c.in_ok-queries.ensures.ok;
      still = c.in_ok-queries.ensures.same;
      is_reordered = is.reordered;
      are_live = told;
      is_text = is.text;
    } in
    record {
      says = told_error c.from_residual-in_err-deliver_live.result (Says Done command (seen c.args.host.now) (seen c.deliver_live.new.host)) (λ status. Says status command (seen c.args.host.now) (seen c.deliver_live.new.host)) WriteFault
          c.from_residual-in_err-deliver_live.ensures.1
          (live_cut c.args.input.now c.args.output.now c.args.queries.now c.args.options c.args.readers c.in_ok-index.index work.new work.rounds asked answers finals (text_of work) (seen c.args.host.now) (seen c.read_index.new.host) (seen c.read_queries.new.host) (seen c.deliver_live.new.host) ready c.in_err-deliver_live.ensures.fault);
    }

pub returns : goal.returns
returns g c =
    let seen = g.H.Host.seen in
    let asked = all_seen c.in_ok-queries.queries.items in
    let answers = all_lent c.deref-4.result.now in
    let finals = all_lent c.deref-5.result.now in
    let told : AreLive c.args.options c.args.readers c.in_ok-index.index asked answers finals =
    told_live c.args.options c.args.readers c.in_ok-index.index c.in_ok-queries.queries.items c.deref.result.now c.in_ok-lived.lived c.deref-2.result.now c.in_ok-answers.answers.items c.deref-4.result.now c.in_ok-finals.finals.items c.deref-5.result.now c.deref-3.result.now
    c.len.result c.requires.some c.deref.ensures.value c.in_ok-lived.ensures.lived c.deref-2.ensures.value (c.len.ensures ∙ c.in_ok-queries.queries.ok.0) c.in_ok-answers.ensures.len c.in_ok-answers.ensures.each c.deref-4.ensures.value c.in_ok-finals.ensures.same c.deref-3.ensures.value
    c.deref-5.ensures.value in
    let work = c.in_ok-lived.lived.work in
    let is : IsLived c.args.options c.args.readers c.in_ok-index.index asked c.in_ok-lived.lived = subst (λ qs. IsLived c.args.options c.args.readers c.in_ok-index.index (all_seen qs) c.in_ok-lived.lived) c.deref.ensures.value c.in_ok-lived.ensures.lived in
    let ready : IsReady c.args.input.now c.args.queries.now c.args.options c.args.readers c.in_ok-index.index work.new work.rounds asked answers finals (text_of work) (seen c.args.host.now) (seen c.read_index.new.host) (seen c.read_queries.new.host) = record {
      holds = c.in_ok-index.ensures.ok;
      same = c.in_ok-index.ensures.same;
      holds_queries = c.in_ok-queries.ensures.ok;
      still = c.in_ok-queries.ensures.same;
      is_reordered = is.reordered;
      are_live = told;
      is_text = is.text;
    } in
    record {
      says = lived c.args.input.now c.args.output.now c.args.queries.now c.args.options c.args.readers c.in_ok-index.index work.new work.rounds asked answers finals (text_of work) (seen c.args.host.now) (seen c.read_index.new.host) (seen c.read_queries.new.host) (seen c.deliver_live.new.host) ready c.in_ok-deliver_live.ensures.ok;
    }
