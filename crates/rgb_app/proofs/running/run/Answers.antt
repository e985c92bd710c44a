use Rattle.std.proofs.Common.{rules}
use Rattle.command_words.specs.Command.{Command, IsCommand, SpellsOnly, live, texts_of}
use Rattle.rgb_app.specs.Outcome.{IsAny, IsPlain}
use Rattle.rgb_app.specs.Ends.{Ends}
use Rattle.rgb_app.specs.declared.status.Status.TheVariants.{Done}
use Rattle.rgb_app.proofs.Endings.{any_ends, spelt_ends, spells_one, exact_comes}
use Rattle.rgb_app.proofs.running.run.Goals as goal

pub returns-in_default-clause-ends : goal.returns-in_default-clause-ends
returns-in_default-clause-ends g c =
    let seen = g.H.Host.seen in
    let words = texts_of c.args.words.now in
    let plain : (command : Command) → IsCommand words command → IsPlain command = search rules in
    any_ends words (seen c.args.host.now) (seen c.run_plain.new.host) c.run_plain.result plain c.run_plain.ensures.ends

pub returns-in_default-clause-exact : goal.returns-in_default-clause-exact
returns-in_default-clause-exact g c =
    let words = texts_of c.args.words.now in
    let plain : (command : Command) → IsCommand words command → IsPlain command = search rules in
    λ command does spells. c.run_plain.ensures.exact command (plain command spells) spells

pub returns-in-Ok-clause-ends : goal.returns-in-Ok-clause-ends
returns-in-Ok-clause-ends g c =
    let seen = g.H.Host.seen in
    let words = texts_of c.args.words.now in
    let l = c.in-Some-Live in
    let command = live l.input.now l.output.now l.queries.now l.options l.readers in
    let only : SpellsOnly words command = search rules in
    spelt_ends words command Done (seen c.args.host.now) (seen c.live.new.host) (seen c.end.new.host) c.end.result only.spelt c.in-Ok.ensures.says c.end.ensures.code c.end.ensures.warned

pub returns-in-Ok-clause-exact : goal.returns-in-Ok-clause-exact
returns-in-Ok-clause-exact g c =
    let seen = g.H.Host.seen in
    let words = texts_of c.args.words.now in
    let l = c.in-Some-Live in
    let command = live l.input.now l.output.now l.queries.now l.options l.readers in
    let only : SpellsOnly words command = search rules in
    let ends : Ends IsAny words (seen c.args.host.now) (seen c.end.new.host) c.end.result =
    spelt_ends words command Done (seen c.args.host.now) (seen c.live.new.host) (seen c.end.new.host) c.end.result only.spelt c.in-Ok.ensures.says c.end.ensures.code c.end.ensures.warned in
    exact_comes c.exactly_one_outcome.ensures.alike IsAny words (seen c.args.host.now) (seen c.end.new.host) c.end.result (spells_one words command only) ends

pub returns-in-Err-clause-exact : goal.returns-in-Err-clause-exact
returns-in-Err-clause-exact g c =
    let seen = g.H.Host.seen in
    let words = texts_of c.args.words.now in
    let l = c.in-Some-Live in
    let command = live l.input.now l.output.now l.queries.now l.options l.readers in
    let only : SpellsOnly words command = search rules in
    let ends : Ends IsAny words (seen c.args.host.now) (seen c.end-in-Err.new.host) c.end-in-Err.result =
    spelt_ends words command c.in-Err.status (seen c.args.host.now) (seen c.live.new.host) (seen c.end-in-Err.new.host) c.end-in-Err.result only.spelt c.in-Err.ensures.says c.end-in-Err.ensures.code c.end-in-Err.ensures.warned in
    exact_comes c.exactly_one_outcome.ensures.alike IsAny words (seen c.args.host.now) (seen c.end-in-Err.new.host) c.end-in-Err.result (spells_one words command only) ends
