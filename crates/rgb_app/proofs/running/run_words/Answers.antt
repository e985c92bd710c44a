use Rattle.std.proofs.Common.{◌≡◌, ◌↔◌, IfOk, sym, subst}
use Rattle.command_words.specs.Command.{texts_of}
use Rattle.rgb_app.specs.Outcome.{IsAny}
use Rattle.rgb_app.specs.Ends.{IsExact, SpellsNone}
use Rattle.rgb_app.proofs.running.run_words.Goals as goal

pub returns-in-Ok-clause-exact : goal.returns-in-Ok-clause-exact
returns-in-Ok-clause-exact g c =
    let seen = g.H.Host.seen in
    subst (λ found. IfOk found (λ words. IsExact IsAny (texts_of words.items) (seen c.args.host.now) (seen c.run.new.host) c.run.result)) (sym c.in-Ok.is)
    (subst (λ words. IsExact IsAny (texts_of words) (seen c.args.host.now) (seen c.run.new.host) c.run.result) c.deref.ensures.value c.run.ensures.exact)

pub returns-in-Ok-clause-usage : goal.returns-in-Ok-clause-usage
returns-in-Ok-clause-usage g c =
    subst (λ found. IfOk found (λ words. (c.run.result ≡ 2) ↔ SpellsNone IsAny (texts_of words.items))) (sym c.in-Ok.is)
    (subst (λ words. (c.run.result ≡ 2) ↔ SpellsNone IsAny (texts_of words)) c.deref.ensures.value c.run.ensures.usage)
