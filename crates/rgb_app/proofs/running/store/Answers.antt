use Rattle.std.proofs.Common.{List, ℕ}
use Rattle.ciff_format.specs.Canonical.{bytes_of}
use Rattle.rgb_app.specs.Outcome.{writing}
use Rattle.rgb_app.specs.Ends.{IsCutOff}
use Rattle.rgb_app.proofs.Delivery.{on_err, cut_at_creation, cut_at_write, written_whole}
use Rattle.rgb_app.proofs.running.store.Goals as goal

pub returns-in_err-create-clause-fault : goal.returns-in_err-create-clause-fault
returns-in_err-create-clause-fault g c =
    let seen = g.H.Host.seen in
    let bytes = bytes_of c.args.index.now in
    let cut : (text : List ℕ) → IsCutOff (writing c.args.name.now bytes text) (seen c.args.host.now) (seen c.create.new.self) = λ text.
    cut_at_creation c.args.name.now bytes text (seen c.args.host.now) (seen c.create.new.self) c.in_err-create.ensures.fault in
    on_err _ _ cut

pub returns-in_err-write_index-clause-fault : goal.returns-in_err-write_index-clause-fault
returns-in_err-write_index-clause-fault g c =
    let seen = g.H.Host.seen in
    let bytes = bytes_of c.args.index.now in
    let cut : (text : List ℕ) → IsCutOff (writing c.args.name.now bytes text) (seen c.args.host.now) (seen c.write_index.new.host) = λ text.
    cut_at_write c.created_then_appended.ensures.whole c.args.name.now bytes text (seen c.args.host.now) (seen c.create.new.self) (seen c.write_index.new.host) c.in_ok-create.ensures.ok c.in_err-write_index.ensures.fault in
    on_err _ _ cut

pub returns-clause-ok : goal.returns-clause-ok
returns-clause-ok g c =
    let seen = g.H.Host.seen in
    written_whole c.created_then_appended.ensures.whole c.args.name.now (bytes_of c.args.index.now) (seen c.args.host.now) (seen c.create.new.self) (seen c.write_index.new.host) c.in_ok-create.ensures.ok c.in_ok-write_index.ensures.written
