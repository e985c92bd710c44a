use Rattle.std.proofs.Common.{ℕ, List}
use Rattle.std.proofs.lemmas.Result.{IfErr-weaker}
use Rattle.ciff_format.specs.Accepted.{Accepted}
use Rattle.ciff_format.specs.Refused.{Refused}
use Rattle.ciff_reader.specs.Window.{Opens, ExplainsWhere}
use Rattle.ciff_reader.proofs.Windows.{if_then, of_file, still_file}
use Rattle.ciff_reader.proofs.Whole.{window_begins, explains}
use Rattle.ciff_reader.proofs.read.read_index.Goals as goal

pub returns-clause-ok : goal.returns-clause-ok
returns-clause-ok g c =
    let seen = g.H.Host.seen in
    if_then c.read_file.result (λ index. (file : List ℕ) → Opens (seen c.fill.new.host) c.args.name.now c.fill.new.self file → Accepted file index) _
    (λ index accepts.
    of_file (seen c.args.host.now) c.args.name.now (λ file. Accepted file index) c.in-Ok.ensures.there
    (λ file is. accepts file (record {
      is = still_file (seen c.args.host.now) (seen c.fill.new.host) c.args.name.now file c.in-Ok.ensures.same is;
      at = c.in-Ok.ensures.at file is (window_begins _ file c.in_ok-window.ensures);
    })))
    c.read_file.ensures.ok

pub returns-clause-error : goal.returns-clause-error
returns-clause-error g c =
    let seen = g.H.Host.seen in
    IfErr-weaker c.read_file.result (λ error. ExplainsWhere (Opens (seen c.fill.new.host) c.args.name.now c.fill.new.self) Refused error c.args.name.now (seen c.fill.new.host) (seen c.read_file.new.host)) _
    (λ error stops.
    explains error c.args.name.now (seen c.args.host.now) (seen c.fill.new.host) (seen c.read_file.new.host) c.fill.new.self c.in-Ok.ensures.same c.in-Ok.ensures.there
    (λ file is. c.in-Ok.ensures.at file is (window_begins _ file c.in_ok-window.ensures)) stops)
    c.read_file.ensures.error
