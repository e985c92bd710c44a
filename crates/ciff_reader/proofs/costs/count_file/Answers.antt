use Rattle.std.proofs.Common.{◌≡◌, ◌<◌, ℕ, List, length, refl, sym, ap, ◌∙◌}
use Rattle.rgb_base.specs.Building.{parts_of}
use Rattle.ciff_format.specs.Refused.{Refused}
use Rattle.ciff_format.specs.declared.cause.Cause.TheVariants.{Trailing}
use Rattle.ciff_reader.specs.Awaited.{with_lists}
use Rattle.ciff_reader.specs.Counting.{AtCounted}
use Rattle.ciff_reader.specs.Listing.{listing}
use Rattle.ciff_reader.specs.Steps.{AtGood}
use Rattle.ciff_reader.specs.Window.{Opens}
use Rattle.ciff_reader.proofs.Frames.{explains_where}
use Rattle.ciff_reader.proofs.Counting.{as_many_lists, still_counted, listed_counted, counted_where}
use Rattle.ciff_reader.proofs.Whole.{begun_at, still_open, accepts, trails}
use Rattle.ciff_reader.proofs.costs.count_file.Goals as goal

pub returns-in-Err-count_lists-clause-error : goal.returns-in-Err-count_lists-clause-error
returns-in-Err-count_lists-clause-error g c =
    let seen = g.H.Host.seen in
    let name = c.args.name.now in
    let heading = c.in-Ok.heading in
    let builder = c.in-Ok-new.builder in
    explains_where (AtGood (seen c.take_heading.new.host) name c.take_heading.new.window (listing heading.lists builder)) (Opens (seen c.args.host.now) name c.args.window.now)
    Refused Refused c.in-Err-count_lists.error name (seen c.args.host.now) (seen c.take_heading.new.host) (seen c.count_lists.new.host) c.in-Ok.ensures.same
    (λ file opens. begun_at (seen c.args.host.now) (seen c.take_heading.new.host) name c.take_heading.new.window heading.header heading.lists heading.documents builder file c.in-Ok.ensures.same c.in-Ok-new.ensures.ok (c.in-Ok.ensures.ok file opens))
    (λ file place cause opens refused. refused) c.in-Err-count_lists.ensures.error

pub returns-in-Err-read_records-clause-error : goal.returns-in-Err-read_records-clause-error
returns-in-Err-read_records-clause-error g c =
    let seen = g.H.Host.seen in
    let name = c.args.name.now in
    let heading = c.in-Ok.heading in
    let builder = c.in-Ok-new.builder in
    let listed = c.count_lists.new.builder in
    let tally = c.in-Ok-count_lists.tally in
    let window = c.count_lists.new.window in
    let counted = λ (file : List ℕ) (opens : Opens (seen c.args.host.now) name c.args.window.now file).
    still_counted (seen c.take_heading.new.host) (seen c.count_lists.new.host) name window heading.lists listed tally file c.in-Ok-count_lists.ensures.same
    (c.in-Ok-count_lists.ensures.ok file
    (begun_at (seen c.args.host.now) (seen c.take_heading.new.host) name c.take_heading.new.window heading.header heading.lists heading.documents builder file c.in-Ok.ensures.same c.in-Ok-new.ensures.ok (c.in-Ok.ensures.ok file opens))) in
    explains_where (AtCounted (seen c.count_lists.new.host) name window heading.lists listed tally) (Opens (seen c.args.host.now) name c.args.window.now)
    Refused Refused c.in-Err-read_records.error name (seen c.args.host.now) (seen c.count_lists.new.host) (seen c.read_records.new.host) (c.in-Ok-count_lists.ensures.same ∙ c.in-Ok.ensures.same)
    counted (λ file place cause opens refused. refused)
    (counted_where (seen c.count_lists.new.host) (seen c.read_records.new.host) name window heading.lists listed tally c.in-Err-read_records.error c.in-Ok-count_lists.ensures.lists c.in-Err-read_records.ensures.error)

pub returns-in-Ok-expect_end-clause-ok : goal.returns-in-Ok-expect_end-clause-ok
returns-in-Ok-expect_end-clause-ok g c = λ file opens.
    let seen = g.H.Host.seen in
    let name = c.args.name.now in
    let heading = c.in-Ok.heading in
    let builder = c.in-Ok-new.builder in
    let listed = c.count_lists.new.builder in
    let built = c.read_records.new.builder in
    let tally = c.in-Ok-count_lists.tally in
    let at = still_counted (seen c.take_heading.new.host) (seen c.count_lists.new.host) name c.count_lists.new.window heading.lists listed tally file c.in-Ok-count_lists.ensures.same
    (c.in-Ok-count_lists.ensures.ok file
    (begun_at (seen c.args.host.now) (seen c.take_heading.new.host) name c.take_heading.new.window heading.header heading.lists heading.documents builder file c.in-Ok.ensures.same c.in-Ok-new.ensures.ok (c.in-Ok.ensures.ok file opens))) in
    let full = at.full in
    let ends = c.in-Ok-read_records.ensures.ok full.lists file at.counted.terms
    (listed_counted (seen c.count_lists.new.host) name c.count_lists.new.window heading.lists listed tally file c.in-Ok-count_lists.ensures.lists at) in
    let at_end = c.in-Ok-expect_end.ensures.ok file (still_open (seen c.count_lists.new.host) (seen c.read_records.new.host) name c.read_records.new.window file c.in-Ok-read_records.ensures.same ends.at.opens) in
    let index = parts_of (with_lists full.lists built) in
    record {
      index = index;
      accepted = accepts (seen c.count_lists.new.host) name c.read_records.new.window (with_lists full.lists built) index file ends at_end refl;
      costs = record {
        documents = c.documents.ensures.same ∙ sym c.in-Ok-read_records.ensures.whole.recorded;
        lists = c.lists.ensures.same ∙ ap length c.in-Ok-read_records.ensures.lists ∙ sym (as_many_lists full.lists listed.lists at.counted.terms);
        costs = c.of_tally.ensures.same index at.counted.sums;
      };
    }

pub returns-clause-error : goal.returns-clause-error
returns-clause-error g c =
    let seen = g.H.Host.seen in
    let name = c.args.name.now in
    let heading = c.in-Ok.heading in
    let builder = c.in-Ok-new.builder in
    let listed = c.count_lists.new.builder in
    let built = c.read_records.new.builder in
    let tally = c.in-Ok-count_lists.tally in
    let window = c.read_records.new.window in
    let counted = λ (file : List ℕ) (opens : Opens (seen c.args.host.now) name c.args.window.now file).
    still_counted (seen c.take_heading.new.host) (seen c.count_lists.new.host) name c.count_lists.new.window heading.lists listed tally file c.in-Ok-count_lists.ensures.same
    (c.in-Ok-count_lists.ensures.ok file
    (begun_at (seen c.args.host.now) (seen c.take_heading.new.host) name c.take_heading.new.window heading.header heading.lists heading.documents builder file c.in-Ok.ensures.same c.in-Ok-new.ensures.ok (c.in-Ok.ensures.ok file opens))) in
    let ends = λ (file : List ℕ) (opens : Opens (seen c.args.host.now) name c.args.window.now file).
    c.in-Ok-read_records.ensures.ok (counted file opens).full.lists file (counted file opens).counted.terms
    (listed_counted (seen c.count_lists.new.host) name c.count_lists.new.window heading.lists listed tally file c.in-Ok-count_lists.ensures.lists (counted file opens)) in
    explains_where (Opens (seen c.read_records.new.host) name window) (Opens (seen c.args.host.now) name c.args.window.now)
    (λ file place cause. (place ≡ window.place) × (place < length file) × (cause ≡ Trailing)) Refused c.in-Err-expect_end.error name (seen c.args.host.now) (seen c.read_records.new.host) (seen c.expect_end.new.host)
    (c.in-Ok-read_records.ensures.same ∙ c.in-Ok-count_lists.ensures.same ∙ c.in-Ok.ensures.same)
    (λ file opens. still_open (seen c.count_lists.new.host) (seen c.read_records.new.host) name window file c.in-Ok-read_records.ensures.same (ends file opens).at.opens)
    (λ file place cause opens more. trails (seen c.count_lists.new.host) name window (with_lists (counted file opens).full.lists built) file place cause (ends file opens) more)
    c.in-Err-expect_end.ensures.error
