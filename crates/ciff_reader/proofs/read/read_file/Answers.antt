use Rattle.std.proofs.Common.{◌≡◌, ◌<◌, ℕ, List, length, refl, ap, ◌∙◌}
use Rattle.rgb_base.specs.declared.parts.TermList.{TermList}
use Rattle.rgb_base.specs.Building.{parts_of}
use Rattle.ciff_format.specs.Refused.{Refused}
use Rattle.ciff_format.specs.declared.cause.Cause.TheVariants.{Trailing}
use Rattle.ciff_reader.specs.Awaited.{with_lists}
use Rattle.ciff_reader.specs.Listing.{listing}
use Rattle.ciff_reader.specs.Steps.{AtGood}
use Rattle.ciff_reader.specs.Window.{Opens}
use Rattle.ciff_reader.proofs.Frames.{explains_where}
use Rattle.ciff_reader.proofs.Whole.{begun_at, listed_at, still_open, accepts, trails}
use Rattle.ciff_reader.proofs.read.read_file.Goals as goal

pub returns-in-Err-read_lists-clause-error : goal.returns-in-Err-read_lists-clause-error
returns-in-Err-read_lists-clause-error g c =
    let seen = g.H.Host.seen in
    let name = c.args.name.now in
    let heading = c.in-Ok.heading in
    let builder = c.in-Ok-new.builder in
    explains_where (AtGood (seen c.take_heading.new.host) name c.take_heading.new.window (listing heading.lists builder)) (Opens (seen c.args.host.now) name c.args.window.now)
    Refused Refused c.in-Err-read_lists.error name (seen c.args.host.now) (seen c.take_heading.new.host) (seen c.read_lists.new.host) c.in-Ok.ensures.same
    (λ file opens. begun_at (seen c.args.host.now) (seen c.take_heading.new.host) name c.take_heading.new.window heading.header heading.lists heading.documents builder file c.in-Ok.ensures.same c.in-Ok-new.ensures.ok (c.in-Ok.ensures.ok file opens))
    (λ file place cause opens refused. refused) c.in-Err-read_lists.ensures.error

pub returns-in-Err-read_records-clause-error : goal.returns-in-Err-read_records-clause-error
returns-in-Err-read_records-clause-error g c =
    let seen = g.H.Host.seen in
    let name = c.args.name.now in
    let heading = c.in-Ok.heading in
    let builder = c.in-Ok-new.builder in
    let listed = c.read_lists.new.builder in
    explains_where (AtGood (seen c.read_lists.new.host) name c.read_lists.new.window (listing (length listed.lists) listed)) (Opens (seen c.args.host.now) name c.args.window.now)
    Refused Refused c.in-Err-read_records.error name (seen c.args.host.now) (seen c.read_lists.new.host) (seen c.read_records.new.host) (c.in-Ok-read_lists.ensures.same ∙ c.in-Ok.ensures.same)
    (λ file opens.
    listed_at (seen c.take_heading.new.host) (seen c.read_lists.new.host) name c.read_lists.new.window heading.lists listed file c.in-Ok-read_lists.ensures.same c.in-Ok-read_lists.ensures.lists
    (c.in-Ok-read_lists.ensures.ok file
    (begun_at (seen c.args.host.now) (seen c.take_heading.new.host) name c.take_heading.new.window heading.header heading.lists heading.documents builder file c.in-Ok.ensures.same c.in-Ok-new.ensures.ok (c.in-Ok.ensures.ok file opens))))
    (λ file place cause opens refused. refused) (c.in-Err-read_records.ensures.error listed.lists refl)

pub returns-in-Ok-expect_end-clause-ok : goal.returns-in-Ok-expect_end-clause-ok
returns-in-Ok-expect_end-clause-ok g c = λ file opens.
    let seen = g.H.Host.seen in
    let name = c.args.name.now in
    let heading = c.in-Ok.heading in
    let builder = c.in-Ok-new.builder in
    let listed = c.read_lists.new.builder in
    let built = c.read_records.new.builder in
    let ends = c.in-Ok-read_records.ensures.ok listed.lists file refl
    (listed_at (seen c.take_heading.new.host) (seen c.read_lists.new.host) name c.read_lists.new.window heading.lists listed file c.in-Ok-read_lists.ensures.same c.in-Ok-read_lists.ensures.lists
    (c.in-Ok-read_lists.ensures.ok file
    (begun_at (seen c.args.host.now) (seen c.take_heading.new.host) name c.take_heading.new.window heading.header heading.lists heading.documents builder file c.in-Ok.ensures.same c.in-Ok-new.ensures.ok (c.in-Ok.ensures.ok file opens)))) in
    let at_end = c.in-Ok-expect_end.ensures.ok file (still_open (seen c.read_lists.new.host) (seen c.read_records.new.host) name c.read_records.new.window file c.in-Ok-read_records.ensures.same ends.at.opens) in
    accepts (seen c.read_lists.new.host) name c.read_records.new.window (with_lists listed.lists built) c.finish.result file ends at_end
    (c.finish.ensures.same ∙ ap (λ (lists : List TermList). parts_of (with_lists lists built)) c.in-Ok-read_records.ensures.lists)

pub returns-in-Err-expect_end-clause-error : goal.returns-in-Err-expect_end-clause-error
returns-in-Err-expect_end-clause-error g c =
    let seen = g.H.Host.seen in
    let name = c.args.name.now in
    let heading = c.in-Ok.heading in
    let builder = c.in-Ok-new.builder in
    let listed = c.read_lists.new.builder in
    let window = c.read_records.new.window in
    let ends = λ (file : List ℕ) (opens : Opens (seen c.args.host.now) name c.args.window.now file).
    c.in-Ok-read_records.ensures.ok listed.lists file refl
    (listed_at (seen c.take_heading.new.host) (seen c.read_lists.new.host) name c.read_lists.new.window heading.lists listed file c.in-Ok-read_lists.ensures.same c.in-Ok-read_lists.ensures.lists
    (c.in-Ok-read_lists.ensures.ok file
    (begun_at (seen c.args.host.now) (seen c.take_heading.new.host) name c.take_heading.new.window heading.header heading.lists heading.documents builder file c.in-Ok.ensures.same c.in-Ok-new.ensures.ok (c.in-Ok.ensures.ok file opens)))) in
    explains_where (Opens (seen c.read_records.new.host) name window) (Opens (seen c.args.host.now) name c.args.window.now)
    (λ file place cause. (place ≡ window.place) × (place < length file) × (cause ≡ Trailing)) Refused c.in-Err-expect_end.error name (seen c.args.host.now) (seen c.read_records.new.host) (seen c.expect_end.new.host)
    (c.in-Ok-read_records.ensures.same ∙ c.in-Ok-read_lists.ensures.same ∙ c.in-Ok.ensures.same)
    (λ file opens. still_open (seen c.read_lists.new.host) (seen c.read_records.new.host) name window file c.in-Ok-read_records.ensures.same (ends file opens).at.opens)
    (λ file place cause opens more. trails (seen c.read_lists.new.host) name window (with_lists listed.lists c.read_records.new.builder) file place cause (ends file opens) more)
    c.in-Err-expect_end.ensures.error
