use Rattle.std.proofs.Common.{◌<◌, length, ◌∙◌, sym, ap, arith}
use Rattle.rgb_base.specs.Building.{Building}
use Rattle.ciff_format.specs.Refused.{Refused}
use Rattle.ciff_reader.specs.Listing.{listing}
use Rattle.ciff_reader.specs.Steps.{AtGood}
use Rattle.ciff_reader.proofs.Frames.{explains_where}
use Rattle.ciff_reader.proofs.Steps.{lists_go_on, still_good}
use Rattle.ciff_reader.proofs.lists.read_lists.Goals as goal

pub returns-in-Err-clause-error : goal.returns-in-Err-clause-error
returns-in-Err-clause-error g c =
    let seen = g.H.Host.seen in
    let name = c.args.name.now in
    let count = c.args.count in
    let l = c.loop-list in
    let expected : length l.builder.lists < count = omega (arith, l.invariant.lists) in
    explains_where (AtGood (seen l.host) name l.window (listing count l.builder)) (AtGood (seen c.args.host.now) name c.args.window.now (listing count c.args.builder.now))
    Refused Refused c.in-Err.error name (seen c.args.host.now) (seen l.host) (seen c.take_list.new.host) l.invariant.same
    (λ file at. still_good (seen c.args.host.now) (seen l.host) name l.window (listing count l.builder) file l.invariant.same (l.invariant.at file at))
    (λ file place cause at refused. refused) (c.in-Err.ensures.error count expected)

pub loop-list-preserved : goal.loop-list-preserved
loop-list-preserved g c =
    let seen = g.H.Host.seen in
    let name = c.args.name.now in
    let count = c.args.count in
    let l = c.loop-list in
    let more = c.in-Ok.ensures.more in
    let expected : length l.builder.lists < count = omega (arith, l.invariant.lists) in
    record {
      lists = lists_go_on c.args.builder.now l.builder c.take_list.new.builder l.list l.invariant.lists more;
      none_pending = ap (λ (b : Building). b.postings) c.in-Ok.ensures.pending ∙ l.invariant.none_pending;
      pending = ap (λ (b : Building). b.documents) c.in-Ok.ensures.pending ∙ l.invariant.pending;
      none_open = ap (λ (b : Building). b.postings) more.is;
      no_record = ap (λ (b : Building). b.records) more.is ∙ l.invariant.no_record;
      documents = ap (λ (b : Building). b.documents) more.is ∙ l.invariant.documents;
      at = λ file at.
          still_good (seen l.host) (seen c.args.host.now) name c.take_list.new.window (listing count c.take_list.new.builder) file (sym l.invariant.same)
          (c.in-Ok.ensures.ok count file expected (still_good (seen c.args.host.now) (seen l.host) name l.window (listing count l.builder) file l.invariant.same (l.invariant.at file at)));
      same = c.in-Ok.ensures.same ∙ l.invariant.same;
    }

pub take_list-requires-clause-documents : goal.take_list-requires-clause-documents
take_list-requires-clause-documents g c = c.loop-list.invariant.pending ∙ sym c.loop-list.invariant.documents
