use Rattle.std.proofs.Common.{◌≡◌, ℕ, length, refl, sym, subst, ◌∙◌, arith}
use Rattle.ciff_format.specs.Refused.{Refused}
use Rattle.ciff_format.specs.Accepted.{ExpectsRecord}
use Rattle.ciff_reader.specs.Awaited.{with_lists}
use Rattle.ciff_reader.specs.Listing.{listing}
use Rattle.ciff_reader.specs.Steps.{AtGood}
use Rattle.ciff_reader.proofs.Frames.{explains_where}
use Rattle.ciff_reader.proofs.Steps.{still_good}
use Rattle.ciff_reader.proofs.Readings.{Reads, reads_begin, reads_go_on, reads_expect, ends_whole, ends_good}
use Rattle.ciff_reader.proofs.documents.read_records.Goals as goal

pub loop-record-init : goal.loop-record-init
loop-record-init g c = record {
  reads = λ lists same.
      reads_begin (g.H.Host.seen c.args.host.now) c.args.name.now c.args.window.now lists c.args.builder.now c.new-waiting.result c.text-text.result c.requires.none_open c.requires.no_record c.new-waiting.ensures.none c.text-text.ensures.same
      same;
  lists = refl;
  little = omega (arith, c.text-text.ensures.same, c.is_sound.ensures.sound.little_text);
  documents = sym c.documents-count.ensures.same;
  same = refl;
}

pub returns-in-Err-clause-error : goal.returns-in-Err-clause-error
returns-in-Err-clause-error g c = λ lists terms.
    let seen = g.H.Host.seen in
    let name = c.args.name.now in
    let l = c.loop-record in
    let reads = l.invariant.reads lists terms in
    let front = reads.front in
    let expects : ExpectsRecord front = reads_expect (seen c.args.host.now) name lists _ l.window l.builder l.waiting l.text l.record c.documents-count.result reads l.invariant.documents c.loop-record-test.true in
    explains_where (AtGood (seen l.host) name l.window front) (AtGood (seen c.args.host.now) name c.args.window.now (listing (length lists) (with_lists lists c.args.builder.now)))
    Refused Refused c.in-Err.error name (seen c.args.host.now) (seen l.host) (seen c.take_record.new.host) l.invariant.same
    (λ file at. still_good (seen c.args.host.now) (seen l.host) name l.window front file l.invariant.same (reads.at file at))
    (λ file place cause at refused. refused) (c.in-Err.ensures.error front expects reads.read)

pub loop-record-preserved : goal.loop-record-preserved
loop-record-preserved g c =
    let seen = g.H.Host.seen in
    let name = c.args.name.now in
    let l = c.loop-record in
    record {
      reads = λ lists terms.
          let reads = l.invariant.reads lists terms in
          let expects : ExpectsRecord reads.front = reads_expect (seen c.args.host.now) name lists _ l.window l.builder l.waiting l.text l.record c.documents-count.result reads l.invariant.documents c.loop-record-test.true in
          reads_go_on (seen c.args.host.now) (seen l.host) name lists _ l.window c.take_record.new.window l.builder c.take_record.new.builder l.waiting c.take_record.new.waiting l.text c.take_record.new.text l.record
          l.invariant.same reads (c.in-Ok.ensures.ok reads.front expects reads.read);
      lists = c.in-Ok.ensures.lists ∙ l.invariant.lists;
      little = c.in-Ok.ensures.little;
      documents = c.in-Ok.ensures.documents ∙ l.invariant.documents;
      same = c.in-Ok.ensures.same ∙ l.invariant.same;
    }

pub returns-clause-whole : goal.returns-clause-whole
returns-clause-whole g c =
    let seen = g.H.Host.seen in
    let name = c.args.name.now in
    let l = c.loop-record in
    let lists = c.args.builder.now.lists in
    let all : l.record ≡ l.builder.documents = omega (arith, l.invariant.documents, c.loop-record-test.false, l.auto.record-end) in
    let reads = subst (λ (n : ℕ). Reads (seen c.args.host.now) name lists (AtGood (seen c.args.host.now) name c.args.window.now (listing (length lists) (with_lists lists c.args.builder.now))) l.window l.builder l.waiting l.text n) all (l.invariant.reads lists refl) in
    ends_whole (seen c.args.host.now) name lists _ l.window l.builder l.waiting l.text reads c.is_sound-2.ensures.sound

pub returns-clause-ok : goal.returns-clause-ok
returns-clause-ok g c = λ lists file terms.
    let seen = g.H.Host.seen in
    let name = c.args.name.now in
    let l = c.loop-record in
    let all : l.record ≡ l.builder.documents = omega (arith, l.invariant.documents, c.loop-record-test.false, l.auto.record-end) in
    let reads = subst (λ (n : ℕ). Reads (seen c.args.host.now) name lists (AtGood (seen c.args.host.now) name c.args.window.now (listing (length lists) (with_lists lists c.args.builder.now))) l.window l.builder l.waiting l.text n) all (l.invariant.reads lists terms) in
    ends_good (seen c.args.host.now) name lists _ l.window l.builder l.waiting l.text reads c.is_sound-2.ensures.sound file
