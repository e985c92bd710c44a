use Rattle.std.proofs.Common.{◌≡◌, ◌-◌, ◌++◌, ℤ, get_or, ap, ◌∙◌, rules}
use mir.Val.{SFits}
use Rattle.std.specs.Int.{w32}
use Rattle.std.proofs.lemmas.Int.{to_z-of_z}
use Rattle.ciff_wire.specs.Canonical.{message_of}
use Rattle.ciff_format.specs.Canonical.{bytes_field, posting_fields}
use Rattle.ciff_writer.proofs.Postings.{no_posting, postings-next, postings-end, before-more}
use Rattle.ciff_writer.proofs.Sends.{start, both, next, held, roomy, cut_room, on_err}
use Rattle.ciff_writer.proofs.write.write_postings.Goals as goal

pub returns-in_err-make_room-clause-fault : goal.returns-in_err-make_room-clause-fault
returns-in_err-make_room-clause-fault g c = on_err _ _ (cut_room c.loop-posting.invariant.puts c.in_err-make_room.ensures.fault)

pub loop-posting-preserved : goal.loop-posting-preserved
loop-posting-preserved g c =
    let postings = c.args.postings.now in
    let i = c.loop-posting.posting-index in
    let before = c.loop-posting.before in
    let p = get_or postings i no_posting in
    let fits : SFits w32 p.tf = search rules in
    let put : c.put_posting.new.self ≡ c.make_room.new.self ++ message_of (bytes_field 4 (message_of (posting_fields (p.doc - before) p.tf))) =
    c.put_posting.ensures ∙ ap (λ (z : ℤ). c.make_room.new.self ++ message_of (bytes_field 4 (message_of (posting_fields (p.doc - before) z)))) (to_z-of_z w32 p.tf fits) in
    let room = roomy (both c.loop-posting.invariant.puts (start (postings-next postings i before c.loop-posting-test.true))) c.in_ok-make_room.ensures.ok in
    record {
      puts = next room (held put);
      there = c.make_room.ensures.there;
      before = before-more postings i;
    }

pub returns-clause-ok : goal.returns-clause-ok
returns-clause-ok g c = both c.loop-posting.invariant.puts (start (postings-end c.args.postings.now c.loop-posting.posting-index c.loop-posting.before c.loop-posting-test.false))
