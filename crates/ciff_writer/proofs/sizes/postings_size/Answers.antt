use Rattle.std.proofs.Common.{◌≡◌, ◌-◌, ℤ, length, get_or, ap, ◌∙◌, arith, rules}
use mir.Val.{SFits}
use Rattle.std.specs.Int.{w32}
use Rattle.std.proofs.lemmas.Int.{to_z-of_z}
use Rattle.ciff_wire.specs.Canonical.{message_of}
use Rattle.ciff_format.specs.Canonical.{posting_fields}
use Rattle.ciff_writer.proofs.Postings.{no_posting, before-below, before-more, length-next, postings-end}
use Rattle.ciff_writer.proofs.sizes.postings_size.Goals as goal

pub overflow_sub-doc : goal.overflow_sub-doc
overflow_sub-doc c = before-below c.args.postings.now c.loop-posting.posting-index c.loop-posting.before c.requires.rising c.loop-posting.invariant.before c.loop-posting-test.true

pub loop-posting-preserved : goal.loop-posting-preserved
loop-posting-preserved c =
    let p = get_or c.args.postings.now c.loop-posting.posting-index no_posting in
    let fits : SFits w32 p.tf = search rules in
    let size : c.posting_size.result ≡ length (message_of (posting_fields (p.doc - c.loop-posting.before) p.tf)) =
    c.posting_size.ensures.same ∙ ap (λ (z : ℤ). length (message_of (posting_fields (p.doc - c.loop-posting.before) z))) (to_z-of_z w32 p.tf fits) in
    let next = length-next c.args.postings.now c.loop-posting.posting-index c.loop-posting.before c.loop-posting-test.true c.posting_size.result size c.posting_size.ensures.most in
    record {
      same = omega (arith, next, c.loop-posting.invariant.same);
      most = omega (arith, c.posting_size.ensures.most, c.loop-posting.invariant.most);
      before = before-more c.args.postings.now c.loop-posting.posting-index;
    }

pub returns-clause-same : goal.returns-clause-same
returns-clause-same c =
    omega (arith, ap length (postings-end c.args.postings.now c.loop-posting.posting-index c.loop-posting.before c.loop-posting-test.false), c.loop-posting.invariant.same)
