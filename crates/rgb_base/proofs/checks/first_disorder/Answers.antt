use Rattle.std.proofs.Common.{arith}
use Rattle.rgb_base.specs.Parts.{IsPostings, FitsList}
use Rattle.rgb_base.proofs.Lists.{All-whole, All-more_read}
use Rattle.rgb_base.proofs.checks.first_disorder.Goals as goal

pub loop-place-preserved : goal.loop-place-preserved
loop-place-preserved c = record {
  ordered = All-more_read (λ list. IsPostings c.args.documents list.postings) _ _ c.index-lists-place.result c.loop-place-test.true c.index-lists-place.is c.loop-place.invariant.ordered (c.is_ordered.ensures.ordered.0 c.if-not-is_ordered.false);
  fits = All-more_read FitsList _ _ c.index-lists-place.result c.loop-place-test.true c.index-lists-place.is c.loop-place.invariant.fits c.if-not-is_ordered.ensures.fits;
}

pub returns-clause-first : goal.returns-clause-first
returns-clause-first c = All-whole (λ list. IsPostings c.args.documents list.postings) _ _ (omega arith) c.loop-place.invariant.ordered

pub returns-clause-fits : goal.returns-clause-fits
returns-clause-fits c = All-whole FitsList _ _ (omega arith) c.loop-place.invariant.fits
