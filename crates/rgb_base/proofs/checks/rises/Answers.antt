use Rattle.std.proofs.Common.{arith, rules, refl}
use Rattle.std.specs.Prelude.{FitsSigned}
use Rattle.std.specs.Int.{w32}
use Rattle.std.proofs.lemmas.List.Elements.{All-more}
use Rattle.rgb_base.proofs.Lists.{All-whole}
use Rattle.rgb_base.proofs.Rising.{RisesTo-more, IsLeast-more, IsPostings-from_RisesTo, doc_read, no_posting}
use Rattle.rgb_base.proofs.checks.rises.Goals as goal

pub loop-posting-preserved : goal.loop-posting-preserved
loop-posting-preserved c =
    let read = doc_read c.args.postings.now c.loop-posting.posting-index in
    record {
      rises = RisesTo-more _ _ _ _ _ c.loop-posting.invariant.rises read c.if-doc-least.false c.if-documents-doc.false;
      least = IsLeast-more _ _ _ read;
      fits = All-more (λ posting. FitsSigned w32 posting.tf) _ _ no_posting c.loop-posting-test.true c.loop-posting.invariant.fits (search rules);
    }

pub returns-clause-ordered : goal.returns-clause-ordered
returns-clause-ordered c = (λ _. IsPostings-from_RisesTo _ _ _ _ c.loop-posting.invariant.rises (omega arith), λ _. refl)

pub returns-clause-fits : goal.returns-clause-fits
returns-clause-fits c = All-whole (λ posting. FitsSigned w32 posting.tf) _ _ (omega arith) c.loop-posting.invariant.fits
