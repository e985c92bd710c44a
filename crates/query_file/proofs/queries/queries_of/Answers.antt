use Rattle.std.proofs.Common.{ℕ, List, Option, Some, None, option_copied, Bor, sym, ap, subst, arith}
use Rattle.query_file.specs.Queries.{Numbered}
use Rattle.query_file.specs.Steps.{Taken, IsFirstLine}
use Rattle.query_file.specs.View.{all_seen}
use Rattle.query_file.proofs.Takings.{none_taken, one_taken, all_taken, refused}
use Rattle.query_file.proofs.queries.queries_of.Goals as goal

pub lines-init : goal.lines-init
lines-init c = record {
  taken = subst (λ (qs : List Numbered). Taken c.args.bytes.now 0 qs c.args.bytes.now) (sym (ap all_seen c.new-queries.ensures.items)) (none_taken c.args.bytes.now);
  few = omega arith;
}

pub returns-in-Err-clause-error : goal.returns-in-Err-clause-error
returns-in-Err-clause-error c =
    refused c.args.bytes.now c.lines.left.now c.first_line.result.0.now (option_copied c.first_line.result.1) c.lines.count (all_seen c.lines.queries.items) c.in-Err.error c.requires.few c.lines.invariant.taken c.first_line.ensures.line c.in-Err.ensures.error

pub lines-preserved : goal.lines-preserved
lines-preserved c =
    let line = c.first_line.result.0.now in
    let first : IsFirstLine c.lines.left.now line (Some c.in-Some.rest.now) = subst (λ (r : Option (Bor (List ℕ))). IsFirstLine c.lines.left.now line (option_copied r)) c.in-Some.is c.first_line.ensures.line in
    record {
      taken = one_taken c.args.bytes.now c.lines.left.now line c.in-Some.rest.now c.lines.count (all_seen c.lines.queries.items) (all_seen c.take_line.new.queries.items) c.lines.invariant.taken first c.in-Ok.ensures.ok;
      few = omega (arith, c.lines.invariant.few, rw c.in-Some.is at c.first_line.ensures.less);
    }

pub returns-in-None-clause-ok : goal.returns-in-None-clause-ok
returns-in-None-clause-ok c =
    let line = c.first_line.result.0.now in
    let last : IsFirstLine c.lines.left.now line None = subst (λ (r : Option (Bor (List ℕ))). IsFirstLine c.lines.left.now line (option_copied r)) c.in-None.is c.first_line.ensures.line in
    all_taken c.args.bytes.now c.lines.left.now line c.lines.count (all_seen c.lines.queries.items) (all_seen c.take_line.new.queries.items) c.requires.few c.lines.invariant.taken last c.in-Ok.ensures.ok
