use Rattle.std.proofs.Common.{rules, ◌+◌, ◌<◌, get_or, ap, arith, ltb}
use Rattle.std.proofs.lemmas.Bool.{ltb-true, ltb-false}
use Rattle.std.proofs.lemmas.List.{length-take-le, length-drop, get_or-take, get_or-drop}
use Rattle.std.proofs.lemmas.List.Sorted.{IsPartitionPoint-from_clause, IsPartitionedBy-ltb}
use Rattle.rgb_base.specs.declared.parts.Posting.{Posting}
use Rattle.forward_index.proofs.Passing.{docs_rise}
use Rattle.forward_index.proofs.bands.passed_at.Goals as goal

pub returns-else-limit-eq0 : goal.returns-else-limit-eq0
returns-else-limit-eq0 c =
    let postings = c.args.postings.now in
    let n = c.partition_point.result in
    let limit = c.args.limit in
    let bound = c.partition_point.ensures.bound in
    let parted = IsPartitionedBy-ltb (λ (p : Posting). p.doc) postings limit (docs_rise c.args.documents postings c.requires.rising) in
    let point = IsPartitionPoint-from_clause (λ (p : Posting). ltb p.doc limit) _ _ c.partition_point.ensures.partitioned parted (λ a r q k. search rules) in
    record {
      passed = record {
        within = omega (arith, bound);
        below = λ k d lt.
            let lt' : k < n = omega (arith, lt, length-take-le n postings (omega (arith, bound))) in
            let less = ltb-true (get_or postings k d).doc limit (point.0 k d (omega arith) lt') in
            let same = ap (λ (p : Posting). p.doc) (get_or-take n postings k d lt') in
            omega (arith, less, same);
        above = λ k d lt.
            let more = ltb-false (get_or postings (n + k) d).doc limit (point.1 (n + k) d (omega arith) (omega (arith, lt, length-drop n postings))) in
            let same = ap (λ (p : Posting). p.doc) (get_or-drop n postings k d) in
            omega (arith, more, same);
      };
    }
