use Rattle.std.proofs.Common.{◌+◌, [], ◌∷◌, ◌++◌, length, rules, refl, sym, ap, subst, ◌∙◌, arith}
use Rattle.std.specs.Prelude.{FitsSigned}
use Rattle.std.specs.Int.{w32}
use Rattle.std.proofs.lemmas.Result.{err_from_is_err_and}
use Rattle.rgb_base.specs.Building.{Building, IsBuilding, IsNextDocument, IsFullOfPostings}
use Rattle.rgb_base.specs.Kept.{IsLeast, building_in}
use Rattle.rgb_base.specs.Flat.{lists_of, records_of}
use Rattle.rgb_base.proofs.Rows.{parts_count}
use Rattle.rgb_base.proofs.Built.{IsBuilding-with_posting, IsLeast-push, next_from_least, not_next_below, same_building}
use Rattle.rgb_base.proofs.builder.IndexBuilder.push_posting.Goals as goal
use Rattle.rgb_base.proofs.builder.IndexBuilder.push_posting.Goals.{then-posting-self-via-then-posting-self, then-posting-self-via-else-posting-self+then-self-posting}

pub returns-then-posting-self-clause-fault : goal.returns-then-posting-self-clause-fault
returns-then-posting-self-clause-fault c =
    let building = building_in c.self.inside in
    let wrong : ¬ IsNextDocument building c.args.posting.doc = elim c.then-posting-self.branch [
      | then-posting-self-via-then-posting-self w ↦ not_next_below building c.self.inside.least c.args.posting.doc c.self.invariant.least w.if-posting-self.true
      | then-posting-self-via-else-posting-self+then-self-posting w ↦ λ next. omega (arith, next.below, w.if-self-posting.true)
    ] in
    subst (λ (v : Building). ¬ IsNextDocument v c.args.posting.doc) c.self.view_is wrong

pub returns-then-len-clause-fault : goal.returns-then-len-clause-fault
returns-then-len-clause-fault c =
    let t = c.self.inside in
    let h = c.self.invariant in
    let building = building_in t in
    let next = next_from_least building t.least c.args.posting.doc h.least c.if-posting-self.false c.if-self-posting.false in
    let full : IsFullOfPostings building = omega (arith, c.len.ensures.same, c.if-len.true, parts_count t.terms t.counts.items t.postings.closed h.lists.terms_len h.lists.parts_len) in
    (subst (λ (v : Building). IsNextDocument v c.args.posting.doc) c.self.view_is next, subst IsFullOfPostings c.self.view_is full)

pub returns-in_err-push-clause-fault : goal.returns-in_err-push-clause-fault
returns-in_err-push-clause-fault c =
    let t = c.self.inside in
    let h = c.self.invariant in
    let building = building_in t in
    let next = next_from_least building t.least c.args.posting.doc h.least c.if-posting-self.false c.if-self-posting.false in
    let few = h.building.few_postings in
    let room : ¬ IsFullOfPostings building = λ full. c.if-len.false (omega (arith, full, few, c.len.ensures.same, parts_count t.terms t.counts.items t.postings.closed h.lists.terms_len h.lists.parts_len)) in
    let p = err_from_is_err_and c.from_residual.result c.from_residual.ensures.1 in
    rw (p.1, p.2) (subst (λ (v : Building). IsNextDocument v c.args.posting.doc) c.self.view_is next, subst (λ (v : Building). ¬ IsFullOfPostings v) c.self.view_is room)

pub invariant_of-self-2 : goal.invariant_of-self-2
invariant_of-self-2 c =
    let t = c.self.inside in
    let h = c.self.invariant in
    let building = building_in t in
    let next = next_from_least building t.least c.args.posting.doc h.least c.if-posting-self.false c.if-self-posting.false in
    let few = h.building.few_postings in
    let room : ¬ IsFullOfPostings building = λ full. c.if-len.false (omega (arith, full, few, c.len.ensures.same, parts_count t.terms t.counts.items t.postings.closed h.lists.terms_len h.lists.parts_len)) in
    let fits : FitsSigned w32 c.args.posting.tf = search rules in
    let closed = c.in_ok-push.ensures.closed in
    let pending = c.in_ok-push.ensures.ok in
    let same = same_building t.header t.documents (lists_of t.terms t.counts.items t.postings.closed) _ (t.postings.pending ++ c.args.posting ∷ []) _ (records_of t.names t.sizes.items) _ (ap (lists_of t.terms t.counts.items) closed) pending refl in
    record {
      building = subst IsBuilding (sym same) (IsBuilding-with_posting building c.args.posting h.building next room fits);
      lists = record { terms_len = h.lists.terms_len; parts_len = ap length closed ∙ h.lists.parts_len };
      records = h.records;
      least = subst (IsLeast (c.args.posting.doc + 1)) (sym pending) (IsLeast-push t.least t.postings.pending c.args.posting h.least c.if-posting-self.false);
      marked = h.marked;
    }
