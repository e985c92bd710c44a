use Rattle.std.proofs.Common.{◌≡◌, ◌+◌, ◌++◌, length, refl, sym, ap, subst, ◌∙◌, arith}
use Rattle.std.proofs.lemmas.Result.{err_from_is_err_and}
use Rattle.rgb_base.specs.Parts.{IsPostings}
use Rattle.rgb_base.specs.Building.{Building, IsBuilding, AreNextPostings, IsFullFor}
use Rattle.rgb_base.specs.Kept.{IsLeast, building_in}
use Rattle.rgb_base.specs.Flat.{lists_of, records_of}
use Rattle.rgb_base.proofs.Rows.{parts_count}
use Rattle.rgb_base.proofs.Built.{same_building}
use Rattle.rgb_base.proofs.Grown.{not_next, are_next, least_behind, IsBuilding-with_postings}
use Rattle.rgb_base.proofs.builder.IndexBuilder.push_postings.Goals as goal

pub returns-then-first-self-clause-fault : goal.returns-then-first-self-clause-fault
returns-then-first-self-clause-fault c =
    let building = building_in c.self.inside in
    let more = c.args.postings.now in
    let rising : IsPostings building.documents more = subst (λ (v : Building). IsPostings v.documents more) (sym c.self.view_is) c.requires.rising in
    subst (λ (v : Building). ¬ AreNextPostings v more) c.self.view_is (not_next building c.self.inside.least more c.self.invariant.least rising (omega arith) c.if-first-self.true)

pub returns-then-len-postings-clause-fault : goal.returns-then-len-postings-clause-fault
returns-then-len-postings-clause-fault c =
    let t = c.self.inside in
    let h = c.self.invariant in
    let building = building_in t in
    let more = c.args.postings.now in
    let rising : IsPostings building.documents more = subst (λ (v : Building). IsPostings v.documents more) (sym c.self.view_is) c.requires.rising in
    let next = are_next building t.least more h.building.open_list h.least rising (omega arith) c.if-first-self.false in
    let full : IsFullFor building (length more) = omega (arith, c.len.ensures.same, c.if-len-postings.true, parts_count t.terms t.counts.items t.postings.closed h.lists.terms_len h.lists.parts_len) in
    (subst (λ (v : Building). AreNextPostings v more) c.self.view_is next, subst (λ (v : Building). IsFullFor v (length more)) c.self.view_is full)

pub returns-in_err-extend-clause-fault : goal.returns-in_err-extend-clause-fault
returns-in_err-extend-clause-fault c =
    let t = c.self.inside in
    let h = c.self.invariant in
    let building = building_in t in
    let more = c.args.postings.now in
    let rising : IsPostings building.documents more = subst (λ (v : Building). IsPostings v.documents more) (sym c.self.view_is) c.requires.rising in
    let next = are_next building t.least more h.building.open_list h.least rising (omega arith) c.if-first-self.false in
    let room : ¬ IsFullFor building (length more) = λ full. omega (arith, full, c.len.ensures.same, c.if-len-postings.false, parts_count t.terms t.counts.items t.postings.closed h.lists.terms_len h.lists.parts_len) in
    let p = err_from_is_err_and c.from_residual.result c.from_residual.ensures.1 in
    rw (p.1, p.2) (subst (λ (v : Building). AreNextPostings v more) c.self.view_is next, subst (λ (v : Building). ¬ IsFullFor v (length more)) c.self.view_is room)

pub invariant_of-self-2 : goal.invariant_of-self-2
invariant_of-self-2 c =
    let t = c.self.inside in
    let h = c.self.invariant in
    let building = building_in t in
    let more = c.args.postings.now in
    let rising : IsPostings building.documents more = subst (λ (v : Building). IsPostings v.documents more) (sym c.self.view_is) c.requires.rising in
    let next = are_next building t.least more h.building.open_list h.least rising (omega arith) c.if-first-self.false in
    let room : ¬ IsFullFor building (length more) = λ full. omega (arith, full, c.len.ensures.same, c.if-len-postings.false, parts_count t.terms t.counts.items t.postings.closed h.lists.terms_len h.lists.parts_len) in
    let closed = c.in_ok-extend.ensures.closed in
    let pending = c.in_ok-extend.ensures.ok in
    let same = same_building t.header t.documents (lists_of t.terms t.counts.items t.postings.closed) _ (t.postings.pending ++ more) _ (records_of t.names t.sizes.items) _ (ap (lists_of t.terms t.counts.items) closed) pending refl in
    record {
      building = subst IsBuilding (sym same) (IsBuilding-with_postings building more h.building next room c.requires.fit);
      lists = record { terms_len = h.lists.terms_len; parts_len = ap length closed ∙ h.lists.parts_len };
      records = h.records;
      least = subst (IsLeast _) (sym pending) (least_behind building t.least more h.building.open_list h.least rising (omega arith) c.if-first-self.false);
      marked = h.marked;
    }
