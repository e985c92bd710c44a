use Rattle.std.proofs.Common.{◌≡◌, ℕ, ℤ, ◌+◌, ◌-◌, ◌<◌, ◌≤◌, List, [], ◌∷◌, ◌++◌, length, refl, sym, ap, subst, ◌∙◌, arith}
use Rattle.std.specs.Int.{w32}
use Rattle.std.proofs.lemmas.Int.{to_z-of_z}
use Rattle.std.proofs.Common.{to_z, of_z}
use Rattle.std.proofs.lemmas.List.{length_push}
use Rattle.rgb_base.proofs.Cuts.{pushed_within}
use Rattle.std.proofs.lemmas.Result.{err_from_is_err_and}
use Rattle.rgb_base.specs.Parts.{text_size}
use Rattle.rgb_base.specs.Building.{Building, IsBuilding, IsFullOfText, with_record, parts_of}
use Rattle.rgb_base.specs.Kept.{IsFlatBuilding, building_in}
use Rattle.rgb_base.specs.Flat.{lists_of, records_of}
use Rattle.rgb_base.specs.declared.builder.IndexBuilder.TheInside as builder
use Rattle.rgb_base.proofs.Rows.{length-records_of, records_of-more}
use Rattle.rgb_base.proofs.Built.{IsBuilding-with_record, same_building}
use Rattle.rgb_base.proofs.builder.IndexBuilder.push_record.Goals as goal

-- how many records there are
count : (t : builder.Inside) → IsFlatBuilding t → length (records_of t.names t.sizes.items) ≡ length t.sizes.items
count t h = length-records_of t.names t.sizes.items h.records

pub returns-then-self-len-clause-fault : goal.returns-then-self-len-clause-fault
returns-then-self-len-clause-fault c =
    let h = c.self.invariant in
    let full : (building_in c.self.inside).documents ≤ length (building_in c.self.inside).records = omega (arith, c.if-self-len.true, c.len.ensures.same, h.records, count c.self.inside h) in
    subst (λ (v : Building). v.documents ≤ length v.records) c.self.view_is full

some : (t : builder.Inside) (building : Building) (len : ℕ) → IsFlatBuilding t → building_in t ≡ building → len ≡ length t.names → len < t.documents → length building.records < building.documents
some t building len h view same low =
    let room : length (building_in t).records < (building_in t).documents = omega (arith, low, same, h.records, count t h) in
    subst (λ (v : Building). length v.records < v.documents) view room

room : (t : builder.Inside) (building : Building) (name : List ℕ) (text : ℕ) → IsFlatBuilding t → building_in t ≡ building → text ≡ text_size (parts_of building) → length name ≤ 1099511627776 - text → ¬ IsFullOfText building name
room t building name text h view same low full =
    let little = (subst IsBuilding view h.building).little_text in
    omega (arith, full, little, same, low)

pub returns-then-text-name-clause-fault : goal.returns-then-text-name-clause-fault
returns-then-text-name-clause-fault c =
    let h = c.self.invariant in
    let room : length (building_in c.self.inside).records < (building_in c.self.inside).documents = omega (arith, c.if-self-len.false, c.len.ensures.same, h.records, count c.self.inside h) in
    (subst (λ (v : Building). length v.records < v.documents) c.self.view_is room, omega (arith, c.if-text-name.true, c.text.ensures.same))

pub returns-in_err-reserve-clause-fault : goal.returns-in_err-reserve-clause-fault
returns-in_err-reserve-clause-fault c =
    let p = err_from_is_err_and c.from_residual.result c.from_residual.ensures.1 in
    rw (p.1, p.2) (
      some c.self.inside c.args.self.now c.len.result c.self.invariant c.self.view_is c.len.ensures.same c.if-self-len.false,
      room c.self.inside c.args.self.now c.args.name.now c.text.result c.self.invariant c.self.view_is c.text.ensures.same c.if-text-name.false,
    )

pub returns-in_err-push-clause-fault : goal.returns-in_err-push-clause-fault
returns-in_err-push-clause-fault c =
    let p = err_from_is_err_and c.from_residual-in_err-push.result c.from_residual-in_err-push.ensures.1 in
    rw (p.1, p.2) (
      some c.self.inside c.args.self.now c.len.result c.self.invariant c.self.view_is c.len.ensures.same c.if-self-len.false,
      room c.self.inside c.args.self.now c.args.name.now c.text.result c.self.invariant c.self.view_is c.text.ensures.same c.if-text-name.false,
    )

-- the tables hold the building with the record
sized : (c : goal.After-push-2) → c.push-2.new.self.items ≡ c.self.inside.sizes.items ++ c.args.length ∷ []
sized c =
    pushed_within c.push-2.result _ _ _ (c.push-2.ensures.succeeds (omega (arith, c.in_ok-reserve.ensures.ok))) c.push-2.ensures.items
    ∙ ap (λ (ss : List ℤ). ss ++ to_z w32 (of_z w32 c.args.length) ∷ []) c.in_ok-reserve.ensures.items
    ∙ ap (λ (size : ℤ). c.self.inside.sizes.items ++ size ∷ []) (to_z-of_z w32 c.args.length c.ranges.length)

recorded : (c : goal.After-push-2) → records_of c.push.new.self c.push-2.new.self.items ≡ records_of c.self.inside.names c.self.inside.sizes.items ++ record { name = c.args.name.now; length = c.args.length } ∷ []
recorded c =
    let t = c.self.inside in
    ap (λ (ns : List (List ℕ)). records_of ns c.push-2.new.self.items) c.in_ok-push.ensures.ok
    ∙ ap (records_of (t.names ++ c.args.name.now ∷ [])) (sized c) ∙ records_of-more t.names t.sizes.items c.args.name.now c.args.length c.self.invariant.records

pub invariant_of-self-2 : goal.invariant_of-self-2
invariant_of-self-2 c =
    let t = c.self.inside in
    let h = c.self.invariant in
    let building = building_in t in
    let name = c.args.name.now in
    let some' = some t building c.len.result h refl c.len.ensures.same c.if-self-len.false in
    let space = room t building name c.text.result h refl (c.text.ensures.same ∙ ap (λ (v : Building). text_size (parts_of v)) (sym c.self.view_is)) c.if-text-name.false in
    let same = same_building t.header t.documents (lists_of t.terms t.counts.items t.postings.closed) _ t.postings.pending _ _ _ refl refl (recorded c) in
    let names : length c.push.new.self ≡ length t.names + 1 = ap length c.in_ok-push.ensures.ok ∙ length_push t.names name in
    let sizes : length c.push-2.new.self.items ≡ length t.sizes.items + 1 = ap length (sized c) ∙ length_push t.sizes.items c.args.length in
    record {
      building = subst IsBuilding (sym same) (IsBuilding-with_record building name c.args.length h.building some' space c.utf8.name c.ranges.length);
      lists = h.lists;
      records = names ∙ ap (λ (n : ℕ). n + 1) h.records ∙ sym sizes;
      least = h.least;
      marked = h.marked;
    }

pub returns-clause-ok : goal.returns-clause-ok
returns-clause-ok c =
    let t = c.self.inside in
    same_building t.header t.documents (lists_of t.terms t.counts.items t.postings.closed) _ t.postings.pending _ _ _ refl refl (recorded c) ∙ ap (λ (v : Building). with_record v c.args.name.now c.args.length) c.self.view_is
