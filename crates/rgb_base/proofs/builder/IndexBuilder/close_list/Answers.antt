use Rattle.std.proofs.Common.{◌≡◌, ℕ, ℤ, ◌+◌, ◌-◌, ◌^◌, ◌<◌, ◌≤◌, List, [], ◌∷◌, ◌++◌, length, All, Contains, refl, sym, ap, subst, ◌∙◌, arith}
use Rattle.std.specs.Int.{w64}
use Rattle.std.proofs.lemmas.Int.{to_z-of_z}
use Rattle.std.proofs.Common.{to_z, of_z}
use Rattle.std.proofs.lemmas.List.{length_push}
use Rattle.std.proofs.lemmas.Result.{err_from_is_err_and}
use Rattle.std.proofs.lemmas.List.Elements.{All-push, All-weaker}
use Rattle.rgb_base.specs.declared.columns.Counts.{Counts}
use Rattle.rgb_base.specs.Parts.{text_size, terms_of}
use Rattle.rgb_base.specs.Building.{Building, IsBuilding, HasTerm, IsFullOfText, with_list, parts_of}
use Rattle.rgb_base.specs.Kept.{IsFlatBuilding, IsLeast, building_in}
use Rattle.rgb_base.specs.Flat.{records_of}
use Rattle.rgb_base.specs.Marks.{mark_of}
use Rattle.rgb_base.specs.declared.builder.IndexBuilder.TheInside as builder
use Rattle.rgb_base.proofs.Rows.{length-lists_of, lists_of-more, terms_in}
use Rattle.rgb_base.proofs.Built.{IsBuilding-with_list, IsLeast-none, same_lists_of, same_building}
use Rattle.rgb_base.proofs.Entered.{enter_fault}
use Rattle.rgb_base.proofs.builder.IndexBuilder.close_list.Goals as goal

pub returns-then-len-ge-COUNT_LIMIT-clause-fault : goal.returns-then-len-ge-COUNT_LIMIT-clause-fault
returns-then-len-ge-COUNT_LIMIT-clause-fault c =
    let t = c.self.inside in
    let h = c.self.invariant in
    omega (arith, c.if-len-ge-COUNT_LIMIT.true, c.len.ensures.same, h.lists.terms_len, length-lists_of t.terms t.counts.items t.postings.closed h.lists.terms_len h.lists.parts_len, ap (λ (v : Building). length v.lists) c.self.view_is)

few : (t : builder.Inside) (building : Building) (len : ℕ) → IsFlatBuilding t → building_in t ≡ building → len ≡ length t.terms → len + 1 < 2147483648 → length building.lists + 1 < 2 ^ 31
few t building len h view same low = omega (arith, low, same, h.lists.terms_len, length-lists_of t.terms t.counts.items t.postings.closed h.lists.terms_len h.lists.parts_len, ap (λ (v : Building). length v.lists) view)

room : (t : builder.Inside) (building : Building) (term : List ℕ) (text : ℕ) → IsFlatBuilding t → building_in t ≡ building → text ≡ text_size (parts_of building) → length term ≤ 1099511627776 - text → ¬ IsFullOfText building term
room t building term text h view same low full =
    let little = (subst IsBuilding view h.building).little_text in
    omega (arith, full, little, same, low)

terms_here : (t : builder.Inside) (building : Building) → IsFlatBuilding t → building_in t ≡ building → t.terms ≡ terms_of building.lists
terms_here t building h view = sym (terms_in t.terms t.counts.items t.postings.closed h.lists.terms_len h.lists.parts_len) ∙ ap (λ (v : Building). terms_of v.lists) view

pub full_fault-requires-clause-counts : goal.full_fault-requires-clause-counts
full_fault-requires-clause-counts c = few c.self.inside c.args.self.now c.len.result c.self.invariant c.self.view_is c.len.ensures.same c.if-len-ge-COUNT_LIMIT.false

pub returns-in_err-enter-clause-fault : goal.returns-in_err-enter-clause-fault
returns-in_err-enter-clause-fault c =
    let t = c.self.inside in
    let term = c.args.term.now in
    let low = few t c.args.self.now c.len.result c.self.invariant c.self.view_is c.len.ensures.same c.if-len-ge-COUNT_LIMIT.false in
    let space = room t c.args.self.now term c.text.result c.self.invariant c.self.view_is c.text.ensures.same c.if-text-term.false in
    let same = terms_here t c.args.self.now c.self.invariant c.self.view_is in
    let p = err_from_is_err_and c.from_residual.result c.from_residual.ensures.1 in
    rw (p.1, p.2) (enter_fault c.args.self.now t.terms term _ low space (subst (λ (ts : List (List ℕ)). Contains ts term) (sym same)) (subst (λ (ts : List (List ℕ)). Contains ts term) same) c.in_err-enter.ensures.fault)

pub returns-in_err-append-clause-fault : goal.returns-in_err-append-clause-fault
returns-in_err-append-clause-fault c =
    let t = c.self.inside in
    let term = c.args.term.now in
    let low = few t c.args.self.now c.len.result c.self.invariant c.self.view_is c.len.ensures.same c.if-len-ge-COUNT_LIMIT.false in
    let space = room t c.args.self.now term c.text.result c.self.invariant c.self.view_is c.text.ensures.same c.if-text-term.false in
    let same = terms_here t c.args.self.now c.self.invariant c.self.view_is in
    let new : ¬ HasTerm c.args.self.now term = λ stands. c.in_ok-enter.ensures.new (subst (λ (ts : List (List ℕ)). Contains ts term) (sym same) stands) in
    let p = err_from_is_err_and c.from_residual-in_err-append.result c.from_residual-in_err-append.ensures.1 in
    rw (p.1, p.2) (low, new, space)

pub invariant_of-self-in_err-append : goal.invariant_of-self-in_err-append
invariant_of-self-in_err-append c =
    let t = c.self.inside in
    let h = c.self.invariant in
    let e = c.in_err-append.ensures.same in
    let same = same_building t.header t.documents _ _ t.postings.pending c.append.new.postings.pending (records_of t.names t.sizes.items) _
    (same_lists_of t.terms c.append.new.terms t.counts.items c.append.new.counts.items t.postings.closed c.append.new.postings.closed e.same_terms e.same_counts e.same_closed) e.same_pending refl in
    record {
      building = subst IsBuilding (sym same) h.building;
      lists = record { terms_len = ap length e.same_terms ∙ h.lists.terms_len ∙ sym (ap length e.same_counts); parts_len = ap length e.same_closed ∙ h.lists.parts_len ∙ sym (ap length e.same_counts) };
      records = h.records;
      least = subst (IsLeast t.least) (sym e.same_pending) h.least;
      marked = subst (All (λ (term : List ℕ). Contains c.enter.new.marks.keys (mark_of term))) (sym e.same_terms) (All-weaker (λ (term : List ℕ). Contains t.marks.keys (mark_of term)) (λ (term : List ℕ). Contains c.enter.new.marks.keys (mark_of term)) (λ term at. c.in_ok-enter.ensures.kept (mark_of term) at) t.terms h.marked);
    }

-- the tables hold the building with the list
listed : (c : goal.After-self-1) → building_in (record { header = c.self.inside.header; documents = c.self.inside.documents; terms = c.append.new.terms; marks = c.enter.new.marks; counts = c.append.new.counts; postings = c.append.new.postings; least = 0; names = c.self.inside.names; sizes = c.self.inside.sizes })
    ≡ with_list (building_in c.self.inside) c.args.term.now c.args.df c.args.cf
listed c =
    let t = c.self.inside in
    let h = c.self.invariant in
    let e = c.in_ok-append.ensures.ok in
    let count : Counts = record { df = c.args.df; cf = c.args.cf } in
    let one_count : c.append.new.counts.items ≡ t.counts.items ++ count ∷ [] = e.one_count
    ∙ ap (λ (df : ℤ). let n : Counts = record { df = df; cf = to_z w64 (of_z w64 c.args.cf) } in t.counts.items ++ n ∷ []) (to_z-of_z w64 c.args.df c.ranges.df)
    ∙ ap (λ (cf : ℤ). let n : Counts = record { df = c.args.df; cf = cf } in t.counts.items ++ n ∷ []) (to_z-of_z w64 c.args.cf c.ranges.cf) in
    let lists = same_lists_of (t.terms ++ c.args.term.now ∷ []) c.append.new.terms (t.counts.items ++ count ∷ []) c.append.new.counts.items (t.postings.closed ++ t.postings.pending ∷ []) c.append.new.postings.closed e.one_term one_count e.one_part
    ∙ lists_of-more t.terms t.counts.items t.postings.closed c.args.term.now count t.postings.pending h.lists.terms_len h.lists.parts_len in
    same_building t.header t.documents _ _ [] c.append.new.postings.pending (records_of t.names t.sizes.items) _ lists e.none_pending refl

pub invariant_of-self-2 : goal.invariant_of-self-2
invariant_of-self-2 c =
    let t = c.self.inside in
    let h = c.self.invariant in
    let e = c.in_ok-append.ensures.ok in
    let term = c.args.term.now in
    let building = building_in t in
    let low = few t building c.len.result h refl c.len.ensures.same c.if-len-ge-COUNT_LIMIT.false in
    let space = room t building term c.text.result h refl (c.text.ensures.same ∙ ap (λ (v : Building). text_size (parts_of v)) (sym c.self.view_is)) c.if-text-term.false in
    let same = terms_here t building h refl in
    let new : ¬ HasTerm building term = λ stands. c.in_ok-enter.ensures.new (subst (λ (ts : List (List ℕ)). Contains ts term) (sym same) stands) in
    let terms_len : length c.append.new.terms ≡ length t.terms + 1 = ap length e.one_term ∙ length_push t.terms term in
    let counts_len = ap length e.one_count ∙ length_push t.counts.items _ in
    let parts_len : length c.append.new.postings.closed ≡ length t.postings.closed + 1 = ap length e.one_part ∙ length_push t.postings.closed t.postings.pending in
    record {
      building = subst IsBuilding (sym (listed c)) (IsBuilding-with_list building term c.args.df c.args.cf h.building low new space c.utf8.term c.ranges.df c.ranges.cf);
      lists = record { terms_len = terms_len ∙ ap (λ (n : ℕ). n + 1) h.lists.terms_len ∙ sym counts_len; parts_len = parts_len ∙ ap (λ (n : ℕ). n + 1) h.lists.parts_len ∙ sym counts_len };
      records = h.records;
      least = subst (IsLeast 0) (sym e.none_pending) IsLeast-none;
      marked =
          let marked : List ℕ → Type 0 = λ text. Contains c.enter.new.marks.keys (mark_of text) in
          let before : All marked t.terms = All-weaker (λ (text : List ℕ). Contains t.marks.keys (mark_of text)) marked (λ text at. c.in_ok-enter.ensures.kept (mark_of text) at) t.terms h.marked in
          subst (All marked) (sym e.one_term) (All-push marked t.terms term before c.in_ok-enter.ensures.entered);
    }

pub returns-clause-ok : goal.returns-clause-ok
returns-clause-ok c = listed c ∙ ap (λ (v : Building). with_list v c.args.term.now c.args.df c.args.cf) c.self.view_is
