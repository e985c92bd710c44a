use Rattle.std.proofs.Common.{◌≡◌, ℕ, ◌+◌, ◌<◌, ◌^◌, List, [], ◌∷◌, ◌++◌, length, sum_by, sym, ap, subst, ◌∙◌, arith, length-append}
use Rattle.std.proofs.lemmas.List.{drop_all}
use Rattle.rgb_base.specs.declared.parts.Posting.{Posting}
use Rattle.rgb_base.specs.Flat.{Parted, AreCuts, pieces, last_end}
use Rattle.rgb_base.proofs.Cuts.{table_length, last_end-whole, pieces_pushed, AreCuts-pushed, last_end-more, pushed_within}
use Rattle.rgb_base.proofs.columns.PostingTable.push_list.Goals as goal

-- what the table is after the list, and what its last end is
longer : (c : goal.After-len-stop) → length c.extend_from_slice.new.self.items ≡ length c.self.inside.table.items + length c.args.postings.now
longer c = ap length c.in_ok-extend_from_slice.ensures.items ∙ length-append c.self.inside.table.items c.args.postings.now

fits : (c : goal.After-len-stop) → length c.extend_from_slice.new.self.items < 2 ^ 32
fits c =
    let size = table_length c.self.inside.ends.items c.self.inside.table.items c.self.invariant.cuts in
    let held : length c.self.inside.table.items ≡ sum_by (λ (part : List Posting). length part) c.args.self.now.closed + length c.args.self.now.pending = subst (λ (v : Parted). length c.self.inside.table.items ≡ sum_by (λ (part : List Posting). length part) v.closed + length v.pending) c.self.view_is size in
    omega (arith, longer c, held, ap length c.requires.none_pending, c.requires.small)

pub overflow_cast-stop : goal.overflow_cast-stop
overflow_cast-stop c = omega (arith, fits c, c.len-stop.ensures, c.extend_from_slice.new.self.ok.0)

ended : (c : goal.After-push) → c.push.new.self.items ≡ c.self.inside.ends.items ++ length c.extend_from_slice.new.self.items ∷ []
ended c =
    let size : c.len-stop.result ≡ length c.extend_from_slice.new.self.items = omega (arith, c.len-stop.ensures, c.extend_from_slice.new.self.ok.0) in
    pushed_within c.push.result _ _ _ (c.push.ensures.succeeds (omega (arith, c.in_ok-reserve.ensures.ok))) c.push.ensures.items
    ∙ ap (λ (es : List ℕ). es ++ c.len-stop.result ∷ []) c.in_ok-reserve.ensures.items ∙ ap (λ (n : ℕ). c.self.inside.ends.items ++ n ∷ []) size

-- the same of the table that it became
whole : (c : goal.After-push) → last_end 0 c.self.inside.ends.items ≡ length c.self.inside.table.items
whole c = last_end-whole c.self.inside.ends.items c.self.inside.table.items c.self.invariant.cuts (ap (λ (v : Parted). v.pending) c.self.view_is ∙ c.requires.none_pending)

pub invariant_of-self-2 : goal.invariant_of-self-2
invariant_of-self-2 c =
    let now = c.extend_from_slice.new.self.items in
    let long : length now ≡ length c.self.inside.table.items + length c.args.postings.now = ap length c.in_ok-extend_from_slice.ensures.items ∙ length-append c.self.inside.table.items c.args.postings.now in
    record {
      cuts = subst (λ (es : List ℕ). AreCuts 0 es (length now)) (sym (ended c)) (AreCuts-pushed c.self.inside.ends.items (length c.self.inside.table.items) (length now) c.self.invariant.cuts (omega (arith, long)));
      small =
          let size = table_length c.self.inside.ends.items c.self.inside.table.items c.self.invariant.cuts in
          let held : length c.self.inside.table.items ≡ sum_by (λ (part : List Posting). length part) c.args.self.now.closed + length c.args.self.now.pending = subst (λ (v : Parted). length c.self.inside.table.items ≡ sum_by (λ (part : List Posting). length part) v.closed + length v.pending) c.self.view_is size in
          omega (arith, long, held, ap length c.requires.none_pending, c.requires.small);
    }

pub returns-clause-closed : goal.returns-clause-closed
returns-clause-closed c =
    let ends = c.self.inside.ends.items in
    let table = c.self.inside.table.items in
    let part = c.args.postings.now in
    ap (λ (es : List ℕ). pieces 0 es c.extend_from_slice.new.self.items) (ended c)
    ∙ ap (λ (xs : List Posting). pieces 0 (ends ++ length xs ∷ []) xs) c.in_ok-extend_from_slice.ensures.items
    ∙ pieces_pushed ends table part c.self.invariant.cuts (whole c) ∙ ap (λ (v : Parted). v.closed ++ part ∷ []) c.self.view_is

pub returns-clause-pending : goal.returns-clause-pending
returns-clause-pending c =
    let now = c.extend_from_slice.new.self.items in
    let last : last_end 0 c.push.new.self.items ≡ length now = ap (last_end 0) (ended c) ∙ last_end-more 0 c.self.inside.ends.items (length now) in
    drop_all (last_end 0 c.push.new.self.items) now (omega (arith, last))
