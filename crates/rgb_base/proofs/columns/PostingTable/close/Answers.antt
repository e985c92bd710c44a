use Rattle.std.proofs.Common.{◌≡◌, ℕ, List, [], ◌∷◌, ◌++◌, length, sym, ap, subst, ◌∙◌, arith}
use Rattle.std.proofs.lemmas.List.{drop_all}
use Rattle.rgb_base.specs.Flat.{Parted, AreCuts, pieces, last_end}
use Rattle.rgb_base.proofs.Cuts.{pieces_closed, AreCuts-more, last_end-more, pushed_within}
use Rattle.rgb_base.proofs.columns.PostingTable.close.Goals as goal

ended : (c : goal.After-push) → c.push.new.self.items ≡ c.self.inside.ends.items ++ length c.self.inside.table.items ∷ []
ended c =
    let size : length c.self.inside.table.items ≡ c.len-end.result = omega (arith, c.len-end.ensures, c.self.inside.table.ok.0) in
    let room = ap (λ (v : Parted). v.room) c.self.view_is in
    pushed_within c.push.result _ _ _ (c.push.ensures.succeeds (omega (arith, room, c.requires))) c.push.ensures.items ∙ ap (λ (n : ℕ). c.self.inside.ends.items ++ n ∷ []) (sym size)

pub invariant_of-self : goal.invariant_of-self
invariant_of-self c =
    let table = c.self.inside.table.items in
    record {
      cuts = subst (λ (es : List ℕ). AreCuts 0 es (length table)) (sym (ended c)) (AreCuts-more 0 c.self.inside.ends.items (length table) c.self.invariant.cuts);
      small = c.self.invariant.small;
    }

pub returns-clause-closed : goal.returns-clause-closed
returns-clause-closed c =
    let table = c.self.inside.table.items in
    ap (λ (es : List ℕ). pieces 0 es table) (ended c) ∙ pieces_closed 0 c.self.inside.ends.items table ∙ ap (λ (v : Parted). v.closed ++ v.pending ∷ []) c.self.view_is

pub returns-clause-pending : goal.returns-clause-pending
returns-clause-pending c =
    let table = c.self.inside.table.items in
    let last : last_end 0 c.push.new.self.items ≡ length table = ap (last_end 0) (ended c) ∙ last_end-more 0 c.self.inside.ends.items (length table) in
    drop_all (last_end 0 c.push.new.self.items) table (omega (arith, last))
