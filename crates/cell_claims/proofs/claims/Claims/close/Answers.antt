use Rattle.std.proofs.Common.{ℕ, ◌∙◌, subst}
use Rattle.std.specs.Mem.Slots.{slots_items, slots_len}
use Rattle.cell_claims.specs.Claims.{AreDone, given_by}
use Rattle.cell_claims.specs.Kept.{known_in}
use Rattle.cell_claims.proofs.Gathers.{ends_as, are_done, all_are_done}
use Rattle.cell_claims.proofs.claims.Claims.close.Goals as goal

pub empty-requires-clause-done : goal.empty-requires-clause-done
empty-requires-clause-done c =
    let closed = c.close_with-closed in
    let e = ends_as c.args.self (known_in c.self.inside) c.args.seats.items c.gather-all.result.me.0 c.gather-all.result.id (slots_len closed.result.slots) (slots_items closed.result.words) (slots_items closed.result.slots) c.self.view_is closed.ensures.values.2 c.gather-all.ensures.gathered c.requires.back.shares c.requires.over closed.result.slots.ok.0 (closed.ensures.counts.1 ∙ c.self.invariant.slots) in
    all_are_done _ _ _ e.1

pub returns-clause-once : goal.returns-clause-once
returns-clause-once c =
    let closed = c.close_with-closed in
    let e = ends_as c.args.self (known_in c.self.inside) c.args.seats.items c.gather-all.result.me.0 c.gather-all.result.id (slots_len closed.result.slots) (slots_items closed.result.words) (slots_items closed.result.slots) c.self.view_is closed.ensures.values.2 c.gather-all.ensures.gathered c.requires.back.shares c.requires.over closed.result.slots.ok.0 (closed.ensures.counts.1 ∙ c.self.invariant.slots) in
    e.0

pub returns-clause-dones : goal.returns-clause-dones
returns-clause-dones c =
    let closed = c.close_with-closed in
    let e = ends_as c.args.self (known_in c.self.inside) c.args.seats.items c.gather-all.result.me.0 c.gather-all.result.id (slots_len closed.result.slots) (slots_items closed.result.words) (slots_items closed.result.slots) c.self.view_is closed.ensures.values.2 c.gather-all.ensures.gathered c.requires.back.shares c.requires.over closed.result.slots.ok.0 (closed.ensures.counts.1 ∙ c.self.invariant.slots) in
    subst (λ (n : ℕ). AreDone n (given_by c.args.seats.items) c.empty.new.dones.items) e.2 (are_done _ _ _ _ e.1 c.empty.ensures.taken)
