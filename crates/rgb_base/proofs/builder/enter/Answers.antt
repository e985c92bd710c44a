use Rattle.std.proofs.Common.{◌≡◌, ◌==◌, ℕ, true, false, List, Contains, sym, ap, subst, ◌∙◌}
use Rattle.std.specs.List.{list_any}
use Rattle.std.proofs.lemmas.Bool.{false≢true}
use Rattle.std.proofs.lemmas.Result.{err_from_is_err_and}
use Rattle.rgb_base.specs.Marks.{mark_of}
use Rattle.rgb_base.proofs.Terms.{not_true}
use Rattle.rgb_base.proofs.Entered.{not_there, mark_entered}
use Rattle.rgb_base.proofs.builder.enter.Goals as goal
use Rattle.rgb_base.proofs.builder.enter.Goals.{else-not-branch-via-then-not-branch+else-has, else-not-branch-via-else-not-branch}

pub returns-in_err-insert-clause-fault : goal.returns-in_err-insert-clause-fault
returns-in_err-insert-clause-fault c =
    let keys = c.args.marks.now.keys in
    let none : list_any (λ key. mark_of c.args.text.now == key) keys ≡ false = ap (λ (mark : ℕ). list_any (λ key. mark == key) keys) (sym c.mark_of.ensures.same) ∙ c.in_err-insert.ensures.absent in
    let new = not_there keys c.args.texts.now c.args.text.now c.requires none in
    let p = err_from_is_err_and c.from_residual.result c.from_residual.ensures.1 in
    rw (p.1, p.2) new

pub returns-clause-new : goal.returns-clause-new
returns-clause-new c =
    let keys = c.args.marks.now.keys in
    elim c.else-not-branch.branch [
      | else-not-branch-via-then-not-branch+else-has w ↦ λ stands. false≢true (sym w.if-has.false ∙ w.has.ensures.same.1 stands)
      | else-not-branch-via-else-not-branch w ↦
          let added : c.in_ok-insert.field-0 ≡ true = w.if-not-branch.false in
          let none : list_any (λ key. mark_of c.args.text.now == key) keys ≡ false = ap (λ (mark : ℕ). list_any (λ key. mark == key) keys) (sym c.mark_of.ensures.same) ∙ not_true _ (sym added ∙ c.in_ok-insert.ensures.added) in
          not_there keys c.args.texts.now c.args.text.now c.requires none
    ]

pub returns-clause-entered : goal.returns-clause-entered
returns-clause-entered c =
    let keys = c.args.marks.now.keys in
    let mark = c.mark_of.result in
    let entered : Contains c.insert.new.self.keys mark = subst (λ (ks : List ℕ). Contains ks mark) (sym c.in_ok-insert.ensures.keys) (mark_entered keys mark) in
    subst (Contains c.insert.new.self.keys) c.mark_of.ensures.same entered
