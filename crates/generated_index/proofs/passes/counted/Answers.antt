use Rattle.std.proofs.Common.{◌≡◌, ℕ, ◌<◌, ◌≤◌, List, length, replicate, refl, sym, ap, subst, ◌∙◌, arith}
use Rattle.std.proofs.lemmas.List.{get_or-replicate, length-replicate}
use Rattle.generated_index.specs.declared.cursor.Cursor.{Cursor}
use Rattle.generated_index.specs.Steps.{AreCursors, no_cursor, cursor_at}
use Rattle.generated_index.proofs.Counting.{fresh_cursors}
use Rattle.generated_index.proofs.passes.counted.Goals as goal

pub loop-document-init : goal.loop-document-init
loop-document-init c =
    let none : Cursor = c.at.result in
    let items : c.in_ok-cursors.cursors.items ≡ replicate 2000 none = c.in_ok-cursors.ensures.items_if_clones_equal (λ y clone. clone) in
    record {
      made = c.of-draws.ensures.none;
      same = c.of-draws.ensures.number;
      counted = fresh_cursors c.args.number (λ _. 0) c.in_ok-cursors.cursors.items (ap (λ (cs : List Cursor). length cs) items ∙ length-replicate 2000 none)
          (λ k lt. ap (λ (cs : List Cursor). cursor_at cs k) items ∙ get_or-replicate 2000 k none no_cursor lt ∙ c.at.ensures.same);
    }

pub returns : goal.returns
returns c =
    let all : c.loop-document.document ≡ c.args.documents = omega (arith, c.loop-document-test.false, c.loop-document.auto.document-end) in
    record { counted = subst (λ (d : ℕ). AreCursors c.args.number d 0 (λ _. 0) c.loop-document.cursors.items) all c.loop-document.invariant.counted }
