use Rattle.std.proofs.Common.{◌≡◌, ℕ, ◌+◌, ◌<◌, ◌≤◌, List, [], ◌∷◌, ◌++◌, length, refl, sym, ap, subst, ◌∙◌, arith}
use Rattle.generated_index.specs.Generated.{postings_of, all_terms, terms_drawn}
use Rattle.generated_index.specs.Steps.{AreCursors, cursor_at, begins, ends_of, drawn_below}
use Rattle.generated_index.proofs.Steps.{begins_more, begins_none, postings_le}
use Rattle.generated_index.proofs.Counting.{all_terms_are, counted_end, begins_small}
use Rattle.generated_index.proofs.Lists.{drawn_none, drawn_all, drawn_miss, ends_hit}
use Rattle.generated_index.proofs.index.ends_of.Goals as goal
use Rattle.generated_index.proofs.index.ends_of.Goals.{then-cursor-gt0+in_ok-push, else-cursor-gt0}

pub loop-cursor-init : goal.loop-cursor-init
loop-cursor-init c = record {
  end = sym (begins_none c.args.number c.args.documents);
  ends = c.new-ends.ensures.items ∙ sym (ap (ends_of c.args.number c.args.documents) (drawn_none c.args.number c.args.documents));
}

pub overflow_add-end : goal.overflow_add-end
overflow_add-end c =
    let k = c.loop-cursor.cursor-index in
    let within : k < all_terms = omega (arith, c.loop-cursor-test.true, c.requires.counted.len) in
    let size = counted_end c.args.number c.args.documents k c.args.counted.now c.requires.counted within in
    omega (arith, c.loop-cursor.invariant.end, size, postings_le c.args.number c.args.documents k, c.requires.few, begins_small c.args.number c.args.documents k c.requires.few (omega (arith, within, all_terms_are)))

pub loop-cursor-preserved : goal.loop-cursor-preserved
loop-cursor-preserved c =
    let number = c.args.number in
    let documents = c.args.documents in
    let k = c.loop-cursor.cursor-index in
    let within : k < all_terms = omega (arith, c.loop-cursor-test.true, c.requires.counted.len) in
    let size = counted_end number documents k c.args.counted.now c.requires.counted within in
    let next = begins_more number documents k in
    elim c.if-cursor-gt0.branch [
      | then-cursor-gt0+in_ok-push w ↦
          let some : 0 < length (postings_of number documents k) = omega (arith, w.if-cursor-gt0.true, size) in
          let end : c.loop-cursor.end + (cursor_at c.args.counted.now k).end ≡ begins number documents (k + 1) = omega (arith, c.loop-cursor.invariant.end, size, next) in
          record {
            end = w.end-is ∙ end;
            ends = ap (λ es. es.items) w.ends-is ∙ w.in_ok-push.ensures.items
                ∙ ap (λ (es : List ℕ). es ++ (c.loop-cursor.end + (cursor_at c.args.counted.now k).end) ∷ []) c.loop-cursor.invariant.ends
                ∙ ap (λ (e : ℕ). ends_of number documents (drawn_below number documents k) ++ e ∷ []) end ∙ sym (ends_hit number documents k some);
          }
      | else-cursor-gt0 w ↦
          let none : length (postings_of number documents k) ≡ 0 = omega (arith, w.if-cursor-gt0.false, size) in
          record {
            end = w.end-is ∙ omega (arith, c.loop-cursor.invariant.end, next, none);
            ends = ap (λ es. es.items) w.ends-is ∙ c.loop-cursor.invariant.ends ∙ sym (ap (ends_of number documents) (drawn_miss number documents k none));
          }
    ]

pub returns : goal.returns
returns c =
    let all : c.loop-cursor.cursor-index ≡ all_terms = omega (arith, c.loop-cursor-test.false, c.loop-cursor.auto.cursor-index-end, c.requires.counted.len) in
    let whole : drawn_below c.args.number c.args.documents c.loop-cursor.cursor-index ≡ terms_drawn c.args.number c.args.documents = ap (drawn_below c.args.number c.args.documents) all ∙ drawn_all c.args.number c.args.documents in
    record { ends = c.loop-cursor.invariant.ends ∙ ap (ends_of c.args.number c.args.documents) whole }
