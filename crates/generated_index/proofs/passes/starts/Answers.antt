use Rattle.std.proofs.Common.{◌≡◌, ℕ, ◌+◌, ◌<◌, ◌≤◌, List, [], ◌∷◌, ◌++◌, length, get_or, inl, inr, refl, sym, ap, subst, ◌∙◌, arith, length-append}
use Rattle.std.proofs.lemmas.Bool.{cases_lt}
use Rattle.std.proofs.lemmas.List.{get_or_append_left}
use Rattle.std.proofs.Math.Seq.{get_or-append_seam}
use Rattle.generated_index.specs.declared.cursor.Cursor.{Cursor}
use Rattle.generated_index.specs.Generated.{all_terms}
use Rattle.generated_index.specs.Steps.{AreCursors, no_cursor, cursor_at, begins}
use Rattle.generated_index.proofs.Steps.{begins_more, begins_none, postings_le}
use Rattle.generated_index.proofs.Counting.{all_terms_are, fresh_cursors, counted_end, begins_small}
use Rattle.generated_index.proofs.passes.starts.Goals as goal

pub loop-cursor-init : goal.loop-cursor-init
loop-cursor-init c = record {
  len = ap (λ (cs : List Cursor). length cs) c.in_ok-cursors.ensures.items;
  end = sym (begins_none c.args.number c.args.documents);
  each = λ k lt. absurd (omega (arith, lt));
}

pub overflow_add-end : goal.overflow_add-end
overflow_add-end c =
    let k = c.loop-cursor.cursor-index in
    let within : k < all_terms = omega (arith, c.loop-cursor-test.true, c.requires.counted.len) in
    let size = counted_end c.args.number c.args.documents k c.args.counted.now c.requires.counted within in
    omega (arith, c.loop-cursor.invariant.end, size, postings_le c.args.number c.args.documents k, c.requires.few, begins_small c.args.number c.args.documents k c.requires.few (omega (arith, within, all_terms_are)))

pub loop-cursor-preserved : goal.loop-cursor-preserved
loop-cursor-preserved c =
    let k = c.loop-cursor.cursor-index in
    let number = c.args.number in
    let documents = c.args.documents in
    let before = c.loop-cursor.cursors.items in
    let within : k < all_terms = omega (arith, c.loop-cursor-test.true, c.requires.counted.len) in
    let items : c.push.new.self.items ≡ before ++ c.at.result ∷ [] = c.in_ok-push.ensures.items in
    record {
      len = ap (λ (cs : List Cursor). length cs) items ∙ omega (arith, length-append before (c.at.result ∷ []), c.loop-cursor.invariant.len);
      end = omega (arith, c.loop-cursor.invariant.end, counted_end number documents k c.args.counted.now c.requires.counted within, begins_more number documents k);
      each = λ j lt. ap (λ (cs : List Cursor). cursor_at cs j) items ∙ elim (cases_lt j k) [
        | inl front ↦ get_or_append_left before (c.at.result ∷ []) no_cursor j (omega (arith, front, c.loop-cursor.invariant.len)) ∙ c.loop-cursor.invariant.each j front
        | inr not_front ↦
            let last : j ≡ length before = omega (arith, lt, not_front, c.loop-cursor.invariant.len) in
            let here : c.loop-cursor.end ≡ begins number documents j = c.loop-cursor.invariant.end ∙ ap (begins number documents) (omega (arith, lt, not_front)) in
            ap (cursor_at (before ++ c.at.result ∷ [])) last ∙ get_or-append_seam before c.at.result [] no_cursor ∙ c.at.ensures.same
            ∙ ap (λ (n : ℕ). let cursor : Cursor = record no_cursor { end = n } in cursor) here
      ];
    }

pub returns : goal.returns
returns c =
    let all : c.loop-cursor.cursor-index ≡ all_terms = omega (arith, c.loop-cursor-test.false, c.loop-cursor.auto.cursor-index-end, c.requires.counted.len) in
    record {
      cursors = fresh_cursors c.args.number (begins c.args.number c.args.documents) c.loop-cursor.cursors.items (omega (arith, c.loop-cursor.invariant.len, all, all_terms_are))
          (λ k lt. c.loop-cursor.invariant.each k (omega (arith, lt, all, all_terms_are)));
      end = c.loop-cursor.invariant.end ∙ ap (begins c.args.number c.args.documents) all;
    }
