use Rattle.std.proofs.Common.{◌≡◌, ℕ, ℤ, pos, ◌+◌, ◌<◌, ◌≤◌, List, [], ◌∷◌, ◌++◌, length, map, refl, sym, ap, ◌∙◌, arith, to_z, of_z, w64, ◌^◌, ◌*◌}
use Rattle.rgb_base.specs.declared.parts.TermList.{TermList}
use Rattle.rgb_base.specs.Building.{Building, with_list}
use Rattle.std.proofs.lemmas.Int.{to_z-of_z}
use Rattle.generated_index.specs.Generated.{postings_of, total_drawn, all_terms, terms_drawn}
use Rattle.generated_index.proofs.Steps.{postings_le, total_le}
use Rattle.generated_index.specs.Steps.{cursor_at, bare_list, drawn_below}
use Rattle.generated_index.proofs.Counting.{all_terms_are, counted_end, counted_draws}
use Rattle.generated_index.proofs.Lists.{drawn_none, drawn_all, drawn_miss, bare_hit, list_pushed}
use Rattle.generated_index.proofs.index.push_lists.Goals as goal
use Rattle.generated_index.proofs.index.push_lists.Goals.{then-cursor-gt0+in-Ok, else-cursor-gt0}

pub loop-term-init : goal.loop-term-init
loop-term-init c =
    let none : map (bare_list c.args.number c.args.documents) (drawn_below c.args.number c.args.documents 0) ≡ [] = ap (map (bare_list c.args.number c.args.documents)) (drawn_none c.args.number c.args.documents) in
    ap (λ (lists : List TermList). let b : Building = record c.args.builder.now { lists = lists } in b) (c.requires.lists ∙ sym none)

pub overflow_cast-term : goal.overflow_cast-term
overflow_cast-term c = omega (arith, c.loop-term-test.true, c.requires.counted.len, all_terms_are)

-- a count as 64 bits hold it
held : (z : ℤ) (n : ℕ) → z ≡ pos n → n < 2 ^ 63 → to_z w64 (of_z w64 z) ≡ pos n
held z n is small = ap (λ (v : ℤ). to_z w64 (of_z w64 v)) is ∙ to_z-of_z w64 (pos n) (record { sfits = small })

pub loop-term-preserved : goal.loop-term-preserved
loop-term-preserved c =
    let number = c.args.number in
    let documents = c.args.documents in
    let k = c.loop-term.term in
    let building = c.args.builder.now in
    let lists = map (bare_list number documents) (drawn_below number documents k) in
    let within : k < all_terms = omega (arith, c.loop-term-test.true, c.requires.counted.len) in
    let size = counted_end number documents k c.args.counted.now c.requires.counted within in
    let drawn = counted_draws number documents k c.args.counted.now c.requires.counted within in
    let with_lists : List TermList → Building = λ ls. record building { lists = ls } in
    elim c.if-cursor-gt0.branch [
      | then-cursor-gt0+in-Ok w ↦
          let some : 0 < length (postings_of number documents k) = omega (arith, w.if-cursor-gt0.true, size) in
          let term = w.as_str.result.now in
          let df = to_z w64 (of_z w64 w.from.result) in
          let cf = to_z w64 (of_z w64 w.from-then-cursor-gt0.result) in
          let df_is : df ≡ pos (length (postings_of number documents k)) = held w.from.result (length (postings_of number documents k)) (w.from.ensures ∙ ap pos size)
          (omega (arith, postings_le number documents k, c.ranges.documents.fits)) in
          let cf_is : cf ≡ pos (total_drawn number documents k) = held w.from-then-cursor-gt0.result (total_drawn number documents k) (w.from-then-cursor-gt0.ensures ∙ ap pos drawn)
          (omega (arith, total_le number documents k, c.ranges.documents.fits)) in
          w.builder-is ∙ w.in-Ok.ensures.ok ∙ ap (λ (b : Building). with_list b term df cf) c.loop-term.invariant
          ∙ list_pushed building lists term df cf (bare_list number documents k) c.requires.postings
          (w.as_str.ensures.value ∙ w.label_of-label.ensures) df_is cf_is refl
          ∙ ap with_lists (sym (bare_hit number documents k some))
      | else-cursor-gt0 w ↦
          let none : length (postings_of number documents k) ≡ 0 = omega (arith, w.if-cursor-gt0.false, size) in
          w.builder-is ∙ c.loop-term.invariant ∙ ap (λ (ts : List ℕ). with_lists (map (bare_list number documents) ts)) (sym (drawn_miss number documents k none))
    ]

pub returns : goal.returns
returns c =
    let all : c.loop-term.term ≡ all_terms = omega (arith, c.loop-term-test.false, c.loop-term.auto.term-end, c.requires.counted.len) in
    let whole : drawn_below c.args.number c.args.documents c.loop-term.term ≡ terms_drawn c.args.number c.args.documents = ap (drawn_below c.args.number c.args.documents) all ∙ drawn_all c.args.number c.args.documents in
    record { ok = c.loop-term.invariant ∙ ap (λ (ts : List ℕ). let b : Building = record c.args.builder.now { lists = map (bare_list c.args.number c.args.documents) ts } in b) whole }
