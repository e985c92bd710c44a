-- How cells stand after some slabs, and after one more.
use Rattle.std.proofs.Common.{◌≡◌, ◌≢◌, ◌==◌, ℕ, zero, suc, ◌+◌, ◌-◌, ◌*◌, ◌/◌, ◌%◌, ◌<◌, ◌≤◌, min, List, [], ◌∷◌, ◌++◌, length, get_or, map, sym, ap, subst, ◌∙◌, arith, All, AllPairs}
use Rattle.std.specs.List.{sum_by}
use Rattle.std.specs.List.Sorted.{IsPermutation}
use Rattle.std.proofs.lemmas.Bool.Decides.{nat_tests, Decides-eqb}
use Rattle.std.proofs.lemmas.List.{append-nil, length-map}
use Rattle.std.proofs.lemmas.List.FromFn.{length-range_with_len}
use Rattle.std.proofs.lemmas.List.Sorted.{All-permutation, Contains-permutation, IsPermutation-map, length_permutation}
use Rattle.std.proofs.lemmas.Map.Keys.{IsDistinct-IsPermutation}
use Rattle.std.proofs.lemmas.Map.Made.{AllPairs-from_IsDistinct, IsDistinct-from_AllPairs}
use Rattle.std.proofs.lemmas.Nat.{div-add-mod', mod_below, mul-le}
use Rattle.rgb_base.specs.Order.{IsOrder}
use Rattle.forward_index.specs.Forward.{ForwardIndex, IsForward}
use Rattle.bisection.specs.declared.cell.Part.{Part}
use Rattle.bisection.specs.declared.options.Options.{Options}
use Rattle.cell_claims.specs.declared.trace.KeptRound.{KeptRound}
use Rattle.bisection.specs.Trace.{StandsBefore}
use Rattle.bisection.specs.Recursion.{Limits, IsBisected, order_of, all_places}
use Rattle.bisection.specs.Laws.{HasEachOnce}
use Rattle.bisection.specs.Progress.{AreOptions, limits_of, slabs_of, depth_after}
use Rattle.bisection.specs.Cells.{AreLaws, IsCellIn, IsReady, ArePartsOf, Output, IsMade, AreMade, DescendsAll, RunsFrom, IsStanding, AreApart}
use Rattle.bisection.proofs.Places.{range_rising, range_below, look_all, all_front, all_back}
use Rattle.bisection.proofs.Levels.{made_one}
use Rattle.bisection.proofs.Slabs.{parts_total, parts_ready}
use Rattle.bisection.proofs.Ordered.{all_apart}

-- ---- levels of slabs

rises : (before after whole rest depth step : ℕ) → after ≡ before + step → after ≤ whole → whole + rest ≡ depth + step - 1 → 0 < step → min before depth < min after depth
rises before after whole rest depth step after_is within all some = omega (arith, after_is, within, all, some)

pub level_rises : (options : Options) (done : ℕ) → AreOptions options → done < slabs_of options → depth_after options done < depth_after options (done + 1)
level_rises options done are more =
    let step = options.step in
    let most = options.depth + step - 1 in
    let after_is : (done + 1) * step ≡ done * step + step = omega arith in
    rises (done * step) ((done + 1) * step) (most / step * step) (most % step) options.depth step after_is (mul-le (done + 1) step (most / step) step (omega (arith, more)) (omega arith)) (div-add-mod' most step) are.some_step

ends : (whole rest depth step : ℕ) → whole + rest ≡ depth + step - 1 → rest < step → min whole depth ≡ depth
ends whole rest depth step all less = omega (arith, all, less)

pub depth_of_all : (options : Options) → AreOptions options → depth_after options (slabs_of options) ≡ options.depth
depth_of_all options are =
    let step = options.step in
    let most = options.depth + step - 1 in
    ends (most / step * step) (most % step) options.depth step (div-add-mod' most step) (mod_below most step are.some_step)

pub depth_of_none : (options : Options) → depth_after options 0 ≡ 0
depth_of_none options = omega arith

-- ---- orders

flips : (x y : ℕ) → (x == y) ≡ (y == x)
flips x y = grind (arith, nat_tests)

differ_permutation : (xs ys : List ℕ) → IsPermutation xs ys → AllPairs (λ a b. a ≢ b) xs → AllPairs (λ a b. a ≢ b) ys
differ_permutation xs ys same differ =
    AllPairs-from_IsDistinct {eq = ◌==◌} Decides-eqb ys (IsDistinct-IsPermutation ◌==◌ flips xs ys same (IsDistinct-from_AllPairs {eq = ◌==◌} Decides-eqb xs differ))

pub order_permutation : (xs ys : List ℕ) → IsPermutation xs ys → IsOrder xs → IsOrder ys
order_permutation xs ys same is =
    let len : length ys ≡ length xs = length_permutation xs ys same in
    let below : All (λ old. old < length xs) ys = All-permutation (λ (old : ℕ). old < length xs) xs ys same is.numbers.below in
    record {
      small = omega (arith, is.small, len);
      numbers = record {
        below = subst (λ (n : ℕ). All (λ old. old < n) ys) (sym len) below;
        different = differ_permutation xs ys same is.numbers.different;
      };
      each = λ old lt. Contains-permutation xs ys old same (is.each old (omega (arith, lt, len)));
    }

-- ---- the levels of one slab

module _ (forward : ForwardIndex) (limits : Limits) (depth level last : ℕ) (parts : List Part) (docs docs_new : List ℕ) (old new : Output) (sound : IsForward forward) where
  pub run_first : level ≡ 0 → IsMade forward limits depth 0 last 0 (all_places forward) (λ k. get_or docs k 0) docs_new old new → RunsFrom forward limits depth level last parts docs docs_new old new
  run_first none made = record {
    over = λ cells first are cells_in docs_are.
        let n = length forward.rows in
        let look : ℕ → ℕ = λ (k : ℕ). get_or forward.documents k 0 in
        let cells_are : cells ≡ all_places forward ∷ [] = first none in
        let docs_is : docs ≡ forward.documents = docs_are ∙ ap (λ (cs : List (List ℕ)). map look (order_of cs)) cells_are ∙ ap (map look) (append-nil (all_places forward)) ∙ look_all forward.documents n sound.len in
        let here : IsMade forward limits depth 0 last 0 (all_places forward) look docs_new old new = subst (λ (xs : List ℕ). IsMade forward limits depth 0 last 0 (all_places forward) (λ k. get_or xs k 0) docs_new old new) docs_is made in
        let one : AreMade forward limits depth 0 last 0 (all_places forward ∷ []) look docs_new old new = made_one forward limits depth 0 last 0 look (all_places forward) docs_new old new here in
        let at_level : AreMade forward limits depth level last 0 (all_places forward ∷ []) look docs_new old new = subst (λ (l : ℕ). AreMade forward limits depth l last 0 (all_places forward ∷ []) look docs_new old new) (sym none) one in
        subst (λ (cs : List (List ℕ)). AreMade forward limits depth level last 0 cs look docs_new old new) (sym cells_are) at_level;
  }

  pub run_rest : 0 < level → DescendsAll limits depth level last 0 parts docs docs_new old new → RunsFrom forward limits depth level last parts docs docs_new old new
  run_rest some descends = record {
    over = λ cells first are cells_in docs_are. descends.over forward cells (λ k. get_or forward.documents k 0) sound cells_in (are some) docs_are;
  }

-- ---- how cells stand

all_of_order : (P : ℕ → Type 0) (cells : List (List ℕ)) → All P (order_of cells) → All (λ cell. All P cell) cells
all_of_order P [] all k d lt = absurd (omega (arith, lt))
all_of_order P (cell ∷ cells) all zero d lt = all_front P cell (order_of cells) all
all_of_order P (cell ∷ cells) all (suc k) d lt = all_of_order P cells (all_back P cell (order_of cells) all) k d (omega (arith, lt))

module _ (laws : AreLaws) (forward : ForwardIndex) (options : Options) (done : ℕ) (numbering : List ℕ) (parts : List Part) (trace : List KeptRound) (sound : IsForward forward) (standing : IsStanding forward options done numbering parts trace) where
  pub each_once : HasEachOnce (all_places forward) standing.cells
  each_once =
      laws.once forward (limits_of options) (depth_after options done) (all_places forward) standing.cells trace (range_rising (length forward.rows)) standing.is_bisected

  cells_in : All (IsCellIn forward) standing.cells
  cells_in k d lt =
      let n = length forward.rows in
      let low : All (λ j. j < n) (order_of standing.cells) = All-permutation (λ (j : ℕ). j < n) (all_places forward) (order_of standing.cells) each_once.documents (range_below n) in
      record { rising = each_once.rising k d lt; below = all_of_order (λ (j : ℕ). j < n) standing.cells low k d lt }

  pub standing_len : length numbering ≡ length forward.rows
  standing_len =
      ap length standing.in_order ∙ length-map (order_of standing.cells) (λ (k : ℕ). get_or forward.documents k 0) ∙ length_permutation (all_places forward) (order_of standing.cells) each_once.documents
      ∙ length-range_with_len 0 (length forward.rows)

  pub standing_order : IsOrder numbering
  standing_order =
      let look : ℕ → ℕ = λ (k : ℕ). get_or forward.documents k 0 in
      let all : map look (all_places forward) ≡ forward.documents = look_all forward.documents (length forward.rows) sound.len in
      let moved : IsPermutation (map look (all_places forward)) (map look (order_of standing.cells)) = IsPermutation-map look (all_places forward) (order_of standing.cells) each_once.documents in
      let same : IsPermutation forward.documents numbering = subst (λ (ys : List ℕ). IsPermutation forward.documents ys) (sym standing.in_order) (subst (λ (xs : List ℕ). IsPermutation xs (map look (order_of standing.cells))) all moved) in
      order_permutation forward.documents numbering same sound.ordered

  first_cells : depth_after options done ≡ 0 → standing.cells ≡ all_places forward ∷ []
  first_cells none =
      let at_none : IsBisected forward (limits_of options) 0 (all_places forward) standing.cells trace = subst (λ (l : ℕ). IsBisected forward (limits_of options) l (all_places forward) standing.cells trace) none standing.is_bisected in
      at_none.is_cell

  pub standing_ready : (level : ℕ) → level ≡ depth_after options done → 0 < level → All (IsReady (limits_of options)) parts
  standing_ready level is some =
      parts_ready forward (limits_of options) options.depth (depth_after options done) standing.cells parts (standing.are_parts (omega (arith, is, some)))

  pub standing_total : (level : ℕ) → level ≡ depth_after options done → 0 < level → length numbering ≡ sum_by (λ part. part.len) parts
  standing_total level is some =
      ap length standing.in_order ∙ length-map (order_of standing.cells) (λ (k : ℕ). get_or forward.documents k 0)
      ∙ sym (parts_total forward (limits_of options) options.depth (depth_after options done) standing.cells parts (standing.are_parts (omega (arith, is, some))))

  -- ---- one slab more

  module _ (level last : ℕ) (docs docs_new : List ℕ) (old new : Output) (are : AreOptions options) (more : done < slabs_of options) (level_is : level ≡ depth_after options done) (last_is : last ≡ depth_after options (done + 1)) (docs_are : docs ≡ numbering)
      (old_trace : old.trace ≡ trace) (old_parts : old.parts ≡ []) (runs : RunsFrom forward (limits_of options) options.depth level last parts docs docs_new old new) where
    made : AreMade forward (limits_of options) options.depth (depth_after options done) last 0 standing.cells (λ k. get_or forward.documents k 0) docs_new old new
    made =
        let at : RunsFrom forward (limits_of options) options.depth (depth_after options done) last parts docs docs_new old new = subst (λ (l : ℕ). RunsFrom forward (limits_of options) options.depth l last parts docs docs_new old new) level_is runs in
        at.over standing.cells first_cells standing.are_parts cells_in (docs_are ∙ standing.in_order)

    trace_is : new.trace ≡ trace ++ made.trace
    trace_is = made.trace_behind ∙ ap (λ (t : List KeptRound). t ++ made.trace) old_trace

    pub next_apart : AllPairs AreApart new.trace
    next_apart =
        subst (λ (t : List KeptRound). AllPairs AreApart t) (sym trace_is)
        (all_apart laws forward (limits_of options) (depth_after options done) (last - depth_after options done) (all_places forward) standing.cells made.into trace made.trace are.some_leaf (range_rising (length forward.rows)) standing.is_bisected made.are_bisected)

    pub next_standing : (all : List KeptRound) → IsPermutation new.trace all → AllPairs StandsBefore all → IsStanding forward options (done + 1) docs_new new.parts all
    next_standing all same ordered =
        let before = depth_after options done in
        let moved : IsPermutation (trace ++ made.trace) all = subst (λ (t : List KeptRound). IsPermutation t all) trace_is same in
        let both = laws.slabs forward (limits_of options) before (last - before) (all_places forward) standing.cells made.into trace made.trace all are.some_leaf (range_rising (length forward.rows)) standing.is_bisected made.are_bisected moved ordered in
        let levels : before + (last - before) ≡ depth_after options (done + 1) = let up = level_rises options done are more in omega (arith, up, last_is) in
        record {
          cells = made.into;
          is_bisected = subst (λ (l : ℕ). IsBisected forward (limits_of options) l (all_places forward) made.into all) levels both;
          in_order = made.in_order;
          are_parts = λ some.
              subst (λ (ps : List Part). ArePartsOf forward (limits_of options) options.depth (depth_after options (done + 1)) made.into ps) (sym (made.parts_behind ∙ ap (λ (ps : List Part). ps ++ made.parts) old_parts))
              (subst (λ (l : ℕ). ArePartsOf forward (limits_of options) options.depth l made.into made.parts) last_is made.are_parts);
        }
