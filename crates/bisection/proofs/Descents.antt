-- What the calls of the recursion come to.
use Rattle.std.proofs.Common.{◌≡◌, ℕ, ◌+◌, ◌-◌, ◌<◌, ◌≤◌, List, [], ◌∷◌, ◌++◌, length, get_or, take, drop, map, Option, Some, None, Result, Ok, Err, OnOk, sym, ap, subst, ◌∙◌, arith, All}
use Rattle.std.proofs.lemmas.List.{length-map}
use Rattle.std.proofs.lemmas.List.FromFn.{length-range_with_len}
use Rattle.std.proofs.lemmas.List.Sorted.{All-permutation, length_permutation}
use Rattle.std.proofs.lemmas.Option.{MatchOption-at_some, MatchOption-at_none}
use Rattle.forward_index.specs.Forward.{ForwardIndex}
use Rattle.exchange.specs.Halving.{half_a, half_b, halves_of}
use Rattle.bisection.specs.declared.cell.Part.{Part}
use Rattle.bisection.specs.declared.cell.Split.{Split}
use Rattle.cell_claims.specs.declared.trace.KeptRound.{KeptRound}
use Rattle.bisection.specs.Trace.{own_rounds, moved_to}
use Rattle.bisection.specs.Recursion.{Limits, all_places}
use Rattle.bisection.specs.Cells.{AreLaws, IsCellIn, IsDone, HasRows, IsPartOf, IsSplit, Output, Descends, DescendsBoth, GoesOn}
use Rattle.bisection.proofs.Places.{range_rising, range_below, all_front, all_back, halves_join, front_docs, back_docs}
use Rattle.bisection.proofs.Levels.{rows_len, stays_done, stays_still, done_later, made_whole, made_both, made_over, split_made}

module _ (limits : Limits) (depth level last start : ℕ) where
  pub descend_none : (part : Part) (docs : List ℕ) (old new : Output) → level ≤ last → last ≤ depth → part.rows ≡ None → (let pushed : Part = record { len = part.len; rows = None } in new.parts ≡ old.parts ++ pushed ∷ []) → new.trace ≡ old.trace
      → Descends limits depth level last start part docs docs old new
  descend_none part docs old new order within none parts_are trace_is = record {
    over = λ whole cell document sound cell_in part_is docs_are.
        let done : IsDone limits depth level cell = MatchOption-at_none (IsDone limits depth level cell) (HasRows whole limits depth level cell) none part_is.rows in
        let pushed : Part = record { len = part.len; rows = None } in
        let is : IsPartOf whole limits depth last cell pushed = record { len = part_is.len; rows = done_later limits depth level last cell order done } in
        made_whole whole limits depth level last start document cell docs pushed old new is (stays_done whole limits depth level last cell order within done) docs_are parts_are trace_is;
  }

  pub descend_last : (part : Part) (rows : ForwardIndex) (docs : List ℕ) (old new : Output) → level ≡ last → part.rows ≡ Some rows → (let pushed : Part = record { len = part.len; rows = Some rows } in new.parts ≡ old.parts ++ pushed ∷ []) → new.trace ≡ old.trace
      → Descends limits depth level last start part docs docs old new
  descend_last part rows docs old new same rows_are parts_are trace_is = record {
    over = λ whole cell document sound cell_in part_is docs_are.
        let at : Option ForwardIndex → Part = λ (o : Option ForwardIndex). record { len = part.len; rows = o } in
        let is : IsPartOf whole limits depth level cell (at (Some rows)) = subst (λ (o : Option ForwardIndex). IsPartOf whole limits depth level cell (at o)) rows_are part_is in
        let later : IsPartOf whole limits depth last cell (at (Some rows)) = subst (λ (l : ℕ). IsPartOf whole limits depth l cell (at (Some rows))) same is in
        made_whole whole limits depth level last start document cell docs (at (Some rows)) old new later (stays_still whole limits (last - level) cell (omega (arith, same))) docs_are parts_are trace_is;
  }

  pub descend_split : AreLaws → (part : Part) (rows : ForwardIndex) (split : Split) (docs docs_mid docs_new : List ℕ) (old new : Output) → part.rows ≡ Some rows → IsSplit rows limits depth (level + 1) (λ k. get_or docs k 0) docs_mid split
      → GoesOn limits depth level last start split docs_mid docs_new old new → Descends limits depth level last start part docs docs_new old new
  descend_split laws part rows split docs docs_mid docs_new old new rows_are is goes = record {
    over = λ whole cell document sound cell_in part_is docs_are.
        let has : HasRows whole limits depth level cell rows = MatchOption-at_some (IsDone limits depth level cell) (HasRows whole limits depth level cell) rows rows_are part_is.rows in
        let n_is : length rows.rows ≡ length cell = rows_len whole cell rows has.is_cell in
        let at_cell : IsSplit rows limits depth (level + 1) (λ k. get_or (map document cell) k 0) docs_mid split = subst (λ (xs : List ℕ). IsSplit rows limits depth (level + 1) (λ k. get_or xs k 0) docs_mid split) docs_are is in
        let large = has.large in
        let own = goes.over rows (λ (k : ℕ). get_or (map document cell) k 0) has.sound (omega (arith, large, n_is)) at_cell in
        made_over laws whole limits depth level last start cell document rows docs_new old new sound cell_in has.sound has.is_cell own;
  }

  -- what was made beside stands behind what was there
  pub descends_behind : (part : Part) (docs docs_new : List ℕ) (none one old new : Output) → none.parts ≡ [] → none.trace ≡ [] → new.parts ≡ old.parts ++ one.parts → new.trace ≡ old.trace ++ one.trace
      → Descends limits depth level last start part docs docs_new none one → Descends limits depth level last start part docs docs_new old new
  descends_behind part docs docs_new none one old new no_parts no_trace parts_are trace_is descends = record {
    over = λ whole cell document sound cell_in part_is docs_are.
        let made = descends.over whole cell document sound cell_in part_is docs_are in
        record {
          cells = made.cells;
          trace = made.trace;
          parts = made.parts;
          is_bisected = made.is_bisected;
          are_parts = made.are_parts;
          in_order = made.in_order;
          parts_behind = parts_are ∙ ap (λ (xs : List Part). old.parts ++ xs) (made.parts_behind ∙ ap (λ (xs : List Part). xs ++ made.parts) no_parts);
          trace_behind = trace_is ∙ ap (λ (xs : List KeptRound). old.trace ++ xs) (made.trace_behind ∙ ap (λ (xs : List KeptRound). xs ++ moved_to level start made.trace) no_trace);
        };
  }

  pub descend_both : (middle : ℕ) (a b : Part) (docs front back docs_a docs_b : List ℕ) (old mid new : Output) → middle ≡ start + a.len → front ≡ take a.len docs → back ≡ drop a.len docs
      → Descends limits depth level last start a front docs_a old mid → Descends limits depth level last middle b back docs_b mid new → DescendsBoth limits depth level last start a b docs (docs_a ++ docs_b) old new
  descend_both middle a b docs front back docs_a docs_b old mid new middle_is front_is back_is one two = record {
    over = λ whole cell_a cell_b document sound in_a in_b part_a part_b docs_are.
        let len = part_a.len in
        made_both whole limits depth level last document start middle cell_a cell_b docs_a docs_b old mid new (omega (arith, middle_is, len))
        (one.over whole cell_a document sound in_a part_a (front_is ∙ front_docs document a.len docs cell_a cell_b docs_are len))
        (two.over whole cell_b document sound in_b part_b (back_is ∙ back_docs document a.len docs cell_a cell_b docs_are len));
  }

  pub goes_on : AreLaws → (split : Split) (size : ℕ) (docs docs_new : List ℕ) (old mid new : Output) → level < last → size ≡ split.a.len + split.b.len → length docs ≡ size → mid.parts ≡ old.parts → mid.trace ≡ old.trace ++ moved_to level start (own_rounds size split.kept)
      → DescendsBoth limits depth (level + 1) last start split.a split.b docs docs_new mid new → GoesOn limits depth level last start split docs docs_new old new
  goes_on laws split size docs docs_new old mid new order size_is len parts_same trace_more descends = record {
    over = λ own document sound large is.
        let n = length own.rows in
        let places = is.places in
        let keep = laws.keep own (all_places own) limits.rounds (halves_of places) split.kept (range_rising n) is.are_halves in
        let low : All (λ k. k < n) (half_a places ++ half_b places) = All-permutation (λ (k : ℕ). k < n) (all_places own) (half_a places ++ half_b places) keep.documents (range_below n) in
        let in_a : IsCellIn own (half_a places) = record { rising = keep.rising_a; below = all_front (λ (k : ℕ). k < n) (half_a places) (half_b places) low } in
        let in_b : IsCellIn own (half_b places) = record { rising = keep.rising_b; below = all_back (λ (k : ℕ). k < n) (half_a places) (half_b places) low } in
        let both = descends.over own (half_a places) (half_b places) document sound in_a in_b is.part_a is.part_b (is.in_order ∙ ap (map document) (sym (halves_join places))) in
        let all : size ≡ n = omega (arith, len, ap length is.in_order, length-map places document, ap length (halves_join places), length_permutation (all_places own) (half_a places ++ half_b places) keep.documents, length-range_with_len 0 n) in
        split_made own limits depth level last start document docs docs_new split size old mid new order large all is parts_same trace_more both;
  }

-- ---- side by side

pub told : {T E : Type 0} (P : Type 0) (r : Result T E) (x : T) → r ≡ Ok x → OnOk r P → P
told P (Ok y) x is p = p
told P (Err e) x is p = cc

pub on_ok_two : {T E : Type 0} (A B C : Type 0) (r : Result T E) → (A → B → C) → OnOk r A → OnOk r B → OnOk r C
on_ok_two A B C (Ok x) f a b = f a b
on_ok_two A B C (Err e) f a b = tt

pub descend_beside : (limits : Limits) (depth level last start middle : ℕ) (a b : Part) (docs front back docs_a docs_b : List ℕ) (none_a one none_b two old mid new : Output) → middle ≡ start + a.len → front ≡ take a.len docs → back ≡ drop a.len docs
    → none_a.parts ≡ [] → none_a.trace ≡ [] → none_b.parts ≡ [] → none_b.trace ≡ [] → Descends limits depth level last start a front docs_a none_a one → Descends limits depth level last middle b back docs_b none_b two
    → mid.parts ≡ old.parts ++ one.parts → mid.trace ≡ old.trace ++ one.trace → new.parts ≡ mid.parts ++ two.parts → new.trace ≡ mid.trace ++ two.trace → DescendsBoth limits depth level last start a b docs (docs_a ++ docs_b) old new
descend_beside limits depth level last start middle a b docs front back docs_a docs_b none_a one none_b two old mid new middle_is front_is back_is no_parts_a no_trace_a no_parts_b no_trace_b first second mid_parts mid_trace new_parts new_trace =
    descend_both limits depth level last start middle a b docs front back docs_a docs_b old mid new middle_is front_is back_is
    (descends_behind limits depth level last start a front docs_a none_a one old mid no_parts_a no_trace_a mid_parts mid_trace first)
    (descends_behind limits depth level last middle b back docs_b none_b two mid new no_parts_b no_trace_b new_parts new_trace second)
