-- What levels make of cells: of one, of several one after another, and over a cell's own rows.
use Rattle.std.proofs.Common.{◌≡◌, ◌⊎◌, ℕ, zero, suc, ◌+◌, ◌-◌, ◌<◌, ◌≤◌, List, [], ◌∷◌, ◌++◌, length, get_or, take, map, Option, Some, None, refl, sym, ap, subst, ◌∙◌, inl, inr, arith, All, append_assoc, zero-add}
use Rattle.std.specs.Prelude.{IfSome, MatchOption}
use Rattle.std.specs.List.{AllZip}
use Rattle.std.proofs.lemmas.List.{append-nil, length-append, length-map, map-append, map_more, map_push}
use Rattle.std.proofs.lemmas.List.FromFn.{length-range_with_len}
use Rattle.std.proofs.lemmas.List.Sorted.{All-permutation}
use Rattle.forward_index.specs.Forward.{ForwardIndex, IsForward, row_at}
use Rattle.forward_index.specs.Cell.{IsCellOf}
use Rattle.forward_index.specs.Laws.{CellOfACell}
use Rattle.exchange.specs.declared.round.Kept.{Kept}
use Rattle.exchange.specs.Halving.{half_a, half_b}
use Rattle.cell_claims.specs.declared.trace.KeptRound.{KeptRound}
use Rattle.bisection.specs.declared.cell.Part.{Part}
use Rattle.bisection.specs.declared.cell.Split.{Split}
use Rattle.bisection.specs.Trace.{own_round, own_rounds, round_at, moved_to}
use Rattle.bisection.specs.Recursion.{Limits, IsBisected, StaysWhole, order_of, all_places}
use Rattle.bisection.specs.Laws.{AreBisected}
use Rattle.bisection.specs.Cells.{AreLaws, IsCellIn, IsDone, HasRows, IsPartOf, IsLarge, IsReady, ArePartsOf, IsSplit, Output, IsMade, AreMade}
use Rattle.bisection.proofs.Places.{range_rising, range_below, look_all, look_through, all_front, all_back, halves_join, order_append, order_through}

-- ---- rounds

pub round_is : (level start size : ℕ) (r : Kept)
    → let made : KeptRound = record { level = level; start = start; size = size; before = r.before; after = r.after; pairs = r.pairs } in round_at level start (own_round size r) ≡ made
round_is level start size r =
    let made : ℕ → ℕ → KeptRound = λ (l s : ℕ). record { level = l; start = s; size = size; before = r.before; after = r.after; pairs = r.pairs } in
    ap (λ (l : ℕ). made l (0 + start)) (zero-add level) ∙ ap (made level) (zero-add start)

pub rounds_more : (level start size : ℕ) (kept : List Kept) (i : ℕ) (d : Kept) → i < length kept
    → moved_to level start (own_rounds size (take (i + 1) kept)) ≡ moved_to level start (own_rounds size (take i kept)) ++ round_at level start (own_round size (get_or kept i d)) ∷ []
rounds_more level start size kept i d lt =
    ap (moved_to level start) (map_more (own_round size) kept i d lt)
    ∙ map_push (round_at level start) (own_rounds size (take i kept)) (own_round size (get_or kept i d))

round_again : (level start more by : ℕ) (r : KeptRound) → round_at level start (round_at more by r) ≡ round_at (more + level) (by + start) r
round_again level start more by r =
    let made : ℕ → ℕ → KeptRound = λ (l s : ℕ). record r { level = l; start = s } in
    let l : (r.level + more) + level ≡ r.level + (more + level) = omega arith in
    let s : (r.start + by) + start ≡ r.start + (by + start) = omega arith in
    ap (λ (n : ℕ). made n ((r.start + by) + start)) l ∙ ap (made (r.level + (more + level))) s

pub moved_again : (level start more by : ℕ) (trace : List KeptRound) → moved_to level start (moved_to more by trace) ≡ moved_to (more + level) (by + start) trace
moved_again level start more by [] = refl
moved_again level start more by (r ∷ trace) =
    ap (λ (x : KeptRound). x ∷ moved_to level start (moved_to more by trace)) (round_again level start more by r)
    ∙ ap (λ (xs : List KeptRound). round_at (more + level) (by + start) r ∷ xs) (moved_again level start more by trace)

-- ---- parts

pub rows_len : (whole : ForwardIndex) (cell : List ℕ) (rows : ForwardIndex) → IsCellOf whole cell rows → length rows.rows ≡ length cell
rows_len whole cell rows is =
    sym (length-map rows.rows (λ (row : List ℕ). map (λ (t : ℕ). get_or is.old_terms t 0) row)) ∙ ap length is.rows ∙ length-map cell (row_at whole.rows)

large_option : (whole : ForwardIndex) (limits : Limits) (depth level : ℕ) (cell : List ℕ) (part : Part) → part.len ≡ length cell → (o : Option ForwardIndex) → MatchOption o (IsDone limits depth level cell) (HasRows whole limits depth level cell) → IfSome o (IsLarge limits part)
large_option whole limits depth level cell part len None done = tt
large_option whole limits depth level cell part len (Some rows) has = record {
  len = rows_len whole cell rows has.is_cell ∙ sym len;
  large = omega (arith, has.large, len);
}

pub ready_from_part : (whole : ForwardIndex) (limits : Limits) (depth level : ℕ) (cell : List ℕ) (part : Part) → IsPartOf whole limits depth level cell part → IsReady limits part
ready_from_part whole limits depth level cell part is = large_option whole limits depth level cell part is.len part.rows is.rows

pub parts_join : {A B : Type 0} (R : A → B → Type 0) (xs us : List A) (ys vs : List B) → AllZip R xs ys → AllZip R us vs → AllZip R (xs ++ us) (ys ++ vs)
parts_join R [] us [] vs one two = two
parts_join R [] us (y ∷ ys) vs one two = absurd one
parts_join R (x ∷ xs) us [] vs one two = absurd one
parts_join R (x ∷ xs) us (y ∷ ys) vs one two = (one.0, parts_join R xs us ys vs one.1 two)

module _ (whole rows : ForwardIndex) (cell : List ℕ) (limits : Limits) (depth level : ℕ) (inner : CellOfACell) (sound : IsForward rows) (is : IsCellOf whole cell rows) where
  option_over : (c : List ℕ) → All (λ k. k < length cell) c → (o : Option ForwardIndex) → MatchOption o (IsDone limits depth level c) (HasRows rows limits depth level c)
      → MatchOption o (IsDone limits depth level (map (λ k. get_or cell k 0) c)) (HasRows whole limits depth level (map (λ k. get_or cell k 0) c))
  option_over c below None done =
      subst (λ (n : ℕ). (n ≤ limits.leaf) ⊎ (depth ≤ level)) (sym (length-map c (λ (k : ℕ). get_or cell k 0))) done
  option_over c below (Some own) has = record {
    more = has.more;
    large = omega (arith, has.large, length-map c (λ (k : ℕ). get_or cell k 0));
    sound = has.sound;
    is_cell = inner whole rows own cell c sound has.sound below is has.is_cell;
  }

  pub parts_over : (cells : List (List ℕ)) (parts : List Part) → All (λ k. k < length cell) (order_of cells) → ArePartsOf rows limits depth level cells parts
      → ArePartsOf whole limits depth level (map (map (λ k. get_or cell k 0)) cells) parts
  parts_over [] [] below are = tt
  parts_over [] (part ∷ parts) below are = absurd are
  parts_over (c ∷ cells) [] below are = absurd are
  parts_over (c ∷ cells) (part ∷ parts) below are =
      let one : IsPartOf rows limits depth level c part = are.0 in
      let over : IsPartOf whole limits depth level (map (λ k. get_or cell k 0) c) part = record {
        len = one.len ∙ sym (length-map c (λ (k : ℕ). get_or cell k 0));
        rows = option_over c (all_front (λ (k : ℕ). k < length cell) c (order_of cells) below) part.rows one.rows;
      } in
      (over, parts_over cells parts (all_back (λ (k : ℕ). k < length cell) c (order_of cells) below) are.1)

-- ---- a cell that stays whole

stays_small : (whole : ForwardIndex) (limits : Limits) (levels : ℕ) (cell : List ℕ) → length cell ≤ limits.leaf → IsBisected whole limits levels cell (cell ∷ []) []
stays_small whole limits zero cell small = record { is_cell = refl; is_trace = refl }
stays_small whole limits (suc levels) cell small = inl (small, record { is_cell = refl; is_trace = refl })

pub stays_still : (whole : ForwardIndex) (limits : Limits) (levels : ℕ) (cell : List ℕ) → levels ≡ 0 → IsBisected whole limits levels cell (cell ∷ []) []
stays_still whole limits levels cell none =
    let whole_ : StaysWhole cell (cell ∷ []) [] = record { is_cell = refl; is_trace = refl } in
    subst (λ (n : ℕ). IsBisected whole limits n cell (cell ∷ []) []) (sym none) whole_

pub stays_done : (whole : ForwardIndex) (limits : Limits) (depth level last : ℕ) (cell : List ℕ) → level ≤ last → last ≤ depth → IsDone limits depth level cell → IsBisected whole limits (last - level) cell (cell ∷ []) []
stays_done whole limits depth level last cell order within (inl small) = stays_small whole limits (last - level) cell small
stays_done whole limits depth level last cell order within (inr end) = stays_still whole limits (last - level) cell (omega (arith, order, within, end))

pub done_later : (limits : Limits) (depth level last : ℕ) (cell : List ℕ) → level ≤ last → IsDone limits depth level cell → IsDone limits depth last cell
done_later limits depth level last cell order (inl small) = inl small
done_later limits depth level last cell order (inr end) = inr (omega (arith, order, end))

module _ (whole : ForwardIndex) (limits : Limits) (depth level last start : ℕ) (document : ℕ → ℕ) where
  pub made_whole : (cell docs : List ℕ) (part : Part) (old new : Output) → IsPartOf whole limits depth last cell part → IsBisected whole limits (last - level) cell (cell ∷ []) [] → docs ≡ map document cell
      → new.parts ≡ old.parts ++ part ∷ [] → new.trace ≡ old.trace → IsMade whole limits depth level last start cell document docs old new
  made_whole cell docs part old new is_part is docs_are parts_are trace_is = record {
    cells = cell ∷ [];
    trace = [];
    parts = part ∷ [];
    is_bisected = is;
    are_parts = (is_part, tt);
    in_order = docs_are ∙ ap (map document) (sym (append-nil cell));
    parts_behind = parts_are;
    trace_behind = trace_is ∙ sym (append-nil old.trace);
  }

  pub made_one : (cell docs : List ℕ) (old new : Output) → IsMade whole limits depth level last start cell document docs old new → AreMade whole limits depth level last start (cell ∷ []) document docs old new
  made_one cell docs old new made = record {
    into = made.cells;
    trace = moved_to level start made.trace;
    parts = made.parts;
    are_bisected = record {
      cells_first = made.cells;
      cells_others = [];
      trace_first = made.trace;
      trace_others = [];
      first = made.is_bisected;
      others = (refl, refl);
      is_cells = sym (append-nil made.cells);
      is_trace = sym (append-nil (moved_to level start made.trace));
    };
    are_parts = made.are_parts;
    in_order = made.in_order;
    parts_behind = made.parts_behind;
    trace_behind = made.trace_behind;
  }

  -- what was made beside stands behind what was there
  pub made_behind : (cells : List (List ℕ)) (docs : List ℕ) (none one old new : Output) → AreMade whole limits depth level last start cells document docs none one → none.parts ≡ [] → none.trace ≡ []
      → new.parts ≡ old.parts ++ one.parts → new.trace ≡ old.trace ++ one.trace → AreMade whole limits depth level last start cells document docs old new
  made_behind cells docs none one old new made no_parts no_trace parts_are trace_is = record {
    into = made.into;
    trace = made.trace;
    parts = made.parts;
    are_bisected = made.are_bisected;
    are_parts = made.are_parts;
    in_order = made.in_order;
    parts_behind = parts_are ∙ ap (λ (xs : List Part). old.parts ++ xs) (made.parts_behind ∙ ap (λ (xs : List Part). xs ++ made.parts) no_parts);
    trace_behind = trace_is ∙ ap (λ (xs : List KeptRound). old.trace ++ xs) (made.trace_behind ∙ ap (λ (xs : List KeptRound). xs ++ made.trace) no_trace);
  }

-- ---- cells one after another

pub bisected_join : (whole : ForwardIndex) (limits : Limits) (levels level start : ℕ) (cells others into more : List (List ℕ)) (trace trace_more : List KeptRound) → AreBisected whole limits levels level start cells into trace
    → AreBisected whole limits levels level (start + length (order_of cells)) others more trace_more → AreBisected whole limits levels level start (cells ++ others) (into ++ more) (trace ++ trace_more)
bisected_join whole limits levels level start [] others into more trace trace_more one two =
    let at_start : AreBisected whole limits levels level start others more trace_more = subst (λ (s : ℕ). AreBisected whole limits levels level s others more trace_more) (omega arith) two in
    let at_into : AreBisected whole limits levels level start others (into ++ more) trace_more = subst (λ (cs : List (List ℕ)). AreBisected whole limits levels level start others (cs ++ more) trace_more) (sym one.0) at_start in
    subst (λ (t : List KeptRound). AreBisected whole limits levels level start others (into ++ more) (t ++ trace_more)) (sym one.1) at_into
bisected_join whole limits levels level start (cell ∷ cells) others into more trace trace_more one two =
    let later : start + length (cell ++ order_of cells) ≡ (start + length cell) + length (order_of cells) = omega (arith, length-append cell (order_of cells)) in
    record {
      cells_first = one.cells_first;
      cells_others = one.cells_others ++ more;
      trace_first = one.trace_first;
      trace_others = one.trace_others ++ trace_more;
      first = one.first;
      others = bisected_join whole limits levels level (start + length cell) cells others one.cells_others more one.trace_others trace_more one.others (subst (λ (s : ℕ). AreBisected whole limits levels level s others more trace_more) later two);
      is_cells = ap (λ (cs : List (List ℕ)). cs ++ more) one.is_cells ∙ append_assoc one.cells_first one.cells_others more;
      is_trace = ap (λ (t : List KeptRound). t ++ trace_more) one.is_trace ∙ append_assoc (moved_to level start one.trace_first) one.trace_others trace_more;
    }

module _ (whole : ForwardIndex) (limits : Limits) (depth level last : ℕ) (document : ℕ → ℕ) where
  pub made_join : (start : ℕ) (cells others : List (List ℕ)) (docs back : List ℕ) (old mid new : Output) → AreMade whole limits depth level last start cells document docs old mid
      → AreMade whole limits depth level last (start + length (order_of cells)) others document back mid new → AreMade whole limits depth level last start (cells ++ others) document (docs ++ back) old new
  made_join start cells others docs back old mid new one two = record {
    into = one.into ++ two.into;
    trace = one.trace ++ two.trace;
    parts = one.parts ++ two.parts;
    are_bisected = bisected_join whole limits (last - level) level start cells others one.into two.into one.trace two.trace one.are_bisected two.are_bisected;
    are_parts = parts_join (IsPartOf whole limits depth last) one.into two.into one.parts two.parts one.are_parts two.are_parts;
    in_order =
        ap (λ (xs : List ℕ). xs ++ back) one.in_order ∙ ap (λ (xs : List ℕ). map document (order_of one.into) ++ xs) two.in_order
        ∙ sym (ap (map document) (order_append one.into two.into) ∙ map-append document (order_of one.into) (order_of two.into));
    parts_behind = two.parts_behind ∙ ap (λ (xs : List Part). xs ++ two.parts) one.parts_behind ∙ append_assoc old.parts one.parts two.parts;
    trace_behind = two.trace_behind ∙ ap (λ (xs : List KeptRound). xs ++ two.trace) one.trace_behind ∙ append_assoc old.trace one.trace two.trace;
  }

  -- two cells
  pub made_both : (start middle : ℕ) (cell_a cell_b docs back : List ℕ) (old mid new : Output) → middle ≡ start + length cell_a → IsMade whole limits depth level last start cell_a document docs old mid
      → IsMade whole limits depth level last middle cell_b document back mid new → AreMade whole limits depth level last start (cell_a ∷ cell_b ∷ []) document (docs ++ back) old new
  made_both start middle cell_a cell_b docs back old mid new middle_is one two =
      let place : middle ≡ start + length (cell_a ++ []) = omega (arith, middle_is, length-append cell_a []) in
      made_join start (cell_a ∷ []) (cell_b ∷ []) docs back old mid new (made_one whole limits depth level last start document cell_a docs old mid one)
      (subst (λ (s : ℕ). AreMade whole limits depth level last s (cell_b ∷ []) document back mid new) place (made_one whole limits depth level last middle document cell_b back mid new two))

-- ---- a cell that was halved, over its own rows

pub split_len : (own : ForwardIndex) (limits : Limits) (depth level : ℕ) (document : ℕ → ℕ) (docs : List ℕ) (split : Split) → IsSplit own limits depth level document docs split → split.a.len + split.b.len ≡ length docs
split_len own limits depth level document docs split is =
    omega (arith, is.part_a.len, is.part_b.len, length-append (half_a is.places) (half_b is.places), ap length (halves_join is.places), ap length is.in_order, length-map is.places document)

module _ (own : ForwardIndex) (limits : Limits) (depth level last start : ℕ) (document : ℕ → ℕ) (docs docs_new : List ℕ) (split : Split) (size : ℕ) (old mid new : Output) (order : level < last) (large : limits.leaf < length own.rows) (size_is : size ≡ length own.rows)
    (is : IsSplit own limits depth (level + 1) document docs split) (parts_same : mid.parts ≡ old.parts) (trace_more : mid.trace ≡ old.trace ++ moved_to level start (own_rounds size split.kept))
    (both : AreMade own limits depth (level + 1) last start (half_a is.places ∷ half_b is.places ∷ []) document docs_new mid new) where
  pub split_made : IsMade own limits depth level last start (all_places own) document docs_new old new
  split_made =
      let first = both.are_bisected in
      let others = first.others in
      let ta = first.trace_first in
      let tb = others.trace_first in
      let n = length (all_places own) in
      let n_is : n ≡ length own.rows = length-range_with_len 0 (length own.rows) in
      let len_a = length (half_a is.places) in
      let mine = own_rounds n split.kept in
      let total : List KeptRound = mine ++ moved_to 1 0 ta ++ moved_to 1 len_a tb in
      let into_is : both.into ≡ first.cells_first ++ others.cells_first = first.is_cells ∙ ap (λ (cs : List (List ℕ)). first.cells_first ++ cs) (others.is_cells ∙ ap (λ (cs : List (List ℕ)). others.cells_first ++ cs) others.others.0 ∙ append-nil others.cells_first) in
      let trace_is : both.trace ≡ moved_to (level + 1) start ta ++ moved_to (level + 1) (start + len_a) tb =
      first.is_trace ∙ ap (λ (t : List KeptRound). moved_to (level + 1) start ta ++ t) (others.is_trace ∙ ap (λ (t : List KeptRound). moved_to (level + 1) (start + len_a) tb ++ t) others.others.1 ∙ append-nil (moved_to (level + 1) (start + len_a) tb)) in
      let one_a : moved_to level start (moved_to 1 0 ta) ≡ moved_to (level + 1) start ta =
      moved_again level start 1 0 ta ∙ ap (λ (l : ℕ). moved_to l (0 + start) ta) (omega arith) ∙ ap (λ (s : ℕ). moved_to (level + 1) s ta) (zero-add start) in
      let one_b : moved_to level start (moved_to 1 len_a tb) ≡ moved_to (level + 1) (start + len_a) tb =
      moved_again level start 1 len_a tb ∙ ap (λ (l : ℕ). moved_to l (len_a + start) tb) (omega arith) ∙ ap (λ (s : ℕ). moved_to (level + 1) s tb) (omega arith) in
      let moved : moved_to level start total ≡ (moved_to level start mine ++ moved_to (level + 1) start ta) ++ moved_to (level + 1) (start + len_a) tb =
      map-append (round_at level start) (mine ++ moved_to 1 0 ta) (moved_to 1 len_a tb)
      ∙ ap (λ (t : List KeptRound). t ++ moved_to level start (moved_to 1 len_a tb)) (map-append (round_at level start) mine (moved_to 1 0 ta) ∙ ap (λ (t : List KeptRound). moved_to level start mine ++ t) one_a)
      ∙ ap (λ (t : List KeptRound). (moved_to level start mine ++ moved_to (level + 1) start ta) ++ t) one_b in
      let mine_is : moved_to level start (own_rounds size split.kept) ≡ moved_to level start mine = ap (λ (k : ℕ). moved_to level start (own_rounds k split.kept)) (size_is ∙ sym n_is) in
      let steps : suc (last - (level + 1)) ≡ last - level = omega (arith, order) in
      let below : limits.leaf < n = omega (arith, large, n_is) in
      let halved : IsBisected own limits (suc (last - (level + 1))) (all_places own) both.into total = inr (
        below,
        record {
          left = record { a = half_a is.places; b = half_b is.places };
          records = split.kept;
          are_halves = is.are_halves;
          cells_a = first.cells_first;
          cells_b = others.cells_first;
          trace_a = ta;
          trace_b = tb;
          half_a = first.first;
          half_b = others.first;
          is_cells = into_is;
          is_trace = refl;
        },
      ) in
      record {
        cells = both.into;
        trace = total;
        parts = both.parts;
        is_bisected = subst (λ (k : ℕ). IsBisected own limits k (all_places own) both.into total) steps halved;
        are_parts = both.are_parts;
        in_order = both.in_order;
        parts_behind = both.parts_behind ∙ ap (λ (xs : List Part). xs ++ both.parts) parts_same;
        trace_behind =
            both.trace_behind ∙ ap (λ (t : List KeptRound). mid.trace ++ t) trace_is
            ∙ ap (λ (t : List KeptRound). t ++ (moved_to (level + 1) start ta ++ moved_to (level + 1) (start + len_a) tb)) (trace_more ∙ ap (λ (t : List KeptRound). old.trace ++ t) mine_is)
            ∙ append_assoc old.trace (moved_to level start mine) (moved_to (level + 1) start ta ++ moved_to (level + 1) (start + len_a) tb)
            ∙ ap (λ (t : List KeptRound). old.trace ++ t) (sym (append_assoc (moved_to level start mine) (moved_to (level + 1) start ta) (moved_to (level + 1) (start + len_a) tb)) ∙ sym moved);
      }

-- ---- from a cell's own rows to those of the whole

module _ (laws : AreLaws) (whole : ForwardIndex) (limits : Limits) (depth level last start : ℕ) (cell : List ℕ) (document : ℕ → ℕ) (rows : ForwardIndex) (docs : List ℕ) (old new : Output) (sound : IsForward whole) (cell_in : IsCellIn whole cell)
    (rows_sound : IsForward rows) (is_cell : IsCellOf whole cell rows) where
  pub made_over : IsMade rows limits depth level last start (all_places rows) (λ k. get_or (map document cell) k 0) docs old new → IsMade whole limits depth level last start cell document docs old new
  made_over made =
      let n_is : length rows.rows ≡ length cell = rows_len whole cell rows is_cell in
      let rising = range_rising (length rows.rows) in
      let below : All (λ k. k < length cell) (all_places rows) = subst (λ (n : ℕ). All (λ k. k < n) (all_places rows)) n_is (range_below (length rows.rows)) in
      let through : ℕ → ℕ = λ (k : ℕ). get_or cell k 0 in
      let over = laws.over whole rows cell limits (last - level) (all_places rows) made.cells made.trace sound rows_sound cell_in.rising is_cell rising below made.is_bisected in
      let all_is : map through (all_places rows) ≡ cell = look_all cell (length rows.rows) (sym n_is) in
      let once = laws.once rows limits (last - level) (all_places rows) made.cells made.trace rising made.is_bisected in
      let low : All (λ k. k < length cell) (order_of made.cells) = All-permutation (λ (k : ℕ). k < length cell) (all_places rows) (order_of made.cells) once.documents below in
      record {
        cells = map (map through) made.cells;
        trace = made.trace;
        parts = made.parts;
        is_bisected = subst (λ (c : List ℕ). IsBisected whole limits (last - level) c (map (map through) made.cells) made.trace) all_is over;
        are_parts = parts_over whole rows cell limits depth last laws.inner rows_sound is_cell made.cells made.parts low made.are_parts;
        in_order = made.in_order ∙ look_through document cell (order_of made.cells) low ∙ ap (map document) (sym (order_through through made.cells));
        parts_behind = made.parts_behind;
        trace_behind = made.trace_behind;
      }
