-- Cells that each come to their own: all of them begin elsewhere, or stand in two parts.
use Rattle.std.proofs.Common.{◌≡◌, ℕ, ◌+◌, List, [], ◌∷◌, ◌++◌, length, refl, sym, ap, ap₂, subst, ◌∙◌, arith, append_assoc}
use Rattle.std.proofs.lemmas.List.{length-append}
use Rattle.forward_index.specs.Forward.{ForwardIndex}
use Rattle.cell_claims.specs.declared.trace.KeptRound.{KeptRound}
use Rattle.bisection.specs.Trace.{moved_to}
use Rattle.bisection.specs.Recursion.{Limits, IsBisected, order_of}
use Rattle.bisection.specs.Laws.{AreFirst, AreBisected}
use Rattle.bisection.proofs.LawMoves.{moved_twice, moved-append}

module _ (forward : ForwardIndex) (limits : Limits) (depth : ℕ) where
  -- the same cells by another level and start
  pub record AreMoved (level start more_level more_start : ℕ) (cells parts : List (List ℕ)) (trace : List KeptRound) : Type 0 where
    pub before : List KeptRound
    pub are : AreBisected forward limits depth level start cells parts before
    pub is : trace ≡ moved_to more_level more_start before

  moved_first : (level start more_level more_start : ℕ) (cell : List ℕ) (others parts : List (List ℕ)) (trace : List KeptRound)
      (is : AreFirst (IsBisected forward limits depth cell) (AreBisected forward limits depth (level + more_level) (start + more_start + length cell) others) (level + more_level) (start + more_start) parts trace)
      → AreMoved level (start + length cell) more_level more_start others is.cells_others is.trace_others → AreMoved level start more_level more_start (cell ∷ others) parts trace
  moved_first level start more_level more_start cell others parts trace is rest = record {
    before = moved_to level start is.trace_first ++ rest.before;
    are = record {
      cells_first = is.cells_first;
      cells_others = is.cells_others;
      trace_first = is.trace_first;
      trace_others = rest.before;
      first = is.first;
      others = rest.are;
      is_cells = is.is_cells;
      is_trace = refl;
    };
    is = is.is_trace
        ∙ ap₂ (λ (xs ys : List KeptRound). xs ++ ys) (moved_twice level start more_level more_start is.trace_first) rest.is
        ∙ sym (moved-append more_level more_start (moved_to level start is.trace_first) rest.before);
  }

  pub moved_back : (level start more_level more_start : ℕ) (cells parts : List (List ℕ)) (trace : List KeptRound)
      → AreBisected forward limits depth (level + more_level) (start + more_start) cells parts trace → AreMoved level start more_level more_start cells parts trace
  moved_back level start more_level more_start [] parts trace is = record { before = []; are = (is.0, refl); is = is.1 }
  moved_back level start more_level more_start (cell ∷ others) parts trace is =
      let at : start + more_start + length cell ≡ start + length cell + more_start = omega arith in
      let rest : AreBisected forward limits depth (level + more_level) (start + length cell + more_start) others is.cells_others is.trace_others =
      subst (λ (n : ℕ). AreBisected forward limits depth (level + more_level) n others is.cells_others is.trace_others) at is.others in
      moved_first level start more_level more_start cell others parts trace is (moved_back level (start + length cell) more_level more_start others is.cells_others is.trace_others rest)

  -- ---- in two parts

  pub record AreBoth (level start : ℕ) (cells_a cells_b parts : List (List ℕ)) (trace : List KeptRound) : Type 0 where
    pub parts_a : List (List ℕ)
    pub parts_b : List (List ℕ)
    pub trace_a : List KeptRound
    pub trace_b : List KeptRound
    pub are_a : AreBisected forward limits depth level start cells_a parts_a trace_a
    pub are_b : AreBisected forward limits depth level (start + length (order_of cells_a)) cells_b parts_b trace_b
    pub is_parts : parts ≡ parts_a ++ parts_b
    pub is_trace : trace ≡ trace_a ++ trace_b

  both_first : (level start : ℕ) (cell : List ℕ) (others cells_b parts : List (List ℕ)) (trace : List KeptRound)
      (is : AreFirst (IsBisected forward limits depth cell) (AreBisected forward limits depth level (start + length cell) (others ++ cells_b)) level start parts trace)
      → AreBoth level (start + length cell) others cells_b is.cells_others is.trace_others → AreBoth level start (cell ∷ others) cells_b parts trace
  both_first level start cell others cells_b parts trace is rest =
      let at : start + length cell + length (order_of others) ≡ start + length (cell ++ order_of others) = omega (arith, length-append cell (order_of others)) in
      record {
        parts_a = is.cells_first ++ rest.parts_a;
        parts_b = rest.parts_b;
        trace_a = moved_to level start is.trace_first ++ rest.trace_a;
        trace_b = rest.trace_b;
        are_a = record {
          cells_first = is.cells_first;
          cells_others = rest.parts_a;
          trace_first = is.trace_first;
          trace_others = rest.trace_a;
          first = is.first;
          others = rest.are_a;
          is_cells = refl;
          is_trace = refl;
        };
        are_b = subst (λ (n : ℕ). AreBisected forward limits depth level n cells_b rest.parts_b rest.trace_b) at rest.are_b;
        is_parts = is.is_cells ∙ ap (λ (xs : List (List ℕ)). is.cells_first ++ xs) rest.is_parts ∙ sym (append_assoc is.cells_first rest.parts_a rest.parts_b);
        is_trace = is.is_trace ∙ ap (λ (xs : List KeptRound). moved_to level start is.trace_first ++ xs) rest.is_trace ∙ sym (append_assoc (moved_to level start is.trace_first) rest.trace_a rest.trace_b);
      }

  pub in_two : (level start : ℕ) (cells_a cells_b parts : List (List ℕ)) (trace : List KeptRound)
      → AreBisected forward limits depth level start (cells_a ++ cells_b) parts trace → AreBoth level start cells_a cells_b parts trace
  in_two level start [] cells_b parts trace is =
      let at : start ≡ start + 0 = omega arith in
      record {
        parts_a = [];
        parts_b = parts;
        trace_a = [];
        trace_b = trace;
        are_a = (refl, refl);
        are_b = subst (λ (n : ℕ). AreBisected forward limits depth level n cells_b parts trace) at is;
        is_parts = refl;
        is_trace = refl;
      }
  in_two level start (cell ∷ others) cells_b parts trace is =
      both_first level start cell others cells_b parts trace is (in_two level (start + length cell) others cells_b is.cells_others is.trace_others is.others)
