-- A block of places in two parts.
use Rattle.std.proofs.Common.{◌≡◌, ℕ, ◌+◌, ◌-◌, ◌<◌, ◌≤◌, List, ◌++◌, length, get_or, take, drop, sym, ap, subst, ◌∙◌, arith}
use Rattle.std.proofs.lemmas.List.{length-map, length-take-le, take_at}
use Rattle.std.proofs.lemmas.List.Sums.{sum_by-append}
use Rattle.rgb_base.specs.declared.parts.TermList.{TermList}
use Rattle.forward_index.specs.Rows.{row_from, rows_of, block, IsReady, AreFilled}
use Rattle.forward_index.proofs.Rows.{length-block, rows_both}
use Rattle.forward_index.proofs.Filling.{total, ready_at, ready_front, ready_back, filled_both}

pub length-rows : (min_df : ℕ) (lists : List TermList) (start : List ℕ) (first n : ℕ) → first + n ≤ length start → length (rows_of min_df lists (block start first n)) ≡ n
length-rows min_df lists start first n within = length-map (block start first n) (λ (document : ℕ). row_from min_df document 0 lists) ∙ length-block start first n within

module _ (min_df : ℕ) (lists : List TermList) (start : List ℕ) (first base middle : ℕ) (old entries : List ℕ) (within : first + length old ≤ length start) (inside : middle < length old) (ready : IsReady base (rows_of min_df lists (block start first (length old))) old entries) where
  abbrev front : List (List ℕ)
  front = rows_of min_df lists (block start first middle)

  abbrev back : List (List ℕ)
  back = rows_of min_df lists (block start (first + middle) (length old - middle))

  rows_split : rows_of min_df lists (block start first (length old)) ≡ front ++ back
  rows_split =
      let sum : length old ≡ middle + (length old - middle) = omega (arith, inside) in
      ap (λ (n : ℕ). rows_of min_df lists (block start first n)) sum ∙ rows_both min_df lists start first middle (length old - middle)

  ready_both : IsReady base (front ++ back) old entries
  ready_both = subst (λ (rows : List (List ℕ)). IsReady base rows old entries) rows_split ready

  length-front : length front ≡ middle
  length-front = length-rows min_df lists start first middle (omega (arith, within, inside))

  pub cut_is : get_or old middle 0 ≡ base + total front
  cut_is = ready_at base (front ++ back) old entries ready_both middle inside ∙ ap (λ (rows : List (List ℕ)). base + total rows) (take_at front back middle length-front)

  pub cut_low : base ≤ get_or old middle 0
  cut_low = omega (arith, cut_is)

  pub cut_high : get_or old middle 0 ≤ base + length entries
  cut_high = omega (arith, cut_is, ready_both.room, sum_by-append (λ (r : List ℕ). length r) front back)

  pub front_ready : (cursors near : List ℕ) → cursors ≡ take middle old → near ≡ take (get_or old middle 0 - base) entries → IsReady base (rows_of min_df lists (block start first (length cursors))) cursors near
  front_ready cursors near cursors_is near_is =
      let len : middle ≡ length cursors = sym (ap length cursors_is ∙ length-take-le middle old (omega (arith, inside))) in
      let cursors_are : cursors ≡ take (length front) old = cursors_is ∙ ap (λ (n : ℕ). take n old) (sym length-front) in
      let near_are : near ≡ take (total front) entries = near_is ∙ ap (λ (n : ℕ). take n entries) (omega (arith, cut_is)) in
      subst (λ (n : ℕ). IsReady base (rows_of min_df lists (block start first n)) cursors near) len (ready_front base front back old entries ready_both cursors near cursors_are near_are)

  pub back_ready : (cursors far : List ℕ) → cursors ≡ drop middle old → length cursors + middle ≡ length old → far ≡ drop (get_or old middle 0 - base) entries
      → IsReady (get_or old middle 0) (rows_of min_df lists (block start (first + middle) (length cursors))) cursors far
  back_ready cursors far cursors_is size far_is =
      let len : length old - middle ≡ length cursors = omega (arith, size) in
      let cursors_are : cursors ≡ drop (length front) old = cursors_is ∙ ap (λ (n : ℕ). drop n old) (sym length-front) in
      let far_are : far ≡ drop (total front) entries = far_is ∙ ap (λ (n : ℕ). drop n entries) (omega (arith, cut_is)) in
      subst (λ (n : ℕ). IsReady (get_or old middle 0) (rows_of min_df lists (block start (first + middle) n)) cursors far) len (ready_back base front back old entries ready_both (get_or old middle 0) cursors far cut_is cursors_are far_are)

  pub both_filled : (n m : ℕ) (near_ends far_ends near far : List ℕ) → n ≡ middle → m + middle ≡ length old
      → AreFilled base (rows_of min_df lists (block start first n)) near_ends near → AreFilled (get_or old middle 0) (rows_of min_df lists (block start (first + middle) m)) far_ends far
      → AreFilled base (rows_of min_df lists (block start first (length old))) (near_ends ++ far_ends) (near ++ far)
  both_filled n m near_ends far_ends near far n_is m_is first_filled second_filled =
      let m_is' : m ≡ length old - middle = omega (arith, m_is) in
      let one : AreFilled base front near_ends near = subst (λ (k : ℕ). AreFilled base (rows_of min_df lists (block start first k)) near_ends near) n_is first_filled in
      let two : AreFilled (get_or old middle 0) back far_ends far = subst (λ (k : ℕ). AreFilled (get_or old middle 0) (rows_of min_df lists (block start (first + middle) k)) far_ends far) m_is' second_filled in
      subst (λ (rows : List (List ℕ)). AreFilled base rows (near_ends ++ far_ends) (near ++ far)) (sym rows_split) (filled_both base (get_or old middle 0) front back near_ends far_ends near far cut_is one two)
