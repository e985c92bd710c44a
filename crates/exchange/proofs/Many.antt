-- Many documents that are moved across.
use Rattle.std.proofs.Common.{◌≡◌, ℕ, ◌+◌, ◌-◌, ◌*◌, ◌^◌, ◌<◌, ◌≤◌, ℤ, ◌+ℤ◌, ◌-ℤ◌, Bool, true, cond, List, length, get_or, map, take, refl, sym, subst, ap, ◌∙◌, All, arith}
use Rattle.std.specs.Prelude.{nat_eq}
use Rattle.std.specs.List.{range_with_len}
use Rattle.std.proofs.lemmas.Int.{ints}
use Rattle.std.proofs.lemmas.Grind.{same_number_lists}
use Rattle.std.proofs.lemmas.Bool.Decides.{nat_tests}
use Rattle.std.proofs.lemmas.List.{length-map, get_or_default}
use Rattle.std.proofs.lemmas.List.Folds.{list_any_at}
use Rattle.std.proofs.lemmas.List.FromFn.{length-range_with_len, length-map-range_with_len}
use Rattle.std.proofs.lemmas.List.Sums.{sum_by_more, sum_by-take-le}
use Rattle.rgb_base.specs.declared.parts.Side.{Side}
use Rattle.rgb_base.specs.declared.parts.Side.TheVariants.{A, B}
use Rattle.fixed_log.specs.Log.{LogIsSmall}
use Rattle.forward_index.specs.Forward.{ForwardIndex, IsForward, IsRow, row_at}
use Rattle.degrees.specs.Cost.{has_term, degree, part}
use Rattle.degrees.specs.Counts.{Counted, AreBelow, IsCounted, counts_in, IsCountedIn, moved_across, cost_of}
use Rattle.exchange.specs.Gain.{gain_of, IsReady}
use Rattle.exchange.specs.Tries.{all_less, all_more, all_across, docs_of, IsWithin, AreCountedIn}
use Rattle.exchange.specs.declared.entry.Entry.{Entry}
use Rattle.exchange.specs.Tries.{no_entry}
use Rattle.exchange.proofs.Ranked.{doc_at}
use Rattle.exchange.proofs.Moved.{made_at, across_one, cost_after, all_below}
use Rattle.exchange.proofs.Bounds.{part_small, total_small}
use Rattle.exchange.proofs.RowGains.{row_is, within_weaker, within_sum}

-- ---- a front of documents, and one more

pub degree_more : (forward : ForwardIndex) (docs : List ℕ) (i doc t : ℕ) → i < length docs → doc ≡ get_or docs i 0 → degree forward (take (i + 1) docs) t ≡ degree forward (take i docs) t + cond (has_term (row_at forward.rows doc) t) 1 0
degree_more forward docs i doc t within is =
    sum_by_more (λ (place : ℕ). cond (has_term (row_at forward.rows place) t) 1 0) docs i 0 within
    ∙ ap (λ (place : ℕ). degree forward (take i docs) t + cond (has_term (row_at forward.rows place) t) 1 0) (sym is)

pub degree_front : (forward : ForwardIndex) (docs : List ℕ) (i t : ℕ) → degree forward (take i docs) t ≤ degree forward docs t
degree_front forward docs i t = sum_by-take-le (λ (place : ℕ). cond (has_term (row_at forward.rows place) t) 1 0) docs i

itself : (t : ℕ) → nat_eq t t ≡ true
itself t = grind (arith, nat_tests)

pub has_own : (row : List ℕ) (k d : ℕ) → k < length row → has_term row (get_or row k d) ≡ true
has_own row k d within = list_any_at (λ (entry : ℕ). nat_eq entry (get_or row k d)) row k d within (itself (get_or row k d))

-- ---- tables by a side

pub length_across : (side : Side) (number : ℕ → ℕ) (table : Counted) → length (all_across side number table).a ≡ length table.a
length_across A number table = length-map-range_with_len (λ t. get_or table.a t 0 - number t) 0 (length table.a)
length_across B number table = length-map-range_with_len (λ t. get_or table.a t 0 + number t) 0 (length table.a)

length_across_b : (side : Side) (number : ℕ → ℕ) (table : Counted) → length (all_across side number table).b ≡ length table.b
length_across_b A number table = length-map-range_with_len (λ t. get_or table.b t 0 + number t) 0 (length table.b)
length_across_b B number table = length-map-range_with_len (λ t. get_or table.b t 0 - number t) 0 (length table.b)

pub in_across : (side : Side) (number : ℕ → ℕ) (table : Counted) (t : ℕ) → length table.b ≡ length table.a → t < length table.a → get_or (counts_in side (all_across side number table)) t 0 ≡ get_or (counts_in side table) t 0 - number t
in_across A number table t len within = made_at (λ u. get_or table.a u 0 - number u) (length table.a) t within
in_across B number table t len within = made_at (λ u. get_or table.b u 0 - number u) (length table.b) t (omega (arith, within, len))

both_across : (side : Side) (number : ℕ → ℕ) (table : Counted) (t : ℕ) → length table.b ≡ length table.a → t < length table.a → number t ≤ get_or (counts_in side table) t 0
    → get_or (all_across side number table).a t 0 + get_or (all_across side number table).b t 0 ≡ get_or table.a t 0 + get_or table.b t 0
both_across A number table t len within low =
    omega (arith, low, made_at (λ u. get_or table.a u 0 - number u) (length table.a) t within, made_at (λ u. get_or table.b u 0 + number u) (length table.b) t (omega (arith, within, len)))
both_across B number table t len within low =
    omega (arith, low, made_at (λ u. get_or table.a u 0 + number u) (length table.a) t within, made_at (λ u. get_or table.b u 0 - number u) (length table.b) t (omega (arith, within, len)))

pub ready_across : (top : ℕ) (side : Side) (number : ℕ → ℕ) (table : Counted) → length table.b ≡ length table.a → AreCountedIn side number table → IsReady top table → IsReady top (all_across side number table)
ready_across top A number table len low ready = record {
  some_a = ready.some_a;
  some_b = ready.some_b;
  low_a = ready.low_a;
  low_b = ready.low_b;
  both = λ t within.
      let inside : t < length table.a = omega (arith, within, length_across A number table) in
      omega (arith, ready.both t inside, both_across A number table t len inside (low t inside));
}
ready_across top B number table len low ready = record {
  some_a = ready.some_a;
  some_b = ready.some_b;
  low_a = ready.low_a;
  low_b = ready.low_b;
  both = λ t within.
      let inside : t < length table.a = omega (arith, within, length_across B number table) in
      omega (arith, ready.both t inside, both_across B number table t len inside (low t inside));
}

as_it_was : (xs : List ℕ) (f : ℕ → ℕ) → ((t : ℕ) → f t ≡ get_or xs t 0) → map f (range_with_len 0 (length xs)) ≡ xs
as_it_was xs f is =
    same_number_lists (map f (range_with_len 0 (length xs))) xs (length-map-range_with_len f 0 (length xs))
    (λ k within. made_at f (length xs) k (omega (arith, within, length-map-range_with_len f 0 (length xs))) ∙ is k)

pub none_across : (side : Side) (number : ℕ → ℕ) (table : Counted) → ((t : ℕ) → number t ≡ 0) → table ≡ all_across side number table
none_across A number table none =
    ap (λ (xs : List ℕ). let t : Counted = record { a = xs; b = table.b; len_a = table.len_a; len_b = table.len_b; loads = table.loads } in t) (sym (as_it_was table.a (λ t. get_or table.a t 0 - number t) (λ t. omega (arith, none t))))
    ∙ ap (λ (ys : List ℕ). let t : Counted = record { a = all_less number table.a; b = ys; len_a = table.len_a; len_b = table.len_b; loads = table.loads } in t) (sym (as_it_was table.b (λ t. get_or table.b t 0 + number t) (λ t. omega (arith, none t))))
none_across B number table none =
    ap (λ (xs : List ℕ). let t : Counted = record { a = xs; b = table.b; len_a = table.len_a; len_b = table.len_b; loads = table.loads } in t) (sym (as_it_was table.a (λ t. get_or table.a t 0 + number t) (λ t. omega (arith, none t))))
    ∙ ap (λ (ys : List ℕ). let t : Counted = record { a = all_more number table.a; b = ys; len_a = table.len_a; len_b = table.len_b; loads = table.loads } in t) (sym (as_it_was table.b (λ t. get_or table.b t 0 - number t) (λ t. omega (arith, none t))))

-- ---- costs are small

pub cost_small : LogIsSmall → (table : Counted) → IsCounted table → 0 < table.len_a → 0 < table.len_b → IsWithin (2 ^ 90) (cost_of table)
cost_small logs table sound some_a some_b =
    let terms = length table.a in
    let each : All (λ t. IsWithin (2 ^ 54) (part (get_or table.a t 0) table.len_a +ℤ part (get_or table.b t 0) table.len_b)) (range_with_len 0 terms) =
    all_below (λ t. IsWithin (2 ^ 54) (part (get_or table.a t 0) table.len_a +ℤ part (get_or table.b t 0) table.len_b)) terms (λ t within.
    let both = sound.both t within in
    let one = part_small logs (get_or table.a t 0) table.len_a some_a (omega (arith, sound.len_a)) (omega (arith, both)) in
    let two = part_small logs (get_or table.b t 0) table.len_b some_b (omega (arith, sound.len_b)) (omega (arith, both)) in
    within_sum (get_or table.a t 0 * 4194304) (get_or table.b t 0 * 4194304) (2 ^ 54) (part (get_or table.a t 0) table.len_a) (part (get_or table.b t 0) table.len_b) (part (get_or table.a t 0) table.len_a +ℤ part (get_or table.b t 0) table.len_b) one two refl (omega (arith, both))) in
    let whole = total_small (λ t. part (get_or table.a t 0) table.len_a +ℤ part (get_or table.b t 0) table.len_b) (2 ^ 54) (range_with_len 0 terms) each in
    within_weaker (length (range_with_len 0 terms) * 2 ^ 54) (2 ^ 90) (cost_of table) (omega (arith, length-range_with_len 0 terms, sound.few_terms)) whole

-- ---- one document moved after a front of documents

-- a front of a list of documents was moved, and the document behind it comes next
pub record IsFront (forward : ForwardIndex) (side : Side) (docs : List ℕ) (table now : Counted) (i doc top : ℕ) : Type 0 where
  pub sound : IsForward forward
  pub len : length table.b ≡ length table.a
  pub terms : length table.a ≡ forward.terms
  pub counted : AreCountedIn side (degree forward docs) table
  pub ready : IsReady top table
  pub now_is : now ≡ all_across side (degree forward (take i docs)) table
  pub within : i < length docs
  pub doc_is : doc ≡ get_or docs i 0
  pub below : doc < length forward.rows

pub front_of : (forward : ForwardIndex) (side : Side) (entries : List Entry) (table now : Counted) (i top : ℕ) → IsForward forward → IsCounted table → length table.a ≡ forward.terms
    → AreCountedIn side (degree forward (docs_of entries)) table → IsReady top table → now ≡ all_across side (degree forward (take i (docs_of entries))) table → i < length entries
    → All (λ entry. entry.doc < length forward.rows) entries → IsFront forward side (docs_of entries) table now i (get_or entries i no_entry).doc top
front_of forward side entries table now i top sound table_sound terms counted ready now_is within below =
    let inside : i < length (docs_of entries) = omega (arith, within, length-map entries (λ (entry : Entry). entry.doc)) in
    let at = doc_at entries i 0 no_entry within in
    record { sound = sound; len = table_sound.len; terms = terms; counted = counted; ready = ready; now_is = now_is; within = inside; doc_is = sym at; below = below i no_entry within }

module _ (forward : ForwardIndex) (side : Side) (docs : List ℕ) (table now : Counted) (i doc top : ℕ) (is : IsFront forward side docs table now i doc top) where
  low : AreCountedIn side (degree forward (take i docs)) table
  low t in_table = omega (arith, is.counted t in_table, degree_front forward docs i t)

  pub now_terms : length now.a ≡ forward.terms
  now_terms = ap (λ (t : Counted). length t.a) is.now_is ∙ length_across side (degree forward (take i docs)) table ∙ is.terms

  pub now_ready : IsReady top now
  now_ready = subst (IsReady top) (sym is.now_is) (ready_across top side (degree forward (take i docs)) table is.len low is.ready)

  is_row : IsRow forward.terms (row_at forward.rows doc)
  is_row = row_is forward doc is.sound is.below

  pub now_counted : IsCountedIn side (row_at forward.rows doc) now
  now_counted =
      subst (λ (t : Counted). IsCountedIn side (row_at forward.rows doc) t) (sym is.now_is) (λ k d in_row.
      let t = get_or (row_at forward.rows doc) k d in
      let in_table : t < length table.a = omega (arith, is.terms, is_row.below k d in_row) in
      let more = degree_more forward docs i doc t is.within is.doc_is in
      let has = ap {B = ℕ} (λ (b : Bool). cond b 1 0) (has_own (row_at forward.rows doc) k d in_row) in
      omega (arith, in_across side (degree forward (take i docs)) table t is.len in_table, is.counted t in_table, degree_front forward docs (i + 1) t, more, has))

  pub now_moved : moved_across side (row_at forward.rows doc) now ≡ all_across side (degree forward (take (i + 1) docs)) table
  now_moved =
      ap (moved_across side (row_at forward.rows doc)) is.now_is
      ∙ across_one forward side (row_at forward.rows doc) (degree forward (take i docs)) (degree forward (take (i + 1) docs)) table (λ t. degree_more forward docs i doc t is.within is.doc_is)

  pub now_costs : cost_of (moved_across side (row_at forward.rows doc) now) ≡ cost_of now -ℤ gain_of side now (row_at forward.rows doc)
  now_costs =
      cost_after side (row_at forward.rows doc) now is_row.rising (λ k d in_row. omega (arith, is_row.below k d in_row, now_terms))
      (ap (λ (t : Counted). length t.b) is.now_is ∙ length_across_b side (degree forward (take i docs)) table ∙ is.len ∙ sym (length_across side (degree forward (take i docs)) table) ∙ ap (λ (t : Counted). length t.a) (sym is.now_is))

-- what was saved and one gain more have a sum
pub saved_more : LogIsSmall → (top : ℕ) (table now : Counted) → IsCounted table → IsReady top table → IsCounted now → IsReady top now → (saved g z : ℤ)
    → saved ≡ cost_of table -ℤ cost_of now → IsWithin (2 ^ 56) g → z ≡ saved +ℤ g → IsWithin (2 ^ 92) z
saved_more logs top table now table_sound table_ready now_sound now_ready saved g z saved_is small z_is =
    let one = cost_small logs table table_sound table_ready.some_a table_ready.some_b in
    let two = cost_small logs now now_sound now_ready.some_a now_ready.some_b in
    record { low = omega (arith, ints, one.low, one.high, two.low, two.high, small.low, small.high); high = omega (arith, ints, one.low, one.high, two.low, two.high, small.low, small.high) }

pub in_beside : (number : ℕ → ℕ) (table : Counted) (t : ℕ) → length table.b ≡ length table.a → t < length table.a → get_or (counts_in B (all_across A number table)) t 0 ≡ get_or table.b t 0 + number t
in_beside number table t len within = made_at (λ u. get_or table.b u 0 + number u) (length table.b) t (omega (arith, within, len))

pub saved_small : LogIsSmall → (t u : Counted) → IsCounted t → IsCounted u → 0 < t.len_a → 0 < t.len_b → 0 < u.len_a → 0 < u.len_b → (z : ℤ) → z ≡ cost_of t -ℤ cost_of u → IsWithin (2 ^ 92) z
saved_small logs t u t_sound u_sound t_a t_b u_a u_b z z_is =
    let one = cost_small logs t t_sound t_a t_b in
    let two = cost_small logs u u_sound u_a u_b in
    record { low = omega (arith, ints, one.low, one.high, two.low, two.high); high = omega (arith, ints, one.low, one.high, two.low, two.high) }

-- counts of a table that is ready are below the number
pub below_ready : (top : ℕ) (table : Counted) → length table.b ≡ length table.a → IsReady top table → AreBelow top table
below_ready top table len ready = record {
  a = λ k d inside. omega (arith, get_or_default table.a k d 0 inside, ready.both k inside);
  b = λ k d inside. omega (arith, get_or_default table.b k d 0 inside, ready.both k (omega (arith, inside, len)));
  len_a = ready.low_a;
  len_b = ready.low_b;
}
