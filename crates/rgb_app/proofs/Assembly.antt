-- What the readers' seats hold after a reordering, and what a live index is opened with.
use Rattle.std.proofs.Common.{◌≡◌, ◌⊎◌, ℕ, zero, suc, ◌+◌, ◌<◌, List, [], ◌∷◌, ◌++◌, length, map, get_or, take, drop, slice_get, Some, Ok, IfOk, All, refl, sym, ap, subst, ◌∙◌, inl, inr, arith}
use Rattle.std.specs.Global.{Vec}
use Rattle.std.proofs.lemmas.List.{length_push, length-map}
use Rattle.std.proofs.lemmas.List.Elements.{All-weaker}
use Rattle.std.proofs.Math.Seq.{take-append_seam}
use Rattle.std.proofs.lemmas.Option.{same_Some, none-some, slice_get_within, get_or_from_slice_get, slice_get-get_or}
use Rattle.rgb_base.specs.Parts.{IndexParts}
use Rattle.cell_claims.specs.declared.trace.KeptRound.{KeptRound}
use Rattle.query_file.specs.Queries.{Numbered}
use Rattle.live_index.specs.declared.history.History.{History}
use Rattle.live_index.specs.History.{IsOfSame, opened}
use Rattle.command_words.specs.declared.reordering.Reordering.{Reordering}
use Rattle.postings_rewrite.specs.Renumbering.{IsRenumbered}
use Rattle.rgb_app.specs.Live.{AreLiveAnswers, AreAt, last_of}
use Rattle.rgb_app.specs.Prepared.{text_of}
use Rattle.rgb_app.specs.Reordering.{IsReordered}
use Rattle.rgb_app.specs.Text.{reorder_text}
use Rattle.rgb_app.specs.Turns.{AreInTurn, AreByReader, IsSeat, AreOfSeats, IsBeside, IsLived}
use Rattle.rgb_app.specs.declared.live_answers.LiveAnswer.{LiveAnswer}
use Rattle.rgb_app.specs.declared.plan.SlabPlan.{SlabPlan}
use Rattle.rgb_app.specs.declared.beside.Seat.{Seat}
use Rattle.rgb_app.specs.declared.beside.Beside.{Beside}
use Rattle.rgb_app.specs.declared.reordering.Reordered.{Reordered}
use Rattle.rgb_app.proofs.Turning.{pushed_at}

-- ---- the opening

-- readers that were just opened are of the publisher's index and plan
pub same_when_opened : (base : IndexParts) (plan : SlabPlan) (publisher : History SlabPlan) (readers : List (History SlabPlan)) → publisher ≡ opened base plan → All (λ reader. reader ≡ opened base plan) readers
    → All (IsOfSame publisher) readers
same_when_opened base plan publisher readers is are =
    All-weaker (λ reader. reader ≡ opened base plan) (IsOfSame publisher) (λ reader own. record {
      base = ap (λ (h : History SlabPlan). h.base) own ∙ sym (ap (λ (h : History SlabPlan). h.base) is);
      plan = ap (λ (h : History SlabPlan). h.plan) own ∙ sym (ap (λ (h : History SlabPlan). h.plan) is);
    }) readers are

-- ---- what the seats hold

pub none_of_seats : AreOfSeats [] []
none_of_seats = record {
  len = refl;
  each = λ reader seat answers is answered. absurd (none-some seat is);
}

pub one_more_of_seats : (seats : List Seat) (by_reader : List (Vec LiveAnswer)) (seat : Seat) (answers : Vec LiveAnswer) → AreOfSeats seats by_reader → seat.answers ≡ Ok answers
    → AreOfSeats (seats ++ seat ∷ []) (by_reader ++ answers ∷ [])
one_more_of_seats seats by_reader seat answers are is = record {
  len = length_push by_reader answers ∙ ap (λ (n : ℕ). n + 1) are.len ∙ sym (length_push seats seat);
  each = λ reader one got at got_at. by reader one got (pushed_at seats seat one reader at) (pushed_at by_reader answers got reader got_at);
}
  where
    by : (reader : ℕ) (one : Seat) (got : Vec LiveAnswer) → (slice_get seats reader ≡ Some one) ⊎ ((reader ≡ length seats) × (one ≡ seat))
        → (slice_get by_reader reader ≡ Some got) ⊎ ((reader ≡ length by_reader) × (got ≡ answers)) → one.answers ≡ Ok got
    by reader one got (inl p) (inl q) = are.each reader one got p q
    by reader one got (inl p) (inr q) = absurd (omega (arith, slice_get_within seats reader one p, q.0, are.len))
    by reader one got (inr p) (inl q) = absurd (omega (arith, slice_get_within by_reader reader got q, p.0, are.len))
    by reader one got (inr p) (inr q) = ap (λ (s : Seat). s.answers) p.1 ∙ is ∙ ap Ok (sym q.1)

-- the element at a place
found : {A : Type 0} (xs : List A) (k : ℕ) → k < length xs → (x : A) × (slice_get xs k ≡ Some x)
found [] k lt = absurd (omega (arith, lt))
found (x ∷ xs) zero lt = (x, refl)
found (x ∷ xs) (suc k) lt = found xs k (omega (arith, lt))

-- the element from which that of a mapped list is
mapped_from : {A B : Type 0} (v : A → B) (xs : List A) (k : ℕ) (b : B) → slice_get (map v xs) k ≡ Some b → (a : A) × (slice_get xs k ≡ Some a) × (v a ≡ b)
mapped_from v [] k b is = absurd (none-some b is)
mapped_from v (x ∷ xs) zero b is = (x, refl, same_Some (v x) b is)
mapped_from v (x ∷ xs) (suc k) b is = mapped_from v xs k b is

-- what the readers were answered, as the seats hold it after the first of them answered once more
pub by_reader_is : (index : IndexParts) (plan : SlabPlan) (queries : List Numbered) (readers : ℕ) (seats later : List Seat) (by_reader : List (Vec LiveAnswer)) → length seats ≡ readers
    → ((reader : ℕ) (seat : Seat) → slice_get seats reader ≡ Some seat → IsSeat index plan queries readers reader seat) → length later ≡ length seats
    → ((reader : ℕ) (seat : Seat) → reader < length seats → (get_or later reader seat).answers ≡ (get_or seats reader seat).answers) → AreOfSeats later by_reader
    → AreByReader plan.options index queries readers readers (map (λ answers. answers.items) by_reader)
by_reader_is index plan queries readers seats later by_reader count are later_len same held = record {
  len = length-map by_reader (λ (answers : Vec LiveAnswer). answers.items) ∙ held.len ∙ later_len ∙ count;
  each = λ reader answers is. by reader answers (mapped_from (λ (answers : Vec LiveAnswer). answers.items) by_reader reader answers is);
}
  where
    by : (reader : ℕ) (answers : List LiveAnswer) → ((got : Vec LiveAnswer) × (slice_get by_reader reader ≡ Some got) × (got.items ≡ answers)) → AreInTurn plan.options index queries readers reader answers
    by reader answers (got, at, items) =
        let below : reader < length later = omega (arith, slice_get_within by_reader reader got at, held.len) in
        let within : reader < length seats = omega (arith, below, later_len) in
        let seat = found later reader below in
        let old = get_or seats reader seat.0 in
        let of_seat = are reader old (slice_get-get_or seats reader seat.0 within) in
        let old_is : old.answers ≡ Ok got =
        sym (same reader seat.0 within) ∙ ap (λ (s : Seat). s.answers) (get_or_from_slice_get later reader seat.0 seat.0 seat.1) ∙ held.each reader seat.0 got seat.1 at in
        let turn : AreInTurn plan.options index queries readers reader got.items =
        subst (λ r. IfOk r (λ (all : Vec LiveAnswer). AreInTurn plan.options index queries readers reader all.items)) old_is of_seat.answered in
        subst (AreInTurn plan.options index queries readers reader) items turn

-- the readers at the seats are of the index and the plan that the publisher's note tells of
pub seats_base : (index : IndexParts) (plan : SlabPlan) (queries : List Numbered) (readers : ℕ) (beside : Beside) (seats : List Seat) → IsBeside index plan queries readers beside → seats ≡ beside.seats.items
    → (k : ℕ) (seat : Seat) → k < length seats → (get_or seats k seat).reader.base ≡ beside.published.note.base
seats_base index plan queries readers beside seats all is k seat lt =
    let at : slice_get beside.seats.items k ≡ Some (get_or seats k seat) = sym (ap (λ (s : List Seat). slice_get s k) is) ∙ slice_get-get_or seats k seat lt in
    (all.each k (get_or seats k seat) at).base ∙ sym all.published.base

pub seats_plan : (index : IndexParts) (plan : SlabPlan) (queries : List Numbered) (readers : ℕ) (beside : Beside) (seats : List Seat) → IsBeside index plan queries readers beside → seats ≡ beside.seats.items
    → (k : ℕ) (seat : Seat) → k < length seats → (get_or seats k seat).reader.plan ≡ beside.published.note.plan
seats_plan index plan queries readers beside seats all is k seat lt =
    let at : slice_get beside.seats.items k ≡ Some (get_or seats k seat) = sym (ap (λ (s : List Seat). slice_get s k) is) ∙ slice_get-get_or seats k seat lt in
    (all.each k (get_or seats k seat) at).plan_is ∙ sym all.published.plan_is

-- the seats after a slice of them all was written
pub written_back : (count : ℕ) (new old : List Seat) → count ≡ length new → take count (new ++ drop (length new) old) ≡ new
written_back count new old is = ap (λ (n : ℕ). take n (new ++ drop (length new) old)) is ∙ take-append_seam new (drop (length new) old)

-- ---- all of the work

-- the new index, and its text
reordered_is : (options : Reordering) (index new : IndexParts) (rounds : List KeptRound) (work : Reordered) → IsReordered options index new rounds → work.new ≡ new → work.rounds ≡ rounds
    → IsReordered options index work.new work.rounds
reordered_is options index new rounds work is new_is rounds_are =
    subst (λ (n : IndexParts). IsReordered options index n work.rounds) (sym new_is) (subst (λ (t : List KeptRound). IsReordered options index new t) (sym rounds_are) is)

reordered_text : (index new : IndexParts) (rounds : List KeptRound) (work : Reordered) → text_of work ≡ reorder_text index new rounds → work.new ≡ new → work.rounds ≡ rounds
    → text_of work ≡ reorder_text index work.new work.rounds
reordered_text index new rounds work is new_is rounds_are =
    is ∙ ap (λ (n : IndexParts). reorder_text index n rounds) (sym new_is) ∙ ap (λ (t : List KeptRound). reorder_text index work.new t) (sym rounds_are)

pub lived_is : (options : Reordering) (readers : ℕ) (index new : IndexParts) (queries : List Numbered) (beside : Beside) (later : List Seat) (work : Reordered) (by_reader : Vec (Vec LiveAnswer)) (finals : Vec LiveAnswer)
    → IsBeside index (record { options = options }) queries readers beside → length later ≡ length beside.seats.items
    → ((reader : ℕ) (seat : Seat) → reader < length beside.seats.items → (get_or later reader seat).answers ≡ (get_or beside.seats.items reader seat).answers) → AreOfSeats later by_reader.items
    → IsRenumbered index beside.published.numbering new → work.new ≡ new → work.rounds ≡ beside.published.rounds → text_of work ≡ reorder_text index new beside.published.rounds
    → AreLiveAnswers beside.published.note.plan.options beside.published.note.base queries finals.items → AreAt (last_of beside.published.note.plan.options) finals.items
    → IsLived options readers index queries (record { work = work; by_reader = by_reader; finals = finals })
lived_is options readers index new queries beside later work by_reader finals all later_len same held renumbered new_is rounds_are text finals_are at =
    let note = beside.published.note in
    let plan : SlabPlan = record { options = options } in
    record {
      reordered = reordered_is options index new beside.published.rounds work
          (record { numbering = beside.published.numbering; is_numbering = all.published.numbering; is_renumbered = renumbered }) new_is rounds_are;
      text = reordered_text index new beside.published.rounds work text new_is rounds_are;
      by_reader = by_reader_is index plan queries readers beside.seats.items later by_reader.items all.len all.each later_len same held;
      finals = subst (λ (p : SlabPlan). AreLiveAnswers p.options index queries finals.items) all.published.plan_is
          (subst (λ (b : IndexParts). AreLiveAnswers note.plan.options b queries finals.items) all.published.base finals_are);
      last = subst (λ (p : SlabPlan). AreAt (last_of p.options) finals.items) all.published.plan_is at;
    }
