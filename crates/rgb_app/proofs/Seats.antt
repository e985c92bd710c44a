-- Readers that get a seat, and seats after their turns.
use Rattle.std.proofs.Common.{◌≡◌, ℕ, ◌+◌, ◌<◌, List, [], ◌∷◌, ◌++◌, length, get_or, Result, Ok, Err, IfOk, All, sym, ap, subst, ◌∙◌, arith}
use Rattle.std.proofs.Math.Seq.{get_or-append_seam}
use Rattle.std.proofs.Math.ListN.{get_or-append}
use Rattle.std.proofs.lemmas.List.{length-append}
use Rattle.std.proofs.lemmas.List.Elements.{All-push}
use Rattle.std.proofs.lemmas.Option.{slice_get_within, get_or_from_slice_get}
use Rattle.std.specs.Global.{Vec}
use Rattle.query_file.specs.Queries.{Numbered}
use Rattle.rgb_base.specs.Parts.{IndexParts}
use Rattle.live_index.specs.declared.history.History.{History}
use Rattle.live_index.specs.History.{IsOfSame}
use Rattle.rgb_app.specs.Turns.{AreInTurn, IsTurn, AreTurns, IsSeat, IsPublished, IsBeside}
use Rattle.rgb_app.specs.declared.plan.SlabPlan.{SlabPlan}
use Rattle.rgb_app.specs.declared.live_answers.LiveAnswer.{LiveAnswer}
use Rattle.rgb_app.specs.declared.beside.Seat.{Seat}
use Rattle.rgb_app.specs.declared.beside.Beside.{Beside}
use Rattle.rgb_app.specs.declared.beside.Published.{Published}

-- ---- seats

front_of_all : {A : Type 0} (ys zs : List A) (P : A → Type 0) → All P (ys ++ zs) → All P ys
front_of_all ys zs P all k d lt = subst P (get_or-append ys zs d k lt) (all k d (omega (arith, lt, length-append ys zs)))

last_of_all : {A : Type 0} (ys : List A) (x : A) (P : A → Type 0) → All P (ys ++ x ∷ []) → P x
last_of_all ys x P all = subst P (get_or-append_seam ys x [] x) (all (length ys) x (omega (arith, length-append ys (x ∷ []))))

-- one reader more has a seat
pub one_more_seat : (history : History SlabPlan) (readers rest : List (History SlabPlan)) (reader : History SlabPlan) (seats more : List Seat) (seat : Seat) → readers ≡ rest ++ reader ∷ [] → more ≡ seats ++ seat ∷ [] → seat.reader ≡ reader
    → All (IsOfSame history) readers × All (λ (seat : Seat). IsOfSame history seat.reader) seats → All (IsOfSame history) rest × All (λ (seat : Seat). IsOfSame history seat.reader) more
one_more_seat history readers rest reader seats more seat is more_is own all =
    let readers_all : All (IsOfSame history) (rest ++ reader ∷ []) = subst (λ (rs : List (History SlabPlan)). All (IsOfSame history) rs) is all.0 in (
      front_of_all rest (reader ∷ []) (IsOfSame history) readers_all,
      subst (λ (ss : List Seat). All (λ (seat : Seat). IsOfSame history seat.reader) ss) (sym more_is)
          (All-push (λ (seat : Seat). IsOfSame history seat.reader) seats seat all.1 (subst (λ (r : History SlabPlan). IsOfSame history r) (sym own) (last_of_all rest reader (IsOfSame history) readers_all))),
    )

pub counted : (readers rest : List (History SlabPlan)) (reader : History SlabPlan) (seats more : List Seat) (seat : Seat) (all : ℕ) → readers ≡ rest ++ reader ∷ [] → more ≡ seats ++ seat ∷ [] → length seats + length readers ≡ all
    → length more + length rest ≡ all
counted readers rest reader seats more seat all is more_is len =
    let fewer : length readers ≡ length rest + length (reader ∷ []) = ap length is ∙ length-append rest (reader ∷ []) in
    let longer : length more ≡ length seats + length (seat ∷ []) = ap length more_is ∙ length-append seats (seat ∷ []) in
    omega (arith, len, fewer, longer)

-- ---- after the turns

-- a reader that took its turns, of the history that it began with
pub seat_after : (history : History SlabPlan) (queries : List Numbered) (readers reader : ℕ) (before after : Seat) → IsOfSame history before.reader → IsTurn queries readers reader before after → IsSeat history.base history.plan queries readers reader after
seat_after history queries readers reader before after own turn = record {
  base = turn.same.base ∙ own.base;
  plan_is = turn.same.plan ∙ own.plan;
  answered = moved after.answers turn.answered;
}
  where
    by_base : (index : IndexParts) (plan : SlabPlan) → before.reader.base ≡ index → before.reader.plan ≡ plan → (answers : List LiveAnswer) → AreInTurn before.reader.plan.options before.reader.base queries readers reader answers
        → AreInTurn plan.options index queries readers reader answers
    by_base index plan base_is plan_is answers is =
        subst (λ (p : SlabPlan). AreInTurn p.options index queries readers reader answers) plan_is (subst (λ (i : IndexParts). AreInTurn before.reader.plan.options i queries readers reader answers) base_is is)

    moved : {E : Type 0} (answers : Result (Vec LiveAnswer) E) → IfOk answers (λ answers. AreInTurn before.reader.plan.options before.reader.base queries readers reader answers.items) → IfOk answers (λ answers. AreInTurn history.plan.options history.base queries readers reader answers.items)
    moved (Err e) is = tt
    moved (Ok answers) is = by_base history.base history.plan own.base own.plan answers.items is

-- the readers and the publisher afterwards
pub beside_is : (history : History SlabPlan) (queries : List Numbered) (readers : ℕ) (before : List Seat) (beside : Beside) → length before ≡ readers → All (λ (seat : Seat). IsOfSame history seat.reader) before
    → AreTurns queries before beside.seats.items → IsPublished history.base history.plan beside.published → IsBeside history.base history.plan queries readers beside
beside_is history queries readers before beside len same turns published = record {
  published = published;
  len = turns.len ∙ len;
  each = λ reader seat is.
      let lt : reader < length before = omega (arith, slice_get_within beside.seats.items reader seat is, turns.len) in
      let at : get_or beside.seats.items reader seat ≡ seat = get_or_from_slice_get beside.seats.items reader seat seat is in
      let turn : IsTurn queries (length before) reader (get_or before reader seat) seat = subst (λ (s : Seat). IsTurn queries (length before) reader (get_or before reader seat) s) at (turns.each reader seat lt) in
      seat_after history queries readers reader (get_or before reader seat) seat (same reader seat lt) (subst (λ (n : ℕ). IsTurn queries n reader (get_or before reader seat) seat) len turn);
}

pub published_is : {E : Type 0} (index : IndexParts) (plan : SlabPlan) (all : Result Published E) (published : Published) → IfOk all (IsPublished index plan) → all ≡ Ok published → IsPublished index plan published
published_is index plan all published is at = subst (λ (r : Result Published _). IfOk r (IsPublished index plan)) at is
