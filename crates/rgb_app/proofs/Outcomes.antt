-- A command over files comes to one outcome, and to none other.
use Rattle.std.proofs.Common.{◌≡◌, ◌⊎◌, ℕ, List, [], ◌∷◌, map, Option, Some, None, IsSomeAnd, IfSome, refl, sym, ap, subst, ◌∙◌, inl, inr, ◌≤◌, arith, min}
use Rattle.std.specs.FinMap.{get}
use Rattle.ciff_wire.specs.Laws.{AreBytes}
use Rattle.rgb_base.specs.Parts.{IndexParts, IsIndex}
use Rattle.ciff_format.specs.Canonical.{bytes_of}
use Rattle.ciff_format.specs.Accepted.{Accepted}
use Rattle.ciff_format.specs.Refused.{Refused}
use Rattle.ciff_format.specs.declared.cause.Cause.{Cause}
use Rattle.ciff_format.specs.Laws.{FileIsOneIndex, AcceptedIsIndex, RefusalIsOne, NeverBoth, EveryFileIsRead}
use Rattle.rgb_host.specs.Files.{Files}
use Rattle.command_words.specs.Line.{Word}
use Rattle.command_words.specs.Command.{Command, copy, report, reorder, query, make, live}
use Rattle.command_words.specs.declared.reordering.Reordering.{Reordering}
use Rattle.cell_claims.specs.declared.trace.KeptRound.{KeptRound}
use Rattle.rgb_app.specs.Text.{index_line, report_text, reorder_text, query_text, make_text, live_text}
use Rattle.rgb_app.specs.Reordering.{IsReordered}
use Rattle.rgb_app.specs.Summary.{IsSummary}
use Rattle.generated_index.specs.Laws.{GeneratedIsIndex}
use Rattle.rgb_app.proofs.Reorderings.{AreOne, AreThere, one_reordering, some_reordering}
use Rattle.rgb_app.proofs.Answerings.{AnswerLaws, answers_are_one, some_answers}
use Rattle.query_file.specs.Queries.{Numbered, AreQueries, IsTooLong, IsFirstFault}
use Rattle.query_file.specs.Laws.{QueriesAreOne, FirstFaultIsOne, AcceptedHasNoFault, Verdict, accepted, too_long as long_file, at_fault, EveryFileHasVerdict}
use Rattle.query_file.specs.declared.error.LineCause.{LineCause}
use Rattle.rgb_app.specs.Answering.{AreAnswers}
use Rattle.rgb_app.specs.Outcome.{Input, index_file, query_file, inputs_of, Work, Outcome, done, malformed, missing, bad_query, too_long, IsGood, Stops, FirstStops, writing, printing, index_made, IsPlain, IsLiveWork, IsWork, ComesTo}
use Rattle.rgb_app.specs.Laws.{OneOutcome, AreAlike, AlikeOutcomes, VersionsTellTheWork, SomeOutcome}
use Rattle.rgb_app.specs.Live.{AreLive}
use Rattle.rgb_app.specs.declared.live_answers.LiveAnswer.{LiveAnswer}
use Rattle.rgb_app.proofs.LiveOnes.{LiveLaws, live_answers_are_one, same_versions, same_last}
use Rattle.rgb_app.proofs.LiveThere.{some_live}

-- ---- the file of an input

-- what is found is accepted as this index, is refused so, or isn't there
abbrev IsFound : Option (List ℕ) → IndexParts → Type 0
IsFound found index = IsSomeAnd found (λ file. Accepted file index)

abbrev IsBad : Option (List ℕ) → ℕ → Cause → Type 0
IsBad found place cause = IsSomeAnd found (λ file. Refused file place cause)

one_index : FileIsOneIndex → (found : Option (List ℕ)) (i j : IndexParts) → IsFound found i → IsFound found j → i ≡ j
one_index law None i j p q = absurd p
one_index law (Some file) i j p q = law file i j p q

one_refusal : RefusalIsOne → (found : Option (List ℕ)) (p q : ℕ) (c d : Cause) → IsBad found p c → IsBad found q d → malformed p c ≡ malformed q d
one_refusal law None p q c d bad worse = absurd bad
one_refusal law (Some file) p q c d bad worse = let same = law file p q c d bad worse in ap (λ place. malformed place c) same.0 ∙ ap (malformed q) same.1

found_not_bad : NeverBoth → (found : Option (List ℕ)) (index : IndexParts) (place : ℕ) (cause : Cause) → IsFound found index → IsBad found place cause → ⊥
found_not_bad law None index place cause good bad = good
found_not_bad law (Some file) index place cause good bad = law file index place cause good bad

found_not_gone : (found : Option (List ℕ)) (index : IndexParts) → IsFound found index → found ≡ None → ⊥
found_not_gone None index good gone = good
found_not_gone (Some file) index good gone = cc

bad_not_gone : (found : Option (List ℕ)) (place : ℕ) (cause : Cause) → IsBad found place cause → found ≡ None → ⊥
bad_not_gone None place cause bad gone = bad
bad_not_gone (Some file) place cause bad gone = cc

found_is_index : AcceptedIsIndex → (found : Option (List ℕ)) (index : IndexParts) → IsFound found index → IsIndex index
found_is_index law None index found = absurd found
found_is_index law (Some file) index found = law file index found

-- ---- the file of queries

-- what is found is accepted as these queries, has this fault first, or is too long
abbrev AreFound : Option (List ℕ) → List Numbered → Type 0
AreFound found queries = IsSomeAnd found (λ file. AreQueries file queries)

abbrev IsFaulty : Option (List ℕ) → ℕ → ℕ → LineCause → Type 0
IsFaulty found line at cause = IsSomeAnd found (λ file. IsFirstFault file line at cause)

abbrev IsLong : Option (List ℕ) → Type 0
IsLong found = IsSomeAnd found IsTooLong

-- what is told of files of queries and of answers
pub record QueryLaws : Type 0 where
  pub queries : QueriesAreOne
  pub fault : FirstFaultIsOne
  pub never_both : AcceptedHasNoFault
  pub answers : AnswerLaws

same_queries : QueryLaws → (found : Option (List ℕ)) (one other : List Numbered) → AreFound found one → AreFound found other → one ≡ other
same_queries laws None one other p q = absurd p
same_queries laws (Some file) one other p q = laws.queries file one other p q

same_fault : QueryLaws → (found : Option (List ℕ)) (line number at place : ℕ) (c d : LineCause) → IsFaulty found line at c → IsFaulty found number place d → bad_query line at c ≡ bad_query number place d
same_fault laws None line number at place c d p q = absurd p
same_fault laws (Some file) line number at place c d p q =
    let same = laws.fault file line number at place c d p q in
    ap (λ n. bad_query n at c) same.0 ∙ ap (λ n. bad_query number n c) same.1 ∙ ap (bad_query number place) same.2

asked_not_faulty : QueryLaws → (found : Option (List ℕ)) (queries : List Numbered) (line at : ℕ) (cause : LineCause) → AreFound found queries → IsFaulty found line at cause → ⊥
asked_not_faulty laws None queries line at cause p q = p
asked_not_faulty laws (Some file) queries line at cause p q = laws.never_both file queries line at cause p q

asked_not_long : (found : Option (List ℕ)) (queries : List Numbered) → AreFound found queries → IsLong found → ⊥
asked_not_long None queries p q = p
asked_not_long (Some file) queries p q = omega (arith, p.few, q)

faulty_not_long : (found : Option (List ℕ)) (line at : ℕ) (cause : LineCause) → IsFaulty found line at cause → IsLong found → ⊥
faulty_not_long None line at cause p q = p
faulty_not_long (Some file) line at cause p q = omega (arith, p.few, q)

there_not_gone : (P : List ℕ → Type 0) (found : Option (List ℕ)) → IsSomeAnd found P → found ≡ None → ⊥
there_not_gone P None there gone = there
there_not_gone P (Some file) there gone = cc

-- ---- inputs

stop_is_one : RefusalIsOne → QueryLaws → (files : Files) (input : Input) (one other : Outcome) → Stops files input one → Stops files input other → one ≡ other
stop_is_one law laws files (index_file name) (malformed a c) (malformed b d) p q = one_refusal law (get files name) a b c d p q
stop_is_one law laws files (index_file name) (malformed a c) missing p q = absurd (bad_not_gone (get files name) a c p q)
stop_is_one law laws files (index_file name) missing (malformed b d) p q = absurd (bad_not_gone (get files name) b d q p)
stop_is_one law laws files (index_file name) missing missing p q = refl
stop_is_one law laws files (index_file name) (done w) other p q = absurd p
stop_is_one law laws files (index_file name) (bad_query line at cause) other p q = absurd p
stop_is_one law laws files (index_file name) too_long other p q = absurd p
stop_is_one law laws files (index_file name) (malformed a c) (done w) p q = absurd q
stop_is_one law laws files (index_file name) (malformed a c) (bad_query line at cause) p q = absurd q
stop_is_one law laws files (index_file name) (malformed a c) too_long p q = absurd q
stop_is_one law laws files (index_file name) missing (done w) p q = absurd q
stop_is_one law laws files (index_file name) missing (bad_query line at cause) p q = absurd q
stop_is_one law laws files (index_file name) missing too_long p q = absurd q
stop_is_one law laws files (query_file name) (done w) other p q = absurd p
stop_is_one law laws files (query_file name) (malformed a c) other p q = absurd p
stop_is_one law laws files (query_file name) missing (done w) p q = absurd q
stop_is_one law laws files (query_file name) missing (malformed b d) p q = absurd q
stop_is_one law laws files (query_file name) missing missing p q = refl
stop_is_one law laws files (query_file name) missing (bad_query line at cause) p q = absurd (there_not_gone (λ file. IsFirstFault file line at cause) (get files name) q p)
stop_is_one law laws files (query_file name) missing too_long p q = absurd (there_not_gone IsTooLong (get files name) q p)
stop_is_one law laws files (query_file name) (bad_query line at cause) (done w) p q = absurd q
stop_is_one law laws files (query_file name) (bad_query line at cause) (malformed b d) p q = absurd q
stop_is_one law laws files (query_file name) (bad_query line at cause) missing p q = absurd (there_not_gone (λ file. IsFirstFault file line at cause) (get files name) p q)
stop_is_one law laws files (query_file name) (bad_query line at cause) (bad_query number place other) p q = same_fault laws (get files name) line number at place cause other p q
stop_is_one law laws files (query_file name) (bad_query line at cause) too_long p q = absurd (faulty_not_long (get files name) line at cause p q)
stop_is_one law laws files (query_file name) too_long (done w) p q = absurd q
stop_is_one law laws files (query_file name) too_long (malformed b d) p q = absurd q
stop_is_one law laws files (query_file name) too_long missing p q = absurd (there_not_gone IsTooLong (get files name) p q)
stop_is_one law laws files (query_file name) too_long (bad_query line at cause) p q = absurd (faulty_not_long (get files name) line at cause q p)
stop_is_one law laws files (query_file name) too_long too_long p q = refl

good_does_not_stop : NeverBoth → QueryLaws → (files : Files) (input : Input) (outcome : Outcome) → IsGood files input → Stops files input outcome → ⊥
good_does_not_stop law laws files (index_file name) (done w) g p = p
good_does_not_stop law laws files (index_file name) (malformed a c) g p = found_not_bad law (get files name) g.0 a c g.1 p
good_does_not_stop law laws files (index_file name) missing g p = found_not_gone (get files name) g.0 g.1 p
good_does_not_stop law laws files (index_file name) (bad_query line at cause) g p = p
good_does_not_stop law laws files (index_file name) too_long g p = p
good_does_not_stop law laws files (query_file name) (done w) g p = p
good_does_not_stop law laws files (query_file name) (malformed a c) g p = p
good_does_not_stop law laws files (query_file name) missing g p = there_not_gone (λ file. AreQueries file g.0) (get files name) g.1 p
good_does_not_stop law laws files (query_file name) (bad_query line at cause) g p = asked_not_faulty laws (get files name) g.0 line at cause g.1 p
good_does_not_stop law laws files (query_file name) too_long g p = asked_not_long (get files name) g.0 g.1 p

first_is_one : RefusalIsOne → NeverBoth → QueryLaws → (files : Files) (inputs : List Input) (one other : Outcome) → FirstStops files inputs one → FirstStops files inputs other → one ≡ other
first_is_one law never laws files [] one other p q = absurd p
first_is_one law never laws files (input ∷ inputs) one other (inl p) (inl q) = stop_is_one law laws files input one other p q
first_is_one law never laws files (input ∷ inputs) one other (inl p) (inr q) = absurd (good_does_not_stop never laws files input one q.0 p)
first_is_one law never laws files (input ∷ inputs) one other (inr p) (inl q) = absurd (good_does_not_stop never laws files input other p.0 q)
first_is_one law never laws files (input ∷ inputs) one other (inr p) (inr q) = first_is_one law never laws files inputs one other p.1 q.1

-- ---- work

work_is_one : FileIsOneIndex → AreOne → QueryLaws → (files : Files) (command : Command) (one other : Work) → IsPlain command → IsWork files command one → IsWork files command other → one ≡ other
work_is_one law laws told files (copy input output) one other plain p q =
    let same : p.0 ≡ q.0 = one_index law (get files input) p.0 q.0 p.1 q.1 in
    p.2 ∙ ap (λ index. writing output (bytes_of index) (index_line index)) same ∙ sym q.2
work_is_one law laws told files (report input workers) one other plain p q =
    let same : p.0 ≡ q.0 = one_index law (get files input) p.0 q.0 p.1 q.1 in
    p.2 ∙ ap (λ index. printing (report_text index)) same ∙ sym q.2
work_is_one law laws told files (reorder input output options) one other plain p q =
    let same : p.0 ≡ q.0 = one_index law (get files input) p.0 q.0 p.3 q.3 in
    let reordered : IsReordered options q.0 p.1 p.2 = subst (λ (index : IndexParts). IsReordered options index p.1 p.2) same p.4 in
    let both = one_reordering laws options q.0 p.1 q.1 p.2 q.2 reordered q.4 in
    let work : IndexParts → IndexParts → List KeptRound → Work = λ index new trace. writing output (bytes_of new) (reorder_text index new trace) in
    p.5 ∙ ap (λ index. work index p.1 p.2) same ∙ ap (λ new. work q.0 new p.2) both.new ∙ ap (work q.0 q.1) both.trace ∙ sym q.5
work_is_one law laws told files (query input queries) one other plain p q =
    let same : p.0 ≡ q.0 = one_index law (get files input) p.0 q.0 p.3 q.3 in
    let asked : p.1 ≡ q.1 = same_queries told (get files queries) p.1 q.1 p.4 q.4 in
    let answered : AreAnswers q.0 q.1 p.2 = subst (λ (qs : List Numbered). AreAnswers q.0 qs p.2) asked (subst (λ (index : IndexParts). AreAnswers index p.1 p.2) same p.5) in
    let answers : p.2 ≡ q.2 = answers_are_one told.answers q.0 q.1 p.2 q.2 answered q.5 in
    p.6 ∙ ap (λ index. printing (query_text index p.2)) same ∙ ap (λ all. printing (query_text q.0 all)) answers ∙ sym q.6
work_is_one law laws told files (make documents output number options) one other plain p q =
    let index = index_made documents number in
    let both = one_reordering laws options index p.1.new q.1.new p.1.trace q.1.trace p.1.is_reordered q.1.is_reordered in
    let same : p.0 ≡ q.0 = p.1.is_text ∙ ap (λ new. make_text index new p.1.trace) both.new ∙ ap (make_text index q.1.new) both.trace ∙ sym q.1.is_text in
    p.2 ∙ ap (writing output (bytes_of index)) same ∙ sym q.2
work_is_one law laws told files (live input output queries options readers) one other plain p q = absurd plain

-- the works of `live` write one file
live_file : FileIsOneIndex → AreOne → (files : Files) (input output queries : Word) (options : Reordering) (readers : ℕ) (versions others : List ℕ) (one other : Work)
    → IsLiveWork files input output queries options readers versions one → IsLiveWork files input output queries options readers others other → one.file ≡ other.file
live_file law laws files input output queries options readers versions others one other p q =
    let same : p.index ≡ q.index = one_index law (get files input) p.index q.index p.holds q.holds in
    let reordered : IsReordered options q.index p.new p.trace = subst (λ (index : IndexParts). IsReordered options index p.new p.trace) same p.is_reordered in
    let both = one_reordering laws options q.index p.new q.new p.trace q.trace reordered q.is_reordered in
    ap (λ (work : Work). work.file) p.is_work ∙ ap (λ (new : IndexParts). (writing output (bytes_of new) []).file) both.new ∙ sym (ap (λ (work : Work). work.file) q.is_work)

-- and where the versions are the same they are one
pub live_work_is_one : FileIsOneIndex → AcceptedIsIndex → AreOne → QueryLaws → LiveLaws → VersionsTellTheWork
live_work_is_one law sound laws told lives files input output queries options readers versions one other p q =
    let same : p.index ≡ q.index = one_index law (get files input) p.index q.index p.holds q.holds in
    let reordered : IsReordered options q.index p.new p.trace = subst (λ (index : IndexParts). IsReordered options index p.new p.trace) same p.is_reordered in
    let both = one_reordering laws options q.index p.new q.new p.trace q.trace reordered q.is_reordered in
    let asked : p.asked ≡ q.asked = same_queries told (get files queries) p.asked q.asked p.holds_queries q.holds_queries in
    let live_there : AreLive options readers q.index q.asked p.answers p.finals =
    subst (λ (all : List Numbered). AreLive options readers q.index all p.answers p.finals) asked (subst (λ (index : IndexParts). AreLive options readers index p.asked p.answers p.finals) same p.are_live) in
    let is_index = found_is_index sound (get files input) q.index q.holds in
    let answers : p.answers ≡ q.answers =
    live_answers_are_one lives options q.index is_index q.asked p.answers q.answers live_there.answered q.are_live.answered (same_versions p.answers q.answers (sym p.are_versions ∙ q.are_versions)) in
    let finals : p.finals ≡ q.finals =
    live_answers_are_one lives options q.index is_index q.asked p.finals q.finals live_there.again q.are_live.again (same_last options p.finals q.finals live_there.last q.are_live.last) in
    let work : IndexParts → IndexParts → List KeptRound → List LiveAnswer → List LiveAnswer → Work = λ index new trace answers finals. writing output (bytes_of new) (live_text index new trace readers answers finals) in
    p.is_work ∙ ap (λ (index : IndexParts). work index p.new p.trace p.answers p.finals) same ∙ ap (λ (new : IndexParts). work q.index new p.trace p.answers p.finals) both.new
    ∙ ap (λ (trace : List KeptRound). work q.index q.new trace p.answers p.finals) both.trace ∙ ap (λ (all : List LiveAnswer). work q.index q.new q.trace all p.finals) answers
    ∙ ap (work q.index q.new q.trace q.answers) finals ∙ sym q.is_work

-- where there is work no input stops it
work_goes_on : NeverBoth → QueryLaws → (files : Files) (command : Command) (work : Work) (outcome : Outcome) → IsWork files command work → FirstStops files (inputs_of command) outcome → ⊥
work_goes_on law laws files (copy input output) work outcome p (inl s) = good_does_not_stop law laws files (index_file input) outcome (p.0, p.1) s
work_goes_on law laws files (copy input output) work outcome p (inr s) = s.1
work_goes_on law laws files (report input workers) work outcome p (inl s) = good_does_not_stop law laws files (index_file input) outcome (p.0, p.1) s
work_goes_on law laws files (report input workers) work outcome p (inr s) = s.1
work_goes_on law laws files (reorder input output options) work outcome p (inl s) = good_does_not_stop law laws files (index_file input) outcome (p.0, p.3) s
work_goes_on law laws files (reorder input output options) work outcome p (inr s) = s.1
work_goes_on law laws files (query input queries) work outcome p (inl s) = good_does_not_stop law laws files (index_file input) outcome (p.0, p.3) s
work_goes_on law laws files (query input queries) work outcome p (inr (good, inl s)) = good_does_not_stop law laws files (query_file queries) outcome (p.1, p.4) s
work_goes_on law laws files (query input queries) work outcome p (inr (good, inr s)) = s.1
work_goes_on law laws files (make documents output number options) work outcome p s = s
work_goes_on law laws files (live input output queries options readers) work outcome p (inl s) = good_does_not_stop law laws files (index_file input) outcome (p.1.index, p.1.holds) s
work_goes_on law laws files (live input output queries options readers) work outcome p (inr (good, inl s)) = good_does_not_stop law laws files (query_file queries) outcome (p.1.asked, p.1.holds_queries) s
work_goes_on law laws files (live input output queries options readers) work outcome p (inr (good, inr s)) = s.1

-- the command did its work, or an input stopped it
data Came (files : Files) (command : Command) (outcome : Outcome) : Type 0 where
  worked : (work : Work) → outcome ≡ done work → IsWork files command work → Came files command outcome
  stopped : FirstStops files (inputs_of command) outcome → Came files command outcome

came : (files : Files) (command : Command) (outcome : Outcome) → ComesTo command files outcome → Came files command outcome
came files command (done work) p = worked work refl p
came files command (malformed place cause) p = stopped p
came files command missing p = stopped p
came files command (bad_query line at cause) p = stopped p
came files command too_long p = stopped p

pub one_outcome : FileIsOneIndex → RefusalIsOne → NeverBoth → AreOne → QueryLaws → OneOutcome
one_outcome law refusal never laws told command plain files one other p q = agree (came files command one p) (came files command other q)
  where
    agree : Came files command one → Came files command other → one ≡ other
    agree (worked a is x) (worked b same y) = is ∙ ap done (work_is_one law laws told files command a b plain x y) ∙ sym same
    agree (worked a is x) (stopped y) = absurd (work_goes_on never told files command a other x y)
    agree (stopped x) (worked b same y) = absurd (work_goes_on never told files command b one y x)
    agree (stopped x) (stopped y) = first_is_one refusal never told files (inputs_of command) one other x y

-- ---- it is alike for any command

same_alike : (one other : Outcome) → one ≡ other → AreAlike one other
same_alike (done work) (done another) same = let e : work ≡ another = cc in ap (λ (w : Work). w.file) e
same_alike (done work) (malformed place cause) same = same
same_alike (done work) missing same = same
same_alike (done work) (bad_query line at cause) same = same
same_alike (done work) too_long same = same
same_alike (malformed place cause) other same = same
same_alike missing other same = same
same_alike (bad_query line at cause) other same = same
same_alike too_long other same = same

done_alike : (one other : Outcome) (work another : Work) → one ≡ done work → other ≡ done another → work.file ≡ another.file → AreAlike one other
done_alike one other work another is same file = subst (λ (o : Outcome). AreAlike o other) (sym is) (subst (λ (o : Outcome). AreAlike (done work) o) (sym same) file)

alike_live : FileIsOneIndex → RefusalIsOne → NeverBoth → AreOne → QueryLaws → (files : Files) (input output queries : Word) (options : Reordering) (readers : ℕ) (one other : Outcome)
    → Came files (live input output queries options readers) one → Came files (live input output queries options readers) other → AreAlike one other
alike_live law refusal never laws told files input output queries options readers one other (worked a is x) (worked b same y) =
    done_alike one other a b is same (live_file law laws files input output queries options readers x.0 y.0 a b x.1 y.1)
alike_live law refusal never laws told files input output queries options readers one other (worked a is x) (stopped y) =
    absurd (work_goes_on never told files (live input output queries options readers) a other x y)
alike_live law refusal never laws told files input output queries options readers one other (stopped x) (worked b same y) =
    absurd (work_goes_on never told files (live input output queries options readers) b one y x)
alike_live law refusal never laws told files input output queries options readers one other (stopped x) (stopped y) =
    same_alike one other (first_is_one refusal never told files (inputs_of (live input output queries options readers)) one other x y)

pub alike_outcomes : FileIsOneIndex → RefusalIsOne → NeverBoth → AreOne → QueryLaws → AlikeOutcomes
alike_outcomes law refusal never laws told (live input output queries options readers) files one other p q =
    alike_live law refusal never laws told files input output queries options readers one other
    (came files (live input output queries options readers) one p) (came files (live input output queries options readers) other q)
alike_outcomes law refusal never laws told (copy input output) files one other p q = same_alike one other (one_outcome law refusal never laws told (copy input output) tt files one other p q)
alike_outcomes law refusal never laws told (report input workers) files one other p q = same_alike one other (one_outcome law refusal never laws told (report input workers) tt files one other p q)
alike_outcomes law refusal never laws told (reorder input output options) files one other p q = same_alike one other (one_outcome law refusal never laws told (reorder input output options) tt files one other p q)
alike_outcomes law refusal never laws told (query input queries) files one other p q = same_alike one other (one_outcome law refusal never laws told (query input queries) tt files one other p q)
alike_outcomes law refusal never laws told (make documents output number options) files one other p q =
    same_alike one other (one_outcome law refusal never laws told (make documents output number options) tt files one other p q)

-- ---- there is one

-- a file is read as an index, is refused, or isn't there
data Reading (found : Option (List ℕ)) : Type 0 where
  good : (index : IndexParts) → IsFound found index → Reading found
  bad : (place : ℕ) (cause : Cause) → IsBad found place cause → Reading found
  gone : found ≡ None → Reading found

reading : EveryFileIsRead → (found : Option (List ℕ)) → IfSome found AreBytes → Reading found
reading law None bytes = gone refl
reading law (Some file) bytes = verdict (law file bytes)
  where
    verdict : ((index : IndexParts) × Accepted file index) ⊎ ((place : ℕ) × (cause : Cause) × Refused file place cause) → Reading (Some file)
    verdict (inl a) = good a.0 a.1
    verdict (inr r) = bad r.0 r.1 r.2

some_copy : (files : Files) (input output : Word) → Reading (get files input) → (outcome : Outcome) × ComesTo (copy input output) files outcome
some_copy files input output (good index holds) = (done (writing output (bytes_of index) (index_line index)), (index, holds, refl))
some_copy files input output (bad place cause is) = (malformed place cause, inl is)
some_copy files input output (gone is) = (missing, inl is)

some_report : (files : Files) (input : Word) (workers : ℕ) → Reading (get files input) → (outcome : Outcome) × ComesTo (report input workers) files outcome
some_report files input workers (good index holds) = (done (printing (report_text index)), (index, holds, refl))
some_report files input workers (bad place cause is) = (malformed place cause, inl is)
some_report files input workers (gone is) = (missing, inl is)

some_reorder : AcceptedIsIndex → AreThere → (files : Files) (input output : Word) (options : Reordering) → Reading (get files input) → (outcome : Outcome) × ComesTo (reorder input output options) files outcome
some_reorder sound laws files input output options (good index holds) =
    let made = some_reordering laws options index (found_is_index sound (get files input) index holds) in
    (done (writing output (bytes_of made.new) (reorder_text index made.new made.trace)), (index, made.new, made.trace, holds, made.is_reordered, refl))
some_reorder sound laws files input output options (bad place cause is) = (malformed place cause, inl is)
some_reorder sound laws files input output options (gone is) = (missing, inl is)

some_make : GeneratedIsIndex → AreThere → (files : Files) (documents : ℕ) (output : Word) (number : ℕ) (options : Reordering) → (outcome : Outcome) × ComesTo (make documents output number options) files outcome
some_make sound laws files documents output number options =
    let index = index_made documents number in
    let few : min documents 1000000 ≤ 1000000 = omega arith in
    let made = some_reordering laws options index (sound number (min documents 1000000) few) in
    let text = make_text index made.new made.trace in
    let summary : IsSummary options index text = record { new = made.new; trace = made.trace; is_reordered = made.is_reordered; is_text = refl } in
    (done (writing output (bytes_of index) text), (text, summary, refl))

-- queries are accepted, are too long, have a first fault, or aren't there
data Asking (found : Option (List ℕ)) : Type 0 where
  asked : (queries : List Numbered) → AreFound found queries → Asking found
  long : IsLong found → Asking found
  faulty : (line at : ℕ) (cause : LineCause) → IsFaulty found line at cause → Asking found
  no_file : found ≡ None → Asking found

asking : EveryFileHasVerdict → (found : Option (List ℕ)) → Asking found
asking law None = no_file refl
asking law (Some file) = verdict (law file)
  where
    verdict : Verdict file → Asking (Some file)
    verdict (accepted queries are) = asked queries are
    verdict (long_file is) = long is
    verdict (at_fault line at cause is) = faulty line at cause is

some_query : AcceptedIsIndex → AnswerLaws → (files : Files) (input queries : Word) → Reading (get files input) → Asking (get files queries) → (outcome : Outcome) × ComesTo (query input queries) files outcome
some_query sound laws files input queries (bad place cause is) asks = (malformed place cause, inl is)
some_query sound laws files input queries (gone is) asks = (missing, inl is)
some_query sound laws files input queries (good index holds) (asked all are) =
    let answers = some_answers laws index (found_is_index sound (get files input) index holds) all in
    (done (printing (query_text index answers.0)), (index, all, answers.0, holds, are, answers.1, refl))
some_query sound laws files input queries (good index holds) (long is) = (too_long, inr ((index, holds), inl is))
some_query sound laws files input queries (good index holds) (faulty line at cause is) = (bad_query line at cause, inr ((index, holds), inl is))
some_query sound laws files input queries (good index holds) (no_file is) = (missing, inr ((index, holds), inl is))

some_live_outcome : AcceptedIsIndex → AreThere → LiveLaws → (files : Files) (input output queries : Word) (options : Reordering) (readers : ℕ) → Reading (get files input) → Asking (get files queries)
    → (outcome : Outcome) × ComesTo (live input output queries options readers) files outcome
some_live_outcome sound laws lives files input output queries options readers (bad place cause is) asks = (malformed place cause, inl is)
some_live_outcome sound laws lives files input output queries options readers (gone is) asks = (missing, inl is)
some_live_outcome sound laws lives files input output queries options readers (good index holds) (asked all are) =
    let is_index = found_is_index sound (get files input) index holds in
    let made = some_reordering laws options index is_index in
    let told = some_live lives laws options readers index is_index all in
    let work = writing output (bytes_of made.new) (live_text index made.new made.trace readers told.answers told.finals) in
    let versions = map (λ (answer : LiveAnswer). answer.version) told.answers in
    let is : IsLiveWork files input output queries options readers versions work = record {
      index = index;
      new = made.new;
      trace = made.trace;
      asked = all;
      answers = told.answers;
      finals = told.finals;
      holds = holds;
      holds_queries = are;
      is_reordered = made.is_reordered;
      are_live = told.are_live;
      are_versions = refl;
      is_work = refl;
    } in
    (done work, (versions, is))
some_live_outcome sound laws lives files input output queries options readers (good index holds) (long is) = (too_long, inr ((index, holds), inl is))
some_live_outcome sound laws lives files input output queries options readers (good index holds) (faulty line at cause is) = (bad_query line at cause, inr ((index, holds), inl is))
some_live_outcome sound laws lives files input output queries options readers (good index holds) (no_file is) = (missing, inr ((index, holds), inl is))

pub some_outcome : EveryFileIsRead → AcceptedIsIndex → GeneratedIsIndex → AreThere → EveryFileHasVerdict → AnswerLaws → LiveLaws → SomeOutcome
some_outcome law sound generates laws verdicts answers lives (copy input output) files bytes = some_copy files input output (reading law (get files input) (bytes input))
some_outcome law sound generates laws verdicts answers lives (report input workers) files bytes = some_report files input workers (reading law (get files input) (bytes input))
some_outcome law sound generates laws verdicts answers lives (reorder input output options) files bytes = some_reorder sound laws files input output options (reading law (get files input) (bytes input))
some_outcome law sound generates laws verdicts answers lives (query input queries) files bytes = some_query sound answers files input queries (reading law (get files input) (bytes input)) (asking verdicts (get files queries))
some_outcome law sound generates laws verdicts answers lives (make documents output number options) files bytes = some_make generates laws files documents output number options
some_outcome law sound generates laws verdicts answers lives (live input output queries options readers) files bytes =
    some_live_outcome sound laws lives files input output queries options readers (reading law (get files input) (bytes input)) (asking verdicts (get files queries))
