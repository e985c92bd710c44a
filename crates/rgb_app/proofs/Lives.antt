-- What `live` comes to.
use Rattle.std.proofs.Common.{◌≡◌, ℕ, zero, suc, ◌<◌, List, [], ◌∷◌, ◌++◌, length, map, get_or, slice_get, codes, All, Option, Some, None, IsSomeAnd, IfSome, refl, sym, ap, subst, ◌∙◌, arith}
use Rattle.std.specs.FinMap.{get}
use Rattle.std.specs.Borrow.{Bor}
use Rattle.std.specs.Global.{Vec}
use Rattle.std.proofs.lemmas.List.{length-map}
use Rattle.std.proofs.lemmas.Option.{slice_get-get_or, get_or_from_slice_get}
use Rattle.rgb_base.specs.Parts.{IndexParts, IsIndex}
use Rattle.rgb_host.specs.Files.{Files}
use Rattle.rgb_host.specs.Seen.{Seen}
use Rattle.ciff_format.specs.Canonical.{bytes_of}
use Rattle.ciff_format.specs.Accepted.{Accepted}
use Rattle.ciff_reader.specs.Reading.{OfFile}
use Rattle.bool_query.specs.AnswerLaws.{MeantIsBelow}
use Rattle.query_file.specs.Queries.{Numbered, AreQueries}
use Rattle.query_file.specs.View.{all_seen}
use Rattle.query_file.specs.declared.queries.NumberedQuery.{NumberedQuery}
use Rattle.command_words.specs.Line.{Word}
use Rattle.command_words.specs.Command.{live}
use Rattle.command_words.specs.declared.reordering.Reordering.{Reordering}
use Rattle.cell_claims.specs.declared.trace.KeptRound.{KeptRound}
use Rattle.rgb_app.specs.Text.{reorder_text, live_text, readers_line, blocks}
use Rattle.rgb_app.specs.Reordering.{IsReordered}
use Rattle.rgb_app.specs.Prepared.{HasOwners, all_lent}
use Rattle.rgb_app.specs.Live.{IsLiveAnswer, AreLiveAnswers, AreAt, AreLive, last_of}
use Rattle.rgb_app.specs.Turns.{AreByReader, IsLived, HasTurns, StandsInTurn}
use Rattle.rgb_app.specs.Outcome.{done, writing, ComesTo}
use Rattle.rgb_app.specs.Ends.{MayComeTo, delivered, IsCutOff, Says}
use Rattle.rgb_app.specs.declared.live_answers.LiveAnswer.{LiveAnswer}
use Rattle.rgb_app.specs.declared.living.Lived.{Lived}
use Rattle.rgb_app.specs.declared.status.Status.TheVariants.{Done, WriteFault}
use Rattle.rgb_app.proofs.Turning.{seen_count}
use Rattle.rgb_app.proofs.Merges.{lists_of, has_turns, merged_answers, merged_in_turn}

-- ---- the documents of answers

-- the documents of an answer are those that its query means, so they are documents of the index
has_owners : MeantIsBelow → (options : Reordering) (index : IndexParts) (query : Numbered) (answer : LiveAnswer) → IsIndex index → IsLiveAnswer options index query answer → HasOwners index answer
has_owners below options index query answer sound is = record {
  len = is.is_answer.len;
  within = λ place other lt.
      let doc = get_or answer.originals place other in
      below index sound query.query doc ((is.is_answer.each doc).0 (place, lt, get_or_from_slice_get answer.originals place doc doc (slice_get-get_or answer.originals place other lt)));
}

-- the query at a place
query_at : (queries : List Numbered) (place : ℕ) → place < length queries → (query : Numbered) × (slice_get queries place ≡ Some query)
query_at [] place lt = absurd (omega (arith, lt))
query_at (query ∷ queries) zero lt = (query, refl)
query_at (query ∷ queries) (suc place) lt = query_at queries place (omega (arith, lt))

pub all_owned : MeantIsBelow → (options : Reordering) (index : IndexParts) (queries : List Numbered) (answers : List LiveAnswer) → IsIndex index → AreLiveAnswers options index queries answers → All (HasOwners index) answers
all_owned below options index queries answers sound all place other lt =
    let asked = query_at queries place (omega (arith, lt, all.len)) in
    let answer = get_or answers place other in
    has_owners below options index asked.0 answer sound (all.each place asked.0 answer asked.1 (slice_get-get_or answers place other lt))

-- ---- the answers

pub are_live : (options : Reordering) (readers : ℕ) (index : IndexParts) (queries : List Numbered) (by_reader : List (List LiveAnswer)) (answers finals : List LiveAnswer) → 0 < readers → AreByReader options index queries readers readers by_reader
    → length answers ≡ length queries → ((place : ℕ) (answer : LiveAnswer) → slice_get answers place ≡ Some answer → StandsInTurn by_reader place answer) → AreLiveAnswers options index queries finals → AreAt (last_of options) finals
    → AreLive options readers index queries answers finals
are_live options readers index queries by_reader answers finals some all len stands again last = record {
  answered = merged_answers options index queries readers by_reader answers some all len stands;
  in_turn = merged_in_turn options index queries readers by_reader answers some all stands;
  again = again;
  last = last;
}

-- ---- the work

live_comes : (told : Option Files) (input output queries : Word) (options : Reordering) (readers : ℕ) (index new : IndexParts) (trace : List KeptRound) (asked : List Numbered) (answers finals : List LiveAnswer)
    → IfSome told (λ files. IsSomeAnd (get files input) (λ file. Accepted file index)) → IfSome told (λ files. IsSomeAnd (get files queries) (λ file. AreQueries file asked)) → IsReordered options index new trace
    → AreLive options readers index asked answers finals
    → IfSome told (λ files. ComesTo (live input output queries options readers) files (done (writing output (bytes_of new) (live_text index new trace readers answers finals))))
live_comes None input output queries options readers index new trace asked answers finals holds are reordered is = tt
live_comes (Some files) input output queries options readers index new trace asked answers finals holds are reordered is = (
  map (λ answer. answer.version) answers,
  record {
    index = index;
    new = new;
    trace = trace;
    asked = asked;
    answers = answers;
    finals = finals;
    holds = holds;
    holds_queries = are;
    is_reordered = reordered;
    are_live = is;
    are_versions = refl;
    is_work = refl;
  },
)

-- the text of the reordering, and of the answers behind it
abbrev pub text_with : List ℕ → IndexParts → ℕ → List LiveAnswer → List LiveAnswer → List ℕ
text_with text index readers answers finals = text ++ (readers_line readers ++ (blocks (codes "live") index answers ++ blocks (codes "final") index finals))

-- what the steps before the delivery leave
pub record IsReady (input queries : Word) (options : Reordering) (readers : ℕ) (index new : IndexParts) (trace : List KeptRound) (asked : List Numbered) (answers finals : List LiveAnswer) (text : List ℕ) (before read again : Seen) : Type 0 where
  pub holds : OfFile before input (λ file. Accepted file index)
  pub same : read ≡ before
  pub holds_queries : OfFile read queries (λ file. AreQueries file asked)
  pub still : again ≡ read
  pub is_reordered : IsReordered options index new trace
  pub are_live : AreLive options readers index asked answers finals
  pub is_text : text ≡ reorder_text index new trace

-- the slices that are delivered hold what was answered, in the order of the queries
pub told_live : (options : Reordering) (readers : ℕ) (index : IndexParts) (queries asked : List NumberedQuery) (lived : Lived) (lists : List (Vec LiveAnswer)) (answers lent finals lent_finals : List (Bor LiveAnswer)) (told : List LiveAnswer) (count : ℕ) → 0 < readers
    → asked ≡ queries → IsLived options readers index (all_seen asked) lived → lists ≡ lived.by_reader.items → count ≡ length queries → length answers ≡ count
    → ((place : ℕ) (answer : LiveAnswer) → slice_get (all_lent answers) place ≡ Some answer → StandsInTurn (lists_of lists) place answer) → lent ≡ answers → all_lent finals ≡ told → told ≡ lived.finals.items → lent_finals ≡ finals
    → AreLive options readers index (all_seen queries) (all_lent lent) (all_lent lent_finals)
told_live options readers index queries asked lived lists answers lent finals lent_finals told count some asked_is is_lived lists_are count_is len stands lent_is finals_are told_is lent_finals_are =
    let is : IsLived options readers index (all_seen queries) lived = subst (λ (qs : List NumberedQuery). IsLived options readers index (all_seen qs) lived) asked_is is_lived in
    let last_are : all_lent lent_finals ≡ lived.finals.items = ap all_lent lent_finals_are ∙ finals_are ∙ told_is in
    let all : AreLive options readers index (all_seen queries) (all_lent answers) (all_lent lent_finals) =
    are_live options readers index (all_seen queries) (lists_of lists) (all_lent answers) (all_lent lent_finals) some (subst (λ (xs : List (Vec LiveAnswer)). AreByReader options index (all_seen queries) readers readers (lists_of xs)) (sym lists_are) is.by_reader)
    (length-map answers (λ answer. answer.now) ∙ len ∙ count_is ∙ sym (seen_count queries)) stands (subst (λ (xs : List LiveAnswer). AreLiveAnswers options index (all_seen queries) xs) (sym last_are) is.finals)
    (subst (λ (xs : List LiveAnswer). AreAt (last_of options) xs) (sym last_are) is.last) in
    subst (λ (xs : List (Bor LiveAnswer)). AreLive options readers index (all_seen queries) (all_lent xs) (all_lent lent_finals)) (sym lent_is) all

-- each query has its turn
pub turns_of : (options : Reordering) (readers : ℕ) (index : IndexParts) (queries asked : List NumberedQuery) (lived : Lived) (lists : List (Vec LiveAnswer)) (count : ℕ) → 0 < readers → asked ≡ queries
    → IsLived options readers index (all_seen asked) lived → lists ≡ lived.by_reader.items → count ≡ length queries → HasTurns (lists_of lists) count
turns_of options readers index queries asked lived lists count some asked_is is_lived lists_are count_is =
    let is : IsLived options readers index (all_seen queries) lived = subst (λ (qs : List NumberedQuery). IsLived options readers index (all_seen qs) lived) asked_is is_lived in
    subst (λ (xs : List (Vec LiveAnswer)). HasTurns (lists_of xs) count) (sym lists_are) (has_turns options index (all_seen queries) readers count (lists_of lived.by_reader.items) some is.by_reader (count_is ∙ sym (seen_count queries)))

live_work : (input output queries : Word) (options : Reordering) (readers : ℕ) (index new : IndexParts) (trace : List KeptRound) (asked : List Numbered) (answers finals : List LiveAnswer) (text : List ℕ) (before read again : Seen)
    → IsReady input queries options readers index new trace asked answers finals text before read again
    → MayComeTo (live input output queries options readers) before (done (writing output (bytes_of new) (text_with text index readers answers finals)))
live_work input output queries options readers index new trace asked answers finals text before read again ready =
    subst (λ t. MayComeTo (live input output queries options readers) before (done (writing output (bytes_of new) (text_with t index readers answers finals)))) (sym ready.is_text)
    (live_comes before.files input output queries options readers index new trace asked answers finals ready.holds (subst (λ (host : Seen). OfFile host queries (λ file. AreQueries file asked)) ready.same ready.holds_queries) ready.is_reordered ready.are_live)

pub lived : (input output queries : Word) (options : Reordering) (readers : ℕ) (index new : IndexParts) (trace : List KeptRound) (asked : List Numbered) (answers finals : List LiveAnswer) (text : List ℕ) (before read again after : Seen)
    → IsReady input queries options readers index new trace asked answers finals text before read again → after ≡ delivered (writing output (bytes_of new) (text_with text index readers answers finals)) again
    → Says Done (live input output queries options readers) before after
lived input output queries options readers index new trace asked answers finals text before read again after ready stands =
    let work = writing output (bytes_of new) (text_with text index readers answers finals) in
    (work, live_work input output queries options readers index new trace asked answers finals text before read again ready, stands ∙ ap (delivered work) (ready.still ∙ ready.same))

pub live_cut : (input output queries : Word) (options : Reordering) (readers : ℕ) (index new : IndexParts) (trace : List KeptRound) (asked : List Numbered) (answers finals : List LiveAnswer) (text : List ℕ) (before read again after : Seen)
    → IsReady input queries options readers index new trace asked answers finals text before read again → IsCutOff (writing output (bytes_of new) (text_with text index readers answers finals)) again after
    → Says WriteFault (live input output queries options readers) before after
live_cut input output queries options readers index new trace asked answers finals text before read again after ready cut =
    let work = writing output (bytes_of new) (text_with text index readers answers finals) in
    (work, live_work input output queries options readers index new trace asked answers finals text before read again ready, subst (λ (host : Seen). IsCutOff work host after) (ready.still ∙ ready.same) cut)
