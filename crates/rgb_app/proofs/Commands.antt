-- What the steps of each command come to.
use Rattle.std.proofs.Common.{◌≡◌, ℕ, ◌≤◌, List, [], ◌∷◌, Option, Some, None, IsSomeAnd, IfSome, Result, Ok, Err, refl, sym, ap, subst, ◌∙◌, inl, inr, arith, min}
use Rattle.std.specs.Result.{IsErrAnd, MatchResult}
use Rattle.std.specs.FinMap.{get}
use Rattle.rgb_base.specs.Parts.{IndexParts}
use Rattle.rgb_host.specs.Files.{Files, IsMissing}
use Rattle.rgb_host.specs.Seen.{Seen, PrintedThenFailed, with_print}
use Rattle.ciff_format.specs.Canonical.{bytes_of}
use Rattle.ciff_format.specs.Accepted.{Accepted}
use Rattle.ciff_format.specs.Refused.{Refused}
use Rattle.ciff_format.specs.declared.cause.Cause.{Cause}
use Rattle.ciff_reader.specs.Counting.{AreCostsOf, CountsFile}
use Rattle.ciff_reader.specs.Reading.{OfFile, Explains}
use Rattle.ciff_reader.specs.declared.costs.IndexCosts.{IndexCosts}
use Rattle.ciff_reader.specs.declared.error.ReadError.{ReadError}
use Rattle.ciff_reader.specs.declared.error.ReadError.TheVariants as errors
use Rattle.query_file.specs.Queries.{Numbered, AreQueries, IsTooLong, IsFirstFault}
use Rattle.query_file.specs.Reading.{Explains as QueriesExplain}
use Rattle.query_file.specs.declared.error.LineCause.{LineCause}
use Rattle.query_file.specs.declared.error.QueriesError.{QueriesError}
use Rattle.query_file.specs.declared.error.QueriesError.TheVariants as query_errors
use Rattle.rgb_app.specs.Answering.{AreAnswers}
use Rattle.rgb_app.specs.declared.answers.Answer.{Answer}
use Rattle.command_words.specs.Line.{Word}
use Rattle.command_words.specs.Command.{Command, copy, report, reorder, query, make}
use Rattle.command_words.specs.declared.reordering.Reordering.{Reordering}
use Rattle.cell_claims.specs.declared.trace.KeptRound.{KeptRound}
use Rattle.rgb_app.specs.Text.{index_line, report_text, reorder_text, query_text}
use Rattle.rgb_app.specs.Reordering.{IsReordered}
use Rattle.generated_index.specs.Generated.{generated}
use Rattle.rgb_app.specs.Summary.{IsSummary}
use Rattle.rgb_app.specs.Outcome.{Input, index_file, query_file, inputs_of, done, malformed, missing, bad_query, too_long, writing, printing, index_made, FirstStops, ComesTo}
use Rattle.rgb_app.specs.Status.{status_of_read, status_of_queries}
use Rattle.rgb_app.specs.Ends.{MayComeTo, delivered, IsCutOff, not_printed, Says}
use Rattle.rgb_app.specs.declared.status.Status.TheVariants.{Done, WriteFault}

-- an error that a question mark hands on
pub told_error : {T E : Type 0} (result : Result T E) (P : Type 0) (Q : E → Type 0) (error : E) → IsErrAnd result (λ e. e ≡ error) → Q error → MatchResult result (λ _. P) Q
told_error (Ok x) P Q error is q = absurd is
told_error (Err e) P Q error is q = subst Q (sym is) q

-- ---- the first file that a command reads

first_is_missing : (told : Option Files) (command : Command) (input : Word) (rest : List Input) → inputs_of command ≡ index_file input ∷ rest → IsMissing told input
    → IsSomeAnd told (λ files. ComesTo command files missing)
first_is_missing None command input rest is lacks = lacks
first_is_missing (Some files) command input rest is lacks = subst (λ inputs. FirstStops files inputs missing) (sym is) (inl lacks)

first_is_malformed : (told : Option Files) (command : Command) (input : Word) (rest : List Input) (place : ℕ) (cause : Cause) → inputs_of command ≡ index_file input ∷ rest
    → IfSome told (λ files. IsSomeAnd (get files input) (λ file. Refused file place cause)) → IfSome told (λ files. ComesTo command files (malformed place cause))
first_is_malformed None command input rest place cause is bad = tt
first_is_malformed (Some files) command input rest place cause is bad = subst (λ inputs. FirstStops files inputs (malformed place cause)) (sym is) (inl bad)

-- it isn't read
pub explained : (error : ReadError) (command : Command) (input : Word) (rest : List Input) (before after : Seen) → inputs_of command ≡ index_file input ∷ rest → Explains error input before after
    → Says (status_of_read error) command before after
explained errors.Fault command input rest before after is (inl failed) = inl failed
explained errors.Fault command input rest before after is (inr lacks) = inr (first_is_missing before.files command input rest is lacks.0, lacks.1)
explained (errors.Malformed place cause) command input rest before after is (bad, same) = (first_is_malformed before.files command input rest place cause is bad, same)
explained errors.OutOfMemory command input rest before after is same = same

-- ---- copy

copy_comes : (told : Option Files) (input output : Word) (index : IndexParts) → IfSome told (λ files. IsSomeAnd (get files input) (λ file. Accepted file index))
    → IfSome told (λ files. ComesTo (copy input output) files (done (writing output (bytes_of index) (index_line index))))
copy_comes None input output index holds = tt
copy_comes (Some files) input output index holds = (index, holds, refl)

copy_work : (input output : Word) (index : IndexParts) (text : List ℕ) (before : Seen) → OfFile before input (λ file. Accepted file index) → text ≡ index_line index
    → MayComeTo (copy input output) before (done (writing output (bytes_of index) text))
copy_work input output index text before holds is =
    subst (λ t. MayComeTo (copy input output) before (done (writing output (bytes_of index) t))) (sym is) (copy_comes before.files input output index holds)

pub copied : (input output : Word) (index : IndexParts) (text : List ℕ) (before read after : Seen) → OfFile before input (λ file. Accepted file index) → text ≡ index_line index → read ≡ before
    → after ≡ delivered (writing output (bytes_of index) text) read → Says Done (copy input output) before after
copied input output index text before read after holds is same stands =
    (writing output (bytes_of index) text, copy_work input output index text before holds is, stands ∙ ap (delivered (writing output (bytes_of index) text)) same)

pub copy_cut : (input output : Word) (index : IndexParts) (text : List ℕ) (before read after : Seen) → OfFile before input (λ file. Accepted file index) → text ≡ index_line index → read ≡ before
    → IsCutOff (writing output (bytes_of index) text) read after → Says WriteFault (copy input output) before after
copy_cut input output index text before read after holds is same cut =
    (writing output (bytes_of index) text, copy_work input output index text before holds is, subst (λ host. IsCutOff (writing output (bytes_of index) text) host after) same cut)

-- ---- report

-- the index of which the costs were counted
counted_index : (found : Option (List ℕ)) (counted : IndexCosts) → IsSomeAnd found (λ file. CountsFile file counted) → (index : IndexParts) × IsSomeAnd found (λ file. Accepted file index) × AreCostsOf counted index
counted_index None counted holds = absurd holds
counted_index (Some file) counted holds = (holds.index, holds.accepted, holds.costs)

-- the text tells what was counted
abbrev pub TellsCosts : IndexCosts → List ℕ → Type 0
TellsCosts counted text = (index : IndexParts) → AreCostsOf counted index → text ≡ report_text index

report_comes : (told : Option Files) (input : Word) (workers : ℕ) (counted : IndexCosts) (text : List ℕ) → IfSome told (λ files. IsSomeAnd (get files input) (λ file. CountsFile file counted)) → TellsCosts counted text
    → IfSome told (λ files. ComesTo (report input workers) files (done (printing text)))
report_comes None input workers counted text holds tells = tt
report_comes (Some files) input workers counted text holds tells =
    let one = counted_index (get files input) counted holds in
    (one.0, one.1, ap printing (tells one.0 one.2))

pub reported : (input : Word) (workers : ℕ) (counted : IndexCosts) (text : List ℕ) (before read after : Seen) → OfFile before input (λ file. CountsFile file counted) → TellsCosts counted text → read ≡ before
    → after ≡ delivered (printing text) read → Says Done (report input workers) before after
reported input workers counted text before read after holds tells same stands =
    (printing text, report_comes before.files input workers counted text holds tells, stands ∙ ap (delivered (printing text)) same)

pub report_cut : (input : Word) (workers : ℕ) (counted : IndexCosts) (text : List ℕ) (before read after : Seen) → OfFile before input (λ file. CountsFile file counted) → TellsCosts counted text → read ≡ before
    → IsCutOff (printing text) read after → Says WriteFault (report input workers) before after
report_cut input workers counted text before read after holds tells same cut =
    (printing text, report_comes before.files input workers counted text holds tells, subst (λ host. IsCutOff (printing text) host after) same cut)

-- ---- reorder

reorder_comes : (told : Option Files) (input output : Word) (options : Reordering) (index new : IndexParts) (trace : List KeptRound) → IfSome told (λ files. IsSomeAnd (get files input) (λ file. Accepted file index))
    → IsReordered options index new trace → IfSome told (λ files. ComesTo (reorder input output options) files (done (writing output (bytes_of new) (reorder_text index new trace))))
reorder_comes None input output options index new trace holds is = tt
reorder_comes (Some files) input output options index new trace holds is = (index, new, trace, holds, is, refl)

reorder_work : (input output : Word) (options : Reordering) (index new : IndexParts) (trace : List KeptRound) (text : List ℕ) (before : Seen) → OfFile before input (λ file. Accepted file index)
    → IsReordered options index new trace → text ≡ reorder_text index new trace → MayComeTo (reorder input output options) before (done (writing output (bytes_of new) text))
reorder_work input output options index new trace text before holds is same =
    subst (λ t. MayComeTo (reorder input output options) before (done (writing output (bytes_of new) t))) (sym same) (reorder_comes before.files input output options index new trace holds is)

pub reordered : (input output : Word) (options : Reordering) (index new : IndexParts) (trace : List KeptRound) (text : List ℕ) (before read after : Seen) → OfFile before input (λ file. Accepted file index)
    → IsReordered options index new trace → text ≡ reorder_text index new trace → read ≡ before → after ≡ delivered (writing output (bytes_of new) text) read → Says Done (reorder input output options) before after
reordered input output options index new trace text before read after holds is text_is same stands =
    (writing output (bytes_of new) text, reorder_work input output options index new trace text before holds is text_is, stands ∙ ap (delivered (writing output (bytes_of new) text)) same)

pub reorder_cut : (input output : Word) (options : Reordering) (index new : IndexParts) (trace : List KeptRound) (text : List ℕ) (before read after : Seen) → OfFile before input (λ file. Accepted file index)
    → IsReordered options index new trace → text ≡ reorder_text index new trace → read ≡ before → IsCutOff (writing output (bytes_of new) text) read after → Says WriteFault (reorder input output options) before after
reorder_cut input output options index new trace text before read after holds is text_is same cut =
    (writing output (bytes_of new) text, reorder_work input output options index new trace text before holds is text_is, subst (λ host. IsCutOff (writing output (bytes_of new) text) host after) same cut)

-- ---- make

-- so many documents that the bound is none
pub made_is : (documents number : ℕ) (index : IndexParts) → documents ≤ 1000000 → index ≡ generated number documents → index ≡ index_made documents number
made_is documents number index few is =
    let bound : documents ≡ min documents 1000000 = omega (arith, few) in
    is ∙ ap (generated number) bound

make_comes : (told : Option Files) (documents : ℕ) (output : Word) (number : ℕ) (options : Reordering) (text : List ℕ) → IsSummary options (index_made documents number) text
    → IfSome told (λ files. ComesTo (make documents output number options) files (done (writing output (bytes_of (index_made documents number)) text)))
make_comes None documents output number options text is = tt
make_comes (Some files) documents output number options text is = (text, is, refl)

make_work : (documents : ℕ) (output : Word) (number : ℕ) (options : Reordering) (index : IndexParts) (text : List ℕ) (before : Seen) → index ≡ index_made documents number → IsSummary options index text
    → MayComeTo (make documents output number options) before (done (writing output (bytes_of index) text))
make_work documents output number options index text before is sums =
    subst (λ i. MayComeTo (make documents output number options) before (done (writing output (bytes_of i) text))) (sym is)
    (make_comes before.files documents output number options text (subst (λ i. IsSummary options i text) is sums))

pub generated_whole : (documents : ℕ) (output : Word) (number : ℕ) (options : Reordering) (index : IndexParts) (text lent : List ℕ) (before after : Seen) → index ≡ index_made documents number → IsSummary options index text
    → lent ≡ text → after ≡ delivered (writing output (bytes_of index) lent) before → Says Done (make documents output number options) before after
generated_whole documents output number options index text lent before after is sums same stands =
    (writing output (bytes_of index) lent, make_work documents output number options index lent before is (subst (IsSummary options index) (sym same) sums), stands)

pub generated_cut : (documents : ℕ) (output : Word) (number : ℕ) (options : Reordering) (index : IndexParts) (text lent : List ℕ) (before after : Seen) → index ≡ index_made documents number → IsSummary options index text
    → lent ≡ text → IsCutOff (writing output (bytes_of index) lent) before after → Says WriteFault (make documents output number options) before after
generated_cut documents output number options index text lent before after is sums same cut =
    (writing output (bytes_of index) lent, make_work documents output number options index lent before is (subst (IsSummary options index) (sym same) sums), cut)

-- ---- the queries, which a command reads behind the index

queries_missing : (told : Option Files) (command : Command) (input queries : Word) (index : IndexParts) → inputs_of command ≡ index_file input ∷ query_file queries ∷ [] → IfSome told (λ files. IsSomeAnd (get files input) (λ file. Accepted file index))
    → IsMissing told queries → IsSomeAnd told (λ files. ComesTo command files missing)
queries_missing None command input queries index is holds lacks = lacks
queries_missing (Some files) command input queries index is holds lacks = subst (λ inputs. FirstStops files inputs missing) (sym is) (inr ((index, holds), inl lacks))

queries_too_long : (told : Option Files) (command : Command) (input queries : Word) (index : IndexParts) → inputs_of command ≡ index_file input ∷ query_file queries ∷ [] → IfSome told (λ files. IsSomeAnd (get files input) (λ file. Accepted file index))
    → IfSome told (λ files. IsSomeAnd (get files queries) IsTooLong) → IfSome told (λ files. ComesTo command files too_long)
queries_too_long None command input queries index is holds long = tt
queries_too_long (Some files) command input queries index is holds long = subst (λ inputs. FirstStops files inputs too_long) (sym is) (inr ((index, holds), inl long))

queries_faulty : (told : Option Files) (command : Command) (input queries : Word) (index : IndexParts) (line at : ℕ) (cause : LineCause) → inputs_of command ≡ index_file input ∷ query_file queries ∷ []
    → IfSome told (λ files. IsSomeAnd (get files input) (λ file. Accepted file index)) → IfSome told (λ files. IsSomeAnd (get files queries) (λ file. IsFirstFault file line at cause))
    → IfSome told (λ files. ComesTo command files (bad_query line at cause))
queries_faulty None command input queries index line at cause is holds bad = tt
queries_faulty (Some files) command input queries index line at cause is holds bad = subst (λ inputs. FirstStops files inputs (bad_query line at cause)) (sym is) (inr ((index, holds), inl bad))

-- the index is read and the queries aren't
told_queries : (error : QueriesError) (command : Command) (input queries : Word) (index : IndexParts) (before after : Seen) → inputs_of command ≡ index_file input ∷ query_file queries ∷ [] → OfFile before input (λ file. Accepted file index)
    → QueriesExplain error queries before after → Says (status_of_queries error) command before after
told_queries query_errors.Fault command input queries index before after is holds (inl failed) = inl failed
told_queries query_errors.Fault command input queries index before after is holds (inr lacks) = inr (queries_missing before.files command input queries index is holds lacks.0, lacks.1)
told_queries query_errors.OutOfMemory command input queries index before after is holds same = same
told_queries query_errors.TooLong command input queries index before after is holds (long, same) = (queries_too_long before.files command input queries index is holds long, same)
told_queries (query_errors.BadLine fault) command input queries index before after is holds (bad, same) = (queries_faulty before.files command input queries index fault.line fault.at fault.cause is holds bad, same)

pub queries_explained : (error : QueriesError) (command : Command) (input queries : Word) (index : IndexParts) (before read after : Seen) → inputs_of command ≡ index_file input ∷ query_file queries ∷ []
    → OfFile before input (λ file. Accepted file index) → read ≡ before → QueriesExplain error queries read after → Says (status_of_queries error) command before after
queries_explained error command input queries index before read after is holds same explains =
    told_queries error command input queries index before after is holds (subst (λ (host : Seen). QueriesExplain error queries host after) same explains)

-- ---- query

query_comes : (told : Option Files) (input queries : Word) (index : IndexParts) (asked : List Numbered) (answers : List Answer) → IfSome told (λ files. IsSomeAnd (get files input) (λ file. Accepted file index))
    → IfSome told (λ files. IsSomeAnd (get files queries) (λ file. AreQueries file asked)) → AreAnswers index asked answers
    → IfSome told (λ files. ComesTo (query input queries) files (done (printing (query_text index answers))))
query_comes None input queries index asked answers holds are is = tt
query_comes (Some files) input queries index asked answers holds are is = (index, asked, answers, holds, are, is, refl)

query_work : (input queries : Word) (index : IndexParts) (asked : List Numbered) (answers : List Answer) (before read : Seen) → OfFile before input (λ file. Accepted file index) → read ≡ before
    → OfFile read queries (λ file. AreQueries file asked) → AreAnswers index asked answers → MayComeTo (query input queries) before (done (printing (query_text index answers)))
query_work input queries index asked answers before read holds same are is =
    query_comes before.files input queries index asked answers holds (subst (λ (host : Seen). OfFile host queries (λ file. AreQueries file asked)) same are) is

pub queried : (input queries : Word) (index : IndexParts) (asked : List Numbered) (answers : List Answer) (before read again after : Seen) → OfFile before input (λ file. Accepted file index) → read ≡ before
    → OfFile read queries (λ file. AreQueries file asked) → again ≡ read → AreAnswers index asked answers → after ≡ with_print (query_text index answers) again → Says Done (query input queries) before after
queried input queries index asked answers before read again after holds same are still is stands =
    (printing (query_text index answers), query_work input queries index asked answers before read holds same are is, stands ∙ ap (with_print (query_text index answers)) (still ∙ same))

pub query_cut : (input queries : Word) (index : IndexParts) (asked : List Numbered) (answers : List Answer) (before read again after : Seen) → OfFile before input (λ file. Accepted file index) → read ≡ before
    → OfFile read queries (λ file. AreQueries file asked) → again ≡ read → AreAnswers index asked answers → PrintedThenFailed (query_text index answers) again after → Says WriteFault (query input queries) before after
query_cut input queries index asked answers before read again after holds same are still is cut = (
  printing (query_text index answers),
  query_work input queries index asked answers before read holds same are is,
  not_printed (subst (λ (host : Seen). PrintedThenFailed (query_text index answers) host after) (still ∙ same) cut),
)
