-- Lines that are taken one by one, and what they ask.
use Rattle.std.proofs.Common.{◌≡◌, ℕ, suc, ◌+◌, ◌≤◌, List, [], ◌∷◌, ◌++◌, length, Option, Some, None, refl, sym, ap, subst, ◌∙◌, arith, append_assoc}
use Rattle.std.proofs.lemmas.List.{length-append}
use Rattle.bool_query.specs.Tree.{Tree}
use Rattle.query_file.specs.Lines.{AreLines, last_line, next_line}
use Rattle.query_file.specs.Queries.{Numbered, Asks, AskEach, numbered, most_bytes, AreQueries}
use Rattle.query_file.specs.Reading.{IsRefusal}
use Rattle.query_file.specs.Steps.{IsEnded, IsFirstLine, IsTaken, IsLineRefusal, Taken}
use Rattle.query_file.specs.declared.error.QueriesError.{QueriesError}
use Rattle.query_file.specs.declared.error.QueriesError.TheVariants.{Fault, OutOfMemory, TooLong, BadLine}
use Rattle.query_file.proofs.Feeds.{some_lines}

-- ---- one more at the end

pub ask_one_more : (lines : List (List ℕ)) (asked : List (Option Tree)) (line : List ℕ) (found : Option Tree) → AskEach lines asked → Asks line found → AskEach (lines ++ line ∷ []) (asked ++ found ∷ [])
ask_one_more [] [] line found all one = (one, tt)
ask_one_more (l ∷ lines) (a ∷ asked) line found all one = (all.0, ask_one_more lines asked line found all.1 one)
ask_one_more [] (a ∷ asked) line found all one = absurd all
ask_one_more (l ∷ lines) [] line found all one = absurd all

pub as_many : (lines : List (List ℕ)) (asked : List (Option Tree)) → AskEach lines asked → length asked ≡ length lines
as_many [] [] all = refl
as_many (l ∷ lines) (a ∷ asked) all = ap suc (as_many lines asked all.1)
as_many [] (a ∷ asked) all = absurd all
as_many (l ∷ lines) [] all = absurd all

pub numbered_one_more : (from : ℕ) (asked more : List (Option Tree)) → numbered from (asked ++ more) ≡ numbered from asked ++ numbered (from + length asked) more
numbered_one_more from [] more = ap (λ (n : ℕ). numbered n more) (omega arith)
numbered_one_more from (None ∷ asked) more =
    numbered_one_more (from + 1) asked more ∙ ap (λ (n : ℕ). numbered (from + 1) asked ++ numbered n more) (omega arith)
numbered_one_more from (Some query ∷ asked) more =
    ap (λ (qs : List Numbered). record { line = from; query = query } ∷ qs)
    (numbered_one_more (from + 1) asked more ∙ ap (λ (n : ℕ). numbered (from + 1) asked ++ numbered n more) (omega arith))

-- ---- the lines that were taken

pub none_taken : (file : List ℕ) → Taken file 0 [] file
none_taken file = record { lines = []; are_lines = λ others are. are; count = refl; asked = []; ask = tt; are = refl }

-- the first line of the bytes before the lines of the rest
pub first_before : (bytes line rest : List ℕ) (lines : List (List ℕ)) → IsEnded bytes line rest → AreLines rest lines → AreLines bytes (line ∷ lines)
first_before bytes line rest lines ended are =
    subst (λ (bs : List ℕ). AreLines bs (line ∷ lines)) (sym ended.spelt)
    (subst (λ (l : List ℕ). AreLines (ended.front ++ 10 ∷ rest) (l ∷ lines)) (sym ended.is) (next_line ended.front ended.no_feed are))

-- what the queries are after one more line
added : (lines : List (List ℕ)) (asked : List (Option Tree)) (found : Option Tree) (number : ℕ) (queries after : List Numbered) → AskEach lines asked → number ≡ length lines → queries ≡ numbered 1 asked
    → after ≡ queries ++ numbered (number + 1) (found ∷ []) → after ≡ numbered 1 (asked ++ found ∷ [])
added lines asked found number queries after ask count are is =
    is ∙ ap (λ (qs : List Numbered). qs ++ numbered (number + 1) (found ∷ [])) are
    ∙ ap (λ (n : ℕ). numbered 1 asked ++ numbered n (found ∷ [])) (omega (arith, count, as_many lines asked ask))
    ∙ sym (numbered_one_more 1 asked (found ∷ []))

pub one_taken : (file left line rest : List ℕ) (number : ℕ) (queries after : List Numbered) → Taken file number queries left → IsEnded left line rest → IsTaken line (number + 1) queries after → Taken file (number + 1) after rest
one_taken file left line rest number queries after taken ended one = record {
  lines = taken.lines ++ line ∷ [];
  are_lines = λ others are. subst (λ (ls : List (List ℕ)). AreLines file ls) (sym (append_assoc taken.lines (line ∷ []) others)) (taken.are_lines (line ∷ others) (first_before left line rest others ended are));
  count = ap (λ (n : ℕ). n + 1) taken.count ∙ sym (length-append taken.lines (line ∷ []));
  asked = taken.asked ++ one.found ∷ [];
  ask = ask_one_more taken.lines taken.asked line one.found taken.ask one.asks;
  are = added taken.lines taken.asked one.found number queries after taken.ask taken.count taken.are one.added;
}

pub all_taken : (file left line : List ℕ) (number : ℕ) (queries after : List Numbered) → length file ≤ most_bytes → Taken file number queries left → IsFirstLine left line None → IsTaken line (number + 1) queries after → AreQueries file after
all_taken file left line number queries after few taken last one = record {
  few = few;
  lines = taken.lines ++ line ∷ [];
  are_lines = taken.are_lines (line ∷ []) (subst (λ (l : List ℕ). AreLines left (l ∷ [])) (sym last.1) (last_line last.0));
  asked = taken.asked ++ one.found ∷ [];
  ask = ask_one_more taken.lines taken.asked line one.found taken.ask one.asks;
  are = added taken.lines taken.asked one.found number queries after taken.ask taken.count taken.are one.added;
}

-- the first line of the bytes and the others
all_lines : (left line : List ℕ) (rest : Option (List ℕ)) → IsFirstLine left line rest → (behind : List (List ℕ)) × AreLines left (line ∷ behind)
all_lines left line None last = ([], subst (λ (l : List ℕ). AreLines left (l ∷ [])) (sym last.1) (last_line last.0))
all_lines left line (Some rest) ended = let more = some_lines rest in (more.0, first_before left line rest more.0 ended more.1)

pub refused : (file left line : List ℕ) (rest : Option (List ℕ)) (number : ℕ) (queries : List Numbered) (error : QueriesError) → length file ≤ most_bytes → Taken file number queries left → IsFirstLine left line rest
    → IsLineRefusal line (number + 1) error → IsRefusal file error
refused file left line rest number queries Fault few taken first error = error
refused file left line rest number queries OutOfMemory few taken first error = tt
refused file left line rest number queries TooLong few taken first error = absurd error
refused file left line rest number queries (BadLine fault) few taken first error =
    let more = all_lines left line rest first in
    record {
      few = few;
      before = taken.lines;
      line = line;
      behind = more.0;
      are_lines = taken.are_lines (line ∷ more.0) more.1;
      asked = taken.asked;
      sound = taken.ask;
      numbered = error.0 ∙ ap (λ (n : ℕ). n + 1) taken.count;
      fault = error.1;
    }
