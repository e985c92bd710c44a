-- What the operands and values of a line say of the command that it spells.
use Rattle.std.proofs.Common.{◌≡◌, ◌⊎◌, ◌↔◌, ℕ, Bool, true, false, IsTrue, List, [], ◌∷◌, Option, Some, None, slice_get, get_or, arith, sym, ap, subst, ◌∙◌, refl, inl, inr, if◌then◌else◌}
use Rattle.std.proofs.lemmas.Option.{same_Some, none-some}
use Rattle.command_words.specs.Line.{Word, Part, OptionRow, Finds, Means, OfParts, operands_of, values_of, ComesTo, ComeTo, Follow}
use Rattle.command_words.specs.declared.reordering.Reordering.{Reordering}
use Rattle.command_words.specs.Command.{Command, copy, report, reorder, query, make, live, copy_row, report_row, reorder_row, query_row, make_row, live_row, number_option, readers_option, document_counts, workers_option, depth_option, rounds_option, leaf_option, step_option, min_df_option, start_option, reordering_options, numbers_of, IsCommand, SpellsOnly, Answers}
use Rattle.command_words.proofs.Parting.{same_behind, two_operands, three_operands, one_operand_name}

-- the operand at a place is this
abbrev Operand : List Word → ℕ → Word → Type 0
Operand words place name = OfParts words (λ parts. Some name ≡ slice_get (operands_of parts) place)

-- the workers that the words say
abbrev Workers : List Word → Option ℕ → Type 0
Workers words found = OfParts words (λ parts. Finds found (ComesTo workers_option (values_of workers_option.name parts)))

-- two words of one length that begin otherwise
copy_is_not_make : (words behind : List Word) → copy_row.name ∷ words ≡ make_row.name ∷ behind → ⊥
copy_is_not_make words behind e =
    let first : 99 ≡ 109 = ap (λ (ws : List Word). get_or (get_or ws 0 []) 0 0) e in
    omega (arith, first)

copy_is_not_live : (words behind : List Word) → copy_row.name ∷ words ≡ live_row.name ∷ behind → ⊥
copy_is_not_live words behind e =
    let first : 99 ≡ 108 = ap (λ (ws : List Word). get_or (get_or ws 0 []) 0 0) e in
    omega (arith, first)

make_is_not_live : (words behind : List Word) → make_row.name ∷ words ≡ live_row.name ∷ behind → ⊥
make_is_not_live words behind e =
    let first : 109 ≡ 108 = ap (λ (ws : List Word). get_or (get_or ws 0 []) 0 0) e in
    omega (arith, first)

only_copy : (words : List Word) (input output : Word) → Operand words 0 input → Operand words 1 output
    → (other : Command) → IsCommand (copy_row.name ∷ words) other → other ≡ copy input output
only_copy words input output first second (copy i o) line =
    let are = same_behind copy_row.name words line.behind line.follow.parts line.named line.follow.whole in
    let one : input ≡ i = same_Some input i (first line.follow.parts are ∙ ap (λ ns. slice_get ns 0) line.operands) in
    let two : output ≡ o = same_Some output o (second line.follow.parts are ∙ ap (λ ns. slice_get ns 1) line.operands) in
    ap (λ n. copy n o) (sym one) ∙ ap (copy input) (sym two)
only_copy words input output first second (report i w) line = let e : copy_row.name ∷ words ≡ report_row.name ∷ line.behind = line.named in absurd (cc)
only_copy words input output first second (reorder i o k) line = let e : copy_row.name ∷ words ≡ reorder_row.name ∷ line.behind = line.named in absurd (cc)
only_copy words input output first second (query i q) line = let e : copy_row.name ∷ words ≡ query_row.name ∷ line.behind = line.named in absurd (cc)
only_copy words input output first second (make d o n k) line = absurd (copy_is_not_make words line.line.behind line.line.named)
only_copy words input output first second (live i o q k r) line = absurd (copy_is_not_live words line.behind line.named)

pub copy_line : (words : List Word) (input output : Word) → Follow 2 [] words → Operand words 0 input → Operand words 1 output → SpellsOnly (copy_row.name ∷ words) (copy input output)
copy_line words input output follow first second = record {
  spelt = record {
    behind = words;
    named = refl;
    follow = follow;
    operands = two_operands (operands_of follow.parts) input output follow.count (first follow.parts follow.whole) (second follow.parts follow.whole);
    options = tt;
  };
  only = only_copy words input output first second;
}

only_query : (words : List Word) (input queries : Word) → Operand words 0 input → Operand words 1 queries
    → (other : Command) → IsCommand (query_row.name ∷ words) other → other ≡ query input queries
only_query words input queries first second (query i q) line =
    let are = same_behind query_row.name words line.behind line.follow.parts line.named line.follow.whole in
    let one : input ≡ i = same_Some input i (first line.follow.parts are ∙ ap (λ ns. slice_get ns 0) line.operands) in
    let two : queries ≡ q = same_Some queries q (second line.follow.parts are ∙ ap (λ ns. slice_get ns 1) line.operands) in
    ap (λ n. query n q) (sym one) ∙ ap (query input) (sym two)
only_query words input queries first second (copy i o) line = let e : query_row.name ∷ words ≡ copy_row.name ∷ line.behind = line.named in absurd (cc)
only_query words input queries first second (report i w) line = let e : query_row.name ∷ words ≡ report_row.name ∷ line.behind = line.named in absurd (cc)
only_query words input queries first second (reorder i o k) line = let e : query_row.name ∷ words ≡ reorder_row.name ∷ line.behind = line.named in absurd (cc)
only_query words input queries first second (make d o n k) line = let e : query_row.name ∷ words ≡ make_row.name ∷ line.line.behind = line.line.named in absurd (cc)
only_query words input queries first second (live i o q k r) line = let e : query_row.name ∷ words ≡ live_row.name ∷ line.behind = line.named in absurd (cc)

pub query_line : (words : List Word) (input queries : Word) → Follow 2 [] words → Operand words 0 input → Operand words 1 queries → SpellsOnly (query_row.name ∷ words) (query input queries)
query_line words input queries follow first second = record {
  spelt = record {
    behind = words;
    named = refl;
    follow = follow;
    operands = two_operands (operands_of follow.parts) input queries follow.count (first follow.parts follow.whole) (second follow.parts follow.whole);
    options = tt;
  };
  only = only_query words input queries first second;
}

only_report : (words : List Word) (input : Word) (workers : ℕ) → Operand words 0 input → Workers words (Some workers)
    → (other : Command) → IsCommand (report_row.name ∷ words) other → other ≡ report input workers
only_report words input workers first value (report i w) line =
    let are = same_behind report_row.name words line.behind line.follow.parts line.named line.follow.whole in
    let one : input ≡ i = same_Some input i (first line.follow.parts are ∙ ap (λ ns. slice_get ns 0) line.operands) in
    let two : workers ≡ w = same_Some workers w ((value line.follow.parts are w).1 line.options.0) in
    ap (λ n. report n w) (sym one) ∙ ap (report input) (sym two)
only_report words input workers first value (copy i o) line = let e : report_row.name ∷ words ≡ copy_row.name ∷ line.behind = line.named in absurd (cc)
only_report words input workers first value (reorder i o k) line = let e : report_row.name ∷ words ≡ reorder_row.name ∷ line.behind = line.named in absurd (cc)
only_report words input workers first value (query i q) line = let e : report_row.name ∷ words ≡ query_row.name ∷ line.behind = line.named in absurd (cc)
only_report words input workers first value (make d o n k) line = let e : report_row.name ∷ words ≡ make_row.name ∷ line.line.behind = line.line.named in absurd (cc)
only_report words input workers first value (live i o q k r) line = let e : report_row.name ∷ words ≡ live_row.name ∷ line.behind = line.named in absurd (cc)

pub report_line : (words : List Word) (input : Word) (workers : ℕ) → Follow 1 (workers_option ∷ []) words → Operand words 0 input → Workers words (Some workers)
    → SpellsOnly (report_row.name ∷ words) (report input workers)
report_line words input workers follow first value = record {
  spelt = record {
    behind = words;
    named = refl;
    follow = follow;
    operands = one_operand_name (operands_of follow.parts) input follow.count (first follow.parts follow.whole);
    options = ((value follow.parts follow.whole workers).0 refl, tt);
  };
  only = only_report words input workers first value;
}

pub no_workers : (words : List Word) → Workers words None → Answers (report_row.name ∷ words) None
no_workers words none (report i w) line =
    let are = same_behind report_row.name words line.behind line.follow.parts line.named line.follow.whole in
    none-some w ((none line.follow.parts are w).1 line.options.0)
no_workers words none (copy i o) line = let e : report_row.name ∷ words ≡ copy_row.name ∷ line.behind = line.named in absurd (cc)
no_workers words none (reorder i o k) line = let e : report_row.name ∷ words ≡ reorder_row.name ∷ line.behind = line.named in absurd (cc)
no_workers words none (query i q) line = let e : report_row.name ∷ words ≡ query_row.name ∷ line.behind = line.named in absurd (cc)
no_workers words none (make d o n k) line = let e : report_row.name ∷ words ≡ make_row.name ∷ line.line.behind = line.line.named in absurd (cc)
no_workers words none (live i o q k r) line = let e : report_row.name ∷ words ≡ live_row.name ∷ line.behind = line.named in absurd (cc)

-- ---- the options of a reordering

-- the option comes to this in these parts
abbrev Says : List Part → OptionRow → Option ℕ → Type 0
Says parts option found = Finds found (ComesTo option (values_of option.name parts))

-- an option that comes to nothing
pub says_none : (parts : List Part) (option : OptionRow) (number : ℕ) → Says parts option None → ComesTo option (values_of option.name parts) number → ⊥
says_none parts option number none comes = none-some number ((none number).1 comes)

says_one : (parts : List Part) (option : OptionRow) (found number : ℕ) → Says parts option (Some found) → ComesTo option (values_of option.name parts) number → number ≡ found
says_one parts option found number says comes = sym (same_Some found number ((says number).1 comes))

says_it : (parts : List Part) (option : OptionRow) (found : ℕ) → Says parts option (Some found) → ComesTo option (values_of option.name parts) found
says_it parts option found says = (says found).0 refl

-- the number of a start order, of which 1 is that by name
abbrev start_number : Bool → ℕ
start_number by_name = if by_name then 1 else 0

same_start : (a b : Bool) → start_number a ≡ start_number b → a ≡ b
same_start true true e = refl
same_start true false e = absurd (cc)
same_start false true e = absurd (cc)
same_start false false e = refl

-- the word means 0 or 1
place_is : (a b : Bool) (n : ℕ) → (if a then Some 0 else (if b then Some 1 else None)) ≡ Some n → (n ≡ 0) ⊎ (n ≡ 1)
place_is true b n e = inl (sym (same_Some 0 n e))
place_is false true n e = inr (sym (same_Some 1 n e))
place_is false false n e = absurd (none-some n e)

start_is : (values : List Word) (n : ℕ) → ComesTo start_option values n → (n ≡ 0) ⊎ (n ≡ 1)
start_is [] n e = inl e
start_is (word ∷ []) n e = place_is _ _ n e
start_is (word ∷ other ∷ others) n e = absurd e

start_found : (by_name : Bool) (start : ℕ) → (start ≡ 0) ⊎ (start ≡ 1) → (IsTrue by_name ↔ (start ≡ 1)) → start_number by_name ≡ start
start_found true start either_one is = sym (is.0 refl)
start_found false start (inl e) is = sym e
start_found false start (inr e) is = absurd (let no : false ≡ true = is.1 e in cc)

-- equal options make equal reorderings
made : ℕ → ℕ → ℕ → ℕ → ℕ → ℕ → Bool → Reordering
made depth rounds leaf workers step min_df by_name = record { depth = depth; rounds = rounds; leaf = leaf; workers = workers; step = step; min_df = min_df; by_name = by_name }

made_of : (a : Reordering) → made a.depth a.rounds a.leaf a.workers a.step a.min_df a.by_name ≡ a
unfolding made
made_of a = refl

same_reordering : (a b : Reordering) → a.depth ≡ b.depth → a.rounds ≡ b.rounds → a.leaf ≡ b.leaf → a.workers ≡ b.workers → a.step ≡ b.step → a.min_df ≡ b.min_df → a.by_name ≡ b.by_name → a ≡ b
same_reordering a b depth rounds leaf workers step min_df by_name =
    let left = made_of a in
    let right = made_of b in
    cc

-- what all of the options come to
pub reordering_is : (parts : List Part) (found : Reordering) (start : ℕ) → Says parts depth_option (Some found.depth) → Says parts rounds_option (Some found.rounds) → Says parts leaf_option (Some found.leaf)
    → Says parts workers_option (Some found.workers) → Says parts step_option (Some found.step) → Says parts min_df_option (Some found.min_df) → Says parts start_option (Some start)
    → (IsTrue found.by_name ↔ (start ≡ 1)) → (options : Reordering) → (Some found ≡ Some options) ↔ ComeTo parts reordering_options (numbers_of options)
reordering_is parts found start depth rounds leaf workers step min_df order is options = (
  (λ e. subst (λ o. ComeTo parts reordering_options (numbers_of o)) (same_Some found options e) own),
  (λ comes. ap (λ o. Some o) (sym (same_reordering options found
      (says_one parts depth_option found.depth options.depth depth comes.0) (says_one parts rounds_option found.rounds options.rounds rounds comes.1.0)
      (says_one parts leaf_option found.leaf options.leaf leaf comes.1.1.0) (says_one parts workers_option found.workers options.workers workers comes.1.1.1.0)
      (says_one parts step_option found.step options.step step comes.1.1.1.1.0) (says_one parts min_df_option found.min_df options.min_df min_df comes.1.1.1.1.1.0)
      (same_start options.by_name found.by_name (says_one parts start_option start (start_number options.by_name) order comes.1.1.1.1.1.1.0 ∙ sym own_start))))),
)
  where
    own_start : start_number found.by_name ≡ start
    own_start = start_found found.by_name start (start_is (values_of start_option.name parts) start (says_it parts start_option start order)) is

    own : ComeTo parts reordering_options (numbers_of found)
    own = (
      says_it parts depth_option found.depth depth,
      (
        says_it parts rounds_option found.rounds rounds,
        (
          says_it parts leaf_option found.leaf leaf,
          (
            says_it parts workers_option found.workers workers,
            (
              says_it parts step_option found.step step,
              (
                says_it parts min_df_option found.min_df min_df,
                (subst (λ n. ComesTo start_option (values_of start_option.name parts) n) (sym own_start) (says_it parts start_option start order), tt),
              ),
            ),
          ),
        ),
      ),
    )

-- what the words behind `reorder` say of the options
abbrev Reorders : List Word → Option Reordering → Type 0
Reorders words found = OfParts words (λ parts. (options : Reordering) → (found ≡ Some options) ↔ ComeTo parts reordering_options (numbers_of options))

only_reorder : (words : List Word) (input output : Word) (options : Reordering) → Operand words 0 input → Operand words 1 output → Reorders words (Some options)
    → (other : Command) → IsCommand (reorder_row.name ∷ words) other → other ≡ reorder input output options
only_reorder words input output options first second all (reorder i o k) line =
    let are = same_behind reorder_row.name words line.behind line.follow.parts line.named line.follow.whole in
    let one : input ≡ i = same_Some input i (first line.follow.parts are ∙ ap (λ ns. slice_get ns 0) line.operands) in
    let two : output ≡ o = same_Some output o (second line.follow.parts are ∙ ap (λ ns. slice_get ns 1) line.operands) in
    let three : options ≡ k = same_Some options k ((all line.follow.parts are k).1 line.options) in
    ap (λ n. reorder n o k) (sym one) ∙ ap (λ n. reorder input n k) (sym two) ∙ ap (reorder input output) (sym three)
only_reorder words input output options first second all (copy i o) line = let e : reorder_row.name ∷ words ≡ copy_row.name ∷ line.behind = line.named in absurd (cc)
only_reorder words input output options first second all (report i w) line = let e : reorder_row.name ∷ words ≡ report_row.name ∷ line.behind = line.named in absurd (cc)
only_reorder words input output options first second all (query i q) line = let e : reorder_row.name ∷ words ≡ query_row.name ∷ line.behind = line.named in absurd (cc)
only_reorder words input output options first second all (make d o n k) line = let e : reorder_row.name ∷ words ≡ make_row.name ∷ line.line.behind = line.line.named in absurd (cc)
only_reorder words input output options first second all (live i o q k r) line = let e : reorder_row.name ∷ words ≡ live_row.name ∷ line.behind = line.named in absurd (cc)

pub reorder_line : (words : List Word) (input output : Word) (options : Reordering) → Follow 2 reordering_options words → Operand words 0 input → Operand words 1 output → Reorders words (Some options)
    → SpellsOnly (reorder_row.name ∷ words) (reorder input output options)
reorder_line words input output options follow first second all = record {
  spelt = record {
    behind = words;
    named = refl;
    follow = follow;
    operands = two_operands (operands_of follow.parts) input output follow.count (first follow.parts follow.whole) (second follow.parts follow.whole);
    options = (all follow.parts follow.whole options).0 refl;
  };
  only = only_reorder words input output options first second all;
}

pub no_reordering : (words : List Word) → Reorders words None → Answers (reorder_row.name ∷ words) None
no_reordering words none (reorder i o k) line =
    let are = same_behind reorder_row.name words line.behind line.follow.parts line.named line.follow.whole in
    none-some k ((none line.follow.parts are k).1 line.options)
no_reordering words none (copy i o) line = let e : reorder_row.name ∷ words ≡ copy_row.name ∷ line.behind = line.named in absurd (cc)
no_reordering words none (report i w) line = let e : reorder_row.name ∷ words ≡ report_row.name ∷ line.behind = line.named in absurd (cc)
no_reordering words none (query i q) line = let e : reorder_row.name ∷ words ≡ query_row.name ∷ line.behind = line.named in absurd (cc)
no_reordering words none (make d o n k) line = let e : reorder_row.name ∷ words ≡ make_row.name ∷ line.line.behind = line.line.named in absurd (cc)
no_reordering words none (live i o q k r) line = let e : reorder_row.name ∷ words ≡ live_row.name ∷ line.behind = line.named in absurd (cc)

-- ---- the words behind `make`

-- the number of the generator that the words say
abbrev Numbers : List Word → Option ℕ → Type 0
Numbers words found = OfParts words (λ parts. Finds found (ComesTo number_option (values_of number_option.name parts)))

only_make : (words : List Word) (count : Word) (documents : ℕ) (output : Word) (number : ℕ) (options : Reordering) → Operand words 0 count → Finds (Some documents) (Means document_counts count) → Operand words 1 output
    → Numbers words (Some number) → Reorders words (Some options) → (other : Command) → IsCommand (make_row.name ∷ words) other → other ≡ make documents output number options
only_make words count documents output number options first found second drawn all (make d o n k) spelt =
    let line = spelt.line in
    let are = same_behind make_row.name words line.behind line.follow.parts line.named line.follow.whole in
    let same : count ≡ spelt.count = same_Some count spelt.count (first line.follow.parts are ∙ ap (λ ns. slice_get ns 0) line.operands) in
    let one : documents ≡ d = same_Some documents d ((found d).1 (subst (λ word. Means document_counts word d) (sym same) spelt.means)) in
    let two : output ≡ o = same_Some output o (second line.follow.parts are ∙ ap (λ ns. slice_get ns 1) line.operands) in
    let three : number ≡ n = same_Some number n ((drawn line.follow.parts are n).1 line.options.0) in
    let four : options ≡ k = same_Some options k ((all line.follow.parts are k).1 line.options.1) in
    ap (λ m. make m o n k) (sym one) ∙ ap (λ m. make documents m n k) (sym two) ∙ ap (λ m. make documents output m k) (sym three) ∙ ap (make documents output number) (sym four)
only_make words count documents output number options first found second drawn all (copy i o) line = absurd (copy_is_not_make line.behind words (sym line.named))
only_make words count documents output number options first found second drawn all (report i w) line = let e : make_row.name ∷ words ≡ report_row.name ∷ line.behind = line.named in absurd (cc)
only_make words count documents output number options first found second drawn all (reorder i o k) line = let e : make_row.name ∷ words ≡ reorder_row.name ∷ line.behind = line.named in absurd (cc)
only_make words count documents output number options first found second drawn all (query i q) line = let e : make_row.name ∷ words ≡ query_row.name ∷ line.behind = line.named in absurd (cc)
only_make words count documents output number options first found second drawn all (live i o q k r) line = absurd (make_is_not_live words line.behind line.named)

pub make_line : (words : List Word) (count : Word) (documents : ℕ) (output : Word) (number : ℕ) (options : Reordering) → Follow 2 (number_option ∷ reordering_options) words → Operand words 0 count
    → Finds (Some documents) (Means document_counts count) → Operand words 1 output → Numbers words (Some number) → Reorders words (Some options)
    → SpellsOnly (make_row.name ∷ words) (make documents output number options)
make_line words count documents output number options follow first found second drawn all = record {
  spelt = record {
    count = count;
    means = (found documents).0 refl;
    line = record {
      behind = words;
      named = refl;
      follow = follow;
      operands = two_operands (operands_of follow.parts) count output follow.count (first follow.parts follow.whole) (second follow.parts follow.whole);
      options = ((drawn follow.parts follow.whole number).0 refl, (all follow.parts follow.whole options).0 refl);
    };
  };
  only = only_make words count documents output number options first found second drawn all;
}

pub no_documents : (words : List Word) (count : Word) → Operand words 0 count → Finds None (Means document_counts count) → Answers (make_row.name ∷ words) None
no_documents words count first none (make d o n k) spelt =
    let line = spelt.line in
    let are = same_behind make_row.name words line.behind line.follow.parts line.named line.follow.whole in
    let same : count ≡ spelt.count = same_Some count spelt.count (first line.follow.parts are ∙ ap (λ ns. slice_get ns 0) line.operands) in
    none-some d ((none d).1 (subst (λ word. Means document_counts word d) (sym same) spelt.means))
no_documents words count first none (copy i o) line = absurd (copy_is_not_make line.behind words (sym line.named))
no_documents words count first none (report i w) line = let e : make_row.name ∷ words ≡ report_row.name ∷ line.behind = line.named in absurd (cc)
no_documents words count first none (reorder i o k) line = let e : make_row.name ∷ words ≡ reorder_row.name ∷ line.behind = line.named in absurd (cc)
no_documents words count first none (query i q) line = let e : make_row.name ∷ words ≡ query_row.name ∷ line.behind = line.named in absurd (cc)
no_documents words count first none (live i o q k r) line = absurd (make_is_not_live words line.behind line.named)

pub no_number : (words : List Word) → Numbers words None → Answers (make_row.name ∷ words) None
no_number words none (make d o n k) spelt =
    let line = spelt.line in
    let are = same_behind make_row.name words line.behind line.follow.parts line.named line.follow.whole in
    none-some n ((none line.follow.parts are n).1 line.options.0)
no_number words none (copy i o) line = absurd (copy_is_not_make line.behind words (sym line.named))
no_number words none (report i w) line = let e : make_row.name ∷ words ≡ report_row.name ∷ line.behind = line.named in absurd (cc)
no_number words none (reorder i o k) line = let e : make_row.name ∷ words ≡ reorder_row.name ∷ line.behind = line.named in absurd (cc)
no_number words none (query i q) line = let e : make_row.name ∷ words ≡ query_row.name ∷ line.behind = line.named in absurd (cc)
no_number words none (live i o q k r) line = absurd (make_is_not_live words line.behind line.named)

pub no_made_reordering : (words : List Word) → Reorders words None → Answers (make_row.name ∷ words) None
no_made_reordering words none (make d o n k) spelt =
    let line = spelt.line in
    let are = same_behind make_row.name words line.behind line.follow.parts line.named line.follow.whole in
    none-some k ((none line.follow.parts are k).1 line.options.1)
no_made_reordering words none (copy i o) line = absurd (copy_is_not_make line.behind words (sym line.named))
no_made_reordering words none (report i w) line = let e : make_row.name ∷ words ≡ report_row.name ∷ line.behind = line.named in absurd (cc)
no_made_reordering words none (reorder i o k) line = let e : make_row.name ∷ words ≡ reorder_row.name ∷ line.behind = line.named in absurd (cc)
no_made_reordering words none (query i q) line = let e : make_row.name ∷ words ≡ query_row.name ∷ line.behind = line.named in absurd (cc)
no_made_reordering words none (live i o q k r) line = absurd (make_is_not_live words line.behind line.named)

-- ---- the words behind `live`

-- how many readers the words say
abbrev Readers : List Word → Option ℕ → Type 0
Readers words found = OfParts words (λ parts. Finds found (ComesTo readers_option (values_of readers_option.name parts)))

only_live : (words : List Word) (input output queries : Word) (options : Reordering) (readers : ℕ) → Operand words 0 input → Operand words 1 output → Operand words 2 queries
    → Readers words (Some readers) → Reorders words (Some options) → (other : Command) → IsCommand (live_row.name ∷ words) other → other ≡ live input output queries options readers
only_live words input output queries options readers first second third counted all (live i o q k r) line =
    let are = same_behind live_row.name words line.behind line.follow.parts line.named line.follow.whole in
    let one : input ≡ i = same_Some input i (first line.follow.parts are ∙ ap (λ ns. slice_get ns 0) line.operands) in
    let two : output ≡ o = same_Some output o (second line.follow.parts are ∙ ap (λ ns. slice_get ns 1) line.operands) in
    let three : queries ≡ q = same_Some queries q (third line.follow.parts are ∙ ap (λ ns. slice_get ns 2) line.operands) in
    let four : readers ≡ r = same_Some readers r ((counted line.follow.parts are r).1 line.options.0) in
    let five : options ≡ k = same_Some options k ((all line.follow.parts are k).1 line.options.1) in
    ap (λ m. live m o q k r) (sym one) ∙ ap (λ m. live input m q k r) (sym two) ∙ ap (λ m. live input output m k r) (sym three)
    ∙ ap (λ m. live input output queries k m) (sym four) ∙ ap (λ m. live input output queries m readers) (sym five)
only_live words input output queries options readers first second third counted all (copy i o) line = absurd (copy_is_not_live line.behind words (sym line.named))
only_live words input output queries options readers first second third counted all (report i w) line = let e : live_row.name ∷ words ≡ report_row.name ∷ line.behind = line.named in absurd (cc)
only_live words input output queries options readers first second third counted all (reorder i o k) line = let e : live_row.name ∷ words ≡ reorder_row.name ∷ line.behind = line.named in absurd (cc)
only_live words input output queries options readers first second third counted all (query i q) line = let e : live_row.name ∷ words ≡ query_row.name ∷ line.behind = line.named in absurd (cc)
only_live words input output queries options readers first second third counted all (make d o n k) line = absurd (make_is_not_live line.line.behind words (sym line.line.named))

pub live_line : (words : List Word) (input output queries : Word) (options : Reordering) (readers : ℕ) → Follow 3 (readers_option ∷ reordering_options) words → Operand words 0 input
    → Operand words 1 output → Operand words 2 queries → Readers words (Some readers) → Reorders words (Some options)
    → SpellsOnly (live_row.name ∷ words) (live input output queries options readers)
live_line words input output queries options readers follow first second third counted all = record {
  spelt = record {
    behind = words;
    named = refl;
    follow = follow;
    operands = three_operands (operands_of follow.parts) input output queries follow.count (first follow.parts follow.whole) (second follow.parts follow.whole) (third follow.parts follow.whole);
    options = ((counted follow.parts follow.whole readers).0 refl, (all follow.parts follow.whole options).0 refl);
  };
  only = only_live words input output queries options readers first second third counted all;
}

pub no_readers : (words : List Word) → Readers words None → Answers (live_row.name ∷ words) None
no_readers words none (live i o q k r) line =
    let are = same_behind live_row.name words line.behind line.follow.parts line.named line.follow.whole in
    none-some r ((none line.follow.parts are r).1 line.options.0)
no_readers words none (copy i o) line = absurd (copy_is_not_live line.behind words (sym line.named))
no_readers words none (report i w) line = let e : live_row.name ∷ words ≡ report_row.name ∷ line.behind = line.named in absurd (cc)
no_readers words none (reorder i o k) line = let e : live_row.name ∷ words ≡ reorder_row.name ∷ line.behind = line.named in absurd (cc)
no_readers words none (query i q) line = let e : live_row.name ∷ words ≡ query_row.name ∷ line.behind = line.named in absurd (cc)
no_readers words none (make d o n k) line = absurd (make_is_not_live line.line.behind words (sym line.line.named))

pub no_live_reordering : (words : List Word) → Reorders words None → Answers (live_row.name ∷ words) None
no_live_reordering words none (live i o q k r) line =
    let are = same_behind live_row.name words line.behind line.follow.parts line.named line.follow.whole in
    none-some k ((none line.follow.parts are k).1 line.options.1)
no_live_reordering words none (copy i o) line = absurd (copy_is_not_live line.behind words (sym line.named))
no_live_reordering words none (report i w) line = let e : live_row.name ∷ words ≡ report_row.name ∷ line.behind = line.named in absurd (cc)
no_live_reordering words none (reorder i o k) line = let e : live_row.name ∷ words ≡ reorder_row.name ∷ line.behind = line.named in absurd (cc)
no_live_reordering words none (query i q) line = let e : live_row.name ∷ words ≡ query_row.name ∷ line.behind = line.named in absurd (cc)
no_live_reordering words none (make d o n k) line = absurd (make_is_not_live line.line.behind words (sym line.line.named))
