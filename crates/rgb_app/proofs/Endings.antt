-- What the end of a run says of the status that comes.
use Rattle.std.proofs.Common.{◌≡◌, ◌⊎◌, ◌↔◌, ℕ, List, Option, Some, None, IsSomeAnd, IfSome, refl, sym, ap, subst, ◌∙◌, inl, inr}
use Rattle.rgb_host.specs.Files.{Files, Rose}
use Rattle.rgb_host.specs.Seen.{Seen}
use Rattle.command_words.specs.Line.{Word}
use Rattle.command_words.specs.Command.{Command, IsCommand, Answers, SpellsOnly}
use Rattle.rgb_app.specs.Outcome.{Outcome, Written, Work, done, malformed, missing, bad_query, too_long, ComesTo, IsPlain, IsAny}
use Rattle.rgb_app.specs.Status.{code_of, warning_of, status_of}
use Rattle.rgb_app.specs.Ends.{DoesComeTo, with_written, Says, SpellsNone, SpellsOne, Runs, Warned, Ends, IsDisturbed, IsExact, IsCutOff, not_created, not_written, not_printed}
use Rattle.rgb_app.specs.Laws.{AreAlike, AlikeOutcomes}
use Rattle.rgb_app.specs.declared.status.Status.{Status}
use Rattle.rgb_app.specs.declared.status.Status.TheVariants.{Done, Usage, Malformed, ReadFault, WriteFault, Memory, BadQuery, TooLong}

-- ---- usage

usage_code : (status : Status) (command : Command) (before after : Seen) → Says status command before after → code_of status ≡ 2 → ⊥
usage_code Done command before after says is = absurd (cc)
usage_code Usage command before after says is = says
usage_code (Malformed place cause) command before after says is = absurd (cc)
usage_code ReadFault command before after says is = absurd (cc)
usage_code WriteFault command before after says is = absurd (cc)
usage_code Memory command before after says is = absurd (cc)
usage_code (BadQuery line at cause) command before after says is = absurd (cc)
usage_code TooLong command before after says is = absurd (cc)

usage_means : (Does : Command → Type 0) (status : Status) (words : List Word) (before after : Seen) → Runs Does status words before after → code_of status ≡ 2 → SpellsNone Does words
usage_means Does status words before after (inl p) is = p.0
usage_means Does status words before after (inr p) is = absurd (usage_code status p.0 before after p.3 is)

refused_words : (Does : Command → Type 0) (status : Status) (words : List Word) (before after : Seen) → Runs Does status words before after → SpellsNone Does words → status ≡ Usage
refused_words Does status words before after (inl p) none = p.1
refused_words Does status words before after (inr p) none = absurd (none p.0 p.1 p.2)

pub usage_comes : (Does : Command → Type 0) (words : List Word) (before after : Seen) (number : ℕ) → Ends Does words before after number → (number ≡ 2) ↔ SpellsNone Does words
usage_comes Does words before after number e = (
  (λ is. usage_means Does e.status words before e.between e.runs (sym e.code ∙ is)),
  (λ none. e.code ∙ ap code_of (refused_words Does e.status words before e.between e.runs none)),
)

-- ---- the line that is warned changes no count of the work

keeps_reads : (line : Option (List ℕ)) (before after : Seen) → Warned line before after → after.read_faults ≡ before.read_faults
keeps_reads None before after w = ap (λ host. host.read_faults) w
keeps_reads (Some line) before after (inl w) = ap (λ host. host.read_faults) w
keeps_reads (Some line) before after (inr w) = ap (λ host. host.read_faults) w.failed.same

keeps_writes : (line : Option (List ℕ)) (before after : Seen) → Warned line before after → after.write_faults ≡ before.write_faults
keeps_writes None before after w = ap (λ host. host.write_faults) w
keeps_writes (Some line) before after (inl w) = ap (λ host. host.write_faults) w
keeps_writes (Some line) before after (inr w) = ap (λ host. host.write_faults) w.failed.same

disturbed_after : (outcome : Outcome) (before between after : Seen) → after.read_faults ≡ between.read_faults → after.write_faults ≡ between.write_faults
    → IsDisturbed outcome before between → IsDisturbed outcome before after
disturbed_after (done work) before between after reads writes (inl d) = inl (subst (λ n. Rose before.read_faults n) (sym reads) d)
disturbed_after (done work) before between after reads writes (inr d) = inr (subst (λ n. Rose before.write_faults n) (sym writes) d)
disturbed_after (malformed place cause) before between after reads writes d = subst (λ n. Rose before.read_faults n) (sym reads) d
disturbed_after missing before between after reads writes d = subst (λ n. Rose before.read_faults n) (sym reads) d
disturbed_after (bad_query line at cause) before between after reads writes d = subst (λ n. Rose before.read_faults n) (sym reads) d
disturbed_after too_long before between after reads writes d = subst (λ n. Rose before.read_faults n) (sym reads) d

read_disturbs : (outcome : Outcome) (before after : Seen) → Rose before.read_faults after.read_faults → IsDisturbed outcome before after
read_disturbs (done work) before after rose = inl rose
read_disturbs (malformed place cause) before after rose = rose
read_disturbs missing before after rose = rose
read_disturbs (bad_query line at cause) before after rose = rose
read_disturbs too_long before after rose = rose

written_counts : (file : Option Written) (host : Seen) → (with_written file host).write_faults ≡ host.write_faults
written_counts None host = refl
written_counts (Some file) host = refl

cut_off_rose : (work : Work) (before after : Seen) → IsCutOff work before after → Rose before.write_faults after.write_faults
cut_off_rose work before after (not_created file is failed) = failed.rose
cut_off_rose work before after (not_written file is n within failed) = failed.rose
cut_off_rose work before after (not_printed cut) = subst (λ n. Rose n after.write_faults) (written_counts work.file before) cut.failed.rose

-- ---- the outcome's status

alike_status : (one other : Outcome) → AreAlike one other → status_of one ≡ status_of other
alike_status (done work) (done other) alike = refl
alike_status (done work) (malformed place cause) alike = ap status_of alike
alike_status (done work) missing alike = ap status_of alike
alike_status (done work) (bad_query line at cause) alike = ap status_of alike
alike_status (done work) too_long alike = ap status_of alike
alike_status (malformed place cause) other alike = ap status_of alike
alike_status missing other alike = ap status_of alike
alike_status (bad_query line at cause) other alike = ap status_of alike
alike_status too_long other alike = ap status_of alike

-- a failed write can keep work from being done
write_disturbs : (work : Work) (outcome : Outcome) (before after : Seen) → AreAlike (done work) outcome → Rose before.write_faults after.write_faults → IsDisturbed outcome before after
write_disturbs work (done other) before after alike rose = inr rose
write_disturbs work (malformed place cause) before after alike rose = absurd (cc)
write_disturbs work missing before after alike rose = absurd (cc)
write_disturbs work (bad_query line at cause) before after alike rose = absurd (cc)
write_disturbs work too_long before after alike rose = absurd (cc)

-- over the files that are told outcomes are alike
told_one : AlikeOutcomes → (command : Command) (told : Option Files) (one other : Outcome) → IfSome told (λ files. ComesTo command files one) → IsSomeAnd told (λ files. ComesTo command files other) → AreAlike one other
told_one law command None one other p q = absurd q
told_one law command (Some files) one other p q = law command files one other p q

told_both : AlikeOutcomes → (command : Command) (told : Option Files) (one other : Outcome) → IsSomeAnd told (λ files. ComesTo command files one) → IsSomeAnd told (λ files. ComesTo command files other) → AreAlike one other
told_both law command None one other p q = absurd q
told_both law command (Some files) one other p q = law command files one other p q

status_tells : AlikeOutcomes → (status : Status) (command : Command) (outcome : Outcome) (before after : Seen) → Says status command before after → DoesComeTo command before outcome → ¬ IsDisturbed outcome before after
    → (status ≡ status_of outcome) ⊎ (status ≡ Memory)
status_tells law Done command outcome before after says told calm = inl (alike_status (done says.0) outcome (told_one law command before.files (done says.0) outcome says.1 told))
status_tells law Usage command outcome before after says told calm = absurd says
status_tells law (Malformed place cause) command outcome before after says told calm = inl (alike_status (malformed place cause) outcome (told_one law command before.files (malformed place cause) outcome says.0 told))
status_tells law ReadFault command outcome before after (inl failed) told calm = absurd (calm (read_disturbs outcome before after failed.rose))
status_tells law ReadFault command outcome before after (inr says) told calm = inl (alike_status missing outcome (told_both law command before.files missing outcome says.0 told))
status_tells law WriteFault command outcome before after says told calm =
    absurd (calm (write_disturbs says.0 outcome before after (told_one law command before.files (done says.0) outcome says.1 told) (cut_off_rose says.0 before after says.2)))
status_tells law Memory command outcome before after says told calm = inr refl
status_tells law (BadQuery line at cause) command outcome before after says told calm = inl (alike_status (bad_query line at cause) outcome (told_one law command before.files (bad_query line at cause) outcome says.0 told))
status_tells law TooLong command outcome before after says told calm = inl (alike_status too_long outcome (told_one law command before.files too_long outcome says.0 told))

-- words spell one command at most, as their reading says
pub answers_one : (words : List Word) (found : Option Command) → Answers words found → SpellsOne words
answers_one words None none = λ a b p q. absurd (none a p)
answers_one words (Some command) only = λ a b p q. only.only a p ∙ sym (only.only b q)

code_tells : (number : ℕ) (status other : Status) → number ≡ code_of status → (status ≡ other) ⊎ (status ≡ Memory) → (number ≡ code_of other) ⊎ (number ≡ code_of Memory)
code_tells number status other code (inl is) = inl (code ∙ ap code_of is)
code_tells number status other code (inr is) = inr (code ∙ ap code_of is)

runs_tell : AlikeOutcomes → (Does : Command → Type 0) (status : Status) (words : List Word) (before after : Seen) (outcome : Outcome) (command : Command) → SpellsOne words → Runs Does status words before after → Does command → IsCommand words command
    → DoesComeTo command before outcome → ¬ IsDisturbed outcome before after → (status ≡ status_of outcome) ⊎ (status ≡ Memory)
runs_tell law Does status words before after outcome command only (inl p) does spells told calm = absurd (p.0 command does spells)
runs_tell law Does status words before after outcome command only (inr p) does spells told calm =
    status_tells law status command outcome before after (subst (λ k. Says status k before after) (only p.0 command p.2 spells) p.3) told calm

pub exact_comes : AlikeOutcomes → (Does : Command → Type 0) (words : List Word) (before after : Seen) (number : ℕ) → SpellsOne words → Ends Does words before after number → IsExact Does words before after number
exact_comes law Does words before after number only e = λ command does spells outcome told calm.
    code_tells number e.status (status_of outcome) e.code (runs_tell law Does e.status words before e.between outcome command only e.runs does spells told
    (λ d. calm (disturbed_after outcome before e.between after (keeps_reads (warning_of e.status) e.between after e.warned) (keeps_writes (warning_of e.status) e.between after e.warned) d)))

-- ---- the top call

any_runs : (status : Status) (words : List Word) (before after : Seen) → ((command : Command) → IsCommand words command → IsPlain command) → Runs IsPlain status words before after → Runs IsAny status words before after
any_runs status words before after plain (inl p) = inl ((λ command does spells. p.0 command (plain command spells) spells), p.1, p.2)
any_runs status words before after plain (inr p) = inr (p.0, tt, p.2, p.3)

-- where what is spelt is plain, a run of plain commands is one of any command
pub any_ends : (words : List Word) (before after : Seen) (number : ℕ) → ((command : Command) → IsCommand words command → IsPlain command) → Ends IsPlain words before after number → Ends IsAny words before after number
any_ends words before after number plain e = record {
  status = e.status;
  code = e.code;
  between = e.between;
  runs = any_runs e.status words before e.between plain e.runs;
  warned = e.warned;
}

-- the command that is spelt was run
pub spelt_ends : (words : List Word) (command : Command) (status : Status) (before between after : Seen) (number : ℕ) → IsCommand words command → Says status command before between → number ≡ code_of status → Warned (warning_of status) between after
    → Ends IsAny words before after number
spelt_ends words command status before between after number spells says code warned = record { status = status; code = code; between = between; runs = inr (command, tt, spells, says); warned = warned }

pub spells_one : (words : List Word) (command : Command) → SpellsOnly words command → SpellsOne words
spells_one words command only one other a b = only.only one a ∙ sym (only.only other b)
