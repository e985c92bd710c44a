-- What follows of outcomes, each the contract of a call of its own.
use Rattle.std.specs.Prelude.{◌≡◌, ℕ, List, IfSome}
use Rattle.rgb_base.specs.Parts.{IndexParts, IsIndex}
use Rattle.live_index.specs.History.{IsPlan, BeginsWithIdentity}
use Rattle.rgb_app.specs.Planned.{planned_versions, is_planned}
use Rattle.rgb_app.specs.declared.plan.SlabPlan.{SlabPlan}
use Rattle.std.specs.FinMap.{get}
use Rattle.ciff_wire.specs.Laws.{AreBytes}
use Rattle.rgb_host.specs.Files.{Files}
use Rattle.command_words.specs.Line.{Word}
use Rattle.command_words.specs.Command.{Command}
use Rattle.command_words.specs.declared.reordering.Reordering.{Reordering}
use Rattle.rgb_app.specs.Outcome.{Outcome, done, Work, ComesTo, IsPlain, IsLiveWork}

-- over files that are told a command comes to one outcome at most, but for the versions of `live`
abbrev pub OneOutcome : Type 0
OneOutcome = (command : Command) → IsPlain command → (files : Files) (one other : Outcome)
    → ComesTo command files one → ComesTo command files other → one ≡ other

-- the two are one outcome, or work that writes one file
abbrev pub AreAlike : Outcome → Outcome → Type 0
AreAlike (done work) (done other) = work.file ≡ other.file
AreAlike one other = one ≡ other

-- what any command comes to is alike
abbrev pub AlikeOutcomes : Type 0
AlikeOutcomes = (command : Command) (files : Files) (one other : Outcome)
    → ComesTo command files one → ComesTo command files other → AreAlike one other

-- and the versions tell the work of `live`
abbrev pub VersionsTellTheWork : Type 0
VersionsTellTheWork = (files : Files) (input output queries : Word) (options : Reordering)
    (readers : ℕ) (versions : List ℕ) (one other : Work)
    → IsLiveWork files input output queries options readers versions one
    → IsLiveWork files input output queries options readers versions other → one ≡ other

-- the files hold bytes
abbrev pub HoldBytes : Files → Type 0
HoldBytes files = (name : Word) → IfSome (get files name) AreBytes

-- and over files of bytes any command comes to some outcome
abbrev pub SomeOutcome : Type 0
SomeOutcome = (command : Command) (files : Files) → HoldBytes files
    → (outcome : Outcome) × ComesTo command files outcome

-- over an index each version of a reordering is planned to be one numbering
abbrev pub VersionsArePlanned : Type 0
VersionsArePlanned =
    (index : IndexParts) (plan : SlabPlan) → IsIndex index
    → IsPlan planned_versions is_planned index plan

-- and the first leaves each document where it is
abbrev pub FirstVersionIsIdentity : Type 0
FirstVersionIsIdentity =
    (index : IndexParts) (plan : SlabPlan) → IsIndex index
    → BeginsWithIdentity planned_versions is_planned index plan
