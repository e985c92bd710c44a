-- Cells that are not split further are kept as they stand.
use Rattle.std.proofs.Common.{◌≡◌, ℕ, ◌+◌, ◌<◌, ◌≤◌, List, [], ◌∷◌, ◌++◌, length, take, drop, get_or, None, refl, sym, ap, ◌∙◌, subst, arith, All, take-add, take_all}
use Rattle.std.specs.List.{sum_by}
use Rattle.std.proofs.lemmas.List.{take_more}
use Rattle.std.proofs.lemmas.List.Elements.{All-push}
use Rattle.std.proofs.lemmas.List.Sums.{sum_by_push}
use Rattle.bisection.specs.declared.options.Options.{Options}
use Rattle.bisection.specs.declared.cell.Part.{Part}
use Rattle.bisection.specs.Progress.{limits_of}
use Rattle.bisection.specs.Cells.{DescendsAll, Output}
use Rattle.bisection.proofs.Descents.{descend_none}
use Rattle.bisection.proofs.Slabs.{all_none}
use Rattle.bisection.proofs.Joined.{join_one}

abbrev lens : List Part → ℕ
lens parts = sum_by (λ (p : Part). p.len) parts

abbrev has_none : Part → Type 0
has_none part = part.rows ≡ None

-- the cells of so many parts are kept, and their documents stand as they stood
abbrev pub AreKept : Options → ℕ → ℕ → ℕ → List Part → List ℕ → Output → Output → Type 0
AreKept options level last count parts docs before after = (let own = take (lens (take count parts)) docs in
    DescendsAll (limits_of options) options.depth level last 0 (take count parts) own own before after)

pub kept_none : (options : Options) (level last : ℕ) (parts : List Part) (docs : List ℕ) (before : Output) → AreKept options level last 0 parts docs before before
kept_none options level last parts docs before = all_none (limits_of options) options.depth level last 0 [] [] before refl

pub kept_next : (options : Options) (level last k : ℕ) (parts : List Part) (part : Part) (docs : List ℕ) (before mid after : Output) → level ≤ last → last ≤ options.depth → k < length parts → part ≡ get_or parts k part → part.rows ≡ None
    → (let pushed : Part = record { len = part.len; rows = None } in after.parts ≡ mid.parts ++ pushed ∷ []) → after.trace ≡ mid.trace → AreKept options level last k parts docs before mid → AreKept options level last (k + 1) parts docs before after
kept_next options level last k parts part docs before mid after order within low is none parts_are trace_is front =
    let limits = limits_of options in
    let start = lens (take k parts) in
    let own = take part.len (drop start docs) in
    let one = descend_none limits options.depth level last start part own mid after order within none parts_are trace_is in
    let all = join_one options level last k parts part docs (take start docs) own before mid after low is front one in
    let more : take (k + 1) parts ≡ take k parts ++ part ∷ [] = take_more parts k part low ∙ ap (λ (p : Part). take k parts ++ p ∷ []) (sym is) in
    let total : lens (take (k + 1) parts) ≡ start + part.len = ap lens more ∙ sum_by_push (λ (p : Part). p.len) (take k parts) part in
    let glue : take start docs ++ own ≡ take (lens (take (k + 1) parts)) docs = sym (ap (λ (n : ℕ). take n docs) total ∙ take-add start part.len docs) in
    subst (λ (o : List ℕ). DescendsAll limits options.depth level last 0 (take (k + 1) parts) (take (lens (take (k + 1) parts)) docs) o before after) glue all

pub kept_all : (options : Options) (level last k : ℕ) (parts : List Part) (docs : List ℕ) (before after : Output) → length parts ≤ k → length docs ≡ lens parts → AreKept options level last k parts docs before after
    → DescendsAll (limits_of options) options.depth level last 0 parts docs docs before after
kept_all options level last k parts docs before after end len kept =
    let all : take k parts ≡ parts = take_all k parts end in
    let whole : take (lens (take k parts)) docs ≡ docs = ap (λ (ps : List Part). take (lens ps) docs) all ∙ take_all (lens parts) docs (omega (arith, len)) in
    subst (λ (x : List Part × List ℕ). DescendsAll (limits_of options) options.depth level last 0 x.0 x.1 x.1 before after) (λ i. (all i, whole i)) kept

pub none_next : (parts : List Part) (k : ℕ) (part : Part) → k < length parts → part ≡ get_or parts k part → part.rows ≡ None → All has_none (take k parts) → All has_none (take (k + 1) parts)
none_next parts k part low is none all =
    let more : take (k + 1) parts ≡ take k parts ++ part ∷ [] = take_more parts k part low ∙ ap (λ (p : Part). take k parts ++ p ∷ []) (sym is) in
    subst (All has_none) (sym more) (All-push has_none (take k parts) part all none)

pub none_all : (parts : List Part) (k : ℕ) → length parts ≤ k → All has_none (take k parts) → All has_none parts
none_all parts k end all = subst (All has_none) (take_all k parts end) all

pub none_read : (parts : List Part) (k : ℕ) (part : Part) → k < length parts → part ≡ get_or parts k part → All has_none parts → part.rows ≡ None
none_read parts k part low is all = ap (λ (p : Part). p.rows) is ∙ all k part low
