-- Reading field after field and gap after gap.
use Rattle.std.proofs.Common.{◌≡◌, ℕ, ◌==◌, Bool, true, false, cond, ℤ, pos, List, [], ◌∷◌, ◌++◌, flat_map, Option, Some, None, refl, sym, ap, subst, ◌∙◌}
use Rattle.std.specs.Prelude.{◌+ℤ◌, ◌≤ℤ◌, ◌<ℤ◌}
use Rattle.std.specs.Option.{option_or}
use Rattle.std.specs.List.{All, AllZip}
use Rattle.std.proofs.lemmas.List.{append_assoc, append-nil}
use Rattle.std.proofs.lemmas.List.Concat.{flat_map-append}
use Rattle.std.proofs.lemmas.List.Elements.{All-cons, All-nil, All-head, All-tail, All-push}
use Rattle.ciff_wire.specs.Field.{Held, Entry, as_bytes}
use Rattle.ciff_wire.specs.Laws.{FrontIsFirst}
use Rattle.ciff_format.specs.Fields.{posting_table, HasItsType, HasFields, HasText, held_at, each_at, bytes_where}
use Rattle.ciff_format.specs.Messages.{PostingRows, sums_from}
use Rattle.ciff_format.specs.Growing.{NothingHeld, LaterWins, EachIsAdded, TypesGrow, TextsGrow, WrongTypeIsBad, BadPostingIsBad, sum_after, SumsGrow, SumGrows, GapsGrow}
use Rattle.ciff_format.proofs.CanonicalFields.{held_join}

-- ---- fields

pub nothing_held : NothingHeld
unfolding held_at each_at
nothing_held n = (refl, refl)

one_held : (b : Bool) (held : Held) (others : Option Held) → option_or (option_or None (cond b (Some held) None)) others ≡ cond b (Some held) others
one_held true held others = refl
one_held false held others = refl

pub later_wins : LaterWins
unfolding held_at
later_wins n fields entry = held_join n fields (entry ∷ []) ∙ one_held (entry.number == n) entry.held (held_at n fields)

pub each_is_added : EachIsAdded
unfolding each_at
each_is_added n fields entry = flat_map-append (bytes_where n) fields (entry ∷ []) ∙ ap (λ (t : List (List ℕ)). flat_map (bytes_where n) fields ++ t) (append-nil (bytes_where n entry))

-- of a front, and behind it
all_front : {A : Type 0} (P : A → Type 0) (xs ys : List A) → All P (xs ++ ys) → All P xs
all_front P [] ys all = All-nil P
all_front P (x ∷ xs) ys all = All-cons P x xs (All-head P x (xs ++ ys) all) (all_front P xs ys (All-tail P x (xs ++ ys) all))

all_behind : {A : Type 0} (P : A → Type 0) (xs ys : List A) → All P (xs ++ ys) → All P ys
all_behind P [] ys all = all
all_behind P (x ∷ xs) ys all = all_behind P xs ys (All-tail P x (xs ++ ys) all)

all_grow : {A : Type 0} (P : A → Type 0) (xs : List A) (x : A) → (All P (xs ++ x ∷ []) → All P xs × P x) × (All P xs × P x → All P (xs ++ x ∷ []))
all_grow P xs x = (
  λ all. (all_front P xs (x ∷ []) all, All-head P x [] (all_behind P xs (x ∷ []) all)),
  λ both. All-push P xs x both.0 both.1,
)

pub types_grow : TypesGrow
types_grow table fields entry = all_grow (HasItsType table) fields entry

pub texts_grow : TextsGrow
texts_grow table fields entry = all_grow (HasText table) fields entry

pub wrong_type_is_bad : FrontIsFirst → WrongTypeIsBad
wrong_type_is_bad first table message front fields at spelt wrong has =
    let rest = first message front fields at spelt has.spelt in
    wrong (all_front (HasItsType table) front rest.0 (subst (λ (fs : List Entry). All (HasItsType table) fs) rest.1 has.types))

-- each of the paired messages has fields
zip_front : (ms ns : List (List ℕ)) (m : List ℕ) (rows : PostingRows) → AllZip (HasFields posting_table) (ms ++ m ∷ ns) rows → (row : List Entry) × HasFields posting_table m row
zip_front [] ns m [] zip = absurd zip
zip_front [] ns m (row ∷ rows) zip = (row, zip.0)
zip_front (k ∷ ms) ns m [] zip = absurd zip
zip_front (k ∷ ms) ns m (row ∷ rows) zip = zip_front ms ns m rows zip.1

pub bad_posting_is_bad : FrontIsFirst → BadPostingIsBad
unfolding each_at
bad_posting_is_bad first message posting front fields rows at spelt none has =
    let entry : Entry = record { number = 4; held = as_bytes posting } in
    let rest = first message (front ++ entry ∷ []) fields at spelt has.own.spelt in
    let all : each_at 4 fields ≡ each_at 4 front ++ posting ∷ each_at 4 rest.0 =
    ap (each_at 4) rest.1 ∙ ap (each_at 4) (append_assoc front (entry ∷ []) rest.0) ∙ flat_map-append (bytes_where 4) front (entry ∷ rest.0) in
    let found = zip_front (each_at 4 front) (each_at 4 rest.0) posting rows (subst (λ (ms : List (List ℕ)). AllZip (HasFields posting_table) ms rows) all has.each) in
    none found.0 found.1

-- ---- gaps

pub sums_grow : SumsGrow
unfolding sums_from sum_after
sums_grow before gap [] = refl
sums_grow before gap (g ∷ gaps) = ap (λ (zs : List ℤ). (before +ℤ g) ∷ zs) (sums_grow (before +ℤ g) gap gaps)

pub sum_grows : SumGrows
unfolding sum_after
sum_grows before gap [] = refl
sum_grows before gap (g ∷ gaps) = sum_grows (before +ℤ g) gap gaps

abbrev IsBelow : ℕ → ℤ → Type 0
IsBelow documents sum = sum <ℤ pos documents

pub gaps_grow : GapsGrow
unfolding sums_from sum_after
gaps_grow documents [] gap = (
  λ good. (
    record { first = All-nil (λ g. pos 0 ≤ℤ g); later = All-nil (λ g. pos 1 ≤ℤ g); below = All-nil (IsBelow documents) },
    record { least = All-head (λ g. pos 0 ≤ℤ g) gap [] good.first; below = All-head (IsBelow documents) (pos 0 +ℤ gap) [] good.below },
  ),
  λ both. record {
    first = All-cons (λ g. pos 0 ≤ℤ g) gap [] both.1.least (All-nil (λ g. pos 0 ≤ℤ g));
    later = All-nil (λ g. pos 1 ≤ℤ g);
    below = All-cons (IsBelow documents) (pos 0 +ℤ gap) [] both.1.below (All-nil (IsBelow documents));
  },
)
gaps_grow documents (g ∷ gaps) gap =
    let sums = sums_grow (pos 0) gap (g ∷ gaps) in
    let sum = sum_after (pos 0) (g ∷ gaps) +ℤ gap in
    let later = all_grow (λ (z : ℤ). pos 1 ≤ℤ z) gaps gap in
    let below = all_grow (IsBelow documents) (sums_from (pos 0) (g ∷ gaps)) sum in (
      λ good.
          let split = below.0 (subst (λ (zs : List ℤ). All (IsBelow documents) zs) sums good.below) in
          let rest = later.0 good.later in (
            record { first = good.first; later = rest.0; below = split.0 },
            record { least = rest.1; below = split.1 },
          ),
      λ both. record {
        first = both.0.first;
        later = later.1 (both.0.later, both.1.least);
        below = subst (λ (zs : List ℤ). All (IsBelow documents) zs) (sym sums) (below.1 (both.0.below, both.1.below));
      },
    )
