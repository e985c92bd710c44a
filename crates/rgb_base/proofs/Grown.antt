-- What many more postings make of a building.
use Rattle.std.proofs.Common.{◌≡◌, ℕ, zero, suc, ◌+◌, ◌-◌, ◌^◌, ◌<◌, ◌≤◌, List, [], ◌∷◌, ◌++◌, length, get_or, map, All, inl, inr, refl, sym, ap, subst, ◌∙◌, arith, append_assoc}
use Rattle.std.specs.Prelude.{FitsSigned}
use Rattle.std.specs.Int.{w32}
use Rattle.std.specs.List.Sorted.{IsStrictlyIncreasing}
use Rattle.std.proofs.lemmas.Bool.{cases_lt}
use Rattle.std.proofs.lemmas.List.{append-nil, length-append}
use Rattle.std.proofs.lemmas.List.Elements.{All-nil, All-cons, All-head, All-tail, All-append}
use Rattle.rgb_base.specs.declared.parts.Posting.{Posting}
use Rattle.rgb_base.specs.Parts.{IsPostings, posting_count}
use Rattle.rgb_base.specs.Building.{Building, IsBuilding, IsNextDocument, IsFullFor, with_postings}
use Rattle.rgb_base.specs.Kept.{IsLeast}
use Rattle.rgb_base.proofs.Rising.{no_posting}
use Rattle.rgb_base.proofs.Built.{IsPostings-push, IsLeast-push, not_next_below}

-- ---- postings that rise, the first and the others

rising_tail : (x : ℕ) (xs : List ℕ) → IsStrictlyIncreasing (x ∷ xs) → IsStrictlyIncreasing xs
rising_tail x xs h = λ k lt.
    let next : suc k + 1 ≡ suc (k + 1) = omega arith in
    subst (λ (n : ℕ). get_or xs k 0 < get_or (x ∷ xs) n 0) next (h (suc k) (omega (arith, lt)))

IsPostings-tail : (documents : ℕ) (posting : Posting) (postings : List Posting) → IsPostings documents (posting ∷ postings) → IsPostings documents postings
IsPostings-tail documents posting postings h = record {
  rising = rising_tail posting.doc (map (λ (p : Posting). p.doc) postings) h.rising;
  below = All-tail (λ (p : Posting). p.doc < documents) posting postings h.below;
}

first_below : (documents : ℕ) (posting : Posting) (postings : List Posting) → IsPostings documents (posting ∷ postings) → posting.doc < documents
first_below documents posting postings h = All-head (λ (p : Posting). p.doc < documents) posting postings h.below

-- the first posting, if there is one, is at least this
StartsFrom : ℕ → List Posting → Type 0
StartsFrom least [] = Unit {0}
StartsFrom least (posting ∷ postings) = least ≤ posting.doc

second_above : (documents : ℕ) (posting : Posting) (postings : List Posting) → IsPostings documents (posting ∷ postings) → StartsFrom (posting.doc + 1) postings
unfolding StartsFrom
second_above documents posting [] h = tt
second_above documents posting (next ∷ postings) h = omega (arith, h.rising 0 (omega arith))

-- the least document behind these postings
next_least : ℕ → List Posting → ℕ
next_least least [] = least
next_least least (posting ∷ postings) = next_least (posting.doc + 1) postings

next_is_last : (least : ℕ) (posting : Posting) (postings : List Posting) (d : Posting) → next_least least (posting ∷ postings) ≡ (get_or (posting ∷ postings) (length postings) d).doc + 1
unfolding next_least
next_is_last least posting [] d = refl
next_is_last least posting (next ∷ postings) d = next_is_last (posting.doc + 1) next postings d

-- ---- behind those of the open list

grown : (documents least : ℕ) (postings more : List Posting) → IsPostings documents postings → IsLeast least postings → IsPostings documents more → StartsFrom least more
    → IsPostings documents (postings ++ more) × IsLeast (next_least least more) (postings ++ more)
unfolding StartsFrom next_least
grown documents least postings [] h low more starts = rw append-nil (h, low)
grown documents least postings (posting ∷ more) h low rising starts =
    let above : All (λ (p : Posting). p.doc < posting.doc) postings = λ k d lt. omega (arith, low.above k d lt, starts) in
    subst (λ (ps : List Posting). IsPostings documents ps × IsLeast (next_least (posting.doc + 1) more) ps) (append_assoc postings (posting ∷ []) more)
    (grown documents (posting.doc + 1) (postings ++ posting ∷ []) more (IsPostings-push documents postings posting h above (first_below documents posting more rising)) (IsLeast-push least postings posting low starts)
    (IsPostings-tail documents posting more rising) (second_above documents posting more rising))

all_below : (documents : ℕ) (postings : List Posting) (posting : Posting) (more : List Posting) → IsPostings documents (postings ++ posting ∷ more) → All (λ (p : Posting). p.doc < posting.doc) postings
all_below documents [] posting more h = All-nil (λ (p : Posting). p.doc < posting.doc)
all_below documents (first ∷ []) posting more h = All-cons (λ (p : Posting). p.doc < posting.doc) first [] (omega (arith, h.rising 0 (omega arith))) (All-nil (λ (p : Posting). p.doc < posting.doc))
all_below documents (first ∷ second ∷ rest) posting more h =
    let later = all_below documents (second ∷ rest) posting more (IsPostings-tail documents first (second ∷ rest ++ posting ∷ more) h) in
    All-cons (λ (p : Posting). p.doc < posting.doc) first (second ∷ rest) (omega (arith, h.rising 0 (omega arith), All-head (λ (p : Posting). p.doc < posting.doc) second rest later)) later

-- ---- the open list

pub not_next : (building : Building) (least : ℕ) (more : List Posting) → IsLeast least building.postings → IsPostings building.documents more → 0 < length more
    → (get_or more 0 no_posting).doc < least → ¬ IsPostings building.documents (building.postings ++ more)
not_next building least [] low rising some lt = absurd (omega (arith, some))
not_next building least (posting ∷ more) low rising some lt = λ both.
    not_next_below building least posting.doc low lt
    (record { above = all_below building.documents building.postings posting more both; below = first_below building.documents posting more rising })

both_rise : (building : Building) (least : ℕ) (more : List Posting) → IsPostings building.documents building.postings → IsLeast least building.postings → IsPostings building.documents more → 0 < length more
    → least ≤ (get_or more 0 no_posting).doc
    → IsPostings building.documents (building.postings ++ more) × IsLeast (next_least least more) (building.postings ++ more)
unfolding StartsFrom
both_rise building least [] h low rising some le = absurd (omega (arith, some))
both_rise building least (posting ∷ more) h low rising some le = grown building.documents least building.postings (posting ∷ more) h low rising le

pub are_next : (building : Building) (least : ℕ) (more : List Posting) → IsPostings building.documents building.postings → IsLeast least building.postings → IsPostings building.documents more → 0 < length more
    → least ≤ (get_or more 0 no_posting).doc → IsPostings building.documents (building.postings ++ more)
are_next building least more h low rising some le = (both_rise building least more h low rising some le).0

last_is : (least : ℕ) (more : List Posting) → 0 < length more → next_least least more ≡ (get_or more (length more - 1) no_posting).doc + 1
last_is least [] some = absurd (omega (arith, some))
last_is least (posting ∷ more) some =
    let last : length (posting ∷ more) - 1 ≡ length more = omega arith in
    next_is_last least posting more no_posting ∙ ap (λ (n : ℕ). (get_or (posting ∷ more) n no_posting).doc + 1) (sym last)

pub least_behind : (building : Building) (least : ℕ) (more : List Posting) → IsPostings building.documents building.postings → IsLeast least building.postings → IsPostings building.documents more → 0 < length more
    → least ≤ (get_or more 0 no_posting).doc → IsLeast ((get_or more (length more - 1) no_posting).doc + 1) (building.postings ++ more)
least_behind building least more h low rising some le =
    subst (λ (n : ℕ). IsLeast n (building.postings ++ more)) (last_is least more some) (both_rise building least more h low rising some le).1

few_more : (count now more : ℕ) → ¬ (2 ^ 32 ≤ count + (now + more)) → count + (now + more) < 2 ^ 32
few_more count now more room = elim (cases_lt (count + (now + more)) (2 ^ 32)) [ inl lt ↦ lt | inr ge ↦ absurd (room ge) ]

pub IsBuilding-with_postings : (building : Building) (more : List Posting) → IsBuilding building → IsPostings building.documents (building.postings ++ more) → ¬ IsFullFor building (length more)
    → All (λ (p : Posting). FitsSigned w32 p.tf) more → IsBuilding (with_postings building more)
IsBuilding-with_postings building more h next room fits = record {
  few_documents = h.few_documents;
  few_lists = h.few_lists;
  few_records = h.few_records;
  ordered = h.ordered;
  open_list = next;
  different = h.different;
  few_postings = omega (arith, few_more (posting_count building.lists) (length building.postings) (length more) room, length-append building.postings more);
  little_text = h.little_text;
  header_fits = h.header_fits;
  lists_fit = h.lists_fit;
  open_fits = All-append (λ (p : Posting). FitsSigned w32 p.tf) building.postings more h.open_fits fits;
  records_fit = h.records_fit;
}
