-- The cases of what is wrong exclude each other.
use Rattle.std.proofs.Common.{◌≡◌, ◌≢◌, ℕ, ◌<◌, List, length, get_or, take, All, Contains, inl, inr, refl, sym, ap, subst, ◌∙◌, arith, length-take}
use Rattle.std.specs.Prelude.{slice_get, Some}
use Rattle.std.specs.List.{AllPairs}
use Rattle.std.proofs.lemmas.Bool.{cases_lt}
use Rattle.std.proofs.lemmas.List.{get_or-take}
use Rattle.std.proofs.lemmas.List.Elements.{All-get_or}
use Rattle.std.proofs.lemmas.Option.{slice_get_within, get_or_from_slice_get, same_Some}
use Rattle.rgb_base.specs.declared.parts.TermList.{TermList}
use Rattle.rgb_base.specs.declared.error.PartsError.{PartsError}
use Rattle.rgb_base.specs.declared.error.PartsError.TheVariants.{Counts, Order, Same, Size, OutOfMemory}
use Rattle.rgb_base.specs.declared.error.OrderError.{OrderError}
use Rattle.rgb_base.specs.declared.error.OrderError.TheVariants.{NotAPermutation, OutOfMemory as no_memory}
use Rattle.rgb_base.specs.Parts.{IndexParts, IsIndex, IsPostings, AreOrdered, AreDifferent, terms_of}
use Rattle.rgb_base.specs.Faults.{IsFirstDisorder, IsFirstRepeat, IsPartsFault}
use Rattle.rgb_base.specs.Order.{IsOrder, IsFirstBad, IsOrderFault}

-- what holds of a front holds of what stands in it
in_front : {X : Type 0} (P : X → Type 0) (xs : List X) (j k : ℕ) (x : X) → slice_get xs j ≡ Some x → j < k → All P (take k xs) → P x
in_front P xs j k x at lt all =
    let within = slice_get_within xs j x at in
    let inside : j < length (take k xs) = omega (arith, within, lt, length-take k xs) in
    subst P (get_or-take k xs j x lt ∙ get_or_from_slice_get xs j x x at) (All-get_or P (take k xs) j x inside all)

-- two in a front that differ
pair_in_front : {X : Type 0} (xs : List X) (j k : ℕ) (x : X) → slice_get xs j ≡ Some x → j < k → Contains (take j xs) x → AllPairs (λ a b. a ≢ b) (take k xs) → ⊥
pair_in_front xs j k x at lt stands different =
    let within = slice_get_within xs j x at in
    let i = stands.0 in
    let low : i < j = omega (arith, stands.1, length-take j xs) in
    let first : get_or (take k xs) i x ≡ x = get_or-take k xs i x (omega (arith, low, lt)) ∙ sym (get_or-take j xs i x low) ∙ stands.2 in
    let second : get_or (take k xs) j x ≡ x = get_or-take k xs j x lt ∙ get_or_from_slice_get xs j x x at in
    different i j x low (omega (arith, within, lt, length-take k xs)) (first ∙ sym second)

one_disorder : (documents : ℕ) (lists : List TermList) (j k : ℕ) → IsFirstDisorder documents lists j → IsFirstDisorder documents lists k → j < k → ⊥
one_disorder documents lists j k a b lt = a.wrong (in_front (λ list. IsPostings documents list.postings) lists j k a.list a.at lt b.before)

no_disorder : (documents : ℕ) (lists : List TermList) (j : ℕ) → IsFirstDisorder documents lists j → AreOrdered documents lists → ⊥
no_disorder documents lists j a all =
    let within = slice_get_within lists j a.list a.at in
    a.wrong (subst (λ (list : TermList). IsPostings documents list.postings) (get_or_from_slice_get lists j a.list a.list a.at) (All-get_or (λ list. IsPostings documents list.postings) lists j a.list within all))

one_repeat : (texts : List (List ℕ)) (j k : ℕ) → IsFirstRepeat texts j → IsFirstRepeat texts k → j < k → ⊥
one_repeat texts j k a b lt = pair_in_front texts j k a.text a.at lt a.wrong b.before

no_repeat : (texts : List (List ℕ)) (j : ℕ) → IsFirstRepeat texts j → AreDifferent texts → ⊥
no_repeat texts j a different =
    let within = slice_get_within texts j a.text a.at in
    let i = a.wrong.0 in
    let low : i < j = omega (arith, a.wrong.1, length-take j texts) in
    let first : get_or texts i a.text ≡ a.text = sym (get_or-take j texts i a.text low) ∙ a.wrong.2 in
    different i j a.text low within (first ∙ sym (get_or_from_slice_get texts j a.text a.text a.at))

same_place : (j k : ℕ) → ¬ (j < k) → ¬ (k < j) → j ≡ k
same_place j k a b = elim (cases_lt j k) [ inl lt ↦ absurd (a lt) | inr ge ↦ elim (cases_lt k j) [ inl gt ↦ absurd (b gt) | inr le ↦ omega (arith, ge, le) ] ]

pub parts_faults_exclude : (parts : IndexParts) (a b : PartsError) → a ≢ OutOfMemory → b ≢ OutOfMemory → IsPartsFault parts a → IsPartsFault parts b → a ≡ b
parts_faults_exclude parts OutOfMemory b na nb fa fb = absurd (na refl)
parts_faults_exclude parts Counts OutOfMemory na nb fa fb = absurd (nb refl)
parts_faults_exclude parts Counts Counts na nb fa fb = refl
parts_faults_exclude parts Counts (Order k) na nb fa fb = absurd (fa fb.counted)
parts_faults_exclude parts Counts (Same k) na nb fa fb = absurd (fa fb.counted)
parts_faults_exclude parts Counts Size na nb fa fb = absurd (fa fb.counted)
parts_faults_exclude parts (Order j) OutOfMemory na nb fa fb = absurd (nb refl)
parts_faults_exclude parts (Order j) Counts na nb fa fb = absurd (fb fa.counted)
parts_faults_exclude parts (Order j) (Order k) na nb fa fb =
    ap Order (same_place j k (one_disorder (length parts.documents) parts.lists j k fa.first fb.first) (one_disorder (length parts.documents) parts.lists k j fb.first fa.first))
parts_faults_exclude parts (Order j) (Same k) na nb fa fb = absurd (no_disorder (length parts.documents) parts.lists j fa.first fb.ordered)
parts_faults_exclude parts (Order j) Size na nb fa fb = absurd (no_disorder (length parts.documents) parts.lists j fa.first fb.ordered)
parts_faults_exclude parts (Same j) OutOfMemory na nb fa fb = absurd (nb refl)
parts_faults_exclude parts (Same j) Counts na nb fa fb = absurd (fb fa.counted)
parts_faults_exclude parts (Same j) (Order k) na nb fa fb = absurd (no_disorder (length parts.documents) parts.lists k fb.first fa.ordered)
parts_faults_exclude parts (Same j) (Same k) na nb fa fb =
    ap Same (same_place j k (one_repeat (terms_of parts.lists) j k fa.first fb.first) (one_repeat (terms_of parts.lists) k j fb.first fa.first))
parts_faults_exclude parts (Same j) Size na nb fa fb = absurd (no_repeat (terms_of parts.lists) j fa.first fb.different)
parts_faults_exclude parts Size OutOfMemory na nb fa fb = absurd (nb refl)
parts_faults_exclude parts Size Counts na nb fa fb = absurd (fb fa.counted)
parts_faults_exclude parts Size (Order k) na nb fa fb = absurd (no_disorder (length parts.documents) parts.lists k fb.first fa.ordered)
parts_faults_exclude parts Size (Same k) na nb fa fb = absurd (no_repeat (terms_of parts.lists) k fb.first fa.different)
parts_faults_exclude parts Size Size na nb fa fb = refl

pub index_has_no_fault : (parts : IndexParts) (a : PartsError) → a ≢ OutOfMemory → IsIndex parts → ¬ IsPartsFault parts a
index_has_no_fault parts OutOfMemory na index fault = na refl
index_has_no_fault parts Counts na index fault = fault index.counted
index_has_no_fault parts (Order k) na index fault = no_disorder (length parts.documents) parts.lists k fault.first index.ordered
index_has_no_fault parts (Same k) na index fault = no_repeat (terms_of parts.lists) k fault.first index.different
index_has_no_fault parts Size na index fault = fault.wrong index.sized

one_bad : (order : List ℕ) (j k v w : ℕ) → IsFirstBad order j v → IsFirstBad order k w → j < k → ⊥
one_bad order j k v w a b lt =
    elim a.wrong [
      | inl high ↦ let low : v < length order = in_front (λ old. old < length order) order j k v a.at lt b.before.below in omega (arith, high, low)
      | inr stands ↦ pair_in_front order j k v a.at lt stands b.before.different
    ]

pub order_faults_exclude : (order : List ℕ) (a b : OrderError) → a ≢ no_memory → b ≢ no_memory → IsOrderFault order a → IsOrderFault order b → a ≡ b
order_faults_exclude order no_memory b na nb fa fb = absurd (na refl)
order_faults_exclude order (NotAPermutation j v) no_memory na nb fa fb = absurd (nb refl)
order_faults_exclude order (NotAPermutation j v) (NotAPermutation k w) na nb fa fb =
    let places : j ≡ k = same_place j k (one_bad order j k v w fa fb) (one_bad order k j w v fb fa) in
    let values : v ≡ w = same_Some v w (sym fa.at ∙ ap (slice_get order) places ∙ fb.at) in
    ap (λ (n : ℕ). NotAPermutation n v) places ∙ ap (NotAPermutation k) values

pub order_has_no_fault : (order : List ℕ) (a : OrderError) → a ≢ no_memory → IsOrder order → ¬ IsOrderFault order a
order_has_no_fault order no_memory na ordered fault = na refl
order_has_no_fault order (NotAPermutation j v) na ordered fault =
    let within = slice_get_within order j v fault.at in
    let here = get_or_from_slice_get order j v v fault.at in
    elim fault.wrong [
      | inl high ↦ let low : get_or order j v < length order = All-get_or (λ old. old < length order) order j v within ordered.numbers.below in omega (arith, high, low, here)
      | inr stands ↦
          let i = stands.0 in
          let low : i < j = omega (arith, stands.1, length-take j order) in
          ordered.numbers.different i j v low within (sym (get_or-take j order i v low) ∙ stands.2 ∙ sym here)
    ]
