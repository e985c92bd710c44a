-- The gaps of a list, entry by entry, and the places before its entries.
use Rattle.std.proofs.Common.{◌≡◌, ℕ, zero, suc, ◌+◌, ◌-◌, ◌*◌, ◌/◌, ◌^◌, ◌<◌, ◌≤◌, List, [], ◌∷◌, ◌++◌, length, get_or, take, drop, refl, sym, ap, subst, ◌∙◌, inl, inr, All, arith, add-one, length-append}
use Rattle.std.specs.List.Sorted.{IsStrictlyIncreasing}
use Rattle.std.proofs.lemmas.List.{append_assoc, append-nil, drop_more, drop_at, take_all, get_or_at, get_or_append_left}
use Rattle.std.proofs.lemmas.List.Elements.{All-tail}
use Rattle.std.proofs.lemmas.Bool.{cases_lt}
use Rattle.ciff_wire.specs.Varint.{varint}
use Rattle.postings_rewrite.specs.declared.store.Place.{Place}
use Rattle.postings_rewrite.specs.Stores.{AreDocuments, IsFirstFrom}
use Rattle.postings_rewrite.specs.Blocks.{least, gaps, place_before, IsBefore, IsAhead, skips, before_of, bytes_of, skip_count}
use Rattle.postings_rewrite.proofs.Fronts.{Rises}
use Rattle.postings_rewrite.proofs.Searching.{not_above}

-- ---- the least number that an entry can have

least-cons : (first number : ℕ) (numbers : List ℕ) (n : ℕ) → least first (number ∷ numbers) (suc n) ≡ least (number + 1) numbers n
least-cons first number numbers zero = refl
least-cons first number numbers (suc n) = refl

pub least-next : (first : ℕ) (list : List ℕ) (n : ℕ) → least first list (n + 1) ≡ get_or list n 0 + 1
least-next first list n = ap (least first list) (add-one n)

pub least-behind : (first : ℕ) (list : List ℕ) (n : ℕ) → 0 < n → least first list n ≡ get_or list (n - 1) 0 + 1
least-behind first list n some = let e : n ≡ (n - 1) + 1 = omega arith in ap (least first list) e ∙ least-next first list (n - 1)

pub least-low : (list : List ℕ) (n : ℕ) → IsStrictlyIncreasing list → n < length list → least 0 list n ≤ get_or list n 0
least-low list zero rising within = omega arith
least-low list (suc n) rising within =
    let next : n + 1 ≡ suc n = add-one n in
    let up = rising n (omega arith) in
    omega (arith, up, ap (λ (k : ℕ). get_or list k 0) next)

tail_rises : (number : ℕ) (numbers : List ℕ) → IsStrictlyIncreasing (number ∷ numbers) → IsStrictlyIncreasing numbers
tail_rises number numbers rising k within =
    let next : suc k + 1 ≡ suc (k + 1) = omega arith in
    let up = rising (suc k) (omega arith) in
    omega (arith, up, ap (λ (j : ℕ). get_or (number ∷ numbers) j 0) next)

pub rises : (list : List ℕ) (limit first : ℕ) → IsStrictlyIncreasing list → All (λ d. d < limit) list → (0 < length list → first ≤ get_or list 0 0) → Rises limit first list
rises [] limit first rising below low = tt
rises (number ∷ numbers) limit first rising below low =
    (low (omega arith), below 0 0 (omega arith), rises numbers limit (number + 1) (tail_rises number numbers rising) (All-tail (λ d. d < limit) number numbers below) (λ some. omega (arith, rising 0 (omega arith))))

pub documents_rise : (list : List ℕ) (limit : ℕ) → AreDocuments limit list → Rises limit 0 list
documents_rise list limit sound = rises list limit 0 sound.rising sound.below (λ some. omega arith)

-- ---- gaps

pub gaps-split : (first : ℕ) (list : List ℕ) (n : ℕ) → gaps first list ≡ gaps first (take n list) ++ gaps (least first list n) (drop n list)
gaps-split first list zero = refl
gaps-split first [] (suc n) = refl
gaps-split first (number ∷ numbers) (suc n) =
    let rest : gaps (number + 1) numbers ≡ gaps (number + 1) (take n numbers) ++ gaps (least first (number ∷ numbers) (suc n)) (drop n numbers) =
    gaps-split (number + 1) numbers n ∙ ap (λ (k : ℕ). gaps (number + 1) (take n numbers) ++ gaps k (drop n numbers)) (sym (least-cons first number numbers n)) in
    ap (λ (bytes : List ℕ). varint (number - first) ++ bytes) rest
    ∙ sym (append_assoc (varint (number - first)) (gaps (number + 1) (take n numbers)) (gaps (least first (number ∷ numbers) (suc n)) (drop n numbers)))

gaps-first : (first : ℕ) (list : List ℕ) (n : ℕ) → n < length list → gaps first (drop n list) ≡ varint (get_or list n 0 - first) ++ gaps (get_or list n 0 + 1) (drop (n + 1) list)
gaps-first first list n within = ap (gaps first) (drop_more list n 0 within)

gaps-suc : (first : ℕ) (list : List ℕ) (n : ℕ) → n < length list → gaps first (take (suc n) list) ≡ gaps first (take n list) ++ varint (get_or list n 0 - least first list n)
gaps-suc first [] n within = absurd (omega (arith, within))
gaps-suc first (number ∷ numbers) zero within = append-nil (varint (number - first))
gaps-suc first (number ∷ numbers) (suc n) within =
    let rest : gaps (number + 1) (take (suc n) numbers) ≡ gaps (number + 1) (take n numbers) ++ varint (get_or numbers n 0 - least first (number ∷ numbers) (suc n)) =
    gaps-suc (number + 1) numbers n (omega arith) ∙ ap (λ (k : ℕ). gaps (number + 1) (take n numbers) ++ varint (get_or numbers n 0 - k)) (sym (least-cons first number numbers n)) in
    ap (λ (bytes : List ℕ). varint (number - first) ++ bytes) rest
    ∙ sym (append_assoc (varint (number - first)) (gaps (number + 1) (take n numbers)) (varint (get_or numbers n 0 - least first (number ∷ numbers) (suc n))))

pub gaps-more : (first : ℕ) (list : List ℕ) (n : ℕ) → n < length list → gaps first (take (n + 1) list) ≡ gaps first (take n list) ++ varint (get_or list n 0 - least first list n)
gaps-more first list n within = ap (λ (k : ℕ). gaps first (take k list)) (add-one n) ∙ gaps-suc first list n within

-- the gap of an entry stands where its place says
pub gap_there : (bytes list rest : List ℕ) (n : ℕ) → bytes ≡ gaps 0 list ++ rest → n < length list
    → drop (length (gaps 0 (take n list))) bytes ≡ varint (get_or list n 0 - least 0 list n) ++ (gaps (get_or list n 0 + 1) (drop (n + 1) list) ++ rest)
gap_there bytes list rest n spelt within =
    let before = gaps 0 (take n list) in
    let gap = varint (get_or list n 0 - least 0 list n) in
    let later = gaps (get_or list n 0 + 1) (drop (n + 1) list) in
    let parts : bytes ≡ before ++ ((gap ++ later) ++ rest) =
    spelt ∙ (ap (λ (b : List ℕ). b ++ rest) (gaps-split 0 list n ∙ ap (λ (b : List ℕ). before ++ b) (gaps-first (least 0 list n) list n within)) ∙ append_assoc before (gap ++ later) rest) in
    ap (drop (length before)) parts ∙ (drop_at before ((gap ++ later) ++ rest) (length before) refl ∙ append_assoc gap later rest)

-- and lies within the bytes
pub gap_within : (bytes list rest : List ℕ) (n : ℕ) → bytes ≡ gaps 0 list ++ rest → n < length list
    → length (gaps 0 (take n list)) + length (varint (get_or list n 0 - least 0 list n)) ≤ length bytes
gap_within bytes list rest n spelt within =
    let before = gaps 0 (take n list) in
    let gap = varint (get_or list n 0 - least 0 list n) in
    let later = gaps (get_or list n 0 + 1) (drop (n + 1) list) in
    let whole : length bytes ≡ length (gaps 0 list) + length rest = ap length spelt ∙ length-append (gaps 0 list) rest in
    let parts : gaps 0 list ≡ before ++ (gap ++ later) = gaps-split 0 list n ∙ ap (λ (b : List ℕ). before ++ b) (gaps-first (least 0 list n) list n within) in
    omega (arith, whole, ap length parts, length-append before (gap ++ later), length-append gap later)

-- ---- places

abbrev place_made : ℕ → ℕ → ℕ → Place
place_made entry bytes before = record { entry = entry; bytes = bytes; before = before }

pub same_place : (entry bytes before : ℕ) (list : List ℕ) (n : ℕ) → entry ≡ n → bytes ≡ length (gaps 0 (take n list)) → before ≡ least 0 list n → IsBefore list (place_made entry bytes before) n
same_place entry bytes before list n e b l =
    ap (λ (k : ℕ). place_made k bytes before) e ∙ (ap (λ (k : ℕ). place_made n k before) b ∙ ap (λ (k : ℕ). place_made n (length (gaps 0 (take n list))) k) l)

-- the place behind an entry
pub next_place : (place : Place) (list : List ℕ) (n gap used : ℕ) → IsBefore list place n → n < length list → IsStrictlyIncreasing list → gap ≡ get_or list n 0 - least 0 list n → used ≡ length (varint (get_or list n 0 - least 0 list n))
    → IsBefore list (place_made (place.entry + 1) (place.bytes + used) (place.before + gap + 1)) (n + 1)
next_place place list n gap used stands within rising same size =
    let entry : place.entry ≡ n = ap (λ (p : Place). p.entry) stands in
    let bytes : place.bytes ≡ length (gaps 0 (take n list)) = ap (λ (p : Place). p.bytes) stands in
    let before : place.before ≡ least 0 list n = ap (λ (p : Place). p.before) stands in
    let low : least 0 list n ≤ get_or list n 0 = least-low list n rising within in
    let more : length (gaps 0 (take (n + 1) list)) ≡ length (gaps 0 (take n list)) + length (varint (get_or list n 0 - least 0 list n)) =
    ap length (gaps-more 0 list n within) ∙ length-append (gaps 0 (take n list)) (varint (get_or list n 0 - least 0 list n)) in
    same_place (place.entry + 1) (place.bytes + used) (place.before + gap + 1) list (n + 1) (omega (arith, entry)) (omega (arith, bytes, size, more)) (omega (arith, before, same, low, least-next 0 list n))

-- ---- skip entries

pub length-skips : (part : Place → ℕ) (list : List ℕ) (count : ℕ) → length (skips part list count) ≡ count
unfolding skips
length-skips part list zero = refl
length-skips part list (suc k) = omega (arith, length-append (skips part list k) (part (place_before list (128 * suc k)) ∷ []), length-skips part list k)

pub skips-more : (part : Place → ℕ) (list : List ℕ) (count : ℕ) → skips part list (count + 1) ≡ skips part list count ++ part (place_before list (128 * (count + 1))) ∷ []
unfolding skips
skips-more part list count = rw add-one refl

pub skips-at : (part : Place → ℕ) (list : List ℕ) (count k : ℕ) → k < count → get_or (skips part list count) k 0 ≡ part (place_before list (128 * (k + 1)))
unfolding skips
skips-at part list zero k within = absurd (omega (arith, within))
skips-at part list (suc m) k within =
    let here = part (place_before list (128 * suc m)) in
    let front = skips part list m in
    elim (cases_lt k m) [
      | inl less ↦ get_or_append_left front (here ∷ []) 0 k (omega (arith, less, length-skips part list m)) ∙ skips-at part list m k less
      | inr more ↦
          let last : k ≡ m = omega (arith, more, within) in
          let next : suc m ≡ k + 1 = omega arith in
          get_or_at front here [] 0 k (length-skips part list m ∙ sym last) ∙ ap (λ (j : ℕ). part (place_before list (128 * j))) next
    ]

pub skips_rise : (list : List ℕ) (count : ℕ) → IsStrictlyIncreasing list → 128 * count ≤ length list → IsStrictlyIncreasing (skips before_of list count)
skips_rise list count rising within k inside =
    let size = length-skips before_of list count in
    let here = skips-at before_of list count k (omega (arith, inside, size)) in
    let next = skips-at before_of list count (k + 1) (omega (arith, inside, size)) in
    let low = least-behind 0 list (128 * (k + 1)) (omega arith) in
    let high = least-behind 0 list (128 * (k + 1 + 1)) (omega arith) in
    let between = not_above list (128 * (k + 1)) (128 * (k + 1 + 1) - 1) rising (omega arith) (omega (arith, inside, size, within)) in
    let up = rising (128 * (k + 1) - 1) (omega (arith, inside, size, within)) in
    let e : 128 * (k + 1) - 1 + 1 ≡ 128 * (k + 1) = omega arith in
    omega (arith, here, next, low, high, between, up, ap (λ (j : ℕ). get_or list j 0) e)

pub skip_count_within : (len : ℕ) → 128 * skip_count len ≤ len
skip_count_within len = omega arith

-- the entries before a block that can begin with no more than the target are below it
pub block_ahead : (list : List ℕ) (n target next bytes before : ℕ) → IsStrictlyIncreasing list → 0 < next → n ≤ 128 * next → 128 * next ≤ length list → before < target + 1
    → bytes ≡ length (gaps 0 (take (128 * next) list)) → before ≡ least 0 list (128 * next) → IsAhead list n target (place_made (next * 128) bytes before)
block_ahead list n target next bytes before rising some forward within low b l =
    let turned : next * 128 ≡ 128 * next = omega arith in
    let last = least-behind 0 list (128 * next) (omega arith) in
    record {
      entry = 128 * next;
      forward = forward;
      within = within;
      passed = λ k from inside. omega (arith, l, last, low, not_above list k (128 * next - 1) rising (omega (arith, inside)) (omega (arith, within, some)));
      stands = same_place (next * 128) bytes before list (128 * next) turned b l;
    }

-- ---- an entry as it is read

pub gap_fits : (list : List ℕ) (n : ℕ) → AreDocuments (2 ^ 32 - 1) list → n < length list → get_or list n 0 - least 0 list n < 2 ^ 32
gap_fits list n sound within = omega (arith, sound.below n 0 within)

pub gap_read : (bytes list rest : List ℕ) (place : Place) → bytes ≡ gaps 0 list ++ rest → IsBefore list place place.entry → place.entry < length list
    → drop place.bytes bytes ≡ varint (get_or list place.entry 0 - least 0 list place.entry) ++ (gaps (get_or list place.entry 0 + 1) (drop (place.entry + 1) list) ++ rest)
gap_read bytes list rest place spelt stands within =
    let at : place.bytes ≡ length (gaps 0 (take place.entry list)) = ap (λ (p : Place). p.bytes) stands in
    ap (λ (k : ℕ). drop k bytes) at ∙ gap_there bytes list rest place.entry spelt within

pub record AreEntryNumbers (list : List ℕ) (place : Place) (size gap used : ℕ) : Type 0 where
  pub number : place.before + gap ≡ get_or list place.entry 0
  pub below : place.before + gap + 1 < 2 ^ 32
  pub within : place.bytes + used ≤ size

pub entry_numbers : (bytes list rest : List ℕ) (place : Place) (gap used : ℕ) → bytes ≡ gaps 0 list ++ rest → IsBefore list place place.entry → place.entry < length list → AreDocuments (2 ^ 32 - 1) list
    → gap ≡ get_or list place.entry 0 - least 0 list place.entry → used ≡ length (varint (get_or list place.entry 0 - least 0 list place.entry)) → AreEntryNumbers list place (length bytes) gap used
entry_numbers bytes list rest place gap used spelt stands within sound same size =
    let at : place.bytes ≡ length (gaps 0 (take place.entry list)) = ap (λ (p : Place). p.bytes) stands in
    let before : place.before ≡ least 0 list place.entry = ap (λ (p : Place). p.before) stands in
    let low = least-low list place.entry sound.rising within in
    let high = sound.below place.entry 0 within in
    record {
      number = omega (arith, before, low, same);
      below = omega (arith, before, low, same, high);
      within = omega (arith, at, size, gap_within bytes list rest place.entry spelt within);
    }

-- ---- a block that a search leaps to

pub record IsLeap (len entry next size : ℕ) : Type 0 where
  pub ahead : entry / 128 < next
  pub few : next ≤ skip_count len
  pub whole : 128 * next ≤ len
  pub inside : next - 1 < size

pub leap_found : (list befores offsets : List ℕ) (len entry limit next : ℕ) → befores ≡ skips before_of list (skip_count len) → offsets ≡ skips bytes_of list (skip_count len)
    → IsFirstFrom befores (entry / 128) limit next → (next ≡ entry / 128 → ⊥) → IsLeap len entry next (length offsets)
leap_found list befores offsets len entry limit next same also first other =
    let count = ap length same ∙ length-skips before_of list (skip_count len) in
    let size = ap length also ∙ length-skips bytes_of list (skip_count len) in
    elim (cases_lt (entry / 128) next) [
      | inl less ↦ record { ahead = less; few = omega (arith, first.within, count); whole = omega (arith, first.within, count); inside = omega (arith, first.within, count, size, less) }
      | inr more ↦ let here : next ≡ entry / 128 = omega (arith, more, first.forward) in absurd (other here)
    ]
