-- Entries that are ranked by keys.
use Rattle.std.proofs.Common.{◌≡◌, ◌≢◌, ℕ, ◌+◌, ◌*◌, ◌/◌, ◌%◌, ◌<◌, ◌≤◌, ℤ, pos, ◌-ℤ◌, List, length, get_or, map, sym, subst, ap, ◌∙◌, inl, inr, arith}
use Rattle.std.specs.List.{AllPairs}
use Rattle.std.specs.List.Sorted.{IsNonDecreasing, IsPermutation}
use Rattle.std.proofs.lemmas.Bool.{cases_lt}
use Rattle.std.proofs.lemmas.Int.{ints}
use Rattle.std.proofs.lemmas.List.{length-map, get_or-map, get_or_default, same_lists}
use Rattle.std.proofs.lemmas.List.Sorted.{IsPermutation-map}
use Rattle.exchange.specs.declared.entry.Entry.{Entry}
use Rattle.exchange.specs.Tries.{docs_of, no_entry, StandsBefore}
use Rattle.exchange.specs.Keys.{entry_at}
use Rattle.exchange.proofs.Exchanged.{Differ, Differ-permutation}
use Rattle.exchange.proofs.Ranked.{doc_at}
use Rattle.exchange.proofs.Fronts.{docs_to}

-- ---- a key and its entry

gap_back : (gap doc key : ℕ) → doc < 4294967296 → key ≡ gap * 4294967296 + doc → key / 4294967296 ≡ gap
gap_back gap doc key low is = omega (arith, is)

doc_back : (gap doc key : ℕ) → doc < 4294967296 → key ≡ gap * 4294967296 + doc → key % 4294967296 ≡ doc
doc_back gap doc key low is = omega (arith, is)

same_entry : (e : Entry) (gain : ℤ) (doc : ℕ) → gain ≡ e.gain → doc ≡ e.doc → (let t : Entry = record { gain = gain; doc = doc } in t) ≡ e
same_entry e gain doc is_gain is_doc =
    ap (λ (g : ℤ). let t : Entry = record { gain = g; doc = doc } in t) is_gain
    ∙ ap (λ (d : ℕ). let t : Entry = record { gain = e.gain; doc = d } in t) is_doc

pub entry_back : (greatest : ℤ) (e : Entry) (gap key : ℕ) → e.doc < 4294967296 → key ≡ gap * 4294967296 + e.doc → pos gap ≡ greatest -ℤ e.gain → entry_at greatest key ≡ e
entry_back greatest e gap key low is gap_is =
    let quotient = gap_back gap e.doc key low is in
    same_entry e (greatest -ℤ pos (key / 4294967296)) (key % 4294967296) (omega (arith, ints, ap pos quotient, gap_is)) (doc_back gap e.doc key low is)

-- ---- sorted keys are ranked entries

divided : (m n : ℕ) → m ≤ n → m / 4294967296 ≤ n / 4294967296
divided m n low = omega (arith, low)

rest_below : (m n : ℕ) → m ≤ n → m / 4294967296 ≡ n / 4294967296 → m % 4294967296 ≤ n % 4294967296
rest_below m n low same = omega (arith, low, same)

stands : (greatest : ℤ) (m n : ℕ) → m ≤ n → m % 4294967296 ≢ n % 4294967296 → StandsBefore (entry_at greatest m) (entry_at greatest n)
stands greatest m n low apart =
    let order = divided m n low in
    elim (cases_lt (m / 4294967296) (n / 4294967296)) [
      | inl less ↦ inl (omega (arith, ints, less))
      | inr same ↦
          let is : m / 4294967296 ≡ n / 4294967296 = omega (arith, same, order) in
          let docs = rest_below m n low is in
          inr (ap (λ (k : ℕ). greatest -ℤ pos k) is, omega (arith, docs, apart))
    ]

pub ranked_by_keys : (greatest : ℤ) (keys : List ℕ) → IsNonDecreasing keys → Differ (docs_of (map (entry_at greatest) keys)) → AllPairs StandsBefore (map (entry_at greatest) keys)
ranked_by_keys greatest keys sorted differ i j d order within =
    let entries = map (entry_at greatest) keys in
    let in_j : j < length keys = omega (arith, within, length-map keys (entry_at greatest)) in
    let in_i : i < length keys = omega (arith, in_j, order) in
    let at_i = get_or-map (entry_at greatest) keys i 0 d in_i in
    let at_j = get_or-map (entry_at greatest) keys j 0 d in_j in
    let low = sorted i j 0 (omega (arith, order)) in_j in
    let len = length-map entries (λ (entry : Entry). entry.doc) in
    let apart : (get_or keys i 0) % 4294967296 ≢ (get_or keys j 0) % 4294967296 = λ same.
    differ i j 0 order (omega (arith, within, len))
    (doc_at entries i 0 d (omega (arith, order, within)) ∙ ap (λ (e : Entry). e.doc) at_i ∙ same ∙ sym (ap (λ (e : Entry). e.doc) at_j) ∙ sym (doc_at entries j 0 d within)) in
    subst (λ (x : Entry). StandsBefore x (get_or entries j d)) (sym at_i)
    (subst (λ (y : Entry). StandsBefore (entry_at greatest (get_or keys i 0)) y) (sym at_j)
    (stands greatest (get_or keys i 0) (get_or keys j 0) low apart))

module _ (greatest : ℤ) (old new : List Entry) (keys sorted : List ℕ) (filled : map (entry_at greatest) keys ≡ old) (same : IsPermutation keys sorted) (back : new ≡ map (entry_at greatest) sorted) where
  pub keys_permuted : IsPermutation old new
  keys_permuted =
      subst (λ (xs : List Entry). IsPermutation xs new) filled
      (subst (λ (ys : List Entry). IsPermutation (map (entry_at greatest) keys) ys) (sym back) (IsPermutation-map (entry_at greatest) keys sorted same))

  pub keys_ranked : Differ (docs_of old) → IsNonDecreasing sorted → AllPairs StandsBefore new
  keys_ranked differ rises =
      subst (λ (ys : List Entry). AllPairs StandsBefore ys) (sym back)
      (ranked_by_keys greatest sorted rises
      (subst (λ (ys : List Entry). Differ (docs_of ys)) back (Differ-permutation (docs_of old) (docs_of new) (docs_to old new keys_permuted) differ)))

-- ---- what was filled in

pub same_entries : (greatest : ℤ) (keys : List ℕ) (entries : List Entry) → length keys ≡ length entries → ((k : ℕ) → k < length entries → entry_at greatest (get_or keys k 0) ≡ get_or entries k no_entry) → map (entry_at greatest) keys ≡ entries
same_entries greatest keys entries len each =
    same_lists (map (entry_at greatest) keys) entries (length-map keys (entry_at greatest) ∙ len)
    (λ k d within.
    let in_keys : k < length keys = omega (arith, within, length-map keys (entry_at greatest)) in
    let in_entries : k < length entries = omega (arith, in_keys, len) in
    get_or-map (entry_at greatest) keys k 0 d in_keys ∙ each k in_entries ∙ get_or_default entries k no_entry d in_entries)
