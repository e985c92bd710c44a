-- An index has one forward index over a start order, and some documents have one of their own.
use Rattle.std.proofs.Common.{◌≡◌, ◌⊎◌, ℕ, zero, suc, ◌<◌, ◌≤◌, List, [], ◌∷◌, length, get_or, map, refl, sym, ap, subst, ◌∙◌, arith, AllPairs, Any, Contains, inl, inr}
use Rattle.std.proofs.lemmas.Bool.{cases_order}
use Rattle.std.proofs.lemmas.List.{ext_get_or, get_or_default, get_or-map, length-map}
use Rattle.std.proofs.lemmas.List.Elements.{All-contains, Contains-get_or}
use Rattle.std.proofs.lemmas.List.Kept.{AllPairs-from_increasing}
use Rattle.forward_index.specs.Forward.{ForwardIndex, IsForward, row_at}
use Rattle.forward_index.specs.Cell.{IsCellOf}
use Rattle.forward_index.specs.Laws.{ForwardIsOne, CellIsOne}
use Rattle.forward_index.proofs.Built.{made}
use Rattle.forward_index.proofs.Sums.{AllPairs-tail}

-- ---- rising lists of the same numbers

pub in_front : (x t : ℕ) (xs : List ℕ) → Contains (x ∷ xs) t → (x ≡ t) ⊎ Contains xs t
in_front x t xs (zero, lt, at) = inl at
in_front x t xs (suc k, lt, at) = inr (k, omega (arith, lt), at)

pub behind : (x t : ℕ) (xs : List ℕ) → Contains xs t → Contains (x ∷ xs) t
behind x t xs (k, lt, at) = (suc k, omega (arith, lt), at)

above : (x t : ℕ) (xs : List ℕ) → AllPairs (λ a b. a < b) (x ∷ xs) → Contains xs t → x < t
above x t xs rising (k, lt, at) = let less : x < get_or xs k t = rising 0 (suc k) t (omega arith) (omega (arith, lt)) in omega (arith, less, at)

no_less : (x t : ℕ) (xs : List ℕ) → AllPairs (λ a b. a < b) (x ∷ xs) → Contains (x ∷ xs) t → x ≤ t
no_less x t xs rising has = elim (in_front x t xs has) [ inl e ↦ omega (arith, e) | inr there ↦ omega (arith, above x t xs rising there) ]

pub first : (x : ℕ) (xs : List ℕ) → Contains (x ∷ xs) x
first x xs = (0, omega arith, refl)

pub same_rising : (xs ys : List ℕ) → AllPairs (λ a b. a < b) xs → AllPairs (λ a b. a < b) ys → ((t : ℕ) → Contains xs t → Contains ys t) → ((t : ℕ) → Contains ys t → Contains xs t) → xs ≡ ys
same_rising [] [] up up' to from = refl
same_rising [] (y ∷ ys) up up' to from = let lt = (from y (first y ys)).1 in absurd (omega (arith, lt))
same_rising (x ∷ xs) [] up up' to from = let lt = (to x (first x xs)).1 in absurd (omega (arith, lt))
same_rising (x ∷ xs) (y ∷ ys) up up' to from =
    let same : x ≡ y = omega (arith, no_less y x ys up' (to x (first x xs)), no_less x y xs up (from y (first y ys))) in
    let rest : xs ≡ ys = same_rising xs ys (AllPairs-tail (λ (a b : ℕ). a < b) x xs up) (AllPairs-tail (λ (a b : ℕ). a < b) y ys up')
    (λ t has. elim (in_front y t ys (to t (behind x t xs has))) [ inl e ↦ absurd (omega (arith, e, same, above x t xs up has)) | inr there ↦ there ])
    (λ t has. elim (in_front x t xs (from t (behind y t ys has))) [ inl e ↦ absurd (omega (arith, e, same, above y t ys up' has)) | inr there ↦ there ]) in
    ap (λ (n : ℕ). n ∷ xs) same ∙ ap (λ (ns : List ℕ). y ∷ ns) rest

same_forward : (a b : ForwardIndex) → a.terms ≡ b.terms → a.rows ≡ b.rows → a.documents ≡ b.documents → a ≡ b
same_forward a b terms rows documents =
    ap (λ (t : ℕ). made t a.rows a.documents) terms ∙ ap (λ (rs : List (List ℕ)). made b.terms rs a.documents) rows ∙ ap (made b.terms b.rows) documents

pub forward_one : ForwardIsOne
forward_one index min_df start a b a_sound b_sound a_of b_of =
    let a_len : length a.rows ≡ length start = sym a_sound.len ∙ ap length a_of.documents in
    let b_len : length b.rows ≡ length start = sym b_sound.len ∙ ap length b_of.documents in
    let rows : a.rows ≡ b.rows = ext_get_or [] a.rows b.rows (a_len ∙ sym b_len) (λ place lt.
    let in' : place < length start = omega (arith, lt, a_len) in
    let a_row = a_sound.rows place [] lt in
    let b_row = b_sound.rows place [] (omega (arith, in', b_len)) in
    same_rising (get_or a.rows place []) (get_or b.rows place [])
    (AllPairs-from_increasing (get_or a.rows place []) a_row.rising) (AllPairs-from_increasing (get_or b.rows place []) b_row.rising)
    (λ t has. let low = All-contains (λ (x : ℕ). x < a.terms) (get_or a.rows place []) t a_row.below has in let within : t < length index.lists = omega (arith, low, a_of.terms) in (b_of.rows place in' t within).1 ((a_of.rows place in' t within).0 has))
    (λ t has. let low = All-contains (λ (x : ℕ). x < b.terms) (get_or b.rows place []) t b_row.below has in let within : t < length index.lists = omega (arith, low, b_of.terms) in (a_of.rows place in' t within).1 ((b_of.rows place in' t within).0 has))) in
    same_forward a b (a_of.terms ∙ sym b_of.terms) rows (a_of.documents ∙ sym b_of.documents)

-- ---- cells

-- the row of the k-th place, by old numbers
pub old_row : (whole : ForwardIndex) (places : List ℕ) (c : ForwardIndex) (of : IsCellOf whole places c) (k : ℕ) → k < length places
    → map (λ n. get_or of.old_terms n 0) (get_or c.rows k []) ≡ row_at whole.rows (get_or places k 0)
old_row whole places c of k lt =
    let row : List ℕ → List ℕ = (λ r. map (λ n. get_or of.old_terms n 0) r) in
    let size : length c.rows ≡ length places = sym (length-map c.rows row) ∙ ap length of.rows ∙ length-map places (row_at whole.rows) in
    sym (get_or-map row c.rows k [] [] (omega (arith, lt, size))) ∙ ap (λ (rs : List (List ℕ)). get_or rs k []) of.rows ∙ get_or-map (row_at whole.rows) places k 0 [] lt

pub cell_rows : (whole : ForwardIndex) (places : List ℕ) (c : ForwardIndex) (of : IsCellOf whole places c) → length c.rows ≡ length places
cell_rows whole places c of = sym (length-map c.rows (λ (r : List ℕ). map (λ n. get_or of.old_terms n 0) r)) ∙ ap length of.rows ∙ length-map places (row_at whole.rows)

-- what occurs has a number
covered : (whole : ForwardIndex) (places : List ℕ) (c : ForwardIndex) → IsForward c → (of : IsCellOf whole places c) (t : ℕ) → Any (λ place. Contains (row_at whole.rows place) t) places → Contains of.old_terms t
covered whole places c sound of t (k, place, lt, at, (i, low, here)) =
    let at' : get_or places k 0 ≡ place = get_or_default places k 0 place lt ∙ at in
    let row = get_or c.rows k [] in
    let size = cell_rows whole places c of in
    let same : map (λ n. get_or of.old_terms n 0) row ≡ row_at whole.rows place = old_row whole places c of k lt ∙ ap (row_at whole.rows) at' in
    let in' : i < length row = omega (arith, low, ap length same, length-map row (λ (n : ℕ). get_or of.old_terms n 0)) in
    let number = get_or row i 0 in
    let below : number < c.terms = (sound.rows k [] (omega (arith, lt, size))).below i 0 in' in
    let within : number < length of.old_terms = omega (arith, below, of.terms) in
    let is : get_or of.old_terms number 0 ≡ t = sym (get_or-map (λ (n : ℕ). get_or of.old_terms n 0) row i 0 t in') ∙ ap (λ (r : List ℕ). get_or r i t) same ∙ here in
    subst (Contains of.old_terms) is (Contains-get_or of.old_terms number 0 within)

rising_once : (xs : List ℕ) (m n : ℕ) → AllPairs (λ a b. a < b) xs → m < length xs → n < length xs → get_or xs m 0 ≡ get_or xs n 0 → m ≡ n
rising_once xs m n rising low high same = elim (cases_order m n) [
  | inl e ↦ e
  | inr other ↦ elim other [
    | inl less ↦ absurd (omega (arith, rising m n 0 less high, same))
    | inr more ↦ absurd (omega (arith, rising n m 0 more low, same))
  ]
]

pub cell_one : CellIsOne
cell_one whole places a b a_sound b_sound a_of b_of =
    let up = AllPairs-from_increasing a_of.old_terms a_of.rising in
    let up' = AllPairs-from_increasing b_of.old_terms b_of.rising in
    let old : a_of.old_terms ≡ b_of.old_terms = same_rising a_of.old_terms b_of.old_terms up up'
    (λ t has. covered whole places b b_sound b_of t (All-contains (λ (x : ℕ). Any (λ place. Contains (row_at whole.rows place) x) places) a_of.old_terms t a_of.occur has))
    (λ t has. covered whole places a a_sound a_of t (All-contains (λ (x : ℕ). Any (λ place. Contains (row_at whole.rows place) x) places) b_of.old_terms t b_of.occur has)) in
    let a_len = cell_rows whole places a a_of in
    let b_len = cell_rows whole places b b_of in
    let name : ℕ → ℕ = (λ n. get_or a_of.old_terms n 0) in
    let rows : a.rows ≡ b.rows = ext_get_or [] a.rows b.rows (a_len ∙ sym b_len) (λ k lt.
    let in' : k < length places = omega (arith, lt, a_len) in
    let a_row = get_or a.rows k [] in
    let b_row = get_or b.rows k [] in
    let same : map name a_row ≡ map name b_row = old_row whole places a a_of k in' ∙ sym (ap (λ (ts : List ℕ). map (λ (n : ℕ). get_or ts n 0) b_row) old ∙ old_row whole places b b_of k in') in
    let size : length a_row ≡ length b_row = sym (length-map a_row name) ∙ ap length same ∙ length-map b_row name in
    ext_get_or 0 a_row b_row size (λ i low.
    let low' : i < length b_row = omega (arith, low, size) in
    let a_below : get_or a_row i 0 < a.terms = (a_sound.rows k [] lt).below i 0 low in
    let b_below : get_or b_row i 0 < b.terms = (b_sound.rows k [] (omega (arith, in', b_len))).below i 0 low' in
    let here : name (get_or a_row i 0) ≡ name (get_or b_row i 0) = sym (get_or-map name a_row i 0 0 low) ∙ ap (λ (r : List ℕ). get_or r i 0) same ∙ get_or-map name b_row i 0 0 low' in
    rising_once a_of.old_terms (get_or a_row i 0) (get_or b_row i 0) up (omega (arith, a_below, a_of.terms)) (omega (arith, b_below, b_of.terms, ap length old)) here)) in
    same_forward a b (a_of.terms ∙ ap length old ∙ sym b_of.terms) rows (a_of.documents ∙ sym b_of.documents)
