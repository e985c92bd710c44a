-- Rounds that are made one after another.
use Rattle.std.proofs.Common.{◌≡◌, ℕ, ◌+◌, ◌^◌, ◌<◌, ◌≤◌, List, [], ◌∷◌, ◌++◌, length, get_or, refl, sym, subst, ap, ◌∙◌, inl, inr, arith, append_assoc}
use Rattle.std.specs.Prelude.{slice_get, Some}
use Rattle.std.proofs.lemmas.Bool.{cases_lt}
use Rattle.std.proofs.lemmas.List.{length-append, get_or_append_left, get_or-append-add, append-nil}
use Rattle.std.proofs.lemmas.Option.{slice_get-get_or, slice_get_within, get_or_from_slice_get}
use Rattle.forward_index.specs.Forward.{ForwardIndex}
use Rattle.degrees.specs.Counts.{Counted, cleared, loaded, one_load_more}
use Rattle.exchange.specs.declared.round.Kept.{Kept}
use Rattle.exchange.specs.declared.round.Round.TheVariants.{Kept as kept, Refused, Still}
use Rattle.exchange.specs.Pairs.{ArePairs}
use Rattle.exchange.specs.Round.{IsRefused, IsRound}
use Rattle.exchange.specs.Halving.{Halves, half_a, half_b, halves_of, AreKept, Ends, IsHalved, AreMade}

-- ---- a list with one entry more

front : {X : Type 0} (xs : List X) (x y : X) (k : ℕ) → k < length xs → slice_get (xs ++ x ∷ []) k ≡ Some y → slice_get xs k ≡ Some y
front xs x y k within read =
    slice_get-get_or xs k y within
    ∙ ap Some (sym (get_or_append_left xs (x ∷ []) y k within) ∙ get_or_from_slice_get (xs ++ x ∷ []) k y y read)

pub at_end : {X : Type 0} (xs : List X) (x : X) → slice_get (xs ++ x ∷ []) (length xs) ≡ Some x
at_end xs x =
    slice_get-get_or (xs ++ x ∷ []) (length xs) x (omega (arith, length-append xs (x ∷ [])))
    ∙ ap Some (ap (λ (k : ℕ). get_or (xs ++ x ∷ []) k x) (omega arith) ∙ get_or-append-add xs (x ∷ []) 0 x)

stays : {X : Type 0} (xs : List X) (x y : X) (k : ℕ) → slice_get xs k ≡ Some y → slice_get (xs ++ x ∷ []) k ≡ Some y
stays xs x y k read =
    let within = slice_get_within xs k y read in
    slice_get-get_or (xs ++ x ∷ []) k y (omega (arith, within, length-append xs (x ∷ [])))
    ∙ ap Some (get_or_append_left xs (x ∷ []) y k within ∙ get_or_from_slice_get xs k y y read)

pub some_same : {X : Type 0} (x y : X) → Some x ≡ Some y → x ≡ y
some_same x y same = cc

-- ---- rounds

pub none_made : (forward : ForwardIndex) (cell : List ℕ) (others : List Kept) → AreMade forward cell 0 cell others others
none_made forward cell others = record {
  entries = halves_of cell ∷ [];
  records = [];
  are_kept = record {
    opening = refl;
    len = omega arith;
    each = λ k before after record_ at_before at_after at_record. absurd (omega (arith, slice_get_within [] k record_ at_record));
  };
  len = refl;
  last = refl;
  behind = sym (append-nil others);
}

pub one_kept : (forward : ForwardIndex) (cell : List ℕ) (entries : List Halves) (records : List Kept) (left new : Halves) (record_ : Kept)
    → AreKept forward cell entries records → slice_get entries (length records) ≡ Some left → IsRound forward left.a left.b (kept record_) new.a new.b
    → AreKept forward cell (entries ++ new ∷ []) (records ++ record_ ∷ [])
one_kept forward cell entries records left new record_ are last round = record {
  opening = stays entries new (halves_of cell) 0 are.opening;
  len = omega (arith, length-append entries (new ∷ []), length-append records (record_ ∷ []), are.len);
  each = λ k before after kept_ at_before at_after at_record.
      elim (cases_lt k (length records)) [
        | inl early ↦
            are.each k before after kept_ (front entries new before k (omega (arith, early, are.len)) at_before) (front entries new after (k + 1) (omega (arith, early, are.len)) at_after) (front records record_ kept_ k early at_record)
        | inr late ↦
            let within = slice_get_within (records ++ record_ ∷ []) k kept_ at_record in
            let here : k ≡ length records = omega (arith, late, within, length-append records (record_ ∷ [])) in
            let is_before : left ≡ before = some_same left before (sym (stays entries new left (length records) last) ∙ ap (slice_get (entries ++ new ∷ [])) (sym here) ∙ at_before) in
            let is_after : new ≡ after = some_same new after (sym (at_end entries new) ∙ ap (slice_get (entries ++ new ∷ [])) (omega (arith, here, are.len)) ∙ at_after) in
            let is_record : record_ ≡ kept_ = some_same record_ kept_ (sym (at_end records record_) ∙ ap (slice_get (records ++ record_ ∷ [])) (sym here) ∙ at_record) in
            subst (λ (h : Halves). IsRound forward h.a h.b (kept kept_) after.a after.b) is_before
            (subst (λ (h : Halves). IsRound forward left.a left.b (kept kept_) h.a h.b) is_after
            (subst (λ (r : Kept). IsRound forward left.a left.b (kept r) new.a new.b) is_record round))
      ];
}

pub last_kept : (entries : List Halves) (records : List Kept) (new : Halves) (record_ : Kept) → length entries ≡ length records + 1
    → slice_get (entries ++ new ∷ []) (length (records ++ record_ ∷ [])) ≡ Some new
last_kept entries records new record_ len =
    ap (slice_get (entries ++ new ∷ [])) (omega (arith, length-append records (record_ ∷ []), len)) ∙ at_end entries new

pub one_made : (forward : ForwardIndex) (cell : List ℕ) (number : ℕ) (left new : List ℕ) (others all : List Kept) (record_ : Kept)
    → AreMade forward cell number left others all → IsRound forward (halves_of left).a (halves_of left).b (kept record_) (halves_of new).a (halves_of new).b
    → AreMade forward cell (number + 1) new others (all ++ record_ ∷ [])
one_made forward cell number left new others all record_ made round = record {
  entries = made.entries ++ halves_of new ∷ [];
  records = made.records ++ record_ ∷ [];
  are_kept = one_kept forward cell made.entries made.records (halves_of left) (halves_of new) record_ made.are_kept made.last round;
  len = omega (arith, length-append made.records (record_ ∷ []), made.len);
  last = last_kept made.entries made.records (halves_of new) record_ made.are_kept.len;
  behind = ap (λ (xs : List Kept). xs ++ record_ ∷ []) made.behind ∙ append_assoc others made.records (record_ ∷ []);
}

pub all_made : (forward : ForwardIndex) (cell : List ℕ) (rounds : ℕ) (left : List ℕ) (others all : List Kept) → AreMade forward cell rounds left others all → IsHalved forward cell rounds left others all
all_made forward cell rounds left others all made = record {
  records = made.records;
  are_halves = record {
    entries = made.entries;
    is_halving = record { are_kept = made.are_kept; most = omega (arith, made.len); end = inl made.len };
    last = made.last;
  };
  behind = made.behind;
}

pub ended : (forward : ForwardIndex) (cell : List ℕ) (rounds number : ℕ) (left : List ℕ) (others all : List Kept) → AreMade forward cell number left others all → number ≤ rounds → Ends forward (halves_of left) → IsHalved forward cell rounds left others all
ended forward cell rounds number left others all made fewer ends = record {
  records = made.records;
  are_halves = record {
    entries = made.entries;
    is_halving = record {
      are_kept = made.are_kept;
      most = omega (arith, made.len, fewer);
      end = inr (λ last at_last. subst (Ends forward) (some_same (halves_of left) last (sym made.last ∙ at_last)) ends);
    };
    last = made.last;
  };
  behind = made.behind;
}

-- ---- a round that isn't kept

pub same_halves : (left new : List ℕ) → half_a new ≡ half_a left → half_b new ≡ half_b left → halves_of left ≡ halves_of new
same_halves left new same_a same_b =
    ap (λ (x : List ℕ). let h : Halves = record { a = x; b = half_b left } in h) (sym same_a) ∙ ap (λ (y : List ℕ). let h : Halves = record { a = half_a new; b = y } in h) (sym same_b)

pub made_same : (forward : ForwardIndex) (cell : List ℕ) (number : ℕ) (left new : List ℕ) (others all : List Kept) → AreMade forward cell number left others all → halves_of left ≡ halves_of new → AreMade forward cell number new others all
made_same forward cell number left new others all made same = record {
  entries = made.entries;
  records = made.records;
  are_kept = made.are_kept;
  len = made.len;
  last = made.last ∙ ap Some same;
  behind = made.behind;
}

pub stopped_refused : (forward : ForwardIndex) (cell : List ℕ) (rounds number : ℕ) (left new : List ℕ) (others all : List Kept) (r : Kept) → AreMade forward cell number left others all → number ≤ rounds
    → IsRound forward (half_a left) (half_b left) (Refused r) (half_a new) (half_b new) → IsHalved forward cell rounds new others all
stopped_refused forward cell rounds number left new others all r made fewer round =
    let same = same_halves left new round.1 round.2 in
    let at_new : IsRefused forward (half_a new) (half_b new) r =
    subst (λ (h : Halves). IsRefused forward h.a h.b r) same round.0 in
    ended forward cell rounds number new others all (made_same forward cell number left new others all made same) fewer (record { round = Refused r; is_round = (at_new, refl, refl) })

pub stopped_still : (forward : ForwardIndex) (cell : List ℕ) (rounds number : ℕ) (left new : List ℕ) (others all : List Kept) → AreMade forward cell number left others all → number ≤ rounds
    → IsRound forward (half_a left) (half_b left) Still (half_a new) (half_b new) → IsHalved forward cell rounds new others all
stopped_still forward cell rounds number left new others all made fewer round =
    let same = same_halves left new round.1 round.2 in
    let at_new : ArePairs forward (half_a new) (half_b new) [] =
    subst (λ (h : Halves). ArePairs forward h.a h.b []) same round.0 in
    ended forward cell rounds number new others all (made_same forward cell number left new others all made same) fewer (record { round = Still; is_round = (at_new, refl, refl) })

pub loaded_loads : (forward : ForwardIndex) (a b : List ℕ) (loads : ℕ) (table : Counted) → table ≡ loaded forward a b loads → table ≡ loaded forward a b table.loads
loaded_loads forward a b loads table is = is ∙ ap (loaded forward a b) (sym (ap (λ (t : Counted). t.loads) is))

pub cleared_after : (terms : ℕ) (table new : Counted) → length table.a ≡ terms → new ≡ cleared (length table.a) table.loads → new ≡ cleared terms new.loads
cleared_after terms table new len is = is ∙ ap (λ (n : ℕ). cleared n table.loads) len ∙ ap (cleared terms) (sym (ap (λ (t : Counted). t.loads) is))

pub loads_small : (loads : ℕ) → one_load_more loads ≤ loads + 1
unfolding one_load_more
loads_small loads = omega arith

pub loads_grow : (loads : ℕ) → loads < 2 ^ 64 → loads ≤ one_load_more loads
unfolding one_load_more
loads_grow loads within = omega (arith, within)
