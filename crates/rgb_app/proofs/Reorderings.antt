-- A reordering of an index is one and is there, and its numbering lists each document once.
use Rattle.std.proofs.Common.{◌≡◌, ◌≢◌, ◌==◌, ℕ, ◌+◌, ◌^◌, ◌<◌, Bool, true, false, List, length, map, slice_index, All, Result, Ok, Err, IfOk, refl, sym, ap, subst, ◌∙◌, arith, zero-add}
use Rattle.std.specs.List.{AllPairs, range_with_len}
use Rattle.std.specs.List.Sorted.{IsPermutation, IsStrictlyIncreasing}
use Rattle.std.proofs.lemmas.Bool.Decides.{nat_tests, Decides-eqb}
use Rattle.std.proofs.lemmas.List.{ext_get_or}
use Rattle.std.proofs.lemmas.List.FromFn.{length-range_with_len, get_or-range_with_len, length-map-range_with_len, get_or-map-range_with_len}
use Rattle.std.proofs.lemmas.List.Sorted.{IsPermutation-map, Contains-permutation, All-permutation, length_permutation}
use Rattle.std.proofs.lemmas.Map.Keys.{IsDistinct-IsPermutation}
use Rattle.std.proofs.lemmas.Map.Made.{AllPairs-from_IsDistinct, IsDistinct-from_AllPairs}
use Rattle.rgb_base.specs.Parts.{IndexParts, IsIndex}
use Rattle.rgb_base.specs.Order.{IsOrder}
use Rattle.forward_index.specs.Forward.{ForwardIndex, IsForward, IsForwardOf}
use Rattle.forward_index.specs.Laws.{ForwardIsOne, StartByNameIsOne, StartIsThere}
use Rattle.cell_claims.specs.declared.trace.KeptRound.{KeptRound}
use Rattle.bisection.specs.Recursion.{IsNumbered, all_places, order_of}
use Rattle.bisection.specs.Laws.{NumberingIsOne, EachDocumentOnce}
use Rattle.bisection.specs.There.{NumberingOfIsThere}
use Rattle.postings_rewrite.specs.Renumbering.{IsRenumbered}
use Rattle.postings_rewrite.specs.Laws.{IsOrderOf, RenumberedIsThere, RenumberingIsOne}
use Rattle.command_words.specs.declared.reordering.Reordering.{Reordering}
use Rattle.rgb_app.specs.Reordering.{IsStart, limits_of, IsForwardBy, IsNumberingBy, IsReordered}

-- the laws by which it is one
pub record AreOne : Type 0 where
  pub forward : ForwardIsOne
  pub start : StartByNameIsOne
  pub numbering : NumberingIsOne
  pub documents : EachDocumentOnce
  pub renumbering : RenumberingIsOne

-- the laws by which it is there
pub record AreThere : Type 0 where
  pub start : StartIsThere
  pub numbering : NumberingOfIsThere
  pub documents : EachDocumentOnce
  pub renumbered : RenumberedIsThere

-- ---- the start order

start_is_one : StartByNameIsOne → (by_name : Bool) (index : IndexParts) (a b : List ℕ) → IsStart by_name index a → IsStart by_name index b → a ≡ b
start_is_one law true index a b p q = law index a b p q
start_is_one law false index a b p q = p ∙ sym q

pub start_len : (by_name : Bool) (index : IndexParts) (start : List ℕ) → IsStart by_name index start → length start ≡ length index.documents
start_len true index start is = is.len
start_len false index start is = ap length is ∙ length-range_with_len 0 (length index.documents)

-- the forward index over the numbers in order
pub by_number : (options : Reordering) (index : IndexParts) (forward : ForwardIndex) → options.by_name ≡ false → IsForwardOf index options.min_df (range_with_len 0 (length index.documents)) forward → IsForward forward
    → IsForwardBy options index forward
by_number options index forward is of sound = record {
  start = range_with_len 0 (length index.documents);
  is_start = subst (λ (by_name : Bool). IsStart by_name index (range_with_len 0 (length index.documents))) (sym is) refl;
  len = length-range_with_len 0 (length index.documents);
  sound = sound;
  is_forward = of;
}

pub if_ok_both : {X Y : Type 0} (r : Result X Y) (P Q R : X → Type 0) → ((x : X) → P x → Q x → R x) → IfOk r P → IfOk r Q → IfOk r R
if_ok_both (Ok x) P Q R both p q = both x p q
if_ok_both (Err e) P Q R both p q = tt

-- ---- the numbering lists each document once

flips : (x y : ℕ) → (x == y) ≡ (y == x)
flips x y = grind (arith, nat_tests)

differ : (xs ys : List ℕ) → IsPermutation xs ys → AllPairs (λ a b. a ≢ b) xs → AllPairs (λ a b. a ≢ b) ys
differ xs ys same all =
    AllPairs-from_IsDistinct {eq = ◌==◌} Decides-eqb ys (IsDistinct-IsPermutation ◌==◌ flips xs ys same (IsDistinct-from_AllPairs {eq = ◌==◌} Decides-eqb xs all))

ordered : (xs ys : List ℕ) → IsPermutation xs ys → IsOrder xs → IsOrder ys
ordered xs ys same is =
    let len : length ys ≡ length xs = length_permutation xs ys same in
    record {
      small = omega (arith, len, is.small);
      numbers = record {
        below = subst (λ (n : ℕ). All (λ (old : ℕ). old < n) ys) (sym len) (All-permutation (λ (old : ℕ). old < length xs) xs ys same is.numbers.below);
        different = differ xs ys same is.numbers.different;
      };
      each = λ old lt. Contains-permutation xs ys old same (is.each old (omega (arith, lt, len)));
    }

rising : (n : ℕ) → IsStrictlyIncreasing (range_with_len 0 n)
rising n = λ k lt. omega (arith, lt, length-range_with_len 0 n, get_or-range_with_len 0 n k 0 (omega (arith, lt, length-range_with_len 0 n)), get_or-range_with_len 0 n (k + 1) 0 (omega (arith, lt, length-range_with_len 0 n)))

-- the elements at all places
all_of : (xs : List ℕ) (n : ℕ) → length xs ≡ n → map (slice_index xs) (range_with_len 0 n) ≡ xs
all_of xs n len = ext_get_or 0 (map (slice_index xs) (range_with_len 0 n)) xs (length-map-range_with_len (slice_index xs) 0 n ∙ sym len)
    (λ i lt. get_or-map-range_with_len (slice_index xs) 0 n i i 0 (omega (arith, lt, length-map-range_with_len (slice_index xs) 0 n)) (zero-add i))

pub numbering_ordered : EachDocumentOnce → (options : Reordering) (index : IndexParts) (numbering : List ℕ) (trace : List KeptRound) → IsNumberingBy options index numbering trace → IsOrderOf index numbering
numbering_ordered law options index numbering trace is =
    let whole = is.is_numbering in
    let forward = whole.forward in
    let numbered = whole.is_numbered in
    let once = law forward (limits_of options) options.depth (all_places forward) numbered.cells trace (rising (length forward.rows)) numbered.is_bisected in
    let moved : IsPermutation (map (slice_index forward.documents) (all_places forward)) (map (slice_index forward.documents) (order_of numbered.cells)) =
    IsPermutation-map (slice_index forward.documents) (all_places forward) (order_of numbered.cells) once.documents in
    let same : IsPermutation forward.documents numbering =
    subst (λ (ys : List ℕ). IsPermutation forward.documents ys) (sym numbered.documents)
    (subst (λ (xs : List ℕ). IsPermutation xs (map (slice_index forward.documents) (order_of numbered.cells))) (all_of forward.documents (length forward.rows) whole.sound.len) moved) in
    record {
      ordered = ordered forward.documents numbering same whole.sound.ordered;
      len = length_permutation forward.documents numbering same ∙ ap length whole.is_forward.documents ∙ start_len options.by_name index is.start is.is_start;
    }

-- ---- it is one

-- two numberings of an index by the same options
pub record Same (a b : List ℕ) (s t : List KeptRound) : Type 0 where
  pub numbering : a ≡ b
  pub trace : s ≡ t

pub one_numbering : AreOne → (options : Reordering) (index : IndexParts) (a b : List ℕ) (s t : List KeptRound) → IsNumberingBy options index a s → IsNumberingBy options index b t → Same a b s t
one_numbering laws options index a b s t p q =
    let start : q.start ≡ p.start = start_is_one laws.start options.by_name index q.start p.start q.is_start p.is_start in
    let one = p.is_numbering in
    let other = q.is_numbering in
    let of_start : IsForwardOf index options.min_df p.start other.forward = subst (λ (start : List ℕ). IsForwardOf index options.min_df start other.forward) start other.is_forward in
    let forward : other.forward ≡ one.forward = laws.forward index options.min_df p.start other.forward one.forward other.sound one.sound of_start one.is_forward in
    let numbered : IsNumbered one.forward (limits_of options) options.depth b t = subst (λ (f : ForwardIndex). IsNumbered f (limits_of options) options.depth b t) forward other.is_numbered in
    let same = laws.numbering one.forward (limits_of options) options.depth b a t s numbered one.is_numbered in
    record { numbering = same.0; trace = same.1 }

-- two new indexes
pub record SameNew (a b : IndexParts) (s t : List KeptRound) : Type 0 where
  pub new : a ≡ b
  pub trace : s ≡ t

pub one_reordering : AreOne → (options : Reordering) (index new other : IndexParts) (s t : List KeptRound) → IsReordered options index new s → IsReordered options index other t → SameNew new other s t
one_reordering laws options index new other s t p q =
    let same = one_numbering laws options index p.numbering q.numbering s t p.is_numbering q.is_numbering in
    let order = numbering_ordered laws.documents options index q.numbering t q.is_numbering in
    record {
      new = laws.renumbering index new other q.numbering order (subst (λ (order : List ℕ). IsRenumbered index order new) same.numbering p.is_renumbered) q.is_renumbered;
      trace = same.trace;
    }

-- ---- it is there

-- the numbers in order are an order
pub range_ordered : (n : ℕ) → n < 2 ^ 31 → IsOrder (range_with_len 0 n)
range_ordered n small =
    let len = length-range_with_len 0 n in
    record {
      small = omega (arith, small, len);
      numbers = record {
        below = λ k d lt. omega (arith, get_or-range_with_len 0 n k d (omega (arith, lt, len)), lt);
        different = λ i j d less within same. absurd (omega (arith, get_or-range_with_len 0 n i d (omega (arith, less, within, len)), get_or-range_with_len 0 n j d (omega (arith, within, len)), same, less));
      };
      each = λ old lt. (old, lt, get_or-range_with_len 0 n old old (omega (arith, lt, len)) ∙ zero-add old);
    }

-- the index has a start order
record HasStartBy (by_name : Bool) (index : IndexParts) : Type 0 where
  pub start : List ℕ
  pub is_start : IsStart by_name index start
  pub ordered : IsOrder start

some_start : StartIsThere → (by_name : Bool) (index : IndexParts) → length index.documents < 2 ^ 31 → HasStartBy by_name index
some_start law true index small = let by_name = law index small in record { start = by_name.order; is_start = by_name.is_start; ordered = by_name.is_start.ordered }
some_start law false index small = record { start = range_with_len 0 (length index.documents); is_start = refl; ordered = range_ordered (length index.documents) small }

-- the options have a numbering of the index's documents
pub record HasNumberingBy (options : Reordering) (index : IndexParts) : Type 0 where
  pub numbering : List ℕ
  pub trace : List KeptRound
  pub is_numbering : IsNumberingBy options index numbering trace

pub some_numbering : AreThere → (options : Reordering) (index : IndexParts) → IsIndex index → HasNumberingBy options index
some_numbering laws options index is =
    let first = some_start laws.start options.by_name index is.counted.documents in
    let numbered = laws.numbering index options.min_df first.start (limits_of options) options.depth is first.ordered (start_len options.by_name index first.start first.is_start) in
    record {
      numbering = numbered.numbering;
      trace = numbered.trace;
      is_numbering = record { start = first.start; is_start = first.is_start; is_numbering = numbered.is_numbering };
    }

-- the options make a new index of this one
pub record HasReordering (options : Reordering) (index : IndexParts) : Type 0 where
  pub new : IndexParts
  pub trace : List KeptRound
  pub is_reordered : IsReordered options index new trace

pub some_reordering : AreThere → (options : Reordering) (index : IndexParts) → IsIndex index → HasReordering options index
some_reordering laws options index is =
    let numbered = some_numbering laws options index is in
    let order = numbering_ordered laws.documents options index numbered.numbering numbered.trace numbered.is_numbering in
    let renumbered = laws.renumbered index numbered.numbering is order in
    record {
      new = renumbered.0;
      trace = numbered.trace;
      is_reordered = record { numbering = numbered.numbering; is_numbering = numbered.is_numbering; is_renumbered = renumbered.1 };
    }
