-- Cells that are done, one behind the other.
use Rattle.std.proofs.Common.{Vec, Global, ◌≡◌, ◌≢◌, ℕ, zero, suc, ◌+◌, ◌<◌, List, [], ◌∷◌, ◌++◌, length, take, drop, get_or, set, Some, refl, sym, ap, ◌∙◌, subst, arith, length-set}
use Rattle.std.specs.Prelude.{slice_get}
use Rattle.std.specs.List.{sum_by}
use Rattle.std.proofs.lemmas.List.{take_more, take-take, drop-take, length-take-le}
use Rattle.std.proofs.lemmas.List.Sums.{sum_by_push}
use Rattle.std.proofs.Math.Seq.{drop-append_seam}
use Rattle.std.proofs.lemmas.Option.{slice_get_read}
use Rattle.cell_claims.specs.declared.cell.CellDone.{CellDone}
use Rattle.bisection.specs.declared.options.Options.{Options}
use Rattle.bisection.specs.declared.cell.Part.{Part}
use Rattle.bisection.specs.Progress.{limits_of}
use Rattle.bisection.specs.Cells.{Descends, DescendsAll, Output}
use Rattle.bisection.specs.Desks.{no_output, output, AreAllMade, AreJoined}
use Rattle.bisection.proofs.Descents.{descends_behind}
use Rattle.bisection.proofs.Slabs.{all_none, all_one, all_both}

abbrev lens : List Part → ℕ
lens parts = sum_by (λ (p : Part). p.len) parts

pub joined_none : (options : Options) (level last : ℕ) (parts : List Part) (docs order : List ℕ) (before : Output) (table : List (Vec Part Global)) → order ≡ [] → AreJoined options level last 0 parts docs order before before table table
joined_none options level last parts docs order before table none = subst (λ (o : List ℕ). AreJoined options level last 0 parts docs o before before table table) (sym none) record {
  descends = all_none (limits_of options) options.depth level last 0 [] [] before refl;
  len = refl;
  rest = λ k low. refl;
}

get_else : {A : Type 0} (xs : List A) (i k : ℕ) (v : A) → k ≢ i → slice_get (set xs i v) k ≡ slice_get xs k
get_else [] i k v n = refl
get_else (x ∷ xs) zero zero v n = absurd (n refl)
get_else (x ∷ xs) zero (suc k) v n = refl
get_else (x ∷ xs) (suc i) zero v n = refl
get_else (x ∷ xs) (suc i) (suc k) v n = get_else xs i k v (λ e. n (ap suc e))

pub join_one : (options : Options) (level last k : ℕ) (parts : List Part) (part : Part) (docs order docs_new : List ℕ) (before mid after : Output) → k < length parts → part ≡ get_or parts k part
    → DescendsAll (limits_of options) options.depth level last 0 (take k parts) (take (lens (take k parts)) docs) order before mid
    → Descends (limits_of options) options.depth level last (lens (take k parts)) part (take part.len (drop (lens (take k parts)) docs)) docs_new mid after
    → DescendsAll (limits_of options) options.depth level last 0 (take (k + 1) parts) (take (lens (take (k + 1) parts)) docs) (order ++ docs_new) before after
join_one options level last k parts part docs order docs_new before mid after low is front one =
    let limits = limits_of options in
    let start = lens (take k parts) in
    let len : length (take k parts) ≡ k = length-take-le k parts (omega arith) in
    let more : take (k + 1) parts ≡ take k parts ++ part ∷ [] = take_more parts k part low ∙ ap (λ (p : Part). take k parts ++ p ∷ []) (sym is) in
    let total : lens (take (k + 1) parts) ≡ start + part.len = ap lens more ∙ sum_by_push (λ (p : Part). p.len) (take k parts) part in
    let front_parts : take k parts ≡ take k (take (k + 1) parts) = sym (take-take k (k + 1) parts (omega arith)) in
    let back_parts : part ∷ [] ≡ drop k (take (k + 1) parts) = sym (ap (drop k) more ∙ ap (λ (n : ℕ). drop n (take k parts ++ part ∷ [])) (sym len) ∙ drop-append_seam (take k parts) (part ∷ [])) in
    let front_docs : take start docs ≡ take start (take (lens (take (k + 1) parts)) docs) = sym (take-take start (lens (take (k + 1) parts)) docs (omega arith)) in
    let back_docs : take part.len (drop start docs) ≡ drop start (take (lens (take (k + 1) parts)) docs) = sym (ap (λ (n : ℕ). drop start (take n docs)) total ∙ drop-take start part.len docs) in
    let back = all_one limits options.depth level last start (part ∷ []) part (take part.len (drop start docs)) docs_new mid after refl one in
    all_both limits options.depth level last 0 k start start (take (k + 1) parts) (take k parts) (part ∷ []) (take (lens (take (k + 1) parts)) docs) (take start docs) (take part.len (drop start docs)) order docs_new before mid after
    front_parts back_parts refl (omega arith) front_docs back_docs front back

pub joined_next : (options : Options) (level last k : ℕ) (parts : List Part) (docs order now : List ℕ) (dones : List CellDone) (before mid after : Output) (whole table table_now : List (Vec Part Global)) (part : Part) (done : CellDone) (left left_now : Vec Part Global)
    → AreAllMade options level last parts docs dones whole → AreJoined options level last k parts docs order before mid whole table → k < length parts
    → part ≡ get_or parts k part → done ≡ get_or dones k done → left ≡ get_or table k left → now ≡ order ++ done.docs → after.parts ≡ mid.parts ++ left.items → after.trace ≡ mid.trace ++ done.kept
    → table_now ≡ set table k left_now → AreJoined options level last (k + 1) parts docs now before after whole table_now
joined_next options level last k parts docs order now dones before mid after whole table table_now part done left left_now made joined low part_is done_is left_is order_is parts_are trace_is table_is =
    let count = made.count in
    let len = made.len in
    let table_len = joined.len in
    let at_part = slice_get_read parts (length parts) k part refl low part_is in
    let at_done = slice_get_read dones (length dones) k done refl (omega arith) done_is in
    let at_left : slice_get whole k ≡ Some left = sym (joined.rest k (omega arith)) ∙ slice_get_read table (length table) k left refl (omega arith) left_is in
    let start = lens (take k parts) in
    let one = descends_behind (limits_of options) options.depth level last start part (take part.len (drop start docs)) done.docs no_output (output left.items done.kept) mid after refl refl parts_are trace_is (made.each k part done left at_part at_done at_left) in
    let all = join_one options level last k parts part docs order done.docs before mid after low part_is joined.descends one in
    subst (λ (x : List ℕ × List (Vec Part Global)). AreJoined options level last (k + 1) parts docs x.0 before after whole x.1) (λ i. (sym order_is i, sym table_is i)) record {
      descends = all;
      len = length-set table k left_now ∙ joined.len;
      rest = λ j above. get_else table k j left_now (λ q. omega arith) ∙ joined.rest j (omega arith);
    }

pub get_or_same : {A : Type 0} (xs : List A) (k : ℕ) (d e : A) → k < length xs → get_or xs k d ≡ get_or xs k e
get_or_same [] k d e low = absurd (omega arith)
get_or_same (x ∷ xs) zero d e low = refl
get_or_same (x ∷ xs) (suc k) d e low = get_or_same xs k d e (omega arith)
