-- Line feeds in bytes, and the lines that they end.
use Rattle.std.proofs.Common.{◌≡◌, ◌≢◌, ℕ, zero, suc, ◌+◌, ◌-◌, ◌<◌, true, false, Bool, List, [], ◌∷◌, ◌++◌, length, take, drop, get_or, eqb, refl, sym, ap, subst, ◌∙◌, arith, eq-eqb, eqb-true, add-one}
use Rattle.std.proofs.lemmas.List.{take-append-drop, take_all, length-drop}
use Rattle.std.proofs.Math.Seq.{drop-cons}
use Rattle.query_file.specs.Lines.{HasNoFeed, without_return, AreLines, last_line, next_line}
use Rattle.query_file.specs.Steps.{IsEnded}

-- no feed stands before a place
pub no_feed_before : (bytes : List ℕ) (k : ℕ) → ((j : ℕ) → j < k → eqb (get_or bytes j 0) 10 ≡ true → ⊥) → HasNoFeed (take k bytes)
no_feed_before [] zero none = tt
no_feed_before [] (suc k) none = tt
no_feed_before (byte ∷ bytes) zero none = tt
no_feed_before (byte ∷ bytes) (suc k) none = (
  (λ is. none 0 (omega arith) (eq-eqb byte 10 is)),
  no_feed_before bytes k (λ j below. none (suc j) (omega (arith, below))),
)

-- the first feed stands at a place
pub ended_at : (bytes line : List ℕ) (end : ℕ) → ((j : ℕ) → j < end → eqb (get_or bytes j 0) 10 ≡ true → ⊥) → end < length bytes → eqb (get_or bytes end 0) 10 ≡ true
    → line ≡ without_return (take end bytes) → IsEnded bytes line (take (length bytes - (end + 1)) (drop (end + 1) bytes))
ended_at bytes line end none below feed is = record {
  front = take end bytes;
  no_feed = no_feed_before bytes end none;
  spelt = sym (take-append-drop end bytes) ∙ ap (λ (bs : List ℕ). take end bytes ++ bs) behind;
  is = is;
}
  where
    all : take (length bytes - (end + 1)) (drop (end + 1) bytes) ≡ drop (end + 1) bytes
    all = take_all (length bytes - (end + 1)) (drop (end + 1) bytes) (omega (arith, length-drop (end + 1) bytes))

    behind : drop end bytes ≡ 10 ∷ take (length bytes - (end + 1)) (drop (end + 1) bytes)
    behind = drop-cons bytes end 0 below ∙ ap (λ (b : ℕ). b ∷ drop (suc end) bytes) (eqb-true (get_or bytes end 0) 10 feed)
        ∙ ap (λ (bs : List ℕ). 10 ∷ bs) (ap (λ (k : ℕ). drop k bytes) (sym (add-one end)) ∙ sym all)

-- no feed stands anywhere
pub no_feed_at_all : (bytes : List ℕ) → ((j : ℕ) → j < length bytes → eqb (get_or bytes j 0) 10 ≡ true → ⊥) → HasNoFeed bytes
no_feed_at_all bytes none = subst HasNoFeed (take_all (length bytes) bytes (omega arith)) (no_feed_before bytes (length bytes) none)

-- ---- all bytes fall into lines

-- a byte that is no feed before the first line
longer : (byte : ℕ) {bytes : List ℕ} {lines : List (List ℕ)} → byte ≢ 10 → AreLines bytes lines → (others : List (List ℕ)) × AreLines (byte ∷ bytes) others
longer byte other (last_line {bytes = bytes} clear) = ((byte ∷ bytes) ∷ [], last_line (other, clear))
longer byte other (next_line {rest = rest} {lines = lines} front clear more) = (without_return (byte ∷ front) ∷ lines, next_line (byte ∷ front) (other, clear) more)

pub some_lines : (bytes : List ℕ) → (lines : List (List ℕ)) × AreLines bytes lines
some_lines [] = ([] ∷ [], last_line tt)
some_lines (byte ∷ bytes) = by_test (eqb byte 10) refl (some_lines bytes)
  where
    by_test : (test : Bool) → eqb byte 10 ≡ test → ((lines : List (List ℕ)) × AreLines bytes lines) → (lines : List (List ℕ)) × AreLines (byte ∷ bytes) lines
    by_test true is more = subst (λ (b : ℕ). (lines : List (List ℕ)) × AreLines (b ∷ bytes) lines) (sym (eqb-true byte 10 is)) (without_return [] ∷ more.0, next_line [] tt more.1)
    by_test false is more = longer byte (λ same. absurd (let t : false ≡ true = sym is ∙ eq-eqb byte 10 same in cc)) more.1
