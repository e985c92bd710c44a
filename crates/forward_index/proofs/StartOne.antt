-- An index has one start order by name.
use Rattle.std.proofs.Common.{◌≡◌, ℕ, suc, ◌<◌, List, [], ◌∷◌, length, refl, sym, ap, subst, ◌∙◌, arith, AllPairs, Contains, inl, inr}
use Rattle.std.specs.Cmp.Lexicographic.{slice_cmp}
use Rattle.std.specs.Ordering.{nat_cmp, ordering_reverse, is_lt}
use Rattle.std.proofs.lemmas.Bool.{true≢false}
use Rattle.std.specs.declared.cmp.Ordering.TheVariants.{Less, Greater}
use Rattle.std.proofs.lemmas.Cmp.{nat_list_cmp_total}
use Rattle.std.proofs.lemmas.List.Elements.{All-contains}
use Rattle.rgb_base.specs.Parts.{IndexParts}
use Rattle.forward_index.specs.Start.{name_of, StandsBefore}
use Rattle.forward_index.specs.Laws.{StartByNameIsOne}
use Rattle.forward_index.proofs.One.{in_front, behind, first}
use Rattle.forward_index.proofs.Sums.{AllPairs-tail}

-- ---- lists of the same numbers in the same order

module _ (R : ℕ → ℕ → Type 0) (never_both : (a b : ℕ) → R a b → R b a → ⊥) where
  head_first : (x t : ℕ) (xs : List ℕ) → AllPairs R (x ∷ xs) → Contains xs t → R x t
  head_first x t xs ordered (k, lt, at) = subst (R x) at (ordered 0 (suc k) t (omega arith) (omega (arith, lt)))

  same_ordered : (xs ys : List ℕ) → AllPairs R xs → AllPairs R ys → ((t : ℕ) → Contains xs t → Contains ys t) → ((t : ℕ) → Contains ys t → Contains xs t) → xs ≡ ys
  same_ordered [] [] up up' to from = refl
  same_ordered [] (y ∷ ys) up up' to from = let lt = (from y (first y ys)).1 in absurd (omega (arith, lt))
  same_ordered (x ∷ xs) [] up up' to from = let lt = (to x (first x xs)).1 in absurd (omega (arith, lt))
  same_ordered (x ∷ xs) (y ∷ ys) up up' to from =
      let same : x ≡ y = elim (in_front y x ys (to x (first x xs))) [
        | inl e ↦ sym e
        | inr there ↦ elim (in_front x y xs (from y (first y ys))) [
          | inl e ↦ e
          | inr here ↦ absurd (never_both x y (head_first x y xs up here) (head_first y x ys up' there))
        ]
      ] in
      let rest : xs ≡ ys = same_ordered xs ys (AllPairs-tail R x xs up) (AllPairs-tail R y ys up')
      (λ t has. elim (in_front y t ys (to t (behind x t xs has))) [
        | inl e ↦ let twice : R x x = subst (R x) (sym (same ∙ e)) (head_first x t xs up has) in absurd (never_both x x twice twice)
        | inr there ↦ there
      ])
      (λ t has. elim (in_front x t xs (from t (behind y t ys has))) [
        | inl e ↦ let twice : R y y = subst (R y) (sym (sym same ∙ e)) (head_first y t ys up' has) in absurd (never_both y y twice twice)
        | inr there ↦ there
      ]) in
      ap (λ (n : ℕ). n ∷ xs) same ∙ ap (λ (ns : List ℕ). y ∷ ns) rest

-- ---- names

less_once : (xs ys : List ℕ) → slice_cmp nat_cmp xs ys ≡ Less → slice_cmp nat_cmp ys xs ≡ Less → ⊥
less_once xs ys one other =
    let turned : Less ≡ Greater = sym one ∙ nat_list_cmp_total.antisymm xs ys ∙ ap ordering_reverse other in
    true≢false (ap is_lt turned)

not_itself : (xs : List ℕ) → slice_cmp nat_cmp xs xs ≡ Less → ⊥
not_itself xs less = less_once xs xs less less

never_both : (index : IndexParts) (a b : ℕ) → StandsBefore index a b → StandsBefore index b a → ⊥
never_both index a b (inl less) (inl more) = less_once (name_of index a) (name_of index b) less more
never_both index a b (inl less) (inr (same, low)) = not_itself (name_of index a) (subst (λ (n : List ℕ). slice_cmp nat_cmp (name_of index a) n ≡ Less) same less)
never_both index a b (inr (same, low)) (inl more) = not_itself (name_of index b) (subst (λ (n : List ℕ). slice_cmp nat_cmp (name_of index b) n ≡ Less) same more)
never_both index a b (inr (same, low)) (inr (same', high)) = absurd (omega (arith, low, high))

pub start_one : StartByNameIsOne
start_one index a b of of' =
    let size : length a ≡ length b = of.len ∙ sym of'.len in
    same_ordered (StandsBefore index) (never_both index) a b of.before of'.before
    (λ t has. of'.ordered.each t (let low : t < length a = All-contains (λ (x : ℕ). x < length a) a t of.ordered.numbers.below has in omega (arith, low, size)))
    (λ t has. of.ordered.each t (let low : t < length b = All-contains (λ (x : ℕ). x < length b) b t of'.ordered.numbers.below has in omega (arith, low, size)))
