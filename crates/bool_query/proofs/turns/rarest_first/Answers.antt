use Rattle.std.proofs.Common.{◌≡◌, ◌+◌, ◌<◌, ℕ, List, [], ◌∷◌, length, get_or, map, Vec, Global, All, Contains, IfOk, IsPermutation, refl, sym, ap, subst, ◌∙◌, arith}
use Rattle.std.proofs.lemmas.List.{length-map, get_or-map, get_or_default}
use Rattle.std.proofs.lemmas.List.Elements.{All-map, Contains-get_or}
use Rattle.std.proofs.lemmas.List.Sorted.{All-permutation, Contains-permutation}
use Rattle.bool_query.specs.declared.turns.Turn.{Turn}
use Rattle.bool_query.proofs.Scoped.{if_ok}
use Rattle.bool_query.proofs.turns.rarest_first.Goals as goal

all_below : (turns sorted : List Turn) (n : ℕ) → length turns ≡ n → ((k : ℕ) (d : Turn) → k < n → (get_or turns k d).place ≡ k) → IsPermutation turns sorted → All (λ place. place < n) (map (λ (turn : Turn). turn.place) sorted)
all_below turns sorted n len each same =
    All-map (λ place. place < n) (λ (turn : Turn). turn.place) sorted
    (All-permutation (λ (turn : Turn). turn.place < n) turns sorted same (λ k d inside. omega (arith, each k d (omega arith))))

each_there : (turns sorted : List Turn) (n k : ℕ) → length turns ≡ n → ((j : ℕ) (d : Turn) → j < n → (get_or turns j d).place ≡ j) → IsPermutation turns sorted → k < n → Contains (map (λ (turn : Turn). turn.place) sorted) k
each_there [] sorted n k len each same inside = absurd (omega arith)
each_there (first ∷ turns) sorted n k len each same inside =
    let all = first ∷ turns in
    let turn = get_or all k first in
    let there : Contains sorted turn = Contains-permutation all sorted turn same (Contains-get_or all k first (omega arith)) in
    (there.0, omega (arith, there.1, length-map sorted (λ (t : Turn). t.place)), get_or-map (λ (t : Turn). t.place) sorted there.0 turn k there.1 ∙ ap (λ (t : Turn). t.place) there.2 ∙ each k first inside)

pub returns-clause-below : goal.returns-clause-below
returns-clause-below g c =
    let n = length c.args.parts.now in
    let all : c.loop-place.place ≡ n = omega arith in
    let is = c.loop-place.invariant in
    let sorted = c.sort_unstable.new.self.items in
    let read : c.deref.result.now ≡ sorted = c.deref.ensures.value in
    if_ok c.places_of.result (λ places. places.items ≡ map (λ (turn : Turn). turn.place) c.deref.result.now) (λ places. All (λ place. place < n) places.items)
    (λ places same. subst (λ (l : List ℕ). All (λ place. place < n) l) (sym (same ∙ ap (λ (ts : List Turn). map (λ (turn : Turn). turn.place) ts) read))
    (all_below c.loop-place.turns.items sorted n (is.len ∙ all) (λ k d inside. is.each k d (omega arith)) c.sort_unstable.ensures.permutation))
    c.places_of.ensures

pub returns-clause-each : goal.returns-clause-each
returns-clause-each g c =
    let n = length c.args.parts.now in
    let all : c.loop-place.place ≡ n = omega arith in
    let is = c.loop-place.invariant in
    let sorted = c.sort_unstable.new.self.items in
    let read : c.deref.result.now ≡ sorted = c.deref.ensures.value in
    if_ok c.places_of.result (λ places. places.items ≡ map (λ (turn : Turn). turn.place) c.deref.result.now) (λ places. (place : ℕ) → place < n → Contains places.items place)
    (λ places same place inside. subst (λ (l : List ℕ). Contains l place) (sym (same ∙ ap (λ (ts : List Turn). map (λ (turn : Turn). turn.place) ts) read))
    (each_there c.loop-place.turns.items sorted n place (is.len ∙ all) (λ k d low. is.each k d (omega arith)) c.sort_unstable.ensures.permutation inside))
    c.places_of.ensures
