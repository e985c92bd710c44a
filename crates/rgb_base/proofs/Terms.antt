-- The keys of a set of texts are the terms that a loop has passed.
use Rattle.std.proofs.Common.{◌≡◌, ◌≢◌, ℕ, ◌+◌, ◌<◌, Bool, true, false, cond, not, List, [], ◌∷◌, ◌++◌, length, get_or, take, map, Contains, Bor, refl, sym, subst, ap, ◌∙◌, arith}
use Rattle.std.specs.Bool.{nat_eq}
use Rattle.std.specs.List.{list_any, Any}
use Rattle.std.specs.Cmp.Lexicographic.{pointwise}
use Rattle.std.proofs.lemmas.Slice.Eq.{bytes_eq-Decides}
use Rattle.std.proofs.lemmas.Bool.{false≢true}
use Rattle.std.proofs.lemmas.List.{take_more, get_or-map, length-map, map-append}
use Rattle.std.proofs.lemmas.List.Folds.{Any-from_list_any, list_any_at}
use Rattle.std.proofs.lemmas.List.Quantifiers.{all_pairs_push}
use Rattle.indexmap.specs.IndexSet.{insert_key}
use Rattle.rgb_base.specs.Parts.{AreDifferent}

abbrev pub same_text : Bor (List ℕ) → Bor (List ℕ) → Bool
same_text a b = pointwise nat_eq a.now b.now

abbrev pub texts : List (Bor (List ℕ)) → List (List ℕ)
texts keys = map (λ (key : Bor (List ℕ)). key.now) keys

pub Contains-from_seen : (keys : List (Bor (List ℕ))) (key : Bor (List ℕ)) → list_any (same_text key) keys ≡ true → Contains (texts keys) key.now
Contains-from_seen keys key seen =
    let at : Any (λ other. same_text key other ≡ true) keys = Any-from_list_any (same_text key) keys seen in
    let same : key.now ≡ at.1.now = (bytes_eq-Decides key.now at.1.now).0 at.4 in
    (at.0, omega (arith, at.2, length-map keys (λ (other : Bor (List ℕ)). other.now)), get_or-map (λ (other : Bor (List ℕ)). other.now) keys at.0 at.1 key.now at.2 ∙ ap (λ (other : Bor (List ℕ)). other.now) at.3 ∙ sym same)

pub differs_from_unseen : (keys : List (Bor (List ℕ))) (key : Bor (List ℕ)) → list_any (same_text key) keys ≡ false
    → (k : ℕ) (d : List ℕ) → k < length (texts keys) → get_or (texts keys) k d ≢ key.now
differs_from_unseen keys key unseen k d within same =
    let inside : k < length keys = omega (arith, length-map keys (λ (other : Bor (List ℕ)). other.now)) in
    let here : key.now ≡ (get_or keys k key).now = sym same ∙ get_or-map (λ (other : Bor (List ℕ)). other.now) keys k key d inside in
    absurd (false≢true (sym unseen ∙ list_any_at (same_text key) keys k key inside ((bytes_eq-Decides key.now (get_or keys k key).now).1 here)))

-- one more text, which no earlier one is
pub all_different_more : (terms : List (List ℕ)) (keys : List (Bor (List ℕ))) (i : ℕ) (key : Bor (List ℕ)) → i < length terms → get_or terms i [] ≡ key.now
    → texts keys ≡ take i terms → list_any (same_text key) keys ≡ false → AreDifferent (take i terms) → AreDifferent (take (i + 1) terms)
all_different_more terms keys i key within here same unseen h =
    subst AreDifferent (sym (take_more terms i [] within)) (all_pairs_push (λ a b. a ≢ b) (take i terms) (get_or terms i []) h
    (λ k d lt. let unlike : get_or (take i terms) k d ≢ key.now = subst (λ (ts : List (List ℕ)). get_or ts k d ≢ key.now) same (differs_from_unseen keys key unseen k d (subst (λ (ts : List (List ℕ)). k < length ts) (sym same) lt)) in
    subst (λ (t : List ℕ). get_or (take i terms) k d ≢ t) (sym here) unlike))

pub texts_more : (terms : List (List ℕ)) (keys new : List (Bor (List ℕ))) (i : ℕ) (key : Bor (List ℕ)) → i < length terms → get_or terms i [] ≡ key.now
    → texts keys ≡ take i terms → list_any (same_text key) keys ≡ false → new ≡ insert_key same_text keys key → texts new ≡ take (i + 1) terms
texts_more terms keys new i key within here same unseen inserted =
    let pushed : new ≡ keys ++ key ∷ [] = inserted ∙ ap (λ (b : Bool). cond b keys (keys ++ key ∷ [])) unseen in
    ap texts pushed ∙ map-append (λ (other : Bor (List ℕ)). other.now) keys (key ∷ []) ∙ ap (λ (ts : List (List ℕ)). ts ++ key.now ∷ []) same
    ∙ ap (λ (t : List ℕ). take i terms ++ t ∷ []) (sym here) ∙ sym (take_more terms i [] within)

-- what `insert` answers
pub not_true : (b : Bool) → true ≡ not b → b ≡ false
not_true true e = absurd (false≢true (sym e))
not_true false e = refl

pub not_false : (b : Bool) → false ≡ not b → b ≡ true
not_false true e = refl
not_false false e = absurd (false≢true e)
