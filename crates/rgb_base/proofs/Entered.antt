-- Marks in a set, and what a builder refuses.
use Rattle.std.proofs.Common.{◌≡◌, ℕ, ◌+◌, ◌^◌, ◌<◌, ◌==◌, Bool, true, false, cond, List, [], ◌∷◌, ◌++◌, length, get_or, All, Contains, refl, sym, subst, ◌∙◌}
use Rattle.std.specs.List.{list_any, Any}
use Rattle.std.proofs.lemmas.Bool.{false≢true}
use Rattle.std.proofs.lemmas.Bool.Decides.{Decides-eqb}
use Rattle.std.proofs.lemmas.List.{get_or_default}
use Rattle.std.proofs.lemmas.List.Folds.{Any-from_list_any, list_any_at}
use Rattle.std.proofs.lemmas.List.Elements.{Contains-push, Contains-append_left, All-contains}
use Rattle.indexmap.specs.IndexSet.{insert_key}
use Rattle.rgb_base.specs.declared.error.BuildError.{BuildError}
use Rattle.rgb_base.specs.declared.error.BuildError.TheVariants.{Counts, Order, Same, Size, OutOfMemory}
use Rattle.rgb_base.specs.Building.{Building, HasTerm, IsFullOfText, IsListFault}
use Rattle.rgb_base.specs.Appended.{IsEnterFault}
use Rattle.rgb_base.specs.Marks.{mark_of}

pub eq : ℕ → ℕ → Bool
eq a b = a == b

-- a mark that is not found stands nowhere, so no text has it
pub not_marked : (keys : List ℕ) (mark : ℕ) → list_any (λ key. mark == key) keys ≡ false → ¬ Contains keys mark
not_marked keys mark none at =
    false≢true (sym none ∙ list_any_at (λ key. mark == key) keys at.0 mark at.1 ((Decides-eqb mark (get_or keys at.0 mark)).1 (sym at.2)))

pub not_there : (keys : List ℕ) (texts : List (List ℕ)) (text : List ℕ) → All (λ other. Contains keys (mark_of other)) texts → list_any (λ key. mark_of text == key) keys ≡ false → ¬ Contains texts text
not_there keys texts text marked none at = not_marked keys (mark_of text) none (All-contains (λ other. Contains keys (mark_of other)) texts text marked at)

pub mark_kept : (keys : List ℕ) (new mark : ℕ) → Contains keys mark → Contains (insert_key (λ a b. a == b) keys new) mark
mark_kept keys new mark at = kept (list_any (λ key. new == key) keys) at
  where
    kept : (b : Bool) → Contains keys mark → Contains (cond b keys (keys ++ new ∷ [])) mark
    kept true at' = at'
    kept false at' = Contains-append_left keys (new ∷ []) mark at'

-- a list's fault from that of its term
pub list_fault : (building : Building) (term : List ℕ) (cause : BuildError) → length building.lists + 1 < 2 ^ 31 → ¬ IsFullOfText building term → ¬ HasTerm building term → cause ≡ OutOfMemory → IsListFault building term cause
list_fault building term cause few room new same = subst (IsListFault building term) (sym same) (few, new, room)

pub enter_fault : (building : Building) (texts : List (List ℕ)) (term : List ℕ) (cause : BuildError) → length building.lists + 1 < 2 ^ 31 → ¬ IsFullOfText building term
    → (HasTerm building term → Contains texts term) → (Contains texts term → HasTerm building term) → IsEnterFault texts term cause → IsListFault building term cause
enter_fault building texts term Counts few room to from h = absurd h
enter_fault building texts term Order few room to from h = absurd h
enter_fault building texts term Same few room to from h = (few, from h)
enter_fault building texts term Size few room to from h = absurd h
enter_fault building texts term OutOfMemory few room to from h = (few, λ stands. h (to stands), room)

pub mark_entered : (keys : List ℕ) (mark : ℕ) → Contains (insert_key (λ a b. a == b) keys mark) mark
mark_entered keys mark = entered (list_any (λ key. mark == key) keys) refl
  where
    entered : (b : Bool) → list_any (λ key. mark == key) keys ≡ b → Contains (cond b keys (keys ++ mark ∷ [])) mark
    entered true e =
        let at : Any (λ key. (mark == key) ≡ true) keys = Any-from_list_any (λ key. mark == key) keys e in
        let same : mark ≡ at.1 = (Decides-eqb mark at.1).0 at.4 in
        (at.0, at.2, get_or_default keys at.0 mark at.1 at.2 ∙ at.3 ∙ sym same)
    entered false e = Contains-push keys mark
