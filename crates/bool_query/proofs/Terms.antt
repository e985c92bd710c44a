-- The terms of a dictionary: where one stands, and one more of them.
use Rattle.std.proofs.Common.{◌≡◌, ◌≢◌, ◌↔◌, ◌⊎◌, inl, inr, ℕ, ◌+◌, ◌<◌, ◌≤◌, Bool, true, false, cond, List, [], ◌∷◌, ◌++◌, length, get_or, take, map, Option, Some, None, String, Global, string_bytes, string_eq, slice_get, option_map, zero, suc, position, bytes_eq, refl, sym, ap, subst, ◌∙◌, arith}
use Rattle.std.specs.List.{list_any, Any, position_or_len}
use Rattle.std.proofs.lemmas.Bool.{false≢true, ltb-false, cases_Bool, cases_order}
use Rattle.std.proofs.lemmas.Slice.Eq.{bytes_eq-Decides}
use Rattle.std.proofs.lemmas.Option.{slice_get-get_or, slice_get_cases, get_or_from_slice_get}
use Rattle.std.proofs.lemmas.List.{take_more, get_or-map, length-map, map_push, get_or_default, get_or-take, length-take}
use Rattle.std.proofs.lemmas.List.Folds.{Any-from_list_any}
use Rattle.std.proofs.lemmas.List.Sums.{fails_before_first}
use Rattle.std.proofs.lemmas.List.Quantifiers.{position-Some}
use Rattle.indexmap.specs.IndexSet.{insert_key}
use Rattle.rgb_base.specs.declared.parts.TermList.{TermList}
use Rattle.rgb_base.specs.Parts.{AreDifferent, terms_of}

abbrev pub texts : List (String Global) → List (List ℕ)
texts keys = map (λ (key : String Global). string_bytes key) keys

-- the test by which a text is looked up
abbrev pub is_text : List ℕ → String Global → Bool
is_text term key = bytes_eq term (string_bytes key)

pub within : (terms : List (List ℕ)) (n : ℕ) (term : List ℕ) → slice_get terms n ≡ Some term → n < length terms
within terms n term stands = elim (slice_get_cases terms n).1 [
  | inl there ↦ there.1
  | inr past ↦ absurd (let e : None ≡ Some term = sym past.1 ∙ stands in (cc))
]

stands_where_found : (keys : List (String Global)) (term : List ℕ) (n : ℕ) → position (is_text term) keys ≡ Some n → slice_get (texts keys) n ≡ Some term
stands_where_found [] term n found = absurd (cc)
stands_where_found (key ∷ keys) term n found =
    let all = key ∷ keys in
    let p = position-Some (is_text term) all n key found in
    let same : term ≡ string_bytes (get_or all n key) = (bytes_eq-Decides term (string_bytes (get_or all n key))).0 p.1 in
    let inside : n < length (texts all) = omega (arith, length-map all (λ (k : String Global). string_bytes k), p.0) in
    slice_get-get_or (texts all) n [] inside ∙ ap Some (get_or-map (λ (k : String Global). string_bytes k) all n key [] p.0 ∙ sym same)

none_past : (b : Bool) (i : ℕ) → cond b (Some i) None ≡ None → b ≡ false
none_past true i e = absurd (cc)
none_past false i e = refl

stands_nowhere : (keys : List (String Global)) (term : List ℕ) (n : ℕ) → position (is_text term) keys ≡ None → ¬ (slice_get (texts keys) n ≡ Some term)
stands_nowhere [] term n none = λ stands. absurd (cc)
stands_nowhere (key ∷ keys) term n none = λ stands.
    let all = key ∷ keys in
    let past : length all ≤ position_or_len (is_text term) all = ltb-false (position_or_len (is_text term) all) (length all) (none_past _ (position_or_len (is_text term) all) none) in
    let inside : n < length (texts all) = within (texts all) n term stands in
    let low : n < length all = omega (arith, length-map all (λ (k : String Global). string_bytes k)) in
    let here : string_bytes (get_or all n key) ≡ term = sym (get_or-map (λ (k : String Global). string_bytes k) all n key [] low) ∙ get_or_from_slice_get (texts all) n term [] stands in
    false≢true (sym (fails_before_first (is_text term) all n key (omega arith)) ∙ (bytes_eq-Decides term (string_bytes (get_or all n key))).1 (sym here))

pub one_place : (terms : List (List ℕ)) (n m : ℕ) (term : List ℕ) → AreDifferent terms → slice_get terms n ≡ Some term → slice_get terms m ≡ Some term → n ≡ m
one_place terms n m term different a b =
    let at_n = get_or_from_slice_get terms n term [] a in
    let at_m = get_or_from_slice_get terms m term [] b in
    elim (cases_order n m) [
      | inl same ↦ same
      | inr apart ↦ elim apart [
        | inl less ↦ absurd (different n m [] less (within terms m term b) (at_n ∙ sym at_m))
        | inr more ↦ absurd (different m n [] more (within terms n term a) (at_m ∙ sym at_n))
      ]
    ]

pub list_where : (keys : List (String Global)) (term : List ℕ) (found : Option ℕ) → AreDifferent (texts keys) → found ≡ position (is_text term) keys → (n : ℕ) → (found ≡ Some n) ↔ (slice_get (texts keys) n ≡ Some term)
list_where keys term None different is n = (
  λ e. absurd (cc),
  λ stands. absurd (stands_nowhere keys term n (sym is) stands),
)
list_where keys term (Some m) different is n =
    let there = stands_where_found keys term m (sym is) in (
      λ e. let same : m ≡ n = cc in subst (λ (k : ℕ). slice_get (texts keys) k ≡ Some term) same there,
      λ stands. ap Some (one_place (texts keys) m n term different there stands),
    )

-- ---- one more term

no_such_key : (keys : List (String Global)) (key : String Global) (terms : List (List ℕ)) (i : ℕ) → texts keys ≡ take i terms → AreDifferent terms → i < length terms → get_or terms i [] ≡ string_bytes key → ¬ (list_any (string_eq key) keys ≡ true)
no_such_key keys key terms i same different inside here = λ any.
    let at : Any (λ other. string_eq key other ≡ true) keys = Any-from_list_any (string_eq key) keys any in
    let k = at.0 in
    let equal : string_bytes key ≡ string_bytes at.1 = (bytes_eq-Decides (string_bytes key) (string_bytes at.1)).0 at.4 in
    let read : get_or (texts keys) k [] ≡ string_bytes at.1 = get_or-map (λ (o : String Global). string_bytes o) keys k at.1 [] at.2 ∙ ap (λ (o : String Global). string_bytes o) at.3 in
    let low : k < i = omega (arith, at.2, length-map keys (λ (o : String Global). string_bytes o), ap length same, length-take i terms) in
    let there : get_or terms k [] ≡ string_bytes at.1 = sym (get_or-take i terms k [] low) ∙ ap (λ (ts : List (List ℕ)). get_or ts k []) (sym same) ∙ read in
    different k i [] low inside (there ∙ sym equal ∙ sym here)

pub texts_more : (keys new : List (String Global)) (key : String Global) (terms : List (List ℕ)) (i : ℕ) → texts keys ≡ take i terms → AreDifferent terms → i < length terms → get_or terms i [] ≡ string_bytes key → new ≡ insert_key string_eq keys key → texts new ≡ take (i + 1) terms
texts_more keys new key terms i same different inside here inserted =
    let unseen : list_any (string_eq key) keys ≡ false = elim (cases_Bool (list_any (string_eq key) keys)) [
      | inl any ↦ absurd (no_such_key keys key terms i same different inside here any)
      | inr none ↦ none
    ] in
    let pushed : new ≡ keys ++ key ∷ [] = inserted ∙ ap (λ (b : Bool). cond b keys (keys ++ key ∷ [])) unseen in
    ap texts pushed ∙ map_push (λ (o : String Global). string_bytes o) keys key ∙ ap (λ (ts : List (List ℕ)). ts ++ string_bytes key ∷ []) same
    ∙ ap (λ (t : List ℕ). take i terms ++ t ∷ []) (sym here) ∙ sym (take_more terms i [] inside)

pub term_read : (lists : List TermList) (i : ℕ) (term : List ℕ) → option_map (λ (l : TermList). l.term) (slice_get lists i) ≡ Some term → get_or (terms_of lists) i [] ≡ term
term_read [] i term is = absurd (cc)
term_read (list ∷ lists) zero term is = cc
term_read (list ∷ lists) (suc i) term is = term_read lists i term is
