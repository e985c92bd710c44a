-- What is left of a scope: the documents that a term has, and those that it doesn't have.
use Rattle.std.proofs.Common.{◌≡◌, ◌↔◌, ℕ, ◌<◌, ◌≤◌, Bool, true, false, IsTrue, List, length, Option, Some, None, Result, Ok, Err, IfOk, Vec, Global, All, Contains, slice_get, refl, sym, ap, subst, ◌∙◌, arith}
use Rattle.std.proofs.lemmas.Bool.{false≢true}
use Rattle.std.proofs.lemmas.List.Elements.{All-contains}
use Rattle.postings_rewrite.specs.Stores.{StoredLists, AreDocuments, list_at}
use Rattle.bool_query.specs.Answers.{AreExactly, HasTerm}
use Rattle.bool_query.specs.Scopes.{InScope, AreSifted}
use Rattle.bool_query.proofs.Exactly.{exactly_along}

pub if_ok : {A E : Type 0} (r : Result A E) (P Q : A → Type 0) → ((x : A) → P x → Q x) → IfOk r P → IfOk r Q
if_ok (Ok x) P Q to holds = to x holds
if_ok (Err e) P Q to holds = holds

pub kept_both : (P Q : ℕ → Type 0) (ids out result : List ℕ) → ((doc : ℕ) → Contains ids doc ↔ P doc) → ((doc : ℕ) → Contains out doc ↔ Q doc) → AreSifted ids out true result → AreExactly (λ doc. P doc × Q doc) result
kept_both P Q ids out result p q sifted =
    exactly_along (λ doc. Contains ids doc × (Contains out doc ↔ IsTrue true)) (λ doc. P doc × Q doc) result
    (λ doc. (
      λ h. ((p doc).0 h.0, (q doc).0 (h.1.1 refl)),
      λ h. ((p doc).1 h.0, (λ stands. refl, λ is. (q doc).1 h.1)),
    )) sifted

pub left_out : (P Q : ℕ → Type 0) (ids out result : List ℕ) → ((doc : ℕ) → Contains ids doc ↔ P doc) → ((doc : ℕ) → Contains out doc ↔ Q doc) → AreSifted ids out false result → AreExactly (λ doc. P doc × (¬ Q doc)) result
left_out P Q ids out result p q sifted =
    exactly_along (λ doc. Contains ids doc × (Contains out doc ↔ IsTrue false)) (λ doc. P doc × (¬ Q doc)) result
    (λ doc. (
      λ h. ((p doc).0 h.0, λ is. false≢true (h.1.0 ((q doc).1 is))),
      λ h. ((p doc).1 h.0, (λ stands. absurd (h.1 ((q doc).0 stands)), λ is. absurd (false≢true is))),
    )) sifted

pub in_these : (documents : ℕ) (scope : Option (Vec ℕ Global)) (ids : Vec ℕ Global) → scope ≡ Some ids → (doc : ℕ) → Contains ids.items doc ↔ InScope documents scope doc
in_these documents scope ids is doc = subst (λ (s : Option (Vec ℕ Global)). Contains ids.items doc ↔ InScope documents s doc) (sym is) (λ h. h, λ h. h)

-- where the dictionary tells the list of the term
abbrev pub IsTold : List (List ℕ) → List ℕ → Option ℕ → Type 0
IsTold terms term found = (n : ℕ) → (found ≡ Some n) ↔ (slice_get terms n ≡ Some term)

pub has_listed : (terms : List (List ℕ)) (store : StoredLists) (term : List ℕ) (n : ℕ) (found : Option ℕ) → found ≡ Some n → IsTold terms term found → (doc : ℕ) → Contains (list_at store n) doc ↔ HasTerm terms store term doc
has_listed terms store term n found is told doc = (
  λ stands. record { list = n; named = (told n).0 is; listed = stands },
  λ has. let e : Some n ≡ Some has.list = sym is ∙ (told has.list).1 has.named in
      let same : has.list ≡ n = cc in
      subst (λ (m : ℕ). Contains (list_at store m) doc) same has.listed,
)

-- the whole list, where the scope is all documents
pub whole_list : (terms : List (List ℕ)) (store : StoredLists) (term : List ℕ) (n : ℕ) (found : Option ℕ) (scope : Option (Vec ℕ Global)) (ids : List ℕ) → found ≡ Some n → IsTold terms term found → scope ≡ None → AreDocuments store.documents (list_at store n) → ids ≡ list_at store n
    → AreExactly (λ doc. InScope store.documents scope doc × HasTerm terms store term doc) ids
whole_list terms store term n found scope ids is told none sound same =
    subst (λ (l : List ℕ). AreExactly (λ doc. InScope store.documents scope doc × HasTerm terms store term doc) l) (sym same) (record {
      rising = sound.rising;
      each = λ doc. (
        λ stands. (
          subst (λ (s : Option (Vec ℕ Global)). InScope store.documents s doc) (sym none) (All-contains (λ d. d < store.documents) (list_at store n) doc sound.below stands),
          (has_listed terms store term n found is told doc).0 stands,
        ),
        λ h. (has_listed terms store term n found is told doc).1 h.1,
      );
    })
