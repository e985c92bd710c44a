use Rattle.std.proofs.Common.{◌≡◌, ◌⊎◌, ◌↔◌, inl, inr, ◌<◌, ℕ, ◌+◌, ◌∷◌, ◌++◌, List, [], length, subst, ap, sym, ◌∙◌, arith}
use Rattle.std.proofs.lemmas.Bool.{cases_lt}
use Rattle.bool_query.specs.Answers.{AreExactly}
use Rattle.bool_query.proofs.Exactly.{exactly_more, exactly_along}
use Rattle.bool_query.proofs.merge.all_documents.Goals as goal

one_more : (ids : List ℕ) (n : ℕ) → AreExactly (λ doc. doc < n) ids → AreExactly (λ doc. doc < n + 1) (ids ++ n ∷ [])
one_more ids n is =
    exactly_along (λ doc. (doc < n) ⊎ (doc ≡ n)) (λ doc. doc < n + 1) (ids ++ n ∷ [])
    (λ doc. (λ holds. elim holds [ inl less ↦ omega arith | inr last ↦ omega arith ], λ less. elim (cases_lt doc n) [ inl before ↦ inl before | inr more ↦ inr (omega arith) ]))
    (exactly_more (λ doc. doc < n) ids n is (λ d less. less))

pub loop-doc-preserved : goal.loop-doc-preserved
loop-doc-preserved c = subst (AreExactly (λ doc. doc < c.loop-doc.doc + 1)) (sym c.in_ok-push.ensures.items) (one_more c.loop-doc.ids.items c.loop-doc.doc c.loop-doc.invariant)

pub returns : goal.returns
returns c =
    let all : c.loop-doc.doc ≡ c.args.documents = omega arith in
    subst (λ (n : ℕ). AreExactly (λ doc. doc < n) c.loop-doc.ids.items) all c.loop-doc.invariant
