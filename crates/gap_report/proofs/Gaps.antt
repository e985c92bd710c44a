-- The gaps of the postings from one on, as a loop comes past them.
use Rattle.std.proofs.Common.{◌≡◌, ℕ, suc, ◌+◌, ◌-◌, ◌<◌, ◌≤◌, List, [], ◌∷◌, length, drop, get_or, refl, ap, arith, add-one, drop-cons}
use Rattle.std.specs.Prelude.{pos}
use Rattle.std.proofs.lemmas.List.{drop_all}
use Rattle.rgb_base.specs.declared.parts.Posting.{Posting}
use Rattle.rgb_base.specs.Gaps.{gaps_from}
use Rattle.gap_report.specs.Codes.{docs_of, with_first_more, coded_gaps}

-- the gaps of postings behind a document that is counted from 1 as `before`
pub gaps_after : ℕ → List Posting → List ℕ
gaps_after before [] = []
gaps_after before (posting ∷ postings) = (posting.doc + 1 - before) ∷ gaps_after (posting.doc + 1) postings

abbrev pub no_posting : Posting
no_posting = record { doc = 0; tf = pos 0 }

gaps_from-after : (doc : ℕ) (postings : List Posting) → gaps_from doc (docs_of postings) ≡ gaps_after (doc + 1) postings
unfolding gaps_after gaps_from
gaps_from-after doc [] = refl
gaps_from-after doc (posting ∷ postings) =
    let same : posting.doc - doc ≡ posting.doc + 1 - (doc + 1) = omega arith in
    rw (same, gaps_from-after posting.doc postings) refl

pub gaps_of_docs : (postings : List Posting) → coded_gaps postings ≡ gaps_after 0 postings
unfolding gaps_after gaps_from with_first_more
gaps_of_docs [] = refl
gaps_of_docs (posting ∷ postings) =
    let first : posting.doc - 0 + 1 ≡ posting.doc + 1 - 0 = omega arith in
    rw (first, gaps_from-after posting.doc postings) refl

pub gaps_after-drop : (before i : ℕ) (postings : List Posting) → i < length postings → gaps_after before (drop i postings) ≡ ((get_or postings i no_posting).doc + 1 - before) ∷ gaps_after ((get_or postings i no_posting).doc + 1) (drop (i + 1) postings)
unfolding gaps_after
gaps_after-drop before i postings h = rw (add-one i, drop-cons postings i no_posting) refl

pub length-gaps_after : (before : ℕ) (postings : List Posting) → length (gaps_after before postings) ≡ length postings
unfolding gaps_after
length-gaps_after before [] = refl
length-gaps_after before (posting ∷ postings) = ap suc (length-gaps_after (posting.doc + 1) postings)

pub gaps_after-end : (before i : ℕ) (postings : List Posting) → length postings ≤ i → gaps_after before (drop i postings) ≡ []
unfolding gaps_after
gaps_after-end before i postings h = ap (gaps_after before) (drop_all i postings h)
