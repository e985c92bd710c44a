-- What closing a list makes of its message.
use Rattle.std.proofs.Common.{◌≡◌, ◌≢◌, inl, inr, ℕ, IsTrue, ℤ, List, [], ◌∷◌, ◌++◌, length, refl, sym, ap, subst, ◌∙◌, arith, sum_by}
use Rattle.std.specs.List.{AllPairs, Contains}
use Rattle.std.proofs.lemmas.List.{map_push, length-append, get_or_append_left, get_or_at}
use Rattle.std.proofs.lemmas.List.Sums.{sum_by-append}
use Rattle.rgb_base.specs.declared.parts.TermList.{TermList}
use Rattle.rgb_base.specs.declared.parts.Posting.{Posting}
use Rattle.rgb_base.specs.declared.parts.DocRecord.{DocRecord}
use Rattle.rgb_base.specs.Parts.{terms_of, text_size, AreDifferent, AreSized}
use Rattle.rgb_base.specs.Building.{Building, IsBuilding, HasTerm, IsFullOfText, closed, with_list, parts_of}
use Rattle.ciff_format.specs.declared.cause.Cause.TheVariants.{CutShort, BadLength, BadField, BadText, BadCount, BadGap, SameTerm, BadDoc, Trailing, TooMuch}
use Rattle.ciff_format.specs.Fields.{list_table, AreTexts}
use Rattle.ciff_format.specs.Messages.{HasListFields, gaps_in, AreGaps}
use Rattle.ciff_format.specs.Refused.{IsListFault}
use Rattle.ciff_reader.specs.declared.error.Refusal.{Refusal}
use Rattle.ciff_reader.specs.declared.error.Refusal.TheVariants as refusals
use Rattle.ciff_reader.specs.declared.gaps.Gaps.{Gaps}
use Rattle.ciff_reader.specs.declared.list.ListFields.{ListFields}
use Rattle.ciff_reader.specs.Listing.{listing, without_postings, ArePostings, ReadsList, AddsList, IsRefusal, IsCloseFault}
use Rattle.ciff_reader.proofs.Rows.{as_many, postings_of}

not_before : (xs : List (List ℕ)) (y : List ℕ) → AllPairs (λ a b. a ≢ b) (xs ++ y ∷ []) → ¬ Contains xs y
not_before xs y apart = λ found.
    apart found.0 (length xs) y found.1 (omega (arith, length-append xs (y ∷ [])))
    (get_or_append_left xs (y ∷ []) y found.0 found.1 ∙ found.2 ∙ sym (get_or_at xs y [] y (length xs) refl))

module _ (message : List ℕ) (kept : ListFields) (gaps : Gaps) (building : Building) (lists : ℕ) (reads : ReadsList message kept gaps building) where
  has_fields : HasListFields message reads.fields reads.rows
  has_fields = record { own = reads.read; each = reads.postings.each }

  pub is_bad_text : ¬ IsTrue kept.are_texts → IsListFault (listing lists building) message BadText
  is_bad_text isnt = (reads.fields, reads.rows, has_fields, λ texts. isnt (reads.says.texts.1 texts))

  module _ (texts : IsTrue kept.are_texts) where
    are_texts : AreTexts list_table reads.fields
    are_texts = reads.says.texts.0 texts

    pub is_bad_gap : ¬ IsTrue gaps.are_good → IsListFault (listing lists building) message BadGap
    is_bad_gap isnt = (reads.fields, reads.rows, has_fields, (are_texts, reads.postings.gaps.bad isnt))

    module _ (good : IsTrue gaps.are_good) where
      are_gaps : AreGaps building.documents (gaps_in reads.rows)
      are_gaps = (reads.postings.gaps.good good).good

      pub is_same_term : HasTerm building kept.term.now → IsListFault (listing lists building) message SameTerm
      is_same_term there =
          (reads.fields, reads.rows, has_fields, (are_texts, are_gaps, subst (Contains (terms_of building.lists)) (reads.says.term texts) there))

      too_much : (postings : List Posting) → ArePostings reads.rows postings → ¬ HasTerm building kept.term.now
          → ¬ AreSized (record { header = building.header; lists = building.lists ++ record { term = kept.term.now; df = kept.df; cf = kept.cf; postings = postings } ∷ []; documents = [] })
          → IsListFault (listing lists building) message TooMuch
      too_much postings are new large = (
        reads.fields,
        reads.rows,
        has_fields,
        (
          are_texts,
          are_gaps,
          λ there. new (subst (Contains (terms_of building.lists)) (sym (reads.says.term texts)) there),
          (
            record { term = kept.term.now; df = kept.df; cf = kept.cf; postings = postings },
            record { term = reads.says.term texts; df = reads.says.df; cf = reads.says.cf; documents = are.documents; frequencies = are.frequencies },
            large,
          ),
        ),
      )

      pub is_too_many : ¬ IsTrue gaps.are_few → ¬ HasTerm building kept.term.now → IsListFault (listing lists building) message TooMuch
      is_too_many isnt new =
          let postings = postings_of building.documents reads.rows are_gaps in
          let list : TermList = record { term = kept.term.now; df = kept.df; cf = kept.cf; postings = postings.0 } in
          let many = (reads.postings.gaps.good good).many isnt in
          let count = sum_by-append (λ (l : TermList). length l.postings) building.lists (list ∷ []) in
          too_much postings.0 postings.1 new (λ sized. omega (arith, many, sized.postings, count, as_many reads.rows postings.0 postings.1))

      pub is_too_long : IsTrue gaps.are_few → building.records ≡ [] → ¬ HasTerm building kept.term.now → IsFullOfText building kept.term.now
          → IsListFault (listing lists building) message TooMuch
      is_too_long few none new full =
          let list : TermList = record { term = kept.term.now; df = kept.df; cf = kept.cf; postings = building.postings } in
          let count = sum_by-append (λ (l : TermList). length l.term) building.lists (list ∷ []) in
          let names = ap (λ (ds : List DocRecord). sum_by (λ (d : DocRecord). length d.name) ds) none in
          too_much building.postings ((reads.postings.gaps.good good).few few) new (λ sized. omega (arith, full, sized.text, count, names))

      pub is_added : IsTrue gaps.are_few → ¬ HasTerm building kept.term.now → AreSized (parts_of (with_list building kept.term.now kept.df kept.cf))
          → AddsList message (without_postings building) (with_list building kept.term.now kept.df kept.cf)
      is_added few new sized =
          let postings = (reads.postings.gaps.good good).few few in
          record {
            fields = reads.fields;
            rows = reads.rows;
            list = closed building kept.term.now kept.df kept.cf;
            read = has_fields;
            texts = are_texts;
            gaps = are_gaps;
            says = record {
              term = reads.says.term texts;
              df = reads.says.df;
              cf = reads.says.cf;
              documents = postings.documents;
              frequencies = postings.frequencies;
            };
            new_term = new;
            after_is = refl;
            sized = sized;
          }

-- ---- beside what the builder keeps

-- numbers that are the same
pub as_said : (building after : Building) (term : List ℕ) (df cf df' cf' : ℤ) → df' ≡ df → cf' ≡ cf → after ≡ with_list building term df' cf' → after ≡ with_list building term df cf
as_said building after term df cf df' cf' same_df same_cf is = is ∙ ap (λ (z : ℤ). with_list building term z cf') same_df ∙ ap (λ (z : ℤ). with_list building term df z) same_cf

-- the term of a list that was closed was new
pub new_term : (building : Building) (term : List ℕ) (df cf : ℤ) → IsBuilding (with_list building term df cf) → ¬ HasTerm building term
new_term building term df cf sound =
    not_before (terms_of building.lists) term (subst AreDifferent (map_push (λ (l : TermList). l.term) building.lists (closed building term df cf)) sound.different)

-- the lists of what is read have the terms of those in the builder, and its texts are as long
pub is_closed_fault : (message : List ℕ) (kept : ListFields) (gaps : Gaps) (built building : Building) (lists : ℕ) → ReadsList message kept gaps building
    → terms_of building.lists ≡ terms_of built.lists → text_size (parts_of building) ≡ text_size (parts_of built) → building.records ≡ []
    → (refusal : Refusal) → IsCloseFault kept gaps built refusal → IsRefusal (IsListFault (listing lists building) message) refusal
is_closed_fault message kept gaps built building lists reads terms text none refusals.OutOfMemory fault = fault
is_closed_fault message kept gaps built building lists reads terms text none (refusals.Cause CutShort) fault = absurd fault
is_closed_fault message kept gaps built building lists reads terms text none (refusals.Cause BadLength) fault = absurd fault
is_closed_fault message kept gaps built building lists reads terms text none (refusals.Cause BadField) fault = absurd fault
is_closed_fault message kept gaps built building lists reads terms text none (refusals.Cause BadText) fault = is_bad_text message kept gaps building lists reads fault
is_closed_fault message kept gaps built building lists reads terms text none (refusals.Cause BadCount) fault = absurd fault
is_closed_fault message kept gaps built building lists reads terms text none (refusals.Cause BadGap) fault = is_bad_gap message kept gaps building lists reads fault.0 fault.1
is_closed_fault message kept gaps built building lists reads terms text none (refusals.Cause SameTerm) fault =
    is_same_term message kept gaps building lists reads fault.0 fault.1 (subst (λ (ts : List (List ℕ)). Contains ts kept.term.now) (sym terms) fault.2)
is_closed_fault message kept gaps built building lists reads terms text none (refusals.Cause BadDoc) fault = absurd fault
is_closed_fault message kept gaps built building lists reads terms text none (refusals.Cause Trailing) fault = absurd fault
is_closed_fault message kept gaps built building lists reads terms text none (refusals.Cause TooMuch) fault =
    let new : ¬ HasTerm building kept.term.now = λ there. fault.2 (subst (λ (ts : List (List ℕ)). Contains ts kept.term.now) terms there) in
    elim fault.3 [
      | inl many ↦ is_too_many message kept gaps building lists reads fault.0 fault.1 many new
      | inr long ↦ is_too_long message kept gaps building lists reads fault.0 fault.1 long.0 none new (omega (arith, long.1, text))
    ]
