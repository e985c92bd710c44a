-- What is counted, beside what the messages say.
use Rattle.std.proofs.Common.{◌≡◌, ℕ, ◌+◌, ◌^◌, ◌<◌, List, [], ◌∷◌, ◌++◌, length, refl, sym, ap, subst, ◌∙◌, arith, sum_by}
use Rattle.std.specs.List.{Contains}
use Rattle.std.proofs.lemmas.List.{map_push, length-map}
use Rattle.std.proofs.lemmas.List.Sums.{sum_by-append, sum_by-cons}
use Rattle.rgb_base.specs.declared.parts.TermList.{TermList}
use Rattle.rgb_base.specs.declared.parts.DocRecord.{DocRecord}
use Rattle.rgb_base.specs.declared.parts.Header.{Header}
use Rattle.rgb_base.specs.Parts.{terms_of, text_size, AreSized}
use Rattle.rgb_base.specs.Building.{Building, IsBuilding, HasTerm, closed, with_list, parts_of}
use Rattle.rgb_host.specs.Seen.{Seen}
use Rattle.gap_report.specs.declared.tally.Tally.{Tally}
use Rattle.gap_report.specs.Tally.{IsTallyOf}
use Rattle.ciff_format.specs.Accepted.{Front}
use Rattle.ciff_format.specs.Refused.{Refused, IsListFault, at_list}
use Rattle.ciff_reader.specs.declared.error.ReadError.{ReadError}
use Rattle.ciff_reader.specs.declared.error.ReadError.TheVariants.{Fault, OutOfMemory, Malformed}
use Rattle.ciff_reader.specs.declared.error.Refusal.{Refusal}
use Rattle.ciff_reader.specs.declared.gaps.Gaps.{Gaps}
use Rattle.ciff_reader.specs.declared.list.ListFields.{ListFields}
use Rattle.ciff_reader.specs.Awaited.{with_lists}
use Rattle.ciff_reader.specs.Counting.{IsCounted, AtCounted, AddsCounted}
use Rattle.ciff_reader.specs.Listing.{listing, ReadsList, AddsList, IsRefusal, Closes, IsCloseFault}
use Rattle.ciff_reader.specs.Steps.{AtGood}
use Rattle.ciff_reader.specs.Window.{Held, Opens, ExplainsWhere, IsFrameFault}
use Rattle.ciff_reader.proofs.Closing.{is_added, new_term, is_closed_fault}
use Rattle.ciff_reader.proofs.Frames.{explains_where, frame_fault}
use Rattle.ciff_reader.proofs.Reading.{was_without}
use Rattle.ciff_reader.proofs.Readings.{same_text}
use Rattle.ciff_reader.proofs.Steps.{good_here}

-- ---- as many lists, of the same terms

pub as_many_lists : (lists others : List TermList) → terms_of lists ≡ terms_of others → length lists ≡ length others
as_many_lists lists others same = sym (length-map lists (λ (l : TermList). l.term)) ∙ ap length same ∙ length-map others (λ (l : TermList). l.term)

module _ (full built : Building) (tally : Tally) (counted : IsCounted full built tally) where
  pub same_header : built.header ≡ full.header
  same_header = ap (λ (b : Building). b.header) counted.same

  pub same_documents : built.documents ≡ full.documents
  same_documents = ap (λ (b : Building). b.documents) counted.same

  pub same_records : built.records ≡ full.records
  same_records = ap (λ (b : Building). b.records) counted.same

  pub same_postings : built.postings ≡ full.postings
  same_postings = ap (λ (b : Building). b.postings) counted.same

  pub same_size : text_size (parts_of full) ≡ text_size (parts_of built)
  same_size =
      omega (
        arith,
        same_text full.lists built.lists counted.terms,
        ap (λ (h : Header). length h.description) same_header,
        ap (λ (ds : List DocRecord). sum_by (λ (d : DocRecord). length d.name) ds) same_records,
      )

  pub same_front : (count : ℕ) → length built.lists ≡ count → listing count full ≡ listing (length full.lists) (with_lists full.lists built)
  same_front count all =
      ap (λ (n : ℕ). listing n full) (sym all ∙ sym (as_many_lists full.lists built.lists counted.terms))
      ∙ sym (ap (λ (b : Building). listing (length full.lists) (with_lists full.lists b)) counted.same)

-- ---- one list

-- with these postings in the open list
abbrev pub behind : Building → Building → Building
behind full pending = record full { postings = pending.postings }

module _ (message : List ℕ) (kept : ListFields) (fit : Gaps) (pending full built : Building) (tally : Tally) (counted : IsCounted full built tally)
    (reads : ReadsList message kept fit (behind full pending)) where
  pub counted_fault : (lists : ℕ) → built.records ≡ [] → (refusal : Refusal) → IsCloseFault kept fit built refusal → IsRefusal (IsListFault (listing lists full) message) refusal
  counted_fault lists none refusal fault =
      is_closed_fault message kept fit built (behind full pending) lists reads counted.terms (same_size full built tally counted) (sym (same_records full built tally counted) ∙ none) refusal fault

  pub counted_list : (after : Building) (more : Tally) → built.postings ≡ [] → Closes kept fit built after → tally.postings + length pending.postings < 2 ^ 32
      → ((lists : List TermList) (list : TermList) → IsTallyOf tally lists → list.postings ≡ pending.postings → IsTallyOf more (lists ++ list ∷ []))
      → AddsCounted message full after more
  counted_list after more none closes few grows =
      let term = kept.term.now in
      let mid = behind full pending in
      let list = closed mid term kept.df kept.cf in
      let next = with_list mid term kept.df kept.cf in
      let sound = subst IsBuilding closes.after_is closes.sound in
      let new : ¬ HasTerm mid term = λ there. new_term built term kept.df kept.cf sound (subst (λ (ts : List (List ℕ)). Contains ts term) counted.terms there) in
      let empty = closed built term kept.df kept.cf in
      let terms : terms_of next.lists ≡ terms_of after.lists =
      map_push (λ (l : TermList). l.term) full.lists list ∙ ap (λ (ts : List (List ℕ)). ts ++ term ∷ []) counted.terms
      ∙ sym (map_push (λ (l : TermList). l.term) built.lists empty) ∙ sym (ap (λ (b : Building). terms_of b.lists) closes.after_is) in
      let is : after ≡ with_list (with_lists built.lists full) term kept.df kept.cf = closes.after_is ∙ ap (λ (b : Building). with_list b term kept.df kept.cf) counted.same in
      let beside : IsCounted next after more = record {
        same = is ∙ ap (λ (b : Building). with_lists b.lists next) (sym is);
        terms = terms;
        sums = grows full.lists list counted.sums refl;
      } in
      let sized : AreSized (parts_of next) = record {
        postings = omega (arith, few, counted.sums.postings, sum_by-append (λ (l : TermList). length l.postings) full.lists (list ∷ []), sum_by-cons (λ (l : TermList). length l.postings) list []);
        text = omega (arith, same_size next after more beside, closes.sound.little_text);
      } in
      let adds = is_added message kept fit mid 0 reads closes.texts closes.good closes.few new sized in
      record {
        after = next;
        adds = subst (λ (b : Building). AddsList message b next) (was_without full mid (sym (same_postings full built tally counted) ∙ none) refl) adds;
        counted = beside;
      }

-- ---- where the window is

pub still_counted : (before after : Seen) (name : List ℕ) (window : Held) (lists : ℕ) (built : Building) (tally : Tally) (file : List ℕ) → after ≡ before
    → AtCounted before name window lists built tally file → AtCounted after name window lists built tally file
still_counted before after name window lists built tally file same at = subst (λ (h : Seen). AtCounted h name window lists built tally file) (sym same) at

pub expects_list : (host : Seen) (name : List ℕ) (window : Held) (lists : ℕ) (built : Building) (tally : Tally) (file : List ℕ) → length built.lists < lists
    → (at : AtCounted host name window lists built tally file) → length at.full.lists < lists
expects_list host name window lists built tally file expected at = omega (arith, expected, as_many_lists at.full.lists built.lists at.counted.terms)

pub counted_frame : (host after : Seen) (name : List ℕ) (window : Held) (lists : ℕ) (built : Building) (tally : Tally) (error : ReadError) → length built.lists < lists
    → ExplainsWhere (Opens host name window) (λ file place cause. (place ≡ window.place) × IsFrameFault file place cause) error name host after
    → ExplainsWhere (AtCounted host name window lists built tally) Refused error name host after
counted_frame host after name window lists built tally error expected =
    explains_where (Opens host name window) (AtCounted host name window lists built tally) (λ file place cause. (place ≡ window.place) × IsFrameFault file place cause) Refused error name host host after refl
    (λ file at. at.at.opens)
    (λ file place cause at wrong.
    at_list (listing lists at.full) (good_here host name window (listing lists at.full) file place at.at wrong.0) (expects_list host name window lists built tally file expected at)
    (frame_fault (IsListFault (listing lists at.full)) file place cause wrong.1))

-- behind the lists, all of which are counted
pub listed_counted : (host : Seen) (name : List ℕ) (window : Held) (count : ℕ) (built : Building) (tally : Tally) (file : List ℕ) → length built.lists ≡ count
    → (at : AtCounted host name window count built tally file) → AtGood host name window (listing (length at.full.lists) (with_lists at.full.lists built)) file
listed_counted host name window count built tally file all at =
    subst (λ (front : Front). AtGood host name window front file) (same_front at.full built tally at.counted count all) at.at

pub counted_where : (host after : Seen) (name : List ℕ) (window : Held) (count : ℕ) (built : Building) (tally : Tally) (error : ReadError) → length built.lists ≡ count
    → ((lists : List TermList) → terms_of lists ≡ terms_of built.lists → ExplainsWhere (AtGood host name window (listing (length lists) (with_lists lists built))) Refused error name host after)
    → ExplainsWhere (AtCounted host name window count built tally) Refused error name host after
counted_where host after name window count built tally Fault all where_good = where_good built.lists refl
counted_where host after name window count built tally OutOfMemory all where_good = where_good built.lists refl
counted_where host after name window count built tally (Malformed place cause) all where_good = (
  λ file at. (where_good at.full.lists at.counted.terms).0 file (listed_counted host name window count built tally file all at),
  (where_good built.lists refl).1,
)
