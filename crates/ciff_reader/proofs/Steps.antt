-- A message at the front of the window as the next step of reading the file.
use Rattle.std.proofs.Common.{◌≡◌, ℕ, ◌+◌, ◌-◌, ◌<◌, ◌≤◌, List, [], ◌∷◌, ◌++◌, length, take, drop, refl, sym, ap, subst, ◌∙◌, arith}
use Rattle.std.proofs.lemmas.List.{length-append, length-drop, drop-append-le, drop-drop}
use Rattle.rgb_base.specs.declared.parts.DocRecord.{DocRecord}
use Rattle.rgb_base.specs.Parts.{AreSized}
use Rattle.rgb_base.specs.Building.{Building, parts_of}
use Rattle.rgb_host.specs.Seen.{Seen}
use Rattle.ciff_format.specs.declared.cause.Cause.{Cause}
use Rattle.ciff_format.specs.declared.cause.Cause.TheVariants.{CutShort, BadLength, BadField, BadText, BadCount, BadGap, SameTerm, BadDoc, Trailing, TooMuch}
use Rattle.ciff_format.specs.Messages.{MessageAt}
use Rattle.ciff_format.specs.Accepted.{Front, with_list, with_record, parts_so_far, ExpectsList, ExpectsRecord, Good}
use Rattle.ciff_format.specs.Refused.{IsFaultAt, IsListFault, IsRecordFault, IsHeaderFault, Refused, at_header, at_list, at_record}
use Rattle.ciff_format.specs.Growing.{front_of, HeaderIsGood, ListIsAdded, RecordIsAdded}
use Rattle.ciff_reader.specs.declared.error.ReadError.{ReadError}
use Rattle.ciff_reader.specs.declared.message.Span.{Span}
use Rattle.ciff_reader.specs.Listing.{listing, AddsList}
use Rattle.ciff_format.specs.Messages.{Numbered}
use Rattle.ciff_reader.specs.Awaited.{IsNextRecord}
use Rattle.ciff_reader.specs.declared.heading.Heading.{Heading}
use Rattle.ciff_reader.specs.Steps.{AtGood, IsHeading, HasOneMoreList}
use Rattle.ciff_reader.specs.Window.{Held, Opens, IsAt, IsSpan, IsFrameFault, ExplainsWhere, without, message_in}
use Rattle.ciff_reader.proofs.Frames.{message_at, frame_fault, explains_where}

-- ---- the window

pub stands_at : (window mid : Held) (file slice : List ℕ) (span : Span) → mid.place ≡ window.place → IsAt mid file → IsSpan mid.place mid.bytes span → slice ≡ message_in mid.bytes span
    → MessageAt file window.place slice (window.place + span.from + span.size)
stands_at window mid file slice span place at is same =
    subst (λ (m : List ℕ). MessageAt file window.place m (window.place + span.from + span.size)) (sym same)
    (subst (λ (p : ℕ). MessageAt file p (message_in mid.bytes span) (p + span.from + span.size)) place (message_at mid file span at is))

-- the part of the bytes that a message takes
pub slice_is : (bytes held : List ℕ) (from size : ℕ) → bytes ≡ held → take (from + size - from) (drop from bytes) ≡ take size (drop from held)
slice_is bytes held from size same =
    ap (λ (n : ℕ). take n (drop from bytes)) (omega arith) ∙ ap (λ (bs : List ℕ). take size (drop from bs)) same

advanced_at : (window : Held) (file : List ℕ) (n : ℕ) → n ≤ length window.bytes → IsAt window file → IsAt (without n window) file
advanced_at window file n le at = record {
  rest = at.rest;
  within = omega (arith, le, at.within, ap length at.bytes, length-append window.bytes at.rest, length-drop window.place file);
  bytes = sym (drop-drop n window.place file) ∙ ap (drop n) at.bytes ∙ drop-append-le n window.bytes at.rest le;
}

-- ---- faults

-- what is wrong with what a message says
says_fault : (IsWrong : List ℕ → Cause → Type 0) (file : List ℕ) (place : ℕ) (cause : Cause) (message : List ℕ) (next : ℕ)
    → ¬ IsWrong message CutShort → ¬ IsWrong message BadLength
    → MessageAt file place message next → IsWrong message cause → IsFaultAt IsWrong file place cause
says_fault IsWrong file place CutShort message next cut long stands wrong = absurd (cut wrong)
says_fault IsWrong file place BadLength message next cut long stands wrong = absurd (long wrong)
says_fault IsWrong file place BadField message next cut long stands wrong = (message, next, stands, wrong)
says_fault IsWrong file place BadText message next cut long stands wrong = (message, next, stands, wrong)
says_fault IsWrong file place BadCount message next cut long stands wrong = (message, next, stands, wrong)
says_fault IsWrong file place BadGap message next cut long stands wrong = (message, next, stands, wrong)
says_fault IsWrong file place SameTerm message next cut long stands wrong = (message, next, stands, wrong)
says_fault IsWrong file place BadDoc message next cut long stands wrong = (message, next, stands, wrong)
says_fault IsWrong file place Trailing message next cut long stands wrong = (message, next, stands, wrong)
says_fault IsWrong file place TooMuch message next cut long stands wrong = (message, next, stands, wrong)

pub good_here : (host : Seen) (name : List ℕ) (window : Held) (front : Front) (file : List ℕ) (place : ℕ) → AtGood host name window front file → place ≡ window.place → Good file place front
good_here host name window front file place at same = subst (λ (p : ℕ). Good file p front) (sym same) at.good

-- ---- lists

pub list_frame : (host after : Seen) (name : List ℕ) (window : Held) (front : Front) (error : ReadError) → ExpectsList front
    → ExplainsWhere (Opens host name window) (λ file place cause. (place ≡ window.place) × IsFrameFault file place cause) error name host after
    → ExplainsWhere (AtGood host name window front) Refused error name host after
list_frame host after name window front error expects =
    explains_where (Opens host name window) (AtGood host name window front) (λ file place cause. (place ≡ window.place) × IsFrameFault file place cause) Refused error name host host after refl
    (λ file at. at.opens)
    (λ file place cause at wrong. at_list front (good_here host name window front file place at wrong.0) expects (frame_fault (IsListFault front) file place cause wrong.1))

pub list_refused : (host : Seen) (name : List ℕ) (window : Held) (front : Front) (file slice : List ℕ) (place next : ℕ) (cause : Cause) → ExpectsList front → place ≡ window.place
    → AtGood host name window front file → MessageAt file window.place slice next → IsListFault front slice cause → Refused file place cause
list_refused host name window front file slice place next cause expects same at stands fault =
    at_list front (good_here host name window front file place at same) expects
    (says_fault (IsListFault front) file place cause slice next (λ none. none.3) (λ none. none.3)
    (subst (λ (p : ℕ). MessageAt file p slice next) (sym same) stands) fault)

pub list_taken : ListIsAdded → (host : Seen) (name : List ℕ) (window mid after : Held) (lists : ℕ) (before built : Building) (file slice : List ℕ) (span : Span)
    → length before.lists < lists → before.records ≡ [] → AtGood host name window (listing lists before) file
    → mid.place ≡ window.place → IsAt mid file → IsSpan mid.place mid.bytes span → slice ≡ message_in mid.bytes span
    → AddsList slice before built → after ≡ without (span.from + span.size) mid
    → AtGood host name after (listing lists built) file
list_taken added host name window mid after lists before built file slice span expected none at place mid_at is same adds moved =
    let stands = stands_at window mid file slice span place mid_at is same in
    let next : Good file (window.place + span.from + span.size) (with_list (listing lists before) adds.list) =
    added file window.place (window.place + span.from + span.size) (listing lists before) adds.list at.good (record {
      expected = expected;
      stands = record {
        message = slice;
        fields = adds.fields;
        postings = adds.rows;
        stands = stands;
        read = adds.read;
        texts = adds.texts;
        gaps = adds.gaps;
        says = adds.says;
      };
      new_term = adds.new_term;
      sized = sized;
    }) in
    record {
      opens = record { is = at.opens.is; at = subst (λ (w : Held). IsAt w file) (sym moved) (advanced_at mid file (span.from + span.size) is.within mid_at) };
      good = subst (λ (p : ℕ). Good file p (listing lists built)) (sym (ap (λ (w : Held). w.place) moved ∙ omega (arith, place)))
          (subst (Good file (window.place + span.from + span.size)) (sym (ap (listing lists) adds.after_is)) next);
    }
  where
    parts_are : (ds : List DocRecord) → ds ≡ [] → AreSized (record { header = before.header; lists = before.lists ++ adds.list ∷ []; documents = ds })
        → AreSized (parts_so_far (with_list (listing lists before) adds.list))
    parts_are ds empty fits = subst (λ (xs : List DocRecord). AreSized (record { header = before.header; lists = before.lists ++ adds.list ∷ []; documents = xs })) empty fits

    sized : AreSized (parts_so_far (with_list (listing lists before) adds.list))
    sized = parts_are before.records none (subst (λ (b : Building). AreSized (parts_of b)) adds.after_is adds.sized)

-- ---- one list after another

pub lists_go_on : (before between after : Building) (n : ℕ) → length between.lists ≡ n → HasOneMoreList between after → length after.lists ≡ n + 1
lists_go_on before between after n len more =
    ap (λ (b : Building). length b.lists) more.is ∙ omega (arith, length-append between.lists (more.list ∷ []), len)

-- the host stays as it was, and so where the window is
pub still_good : (before after : Seen) (name : List ℕ) (window : Held) (front : Front) (file : List ℕ) → after ≡ before → AtGood before name window front file → AtGood after name window front file
still_good before after name window front file same at = subst (λ (h : Seen). AtGood h name window front file) (sym same) at

-- ---- records

pub record_frame : (host after : Seen) (name : List ℕ) (window : Held) (front : Front) (error : ReadError) → ExpectsRecord front
    → ExplainsWhere (Opens host name window) (λ file place cause. (place ≡ window.place) × IsFrameFault file place cause) error name host after
    → ExplainsWhere (AtGood host name window front) Refused error name host after
record_frame host after name window front error expects =
    explains_where (Opens host name window) (AtGood host name window front) (λ file place cause. (place ≡ window.place) × IsFrameFault file place cause) Refused error name host host after refl
    (λ file at. at.opens)
    (λ file place cause at wrong. at_record front (good_here host name window front file place at wrong.0) expects (frame_fault (IsRecordFault front) file place cause wrong.1))

pub record_refused : (host : Seen) (name : List ℕ) (window : Held) (front : Front) (file slice : List ℕ) (place next : ℕ) (cause : Cause) → ExpectsRecord front → place ≡ window.place
    → AtGood host name window front file → MessageAt file window.place slice next → IsRecordFault front slice cause → Refused file place cause
record_refused host name window front file slice place next cause expects same at stands fault =
    at_record front (good_here host name window front file place at same) expects
    (says_fault (IsRecordFault front) file place cause slice next (λ none. none.2) (λ none. none.2)
    (subst (λ (p : ℕ). MessageAt file p slice next) (sym same) stands) fault)

pub record_taken : RecordIsAdded → (host : Seen) (name : List ℕ) (window mid after : Held) (front : Front) (one : Numbered) (file slice : List ℕ) (span : Span)
    → ExpectsRecord front → AtGood host name window front file
    → mid.place ≡ window.place → IsAt mid file → IsSpan mid.place mid.bytes span → slice ≡ message_in mid.bytes span
    → IsNextRecord slice front one → after ≡ without (span.from + span.size) mid
    → AtGood host name after (with_record front one) file
record_taken added host name window mid after front one file slice span expects at place mid_at is same says moved =
    let stands = stands_at window mid file slice span place mid_at is same in
    let next : Good file (window.place + span.from + span.size) (with_record front one) =
    added file window.place (window.place + span.from + span.size) front one at.good (record {
      expected = expects;
      stands = record {
        message = slice;
        fields = says.fields;
        stands = stands;
        read = says.read;
        texts = says.texts;
        number_is = says.number_is;
        below = says.below;
        document_is = says.document_is;
      };
      new_number = says.new_number;
      sized = says.sized;
    }) in
    record {
      opens = record { is = at.opens.is; at = subst (λ (w : Held). IsAt w file) (sym moved) (advanced_at mid file (span.from + span.size) is.within mid_at) };
      good = subst (λ (p : ℕ). Good file p (with_record front one)) (sym (ap (λ (w : Held). w.place) moved ∙ omega (arith, place))) next;
    }

-- ---- the header

pub header_frame : (host after : Seen) (name : List ℕ) (window : Held) (error : ReadError) → window.place ≡ 0
    → ExplainsWhere (Opens host name window) (λ file place cause. (place ≡ window.place) × IsFrameFault file place cause) error name host after
    → ExplainsWhere (Opens host name window) Refused error name host after
header_frame host after name window error front =
    explains_where (Opens host name window) (Opens host name window) (λ file place cause. (place ≡ window.place) × IsFrameFault file place cause) Refused error name host host after refl
    (λ file opens. opens)
    (λ file place cause opens wrong. at_header (wrong.0 ∙ front) (frame_fault IsHeaderFault file place cause wrong.1))

pub header_refused : (window : Held) (file slice : List ℕ) (place next : ℕ) (cause : Cause) → window.place ≡ 0 → place ≡ window.place
    → MessageAt file window.place slice next → IsHeaderFault slice cause → Refused file place cause
header_refused window file slice place next cause front same stands fault =
    at_header (same ∙ front)
    (says_fault IsHeaderFault file place cause slice next (λ none. none.2) (λ none. none.2)
    (subst (λ (p : ℕ). MessageAt file p slice next) (sym same) stands) fault)

pub header_taken : HeaderIsGood → (host : Seen) (name : List ℕ) (window mid after : Held) (heading : Heading) (file slice : List ℕ) (span : Span)
    → window.place ≡ 0 → Opens host name window file
    → mid.place ≡ window.place → IsAt mid file → IsSpan mid.place mid.bytes span → slice ≡ message_in mid.bytes span
    → IsHeading slice heading → after ≡ without (span.from + span.size) mid
    → AtGood host name after (front_of heading.header heading.lists heading.documents) file
header_taken good host name window mid after heading file slice span front opens place mid_at is same says moved =
    let next = window.place + span.from + span.size in
    let stands = subst (λ (p : ℕ). MessageAt file p slice next) front (stands_at window mid file slice span place mid_at is same) in
    let begun : Good file next (front_of heading.header heading.lists heading.documents) =
    good file heading.header heading.lists heading.documents next (record {
      message = slice;
      fields = says.fields;
      stands = stands;
      read = says.read;
      texts = says.texts;
      header_is = says.header_is;
      lists_are = says.lists_are;
      documents_are = says.documents_are;
    }) says.sized in
    record {
      opens = record { is = opens.is; at = subst (λ (w : Held). IsAt w file) (sym moved) (advanced_at mid file (span.from + span.size) is.within mid_at) };
      good = subst (λ (p : ℕ). Good file p (front_of heading.header heading.lists heading.documents)) (sym (ap (λ (w : Held). w.place) moved ∙ omega (arith, place))) begun;
    }
