-- Accepted files with bytes behind them, and accepted files that are cut.
use Rattle.std.proofs.Common.{◌≡◌, ℕ, zero, suc, ◌+◌, ◌-◌, ◌<◌, ◌≤◌, List, [], ◌∷◌, ◌++◌, length, take, drop, refl, sym, ap, subst, ◌∙◌, arith, inl, inr}
use Rattle.std.specs.List.{All}
use Rattle.std.proofs.lemmas.Bool.{cases_lt}
use Rattle.std.proofs.lemmas.List.{length-append, length-take, length-take-le, length-drop, take-take, take-append-le, drop-append-le, drop-take}
use Rattle.std.proofs.lemmas.List.Elements.{All-take}
use Rattle.ciff_wire.specs.Varint.{Spells, Reads, EndsEarly}
use Rattle.rgb_base.specs.declared.parts.TermList.{TermList}
use Rattle.rgb_base.specs.declared.parts.Header.{Header}
use Rattle.rgb_base.specs.Parts.{IndexParts}
use Rattle.ciff_format.specs.declared.cause.Cause.TheVariants.{CutShort}
use Rattle.ciff_format.specs.Messages.{MessageAt, InARow, HeaderAt, ListAt, Numbered, RecordAt}
use Rattle.ciff_format.specs.Accepted.{Front, parts_so_far, with_list, with_record, ExpectsNothing, Good, Accepted}
use Rattle.ciff_format.specs.Growing.{front_of}
use Rattle.ciff_format.specs.Refused.{IsCutShort, Refused, at_header, at_list, at_record, at_end}
use Rattle.ciff_format.specs.Laws.{NothingFollows, CutIsCutShort}
use Rattle.ciff_format.proofs.Once.{Wire}
use Rattle.ciff_format.proofs.Growth.{header_is_good, list_is_added, record_is_added}
use Rattle.ciff_format.proofs.Compare.{Next, a_list, a_record, Compared, same, goes_on, stops, compare, smaller}

-- ---- other bytes in which the same message stands

header_moves : (bytes other : List ℕ) (header : Header) (lists documents next : ℕ) (is : HeaderAt bytes header lists documents next) → MessageAt other 0 is.message next → HeaderAt other header lists documents next
header_moves bytes other header lists documents next is stands = record {
  message = is.message;
  fields = is.fields;
  stands = stands;
  read = is.read;
  texts = is.texts;
  header_is = is.header_is;
  lists_are = is.lists_are;
  documents_are = is.documents_are;
}

list_moves : (bytes other : List ℕ) (count place : ℕ) (list : TermList) (next : ℕ) (is : ListAt bytes count place list next) → MessageAt other place is.message next → ListAt other count place list next
list_moves bytes other count place list next is stands = record {
  message = is.message;
  fields = is.fields;
  postings = is.postings;
  stands = stands;
  read = is.read;
  texts = is.texts;
  gaps = is.gaps;
  says = is.says;
}

record_moves : (bytes other : List ℕ) (count place : ℕ) (one : Numbered) (next : ℕ) (is : RecordAt bytes count place one next) → MessageAt other place is.message next → RecordAt other count place one next
record_moves bytes other count place one next is stands = record {
  message = is.message;
  fields = is.fields;
  stands = stands;
  read = is.read;
  texts = is.texts;
  number_is = is.number_is;
  below = is.below;
  document_is = is.document_is;
}

-- ---- bytes behind

message_stays : (bytes more : List ℕ) (place : ℕ) (m : List ℕ) (next : ℕ) → MessageAt bytes place m next → MessageAt (bytes ++ more) place m next
message_stays bytes more place m next is =
    let rest = drop place bytes in
    let behind : length (drop (place + is.used) bytes) ≡ length bytes - (place + is.used) = length-drop (place + is.used) bytes in
    let moved : drop place (bytes ++ more) ≡ rest ++ more = drop-append-le place bytes more (omega (arith, is.within, is.ends)) in
    let front : take is.used (drop place (bytes ++ more)) ≡ take is.used rest = ap (take is.used) moved ∙ take-append-le is.used rest more is.reads.within in
    record {
      used = is.used;
      reads = record {
        within = omega (arith, ap length moved, length-append rest more, is.reads.within);
        spells = subst (λ (t : List ℕ). Spells t (length m)) (sym front) is.reads.spells;
      };
      stands =
          ap (take (length m)) (drop-append-le (place + is.used) bytes more (omega (arith, is.within, is.ends)))
          ∙ take-append-le (length m) (drop (place + is.used) bytes) more (omega (arith, behind, is.within, is.ends)) ∙ is.stands;
      ends = is.ends;
      within = omega (arith, is.within, length-append bytes more);
      near = is.near;
    }

-- what stands in a row stands so elsewhere
row_map : {A : Type 0} (Stands Others : ℕ → A → ℕ → Type 0) → ((place : ℕ) (x : A) (next : ℕ) → Stands place x next → Others place x next) → (place next : ℕ) (xs : List A) → InARow Stands place xs next → InARow Others place xs next
row_map Stands Others moves place next [] row = row
row_map Stands Others moves place next (x ∷ xs) row = (row.0, moves place x row.0 row.1, row_map Stands Others moves row.0 next xs row.2)

good_stays : (bytes more : List ℕ) (place : ℕ) (front : Front) → Good bytes place front → Good (bytes ++ more) place front
good_stays bytes more place front good =
    let all = bytes ++ more in
    let count = front.document_count in
    record {
      lists_begin = good.lists_begin;
      records_begin = good.records_begin;
      header = header_moves bytes all front.header front.list_count count good.lists_begin good.header (message_stays bytes more 0 good.header.message good.lists_begin good.header.stands);
      lists = row_map (ListAt bytes count) (ListAt all count) (λ at x next is. list_moves bytes all count at x next is (message_stays bytes more at is.message next is.stands)) good.lists_begin good.records_begin front.lists good.lists;
      records = row_map (RecordAt bytes count) (RecordAt all count) (λ at x next is. record_moves bytes all count at x next is (message_stays bytes more at is.message next is.stands)) good.records_begin place front.records good.records;
      rules = good.rules;
    }

pub nothing_follows : NothingFollows
nothing_follows bytes more b index is =
    at_end is.front (good_stays bytes (b ∷ more) (length bytes) is.front is.good) is.whole (omega (arith, length-append bytes (b ∷ more))) refl

-- ---- a cut

-- the front of what is behind a place
cut_behind : (bytes : List ℕ) (place k : ℕ) → place ≤ k → drop place (take k bytes) ≡ take (k - place) (drop place bytes)
cut_behind bytes place k le = let n : place + (k - place) ≡ k = omega (arith, le) in ap (λ j. drop place (take j bytes)) (sym n) ∙ drop-take place (k - place) bytes

cut_reads : (bytes : List ℕ) (place k size used : ℕ) → place + used ≤ k → Reads (drop place bytes) size used → Reads (drop place (take k bytes)) size used
cut_reads bytes place k size used le reads =
    let rest = drop place bytes in
    let moved = cut_behind bytes place k (omega (arith, le)) in
    let front : take used (drop place (take k bytes)) ≡ take used rest = ap (take used) moved ∙ take-take used (k - place) rest (omega (arith, le)) in
    record {
      within = omega (arith, ap length moved, length-take (k - place) rest, reads.within, le);
      spells = subst (λ (t : List ℕ). Spells t size) (sym front) reads.spells;
    }

message_kept : (bytes : List ℕ) (place k : ℕ) (m : List ℕ) (next : ℕ) → next ≤ k → MessageAt bytes place m next → MessageAt (take k bytes) place m next
message_kept bytes place k m next le is =
    let at = place + is.used in
    record {
      used = is.used;
      reads = cut_reads bytes place k (length m) is.used (omega (arith, le, is.ends)) is.reads;
      stands = ap (take (length m)) (cut_behind bytes at k (omega (arith, le, is.ends))) ∙ take-take (length m) (k - at) (drop at bytes) (omega (arith, le, is.ends)) ∙ is.stands;
      ends = is.ends;
      within = omega (arith, length-take k bytes, is.within, le);
      near = is.near;
    }

-- the bytes end in the length or in the message
message_cut : (bytes : List ℕ) (place k : ℕ) (m : List ℕ) (next : ℕ) → place ≤ k → k < next → MessageAt bytes place m next → IsCutShort (take k bytes) place
message_cut bytes place k m next from less is =
    elim (cases_lt k (place + is.used)) [
      | inl early ↦ inl (ends_early early)
      | inr late ↦
          inr (next, record { size = length m; used = is.used; reads = cut_reads bytes place k (length m) is.used late is.reads; ends = is.ends }, is.near, omega (arith, length-take k bytes, less))
    ]
  where
    rest : List ℕ
    rest = drop place bytes

    text : List ℕ
    text = take is.used rest

    text_length : length text ≡ is.used
    text_length = length-take-le is.used rest is.reads.within

    ends_early : k < place + is.used → EndsEarly (drop place (take k bytes))
    ends_early early =
        let spelling = is.reads.spells.spelling in
        let moved = cut_behind bytes place k from in
        let front : take (k - place) (take (length text - 1) text) ≡ take (k - place) rest =
        take-take (k - place) (length text - 1) text (omega (arith, early, text_length)) ∙ take-take (k - place) is.used rest (omega (arith, early)) in
        record {
          few = omega (arith, ap length moved, length-take (k - place) rest, early, text_length, spelling.most);
          unended = subst (All (λ b. 128 ≤ b)) (front ∙ sym moved) (All-take (λ b. 128 ≤ b) (k - place) (take (length text - 1) text) spelling.goes_on);
        }

abbrev IsCut : List ℕ → ℕ → Type 0
IsCut bytes k = (place : ℕ) × (place ≤ k) × Refused (take k bytes) place CutShort

-- good messages up to a place before the cut, in the whole file and in its front
record Both (bytes : List ℕ) (k place : ℕ) (front : Front) : Type 0 where
  whole : Good bytes place front
  kept : Good (take k bytes) place front
  before : place ≤ k

-- the next message is cut, or stands in the front too
data Goes (bytes : List ℕ) (k place : ℕ) : Type 0 where
  cut_here : Refused (take k bytes) place CutShort → Goes bytes k place
  further : (front : Front) (next : ℕ) → Both bytes k next front → place < next → Goes bytes k place

goes : (bytes : List ℕ) (k place : ℕ) (front : Front) → Both bytes k place front → Next bytes place front → Goes bytes k place
goes bytes k place front both (a_list list next is) =
    let at = is.stands in
    elim (cases_lt k next) [
      | inl less ↦ cut_here (at_list front both.kept is.expected (message_cut bytes place k at.message next both.before less at.stands))
      | inr kept ↦ further (with_list front list) next (record {
        whole = list_is_added bytes place next front list both.whole is;
        kept = list_is_added (take k bytes) place next front list both.kept (record {
          expected = is.expected;
          stands = list_moves bytes (take k bytes) front.document_count place list next at (message_kept bytes place k at.message next kept at.stands);
          new_term = is.new_term;
          sized = is.sized;
        });
        before = kept;
      }) (omega (arith, at.stands.ends, at.stands.reads.spells.spelling.some, length-take at.stands.used (drop place bytes)))
    ]
goes bytes k place front both (a_record one next is) =
    let at = is.stands in
    elim (cases_lt k next) [
      | inl less ↦ cut_here (at_record front both.kept is.expected (message_cut bytes place k at.message next both.before less at.stands))
      | inr kept ↦ further (with_record front one) next (record {
        whole = record_is_added bytes place next front one both.whole is;
        kept = record_is_added (take k bytes) place next front one both.kept (record {
          expected = is.expected;
          stands = record_moves bytes (take k bytes) front.document_count place one next at (message_kept bytes place k at.message next kept at.stands);
          new_number = is.new_number;
          sized = is.sized;
        });
        before = kept;
      }) (omega (arith, at.stands.ends, at.stands.reads.spells.spelling.some, length-take at.stands.used (drop place bytes)))
    ]

-- behind a place before the end something is next
is_next : (bytes : List ℕ) (k place : ℕ) (f g : Front) → place ≤ k → k < length bytes → ExpectsNothing g → Compared bytes place (length bytes) f g → Next bytes place f
is_next bytes k place f g before less whole (same e h) = absurd (omega (arith, e, before, less))
is_next bytes k place f g before less whole (goes_on next) = next
is_next bytes k place f g before less whole (stops (a_list list next is)) = absurd (omega (arith, is.expected, whole.0))
is_next bytes k place f g before less whole (stops (a_record one next is)) = absurd (omega (arith, is.expected.1, whole.1))

cut_on : Wire → (bytes : List ℕ) (k : ℕ) (index : IndexParts) → Accepted bytes index → k < length bytes → (room place : ℕ) (front : Front) → k ≤ place + room → Both bytes k place front → IsCut bytes k
cut_on wire bytes k index is less zero place front few both =
    elim (goes bytes k place front both (is_next bytes k place front is.front both.before less is.whole (compare wire bytes place (length bytes) front is.front both.whole is.good))) [
      | cut_here refused ↦ (place, both.before, refused)
      | further after next more past ↦ absurd (omega (arith, few, past, more.before))
    ]
cut_on wire bytes k index is less (suc room) place front few both =
    elim (goes bytes k place front both (is_next bytes k place front is.front both.before less is.whole (compare wire bytes place (length bytes) front is.front both.whole is.good))) [
      | cut_here refused ↦ (place, both.before, refused)
      | further after next more past ↦ cut_on wire bytes k index is less room next after (omega (arith, few, past)) more
    ]

pub cut_is_cut_short : Wire → CutIsCutShort
cut_is_cut_short wire bytes k index is less =
    let good = is.good in
    let header = good.header in
    let front = front_of is.front.header is.front.list_count is.front.document_count in
    let sized = smaller (parts_so_far front) (parts_so_far is.front) refl (omega arith) (omega arith) (omega arith) good.rules.sized in
    elim (cases_lt k good.lists_begin) [
      | inl first ↦ (0, omega arith, at_header refl (message_cut bytes 0 k header.message good.lists_begin (omega arith) first header.stands))
      | inr behind ↦ cut_on wire bytes k index is less k good.lists_begin front (omega arith) (record {
        whole = header_is_good bytes is.front.header is.front.list_count is.front.document_count good.lists_begin header sized;
        kept = header_is_good (take k bytes) is.front.header is.front.list_count is.front.document_count good.lists_begin
            (header_moves bytes (take k bytes) is.front.header is.front.list_count is.front.document_count good.lists_begin header (message_kept bytes 0 k header.message good.lists_begin behind header.stands)) sized;
        before = behind;
      })
    ]
