-- Small files that are read past their header: one that is accepted, and some that are refused.
use Rattle.std.proofs.Common.{◌≡◌, ◌≢◌, ℕ, zero, suc, ◌+◌, ◌*◌, ◌%◌, ◌^◌, ◌<◌, pos, List, [], ◌∷◌, get_or, refl, ap, arith, inr}
use Rattle.std.specs.Prelude.{◌≤ℤ◌, ◌<ℤ◌}
use Rattle.std.specs.Str.{IsUtf8}
use Rattle.std.specs.List.{AllPairs}
use Rattle.std.proofs.lemmas.Int.{ints}
use Rattle.std.proofs.lemmas.Str.{IsUtf8-nil, IsUtf8-from_ascii}
use Rattle.std.proofs.lemmas.List.Elements.{All-cons, All-nil, All-head, All-from_recursion}
use Rattle.ciff_wire.specs.Varint.{groups, varint, Spells}
use Rattle.ciff_wire.specs.Field.{Entry, as_number, as_bytes}
use Rattle.ciff_wire.specs.Laws.{VarintIsShortest}
use Rattle.rgb_base.specs.declared.parts.TermList.{TermList}
use Rattle.rgb_base.specs.Parts.{AreSized}
use Rattle.ciff_format.specs.declared.cause.Cause.TheVariants.{CutShort, BadGap, SameTerm, BadDoc}
use Rattle.ciff_format.specs.Fields.{header_table, list_table, posting_table, record_table, HasItsType, HasText, HasFields, AreTexts, held_at, each_at}
use Rattle.ciff_format.specs.Messages.{HeaderAt, header_of, PostingRows, HasListFields, gaps_in, sums_from, AreGaps, ListAt, Numbered, RecordAt, document_of}
use Rattle.ciff_format.specs.Accepted.{Front, parts_so_far, with_list, with_record, Good, HasRecord, Accepted}
use Rattle.ciff_format.specs.Growing.{front_of, NextList, NextRecord}
use Rattle.ciff_format.specs.Refused.{Refused, at_list, at_record}
use Rattle.ciff_format.specs.Rows.{one_posting, one_posting_reversed, second_gap, past_documents, same_term, same_document, absent_list}
use Rattle.ciff_format.proofs.SmallMessages.{message_here, number_piece, bytes_piece, whole}
use Rattle.ciff_format.proofs.Growth.{header_is_good, list_is_added, record_is_added}

abbrev numbered : ℕ → ℕ → Entry
numbered n v = record { number = n; held = as_number v }

abbrev lettered : ℕ → List ℕ → Entry
lettered n bytes = record { number = n; held = as_bytes bytes }

-- ---- texts

no_header_text : (n v : ℕ) → HasText header_table (numbered n v)
no_header_text n v = ((λ e. tt), ((λ e. tt), ((λ e. tt), ((λ e. tt), ((λ e. tt), ((λ e. tt), ((λ e. tt), ((λ e. ∣ IsUtf8-nil ∣₁), tt))))))))

no_list_text : (n v : ℕ) → HasText list_table (numbered n v)
no_list_text n v = ((λ e. ∣ IsUtf8-nil ∣₁), ((λ e. tt), ((λ e. tt), ((λ e. tt), tt))))

a_posting : (bytes : List ℕ) → HasText list_table (lettered 4 bytes)
a_posting bytes = ((λ e. absurd (omega (arith, e))), ((λ e. tt), ((λ e. tt), ((λ e. tt), tt))))

one_letter : (b : ℕ) → b < 128 → IsUtf8 (b ∷ [])
one_letter b small = IsUtf8-from_ascii (b ∷ []) ascii
  where
    ascii : (i : ℕ) → get_or (b ∷ []) i 0 < 128
    ascii zero = small
    ascii (suc i) = omega arith

a_term : (b : ℕ) → b < 128 → HasText list_table (lettered 1 (b ∷ []))
a_term b small = ((λ e. ∣ one_letter b small ∣₁), ((λ e. tt), ((λ e. tt), ((λ e. tt), tt))))

no_record_text : (n v : ℕ) → HasText record_table (numbered n v)
no_record_text n v = ((λ e. tt), ((λ e. ∣ IsUtf8-nil ∣₁), ((λ e. tt), tt)))

a_name : (b : ℕ) → b < 128 → HasText record_table (lettered 2 (b ∷ []))
a_name b small = ((λ e. tt), ((λ e. ∣ one_letter b small ∣₁), ((λ e. tt), tt)))

-- ---- headers

abbrev counts : ℕ → ℕ → List Entry
counts lists documents = numbered 1 1 ∷ numbered 2 lists ∷ numbered 3 documents ∷ []

abbrev counts_message : ℕ → ℕ → List ℕ
counts_message lists documents = 0x08 ∷ 0x01 ∷ 0x10 ∷ lists ∷ 0x18 ∷ documents ∷ []

counts_read : (lists documents : ℕ) → lists < 128 → documents < 128 → HasFields header_table (counts_message lists documents) (counts lists documents)
counts_read lists documents few small = record {
  spelt = whole (number_piece 8 1 1 refl (omega arith) (omega arith) (omega arith) ∷ number_piece 16 2 lists refl (omega arith) (omega arith) few ∷ number_piece 24 3 documents refl (omega arith) (omega arith) small ∷ []);
  types = All-from_recursion (HasItsType header_table) (counts lists documents) (omega arith);
}

counts_texts : (lists documents : ℕ) → AreTexts header_table (counts lists documents)
counts_texts lists documents =
    All-from_recursion (HasText header_table) (counts lists documents) (no_header_text 1 1, (no_header_text 2 lists, (no_header_text 3 documents, tt)))

abbrev counted : ℕ → ℕ → Front
counted lists documents = front_of (header_of (counts lists documents)) lists documents

few_parts : (lists documents : ℕ) → AreSized (parts_so_far (counted lists documents))
unfolding held_at
few_parts lists documents = record { postings = omega arith; text = omega arith }

pub past_header : Good past_documents 7 (counted 1 1)
unfolding held_at
past_header = header_is_good past_documents (header_of (counts 1 1)) 1 1 7 (record {
  message = counts_message 1 1;
  fields = counts 1 1;
  stands = message_here past_documents _ (counts_message 1 1) 0 6 refl refl (omega arith) refl (omega arith) (omega arith);
  read = counts_read 1 1 (omega arith) (omega arith);
  texts = counts_texts 1 1;
  header_is = refl;
  lists_are = refl;
  documents_are = refl;
}) (few_parts 1 1)

gap_header : Good second_gap 7 (counted 1 2)
unfolding held_at
gap_header = header_is_good second_gap (header_of (counts 1 2)) 1 2 7 (record {
  message = counts_message 1 2;
  fields = counts 1 2;
  stands = message_here second_gap _ (counts_message 1 2) 0 6 refl refl (omega arith) refl (omega arith) (omega arith);
  read = counts_read 1 2 (omega arith) (omega arith);
  texts = counts_texts 1 2;
  header_is = refl;
  lists_are = refl;
  documents_are = refl;
}) (few_parts 1 2)

absent_header : Good absent_list 7 (counted 1 1)
unfolding held_at
absent_header = header_is_good absent_list (header_of (counts 1 1)) 1 1 7 (record {
  message = counts_message 1 1;
  fields = counts 1 1;
  stands = message_here absent_list _ (counts_message 1 1) 0 6 refl refl (omega arith) refl (omega arith) (omega arith);
  read = counts_read 1 1 (omega arith) (omega arith);
  texts = counts_texts 1 1;
  header_is = refl;
  lists_are = refl;
  documents_are = refl;
}) (few_parts 1 1)

-- ---- gaps

-- the term `a` and two postings with nothing in them
abbrev gap_fields : List Entry
gap_fields = lettered 1 (0x61 ∷ []) ∷ lettered 4 [] ∷ lettered 4 [] ∷ []

no_fields : HasFields posting_table [] []
no_fields = record { spelt = refl; types = All-nil (HasItsType posting_table) }

gap_read : HasListFields (0x0a ∷ 0x01 ∷ 0x61 ∷ 0x22 ∷ 0x00 ∷ 0x22 ∷ 0x00 ∷ []) gap_fields ([] ∷ [] ∷ [])
unfolding each_at
gap_read = record {
  own = record {
    spelt = whole (bytes_piece 10 1 1 (0x61 ∷ []) refl (omega arith) (omega arith) refl (omega arith) ∷ bytes_piece 34 4 0 [] refl (omega arith) (omega arith) refl (omega arith) ∷ bytes_piece 34 4 0 [] refl (omega arith) (omega arith) refl (omega arith) ∷ []);
    types = All-from_recursion (HasItsType list_table) gap_fields (omega arith);
  };
  each = (no_fields, (no_fields, tt));
}

gap_texts : AreTexts list_table gap_fields
gap_texts = All-from_recursion (HasText list_table) gap_fields (a_term 0x61 (omega arith), (a_posting [], (a_posting [], tt)))

bad_second_gap : ¬ AreGaps 2 (gaps_in ([] ∷ [] ∷ []))
unfolding held_at
bad_second_gap good = let low : pos 1 ≤ℤ pos 0 = All-head (λ z. pos 1 ≤ℤ z) (pos 0) [] good.later in omega (arith, ints, low)

pub second_gap_is_bad : Refused second_gap 7 BadGap
second_gap_is_bad =
    let m : List ℕ = 0x0a ∷ 0x01 ∷ 0x61 ∷ 0x22 ∷ 0x00 ∷ 0x22 ∷ 0x00 ∷ [] in
    at_list (counted 1 2) gap_header (omega arith) (m, 15, message_here second_gap _ m 7 7 refl refl (omega arith) refl (omega arith) (omega arith), (gap_fields, [] ∷ [] ∷ [], gap_read, (gap_texts, bad_second_gap)))

abbrev past_fields : List Entry
past_fields = lettered 1 (0x61 ∷ []) ∷ lettered 4 (0x08 ∷ 0x01 ∷ []) ∷ []

abbrev past_rows : PostingRows
past_rows = (numbered 1 1 ∷ []) ∷ []

past_read : HasListFields (0x0a ∷ 0x01 ∷ 0x61 ∷ 0x22 ∷ 0x02 ∷ 0x08 ∷ 0x01 ∷ []) past_fields past_rows
unfolding each_at
past_read = record {
  own = record {
    spelt = whole (bytes_piece 10 1 1 (0x61 ∷ []) refl (omega arith) (omega arith) refl (omega arith) ∷ bytes_piece 34 4 2 (0x08 ∷ 0x01 ∷ []) refl (omega arith) (omega arith) refl (omega arith) ∷ []);
    types = All-from_recursion (HasItsType list_table) past_fields (omega arith);
  };
  each = (
    record {
      spelt = whole (number_piece 8 1 1 refl (omega arith) (omega arith) (omega arith) ∷ []);
      types = All-from_recursion (HasItsType posting_table) (numbered 1 1 ∷ []) (omega arith);
    },
    tt,
  );
}

past_texts : AreTexts list_table past_fields
past_texts = All-from_recursion (HasText list_table) past_fields (a_term 0x61 (omega arith), (a_posting (0x08 ∷ 0x01 ∷ []), tt))

past_the_last : ¬ AreGaps 1 (gaps_in past_rows)
unfolding held_at sums_from
past_the_last good = let high : pos 1 <ℤ pos 1 = All-head (λ z. z <ℤ pos 1) (pos 1) [] good.below in omega (arith, ints, high)

pub past_documents_is_bad : Refused past_documents 7 BadGap
past_documents_is_bad =
    let m : List ℕ = 0x0a ∷ 0x01 ∷ 0x61 ∷ 0x22 ∷ 0x02 ∷ 0x08 ∷ 0x01 ∷ [] in
    at_list (counted 1 1) past_header (omega arith) (m, 15, message_here past_documents _ m 7 7 refl refl (omega arith) refl (omega arith) (omega arith), (past_fields, past_rows, past_read, (past_texts, past_the_last)))

-- ---- a list that isn't there

absent_spells : VarintIsShortest → Spells (0x80 ∷ 0x80 ∷ 0x80 ∷ 0x80 ∷ 0x80 ∷ 0x20 ∷ []) (2 ^ 40)
unfolding varint groups
absent_spells shortest = let least = shortest (2 ^ 40) (omega arith) in record { spelling = least.0; sum = ap (λ v. v % 2 ^ 64) least.1 }

pub absent_list_is_cut : VarintIsShortest → Refused absent_list 7 CutShort
absent_list_is_cut shortest =
    at_list (counted 1 1) absent_header (omega arith) (inr (
      13 + 2 ^ 40,
      record {
        size = 2 ^ 40;
        used = 6;
        reads = record { within = omega arith; spells = absent_spells shortest };
        ends = omega arith;
      },
      omega arith,
      omega arith,
    ))

-- ---- twice

abbrev two_counts : ℕ → List Entry
two_counts n = numbered 1 1 ∷ numbered n 2 ∷ []

two_types : (n : ℕ) → n < 7 → HasItsType header_table (numbered n 2)
two_types n low = ((λ e. refl), ((λ e. refl), ((λ e. refl), ((λ e. refl), ((λ e. refl), ((λ e. refl), ((λ e. absurd (omega (arith, e, low))), ((λ e. absurd (omega (arith, e, low))), tt))))))))

two_read : (tag n : ℕ) → tag ≡ n * 8 → 0 < n → tag < 128 → n < 7 → HasFields header_table (0x08 ∷ 0x01 ∷ tag ∷ 0x02 ∷ []) (two_counts n)
two_read tag n same some small low = record {
  spelt = whole (number_piece 8 1 1 refl (omega arith) (omega arith) (omega arith) ∷ number_piece tag n 2 same some small (omega arith) ∷ []);
  types = All-from_recursion (HasItsType header_table) (two_counts n) (omega arith, (two_types n low, tt));
}

two_texts : (n : ℕ) → AreTexts header_table (two_counts n)
two_texts n = All-from_recursion (HasText header_table) (two_counts n) (no_header_text 1 1, (no_header_text n 2, tt))

abbrev two_lists : Front
two_lists = front_of (header_of (two_counts 2)) 2 0

lists_header : Good same_term 5 two_lists
unfolding held_at
lists_header = header_is_good same_term (header_of (two_counts 2)) 2 0 5 (record {
  message = 0x08 ∷ 0x01 ∷ 0x10 ∷ 0x02 ∷ [];
  fields = two_counts 2;
  stands = message_here same_term _ (0x08 ∷ 0x01 ∷ 0x10 ∷ 0x02 ∷ []) 0 4 refl refl (omega arith) refl (omega arith) (omega arith);
  read = two_read 16 2 refl (omega arith) (omega arith) (omega arith);
  texts = two_texts 2;
  header_is = refl;
  lists_are = refl;
  documents_are = refl;
}) (record { postings = omega arith; text = omega arith })

empty_list_read : HasListFields [] [] []
unfolding each_at
empty_list_read = record { own = record { spelt = refl; types = All-nil (HasItsType list_table) }; each = tt }

no_gaps : AreGaps 0 []
unfolding sums_from
no_gaps = record { first = All-nil (λ z. pos 0 ≤ℤ z); later = All-nil (λ z. pos 1 ≤ℤ z); below = All-nil (λ z. z <ℤ pos 0) }

abbrev empty_list : TermList
empty_list = record { term = []; df = pos 0; cf = pos 0; postings = [] }

empty_list_next : NextList same_term 5 two_lists empty_list 6
unfolding held_at sums_from
empty_list_next = record {
  expected = omega arith;
  stands = record {
    message = [];
    fields = [];
    postings = [];
    stands = message_here same_term _ [] 5 0 refl refl (omega arith) refl (omega arith) (omega arith);
    read = empty_list_read;
    texts = All-nil (HasText list_table);
    gaps = no_gaps;
    says = record { term = refl; df = refl; cf = refl; documents = refl; frequencies = refl };
  };
  new_term = λ found. omega (arith, found.1);
  sized = record { postings = omega arith; text = omega arith };
}

one_list_read : Good same_term 6 (with_list two_lists empty_list)
one_list_read = list_is_added same_term 5 6 two_lists empty_list lists_header empty_list_next

pub same_term_is_refused : Refused same_term 6 SameTerm
unfolding held_at
same_term_is_refused =
    at_list (with_list two_lists empty_list) one_list_read (omega arith)
    ([], 7, message_here same_term _ [] 6 0 refl refl (omega arith) refl (omega arith) (omega arith), ([], [], empty_list_read, (All-nil (HasText list_table), no_gaps, (0, omega arith, refl))))

abbrev two_records : Front
two_records = front_of (header_of (two_counts 3)) 0 2

records_header : Good same_document 5 two_records
unfolding held_at
records_header = header_is_good same_document (header_of (two_counts 3)) 0 2 5 (record {
  message = 0x08 ∷ 0x01 ∷ 0x18 ∷ 0x02 ∷ [];
  fields = two_counts 3;
  stands = message_here same_document _ (0x08 ∷ 0x01 ∷ 0x18 ∷ 0x02 ∷ []) 0 4 refl refl (omega arith) refl (omega arith) (omega arith);
  read = two_read 24 3 refl (omega arith) (omega arith) (omega arith);
  texts = two_texts 3;
  header_is = refl;
  lists_are = refl;
  documents_are = refl;
}) (record { postings = omega arith; text = omega arith })

empty_record_read : HasFields record_table [] []
empty_record_read = record { spelt = refl; types = All-nil (HasItsType record_table) }

abbrev empty_record : Numbered
empty_record = record { number = 0; document = document_of [] }

empty_record_next : NextRecord same_document 5 two_records empty_record 6
unfolding held_at
empty_record_next = record {
  expected = (refl, omega arith);
  stands = record {
    message = [];
    fields = [];
    stands = message_here same_document _ [] 5 0 refl refl (omega arith) refl (omega arith) (omega arith);
    read = empty_record_read;
    texts = All-nil (HasText record_table);
    number_is = refl;
    below = omega arith;
    document_is = refl;
  };
  new_number = λ found. omega (arith, found.1);
  sized = record { postings = omega arith; text = omega arith };
}

pub same_document_is_refused : Refused same_document 6 BadDoc
unfolding held_at
same_document_is_refused =
    at_record (with_record two_records empty_record) (record_is_added same_document 5 6 two_records empty_record records_header empty_record_next) (refl, omega arith)
    ([], 7, message_here same_document _ [] 6 0 refl refl (omega arith) refl (omega arith) (omega arith), ([], empty_record_read, (All-nil (HasText record_table), inr (inr (0, omega arith, refl)))))

-- ---- fields in another order

abbrev reversed_header : List Entry
reversed_header = numbered 3 1 ∷ numbered 2 1 ∷ numbered 1 1 ∷ numbered 15 5 ∷ []

reversed_header_at : HeaderAt one_posting_reversed one_posting.header 1 1 9
unfolding held_at
reversed_header_at =
    let m : List ℕ = 0x18 ∷ 0x01 ∷ 0x10 ∷ 0x01 ∷ 0x08 ∷ 0x01 ∷ 0x78 ∷ 0x05 ∷ [] in
    record {
      message = m;
      fields = reversed_header;
      stands = message_here one_posting_reversed _ m 0 8 refl refl (omega arith) refl (omega arith) (omega arith);
      read = record {
        spelt = whole (number_piece 24 3 1 refl (omega arith) (omega arith) (omega arith) ∷ number_piece 16 2 1 refl (omega arith) (omega arith) (omega arith) ∷ number_piece 8 1 1 refl (omega arith) (omega arith) (omega arith) ∷ number_piece 120 15 5 refl (omega arith) (omega arith) (omega arith) ∷ []);
        types = All-from_recursion (HasItsType header_table) reversed_header (omega arith);
      };
      texts = All-from_recursion (HasText header_table) reversed_header (no_header_text 3 1, (no_header_text 2 1, (no_header_text 1 1, (no_header_text 15 5, tt))));
      header_is = refl;
      lists_are = refl;
      documents_are = refl;
    }

abbrev reversed_posting : List ℕ
reversed_posting = 0x10 ∷ 0x02 ∷ 0x08 ∷ 0x00 ∷ []

abbrev reversed_list : List Entry
reversed_list = lettered 4 reversed_posting ∷ numbered 3 2 ∷ numbered 2 1 ∷ lettered 1 (0x61 ∷ []) ∷ []

abbrev reversed_rows : PostingRows
reversed_rows = (numbered 2 2 ∷ numbered 1 0 ∷ []) ∷ []

abbrev the_list : TermList
the_list = record { term = 0x61 ∷ []; df = pos 1; cf = pos 2; postings = record { doc = 0; tf = pos 2 } ∷ [] }

reversed_list_at : ListAt one_posting_reversed 1 9 the_list 23
unfolding held_at each_at sums_from
reversed_list_at =
    let m : List ℕ = 0x22 ∷ 0x04 ∷ 0x10 ∷ 0x02 ∷ 0x08 ∷ 0x00 ∷ 0x18 ∷ 0x02 ∷ 0x10 ∷ 0x01 ∷ 0x0a ∷ 0x01 ∷ 0x61 ∷ [] in
    record {
      message = m;
      fields = reversed_list;
      postings = reversed_rows;
      stands = message_here one_posting_reversed _ m 9 13 refl refl (omega arith) refl (omega arith) (omega arith);
      read = record {
        own = record {
          spelt = whole (bytes_piece 34 4 4 reversed_posting refl (omega arith) (omega arith) refl (omega arith) ∷ number_piece 24 3 2 refl (omega arith) (omega arith) (omega arith) ∷ number_piece 16 2 1 refl (omega arith) (omega arith) (omega arith) ∷ bytes_piece 10 1 1 (0x61 ∷ []) refl (omega arith) (omega arith) refl (omega arith) ∷ []);
          types = All-from_recursion (HasItsType list_table) reversed_list (omega arith);
        };
        each = (
          record {
            spelt = whole (number_piece 16 2 2 refl (omega arith) (omega arith) (omega arith) ∷ number_piece 8 1 0 refl (omega arith) (omega arith) (omega arith) ∷ []);
            types = All-from_recursion (HasItsType posting_table) (numbered 2 2 ∷ numbered 1 0 ∷ []) (omega arith);
          },
          tt,
        );
      };
      texts = All-from_recursion (HasText list_table) reversed_list (a_posting reversed_posting, (no_list_text 3 2, (no_list_text 2 1, (a_term 0x61 (omega arith), tt))));
      gaps = record {
        first = All-cons (λ z. pos 0 ≤ℤ z) (pos 0) [] (omega (arith, ints)) (All-nil (λ z. pos 0 ≤ℤ z));
        later = All-nil (λ z. pos 1 ≤ℤ z);
        below = All-cons (λ z. z <ℤ pos 1) (pos 0) [] (omega (arith, ints)) (All-nil (λ z. z <ℤ pos 1));
      };
      says = record { term = refl; df = refl; cf = refl; documents = refl; frequencies = refl };
    }

abbrev the_record : Numbered
the_record = record { number = 0; document = record { name = 0x78 ∷ []; length = pos 2 } }

abbrev reversed_record : List Entry
reversed_record = numbered 3 2 ∷ lettered 2 (0x78 ∷ []) ∷ numbered 1 0 ∷ []

reversed_record_at : RecordAt one_posting_reversed 1 23 the_record 31
unfolding held_at
reversed_record_at =
    let m : List ℕ = 0x18 ∷ 0x02 ∷ 0x12 ∷ 0x01 ∷ 0x78 ∷ 0x08 ∷ 0x00 ∷ [] in
    record {
      message = m;
      fields = reversed_record;
      stands = message_here one_posting_reversed _ m 23 7 refl refl (omega arith) refl (omega arith) (omega arith);
      read = record {
        spelt = whole (number_piece 24 3 2 refl (omega arith) (omega arith) (omega arith) ∷ bytes_piece 18 2 1 (0x78 ∷ []) refl (omega arith) (omega arith) refl (omega arith) ∷ number_piece 8 1 0 refl (omega arith) (omega arith) (omega arith) ∷ []);
        types = All-from_recursion (HasItsType record_table) reversed_record (omega arith);
      };
      texts = All-from_recursion (HasText record_table) reversed_record (no_record_text 3 2, (a_name 0x78 (omega arith), (no_record_text 1 0, tt)));
      number_is = refl;
      below = omega arith;
      document_is = refl;
    }

one_apart : {A : Type 0} (x : A) → AllPairs (λ a b. a ≢ b) (x ∷ [])
one_apart x i j d less within = absurd (omega (arith, less, within))

pub reversed_is_accepted : Accepted one_posting_reversed one_posting
reversed_is_accepted = record {
  front = record { header = one_posting.header; list_count = 1; document_count = 1; lists = the_list ∷ []; records = the_record ∷ [] };
  good = record {
    lists_begin = 9;
    records_begin = 23;
    header = reversed_header_at;
    lists = (23, reversed_list_at, refl);
    records = (31, reversed_record_at, refl);
    rules = record {
      lists = omega arith;
      records = omega arith;
      order = inr refl;
      terms = one_apart (0x61 ∷ []);
      numbers = one_apart 0;
      sized = record { postings = omega arith; text = omega arith };
    };
  };
  whole = (refl, refl);
  header = refl;
  lists = refl;
  count = refl;
  documents = All-cons (HasRecord one_posting) the_record [] refl (All-nil (HasRecord one_posting));
}
