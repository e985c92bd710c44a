-- Small indexes and their files byte by byte, and small files that are refused, by which the
-- definitions are checked. The bytes were written by a program in another language.
use Rattle.std.specs.Prelude.{ℕ, ◌^◌, ℤ, pos, negsuc, List, [], ◌∷◌, ◌++◌, replicate, codes}
use Rattle.rgb_base.specs.declared.parts.Posting.{Posting}
use Rattle.rgb_base.specs.declared.parts.TermList.{TermList}
use Rattle.rgb_base.specs.declared.parts.DocRecord.{DocRecord}
use Rattle.rgb_base.specs.declared.parts.Header.{Header}
use Rattle.rgb_base.specs.Parts.{IndexParts}

-- a header of this version, with nothing else in it
abbrev pub plain_header : ℕ → Header
plain_header version = record {
  version = pos version;
  total_lists = pos 0;
  total_docs = pos 0;
  total_terms = pos 0;
  average_bits = 0;
  description = [];
}

-- a record with nothing in it
abbrev pub bare : DocRecord
bare = record { name = []; length = pos 0 }

-- nothing at all, and its file: a header's message of no bytes
abbrev pub nothing : IndexParts
nothing = record { header = plain_header 0; lists = []; documents = [] }

abbrev pub nothing_bytes : List ℕ
nothing_bytes = 0 ∷ []

-- documents without lists
abbrev pub two_documents : IndexParts
two_documents = record { header = plain_header 0; lists = []; documents = bare ∷ bare ∷ [] }

abbrev pub two_documents_bytes : List ℕ
two_documents_bytes = 0x02 ∷ 0x18 ∷ 0x02 ∷ 0x00 ∷ 0x02 ∷ 0x08 ∷ 0x01 ∷ []

-- a list without postings and documents
abbrev pub one_list : IndexParts
one_list = record {
  header = plain_header 0;
  lists = record { term = []; df = pos 0; cf = pos 0; postings = [] } ∷ [];
  documents = [];
}

abbrev pub one_list_bytes : List ℕ
one_list_bytes = 0x02 ∷ 0x10 ∷ 0x01 ∷ 0x00 ∷ []

-- a list of `a` in document 0
abbrev pub list_of_a : ℤ → ℤ → ℤ → TermList
list_of_a df cf tf =
    record { term = codes "a"; df = df; cf = cf; postings = record { doc = 0; tf = tf } ∷ [] }

-- the term `a` once in the one document, twice, and the document `x` of two tokens
abbrev pub one_posting : IndexParts
one_posting = record {
  header = plain_header 1;
  lists = list_of_a (pos 1) (pos 2) (pos 2) ∷ [];
  documents = record { name = codes "x"; length = pos 2 } ∷ [];
}

abbrev pub one_posting_bytes : List ℕ
one_posting_bytes =
    0x06 ∷ 0x08 ∷ 0x01 ∷ 0x10 ∷ 0x01 ∷ 0x18 ∷ 0x01
    ∷ 0x0b ∷ 0x0a ∷ 0x01 ∷ 0x61 ∷ 0x10 ∷ 0x01 ∷ 0x18 ∷ 0x02 ∷ 0x22 ∷ 0x02 ∷ 0x10 ∷ 0x02
    ∷ 0x05 ∷ 0x12 ∷ 0x01 ∷ 0x78 ∷ 0x18 ∷ 0x02 ∷ []

-- a document frequency that isn't the number of postings, a frequency of -1, and a bare record
abbrev pub negative : IndexParts
negative = record {
  header = plain_header 1;
  lists = list_of_a (pos 5) (pos 0) (negsuc 0) ∷ [];
  documents = bare ∷ [];
}

-- -1 as a varint
abbrev pub minus_one : List ℕ
minus_one = 0xff ∷ 0xff ∷ 0xff ∷ 0xff ∷ 0xff ∷ 0xff ∷ 0xff ∷ 0xff ∷ 0xff ∷ 0x01 ∷ []

abbrev pub negative_bytes : List ℕ
negative_bytes =
    0x06 ∷ 0x08 ∷ 0x01 ∷ 0x10 ∷ 0x01 ∷ 0x18 ∷ 0x01
    ∷ 0x12 ∷ 0x0a ∷ 0x01 ∷ 0x61 ∷ 0x10 ∷ 0x05 ∷ 0x22 ∷ 0x0b ∷ 0x10 ∷ minus_one ++ 0x00 ∷ []

-- a posting of frequency 1
abbrev pub once : ℕ → Posting
once doc = record { doc = doc; tf = pos 1 }

-- a document of one token, named by a letter and a digit
abbrev pub named : List ℕ → DocRecord
named name = record { name = name; length = pos 1 }

-- six documents, of which 0, 1 and 3 hold `a` and the others `b`
abbrev pub three_of : List ℕ → ℕ → ℕ → ℕ → TermList
three_of term a b c =
    record { term = term; df = pos 3; cf = pos 3; postings = once a ∷ once b ∷ once c ∷ [] }

abbrev pub six : IndexParts
six = record {
  header = plain_header 1;
  lists = three_of (codes "a") 0 1 3 ∷ three_of (codes "b") 2 4 5 ∷ [];
  documents =
      named (codes "d0") ∷ named (codes "d1") ∷ named (codes "d2") ∷ named (codes "d3")
      ∷ named (codes "d4") ∷ named (codes "d5") ∷ [];
}

abbrev pub six_bytes : List ℕ
six_bytes =
    0x06 ∷ 0x08 ∷ 0x01 ∷ 0x10 ∷ 0x02 ∷ 0x18 ∷ 0x06
    ∷ 0x17 ∷ 0x0a ∷ 0x01 ∷ 0x61 ∷ 0x10 ∷ 0x03 ∷ 0x18 ∷ 0x03
    ∷ 0x22 ∷ 0x02 ∷ 0x10 ∷ 0x01 ∷ 0x22 ∷ 0x04 ∷ 0x08 ∷ 0x01 ∷ 0x10 ∷ 0x01
    ∷ 0x22 ∷ 0x04 ∷ 0x08 ∷ 0x02 ∷ 0x10 ∷ 0x01
    ∷ 0x19 ∷ 0x0a ∷ 0x01 ∷ 0x62 ∷ 0x10 ∷ 0x03 ∷ 0x18 ∷ 0x03
    ∷ 0x22 ∷ 0x04 ∷ 0x08 ∷ 0x02 ∷ 0x10 ∷ 0x01 ∷ 0x22 ∷ 0x04 ∷ 0x08 ∷ 0x02 ∷ 0x10 ∷ 0x01
    ∷ 0x22 ∷ 0x04 ∷ 0x08 ∷ 0x01 ∷ 0x10 ∷ 0x01
    ∷ 0x06 ∷ 0x12 ∷ 0x02 ∷ 0x64 ∷ 0x30 ∷ 0x18 ∷ 0x01
    ∷ 0x08 ∷ 0x08 ∷ 0x01 ∷ 0x12 ∷ 0x02 ∷ 0x64 ∷ 0x31 ∷ 0x18 ∷ 0x01
    ∷ 0x08 ∷ 0x08 ∷ 0x02 ∷ 0x12 ∷ 0x02 ∷ 0x64 ∷ 0x32 ∷ 0x18 ∷ 0x01
    ∷ 0x08 ∷ 0x08 ∷ 0x03 ∷ 0x12 ∷ 0x02 ∷ 0x64 ∷ 0x33 ∷ 0x18 ∷ 0x01
    ∷ 0x08 ∷ 0x08 ∷ 0x04 ∷ 0x12 ∷ 0x02 ∷ 0x64 ∷ 0x34 ∷ 0x18 ∷ 0x01
    ∷ 0x08 ∷ 0x08 ∷ 0x05 ∷ 0x12 ∷ 0x02 ∷ 0x64 ∷ 0x35 ∷ 0x18 ∷ 0x01 ∷ []

-- each field of the header with a value of its own, texts of 128 and 300 bytes, numbers of 128 and
-- more, one list and two documents
abbrev pub long : IndexParts
long = record {
  header = record {
    version = pos 7;
    total_lists = pos 300;
    total_docs = negsuc 1;
    total_terms = pos (2 ^ 40);
    average_bits = 0x4034000000000000;
    description = replicate 128 0x64;
  };
  lists =
      record {
        term = replicate 300 0x74;
        df = pos 129;
        cf = pos 16384;
        postings = record { doc = 1; tf = pos 200 } ∷ [];
      }
      ∷ [];
  documents =
      record { name = codes "x"; length = pos 128 }
      ∷ record { name = replicate 128 0x6e; length = negsuc 2 } ∷ [];
}

abbrev pub long_bytes : List ℕ
long_bytes =
    0xa7 ∷ 0x01 ∷ 0x08 ∷ 0x07 ∷ 0x10 ∷ 0x01 ∷ 0x18 ∷ 0x02 ∷ 0x20 ∷ 0xac ∷ 0x02
    ∷ 0x28 ∷ 0xfe ∷ 0xff ∷ 0xff ∷ 0xff ∷ 0xff ∷ 0xff ∷ 0xff ∷ 0xff ∷ 0xff ∷ 0x01
    ∷ 0x30 ∷ 0x80 ∷ 0x80 ∷ 0x80 ∷ 0x80 ∷ 0x80 ∷ 0x20
    ∷ 0x39 ∷ 0x00 ∷ 0x00 ∷ 0x00 ∷ 0x00 ∷ 0x00 ∷ 0x00 ∷ 0x34 ∷ 0x40
    ∷ 0x42 ∷ 0x80 ∷ 0x01 ∷ (replicate 128 0x64
    ++ 0xbd ∷ 0x02 ∷ 0x0a ∷ 0xac ∷ 0x02 ∷ (replicate 300 0x74
    ++ 0x10 ∷ 0x81 ∷ 0x01 ∷ 0x18 ∷ 0x80 ∷ 0x80 ∷ 0x01
    ∷ 0x22 ∷ 0x05 ∷ 0x08 ∷ 0x01 ∷ 0x10 ∷ 0xc8 ∷ 0x01
    ∷ 0x06 ∷ 0x12 ∷ 0x01 ∷ 0x78 ∷ 0x18 ∷ 0x80 ∷ 0x01
    ∷ 0x90 ∷ 0x01 ∷ 0x08 ∷ 0x01 ∷ 0x12 ∷ 0x80 ∷ 0x01 ∷ (replicate 128 0x6e
    ++ 0x18 ∷ 0xfd ∷ 0xff ∷ 0xff ∷ 0xff ∷ 0xff ∷ 0xff ∷ 0xff ∷ 0xff ∷ 0xff ∷ 0x01 ∷ [])))

-- a list with gaps of 128 and more, and its message
abbrev pub far : TermList
far = record {
  term = codes "far";
  df = pos 3;
  cf = pos 300;
  postings =
      record { doc = 128; tf = pos 1 } ∷ record { doc = 428; tf = pos 127 }
      ∷ record { doc = 429; tf = pos 128 } ∷ record { doc = 16813; tf = negsuc 0 } ∷ [];
}

abbrev pub far_message : List ℕ
far_message =
    0x0a ∷ 0x03 ∷ 0x66 ∷ 0x61 ∷ 0x72 ∷ 0x10 ∷ 0x03 ∷ 0x18 ∷ 0xac ∷ 0x02
    ∷ 0x22 ∷ 0x05 ∷ 0x08 ∷ 0x80 ∷ 0x01 ∷ 0x10 ∷ 0x01
    ∷ 0x22 ∷ 0x05 ∷ 0x08 ∷ 0xac ∷ 0x02 ∷ 0x10 ∷ 0x7f
    ∷ 0x22 ∷ 0x05 ∷ 0x08 ∷ 0x01 ∷ 0x10 ∷ 0x80 ∷ 0x01
    ∷ 0x22 ∷ 0x0f ∷ 0x08 ∷ 0x80 ∷ 0x80 ∷ 0x01 ∷ 0x10 ∷ minus_one

-- ---- refused at their first byte

-- a length of ten bytes that all go on, and one of 2^63 - 1
abbrev pub endless_length : List ℕ
endless_length = replicate 10 0xff

abbrev pub huge_length : List ℕ
huge_length = replicate 8 0xff ++ 0x7f ∷ []

-- headers: a group, a version that is bytes, a description that isn't UTF-8, -1 lists
abbrev pub group_field : List ℕ
group_field = 0x01 ∷ 0x0b ∷ []

abbrev pub version_as_bytes : List ℕ
version_as_bytes = 0x02 ∷ 0x0a ∷ 0x00 ∷ []

abbrev pub broken_text : List ℕ
broken_text = 0x03 ∷ 0x42 ∷ 0x01 ∷ 0xff ∷ []

abbrev pub negative_count : List ℕ
negative_count = 0x0b ∷ 0x10 ∷ minus_one

-- ---- accepted, though not canonical

-- the file of one posting with the fields of each message in another order, numbers written that
-- are 0, and an unknown field 15
abbrev pub one_posting_reversed : List ℕ
one_posting_reversed =
    0x08 ∷ 0x18 ∷ 0x01 ∷ 0x10 ∷ 0x01 ∷ 0x08 ∷ 0x01 ∷ 0x78 ∷ 0x05
    ∷ 0x0d ∷ 0x22 ∷ 0x04 ∷ 0x10 ∷ 0x02 ∷ 0x08 ∷ 0x00
    ∷ 0x18 ∷ 0x02 ∷ 0x10 ∷ 0x01 ∷ 0x0a ∷ 0x01 ∷ 0x61
    ∷ 0x07 ∷ 0x18 ∷ 0x02 ∷ 0x12 ∷ 0x01 ∷ 0x78 ∷ 0x08 ∷ 0x00 ∷ []

-- ---- refused behind good messages

-- two postings with gaps of 0, of which the second is bad
abbrev pub second_gap : List ℕ
second_gap =
    0x06 ∷ 0x08 ∷ 0x01 ∷ 0x10 ∷ 0x01 ∷ 0x18 ∷ 0x02
    ∷ 0x07 ∷ 0x0a ∷ 0x01 ∷ 0x61 ∷ 0x22 ∷ 0x00 ∷ 0x22 ∷ 0x00 ∷ []

-- document 1 of one
abbrev pub past_documents : List ℕ
past_documents =
    0x06 ∷ 0x08 ∷ 0x01 ∷ 0x10 ∷ 0x01 ∷ 0x18 ∷ 0x01
    ∷ 0x07 ∷ 0x0a ∷ 0x01 ∷ 0x61 ∷ 0x22 ∷ 0x02 ∷ 0x08 ∷ 0x01 ∷ []

-- two lists with the empty term
abbrev pub same_term : List ℕ
same_term = 0x04 ∷ 0x08 ∷ 0x01 ∷ 0x10 ∷ 0x02 ∷ 0x00 ∷ 0x00 ∷ []

-- two records of document 0
abbrev pub same_document : List ℕ
same_document = 0x04 ∷ 0x08 ∷ 0x01 ∷ 0x18 ∷ 0x02 ∷ 0x00 ∷ 0x00 ∷ []

-- a list of 2^40 bytes, of which none is there
abbrev pub absent_list : List ℕ
absent_list =
    0x06 ∷ 0x08 ∷ 0x01 ∷ 0x10 ∷ 0x01 ∷ 0x18 ∷ 0x01
    ∷ 0x80 ∷ 0x80 ∷ 0x80 ∷ 0x80 ∷ 0x80 ∷ 0x20 ∷ []
