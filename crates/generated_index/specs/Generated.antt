-- The generated index of so many documents: an index whose terms are drawn by a generator of
-- pseudo-random numbers that starts at a given number. Its documents fall into 32 topics, and three
-- quarters of their terms are of their topic.
use Rattle.std.specs.Prelude.{ℕ, zero, suc, pos, ◌+◌, ◌*◌, ◌/◌, ◌%◌, ◌^◌, Bool, List, [], ◌∷◌, ◌++◌, length, map, codes, filter, count_by, sum_by, nat_eq, nat_lt, if◌then◌else◌}
use Rattle.std.specs.List.{range_with_len}
use Rattle.rgb_base.specs.declared.parts.Posting.{Posting}
use Rattle.rgb_base.specs.declared.parts.TermList.{TermList}
use Rattle.rgb_base.specs.declared.parts.DocRecord.{DocRecord}
use Rattle.rgb_base.specs.declared.parts.Header.{Header}
use Rattle.rgb_base.specs.Parts.{IndexParts}

-- ---- draws

-- the state that follows a state: a linear congruential generator of 64 bits, with the multiplier
-- and the increment of D. E. Knuth's MMIX
unfoldable pub next_state : ℕ → ℕ
next_state state = (state * 6364136223846793005 + 1442695040888963407) % 2 ^ 64

-- the state after so many draws, from a number on
unfoldable pub state_after : ℕ → ℕ → ℕ
state_after number zero = number
state_after number (suc draws) = next_state (state_after number draws)

-- what a draw gives, from draw 0 on: the upper 31 bits of the state that it leaves
unfoldable pub draw : ℕ → ℕ → ℕ
draw number place = state_after number (place + 1) / 2 ^ 33

-- ---- documents

-- a document takes 21 draws: the first is for its topic, and the others are for its terms
unfoldable pub topic : ℕ → ℕ → ℕ
topic number document = draw number (21 * document) % 32

-- the term that a draw means in a document of this topic: one of 720 that all topics share, or one
-- of the 40 of the topic
unfoldable pub term_of : ℕ → ℕ → ℕ
term_of topic drawn =
    if nat_eq (drawn % 4) 3 then 1280 + (drawn / 4) % 720 else topic * 40 + (drawn / 4) % 40

-- the terms of a document, from term draw 0 to term draw 19
unfoldable pub term_drawn : ℕ → ℕ → ℕ → ℕ
term_drawn number document place =
    term_of (topic number document) (draw number (21 * document + (1 + place)))

-- how often a term was drawn for a document by its first so many term draws
unfoldable pub times_drawn : ℕ → ℕ → ℕ → ℕ → ℕ
times_drawn number term document draws =
    count_by (λ place. nat_eq (term_drawn number document place) term) (range_with_len 0 draws)

-- how often it was drawn by all twenty
unfoldable pub tf_of : ℕ → ℕ → ℕ → ℕ
tf_of number term document = times_drawn number term document 20

-- ---- the index

-- n in so many decimal digits, with leading zeros
unfoldable pub digits : ℕ → ℕ → List ℕ
digits zero n = []
digits (suc count) n = digits count (n / 10) ++ (48 + n % 10) ∷ []

-- a posting for each document that drew the term, with how often it did
unfoldable pub postings_of : ℕ → ℕ → ℕ → List Posting
postings_of number documents term =
    map (λ document. record { doc = document; tf = pos (tf_of number term document) })
    (filter (λ document. nat_lt 0 (tf_of number term document)) (range_with_len 0 documents))

-- how often the term was drawn for all documents
unfoldable pub total_drawn : ℕ → ℕ → ℕ → ℕ
total_drawn number documents term = sum_by (tf_of number term) (range_with_len 0 documents)

abbrev pub list_of : ℕ → ℕ → ℕ → TermList
list_of number documents term = record {
  term = codes "w" ++ digits 4 term;
  df = pos (length (postings_of number documents term));
  cf = pos (total_drawn number documents term);
  postings = postings_of number documents term;
}

-- some document drew the term
abbrev pub is_drawn : ℕ → ℕ → ℕ → Bool
is_drawn number documents term = nat_lt 0 (length (postings_of number documents term))

-- how many terms there are
unfoldable pub all_terms : ℕ
all_terms = 2000

-- the terms that were drawn, from 0 to 1999
unfoldable pub terms_drawn : ℕ → ℕ → List ℕ
terms_drawn number documents = filter (is_drawn number documents) (range_with_len 0 all_terms)

abbrev pub record_of : ℕ → DocRecord
record_of document = record { name = codes "D" ++ digits 7 document; length = pos 20 }

-- 4626322717216342016 has the bits of the average 20.0
abbrev pub header_of : ℕ → ℕ → Header
header_of number documents = record {
  version = pos 1;
  total_lists = pos (length (terms_drawn number documents));
  total_docs = pos documents;
  total_terms = pos (20 * documents);
  average_bits = 4626322717216342016;
  description = codes "made by rgb";
}

-- the index of so many documents, generated from a number
unfoldable pub generated : ℕ → ℕ → IndexParts
generated number documents = record {
  header = header_of number documents;
  lists = map (list_of number documents) (terms_drawn number documents);
  documents = map record_of (range_with_len 0 documents);
}
