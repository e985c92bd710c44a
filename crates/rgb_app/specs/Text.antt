-- What is printed and warned, byte by byte. Each line ends with a line feed.
use Rattle.std.specs.Prelude.{ℕ, List, [], ◌∷◌, ◌++◌, length, codes, decimal, flat_map, slice_get, unwrap_or, option_map, zip}
use Rattle.std.specs.Fmt.{signed_decimal}
use Rattle.rgb_base.specs.Parts.{IndexParts, posting_count}
use Rattle.cell_claims.specs.declared.trace.KeptRound.{KeptRound}
use Rattle.ciff_format.specs.declared.cause.Cause.{Cause}
use Rattle.ciff_format.specs.declared.cause.Cause.TheVariants.{CutShort, BadLength, BadField, BadText, BadCount, BadGap, SameTerm, BadDoc, Trailing, TooMuch}
use Rattle.bool_query.specs.declared.error.QueryCause.TheVariants.{Ended, Unexpected, OpenQuote, OpenParen, TooDeep}
use Rattle.query_file.specs.declared.error.LineCause.{LineCause}
use Rattle.query_file.specs.declared.error.LineCause.TheVariants.{NotText, NoQuery}
use Rattle.gap_report.specs.declared.costs.Costs.{Costs}
use Rattle.gap_report.specs.Costs.{costs_of}
use Rattle.rgb_app.specs.declared.answers.Answer.{Answer}
use Rattle.rgb_app.specs.declared.live_answers.LiveAnswer.{LiveAnswer}

abbrev pub line_of : List ℕ → List ℕ
line_of text = text ++ 10 ∷ []

-- ---- what is printed

-- how many documents, lists and postings an index has
abbrev pub index_words : ℕ → ℕ → ℕ → List ℕ
index_words documents lists postings =
    codes "documents " ++ decimal documents ++ codes " lists " ++ decimal lists
    ++ codes " postings " ++ decimal postings

abbrev pub index_line : IndexParts → List ℕ
index_line index =
    line_of (index_words (length index.documents) (length index.lists) (posting_count index.lists))

-- what the gaps of an index cost: bits of the gamma and the delta code, and bytes of varints
abbrev pub cost_words : Costs → List ℕ
cost_words costs =
    codes "gamma " ++ decimal costs.gamma ++ codes " delta " ++ decimal costs.delta
    ++ codes " bytes " ++ decimal costs.bytes

-- the index line, and the line of the costs
abbrev pub report_text : IndexParts → List ℕ
report_text index = index_line index ++ line_of (cost_words (costs_of index))

-- a kept round: the level of its cell, the cell's first place and its size, how many pairs changed
-- places, and what the cell's halves cost before and after
abbrev pub round_words : KeptRound → List ℕ
round_words round =
    codes "round " ++ decimal round.level ++ codes " " ++ decimal round.start ++ codes " "
    ++ decimal round.size ++ codes " " ++ decimal round.pairs ++ codes " "
    ++ signed_decimal round.before ++ codes " " ++ signed_decimal round.after

-- a line for each kept round
abbrev pub round_lines : List KeptRound → List ℕ
round_lines rounds = flat_map (λ round. line_of (round_words round)) rounds

-- the costs before a reordering and after it
abbrev pub cost_lines : Costs → Costs → List ℕ
cost_lines before after =
    line_of (codes "before " ++ cost_words before) ++ line_of (codes "after " ++ cost_words after)

-- the index line, the kept rounds, and the costs of the index and of the new one
abbrev pub reorder_text : IndexParts → IndexParts → List KeptRound → List ℕ
reorder_text index new rounds =
    index_line index ++ (round_lines rounds ++ cost_lines (costs_of index) (costs_of new))

-- how many rounds were kept
abbrev pub kept_line : List KeptRound → List ℕ
kept_line rounds = line_of (codes "kept " ++ decimal (length rounds))

-- the index line, how many rounds were kept, and the costs of the index and of the new one
abbrev pub make_text : IndexParts → IndexParts → List KeptRound → List ℕ
make_text index new rounds =
    index_line index ++ (kept_line rounds ++ cost_lines (costs_of index) (costs_of new))

-- how many documents the query of a line means
abbrev pub query_words : ℕ → ℕ → List ℕ
query_words line count = codes "query " ++ decimal line ++ codes " matches " ++ decimal count

-- the number of a document, and its name as it stands
abbrev pub document_words : IndexParts → ℕ → List ℕ
document_words index doc =
    decimal doc ++ codes " "
    ++ unwrap_or (option_map (λ document. document.name) (slice_get index.documents doc)) []

-- a line for each of these documents
abbrev pub document_lines : IndexParts → List ℕ → List ℕ
document_lines index ids = flat_map (λ doc. line_of (document_words index doc)) ids

-- how many documents a query means, and a line for each of them
abbrev pub answer_text : IndexParts → Answer → List ℕ
answer_text index answer =
    line_of (query_words answer.line (length answer.ids)) ++ document_lines index answer.ids

-- the answers to the queries of a file
abbrev pub query_text : IndexParts → List Answer → List ℕ
query_text index answers = flat_map (answer_text index) answers

-- how many readers asked
abbrev pub readers_line : ℕ → List ℕ
readers_line readers = line_of (codes "readers " ++ decimal readers)

-- the number of a document at a version, and the name of that document of the index
abbrev pub renumbered_words : IndexParts → ℕ × ℕ → List ℕ
renumbered_words index (id, original) =
    decimal id ++ codes " "
    ++ unwrap_or (option_map (λ document. document.name) (slice_get index.documents original)) []

-- a line for each of these numbers, beside which stands the document that has it
abbrev pub renumbered_lines : IndexParts → List (ℕ × ℕ) → List ℕ
renumbered_lines index pairs = flat_map (λ pair. line_of (renumbered_words index pair)) pairs

-- at which version a query was answered, and how many documents it means
abbrev pub block_words : List ℕ → ℕ → ℕ → ℕ → List ℕ
block_words word line version count =
    word ++ codes " " ++ decimal line ++ codes " version " ++ decimal version ++ codes " matches "
    ++ decimal count

-- these, and a line for each of the documents by its number at that version
abbrev pub block_text : List ℕ → IndexParts → LiveAnswer → List ℕ
block_text word index answer =
    line_of (block_words word answer.line answer.version (length answer.ids))
    ++ renumbered_lines index (zip answer.ids answer.originals)

abbrev pub blocks : List ℕ → IndexParts → List LiveAnswer → List ℕ
blocks word index answers = flat_map (block_text word index) answers

-- the text of the reordering, how many readers asked, what they were answered, and the answers at the
-- last version
abbrev pub live_text : IndexParts → IndexParts → List KeptRound → ℕ → List LiveAnswer
    → List LiveAnswer → List ℕ
live_text index new rounds readers answers finals =
    reorder_text index new rounds
    ++ (readers_line readers ++ (blocks (codes "live") index answers
    ++ blocks (codes "final") index finals))

-- ---- what is warned

abbrev pub name_of : Cause → List ℕ
name_of CutShort = codes "CutShort"
name_of BadLength = codes "BadLength"
name_of BadField = codes "BadField"
name_of BadText = codes "BadText"
name_of BadCount = codes "BadCount"
name_of BadGap = codes "BadGap"
name_of SameTerm = codes "SameTerm"
name_of BadDoc = codes "BadDoc"
name_of Trailing = codes "Trailing"
name_of TooMuch = codes "TooMuch"

-- where a file is refused, and why
abbrev pub malformed_words : ℕ → Cause → List ℕ
malformed_words place cause =
    codes "malformed " ++ decimal place ++ codes " " ++ name_of cause

abbrev pub name_of_line_cause : LineCause → List ℕ
name_of_line_cause NotText = codes "NotText"
name_of_line_cause (NoQuery Ended) = codes "Ended"
name_of_line_cause (NoQuery Unexpected) = codes "Unexpected"
name_of_line_cause (NoQuery OpenQuote) = codes "OpenQuote"
name_of_line_cause (NoQuery OpenParen) = codes "OpenParen"
name_of_line_cause (NoQuery TooDeep) = codes "TooDeep"

-- which line of a file of queries is at fault, at which of its bytes, and why
abbrev pub bad_query_words : ℕ → ℕ → LineCause → List ℕ
bad_query_words line at cause =
    codes "query " ++ decimal line ++ codes " " ++ decimal at ++ codes " " ++ name_of_line_cause cause
