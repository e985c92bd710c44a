-- What a gap costs in three codes: the gamma and the delta code (P. Elias, "Universal codeword sets
-- and representations of the integers", IEEE Transactions on Information Theory 21, 1975) and the
-- varint (Protocol Buffers, "Encoding").
use Rattle.std.specs.Prelude.{ℕ, ◌+◌, ◌*◌, ◌^◌, List, [], ◌∷◌, length, map, count_by, nat_le}
use Rattle.std.specs.List.{range_with_len}
use Rattle.ciff_wire.specs.Varint.{varint}
use Rattle.rgb_base.specs.declared.parts.Posting.{Posting}
use Rattle.rgb_base.specs.Gaps.{gaps_of}

-- ---- gaps

abbrev pub docs_of : List Posting → List ℕ
docs_of postings = map (λ posting. posting.doc) postings

-- 1 is added to the first gap, so that none is 0
unfoldable pub with_first_more : List ℕ → List ℕ
with_first_more [] = []
with_first_more (gap ∷ gaps) = (gap + 1) ∷ gaps

-- the gaps of postings as they are coded
abbrev pub coded_gaps : List Posting → List ℕ
coded_gaps postings = with_first_more (gaps_of (docs_of postings))

-- ---- codes

-- the floor of the logarithm to base two, for numbers from 1 to 2^64:
-- how many of 2, 4, 8 .. 2^64 are not above the number (a law says the rest)
unfoldable pub floor_log : ℕ → ℕ
floor_log number = count_by (λ power. nat_le (2 ^ power) number) (range_with_len 1 64)

-- a zero for each binary digit behind the first, then the binary digits
unfoldable pub gamma_bits : ℕ → ℕ
gamma_bits gap = 2 * floor_log gap + 1

-- the number of binary digits in the gamma code, then the binary digits behind the first
unfoldable pub delta_bits : ℕ → ℕ
delta_bits gap = gamma_bits (floor_log gap + 1) + floor_log gap

unfoldable pub varint_bytes : ℕ → ℕ
varint_bytes gap = length (varint gap)
