-- The mark of a text: a number of 64 bits that equal texts share, by the function FNV-1a of Fowler,
-- Noll and Vo.
use Rattle.std.specs.Prelude.{ℕ, ◌*◌, ◌^◌, ◌%◌, List, bit_xor}
use Rattle.std.specs.List.{fold}

-- the mark with one byte more
unfoldable pub mark_after : ℕ → ℕ → ℕ
mark_after mark byte = (bit_xor mark byte * 1099511628211) % 2 ^ 64

abbrev pub mark_of : List ℕ → ℕ
mark_of bytes = fold mark_after 14695981039346656037 bytes
