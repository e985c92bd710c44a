-- Bytes on their way to the end of a file: some were appended, the next are held in a buffer, and
-- the others are still to come.
use Rattle.std.specs.Prelude.{◌≡◌, ℕ, List, ◌++◌}
use Rattle.rgb_host.specs.Seen.{Seen, grown, AppendedThenFailed}

-- of all the bytes a front was appended, `held` come next, and then `rest`
pub record Sending (name all held rest : List ℕ) (before after : Seen) : Type 0 where
  pub front : List ℕ
  pub whole : all ≡ front ++ (held ++ rest)
  pub told : after ≡ grown name front before

-- wherever these bytes were to come next, they came, but for those that are left
pub record Puts (name bytes left held held_after : List ℕ) (host after : Seen) : Type 0 where
  pub puts : (all rest : List ℕ) (before : Seen)
      → Sending name all held (bytes ++ rest) before host
      → Sending name all held_after (left ++ rest) before after

-- wherever these bytes were to come next, a write failed before all were appended
pub record Breaks (name bytes held : List ℕ) (host after : Seen) : Type 0 where
  pub breaks : (all rest : List ℕ) (before : Seen)
      → Sending name all held (bytes ++ rest) before host
      → AppendedThenFailed name all before after
