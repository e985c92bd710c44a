-- A text on its way to being printed: some of it was printed, and the next bytes are held.
use Rattle.std.specs.Prelude.{◌≡◌, ℕ, List, ◌++◌}
use Rattle.rgb_host.specs.Seen.{Seen, with_print}

-- the text came behind the bytes that were held: the first of all were printed, and the others are
-- held now
pub record Adds (text held held_after : List ℕ) (host after : Seen) : Type 0 where
  pub printed : List ℕ
  pub whole : printed ++ held_after ≡ held ++ text
  pub told : after ≡ with_print printed host
