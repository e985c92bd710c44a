-- The real host as contracts see it: it tells no bytes, and counts its faults.
use Rattle.std.specs.Prelude.{ℕ}
use Rattle.rgb_host.specs.Files.{one_more}

pub record Faults : Type 0 where
  pub read_faults : ℕ
  pub write_faults : ℕ
  pub warn_faults : ℕ

-- after a read that failed
abbrev pub one_more_read : Faults → Faults
one_more_read faults = record faults { read_faults = one_more faults.read_faults }

-- after a creation, a write or a print that failed
abbrev pub one_more_write : Faults → Faults
one_more_write faults = record faults { write_faults = one_more faults.write_faults }

-- after a warning that failed
abbrev pub one_more_warning : Faults → Faults
one_more_warning faults = record faults { warn_faults = one_more faults.warn_faults }
