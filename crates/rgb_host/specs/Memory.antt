-- The host in memory as contracts see it, and what its calls give and leave.
use Rattle.std.specs.Prelude.{ℕ, ◌-◌, min, List, [], ◌++◌, length, map, String, string_bytes, Contains, refl}
use Rattle.std.specs.Global.{Global, Vec}
use Rattle.std.specs.BTreeMap.{BTreeMap}
use Rattle.std.specs.FinMap.{code, insert, from_entries}
use Rattle.std.specs.Coded.{Coded, code_by, coded×, coded_list, coded_ℕ}
use Rattle.rgb_host.specs.Files.{Files, bytes_of, appended, one_more}

-- the finite map that a map of strings and vectors stands for
abbrev pub told : BTreeMap (String Global) (Vec ℕ) → Files
told names = from_entries (map (λ entry. (string_bytes entry.0, entry.1.items)) names.entries)

-- all that a host in memory holds: what it tells, which calls fail, how many were made, and the
-- counts of faults
pub record MemoryState : Type 0 where
  pub files : Files
  pub printed : List ℕ
  pub warned : List ℕ
  pub failing_reads : List ℕ
  pub failing_writes : List ℕ
  pub most : ℕ
  pub reads : ℕ
  pub writes : ℕ
  pub read_faults : ℕ
  pub write_faults : ℕ
  pub warn_faults : ℕ

abbrev Lists : Type 0
Lists = (List ℕ × List ℕ) × (List ℕ × List ℕ)

abbrev Counts : Type 0
Counts = (ℕ × (ℕ × ℕ)) × (ℕ × (ℕ × ℕ))

abbrev coded_text : Coded (List ℕ)
coded_text = coded_list coded_ℕ

abbrev coded_lists : Coded Lists
coded_lists =
    coded× (coded× coded_text coded_text) (coded× coded_text coded_text)

abbrev coded_counts : Coded Counts
coded_counts =
    coded× (coded× coded_ℕ (coded× coded_ℕ coded_ℕ)) (coded× coded_ℕ (coded× coded_ℕ coded_ℕ))

-- the state is stored as the files, the four lists and the six numbers
abbrev pub state_code : Coded MemoryState
state_code =
    code_by (Files × (Lists × Counts))
    (coded× (code coded_text coded_text) (coded× coded_lists coded_counts))
    (λ h. (
      h.files,
      (
        ((h.printed, h.warned), (h.failing_reads, h.failing_writes)),
        ((h.most, (h.reads, h.writes)), (h.read_faults, (h.write_faults, h.warn_faults))),
      ),
    ))
    (λ s. record {
      files = s.0;
      printed = s.1.0.0.0;
      warned = s.1.0.0.1;
      failing_reads = s.1.0.1.0;
      failing_writes = s.1.0.1.1;
      most = s.1.1.0.0;
      reads = s.1.1.0.1.0;
      writes = s.1.1.0.1.1;
      read_faults = s.1.1.1.0;
      write_faults = s.1.1.1.1.0;
      warn_faults = s.1.1.1.1.1;
    })
    (λ h. refl)

-- the next read call is listed to fail; the number of a call is one more than the calls before it
abbrev pub IsReadListed : MemoryState → Type 0
IsReadListed host = Contains host.failing_reads (one_more host.reads)

-- the next call of create, append, print or warn is listed to fail
abbrev pub IsWriteListed : MemoryState → Type 0
IsWriteListed host = Contains host.failing_writes (one_more host.writes)

-- how many bytes a read gives from a place on, into so much room
abbrev pub given : MemoryState → List ℕ → ℕ → ℕ → ℕ
given host name at room = min host.most (min room (length (bytes_of host.files name) - at))

-- how many bytes of a piece a call takes
abbrev pub taken : MemoryState → List ℕ → ℕ
taken host piece = min host.most (length piece)

-- after a read call that raises no count
abbrev pub read_made : MemoryState → MemoryState
read_made host = record host { reads = one_more host.reads }

-- after a read call that was listed
abbrev pub read_failed : MemoryState → MemoryState
read_failed host =
    record host { reads = one_more host.reads; read_faults = one_more host.read_faults }

-- after a call that made the named file empty
abbrev pub created : List ℕ → MemoryState → MemoryState
created name host = record host { writes = one_more host.writes; files = insert host.files name [] }

-- after a call that took bytes for the named file
abbrev pub file_grown : List ℕ → List ℕ → MemoryState → MemoryState
file_grown name bytes host =
    record host { writes = one_more host.writes; files = appended name bytes host.files }

-- after a call that printed bytes
abbrev pub print_grown : List ℕ → MemoryState → MemoryState
print_grown bytes host =
    record host { writes = one_more host.writes; printed = host.printed ++ bytes }

-- after a call that warned bytes
abbrev pub warning_grown : List ℕ → MemoryState → MemoryState
warning_grown bytes host =
    record host { writes = one_more host.writes; warned = host.warned ++ bytes }

-- after a call of create, append or print that failed
abbrev pub write_failed : MemoryState → MemoryState
write_failed host =
    record host { writes = one_more host.writes; write_faults = one_more host.write_faults }

-- after a call of warn that failed
abbrev pub warn_failed : MemoryState → MemoryState
warn_failed host =
    record host { writes = one_more host.writes; warn_faults = one_more host.warn_faults }
