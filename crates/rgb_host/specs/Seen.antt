-- A host as one value: what it tells, and how many of its calls failed; what a call makes of it.
use Rattle.std.specs.Prelude.{◌≡◌, ℕ, ◌≤◌, List, [], ◌++◌, length, take, Option, option_map}
use Rattle.std.specs.FinMap.{insert}
use Rattle.rgb_host.specs.Files.{Files, IsMissing, Rose, appended}

-- the files, the printed and the warned text, where the host tells them, and the three counts of
-- failed calls
pub record Seen : Type 0 where
  pub files : Option Files
  pub printed : Option (List ℕ)
  pub warned : Option (List ℕ)
  -- how many reads failed
  pub read_faults : ℕ
  -- how many creations, writes and prints failed
  pub write_faults : ℕ
  -- how many warnings failed
  pub warn_faults : ℕ

-- the host tells its files, and has none of this name
abbrev pub Lacks : Seen → List ℕ → Type 0
Lacks host name = IsMissing host.files name

-- ---- what a call that succeeds makes of the host

-- the named file is empty
abbrev pub created : List ℕ → Seen → Seen
created name host = record host { files = option_map (λ files. insert files name []) host.files }

-- these bytes stand behind those of the named file
abbrev pub grown : List ℕ → List ℕ → Seen → Seen
grown name bytes host = record host { files = option_map (appended name bytes) host.files }

-- the named file holds these bytes
abbrev pub with_file : List ℕ → List ℕ → Seen → Seen
with_file name bytes host =
    record host { files = option_map (λ files. insert files name bytes) host.files }

-- this text was printed
abbrev pub with_print : List ℕ → Seen → Seen
with_print text host = record host { printed = option_map (λ told. told ++ text) host.printed }

-- this text was warned
abbrev pub with_warning : List ℕ → Seen → Seen
with_warning text host = record host { warned = option_map (λ told. told ++ text) host.warned }

-- ---- what a call that fails leaves

-- the count of failed reads rose, and nothing else changed
pub record ReadFailed (before after : Seen) : Type 0 where
  pub rose : Rose before.read_faults after.read_faults
  pub same : after ≡ record before { read_faults = after.read_faults }

-- the count of failed writes rose, and nothing else changed
pub record WriteFailed (before after : Seen) : Type 0 where
  pub rose : Rose before.write_faults after.write_faults
  pub same : after ≡ record before { write_faults = after.write_faults }

-- the count of failed warnings rose, and nothing else changed
pub record WarnFailed (before after : Seen) : Type 0 where
  pub rose : Rose before.warn_faults after.warn_faults
  pub same : after ≡ record before { warn_faults = after.warn_faults }

-- ---- what several calls together leave

-- only reads happened: no count of failed reads fell, and nothing else changed
pub record OnlyReads (before after : Seen) : Type 0 where
  pub count : before.read_faults ≤ after.read_faults
  pub same : after ≡ record before { read_faults = after.read_faults }

-- the first n bytes were put behind those of the named file, and then a write failed
pub record AppendedThenFailed (name bytes : List ℕ) (before after : Seen) : Type 0 where
  pub n : ℕ
  pub within : n ≤ length bytes
  pub failed : WriteFailed (grown name (take n bytes) before) after

-- the first n bytes of the text were printed, and then a print failed
pub record PrintedThenFailed (text : List ℕ) (before after : Seen) : Type 0 where
  pub n : ℕ
  pub within : n ≤ length text
  pub failed : WriteFailed (with_print (take n text) before) after

-- the first n bytes of the text were warned, and then a warning failed
pub record WarnedThenFailed (text : List ℕ) (before after : Seen) : Type 0 where
  pub n : ℕ
  pub within : n ≤ length text
  pub failed : WarnFailed (with_warning (take n text) before) after
