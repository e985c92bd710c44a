-- The commands: a table with a row for each, and what a line of each means.
use Rattle.std.specs.Prelude.{◌≡◌, ℕ, Option, Some, None, List, [], ◌∷◌, map, String, string_bytes, codes, if◌then◌else◌}
use Rattle.std.specs.Global.{Global}
use Rattle.command_words.specs.Line.{Word, Values, OptionRow, Row, Means, IsLine, range, either}
use Rattle.command_words.specs.declared.reordering.Reordering.{Reordering}

-- how many threads work: 1 to 64, and 1 where nothing is said
abbrev pub workers_option : OptionRow
workers_option = record { name = codes "--workers"; values = range 1 64; default = 1 }

-- how many levels of halving a reordering makes at most: 0 to 31, and 31 where nothing is said
abbrev pub depth_option : OptionRow
depth_option = record { name = codes "--depth"; values = range 0 31; default = 31 }

-- how many rounds of exchanges a halving makes at most: 0 to 100, and 20 where nothing is said
abbrev pub rounds_option : OptionRow
rounds_option = record { name = codes "--rounds"; values = range 0 100; default = 20 }

-- a cell of how many documents isn't halved: 1 to 2147483647, and 16 where nothing is said
abbrev pub leaf_option : OptionRow
leaf_option = record { name = codes "--leaf"; values = range 1 2147483647; default = 16 }

-- how many levels a slab has: 1 to 31, and 4 where nothing is said
abbrev pub step_option : OptionRow
step_option = record { name = codes "--step"; values = range 1 31; default = 4 }

-- how many postings a list has at least that has a part in costs and gains: 1 to 2147483647, and 1
-- where nothing is said
abbrev pub min_df_option : OptionRow
min_df_option = record { name = codes "--min-df"; values = range 1 2147483647; default = 1 }

-- the order of the documents at the start: `number` or `name`, and `number` where nothing is said
abbrev pub start_option : OptionRow
start_option = record {
  name = codes "--start";
  values = either (codes "number") (codes "name");
  default = 0;
}

-- the number that a generated index is drawn from: 0 to 4294967295, and 1 where nothing is said
abbrev pub number_option : OptionRow
number_option = record { name = codes "--number"; values = range 0 4294967295; default = 1 }

-- how many readers ask beside a reordering: 1 to 16, and 2 where nothing is said
abbrev pub readers_option : OptionRow
readers_option = record { name = codes "--readers"; values = range 1 16; default = 2 }

-- how many documents a generated index has: 0 to 1000000
abbrev pub document_counts : Values
document_counts = range 0 1000000

-- the options of a reordering
abbrev pub reordering_options : List OptionRow
reordering_options =
    depth_option ∷ rounds_option ∷ leaf_option ∷ workers_option ∷ step_option ∷ min_df_option
    ∷ start_option ∷ []

-- what each of these options comes to
abbrev pub numbers_of : Reordering → List ℕ
numbers_of options =
    options.depth ∷ options.rounds ∷ options.leaf ∷ options.workers ∷ options.step
    ∷ options.min_df ∷ (if options.by_name then 1 else 0) ∷ []

-- copy IN OUT
abbrev pub copy_row : Row
copy_row = record { name = codes "copy"; operands = 2; options = [] }

-- report IN
abbrev pub report_row : Row
report_row = record { name = codes "report"; operands = 1; options = workers_option ∷ [] }

-- reorder IN OUT
abbrev pub reorder_row : Row
reorder_row = record { name = codes "reorder"; operands = 2; options = reordering_options }

-- query IN QUERIES
abbrev pub query_row : Row
query_row = record { name = codes "query"; operands = 2; options = [] }

-- make N OUT
abbrev pub make_row : Row
make_row =
    record { name = codes "make"; operands = 2; options = number_option ∷ reordering_options }

-- live IN OUT QUERIES
abbrev pub live_row : Row
live_row =
    record { name = codes "live"; operands = 3; options = readers_option ∷ reordering_options }

pub data Command : Type 0 where
  -- of IN and OUT
  copy : Word → Word → Command
  -- of IN, by so many workers
  report : Word → ℕ → Command
  -- of IN and OUT, with these options
  reorder : Word → Word → Reordering → Command
  -- of IN and QUERIES
  query : Word → Word → Command
  -- of so many documents and OUT, drawn from a number, with these options
  make : ℕ → Word → ℕ → Reordering → Command
  -- of IN, OUT and QUERIES, with these options, by so many readers
  live : Word → Word → Word → Reordering → ℕ → Command

-- the words are a line of `make`, whose first operand means so many documents
pub record IsMake
    (words : List Word) (documents : ℕ) (output : Word) (number : ℕ) (options : Reordering)
    : Type 0 where
  pub count : Word
  pub means : Means document_counts count documents
  pub line : IsLine make_row words (count ∷ output ∷ []) (number ∷ numbers_of options)

-- the words spell the command
abbrev pub IsCommand : List Word → Command → Type 0
IsCommand words (copy input output) = IsLine copy_row words (input ∷ output ∷ []) []
IsCommand words (report input workers) = IsLine report_row words (input ∷ []) (workers ∷ [])
IsCommand words (reorder input output options) =
    IsLine reorder_row words (input ∷ output ∷ []) (numbers_of options)
IsCommand words (query input queries) = IsLine query_row words (input ∷ queries ∷ []) []
IsCommand words (make documents output number options) =
    IsMake words documents output number options
IsCommand words (live input output queries options readers) =
    IsLine live_row words (input ∷ output ∷ queries ∷ []) (readers ∷ numbers_of options)

-- the words spell this command and no other
pub record SpellsOnly (words : List Word) (command : Command) : Type 0 where
  pub spelt : IsCommand words command
  pub only : (other : Command) → IsCommand words other → other ≡ command

-- the answer is the command that the words spell, and none where they spell none
abbrev pub Answers : List Word → Option Command → Type 0
Answers words (Some command) = SpellsOnly words command
Answers words None = (command : Command) → ¬ IsCommand words command

-- the bytes of each word
abbrev pub texts_of : List (String Global) → List Word
texts_of words = map string_bytes words
