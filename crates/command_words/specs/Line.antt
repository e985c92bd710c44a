-- The grammar of a command's words: a name, and behind it operands and options in any order.
use Rattle.std.specs.Prelude.{◌≡◌, ◌↔◌, ℕ, Bool, ◌≤◌, IsTrue, List, [], ◌∷◌, length, All, Any, Option, Some, None, bytes_eq, codes, nat_eq, if◌then◌else◌}
use Rattle.std.specs.List.{starts_with}
use Rattle.std.specs.Str.Parse.{IsNumeral, digits_value}

-- a word as its bytes
abbrev pub Word : Type 0
Word = List ℕ

-- the word is the name of an option, of this command or another
abbrev pub names_option : Word → Bool
names_option word = starts_with nat_eq word (codes "--")

-- behind the command's name stand operands, and options each of which has its value behind it
pub data Part : Type 0 where
  operand : Word → Part
  given : Word → Word → Part

-- only the name of an option begins with two dashes; a value may be any word
abbrev pub IsPart : Part → Type 0
IsPart (operand word) = ¬ IsTrue (names_option word)
IsPart (given name value) = IsTrue (names_option name)

-- the words that parts stand for
abbrev pub words_of : List Part → List Word
words_of [] = []
words_of (operand word ∷ parts) = word ∷ words_of parts
words_of (given name value ∷ parts) = name ∷ value ∷ words_of parts

-- the words fall into these parts
pub record AreParts (words : List Word) (parts : List Part) : Type 0 where
  pub sound : All IsPart parts
  pub spelt : words ≡ words_of parts

-- the property holds of the parts into which the words fall
abbrev pub OfParts : List Word → (List Part → Type 0) → Type 0
OfParts words P = (parts : List Part) → AreParts words parts → P parts

-- the operands in order
abbrev pub operands_of : List Part → List Word
operands_of [] = []
operands_of (operand word ∷ parts) = word ∷ operands_of parts
operands_of (given name value ∷ parts) = operands_of parts

-- the values that are given to the option of this name
abbrev pub values_of : Word → List Part → List Word
values_of option [] = []
values_of option (operand word ∷ parts) = values_of option parts
values_of option (given name value ∷ parts) =
    if bytes_eq name option then value ∷ values_of option parts else values_of option parts

-- which words an option takes: numbers from one to another, or one of two words
pub data Values : Type 0 where
  range : ℕ → ℕ → Values
  either : Word → Word → Values

-- one to ten decimal digits spell the number
pub record Spells (word : Word) (number : ℕ) : Type 0 where
  pub digits : IsNumeral 10 word
  pub size : length word ≤ 10
  pub value : number ≡ digits_value 10 word

-- the number that a word means: 0 for the first of two, 1 for the second
abbrev pub place_of : Word → Word → Word → Option ℕ
place_of first second word =
    if bytes_eq word first then Some 0 else (if bytes_eq word second then Some 1 else None)

-- the word is one that the option takes, and means this number
abbrev pub Means : Values → Word → ℕ → Type 0
Means (range least most) word number = Spells word number × (least ≤ number) × (number ≤ most)
Means (either first second) word number = place_of first second word ≡ Some number

-- an option: its name, the words that it takes, and what it is where it isn't given
pub record OptionRow : Type 0 where
  pub name : Word
  pub values : Values
  pub default : ℕ

-- the option comes to this number: its default where it isn't given, or what is given once
abbrev pub ComesTo : OptionRow → List Word → ℕ → Type 0
ComesTo option [] number = number ≡ option.default
ComesTo option (word ∷ []) number = Means option.values word number
ComesTo option (_ ∷ _ ∷ _) number = ⊥

-- what was found is the number of which the property holds, and nothing where it holds of none
abbrev pub Finds : Option ℕ → (ℕ → Type 0) → Type 0
Finds found P = (number : ℕ) → (found ≡ Some number) ↔ P number

-- a command: its name, how many operands it has, and its options
pub record Row : Type 0 where
  pub name : Word
  pub operands : ℕ
  pub options : List OptionRow

-- an option that is given is one of these
abbrev pub IsKnown : List OptionRow → Part → Type 0
IsKnown options (operand word) = Unit {0}
IsKnown options (given name value) = Any (λ option. option.name ≡ name) options

-- each of these options comes to the number at its place
abbrev pub ComeTo : List Part → List OptionRow → List ℕ → Type 0
ComeTo parts [] [] = Unit {0}
ComeTo parts (option ∷ options) (number ∷ numbers) =
    ComesTo option (values_of option.name parts) number × ComeTo parts options numbers
ComeTo parts _ _ = ⊥

-- the words behind a command's name fall into parts: so many operands, and options that are known
pub record Follow (operands : ℕ) (options : List OptionRow) (words : List Word) : Type 0 where
  pub parts : List Part
  pub whole : AreParts words parts
  pub known : All (IsKnown options) parts
  pub count : length (operands_of parts) ≡ operands

-- the words are a line of this command, with these operands and these numbers for its options
pub record IsLine (row : Row) (words names : List Word) (numbers : List ℕ) : Type 0 where
  pub behind : List Word
  pub named : words ≡ row.name ∷ behind
  pub follow : Follow row.operands row.options behind
  pub operands : operands_of follow.parts ≡ names
  pub options : ComeTo follow.parts row.options numbers
