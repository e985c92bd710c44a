-- Words that fall into parts: the first part and the rest, from the left.
use Rattle.std.specs.Option.{option_copied}
use Rattle.std.proofs.Common.{◌≡◌, ◌↔◌, ℕ, suc, ◌-◌, ◌<◌, ◌≤◌, Bool, true, false, IsTrue, List, [], ◌∷◌, ◌++◌, length, map, zero, Any, All, Option, Some, None, refl, sym, ap, subst, ◌∙◌, arith, get_or, take, drop, String, string_bytes, length-drop, slice_get, bytes_eq, if◌then◌else◌, is_some, Bor}
use Rattle.std.proofs.lemmas.Option.{same_Some}
use Rattle.std.specs.Option.{option_to_list, option_or}
use Rattle.std.specs.Global.{Global}
use Rattle.std.proofs.lemmas.List.{length-take, length-map}
use Rattle.std.proofs.Math.ListN.{get_or-map}
use Rattle.command_words.specs.Command.{texts_of}
use Rattle.std.proofs.lemmas.List.Elements.{All-nil, All-cons, All-head, All-tail}
use Rattle.command_words.specs.Line.{Word, Part, operand, given, IsPart, AreParts, words_of, operands_of, values_of, names_option, OptionRow, IsKnown, Follow, ComesTo}

-- no words fall into no parts alone
pub none_alone : (parts : List Part) → AreParts [] parts → parts ≡ []
none_alone [] h = refl
none_alone (operand word ∷ parts) h = cc
none_alone (given name value ∷ parts) h = cc

-- the words begin with this part, and these stand behind it
pub record Begins (words : List Word) (part : Part) (rest : List Word) : Type 0 where
  pub sound : IsPart part
  pub spelt : words ≡ words_of (part ∷ []) ++ rest

-- a parting of the words is that part and a parting of the rest
pub record Goes (part : Part) (rest : List Word) (parts : List Part) : Type 0 where
  pub behind : List Part
  pub whole : parts ≡ part ∷ behind
  pub are : AreParts rest behind

pub goes_on : (words rest : List Word) (part : Part) (parts : List Part) → Begins words part rest → AreParts words parts → Goes part rest parts
goes_on words rest (operand w) [] b h = absurd (let e : [] ≡ w ∷ rest = sym h.spelt ∙ b.spelt in cc)
goes_on words rest (given n v) [] b h = absurd (let e : [] ≡ n ∷ v ∷ rest = sym h.spelt ∙ b.spelt in cc)
goes_on words rest (operand w) (operand w' ∷ parts) b h =
    let e : w' ∷ words_of parts ≡ w ∷ rest = sym h.spelt ∙ b.spelt in
    let same : w' ≡ w = cc in
    let tail : rest ≡ words_of parts = cc in
    record { behind = parts; whole = ap (λ x. operand x ∷ parts) same; are = record { sound = All-tail IsPart (operand w') parts h.sound; spelt = tail } }
goes_on words rest (operand w) (given n' v' ∷ parts) b h =
    let e : n' ∷ v' ∷ words_of parts ≡ w ∷ rest = sym h.spelt ∙ b.spelt in
    let same : n' ≡ w = cc in
    let named : IsTrue (names_option n') = All-head IsPart (given n' v') parts h.sound in
    absurd (b.sound (subst (λ x. IsTrue (names_option x)) same named))
goes_on words rest (given n v) (operand w' ∷ parts) b h =
    let e : w' ∷ words_of parts ≡ n ∷ v ∷ rest = sym h.spelt ∙ b.spelt in
    let same : n ≡ w' = cc in
    let not_named : ¬ IsTrue (names_option w') = All-head IsPart (operand w') parts h.sound in
    absurd (not_named (subst (λ x. IsTrue (names_option x)) same b.sound))
goes_on words rest (given n v) (given n' v' ∷ parts) b h =
    let e : n' ∷ v' ∷ words_of parts ≡ n ∷ v ∷ rest = sym h.spelt ∙ b.spelt in
    let same : n' ≡ n = cc in
    let value : v' ≡ v = cc in
    let tail : rest ≡ words_of parts = cc in
    record {
      behind = parts;
      whole = ap (λ x. given x v' ∷ parts) same ∙ ap (λ x. given n x ∷ parts) value;
      are = record { sound = All-tail IsPart (given n' v') parts h.sound; spelt = tail };
    }

-- and that part before a parting of the rest is a parting of the words
pub goes_before : (words rest : List Word) (part : Part) (behind : List Part) → Begins words part rest → AreParts rest behind → AreParts words (part ∷ behind)
goes_before words rest (operand w) behind b h = record {
  sound = All-cons IsPart (operand w) behind b.sound h.sound;
  spelt = b.spelt ∙ ap (λ x. w ∷ x) h.spelt;
}
goes_before words rest (given n v) behind b h = record {
  sound = All-cons IsPart (given n v) behind b.sound h.sound;
  spelt = b.spelt ∙ ap (λ x. n ∷ v ∷ x) h.spelt;
}

-- the name of an option behind which nothing stands is in no parting
pub lone_name : (word : Word) (parts : List Part) → IsTrue (names_option word) → AreParts (word ∷ []) parts → ⊥
lone_name word [] named h = cc
lone_name word (operand w' ∷ parts) named h =
    let e : word ∷ [] ≡ w' ∷ words_of parts = h.spelt in
    let same : word ≡ w' = cc in
    let not_named : ¬ IsTrue (names_option w') = All-head IsPart (operand w') parts h.sound in
    not_named (subst (λ x. IsTrue (names_option x)) same named)
lone_name word (given n' v' ∷ parts) named h =
    let e : word ∷ [] ≡ n' ∷ v' ∷ words_of parts = h.spelt in cc

-- ---- a line with so many operands and known options

abbrev pub Tells : ℕ → List OptionRow → List Word → ℕ → List Word → Type 0
Tells n options words m rest = Follow n options words ↔ Follow m options rest

pub one_operand : (words rest : List Word) (word : Word) (options : List OptionRow) (n : ℕ) → Begins words (operand word) rest
    → Follow (suc n) options words ↔ Follow n options rest
one_operand words rest word options n b = (forth, back)
  where
    forth : Follow (suc n) options words → Follow n options rest
    forth f =
        let g = goes_on words rest (operand word) f.parts b f.whole in
        let known : All (IsKnown options) (operand word ∷ g.behind) = subst (All (IsKnown options)) g.whole f.known in
        let count : suc (length (operands_of g.behind)) ≡ suc n = ap (λ ps. length (operands_of ps)) (sym g.whole) ∙ f.count in
        record { parts = g.behind; whole = g.are; known = All-tail (IsKnown options) (operand word) g.behind known; count = cc }

    back : Follow n options rest → Follow (suc n) options words
    back f = record {
      parts = operand word ∷ f.parts;
      whole = goes_before words rest (operand word) f.parts b f.whole;
      known = All-cons (IsKnown options) (operand word) f.parts tt f.known;
      count = ap (λ k. suc k) f.count;
    }

pub one_option : (words rest : List Word) (name value : Word) (options : List OptionRow) (n : ℕ) → Begins words (given name value) rest → IsKnown options (given name value)
    → Follow n options words ↔ Follow n options rest
one_option words rest name value options n b known = (forth, back)
  where
    forth : Follow n options words → Follow n options rest
    forth f =
        let g = goes_on words rest (given name value) f.parts b f.whole in
        let all : All (IsKnown options) (given name value ∷ g.behind) = subst (All (IsKnown options)) g.whole f.known in
        record { parts = g.behind; whole = g.are; known = All-tail (IsKnown options) (given name value) g.behind all; count = ap (λ ps. length (operands_of ps)) (sym g.whole) ∙ f.count }

    back : Follow n options rest → Follow n options words
    back f = record {
      parts = given name value ∷ f.parts;
      whole = goes_before words rest (given name value) f.parts b f.whole;
      known = All-cons (IsKnown options) (given name value) f.parts known f.known;
      count = f.count;
    }

-- the first equivalence and then the second
pub tells_on : {a b : List Word} {options : List OptionRow} {n m k : ℕ} {words : List Word} → Tells n options a m b → Tells m options b k words → Tells n options a k words
tells_on p q = ((λ f. q.0 (p.0 f)), (λ f. p.1 (q.1 f)))

-- an operand too many
pub too_many : (words rest : List Word) (word : Word) (options : List OptionRow) → Begins words (operand word) rest → Follow 0 options words → ⊥
too_many words rest word options b f =
    let g = goes_on words rest (operand word) f.parts b f.whole in
    let count : suc (length (operands_of g.behind)) ≡ 0 = ap (λ ps. length (operands_of ps)) (sym g.whole) ∙ f.count in
    absurd (cc)

-- an option that isn't known
pub unknown : (words rest : List Word) (name value : Word) (options : List OptionRow) (n : ℕ) → Begins words (given name value) rest → ¬ IsKnown options (given name value) → Follow n options words → ⊥
unknown words rest name value options n b not_known f =
    let g = goes_on words rest (given name value) f.parts b f.whole in
    let all : All (IsKnown options) (given name value ∷ g.behind) = subst (All (IsKnown options)) g.whole f.known in
    not_known (All-head (IsKnown options) (given name value) g.behind all)

-- the end: nothing is left, and no operand is wanted
pub at_end : (options : List OptionRow) → Follow 0 options []
at_end options = record { parts = []; whole = record { sound = All-nil IsPart; spelt = refl }; known = All-nil (IsKnown options); count = refl }

-- where only no parts are left, no words are, and no operand is wanted
pub only_end : (options : List OptionRow) (n : ℕ) (words : List Word) → ((parts : List Part) → AreParts words parts → parts ≡ []) → Follow n options words → (n ≡ 0) × (words ≡ [])
only_end options n words none f =
    let no_parts : f.parts ≡ [] = none f.parts f.whole in
    let wanted : n ≡ 0 = sym f.count ∙ ap (λ ps. length (operands_of ps)) no_parts in
    let left : words ≡ [] = f.whole.spelt ∙ ap words_of no_parts in
    (wanted, left)

-- ---- the first of the words

pub no_words : (words : List (String Global)) (parts : List Part) → length words < 1 → AreParts (texts_of words) parts → parts ≡ []
no_words [] parts h a = none_alone parts a
no_words (w ∷ ws) parts h a = absurd (omega (arith, h))

-- one word alone, which names an option
pub one_word : (words : List (String Global)) (first : String Global) (parts : List Part) → first ≡ get_or words 0 first → 1 ≤ length words
    → length (take (length words - 1) (drop 1 words)) < 1 → IsTrue (names_option (string_bytes first)) → AreParts (texts_of words) parts → ⊥
one_word [] first parts is some one named a = omega (arith, some)
one_word (w ∷ []) first parts is some one named a = lone_name (string_bytes w) parts (subst (λ f. IsTrue (names_option (string_bytes f))) is named) a
one_word (w ∷ w' ∷ ws) first parts is some one named a = absurd (omega (arith, one, length-take {A = String Global}, length-drop {A = String Global}))

-- ---- the names of the options, as the code has them

pub any_map : {A B : Type 0} (f : A → B) (P : B → Type 0) (xs : List A) → Any (λ x. P (f x)) xs → Any P (map f xs)
any_map f P xs (k, x, lt, is, p) = (k, f x, omega (arith, lt, length-map xs f), get_or-map f xs k x ∙ ap f is, p)

pub any_from_map : {A B : Type 0} (f : A → B) (P : B → Type 0) (xs : List A) → Any P (map f xs) → Any (λ x. P (f x)) xs
any_from_map f P [] (k, y, lt, is, p) = absurd (omega (arith, lt))
any_from_map f P (x ∷ xs) (zero, y, lt, is, p) = (0, x, omega arith, refl, subst P (sym is) p)
any_from_map f P (x ∷ xs) (suc k, y, lt, is, p) =
    let h = any_from_map f P xs (k, y, omega (arith, lt), is, p) in
    (suc h.0, h.1, omega (arith, h.2), h.3, h.4)

-- ---- the operand at a place

-- the operand at a place of the whole is that at another place of the rest
pub record LeavesOperand (place : ℕ) (parts : List Part) (before : ℕ) (rest : List Word) : Type 0 where
  pub behind : List Part
  pub are : AreParts rest behind
  pub same : slice_get (operands_of parts) place ≡ slice_get (operands_of behind) before

pub at_first : (words : List Word) (place : ℕ) (parts : List Part) → AreParts words parts → LeavesOperand place parts place words
at_first words place parts a = record { behind = parts; are = a; same = refl }

pub past_operand : (place before : ℕ) (parts : List Part) (words rest : List Word) (word : Word) → Begins words (operand word) rest
    → LeavesOperand place parts (suc before) words → LeavesOperand place parts before rest
past_operand place before parts words rest word b l =
    let g = goes_on words rest (operand word) l.behind b l.are in
    record { behind = g.behind; are = g.are; same = l.same ∙ ap (λ ps. slice_get (operands_of ps) (suc before)) g.whole }

pub past_option : (place before : ℕ) (parts : List Part) (words rest : List Word) (name value : Word) → Begins words (given name value) rest
    → LeavesOperand place parts before words → LeavesOperand place parts before rest
past_option place before parts words rest name value b l =
    let g = goes_on words rest (given name value) l.behind b l.are in
    record { behind = g.behind; are = g.are; same = l.same ∙ ap (λ ps. slice_get (operands_of ps) before) g.whole }

pub found_operand : (place : ℕ) (parts : List Part) (words rest : List Word) (word : Word) → Begins words (operand word) rest
    → LeavesOperand place parts 0 words → Some word ≡ slice_get (operands_of parts) place
found_operand place parts words rest word b l =
    let g = goes_on words rest (operand word) l.behind b l.are in
    sym (l.same ∙ ap (λ ps. slice_get (operands_of ps) 0) g.whole)

pub no_operand : (place before : ℕ) (parts : List Part) (words : List Word) → ((ps : List Part) → AreParts words ps → ps ≡ [])
    → LeavesOperand place parts before words → None ≡ slice_get (operands_of parts) place
no_operand place before parts words none l =
    sym (l.same ∙ ap (λ ps. slice_get (operands_of ps) before) (none l.behind l.are))

-- ---- the values of an option

-- the values of the whole are what was found and those of the rest
pub record LeavesValues (option : Word) (parts : List Part) (found : Option Word) (rest : List Word) : Type 0 where
  pub behind : List Part
  pub are : AreParts rest behind
  pub same : values_of option parts ≡ option_to_list found ++ values_of option behind

pub none_found : (words : List Word) (name : Word) (parts : List Part) → AreParts words parts → LeavesValues name parts None words
none_found words name parts a = record { behind = parts; are = a; same = refl }

joins : (x : Bool) (a b : List Word) (v : Word) → (if x then v ∷ b else b) ≡ (if x then v ∷ [] else []) ++ b
joins true a b v = refl
joins false a b v = refl

values_of-cons : (option : Word) (part : Part) (parts : List Part) → values_of option (part ∷ parts) ≡ values_of option (part ∷ []) ++ values_of option parts
values_of-cons option (operand word) parts = refl
values_of-cons option (given name value) parts = joins (bytes_eq name option) [] (values_of option parts) value

-- a word that was found, as the code has it
abbrev pub Found : Type 0
Found = Option (Bor (List ℕ))

values_on : (name : Word) (parts : List Part) (found value : Found) (rest : List Word) (part : Part) (behind : List Part)
    → values_of name parts ≡ option_to_list (option_copied found) ++ values_of name (part ∷ behind) → values_of name (part ∷ []) ≡ option_to_list (option_copied value)
    → values_of name parts ≡ option_to_list (option_copied found) ++ (option_to_list (option_copied value) ++ values_of name behind)
values_on name parts found value rest part behind same one =
    same ∙ ap (λ vs. option_to_list (option_copied found) ++ vs) (values_of-cons name part behind ∙ ap (λ vs. vs ++ values_of name behind) one)

pub more_values : (name : Word) (parts : List Part) (found value : Found) (words rest : List Word) (part : Part) → Begins words part rest
    → values_of name (part ∷ []) ≡ option_to_list (option_copied value) → (is_some value ≡ true → is_some found ≡ true → ⊥)
    → LeavesValues name parts (option_copied found) words → LeavesValues name parts (option_copied (option_or found value)) rest
more_values name parts None value words rest part b one not_both l =
    let g = goes_on words rest part l.behind b l.are in
    record { behind = g.behind; are = g.are; same = values_on name parts None value rest part g.behind (l.same ∙ ap (values_of name) g.whole) one }
more_values name parts (Some f) None words rest part b one not_both l =
    let g = goes_on words rest part l.behind b l.are in
    record { behind = g.behind; are = g.are; same = values_on name parts (Some f) None rest part g.behind (l.same ∙ ap (λ ps. (f.now ∷ []) ++ values_of name ps) g.whole) one }
more_values name parts (Some f) (Some v) words rest part b one not_both l = absurd (not_both refl refl)

-- the option is given twice
pub given_twice : (option : OptionRow) (parts : List Part) (found value : Found) (words rest : List Word) (part : Part) (number : ℕ) → Begins words part rest
    → values_of option.name (part ∷ []) ≡ option_to_list (option_copied value) → is_some value ≡ true → is_some found ≡ true
    → LeavesValues option.name parts (option_copied found) words → ComesTo option (values_of option.name parts) number → ⊥
given_twice option parts None value words rest part number b one some found l comes = absurd (cc)
given_twice option parts (Some f) None words rest part number b one some found l comes = absurd (cc)
given_twice option parts (Some f) (Some v) words rest part number b one some found l comes =
    let g = goes_on words rest part l.behind b l.are in
    let same : values_of option.name parts ≡ f.now ∷ v.now ∷ values_of option.name g.behind = values_on option.name parts (Some f) (Some v) rest part g.behind (l.same ∙ ap (λ ps. (f.now ∷ []) ++ values_of option.name ps) g.whole) one in
    subst (λ vs. ComesTo option vs number) same comes

-- ---- a line of a row

-- the names of two operands and of one
pub two_operands : (names : List Word) (a b : Word) → length names ≡ 2 → Some a ≡ slice_get names 0 → Some b ≡ slice_get names 1 → names ≡ a ∷ b ∷ []
two_operands [] a b n p q = absurd (omega (arith, n))
two_operands (x ∷ []) a b n p q = absurd (omega (arith, n))
two_operands (x ∷ y ∷ []) a b n p q = ap (λ z. z ∷ y ∷ []) (sym (same_Some a x p)) ∙ ap (λ z. a ∷ z ∷ []) (sym (same_Some b y q))
two_operands (x ∷ y ∷ z ∷ zs) a b n p q = absurd (omega (arith, n))

pub three_operands : (names : List Word) (a b c : Word) → length names ≡ 3 → Some a ≡ slice_get names 0 → Some b ≡ slice_get names 1 → Some c ≡ slice_get names 2 → names ≡ a ∷ b ∷ c ∷ []
three_operands [] a b c n p q r = absurd (omega (arith, n))
three_operands (x ∷ []) a b c n p q r = absurd (omega (arith, n))
three_operands (x ∷ y ∷ []) a b c n p q r = absurd (omega (arith, n))
three_operands (x ∷ y ∷ z ∷ []) a b c n p q r =
    ap (λ w. w ∷ y ∷ z ∷ []) (sym (same_Some a x p)) ∙ ap (λ w. a ∷ w ∷ z ∷ []) (sym (same_Some b y q)) ∙ ap (λ w. a ∷ b ∷ w ∷ []) (sym (same_Some c z r))
three_operands (w ∷ x ∷ y ∷ z ∷ zs) a b c n p q r = absurd (omega (arith, n))

pub one_operand_name : (names : List Word) (a : Word) → length names ≡ 1 → Some a ≡ slice_get names 0 → names ≡ a ∷ []
one_operand_name [] a n p = absurd (omega (arith, n))
one_operand_name (x ∷ []) a n p = ap (λ z. z ∷ []) (sym (same_Some a x p))
one_operand_name (x ∷ y ∷ zs) a n p = absurd (omega (arith, n))

-- the words behind the name, of another line with the same words
pub same_behind : (name : Word) (words behind : List Word) (parts : List Part) → name ∷ words ≡ name ∷ behind → AreParts behind parts → AreParts words parts
same_behind name words behind parts same are = let e : behind ≡ words = cc in subst (λ ws. AreParts ws parts) e are
