-- What the grammar spells leaves nothing open.
use Rattle.std.proofs.Common.{◌≡◌, ℕ, zero, suc, Bool, true, false, List, [], ◌∷◌, ◌++◌, refl, sym, ◌∙◌, ap, subst, append_assoc}
use Rattle.std.proofs.lemmas.Bool.{false≢true}
use Rattle.bool_query.specs.Token.{Token, term, open_paren, close_paren, and_word, or_word, not_word}
use Rattle.bool_query.specs.Tree.{Tree, negation}
use Rattle.bool_query.specs.Grammar.{Rule, not, Derives, some_all, some_not, not_not, not_atom, one_term, in_parens, AreAlls, one_all, next_all, AreNots, one_not, next_not}
use Rattle.bool_query.specs.Fault.{opens, AreOpen, none_open, first_open, first_closed}

abbrev pub after_close : ℕ → (ℕ → Bool) → Bool
after_close zero behind = true
after_close (suc depth) behind = behind depth

-- some `)` of the tokens closes none of them, nor any of so many `(` before them
abbrev pub sinks : List Token → ℕ → Bool
sinks [] depth = false
sinks (term bytes at ∷ tokens) depth = sinks tokens depth
sinks (open_paren at ∷ tokens) depth = sinks tokens (suc depth)
sinks (close_paren at ∷ tokens) depth = after_close depth (sinks tokens)
sinks (and_word at ∷ tokens) depth = sinks tokens depth
sinks (or_word at ∷ tokens) depth = sinks tokens depth
sinks (not_word at ∷ tokens) depth = sinks tokens depth

mutual
  -- each `(` that a rule spells has its `)`
  pub sinks-derived : {rule : Rule} {tokens : List Token} {tree : Tree} → Derives rule tokens tree → (rest : List Token) (depth : ℕ) → sinks (tokens ++ rest) depth ≡ sinks rest depth
  sinks-derived (some_all parts) rest depth = sinks-alls parts rest depth
  sinks-derived (some_not parts) rest depth = sinks-nots parts rest depth
  sinks-derived (not_not at part) rest depth = sinks-derived part rest depth
  sinks-derived (not_atom part) rest depth = sinks-derived part rest depth
  sinks-derived (one_term bytes at) rest depth = refl
  sinks-derived (in_parens {tokens = inner} at until part) rest depth =
      ap (λ (l : List Token). sinks l (suc depth)) (append_assoc inner (close_paren until ∷ []) rest)
      ∙ sinks-derived part (close_paren until ∷ rest) (suc depth)

  pub sinks-alls : {tokens : List Token} {trees : List Tree} → AreAlls tokens trees → (rest : List Token) (depth : ℕ) → sinks (tokens ++ rest) depth ≡ sinks rest depth
  sinks-alls (one_all part) rest depth = sinks-derived part rest depth
  sinks-alls (next_all {before = before} {tokens = inner} at parts part) rest depth =
      ap (λ (l : List Token). sinks l depth) (append_assoc before (or_word at ∷ inner) rest)
      ∙ sinks-alls parts (or_word at ∷ inner ++ rest) depth
      ∙ sinks-derived part rest depth

  pub sinks-nots : {tokens : List Token} {trees : List Tree} → AreNots tokens trees → (rest : List Token) (depth : ℕ) → sinks (tokens ++ rest) depth ≡ sinks rest depth
  sinks-nots (one_not part) rest depth = sinks-derived part rest depth
  sinks-nots (next_not {before = before} {tokens = inner} at parts part) rest depth =
      ap (λ (l : List Token). sinks l depth) (append_assoc before (and_word at ∷ inner) rest)
      ∙ sinks-nots parts (and_word at ∷ inner ++ rest) depth
      ∙ sinks-derived part rest depth

-- a token that opens nothing isn't open
pub passes : (token : Token) (tokens open_ones : List Token) → opens token ≡ false → AreOpen tokens open_ones → AreOpen (token ∷ tokens) open_ones
passes token tokens open_ones closed rest = first_closed (λ o. absurd (false≢true (sym closed ∙ o.opening))) rest

-- nor is one whose operand is whole
pub whole : (token : Token) (tokens front rest open_ones : List Token) (tree : Tree) → token ∷ tokens ≡ front ++ rest → Derives not front tree → AreOpen tokens open_ones → AreOpen (token ∷ tokens) open_ones
whole token tokens front rest open_ones tree e derived more = first_closed (λ o. o.unfinished front rest tree e derived) more

mutual
  pub open-derived : {rule : Rule} {tokens : List Token} {tree : Tree} → Derives rule tokens tree → (rest open_ones : List Token) → AreOpen rest open_ones → AreOpen (tokens ++ rest) open_ones
  open-derived (some_all parts) rest ones h = open-alls parts rest ones h
  open-derived (some_not parts) rest ones h = open-nots parts rest ones h
  open-derived (not_not {tokens = inner} {part = tree} at part) rest ones h =
      whole (not_word at) (inner ++ rest) (not_word at ∷ inner) rest ones (negation tree) refl (not_not at part) (open-derived part rest ones h)
  open-derived (not_atom part) rest ones h = open-derived part rest ones h
  open-derived (one_term bytes at) rest ones h = passes (term bytes at) rest ones refl h
  open-derived (in_parens {tokens = inner} {part = tree} at until part) rest ones h =
      whole (open_paren at) ((inner ++ close_paren until ∷ []) ++ rest) (open_paren at ∷ inner ++ close_paren until ∷ []) rest ones tree refl (not_atom (in_parens at until part))
      (subst (λ (l : List Token). AreOpen l ones) (sym (append_assoc inner (close_paren until ∷ []) rest))
      (open-derived part (close_paren until ∷ rest) ones (passes (close_paren until) rest ones refl h)))

  pub open-alls : {tokens : List Token} {trees : List Tree} → AreAlls tokens trees → (rest open_ones : List Token) → AreOpen rest open_ones → AreOpen (tokens ++ rest) open_ones
  open-alls (one_all part) rest ones h = open-derived part rest ones h
  open-alls (next_all {before = before} {tokens = inner} at parts part) rest ones h =
      subst (λ (l : List Token). AreOpen l ones) (sym (append_assoc before (or_word at ∷ inner) rest))
      (open-alls parts (or_word at ∷ inner ++ rest) ones (passes (or_word at) (inner ++ rest) ones refl (open-derived part rest ones h)))

  pub open-nots : {tokens : List Token} {trees : List Tree} → AreNots tokens trees → (rest open_ones : List Token) → AreOpen rest open_ones → AreOpen (tokens ++ rest) open_ones
  open-nots (one_not part) rest ones h = open-derived part rest ones h
  open-nots (next_not {before = before} {tokens = inner} at parts part) rest ones h =
      subst (λ (l : List Token). AreOpen l ones) (sym (append_assoc before (and_word at ∷ inner) rest))
      (open-nots parts (and_word at ∷ inner ++ rest) ones (passes (and_word at) (inner ++ rest) ones refl (open-derived part rest ones h)))

-- the open ones are determined
pub open_once : {tokens a b : List Token} → AreOpen tokens a → AreOpen tokens b → a ≡ b
open_once none_open none_open = refl
open_once (first_open {token = token} p x) (first_open q y) = ap (λ (l : List Token). token ∷ l) (open_once x y)
open_once (first_open p x) (first_closed q y) = absurd (q p)
open_once (first_closed p x) (first_open q y) = absurd (p q)
open_once (first_closed p x) (first_closed q y) = open_once x y

-- a `not` that begins with `NOT` has a `not` behind it
pub record NotBehind (tokens rest : List Token) : Type 0 where
  pub front : List Token
  pub tree : Tree
  pub spelt : tokens ≡ front ++ rest
  pub derived : Derives not front tree

pub not_behind : {front : List Token} {tree : Tree} → Derives not front tree → (at : ℕ) (tokens rest : List Token) → not_word at ∷ tokens ≡ front ++ rest → NotBehind tokens rest
not_behind (not_not {tokens = inner} {part = part} at' derived) at tokens rest e = record { front = inner; tree = part; spelt = (cc); derived = derived }
not_behind (not_atom (one_term bytes at')) at tokens rest e = absurd (cc)
not_behind (not_atom (in_parens at' until derived)) at tokens rest e = absurd (cc)

-- a `not` that begins with `(` has the `)` of it
pub paren_closed : {front : List Token} {tree : Tree} → Derives not front tree → (at : ℕ) (tokens rest : List Token) → open_paren at ∷ tokens ≡ front ++ rest → sinks tokens 0 ≡ true
paren_closed (not_not at' derived) at tokens rest e = absurd (cc)
paren_closed (not_atom (one_term bytes at')) at tokens rest e = absurd (cc)
paren_closed (not_atom (in_parens {tokens = inner} at' until derived)) at tokens rest e =
    let spelt : tokens ≡ (inner ++ close_paren until ∷ []) ++ rest = cc in
    ap (λ (l : List Token). sinks l 0) (spelt ∙ append_assoc inner (close_paren until ∷ []) rest)
    ∙ sinks-derived derived (close_paren until ∷ rest) 0

-- a `not` is spelt by a token at least
pub not_spelt : {front : List Token} {tree : Tree} → Derives not front tree → (rest : List Token) → [] ≡ front ++ rest → ⊥
not_spelt (not_not at derived) rest e = cc
not_spelt (not_atom (one_term bytes at)) rest e = cc
not_spelt (not_atom (in_parens at until derived)) rest e = cc
