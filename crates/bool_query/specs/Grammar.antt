-- The grammar of queries over tokens:
--   any = all { "OR" all }
--   all = not { "AND" not }
--   not = "NOT" not | atom
--   atom = term | "(" any ")"
use Rattle.std.specs.Prelude.{ℕ, List, [], ◌∷◌, ◌++◌}
use Rattle.bool_query.specs.Token.{Token, term, open_paren, close_paren, and_word, or_word, not_word}
use Rattle.bool_query.specs.Tree.{Tree, of_term, negation, conjoined, disjoined}

pub data Rule : Type 0 where
  any : Rule
  all : Rule
  not : Rule
  atom : Rule

mutual
  -- the tokens are spelt by the rule, and mean the tree
  pub data Derives : Rule → List Token → Tree → Type 0 where
    some_all : {tokens : List Token} {parts : List Tree}
        → AreAlls tokens parts → Derives any tokens (disjoined parts)
    some_not : {tokens : List Token} {parts : List Tree}
        → AreNots tokens parts → Derives all tokens (conjoined parts)
    not_not : {tokens : List Token} {part : Tree} (at : ℕ)
        → Derives not tokens part → Derives not (not_word at ∷ tokens) (negation part)
    not_atom : {tokens : List Token} {part : Tree} → Derives atom tokens part → Derives not tokens part
    one_term : (bytes : List ℕ) (at : ℕ) → Derives atom (term bytes at ∷ []) (of_term bytes)
    in_parens : {tokens : List Token} {part : Tree} (at until : ℕ)
        → Derives any tokens part → Derives atom (open_paren at ∷ tokens ++ close_paren until ∷ []) part

  -- one `all` or more, joined by `OR`
  pub data AreAlls : List Token → List Tree → Type 0 where
    one_all : {tokens : List Token} {part : Tree} → Derives all tokens part → AreAlls tokens (part ∷ [])
    next_all : {before tokens : List Token} {parts : List Tree} {part : Tree} (at : ℕ)
        → AreAlls before parts → Derives all tokens part
        → AreAlls (before ++ or_word at ∷ tokens) (parts ++ part ∷ [])

  -- one `not` or more, joined by `AND`
  pub data AreNots : List Token → List Tree → Type 0 where
    one_not : {tokens : List Token} {part : Tree} → Derives not tokens part → AreNots tokens (part ∷ [])
    next_not : {before tokens : List Token} {parts : List Tree} {part : Tree} (at : ℕ)
        → AreNots before parts → Derives not tokens part
        → AreNots (before ++ and_word at ∷ tokens) (parts ++ part ∷ [])
