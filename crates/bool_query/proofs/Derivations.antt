-- Tokens mean one tree: a parser of tokens as a function, which makes each tree that the grammar derives.
use Rattle.std.proofs.Common.{◌≡◌, List, [], ◌∷◌, ◌++◌, refl, sym, ◌∙◌, ap}
use Rattle.bool_query.specs.Token.{Token, term, open_paren, close_paren, and_word, or_word, not_word}
use Rattle.bool_query.specs.Tree.{Tree, of_term, negation, conjoined, disjoined}
use Rattle.bool_query.specs.Grammar.{Rule, any, all, not, atom, Derives, some_all, some_not, not_not, not_atom, one_term, in_parens, AreAlls, one_all, next_all, AreNots, one_not, next_not}

-- the open tokens from the innermost out, each with the operands before it at its level
data Outer : Type 0 where
  outermost : Outer
  in_paren : List Tree → List Tree → Outer → Outer
  in_not : List Tree → List Tree → Outer → Outer

-- an operand is needed, or a whole one stands last
data Parser : Type 0 where
  waiting : Outer → List Tree → List Tree → Parser
  holding : Outer → List Tree → List Tree → Tree → Parser
  refused : Parser

-- a whole operand closes each `NOT` before it
abbrev settle : Outer → List Tree → List Tree → Tree → Parser
settle outermost alls nots tree = holding outermost alls nots tree
settle (in_paren a n outer) alls nots tree = holding (in_paren a n outer) alls nots tree
settle (in_not a n outer) alls nots tree = settle outer a n (negation tree)

abbrev close : Outer → List Tree → List Tree → Tree → Parser
close outermost alls nots tree = refused
close (in_paren a n outer) alls nots tree = settle outer a n (disjoined (alls ++ conjoined (nots ++ tree ∷ []) ∷ []))
close (in_not a n outer) alls nots tree = refused

abbrev feed_waiting : Outer → List Tree → List Tree → Token → Parser
feed_waiting outer alls nots (term bytes at) = settle outer alls nots (of_term bytes)
feed_waiting outer alls nots (open_paren at) = waiting (in_paren alls nots outer) [] []
feed_waiting outer alls nots (close_paren at) = refused
feed_waiting outer alls nots (and_word at) = refused
feed_waiting outer alls nots (or_word at) = refused
feed_waiting outer alls nots (not_word at) = waiting (in_not alls nots outer) [] []

abbrev feed_holding : Outer → List Tree → List Tree → Tree → Token → Parser
feed_holding outer alls nots tree (term bytes at) = refused
feed_holding outer alls nots tree (open_paren at) = refused
feed_holding outer alls nots tree (close_paren at) = close outer alls nots tree
feed_holding outer alls nots tree (and_word at) = waiting outer alls (nots ++ tree ∷ [])
feed_holding outer alls nots tree (or_word at) = waiting outer (alls ++ conjoined (nots ++ tree ∷ []) ∷ []) []
feed_holding outer alls nots tree (not_word at) = refused

abbrev feed : Parser → Token → Parser
feed (waiting outer alls nots) token = feed_waiting outer alls nots token
feed (holding outer alls nots tree) token = feed_holding outer alls nots tree token
feed refused token = refused

abbrev run : Parser → List Token → Parser
run parser [] = parser
run parser (token ∷ tokens) = run (feed parser token) tokens

run_more : (front rest : List Token) (parser : Parser) → run parser (front ++ rest) ≡ run (run parser front) rest
run_more [] rest parser = refl
run_more (token ∷ front) rest parser = run_more front rest (feed parser token)

-- the innermost open token is no `NOT`
abbrev IsBase : Outer → Type 0
IsBase outer = (alls nots : List Tree) (tree : Tree) → settle outer alls nots tree ≡ holding outer alls nots tree

record AnyRuns (outer : Outer) (tokens : List Token) (tree : Tree) : Type 0 where
  alls : List Tree
  nots : List Tree
  last : Tree
  whole : tree ≡ disjoined (alls ++ conjoined (nots ++ last ∷ []) ∷ [])
  runs : run (waiting outer [] []) tokens ≡ holding outer alls nots last

record AllRuns (outer : Outer) (before : List Tree) (tokens : List Token) (tree : Tree) : Type 0 where
  nots : List Tree
  last : Tree
  whole : tree ≡ conjoined (nots ++ last ∷ [])
  runs : run (waiting outer before []) tokens ≡ holding outer before nots last

record AllsRun (outer : Outer) (tokens : List Token) (trees : List Tree) : Type 0 where
  alls : List Tree
  nots : List Tree
  last : Tree
  whole : trees ≡ alls ++ conjoined (nots ++ last ∷ []) ∷ []
  runs : run (waiting outer [] []) tokens ≡ holding outer alls nots last

record NotsRun (outer : Outer) (before : List Tree) (tokens : List Token) (trees : List Tree) : Type 0 where
  nots : List Tree
  last : Tree
  whole : trees ≡ nots ++ last ∷ []
  runs : run (waiting outer before []) tokens ≡ holding outer before nots last

-- what the parser makes of tokens that a rule spells
abbrev Runs : Rule → List Token → Tree → Type 0
Runs any tokens tree = (outer : Outer) → IsBase outer → AnyRuns outer tokens tree
Runs all tokens tree = (outer : Outer) → IsBase outer → (before : List Tree) → AllRuns outer before tokens tree
Runs not tokens tree = (outer : Outer) (alls nots : List Tree) → run (waiting outer alls nots) tokens ≡ settle outer alls nots tree
Runs atom tokens tree = (outer : Outer) (alls nots : List Tree) → run (waiting outer alls nots) tokens ≡ settle outer alls nots tree

mutual
  runs : {rule : Rule} {tokens : List Token} {tree : Tree} → Derives rule tokens tree → Runs rule tokens tree
  runs (some_all parts) = λ outer base.
      let r = runs_alls parts outer base in
      record { alls = r.alls; nots = r.nots; last = r.last; whole = ap disjoined r.whole; runs = r.runs }
  runs (some_not parts) = λ outer base before.
      let r = runs_nots parts outer base before in
      record { nots = r.nots; last = r.last; whole = ap conjoined r.whole; runs = r.runs }
  runs (not_not at part) = λ outer alls nots. runs part (in_not alls nots outer) [] []
  runs (not_atom part) = runs part
  runs (one_term bytes at) = λ outer alls nots. refl
  runs (in_parens {tokens = inner} at until part) = λ outer alls nots.
      let r = runs part (in_paren alls nots outer) (λ a n t. refl) in
      run_more inner (close_paren until ∷ []) (waiting (in_paren alls nots outer) [] [])
      ∙ ap (λ (p : Parser). run p (close_paren until ∷ [])) r.runs
      ∙ ap (λ (t : Tree). settle outer alls nots t) (sym r.whole)

  runs_alls : {tokens : List Token} {trees : List Tree} → AreAlls tokens trees → (outer : Outer) → IsBase outer → AllsRun outer tokens trees
  runs_alls (one_all part) = λ outer base.
      let r = runs part outer base [] in
      record { alls = []; nots = r.nots; last = r.last; whole = ap (λ (t : Tree). t ∷ []) r.whole; runs = r.runs }
  runs_alls (next_all {before = front} {tokens = inner} {parts = parts} at first part) = λ outer base.
      let r = runs_alls first outer base in
      let s = runs part outer base parts in
      record {
        alls = parts;
        nots = s.nots;
        last = s.last;
        whole = ap (λ (t : Tree). parts ++ t ∷ []) s.whole;
        runs = run_more front (or_word at ∷ inner) (waiting outer [] [])
            ∙ ap (λ (p : Parser). run p (or_word at ∷ inner)) r.runs
            ∙ ap (λ (l : List Tree). run (waiting outer l []) inner) (sym r.whole)
            ∙ s.runs;
      }

  runs_nots : {tokens : List Token} {trees : List Tree} → AreNots tokens trees → (outer : Outer) → IsBase outer → (before : List Tree) → NotsRun outer before tokens trees
  runs_nots (one_not {part = tree} part) = λ outer base before.
      record { nots = []; last = tree; whole = refl; runs = runs part outer before [] ∙ base before [] tree }
  runs_nots (next_not {before = front} {tokens = inner} {parts = parts} {part = tree} at first part) = λ outer base before.
      let r = runs_nots first outer base before in
      record {
        nots = parts;
        last = tree;
        whole = refl;
        runs = run_more front (and_word at ∷ inner) (waiting outer before [])
            ∙ ap (λ (p : Parser). run p (and_word at ∷ inner)) r.runs
            ∙ ap (λ (l : List Tree). run (waiting outer before l) inner) (sym r.whole)
            ∙ runs part outer before parts
            ∙ base before parts tree;
      }

-- the tree of a parser that holds a whole operand outermost
abbrev made : Parser → Tree
made (waiting outer alls nots) = of_term []
made (holding outer alls nots tree) = disjoined (alls ++ conjoined (nots ++ tree ∷ []) ∷ [])
made refused = of_term []

-- a query's tokens mean one tree
pub derived_once : {tokens : List Token} {a b : Tree} → Derives any tokens a → Derives any tokens b → a ≡ b
derived_once x y =
    let r = runs x outermost (λ a n t. refl) in
    let s = runs y outermost (λ a n t. refl) in
    r.whole ∙ ap made (sym r.runs ∙ s.runs) ∙ sym s.whole
