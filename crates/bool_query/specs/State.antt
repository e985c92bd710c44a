-- How far a parser has come: the open tokens, each with the operands that stand before it at its level.
-- These are what the parser keeps true. What it promises stands in Fault.
use Rattle.std.specs.Prelude.{◌≡◌, ℕ, Bool, true, false, IsTrue, List, [], ◌∷◌, ◌++◌}
use Rattle.bool_query.specs.Token.{Token, term, open_paren, close_paren, and_word, or_word, not_word}
use Rattle.bool_query.specs.Tree.{Tree, conjoined, disjoined}
use Rattle.bool_query.specs.Grammar.{Derives, not, AreAlls, AreNots}
use Rattle.bool_query.specs.Fault.{opens, needs_operand, AreSound}

-- an open token, with the operands at its level that stand before an `OR`, and before an `AND`
pub record Frame : Type 0 where
  pub token : Token
  pub alls : List Tree
  pub nots : List Tree

-- operands, and an `OR` behind the last
pub data AreBeforeOr : List Token → List Tree → Type 0 where
  no_or : AreBeforeOr [] []
  some_or : {tokens : List Token} {parts : List Tree} (at : ℕ)
      → AreAlls tokens parts → AreBeforeOr (tokens ++ or_word at ∷ []) parts

-- operands, and an `AND` behind the last
pub data AreBeforeAnd : List Token → List Tree → Type 0 where
  no_and : AreBeforeAnd [] []
  some_and : {tokens : List Token} {parts : List Tree} (at : ℕ)
      → AreNots tokens parts → AreBeforeAnd (tokens ++ and_word at ∷ []) parts

-- the operands of a level before the one that is missing
pub record IsLevel (tokens : List Token) (alls nots : List Tree) : Type 0 where
  pub before_or : List Token
  pub before_and : List Token
  pub alls_spelt : AreBeforeOr before_or alls
  pub nots_spelt : AreBeforeAnd before_and nots
  pub spelt : tokens ≡ before_or ++ before_and

abbrev pub is_not : Token → Bool
is_not (term bytes at) = false
is_not (open_paren at) = false
is_not (close_paren at) = false
is_not (and_word at) = false
is_not (or_word at) = false
is_not (not_word at) = true

-- what an operand completes behind those of its level: its `all`, and its `any`
abbrev pub whole_all : List Tree → Tree → Tree
whole_all nots operand = conjoined (nots ++ operand ∷ [])

abbrev pub whole_any : List Tree → List Tree → Tree → Tree
whole_any alls nots operand = disjoined (alls ++ whole_all nots operand ∷ [])

-- the last of the frames is a `NOT`, where what stands before the first is one or not
abbrev pub last_negates : Bool → List Frame → Bool
last_negates negates [] = negates
last_negates negates (frame ∷ frames) = last_negates (is_not frame.token) frames

-- The tokens are these frames', and behind the last those of a level of these operands. Nothing stands
-- between a `NOT` and the frame or the operand behind it.
pub data IsState : Bool → List Frame → List Tree → List Tree → List Token → Type 0 where
  innermost : {negates : Bool} {alls nots : List Tree} {tokens : List Token}
      → IsLevel tokens alls nots → (IsTrue negates → tokens ≡ []) → IsState negates [] alls nots tokens
  within : {negates : Bool} {frame : Frame} {frames : List Frame} {alls nots : List Tree} {behind : List Token}
      (front : List Token) → IsLevel front frame.alls frame.nots → (IsTrue negates → front ≡ [])
      → IsTrue (opens frame.token) → IsState (is_not frame.token) frames alls nots behind
      → IsState negates (frame ∷ frames) alls nots (front ++ frame.token ∷ behind)

-- an operand is needed behind these tokens
pub record Waits (tokens : List Token) (frames : List Frame) (alls nots : List Tree) : Type 0 where
  pub state : IsState false frames alls nots tokens
  pub sound : AreSound tokens
  pub needed : needs_operand tokens ≡ true

-- a whole operand of this meaning stands last
pub record Holds (tokens : List Token) (frames : List Frame) (alls nots : List Tree) (operand : Tree) : Type 0 where
  pub before : List Token
  pub own : List Token
  pub spelt : tokens ≡ before ++ own
  pub state : IsState false frames alls nots before
  pub derived : Derives not own operand
  pub sound : AreSound tokens
  pub needed : needs_operand tokens ≡ false
