-- The open tokens of a state are those of its frames.
use Rattle.std.proofs.Common.{◌≡◌, ℕ, suc, Bool, false, IsTrue, List, [], ◌∷◌, ◌++◌, map, refl, sym, ◌∙◌, ap, subst, append_assoc}
use Rattle.std.proofs.lemmas.List.{append-nil}
use Rattle.std.proofs.lemmas.Bool.{false≢true}
use Rattle.bool_query.specs.Token.{Token, term, open_paren, close_paren, and_word, or_word, not_word}
use Rattle.bool_query.specs.Tree.{Tree}
use Rattle.bool_query.specs.Grammar.{Derives, not}
use Rattle.bool_query.specs.Fault.{opens, AreOpen, none_open, first_open}
use Rattle.bool_query.specs.State.{Frame, AreBeforeOr, no_or, some_or, AreBeforeAnd, no_and, some_and, IsLevel, is_not, last_negates, IsState, innermost, within}
use Rattle.bool_query.proofs.Closed.{sinks, sinks-alls, sinks-nots, sinks-derived, passes, open-alls, open-nots, open-derived, not_behind, paren_closed, not_spelt}

or_sinks : {tokens : List Token} {trees : List Tree} → AreBeforeOr tokens trees → (rest : List Token) (depth : ℕ) → sinks (tokens ++ rest) depth ≡ sinks rest depth
or_sinks no_or rest depth = refl
or_sinks (some_or {tokens = inner} at parts) rest depth =
    ap (λ (l : List Token). sinks l depth) (append_assoc inner (or_word at ∷ []) rest) ∙ sinks-alls parts (or_word at ∷ rest) depth

and_sinks : {tokens : List Token} {trees : List Tree} → AreBeforeAnd tokens trees → (rest : List Token) (depth : ℕ) → sinks (tokens ++ rest) depth ≡ sinks rest depth
and_sinks no_and rest depth = refl
and_sinks (some_and {tokens = inner} at parts) rest depth =
    ap (λ (l : List Token). sinks l depth) (append_assoc inner (and_word at ∷ []) rest) ∙ sinks-nots parts (and_word at ∷ rest) depth

level_sinks : {tokens : List Token} {alls nots : List Tree} → IsLevel tokens alls nots → (rest : List Token) (depth : ℕ) → sinks (tokens ++ rest) depth ≡ sinks rest depth
level_sinks level rest depth =
    ap (λ (l : List Token). sinks (l ++ rest) depth) level.spelt
    ∙ ap (λ (l : List Token). sinks l depth) (append_assoc level.before_or level.before_and rest)
    ∙ or_sinks level.alls_spelt (level.before_and ++ rest) depth
    ∙ and_sinks level.nots_spelt rest depth

or_open : {tokens : List Token} {trees : List Tree} → AreBeforeOr tokens trees → (rest ones : List Token) → AreOpen rest ones → AreOpen (tokens ++ rest) ones
or_open no_or rest ones h = h
or_open (some_or {tokens = inner} at parts) rest ones h =
    subst (λ (l : List Token). AreOpen l ones) (sym (append_assoc inner (or_word at ∷ []) rest))
    (open-alls parts (or_word at ∷ rest) ones (passes (or_word at) rest ones refl h))

and_open : {tokens : List Token} {trees : List Tree} → AreBeforeAnd tokens trees → (rest ones : List Token) → AreOpen rest ones → AreOpen (tokens ++ rest) ones
and_open no_and rest ones h = h
and_open (some_and {tokens = inner} at parts) rest ones h =
    subst (λ (l : List Token). AreOpen l ones) (sym (append_assoc inner (and_word at ∷ []) rest))
    (open-nots parts (and_word at ∷ rest) ones (passes (and_word at) rest ones refl h))

level_open : {tokens : List Token} {alls nots : List Tree} → IsLevel tokens alls nots → (rest ones : List Token) → AreOpen rest ones → AreOpen (tokens ++ rest) ones
level_open level rest ones h =
    subst (λ (l : List Token). AreOpen (l ++ rest) ones) (sym level.spelt)
    (subst (λ (l : List Token). AreOpen l ones) (sym (append_assoc level.before_or level.before_and rest))
    (or_open level.alls_spelt (level.before_and ++ rest) ones (and_open level.nots_spelt rest ones h)))

-- what may stand behind a state's tokens: nothing behind a `NOT`, and else what is whole
pub record IsTail (negates : Bool) (more : List Token) : Type 0 where
  pub level : (depth : ℕ) → sinks more depth ≡ false
  pub closed : AreOpen more []
  pub none : IsTrue negates → more ≡ []

pub no_tail : (negates : Bool) → IsTail negates []
no_tail negates = record { level = λ depth. refl; closed = none_open; none = λ holds_so. refl }

-- an operand may stand behind what isn't a `NOT`
pub operand_tail : {rest : List Token} {tree : Tree} (negates : Bool) → negates ≡ false → Derives not rest tree → IsTail negates rest
operand_tail {rest} {tree} negates other derived = record {
  level = λ depth. ap (λ (l : List Token). sinks l depth) (sym (append-nil rest)) ∙ sinks-derived derived [] depth;
  closed = subst (λ (l : List Token). AreOpen l []) (append-nil rest) (open-derived derived [] [] none_open);
  none = λ holds_so. absurd (false≢true (sym other ∙ holds_so));
}

opening_sinks : (token : Token) (tokens : List Token) (depth : ℕ) → IsTrue (opens token) → ((d : ℕ) → sinks tokens d ≡ false) → sinks (token ∷ tokens) depth ≡ false
opening_sinks (term bytes at) tokens depth o h = absurd (false≢true o)
opening_sinks (open_paren at) tokens depth o h = h (suc depth)
opening_sinks (close_paren at) tokens depth o h = absurd (false≢true o)
opening_sinks (and_word at) tokens depth o h = absurd (false≢true o)
opening_sinks (or_word at) tokens depth o h = absurd (false≢true o)
opening_sinks (not_word at) tokens depth o h = h depth

state_sinks : {negates : Bool} {frames : List Frame} {alls nots : List Tree} {tokens : List Token} → IsState negates frames alls nots tokens → (more : List Token) → ((d : ℕ) → sinks more d ≡ false) → (depth : ℕ) → sinks (tokens ++ more) depth ≡ false
state_sinks (innermost level empty) more tail depth = level_sinks level more depth ∙ tail depth
state_sinks (within {frame = frame} {behind = behind} front level empty o inner) more tail depth =
    ap (λ (l : List Token). sinks l depth) (append_assoc front (frame.token ∷ behind) more)
    ∙ level_sinks level (frame.token ∷ behind ++ more) depth
    ∙ opening_sinks frame.token (behind ++ more) depth o (λ d. state_sinks inner more tail d)

-- no front of the tokens is spelt by `not`
abbrev pub HasNoFront : List Token → Type 0
HasNoFront tokens = (front rest : List Token) (tree : Tree) → tokens ≡ front ++ rest → ¬ Derives not front tree

unfinished_token : (token : Token) (tokens : List Token) → IsTrue (opens token) → ((d : ℕ) → sinks tokens d ≡ false) → (IsTrue (is_not token) → HasNoFront tokens) → HasNoFront (token ∷ tokens)
unfinished_token (term bytes at) tokens o level none = absurd (false≢true o)
unfinished_token (open_paren at) tokens o level none = λ front rest tree e derived. false≢true (sym (level 0) ∙ paren_closed derived at tokens rest e)
unfinished_token (close_paren at) tokens o level none = absurd (false≢true o)
unfinished_token (and_word at) tokens o level none = absurd (false≢true o)
unfinished_token (or_word at) tokens o level none = absurd (false≢true o)
unfinished_token (not_word at) tokens o level none = λ front rest tree e derived.
    let behind = not_behind derived at tokens rest e in none refl behind.front rest behind.tree behind.spelt behind.derived

no_front : {negates : Bool} {frames : List Frame} {alls nots : List Tree} {tokens : List Token} → IsState negates frames alls nots tokens → IsTrue negates → (more : List Token) → IsTail (last_negates negates frames) more → HasNoFront (tokens ++ more)
no_front (innermost level empty) holds_so more tail = λ front rest tree e derived.
    not_spelt derived rest (sym (ap (λ (l : List Token). l ++ more) (empty holds_so) ∙ tail.none holds_so) ∙ e)
no_front (within {frame = frame} {behind = behind} front level empty o inner) holds_so more tail = λ front' rest tree e derived.
    unfinished_token frame.token (behind ++ more) o (λ d. state_sinks inner more tail.level d) (λ n. no_front inner n more tail) front' rest tree
    (sym (ap (λ (l : List Token). (l ++ frame.token ∷ behind) ++ more) (empty holds_so)) ∙ e) derived

abbrev pub tokens_of : List Frame → List Token
tokens_of frames = map (λ frame. frame.token) frames

pub open_state : {negates : Bool} {frames : List Frame} {alls nots : List Tree} {tokens : List Token} → IsState negates frames alls nots tokens → (more : List Token) → IsTail (last_negates negates frames) more → AreOpen (tokens ++ more) (tokens_of frames)
open_state (innermost level empty) more tail = level_open level more [] tail.closed
open_state (within {frame = frame} {frames = frames} {behind = behind} front level empty o inner) more tail =
    subst (λ (l : List Token). AreOpen l (tokens_of (frame ∷ frames))) (sym (append_assoc front (frame.token ∷ behind) more))
    (level_open level (frame.token ∷ behind ++ more) (tokens_of (frame ∷ frames))
    (first_open (record { opening = o; unfinished = unfinished_token frame.token (behind ++ more) o (λ d. state_sinks inner more tail.level d) (λ n. no_front inner n more tail) })
    (open_state inner more tail)))
