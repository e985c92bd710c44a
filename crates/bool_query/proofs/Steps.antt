-- What each token does to the state, and which of them are at fault.
use Rattle.std.proofs.Common.{◌≡◌, ◌≢◌, ℕ, Bool, false, IsTrue, List, [], ◌∷◌, ◌++◌, length, refl, sym, ◌∙◌, ap, subst, append_assoc}
use Rattle.std.proofs.lemmas.List.{append-nil, map-append, length-map}
use Rattle.std.proofs.lemmas.Bool.{false≢true}
use Rattle.bool_query.specs.Token.{Token, term, open_paren, close_paren, and_word, or_word, not_word}
use Rattle.bool_query.specs.Tree.{Tree, of_term, negation}
use Rattle.bool_query.specs.Grammar.{Derives, any, all, not, some_all, some_not, not_not, not_atom, one_term, in_parens, AreAlls, one_all, next_all, AreNots, one_not, next_not}
use Rattle.bool_query.specs.Fault.{opens, AreOpen, IsInnermost, HasOpenParen, asks, needs_operand, IsAllowed, IsTokenFault, AreSound}
use Rattle.bool_query.specs.State.{Frame, AreBeforeOr, no_or, some_or, AreBeforeAnd, no_and, some_and, IsLevel, is_not, last_negates, IsState, innermost, within, whole_all, whole_any, Waits, Holds}
use Rattle.bool_query.specs.declared.error.QueryCause.{QueryCause}
use Rattle.bool_query.specs.declared.error.QueryCause.TheVariants.{Ended, Unexpected, OpenQuote, OpenParen, TooDeep}
use Rattle.bool_query.proofs.Closed.{open_once}
use Rattle.bool_query.proofs.States.{no_tail, operand_tail, tokens_of, open_state}

-- lists with one token more

pub no_nil : (before behind : List Token) (token : Token) → [] ≡ before ++ token ∷ behind → ⊥
no_nil [] behind token e = cc
no_nil (t ∷ before) behind token e = cc

-- a token of a list with one more at its end is that one, or one of the list
data Split (tokens : List Token) (last : Token) (before behind : List Token) (token : Token) : Type 0 where
  at_last : before ≡ tokens → token ≡ last → Split tokens last before behind token
  earlier : (rest : List Token) → tokens ≡ before ++ token ∷ rest → Split tokens last before behind token

split_more : (t u : Token) (tokens : List Token) (last : Token) (before behind : List Token) (token : Token) → t ≡ u → Split tokens last before behind token → Split (t ∷ tokens) last (u ∷ before) behind token
split_more t u tokens last before behind token e (at_last p q) = at_last (cc) q
split_more t u tokens last before behind token e (earlier rest p) = earlier rest (cc)

split : (tokens : List Token) (last : Token) (before behind : List Token) (token : Token) → tokens ++ last ∷ [] ≡ before ++ token ∷ behind → Split tokens last before behind token
split [] last [] behind token e = at_last refl (cc)
split [] last (b ∷ before) behind token e = let nothing : [] ≡ before ++ token ∷ behind = cc in absurd (no_nil before behind token nothing)
split (t ∷ tokens) last [] behind token e = let same : t ≡ token = cc in earlier tokens (ap (λ (u : Token). u ∷ tokens) same)
split (t ∷ tokens) last (b ∷ before) behind token e =
    let same : t ≡ b = cc in
    let rest : tokens ++ last ∷ [] ≡ before ++ token ∷ behind = cc in
    split_more t b tokens last before behind token same (split tokens last before behind token rest)

sound_at : (tokens : List Token) (last : Token) (before behind : List Token) (token : Token) (cause : QueryCause) → AreSound tokens → ¬ IsTokenFault tokens last cause → Split tokens last before behind token → ¬ IsTokenFault before token cause
sound_at tokens last before behind token cause sound fine (at_last p q) = λ fault.
    fine (subst (λ (t : Token). IsTokenFault tokens t cause) q (subst (λ (l : List Token). IsTokenFault l token cause) p fault))
sound_at tokens last before behind token cause sound fine (earlier rest p) = sound before rest token cause p

pub sound_more : (tokens : List Token) (last : Token) → AreSound tokens → ((cause : QueryCause) → ¬ IsTokenFault tokens last cause) → AreSound (tokens ++ last ∷ [])
sound_more tokens last sound fine = λ before behind token cause e. sound_at tokens last before behind token cause sound (fine cause) (split tokens last before behind token e)

pub sound_nothing : AreSound []
sound_nothing = λ before behind token cause e. absurd (no_nil before behind token e)

pub needs_more : (tokens : List Token) (last : Token) → needs_operand (tokens ++ last ∷ []) ≡ asks last
needs_more [] last = refl
needs_more (t ∷ []) last = refl
needs_more (t ∷ u ∷ tokens) last = needs_more (u ∷ tokens) last

-- states with one frame more

no_level : IsLevel [] [] []
no_level = record { before_or = []; before_and = []; alls_spelt = no_or; nots_spelt = no_and; spelt = refl }

abbrev pub frame_at : Token → List Tree → List Tree → Frame
frame_at token alls nots = record { token = token; alls = alls; nots = nots }

push : {negates : Bool} {frames : List Frame} {alls nots : List Tree} {tokens : List Token} → IsState negates frames alls nots tokens → (token : Token) → IsTrue (opens token) → IsState negates (frames ++ frame_at token alls nots ∷ []) [] [] (tokens ++ token ∷ [])
push (innermost {tokens = tokens} level empty) token o = within tokens level empty o (innermost no_level (λ holds_so. refl))
push {alls = alls} {nots = nots} (within {negates = negates} {frame = frame} {frames = frames} {behind = behind} front level empty o inner) token o' =
    subst (IsState negates (frame ∷ (frames ++ frame_at token alls nots ∷ [])) [] []) (sym (append_assoc front (frame.token ∷ behind) (token ∷ [])))
    (within front level empty o (push inner token o'))

record Popped (negates : Bool) (frames : List Frame) (frame : Frame) (alls nots : List Tree) (tokens : List Token) : Type 0 where
  outer : List Token
  inner : List Token
  spelt : tokens ≡ outer ++ frame.token ∷ inner
  state : IsState negates frames frame.alls frame.nots outer
  level : IsLevel inner alls nots
  opening : IsTrue (opens frame.token)
  empty : IsTrue (is_not frame.token) → inner ≡ []

pop : {negates : Bool} (frames : List Frame) (frame : Frame) {alls nots : List Tree} {tokens : List Token} → IsState negates (frames ++ frame ∷ []) alls nots tokens → Popped negates frames frame alls nots tokens
pop [] frame (within front level empty o (innermost {tokens = inner} level' empty')) =
    record { outer = front; inner = inner; spelt = refl; state = innermost level empty; level = level'; opening = o; empty = empty' }
pop (f ∷ frames) frame (within front level empty o inner) =
    let p = pop frames frame inner in
    record {
      outer = front ++ f.token ∷ p.outer;
      inner = p.inner;
      spelt = ap (λ (l : List Token). front ++ f.token ∷ l) p.spelt ∙ sym (append_assoc front (f.token ∷ p.outer) (frame.token ∷ p.inner));
      state = within front level empty o p.state;
      level = p.level;
      opening = p.opening;
      empty = p.empty;
    }

-- other operands at the innermost level
relevel : {negates : Bool} {frames : List Frame} {alls nots : List Tree} {tokens : List Token} → IsState negates frames alls nots tokens → last_negates negates frames ≡ false → (more : List Token) (alls' nots' : List Tree) → ((inner : List Token) → IsLevel inner alls nots → IsLevel (inner ++ more) alls' nots') → IsState negates frames alls' nots' (tokens ++ more)
relevel (innermost {tokens = tokens} level empty) other more alls' nots' next = innermost (next tokens level) (λ holds_so. absurd (false≢true (sym other ∙ holds_so)))
relevel (within {negates = negates} {frame = frame} {frames = frames} {behind = behind} front level empty o inner) other more alls' nots' next =
    subst (IsState negates (frame ∷ frames) alls' nots') (sym (append_assoc front (frame.token ∷ behind) more))
    (within front level empty o (relevel inner other more alls' nots' next))

pub last_more : (negates : Bool) (frames : List Frame) (frame : Frame) → last_negates negates (frames ++ frame ∷ []) ≡ is_not frame.token
last_more negates [] frame = refl
last_more negates (f ∷ frames) frame = last_more (is_not f.token) frames frame

-- operands of a level

and_all : {tokens own : List Token} {trees : List Tree} {tree : Tree} → AreBeforeAnd tokens trees → Derives not own tree → AreNots (tokens ++ own) (trees ++ tree ∷ [])
and_all no_and derived = one_not derived
and_all {own = own} {tree = tree} (some_and {tokens = inner} {parts = parts} at before) derived =
    subst (λ (l : List Token). AreNots l (parts ++ tree ∷ [])) (sym (append_assoc inner (and_word at ∷ []) own)) (next_not at before derived)

or_any : {tokens own : List Token} {trees : List Tree} {tree : Tree} → AreBeforeOr tokens trees → Derives all own tree → AreAlls (tokens ++ own) (trees ++ tree ∷ [])
or_any no_or derived = one_all derived
or_any {own = own} {tree = tree} (some_or {tokens = inner} {parts = parts} at before) derived =
    subst (λ (l : List Token). AreAlls l (parts ++ tree ∷ [])) (sym (append_assoc inner (or_word at ∷ []) own)) (next_all at before derived)

level_any : {inner own : List Token} {alls nots : List Tree} {tree : Tree} → IsLevel inner alls nots → Derives not own tree → Derives any (inner ++ own) (whole_any alls nots tree)
level_any {inner} {own} {alls} {nots} {tree} level derived =
    some_all (subst (λ (l : List Token). AreAlls l (alls ++ whole_all nots tree ∷ []))
    (sym (ap (λ (l : List Token). l ++ own) level.spelt ∙ append_assoc level.before_or level.before_and own))
    (or_any level.alls_spelt (some_not (and_all level.nots_spelt derived))))

level_and : {own : List Token} {alls nots : List Tree} {tree : Tree} → Derives not own tree → (at : ℕ) (inner : List Token) → IsLevel inner alls nots → IsLevel (inner ++ (own ++ and_word at ∷ [])) alls (nots ++ tree ∷ [])
level_and {own} derived at inner level =
    let regrouped : (level.before_or ++ level.before_and) ++ (own ++ and_word at ∷ []) ≡ level.before_or ++ ((level.before_and ++ own) ++ and_word at ∷ []) = simp append_assoc in
    record {
      before_or = level.before_or;
      before_and = (level.before_and ++ own) ++ and_word at ∷ [];
      alls_spelt = level.alls_spelt;
      nots_spelt = some_and at (and_all level.nots_spelt derived);
      spelt = ap (λ (l : List Token). l ++ (own ++ and_word at ∷ [])) level.spelt ∙ regrouped;
    }

level_or : {own : List Token} {alls nots : List Tree} {tree : Tree} → Derives not own tree → (at : ℕ) (inner : List Token) → IsLevel inner alls nots → IsLevel (inner ++ (own ++ or_word at ∷ [])) (alls ++ whole_all nots tree ∷ []) []
level_or {own} derived at inner level =
    let regrouped : (level.before_or ++ level.before_and) ++ (own ++ or_word at ∷ []) ≡ ((level.before_or ++ (level.before_and ++ own)) ++ or_word at ∷ []) ++ [] = simp (append_assoc, append-nil) in
    record {
      before_or = (level.before_or ++ (level.before_and ++ own)) ++ or_word at ∷ [];
      before_and = [];
      alls_spelt = some_or at (or_any level.alls_spelt (some_not (and_all level.nots_spelt derived)));
      nots_spelt = no_and;
      spelt = ap (λ (l : List Token). l ++ (own ++ or_word at ∷ [])) level.spelt ∙ regrouped;
    }

-- which tokens aren't at fault

no_fault_closing : (tokens : List Token) (token : Token) → IsAllowed tokens token → opens token ≡ false → (cause : QueryCause) → ¬ IsTokenFault tokens token cause
no_fault_closing tokens token allowed closed Ended = λ fault. fault
no_fault_closing tokens token allowed closed Unexpected = λ fault. fault allowed
no_fault_closing tokens token allowed closed OpenQuote = λ fault. fault
no_fault_closing tokens token allowed closed OpenParen = λ fault. fault
no_fault_closing tokens token allowed closed TooDeep = λ fault. false≢true (sym closed ∙ fault.opening)

no_fault_opening : (tokens ones : List Token) (token : Token) → IsAllowed tokens token → AreOpen tokens ones → length ones ≢ 64 → (cause : QueryCause) → ¬ IsTokenFault tokens token cause
no_fault_opening tokens ones token allowed are few Ended = λ fault. fault
no_fault_opening tokens ones token allowed are few Unexpected = λ fault. fault allowed
no_fault_opening tokens ones token allowed are few OpenQuote = λ fault. fault
no_fault_opening tokens ones token allowed are few OpenParen = λ fault. fault
no_fault_opening tokens ones token allowed are few TooDeep = λ fault. few (ap length (open_once are fault.are_open) ∙ fault.full)

-- where an operand is needed
module _ {tokens : List Token} {frames : List Frame} {alls nots : List Tree} (waits : Waits tokens frames alls nots) where
  pub waits_open : AreOpen tokens (tokens_of frames)
  waits_open = subst (λ (l : List Token). AreOpen l (tokens_of frames)) (append-nil tokens) (open_state waits.state [] (no_tail (last_negates false frames)))

  pub waits_paren : (at : ℕ) → length frames ≢ 64 → Waits (tokens ++ open_paren at ∷ []) (frames ++ frame_at (open_paren at) alls nots ∷ []) [] []
  waits_paren at few = record {
    state = push waits.state (open_paren at) refl;
    sound = sound_more tokens (open_paren at) waits.sound (no_fault_opening tokens (tokens_of frames) (open_paren at) waits.needed waits_open (λ e. few (sym (length-map frames (λ (f : Frame). f.token)) ∙ e)));
    needed = needs_more tokens (open_paren at);
  }

  pub waits_not : (at : ℕ) → length frames ≢ 64 → Waits (tokens ++ not_word at ∷ []) (frames ++ frame_at (not_word at) alls nots ∷ []) [] []
  waits_not at few = record {
    state = push waits.state (not_word at) refl;
    sound = sound_more tokens (not_word at) waits.sound (no_fault_opening tokens (tokens_of frames) (not_word at) waits.needed waits_open (λ e. few (sym (length-map frames (λ (f : Frame). f.token)) ∙ e)));
    needed = needs_more tokens (not_word at);
  }

  pub waits_term : (bytes : List ℕ) (at : ℕ) → Holds (tokens ++ term bytes at ∷ []) frames alls nots (of_term bytes)
  waits_term bytes at = record {
    before = tokens;
    own = term bytes at ∷ [];
    spelt = refl;
    state = waits.state;
    derived = not_atom (one_term bytes at);
    sound = sound_more tokens (term bytes at) waits.sound (no_fault_closing tokens (term bytes at) waits.needed refl);
    needed = needs_more tokens (term bytes at);
  }

  pub waits_deep : (token : Token) → IsAllowed tokens token → IsTrue (opens token) → length frames ≡ 64 → IsTokenFault tokens token TooDeep
  waits_deep token allowed o full = record { allowed = allowed; opening = o; open_ones = tokens_of frames; are_open = waits_open; full = length-map frames (λ (f : Frame). f.token) ∙ full }

-- where an operand is whole
module _ {tokens : List Token} {frames : List Frame} {alls nots : List Tree} {tree : Tree} (holds : Holds tokens frames alls nots tree) where
  holds_allowed : ¬ IsTrue (needs_operand tokens)
  holds_allowed = λ holds_so. false≢true (sym holds.needed ∙ holds_so)

  pub holds_open : last_negates false frames ≡ false → AreOpen tokens (tokens_of frames)
  holds_open other = subst (λ (l : List Token). AreOpen l (tokens_of frames)) (sym holds.spelt) (open_state holds.state holds.own (operand_tail (last_negates false frames) other holds.derived))

  pub holds_and : last_negates false frames ≡ false → (at : ℕ) → Waits (tokens ++ and_word at ∷ []) frames alls (nots ++ tree ∷ [])
  holds_and other at = record {
    state = subst (IsState false frames alls (nots ++ tree ∷ [])) (sym (ap (λ (l : List Token). l ++ and_word at ∷ []) holds.spelt ∙ append_assoc holds.before holds.own (and_word at ∷ [])))
        (relevel holds.state other (holds.own ++ and_word at ∷ []) alls (nots ++ tree ∷ []) (level_and holds.derived at));
    sound = sound_more tokens (and_word at) holds.sound (no_fault_closing tokens (and_word at) holds_allowed refl);
    needed = needs_more tokens (and_word at);
  }

  pub holds_or : last_negates false frames ≡ false → (at : ℕ) → Waits (tokens ++ or_word at ∷ []) frames (alls ++ whole_all nots tree ∷ []) []
  holds_or other at = record {
    state = subst (IsState false frames (alls ++ whole_all nots tree ∷ []) []) (sym (ap (λ (l : List Token). l ++ or_word at ∷ []) holds.spelt ∙ append_assoc holds.before holds.own (or_word at ∷ [])))
        (relevel holds.state other (holds.own ++ or_word at ∷ []) (alls ++ whole_all nots tree ∷ []) [] (level_or holds.derived at));
    sound = sound_more tokens (or_word at) holds.sound (no_fault_closing tokens (or_word at) holds_allowed refl);
    needed = needs_more tokens (or_word at);
  }

level_of : {negates : Bool} {alls nots : List Tree} {tokens : List Token} → IsState negates [] alls nots tokens → IsLevel tokens alls nots
level_of (innermost level empty) = level

-- where an operand is whole and no token is open
module _ {tokens : List Token} {alls nots : List Tree} {tree : Tree} (holds : Holds tokens [] alls nots tree) where
  pub holds_end : Derives any tokens (whole_any alls nots tree)
  holds_end = subst (λ (l : List Token). Derives any l (whole_any alls nots tree)) (sym holds.spelt) (level_any (level_of holds.state) holds.derived)

  pub holds_closed : ¬ HasOpenParen tokens
  holds_closed = λ paren. no_nil paren.1.outer paren.1.inner (open_paren paren.0) (open_once (holds_open holds refl) paren.1.are_open)

-- where an operand is whole and this token is the last open one
module _ {tokens : List Token} (frames : List Frame) (frame : Frame) {alls nots : List Tree} {tree : Tree} (holds : Holds tokens (frames ++ frame ∷ []) alls nots tree) (at : ℕ) where
  pub holds_not : frame.token ≡ not_word at → Holds tokens frames frame.alls frame.nots (negation tree)
  holds_not e =
      let p = pop frames frame holds.state in
      let nothing : p.inner ≡ [] = p.empty (ap is_not e) in
      record {
        before = p.outer;
        own = not_word at ∷ holds.own;
        spelt = holds.spelt
            ∙ ap (λ (l : List Token). l ++ holds.own) (p.spelt ∙ ap (λ (l : List Token). p.outer ++ frame.token ∷ l) nothing ∙ ap (λ (t : Token). p.outer ++ t ∷ []) e)
            ∙ append_assoc p.outer (not_word at ∷ []) holds.own;
        state = p.state;
        derived = not_not at holds.derived;
        sound = holds.sound;
        needed = holds.needed;
      }

  pub holds_left : frame.token ≡ open_paren at → IsInnermost tokens at
  holds_left e = record {
    outer = tokens_of frames;
    inner = [];
    are_open = subst (λ (l : List Token). AreOpen tokens l)
        (map-append (λ (f : Frame). f.token) frames (frame ∷ []) ∙ ap (λ (t : Token). tokens_of frames ++ t ∷ []) e)
        (holds_open holds (last_more false frames frame ∙ ap is_not e));
    innermost = tt;
  }

  pub holds_close : frame.token ≡ open_paren at → (until : ℕ) → Holds (tokens ++ close_paren until ∷ []) frames frame.alls frame.nots (whole_any alls nots tree)
  holds_close e until =
      let p = pop frames frame holds.state in
      let regrouped : ((p.outer ++ open_paren at ∷ p.inner) ++ holds.own) ++ close_paren until ∷ [] ≡ p.outer ++ (open_paren at ∷ (p.inner ++ holds.own) ++ close_paren until ∷ []) = simp append_assoc in
      let allowed : IsAllowed tokens (close_paren until) = ((λ holds_so. false≢true (sym holds.needed ∙ holds_so)), (at, holds_left e)) in
      record {
        before = p.outer;
        own = open_paren at ∷ (p.inner ++ holds.own) ++ close_paren until ∷ [];
        spelt = ap (λ (l : List Token). l ++ close_paren until ∷ [])
            (holds.spelt ∙ ap (λ (l : List Token). l ++ holds.own) (p.spelt ∙ ap (λ (t : Token). p.outer ++ t ∷ p.inner) e)) ∙ regrouped;
        state = p.state;
        derived = not_atom (in_parens at until (level_any p.level holds.derived));
        sound = sound_more tokens (close_paren until) holds.sound (no_fault_closing tokens (close_paren until) allowed refl);
        needed = needs_more tokens (close_paren until);
      }
