-- What each step of the parser does to its open tokens.
use Rattle.std.proofs.Common.{◌≡◌, ◌≢◌, ℕ, ◌-◌, suc, Bool, true, false, Some, None, Result, Ok, Err, IfOk, List, [], ◌∷◌, ◌++◌, length, refl, sym, ◌∙◌, ap, subst, arith, slice_get}
use Rattle.std.proofs.lemmas.List.{map-append, length-map}
use Rattle.std.proofs.lemmas.Bool.{false≢true}
use Rattle.bool_query.specs.Token.{Token, open_paren, close_paren, not_word, place_of, AreTokens}
use Rattle.bool_query.specs.Tree.{Tree, negation}
use Rattle.bool_query.specs.Fault.{IsTokenFault, IsQueryOf, IsFault, paren_left}
use Rattle.bool_query.specs.State.{Frame, no_or, no_and, is_not, last_negates, innermost, whole_any, Waits, Holds}
use Rattle.bool_query.specs.View.{tree_of, trees}
use Rattle.bool_query.specs.Parser.{opener, frame_of, frames, IsWhole}
use Rattle.bool_query.specs.declared.error.QueryCause.TheVariants.{Unexpected, OpenParen, TooDeep}
use Rattle.bool_query.specs.declared.parser.Open.{Open}
use Rattle.bool_query.specs.declared.parser.Whole.{Whole}
use Rattle.bool_query.proofs.Steps.{sound_nothing, last_more, frame_at, waits_paren, waits_not, waits_deep, holds_end, holds_closed, holds_not, holds_left, holds_close}

pub frames_more : (outer : List Open) (last : Open) → frames (outer ++ last ∷ []) ≡ frames outer ++ frame_of last ∷ []
frames_more outer last = map-append frame_of outer (last ∷ [])

pub started : Waits [] [] [] []
started = record {
  state = innermost (record { before_or = []; before_and = []; alls_spelt = no_or; nots_spelt = no_and; spelt = refl }) (λ negates. refl);
  sound = sound_nothing;
  needed = refl;
}

opened_at : {tokens : List Token} {outer : List Frame} {alls nots : List Tree} → Waits tokens outer alls nots → (negates : Bool) (at : ℕ) → length outer ≢ 64 → Waits (tokens ++ opener negates at ∷ []) (outer ++ frame_at (opener negates at) alls nots ∷ []) [] []
opened_at waits true at few = waits_not waits at few
opened_at waits false at few = waits_paren waits at few

pub opened : {tokens : List Token} (outer : List Open) (last : Open) → Waits tokens (frames outer) (trees last.level.alls.items) (trees last.level.nots.items) → length outer ≢ 64 → Waits (tokens ++ opener last.negates last.at ∷ []) (frames (outer ++ last ∷ [])) [] []
opened {tokens} outer last waits few =
    subst (λ (l : List Frame). Waits (tokens ++ opener last.negates last.at ∷ []) l [] []) (sym (frames_more outer last))
    (opened_at waits last.negates last.at (λ e. few (sym (length-map outer frame_of) ∙ e)))

opened_deep : {tokens : List Token} {outer : List Frame} {alls nots : List Tree} → Waits tokens outer alls nots → (negates : Bool) (at : ℕ) → length outer ≡ 64 → (at ≡ place_of (opener negates at)) × IsTokenFault tokens (opener negates at) TooDeep
opened_deep waits true at full = (refl, waits_deep waits (not_word at) waits.needed refl full)
opened_deep waits false at full = (refl, waits_deep waits (open_paren at) waits.needed refl full)

pub too_deep : {tokens : List Token} {alls nots : List Tree} (outer : List Open) → Waits tokens (frames outer) alls nots → (negates : Bool) (at : ℕ) → length outer ≡ 64 → (at ≡ place_of (opener negates at)) × IsTokenFault tokens (opener negates at) TooDeep
too_deep outer waits negates at full = opened_deep waits negates at (length-map outer frame_of ∙ full)

-- the last of the open tokens
pub record IsLast (outer : List Open) (last : Open) : Type 0 where
  pub before : List Open
  pub spelt : outer ≡ before ++ last ∷ []

last_behind : (o : Open) (outer : List Open) (last : Open) → slice_get (o ∷ outer) (length outer) ≡ Some last → IsLast (o ∷ outer) last
last_behind o [] last e = let same : o ≡ last = cc in record { before = []; spelt = ap (λ (l : Open). l ∷ []) same }
last_behind o (u ∷ outer) last e =
    let behind = last_behind u outer last e in
    record { before = o ∷ behind.before; spelt = ap (λ (l : List Open). o ∷ l) behind.spelt }

pub last_of : (outer : List Open) (last : Open) → slice_get outer (length outer - 1) ≡ Some last → IsLast outer last
last_of [] last e = absurd (cc)
last_of (o ∷ outer) last e =
    let place : suc (length outer) - 1 ≡ length outer = omega arith in
    last_behind o outer last (subst (λ (n : ℕ). slice_get (o ∷ outer) n ≡ Some last) place e)

some_behind : (o : Open) (outer : List Open) → slice_get (o ∷ outer) (length outer) ≡ None → ⊥
some_behind o [] e = cc
some_behind o (u ∷ outer) e = some_behind u outer e

pub none_of : (outer : List Open) → slice_get outer (length outer - 1) ≡ None → outer ≡ []
none_of [] e = refl
none_of (o ∷ outer) e =
    let place : suc (length outer) - 1 ≡ length outer = omega arith in
    absurd (some_behind o outer (subst (λ (n : ℕ). slice_get (o ∷ outer) n ≡ None) place e))

opener_negates : (negates : Bool) (at : ℕ) → is_not (opener negates at) ≡ negates
opener_negates true at = refl
opener_negates false at = refl

pub negates_more : (outer : List Open) (last : Open) → last_negates false (frames (outer ++ last ∷ [])) ≡ last.negates
negates_more outer last =
    ap (last_negates false) (frames_more outer last)
    ∙ last_more false (frames outer) (frame_of last)
    ∙ opener_negates last.negates last.at

pub negates_last : {outer : List Open} {last : Open} → IsLast outer last → last_negates false (frames outer) ≡ last.negates
negates_last {last = last} l = ap (λ (o : List Open). last_negates false (frames o)) l.spelt ∙ negates_more l.before last

-- an operand behind a last open token
module _ {tokens : List Token} (outer : List Open) (last : Open) {alls nots : List Tree} {tree : Tree} (holds : Holds tokens (frames (outer ++ last ∷ [])) alls nots tree) where
  moved : Holds tokens (frames outer ++ frame_of last ∷ []) alls nots tree
  moved = subst (λ (l : List Frame). Holds tokens l alls nots tree) (frames_more outer last) holds

  pub holds_negated : last.negates ≡ true → Holds tokens (frames outer) (trees last.level.alls.items) (trees last.level.nots.items) (negation tree)
  holds_negated e = holds_not (frames outer) (frame_of last) moved last.at (ap (λ (n : Bool). opener n last.at) e)

  paren : last_negates false (frames (outer ++ last ∷ [])) ≡ false → opener last.negates last.at ≡ open_paren last.at
  paren settled = ap (λ (n : Bool). opener n last.at) (sym (negates_more outer last) ∙ settled)

  pub holds_closing : last_negates false (frames (outer ++ last ∷ [])) ≡ false → (until : ℕ) → Holds (tokens ++ close_paren until ∷ []) (frames outer) (trees last.level.alls.items) (trees last.level.nots.items) (whole_any alls nots tree)
  holds_closing settled until = holds_close (frames outer) (frame_of last) moved last.at (paren settled) until

  pub holds_open_paren : last_negates false (frames (outer ++ last ∷ [])) ≡ false → {text : List ℕ} → AreTokens text tokens → IsFault text last.at OpenParen
  holds_open_paren settled are =
      paren_left are holds.sound (λ needed. false≢true (sym holds.needed ∙ needed)) (holds_left (frames outer) (frame_of last) moved last.at (paren settled))

-- an operand behind no open token
pub holds_alone : {tokens : List Token} {outer : List Open} {alls nots : List Tree} {tree : Tree} → outer ≡ [] → Holds tokens (frames outer) alls nots tree → Holds tokens [] alls nots tree
holds_alone {tokens} {outer} {alls} {nots} {tree} e holds = subst (λ (l : List Open). Holds tokens (frames l) alls nots tree) e holds

module _ {tokens : List Token} {alls nots : List Tree} {tree : Tree} (holds : Holds tokens [] alls nots tree) where
  pub holds_query : {text : List ℕ} → AreTokens text tokens → IsQueryOf text (whole_any alls nots tree)
  holds_query are = record {
    tokens = tokens;
    are_tokens = are;
    sound = holds.sound;
    ended = λ needed. false≢true (sym holds.needed ∙ needed);
    closed = holds_closed holds;
    derived = holds_end holds;
  }

  pub holds_no_paren : (at : ℕ) → IsTokenFault tokens (close_paren at) Unexpected
  holds_no_paren at = λ allowed. holds_closed holds allowed.1

-- the innermost `(` is left open behind a whole operand
pub open_paren_left : {whole : Whole} {tokens : List Token} {text : List ℕ} {last : Open} → IsLast whole.outer.items last → IsWhole whole tokens → AreTokens text tokens → IsFault text last.at OpenParen
open_paren_left {whole} {tokens} {text} {last} l is are =
    let holds = subst (λ (o : List Open). Holds tokens (frames o) (trees whole.level.alls.items) (trees whole.level.nots.items) (tree_of whole.operand)) l.spelt is.holds in
    let settled = subst (λ (o : List Open). last_negates false (frames o) ≡ false) l.spelt is.settled in
    holds_open_paren l.before last holds settled are

pub if_ok : {A E : Type 0} {P Q : A → Type 0} (result : Result A E) → IfOk result P → ((x : A) → P x → Q x) → IfOk result Q
if_ok (Ok x) h next = next x h
if_ok (Err e) h next = tt

-- the same operands of a level
pub same_level : {tokens : List Token} {outer : List Frame} {alls nots more_alls more_nots : List Tree} → more_alls ≡ alls → more_nots ≡ nots → Waits tokens outer alls nots → Waits tokens outer more_alls more_nots
same_level {tokens} {outer} {alls} {nots} {more_alls} {more_nots} e f waits =
    subst (λ (l : List Tree). Waits tokens outer l more_nots) (sym e) (subst (λ (l : List Tree). Waits tokens outer alls l) (sym f) waits)

-- the same operand
pub same_operand : {tokens : List Token} {outer : List Frame} {alls nots : List Tree} {tree other : Tree} → other ≡ tree → Holds tokens outer alls nots tree → Holds tokens outer alls nots other
same_operand {tokens} {outer} {alls} {nots} e holds = subst (Holds tokens outer alls nots) (sym e) holds

-- the last open token behind a whole operand
pub closing : {whole : Whole} {tokens : List Token} (outer : List Open) (last : Open) → whole.outer.items ≡ outer ++ last ∷ [] → IsWhole whole tokens → (until : ℕ) → Holds (tokens ++ close_paren until ∷ []) (frames outer) (trees last.level.alls.items) (trees last.level.nots.items) (whole_any (trees whole.level.alls.items) (trees whole.level.nots.items) (tree_of whole.operand))
closing {whole} {tokens} outer last e is until =
    let holds = subst (λ (o : List Open). Holds tokens (frames o) (trees whole.level.alls.items) (trees whole.level.nots.items) (tree_of whole.operand)) e is.holds in
    let settled = subst (λ (o : List Open). last_negates false (frames o) ≡ false) e is.settled in
    holds_closing outer last holds settled until

pub closing_none : {whole : Whole} {tokens : List Token} → whole.outer.items ≡ [] → IsWhole whole tokens → (at : ℕ) → IsTokenFault tokens (close_paren at) Unexpected
closing_none e is at = holds_no_paren (holds_alone e is.holds) at

pub no_items : (outer : List Open) → length outer ≡ 0 → outer ≡ []
no_items [] e = refl
no_items (o ∷ outer) e = absurd (omega arith)
