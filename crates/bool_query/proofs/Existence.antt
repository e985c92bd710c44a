-- Every text is a query or has a fault: its tokens are taken one after the other, as far as none is at fault.
use Rattle.std.proofs.Common.{◌≡◌, inl, inr, ℕ, zero, suc, ◌<◌, Bool, false, IsTrue, List, [], ◌∷◌, ◌++◌, length, refl, sym, ◌∙◌, ap, arith}
use Rattle.std.proofs.lemmas.Bool.{false≢true, cases_eq}
use Rattle.bool_query.specs.Token.{Token, term, open_paren, close_paren, and_word, or_word, not_word, place_of, AreFirstTokens, AreTokens}
use Rattle.bool_query.specs.Tree.{Tree}
use Rattle.bool_query.specs.Fault.{opens, IsTokenFault, AreSound, at_token, open_quote, no_operand, paren_left}
use Rattle.bool_query.specs.State.{Frame, no_or, no_and, is_not, last_negates, IsState, innermost, within, Waits, Holds}
use Rattle.bool_query.specs.Laws.{HasQueryOrFault}
use Rattle.bool_query.specs.declared.error.QueryCause.{QueryCause}
use Rattle.bool_query.specs.declared.error.QueryCause.TheVariants.{Ended, Unexpected, OpenQuote, OpenParen, TooDeep}
use Rattle.bool_query.proofs.Steps.{sound_nothing, last_more, waits_paren, waits_not, waits_term, waits_deep, holds_and, holds_or, holds_end, holds_closed, holds_not, holds_left, holds_close}
use Rattle.bool_query.proofs.Texts.{first_none, first_more, tokens_whole, tokens_before}
use Rattle.bool_query.proofs.NextTokens.{all_blank, quote_left, next_token, scan}

-- frames by the last of them
data Ending : List Frame → Type 0 where
  no_frame : Ending []
  last_frame : {frames : List Frame} (frame : Frame) → Ending frames → Ending (frames ++ frame ∷ [])

one_before : {frames : List Frame} (frame : Frame) → Ending frames → Ending (frame ∷ frames)
one_before frame no_frame = last_frame frame no_frame
one_before frame (last_frame last e) = last_frame last (one_before frame e)

ending : (frames : List Frame) → Ending frames
ending [] = no_frame
ending (frame ∷ frames) = one_before frame (ending frames)

-- an open token is `(` or `NOT`
data Opening (token : Token) : Type 0 where
  a_paren : (at : ℕ) → token ≡ open_paren at → Opening token
  a_not : (at : ℕ) → token ≡ not_word at → Opening token

opening : (token : Token) → IsTrue (opens token) → Opening token
opening (term bytes at) o = absurd (false≢true o)
opening (open_paren at) o = a_paren at refl
opening (close_paren at) o = absurd (false≢true o)
opening (and_word at) o = absurd (false≢true o)
opening (or_word at) o = absurd (false≢true o)
opening (not_word at) o = a_not at refl

last_opens : {negates : Bool} (frames : List Frame) (frame : Frame) {alls nots : List Tree} {tokens : List Token} → IsState negates (frames ++ frame ∷ []) alls nots tokens → IsTrue (opens frame.token)
last_opens [] frame (within front level empty o inner) = o
last_opens (f ∷ frames) frame (within front level empty o inner) = last_opens frames frame inner

not_last : (frames : List Frame) (frame : Frame) (at : ℕ) → last_negates false (frames ++ frame ∷ []) ≡ false → frame.token ≡ not_word at → ⊥
not_last frames frame at other e = false≢true (sym other ∙ last_more false frames frame ∙ ap is_not e)

-- behind tokens without a fault an operand is needed, or a whole one stands that closes each `NOT` before it
data Stands (tokens : List Token) : Type 0 where
  needs : {frames : List Frame} {alls nots : List Tree} → Waits tokens frames alls nots → Stands tokens
  whole : {frames : List Frame} {alls nots : List Tree} {tree : Tree} → Holds tokens frames alls nots tree → last_negates false frames ≡ false → Stands tokens

settled : {tokens : List Token} {frames : List Frame} {alls nots : List Tree} {tree : Tree} → Ending frames → Holds tokens frames alls nots tree → Stands tokens
settled no_frame holds = whole holds refl
settled (last_frame {frames = frames} frame e) holds = elim (opening frame.token (last_opens frames frame holds.state)) [
  | a_paren at f ↦ whole holds (last_more false frames frame ∙ ap is_not f)
  | a_not at f ↦ settled e (holds_not frames frame holds at f)
]

-- one token more
data After (tokens : List Token) (token : Token) : Type 0 where
  goes_on : Stands (tokens ++ token ∷ []) → After tokens token
  fails : AreSound tokens → (cause : QueryCause) → IsTokenFault tokens token cause → After tokens token

closes : {tokens : List Token} {frames : List Frame} {alls nots : List Tree} {tree : Tree} → Ending frames → Holds tokens frames alls nots tree → last_negates false frames ≡ false → (at : ℕ) → After tokens (close_paren at)
closes no_frame holds other at = fails holds.sound Unexpected (λ allowed. holds_closed holds allowed.1)
closes (last_frame {frames = frames} frame e) holds other at = elim (opening frame.token (last_opens frames frame holds.state)) [
  | a_paren place f ↦ goes_on (settled e (holds_close frames frame holds place f at))
  | a_not place f ↦ absurd (not_last frames frame place other f)
]

after : {tokens : List Token} → Stands tokens → (token : Token) → After tokens token
after (needs {frames = frames} waits) (term bytes at) = goes_on (settled (ending frames) (waits_term waits bytes at))
after (needs {frames = frames} waits) (open_paren at) = elim (cases_eq (length frames) 64) [
  | inl e ↦ fails waits.sound TooDeep (waits_deep waits (open_paren at) waits.needed refl e)
  | inr e ↦ goes_on (needs (waits_paren waits at e))
]
after (needs waits) (close_paren at) = fails waits.sound Unexpected (λ allowed. allowed.0 waits.needed)
after (needs waits) (and_word at) = fails waits.sound Unexpected (λ allowed. allowed waits.needed)
after (needs waits) (or_word at) = fails waits.sound Unexpected (λ allowed. allowed waits.needed)
after (needs {frames = frames} waits) (not_word at) = elim (cases_eq (length frames) 64) [
  | inl e ↦ fails waits.sound TooDeep (waits_deep waits (not_word at) waits.needed refl e)
  | inr e ↦ goes_on (needs (waits_not waits at e))
]
after (whole holds other) (term bytes at) = fails holds.sound Unexpected (λ allowed. false≢true (sym holds.needed ∙ allowed))
after (whole holds other) (open_paren at) = fails holds.sound Unexpected (λ allowed. false≢true (sym holds.needed ∙ allowed))
after (whole {frames = frames} holds other) (close_paren at) = closes (ending frames) holds other at
after (whole holds other) (and_word at) = goes_on (needs (holds_and holds other at))
after (whole holds other) (or_word at) = goes_on (needs (holds_or holds other at))
after (whole holds other) (not_word at) = fails holds.sound Unexpected (λ allowed. false≢true (sym holds.needed ∙ allowed))

-- the end of the text, or a `"` without a later one
ends : {text : List ℕ} {tokens : List Token} {frames : List Frame} {alls nots : List Tree} {tree : Tree} → Ending frames → Holds tokens frames alls nots tree → last_negates false frames ≡ false → AreTokens text tokens → HasQueryOrFault text
ends {tokens = tokens} no_frame holds other are = inl (
  _,
  record {
    tokens = tokens;
    are_tokens = are;
    sound = holds.sound;
    ended = λ needed. false≢true (sym holds.needed ∙ needed);
    closed = holds_closed holds;
    derived = holds_end holds;
  },
)
ends (last_frame {frames = frames} frame e) holds other are = elim (opening frame.token (last_opens frames frame holds.state)) [
  | a_paren place f ↦ inr (place, OpenParen, paren_left are holds.sound (λ needed. false≢true (sym holds.needed ∙ needed)) (holds_left frames frame holds place f))
  | a_not place f ↦ absurd (not_last frames frame place other f)
]

at_end : {text : List ℕ} {tokens : List Token} → Stands tokens → AreTokens text tokens → HasQueryOrFault text
at_end {text} (needs waits) are = inr (length text, Ended, no_operand are waits.sound waits.needed)
at_end (whole {frames = frames} holds other) are = ends (ending frames) holds other are

sound_of : {tokens : List Token} → Stands tokens → AreSound tokens
sound_of (needs waits) = waits.sound
sound_of (whole holds other) = holds.sound

-- the rest of the text, which is shorter than the fuel
settle : (fuel : ℕ) {text rest : List ℕ} {tokens : List Token} → length rest < fuel → AreFirstTokens text tokens rest → Stands tokens → HasQueryOrFault text
settle zero shorter first stands = absurd (omega arith)
settle (suc fuel) {rest = rest} {tokens = tokens} shorter first stands = elim (scan rest (length first.bytes)) [
  | all_blank blank ↦ at_end stands (tokens_whole first blank)
  | quote_left place quote ↦ inr (place, OpenQuote, open_quote (tokens_before first refl quote) (sound_of stands))
  | next_token token behind t less ↦ elim (after stands token) [
    | goes_on more ↦ settle fuel (omega arith) (first_more first refl t) more
    | fails sound cause fault ↦ inr (place_of token, cause, at_token tokens token (first_more first refl t) sound fault)
  ]
]

begins : Stands []
begins = needs (record {
  state = innermost (record { before_or = []; before_and = []; alls_spelt = no_or; nots_spelt = no_and; spelt = refl }) (λ negates. refl);
  sound = sound_nothing;
  needed = refl;
})

pub query_or_fault : (text : List ℕ) → HasQueryOrFault text
query_or_fault text = settle (suc (length text)) (omega arith) (first_none text) begins
