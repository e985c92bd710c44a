-- A text has one outcome at most: one query, or one fault.
use Rattle.std.proofs.Common.{◌≡◌, ℕ, ◌+◌, IsTrue, List, [], ◌∷◌, ◌++◌, length, refl, sym, ◌∙◌, ap, subst, append_assoc, arith}
use Rattle.bool_query.specs.Token.{Token, term, open_paren, close_paren, and_word, or_word, not_word, place_of, AreBlank}
use Rattle.bool_query.specs.Scan.{IsToken, IsOpenQuote}
use Rattle.bool_query.specs.Tree.{Tree}
use Rattle.bool_query.specs.Grammar.{Derives, any}
use Rattle.bool_query.specs.Fault.{HasNoParen, IsInnermost, HasOpenParen, needs_operand, IsAllowed, IsTokenFault, AreSound, IsFault, at_token, open_quote, no_operand, paren_left, IsQueryOf}
use Rattle.bool_query.specs.declared.error.QueryCause.{QueryCause}
use Rattle.bool_query.specs.declared.error.QueryCause.TheVariants.{Ended, Unexpected, OpenQuote, OpenParen, TooDeep}
use Rattle.bool_query.proofs.Closed.{open_once}
use Rattle.bool_query.proofs.Steps.{no_nil}
use Rattle.bool_query.proofs.Texts.{first_place}
use Rattle.bool_query.proofs.Derivations.{derived_once}
use Rattle.bool_query.proofs.Scanning.{front, nothing, a_quote, a_token, front_blank, front_token, front_quote}
use Rattle.bool_query.proofs.Walks.{Walk, step, first_walk, Compared, same, more_right, more_left, compare}

pub data Outcome : Type 0 where
  a_query : Tree → Outcome
  a_fault : ℕ → QueryCause → Outcome

-- what tokens without a fault mean that are all of a text, whose end is at this place
data Ends (end : ℕ) (tokens : List Token) : Outcome → Type 0 where
  lacks : IsTrue (needs_operand tokens) → Ends end tokens (a_fault end Ended)
  leaves : {place : ℕ} → ¬ IsTrue (needs_operand tokens) → IsInnermost tokens place → Ends end tokens (a_fault place OpenParen)
  means : {tree : Tree} → ¬ IsTrue (needs_operand tokens) → ¬ HasOpenParen tokens → Derives any tokens tree → Ends end tokens (a_query tree)

-- the outcome that shows behind the first tokens, before this rest
data Shows (end : ℕ) (tokens : List Token) (rest : List ℕ) : Outcome → Type 0 where
  by_token : (before : List Token) (token : Token) {cause : QueryCause} → tokens ≡ before ++ token ∷ [] → AreSound before → IsTokenFault before token cause → Shows end tokens rest (a_fault (place_of token) cause)
  by_quote : (at : ℕ) {place : ℕ} → at + length rest ≡ end → AreSound tokens → IsOpenQuote rest at place → Shows end tokens rest (a_fault place OpenQuote)
  by_end : {outcome : Outcome} → AreSound tokens → AreBlank rest → Ends end tokens outcome → Shows end tokens rest outcome

pub record Reached (text : List ℕ) (outcome : Outcome) : Type 0 where
  tokens : List Token
  rest : List ℕ
  walk : Walk (length text) text tokens rest
  shows : Shows (length text) tokens rest outcome

pub reached_query : {text : List ℕ} {tree : Tree} → IsQueryOf text tree → Reached text (a_query tree)
reached_query q = record {
  tokens = q.tokens;
  rest = q.are_tokens.rest;
  walk = first_walk q.are_tokens.first;
  shows = by_end q.sound q.are_tokens.blank (means q.ended q.closed q.derived);
}

pub reached_fault : {text : List ℕ} {place : ℕ} {cause : QueryCause} → IsFault text place cause → Reached text (a_fault place cause)
reached_fault (at_token before token {rest = rest} first sound fault) = record {
  tokens = before ++ token ∷ [];
  rest = rest;
  walk = first_walk first;
  shows = by_token before token refl sound fault;
}
reached_fault (open_quote {tokens = tokens} before sound) = record {
  tokens = tokens;
  rest = before.blanks ++ 34 ∷ before.rest;
  walk = first_walk before.first;
  shows = by_quote (length before.first.bytes) (first_place before.first) sound
      (record { blanks = before.blanks; rest = before.rest; blank = before.blank; no_quote = before.no_quote; spelt = refl; stands = before.stands });
}
reached_fault (no_operand {tokens = tokens} are sound needed) = record {
  tokens = tokens;
  rest = are.rest;
  walk = first_walk are.first;
  shows = by_end sound are.blank (lacks needed);
}
reached_fault (paren_left {tokens = tokens} are sound ended innermost) = record {
  tokens = tokens;
  rest = are.rest;
  walk = first_walk are.first;
  shows = by_end sound are.blank (leaves ended innermost);
}

-- the outcome behind the same tokens

-- the last `(` of the tokens
abbrev last_paren : List Token → ℕ → ℕ
last_paren [] place = place
last_paren (term bytes at ∷ tokens) place = last_paren tokens place
last_paren (open_paren at ∷ tokens) place = last_paren tokens at
last_paren (close_paren at ∷ tokens) place = last_paren tokens place
last_paren (and_word at ∷ tokens) place = last_paren tokens place
last_paren (or_word at ∷ tokens) place = last_paren tokens place
last_paren (not_word at ∷ tokens) place = last_paren tokens place

no_paren : (tokens : List Token) (place : ℕ) → HasNoParen tokens → last_paren tokens place ≡ place
no_paren [] place none = refl
no_paren (term bytes at ∷ tokens) place none = no_paren tokens place none
no_paren (open_paren at ∷ tokens) place none = absurd none
no_paren (close_paren at ∷ tokens) place none = no_paren tokens place none
no_paren (and_word at ∷ tokens) place none = no_paren tokens place none
no_paren (or_word at ∷ tokens) place none = no_paren tokens place none
no_paren (not_word at ∷ tokens) place none = no_paren tokens place none

paren_last : (outer inner : List Token) (at place : ℕ) → HasNoParen inner → last_paren (outer ++ open_paren at ∷ inner) place ≡ at
paren_last [] inner at place none = no_paren inner at none
paren_last (term bytes a ∷ outer) inner at place none = paren_last outer inner at place none
paren_last (open_paren a ∷ outer) inner at place none = paren_last outer inner at a none
paren_last (close_paren a ∷ outer) inner at place none = paren_last outer inner at place none
paren_last (and_word a ∷ outer) inner at place none = paren_last outer inner at place none
paren_last (or_word a ∷ outer) inner at place none = paren_last outer inner at place none
paren_last (not_word a ∷ outer) inner at place none = paren_last outer inner at place none

innermost_once : {tokens : List Token} {at place : ℕ} → IsInnermost tokens at → IsInnermost tokens place → at ≡ place
innermost_once {tokens} {at} {place} i j =
    sym (paren_last i.outer i.inner at 0 i.innermost)
    ∙ ap (λ (l : List Token). last_paren l 0) (open_once i.are_open j.are_open)
    ∙ paren_last j.outer j.inner place 0 j.innermost

ends_once : {end : ℕ} {tokens : List Token} {a b : Outcome} → Ends end tokens a → Ends end tokens b → a ≡ b
ends_once (lacks needed) (lacks needed') = refl
ends_once (lacks needed) (leaves ended innermost) = absurd (ended needed)
ends_once (lacks needed) (means ended closed derived) = absurd (ended needed)
ends_once (leaves ended innermost) (lacks needed) = absurd (ended needed)
ends_once (leaves ended innermost) (leaves ended' innermost') = ap (λ (n : ℕ). a_fault n OpenParen) (innermost_once innermost innermost')
ends_once (leaves {place = place} ended innermost) (means ended' closed derived) = absurd (closed (place, innermost))
ends_once (means ended closed derived) (lacks needed) = absurd (ended needed)
ends_once (means ended closed derived) (leaves {place = place} ended' innermost) = absurd (closed (place, innermost))
ends_once (means ended closed derived) (means ended' closed' derived') = ap a_query (derived_once derived derived')

-- a token's fault has one cause
data Cause (before : List Token) (token : Token) (cause : QueryCause) : Type 0 where
  disallowed : cause ≡ Unexpected → ¬ IsAllowed before token → Cause before token cause
  deep : cause ≡ TooDeep → IsAllowed before token → Cause before token cause

cause_of : (before : List Token) (token : Token) (cause : QueryCause) → IsTokenFault before token cause → Cause before token cause
cause_of before token Ended fault = absurd fault
cause_of before token Unexpected fault = disallowed refl fault
cause_of before token OpenQuote fault = absurd fault
cause_of before token OpenParen fault = absurd fault
cause_of before token TooDeep fault = deep refl fault.allowed

cause_once : {before : List Token} {token : Token} {a b : QueryCause} → Cause before token a → Cause before token b → a ≡ b
cause_once (disallowed e not_so) (disallowed f not_so') = e ∙ sym f
cause_once (disallowed e not_so) (deep f so) = absurd (not_so so)
cause_once (deep e so) (disallowed f not_so) = absurd (not_so so)
cause_once (deep e so) (deep f so') = e ∙ sym f

-- lists with one token more
record SameLast (a b : List Token) (token other : Token) : Type 0 where
  same_front : a ≡ b
  same_last : token ≡ other

last_once : (a b : List Token) (token other : Token) → a ++ token ∷ [] ≡ b ++ other ∷ [] → SameLast a b token other
last_once [] [] token other e = record { same_front = refl; same_last = cc }
last_once [] (u ∷ b) token other e = let nothing_left : [] ≡ b ++ other ∷ [] = cc in absurd (no_nil b [] other nothing_left)
last_once (t ∷ a) [] token other e = let nothing_left : [] ≡ a ++ token ∷ [] = cc in absurd (no_nil a [] token nothing_left)
last_once (t ∷ a) (u ∷ b) token other e =
    let first : t ≡ u = cc in
    let rest : a ++ token ∷ [] ≡ b ++ other ∷ [] = cc in
    let s = last_once a b token other rest in
    let front : a ≡ b = s.same_front in
    record { same_front = cc; same_last = s.same_last }

token_faults_once : (before other : List Token) (token last : Token) (a b : QueryCause) → before ++ token ∷ [] ≡ other ++ last ∷ [] → IsTokenFault before token a → IsTokenFault other last b → a_fault (place_of token) a ≡ a_fault (place_of last) b
token_faults_once before other token last a b e fault fault' =
    let s = last_once before other token last e in
    let moved : IsTokenFault before token b = subst (λ (t : Token). IsTokenFault before t b) (sym s.same_last) (subst (λ (l : List Token). IsTokenFault l last b) (sym s.same_front) fault') in
    ap (λ (t : Token). a_fault (place_of t) a) s.same_last
    ∙ ap (a_fault (place_of last)) (cause_once (cause_of before token a fault) (cause_of before token b moved))

-- no two of a token, a `"` without a later one and the end stand behind the same tokens
quote_once : {end : ℕ} {rest : List ℕ} (at other : ℕ) {place last : ℕ} → at + length rest ≡ end → other + length rest ≡ end → IsOpenQuote rest at place → IsOpenQuote rest other last → place ≡ last
quote_once {rest = rest} at other {place = place} {last = last} e f quote quote' =
    let here : at ≡ other = omega arith in
    let one : a_quote place ≡ a_quote last = sym (front_quote quote) ∙ ap (front rest) here ∙ front_quote quote' in
    cc

no_quote_at_end : {rest : List ℕ} {at place : ℕ} → IsOpenQuote rest at place → AreBlank rest → ⊥
no_quote_at_end {rest} {at} {place} quote blank =
    let one : a_quote place ≡ nothing = sym (front_quote quote) ∙ front_blank rest at blank in
    cc

shows_once : {end : ℕ} {tokens : List Token} {rest : List ℕ} {a b : Outcome} → Shows end tokens rest a → Shows end tokens rest b → a ≡ b
shows_once (by_token before token {cause = cause} e sound fault) (by_token other last {cause = cause'} e' sound' fault') =
    token_faults_once before other token last cause cause' (sym e ∙ e') fault fault'
shows_once (by_token before token {cause = cause} e sound fault) (by_quote at e' sound' quote) = absurd (sound' before [] token cause e fault)
shows_once (by_token before token {cause = cause} e sound fault) (by_end sound' blank ends) = absurd (sound' before [] token cause e fault)
shows_once (by_quote at e sound quote) (by_token before token {cause = cause} e' sound' fault) = absurd (sound before [] token cause e' fault)
shows_once (by_quote at e sound quote) (by_quote other e' sound' quote') = ap (λ (n : ℕ). a_fault n OpenQuote) (quote_once at other e e' quote quote')
shows_once (by_quote at e sound quote) (by_end sound' blank ends) = absurd (no_quote_at_end quote blank)
shows_once (by_end sound blank ends) (by_token before token {cause = cause} e' sound' fault) = absurd (sound before [] token cause e' fault)
shows_once (by_end sound blank ends) (by_quote at e sound' quote) = absurd (no_quote_at_end quote blank)
shows_once (by_end sound blank ends) (by_end sound' blank' ends') = ends_once ends ends'

-- the outcome behind more tokens

record Longer (before front : List Token) (token : Token) : Type 0 where
  more : List Token
  spelt : before ≡ front ++ token ∷ more

longer : (front : List Token) (token next : Token) (behind before : List Token) (last : Token) → front ++ token ∷ next ∷ behind ≡ before ++ last ∷ [] → Longer before front token
longer [] token next behind [] last e = absurd (cc)
longer [] token next behind (b ∷ before) last e = let first : token ≡ b = cc in record { more = before; spelt = cc }
longer (t ∷ front) token next behind [] last e = let nothing_left : [] ≡ front ++ token ∷ next ∷ behind = cc in absurd (no_nil front (next ∷ behind) token nothing_left)
longer (t ∷ front) token next behind (b ∷ before) last e =
    let first : t ≡ b = cc in
    let rest : front ++ token ∷ next ∷ behind ≡ before ++ last ∷ [] = cc in
    let l = longer front token next behind before last rest in
    let spelt : before ≡ front ++ token ∷ l.more = l.spelt in
    record { more = l.more; spelt = cc }

-- no token but the last is at fault
sound_front : {end : ℕ} {tokens : List Token} {rest : List ℕ} {outcome : Outcome} → Shows end tokens rest outcome → (front : List Token) (token next : Token) (behind : List Token) (cause : QueryCause) → tokens ≡ front ++ token ∷ next ∷ behind → ¬ IsTokenFault front token cause
sound_front (by_token before last e sound fault) front token next behind cause f =
    let l = longer front token next behind before last (sym f ∙ e) in
    sound front l.more token cause l.spelt
sound_front (by_quote at e sound quote) front token next behind cause f = sound front (next ∷ behind) token cause f
sound_front (by_end sound blank ends) front token next behind cause f = sound front (next ∷ behind) token cause f

-- a token is next
record Next (end : ℕ) (rest : List ℕ) : Type 0 where
  token : Token
  behind : List ℕ
  at : ℕ
  place : at + length rest ≡ end
  next : IsToken rest at token behind

next_of : {end : ℕ} {rest last : List ℕ} {token : Token} {more : List Token} → Walk end rest (token ∷ more) last → Next end rest
next_of (step {middle = middle} {token = token} at e t walk) = record { token = token; behind = middle; at = at; place = e; next = t }

not_more : {end : ℕ} {tokens others : List Token} {rest last : List ℕ} {a b : Outcome} → Shows end tokens rest a → Shows end others last b → (token : Token) (more : List Token) → others ≡ tokens ++ token ∷ more → Walk end rest (token ∷ more) last → ⊥
not_more (by_token before t {cause = cause} e sound fault) shows token more f walk =
    sound_front shows before t token more cause (f ∙ ap (λ (l : List Token). l ++ token ∷ more) e ∙ append_assoc before (t ∷ []) (token ∷ more)) fault
not_more {rest = rest} (by_quote at {place = place} e sound quote) shows token more f walk =
    let n = next_of walk in
    let place_e : n.at + length rest ≡ _ = n.place in
    let here : at ≡ n.at = omega arith in
    let one : a_quote place ≡ a_token n.token n.behind = sym (front_quote quote) ∙ ap (front rest) here ∙ front_token n.next in
    cc
not_more {rest = rest} (by_end sound blank ends) shows token more f walk =
    let n = next_of walk in
    let one : nothing ≡ a_token n.token n.behind = sym (front_blank rest n.at blank) ∙ front_token n.next in
    cc

-- two outcomes of a text are one
pub reached_once : {text : List ℕ} {a b : Outcome} → Reached text a → Reached text b → a ≡ b
reached_once {text} {a} {b} x y = by_walks (compare x.walk y.walk)
  where
    by_walks : Compared (length text) x.tokens y.tokens x.rest y.rest → a ≡ b
    by_walks (same e f) = shows_once x.shows
        (subst (λ (l : List ℕ). Shows (length text) x.tokens l b) (sym f) (subst (λ (l : List Token). Shows (length text) l y.rest b) (sym e) y.shows))
    by_walks (more_right token more e walk) = absurd (not_more x.shows y.shows token more e walk)
    by_walks (more_left token more e walk) = absurd (not_more y.shows x.shows token more e walk)

pub one_query : (text : List ℕ) (a b : Tree) → IsQueryOf text a → IsQueryOf text b → a ≡ b
one_query text a b x y =
    let one : a_query a ≡ a_query b = reached_once (reached_query x) (reached_query y) in
    cc

pub one_fault : (text : List ℕ) (at place : ℕ) (a b : QueryCause) → IsFault text at a → IsFault text place b → (at ≡ place) × (a ≡ b)
one_fault text at place a b x y =
    let one : a_fault at a ≡ a_fault place b = reached_once (reached_fault x) (reached_fault y) in
    (cc, cc)

pub never_both : (text : List ℕ) (query : Tree) (place : ℕ) (cause : QueryCause) → IsQueryOf text query → ¬ IsFault text place cause
never_both text query place cause x = λ y.
    let one : a_query query ≡ a_fault place cause = reached_once (reached_query x) (reached_fault y) in
    cc
