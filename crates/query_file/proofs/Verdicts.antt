-- A file is accepted as one list of queries, or refused in one way.
use Rattle.std.proofs.Common.{◌≡◌, ◌⊎◌, ℕ, suc, ◌+◌, ◌<◌, ◌≤◌, Bool, true, false, List, [], ◌∷◌, ◌++◌, length, Option, Some, None, IsUtf8, refl, sym, ap, subst, ◌∙◌, inl, inr}
use Rattle.std.proofs.lemmas.Bool.{cases_lt}
use Rattle.std.proofs.lemmas.Str.{IsUtf8-from_is_utf8, is_utf8-from_IsUtf8}
use Rattle.std.specs.Str.{is_utf8}
use Rattle.bool_query.specs.Token.{AreBlank, is_blank}
use Rattle.bool_query.specs.Tree.{Tree}
use Rattle.bool_query.specs.Laws.{QueryIsOne, FaultIsOne, NeverBoth, HasQueryOrFault, QueryOrFault}
use Rattle.query_file.specs.Lines.{HasNoFeed, without_return, AreLines, last_line, next_line}
use Rattle.query_file.specs.Queries.{Asks, AskEach, numbered, most_bytes, IsLineFault}
use Rattle.query_file.specs.Laws.{QueriesAreOne, FirstFaultIsOne, AcceptedHasNoFault, Verdict, accepted, too_long, at_fault, EveryFileHasVerdict}
use Rattle.query_file.specs.declared.error.LineCause.{LineCause}
use Rattle.query_file.specs.declared.error.LineCause.TheVariants.{NotText, NoQuery}
use Rattle.query_file.proofs.Feeds.{some_lines}

-- ---- the lines of a file

-- no feed stands before a feed
feed_within : (front rest : List ℕ) → HasNoFeed (front ++ 10 ∷ rest) → ⊥
feed_within [] rest none = none.0 refl
feed_within (byte ∷ front) rest none = feed_within front rest none.1

-- bytes up to the first feed, and behind it
pub record SameEnds (front other rest more : List ℕ) : Type 0 where
  pub fronts : front ≡ other
  pub rests : rest ≡ more

heads : (a b : ℕ) (xs ys : List ℕ) → a ∷ xs ≡ b ∷ ys → a ≡ b
heads a b xs ys e = cc

tails : (a b : ℕ) (xs ys : List ℕ) → a ∷ xs ≡ b ∷ ys → xs ≡ ys
tails a b xs ys e = cc

same_ends : (front other rest more : List ℕ) → HasNoFeed front → HasNoFeed other → front ++ 10 ∷ rest ≡ other ++ 10 ∷ more → SameEnds front other rest more
same_ends [] [] rest more none clear e = record { fronts = refl; rests = tails 10 10 rest more e }
same_ends [] (b ∷ other) rest more none clear e = absurd (clear.0 (sym (heads 10 b rest (other ++ 10 ∷ more) e)))
same_ends (a ∷ front) [] rest more none clear e = absurd (none.0 (heads a 10 (front ++ 10 ∷ rest) more e))
same_ends (a ∷ front) (b ∷ other) rest more none clear e =
    let inner = same_ends front other rest more none.1 clear.1 (tails a b (front ++ 10 ∷ rest) (other ++ 10 ∷ more) e) in
    record {
      fronts = ap (λ (x : ℕ). x ∷ front) (heads a b (front ++ 10 ∷ rest) (other ++ 10 ∷ more) e) ∙ ap (λ (xs : List ℕ). b ∷ xs) inner.fronts;
      rests = inner.rests;
    }

lines_agree : {file same : List ℕ} {lines others : List (List ℕ)} → AreLines file lines → AreLines same others → file ≡ same → lines ≡ others
lines_agree (last_line none) (last_line clear) e = ap (λ (l : List ℕ). l ∷ []) e
lines_agree (last_line none) (next_line {rest = rest} front clear more) e = absurd (feed_within front rest (subst HasNoFeed e none))
lines_agree (next_line {rest = rest} front none more) (last_line clear) e = absurd (feed_within front rest (subst HasNoFeed (sym e) clear))
lines_agree (next_line {rest = rest} {lines = lines} front none more) (next_line {rest = rest'} {lines = lines'} front' clear more') e =
    let ends = same_ends front front' rest rest' none clear e in
    ap (λ (l : List ℕ). without_return l ∷ lines) ends.fronts ∙ ap (λ (ls : List (List ℕ)). without_return front' ∷ ls) (lines_agree more more' ends.rests)

-- ---- what a line asks

asks_one : QueryIsOne → (line : List ℕ) (a b : Option Tree) → Asks line a → Asks line b → a ≡ b
asks_one law line None None p q = refl
asks_one law line None (Some u) p q = absurd (q.0 p)
asks_one law line (Some t) None p q = absurd (p.0 q)
asks_one law line (Some t) (Some u) p q = ap Some (law line t u p.2 q.2)

ask_once : QueryIsOne → (lines : List (List ℕ)) (a b : List (Option Tree)) → AskEach lines a → AskEach lines b → a ≡ b
ask_once law [] [] [] p q = refl
ask_once law [] [] (y ∷ b) p q = absurd q
ask_once law [] (x ∷ a) b p q = absurd p
ask_once law (l ∷ lines) [] b p q = absurd p
ask_once law (l ∷ lines) (x ∷ a) [] p q = absurd q
ask_once law (l ∷ lines) (x ∷ a) (y ∷ b) p q =
    ap (λ (o : Option Tree). o ∷ a) (asks_one law l x y p.0 q.0) ∙ ap (λ (os : List (Option Tree)). y ∷ os) (ask_once law lines a b p.1 q.1)

fault_asks_nothing : NeverBoth → (line : List ℕ) (found : Option Tree) (at : ℕ) (cause : LineCause) → Asks line found → IsLineFault line at cause → ⊥
fault_asks_nothing law line None at NotText p q = q.0 p
fault_asks_nothing law line None at (NoQuery cause) p q = q.0 p
fault_asks_nothing law line (Some t) at NotText p q = q.1 p.1
fault_asks_nothing law line (Some t) at (NoQuery cause) p q = law line t at cause p.2 q.2

line_fault_once : FaultIsOne → (line : List ℕ) (at place : ℕ) (one other : LineCause) → IsLineFault line at one → IsLineFault line place other → (at ≡ place) × (one ≡ other)
line_fault_once law line at place NotText NotText p q = (p.2 ∙ sym q.2, refl)
line_fault_once law line at place NotText (NoQuery d) p q = absurd (p.1 q.1)
line_fault_once law line at place (NoQuery c) NotText p q = absurd (q.1 p.1)
line_fault_once law line at place (NoQuery c) (NoQuery d) p q = let same = law line at place c d p.2 q.2 in (same.0, ap NoQuery same.1)

-- ---- the first line at fault

first_head : (l k : List ℕ) (ls ks : List (List ℕ)) → l ∷ ls ≡ k ∷ ks → l ≡ k
first_head l k ls ks e = cc

first_tail : (l k : List ℕ) (ls ks : List (List ℕ)) → l ∷ ls ≡ k ∷ ks → ls ≡ ks
first_tail l k ls ks e = cc

fault_once : NeverBoth → FaultIsOne → (before after : List (List ℕ)) (line other : List ℕ) (behind more : List (List ℕ)) (asked found : List (Option Tree)) (at place : ℕ) (c d : LineCause)
    → before ++ line ∷ behind ≡ after ++ other ∷ more → AskEach before asked → AskEach after found → IsLineFault line at c → IsLineFault other place d
    → (length before ≡ length after) × (at ≡ place) × (c ≡ d)
fault_once never law [] [] line other behind more asked found at place c d e p q one two =
    let same = line_fault_once law line at place c d one (subst (λ (l : List ℕ). IsLineFault l place d) (sym (first_head line other behind more e)) two) in
    (refl, same.0, same.1)
fault_once never law [] (k ∷ after) line other behind more asked [] at place c d e p q one two = absurd q
fault_once never law [] (k ∷ after) line other behind more asked (f ∷ found) at place c d e p q one two =
    absurd (fault_asks_nothing never k f at c q.0 (subst (λ (l : List ℕ). IsLineFault l at c) (first_head line k behind (after ++ other ∷ more) e) one))
fault_once never law (l ∷ before) [] line other behind more [] found at place c d e p q one two = absurd p
fault_once never law (l ∷ before) [] line other behind more (a ∷ asked) found at place c d e p q one two =
    absurd (fault_asks_nothing never l a place d p.0 (subst (λ (k : List ℕ). IsLineFault k place d) (sym (first_head l other (before ++ line ∷ behind) more e)) two))
fault_once never law (l ∷ before) (k ∷ after) line other behind more [] found at place c d e p q one two = absurd p
fault_once never law (l ∷ before) (k ∷ after) line other behind more (a ∷ asked) [] at place c d e p q one two = absurd q
fault_once never law (l ∷ before) (k ∷ after) line other behind more (a ∷ asked) (f ∷ found) at place c d e p q one two =
    let inner = fault_once never law before after line other behind more asked found at place c d (first_tail l k (before ++ line ∷ behind) (after ++ other ∷ more) e) p.1 q.1 one two in
    (ap suc inner.0, inner.1, inner.2)

fault_is_not_asked : NeverBoth → (before : List (List ℕ)) (line : List ℕ) (behind : List (List ℕ)) (asked : List (Option Tree)) (at : ℕ) (cause : LineCause) → AskEach (before ++ line ∷ behind) asked → IsLineFault line at cause → ⊥
fault_is_not_asked law [] line behind [] at cause p q = p
fault_is_not_asked law [] line behind (a ∷ asked) at cause p q = fault_asks_nothing law line a at cause p.0 q
fault_is_not_asked law (l ∷ before) line behind [] at cause p q = p
fault_is_not_asked law (l ∷ before) line behind (a ∷ asked) at cause p q = fault_is_not_asked law before line behind asked at cause p.1 q

-- ---- of files

pub queries_are_one : QueryIsOne → QueriesAreOne
queries_are_one law file one other p q =
    let lines : p.lines ≡ q.lines = lines_agree p.are_lines q.are_lines refl in
    let asked : p.asked ≡ q.asked = ask_once law q.lines p.asked q.asked (subst (λ (ls : List (List ℕ)). AskEach ls p.asked) lines p.ask) q.ask in
    p.are ∙ ap (numbered 1) asked ∙ sym q.are

pub first_fault_is_one : NeverBoth → FaultIsOne → FirstFaultIsOne
first_fault_is_one never law file line number at place c d p q =
    let same = fault_once never law p.before q.before p.line q.line p.behind q.behind p.asked q.asked at place c d (lines_agree p.are_lines q.are_lines refl) p.sound q.sound p.fault q.fault in
    (p.numbered ∙ ap (λ (n : ℕ). n + 1) same.0 ∙ sym q.numbered, same.1, same.2)

pub accepted_has_no_fault : NeverBoth → AcceptedHasNoFault
accepted_has_no_fault law file queries line at cause p q =
    let lines : p.lines ≡ q.before ++ q.line ∷ q.behind = lines_agree p.are_lines q.are_lines refl in
    fault_is_not_asked law q.before q.line q.behind p.asked at cause (subst (λ (ls : List (List ℕ)). AskEach ls p.asked) lines p.ask) q.fault

-- ---- there is one

blank_or_not : (line : List ℕ) → AreBlank line ⊎ (¬ AreBlank line)
blank_or_not [] = inl tt
blank_or_not (byte ∷ line) = by_test (is_blank byte) refl (blank_or_not line)
  where
    by_test : (test : Bool) → is_blank byte ≡ test → AreBlank line ⊎ (¬ AreBlank line) → AreBlank (byte ∷ line) ⊎ (¬ AreBlank (byte ∷ line))
    by_test true is (inl rest) = inl (is, rest)
    by_test true is (inr no_rest) = inr (λ all. no_rest all.1)
    by_test false is rest = inr (λ all. absurd (let wrong : false ≡ true = sym is ∙ all.0 in cc))

utf8_or_not : (line : List ℕ) → IsUtf8 line ⊎ (¬ IsUtf8 line)
utf8_or_not line = by_test (is_utf8 line) refl
  where
    by_test : (test : Bool) → is_utf8 line ≡ test → IsUtf8 line ⊎ (¬ IsUtf8 line)
    by_test true is = inl (IsUtf8-from_is_utf8 line is)
    by_test false is = inr (λ text. absurd (let wrong : false ≡ true = sym is ∙ is_utf8-from_IsUtf8 line text in cc))

-- a line asks something, or is at fault
data Told (line : List ℕ) : Type 0 where
  asks : (found : Option Tree) → Asks line found → Told line
  faulty : (at : ℕ) (cause : LineCause) → IsLineFault line at cause → Told line

told : QueryOrFault → (line : List ℕ) → Told line
told law line = by_blank (blank_or_not line)
  where
    by_text : (¬ AreBlank line) → IsUtf8 line → HasQueryOrFault line → Told line
    by_text some text (inl query) = asks (Some query.0) (some, text, query.1)
    by_text some text (inr fault) = faulty fault.0 (NoQuery fault.1) (some, text, fault.2)

    by_utf8 : (¬ AreBlank line) → IsUtf8 line ⊎ (¬ IsUtf8 line) → Told line
    by_utf8 some (inl text) = by_text some text (law line)
    by_utf8 some (inr wrong) = faulty 0 NotText (some, wrong, refl)

    by_blank : AreBlank line ⊎ (¬ AreBlank line) → Told line
    by_blank (inl blank) = asks None blank
    by_blank (inr some) = by_utf8 some (utf8_or_not line)

-- the first line at fault of some lines
record FirstFaulty (lines : List (List ℕ)) : Type 0 where
  pub before : List (List ℕ)
  pub line : List ℕ
  pub behind : List (List ℕ)
  pub spelt : lines ≡ before ++ line ∷ behind
  pub asked : List (Option Tree)
  pub sound : AskEach before asked
  pub at : ℕ
  pub cause : LineCause
  pub fault : IsLineFault line at cause

all_told : QueryOrFault → (lines : List (List ℕ)) → ((asked : List (Option Tree)) × AskEach lines asked) ⊎ FirstFaulty lines
all_told law [] = inl ([], tt)
all_told law (line ∷ lines) = by_first (told law line) (all_told law lines)
  where
    by_first : Told line → ((asked : List (Option Tree)) × AskEach lines asked) ⊎ FirstFaulty lines → ((asked : List (Option Tree)) × AskEach (line ∷ lines) asked) ⊎ FirstFaulty (line ∷ lines)
    by_first (faulty at cause fault) rest =
        inr (record { before = []; line = line; behind = lines; spelt = refl; asked = []; sound = tt; at = at; cause = cause; fault = fault })
    by_first (asks found one) (inl rest) = inl (found ∷ rest.0, (one, rest.1))
    by_first (asks found one) (inr bad) =
        inr (record {
          before = line ∷ bad.before;
          line = bad.line;
          behind = bad.behind;
          spelt = ap (λ (ls : List (List ℕ)). line ∷ ls) bad.spelt;
          asked = found ∷ bad.asked;
          sound = (one, bad.sound);
          at = bad.at;
          cause = bad.cause;
          fault = bad.fault;
        })

pub every_file_has_verdict : QueryOrFault → EveryFileHasVerdict
every_file_has_verdict law file = by_length (cases_lt most_bytes (length file))
  where
    by_lines : length file ≤ most_bytes → (lines : List (List ℕ)) → AreLines file lines → ((asked : List (Option Tree)) × AskEach lines asked) ⊎ FirstFaulty lines → Verdict file
    by_lines few lines are (inl all) = accepted (numbered 1 all.0) (record { few = few; lines = lines; are_lines = are; asked = all.0; ask = all.1; are = refl })
    by_lines few lines are (inr bad) =
        at_fault (length bad.before + 1) bad.at bad.cause
        (record {
          few = few;
          before = bad.before;
          line = bad.line;
          behind = bad.behind;
          are_lines = subst (λ (ls : List (List ℕ)). AreLines file ls) bad.spelt are;
          asked = bad.asked;
          sound = bad.sound;
          numbered = refl;
          fault = bad.fault;
        })

    by_length : (most_bytes < length file) ⊎ (length file ≤ most_bytes) → Verdict file
    by_length (inr few) = let lines = some_lines file in by_lines few lines.0 lines.1 (all_told law lines.0)
    by_length (inl long) = too_long long
