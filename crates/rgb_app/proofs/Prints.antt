-- Texts that are printed piece by piece, and what follows where one of them breaks off.
use Rattle.std.proofs.Common.{◌≡◌, ℕ, pos, ◌+◌, ◌<◌, List, [], ◌∷◌, ◌++◌, length, take, drop, get_or, Option, Some, None, option_map, Result, Ok, Err, OnOk, OnErr, refl, sym, ap, subst, ◌∙◌, append_assoc, arith}
use Rattle.std.proofs.Math.Seq.{take-append-add}
use Rattle.std.proofs.lemmas.List.{append-nil, length-append, take-append-le, take-append-drop, take_more}
use Rattle.std.proofs.lemmas.Grind.{flat_map-append}
use Rattle.rgb_host.specs.Seen.{Seen, with_print, WriteFailed, PrintedThenFailed}
use Rattle.cell_claims.specs.declared.trace.KeptRound.{KeptRound}
use Rattle.rgb_app.specs.Text.{line_of, round_words, round_lines}
use Rattle.rgb_app.specs.Printing.{Adds}

-- ---- what is printed twice, and what isn't

abbrev with_printed : Seen → Option (List ℕ) → Seen
with_printed host printed = record host { printed = printed }

told_none : (told : Option (List ℕ)) → told ≡ option_map (λ told. told ++ []) told
told_none None = refl
told_none (Some text) = ap Some (sym (append-nil text))

told_twice : (a b : List ℕ) (told : Option (List ℕ)) → option_map (λ told. told ++ b) (option_map (λ told. told ++ a) told) ≡ option_map (λ told. told ++ (a ++ b)) told
told_twice a b None = refl
told_twice a b (Some text) = ap Some (append_assoc text a b)

print_none : (host : Seen) → host ≡ with_print [] host
print_none host = ap (with_printed host) (told_none host.printed)

print_twice : (a b : List ℕ) (host : Seen) → with_print b (with_print a host) ≡ with_print (a ++ b) host
print_twice a b host = ap (with_printed host) (told_twice a b host.printed)

-- ---- texts one behind the other

-- no text came yet
pub none_added : (held : List ℕ) (host : Seen) → Adds [] held held host host
none_added held host = record { printed = []; whole = sym (append-nil held); told = print_none host }

-- a text is held
pub held : (text before after : List ℕ) (host : Seen) → after ≡ before ++ text → Adds text before after host host
held text before after host is = record { printed = []; whole = is; told = print_none host }

joined : (x y p q r a b : List ℕ) → x ++ q ≡ p ++ a → y ++ r ≡ q ++ b → (x ++ y) ++ r ≡ p ++ (a ++ b)
joined x y p q r a b one two = append_assoc x y r ∙ ap (λ (w : List ℕ). x ++ w) two ∙ sym (append_assoc x q b) ∙ ap (λ (w : List ℕ). w ++ b) one ∙ append_assoc p a b

-- one text and then another
pub both : {a b p q r : List ℕ} {h i j : Seen} → Adds a p q h i → Adds b q r i j → Adds (a ++ b) p r h j
both {a} {b} {p} {q} {r} {h} {i} {j} one two = record {
  printed = one.printed ++ two.printed;
  whole = joined one.printed two.printed p q r a b one.whole two.whole;
  told = two.told ∙ ap (with_print two.printed) one.told ∙ print_twice one.printed two.printed h;
}

-- what was held is printed
pub flushed : (before after : List ℕ) (host end : Seen) → after ≡ [] → end ≡ with_print before host → Adds [] before after host end
flushed before after host end none is = record {
  printed = before;
  whole = ap (λ (w : List ℕ). before ++ w) none;
  told = is;
}

-- a text is printed where nothing is held
pub past : (text before : List ℕ) (host end : Seen) → before ≡ [] → end ≡ with_print text host → Adds text before before host end
past text before host end none is = record {
  printed = text;
  whole = ap (λ (w : List ℕ). text ++ w) none ∙ append-nil text ∙ ap (λ (w : List ℕ). w ++ text) (sym none);
  told = is;
}

-- ---- a text that broke off

-- broken off, whatever was to follow
pub cut_front : {a : List ℕ} {h j : Seen} (b : List ℕ) → PrintedThenFailed a h j → PrintedThenFailed (a ++ b) h j
cut_front {a} {h} {j} b cut = record {
  n = cut.n;
  within = omega (arith, cut.within, length-append a b);
  failed = subst (λ (w : List ℕ). WriteFailed (with_print w h) j) (sym (take-append-le cut.n a b cut.within)) cut.failed;
}

-- the first text came, and the next broke off
pub cut_later : {a p q : List ℕ} {h i j : Seen} (b : List ℕ) → Adds a p q h i → PrintedThenFailed (q ++ b) i j → PrintedThenFailed (p ++ (a ++ b)) h j
cut_later {a} {p} {q} {h} {i} {j} b one cut =
    let x = one.printed in
    let whole : x ++ (q ++ b) ≡ p ++ (a ++ b) = sym (append_assoc x q b) ∙ ap (λ (w : List ℕ). w ++ b) one.whole ∙ append_assoc p a b in
    let front : take (length x + cut.n) (p ++ (a ++ b)) ≡ x ++ take cut.n (q ++ b) = ap (take (length x + cut.n)) (sym whole) ∙ take-append-add x (q ++ b) cut.n in
    let same : with_print (take cut.n (q ++ b)) i ≡ with_print (take (length x + cut.n) (p ++ (a ++ b))) h =
    ap (with_print (take cut.n (q ++ b))) one.told ∙ print_twice x (take cut.n (q ++ b)) h ∙ ap (λ (w : List ℕ). with_print w h) (sym front) in
    record {
      n = length x + cut.n;
      within = omega (arith, cut.within, length-append x (q ++ b), ap length whole);
      failed = subst (λ (host : Seen). WriteFailed host j) same cut.failed;
    }

-- ---- clauses on one answer alone

pub on_err : {T E : Type 0} (result : Result T E) (P : Type 0) → P → OnErr result P
on_err (Ok x) P p = tt
on_err (Err e) P p = p

-- ---- lines of kept rounds

-- the round that stands where there is none
abbrev pub no_round : KeptRound
no_round = record { level = 0; start = 0; size = 0; before = pos 0; after = pos 0; pairs = 0 }

abbrev pub line_at : List KeptRound → ℕ → List ℕ
line_at rounds k = line_of (round_words (get_or rounds k no_round))

pub next_line : (rounds : List KeptRound) (k : ℕ) → k < length rounds → round_lines (take (k + 1) rounds) ≡ round_lines (take k rounds) ++ line_at rounds k
next_line rounds k lt =
    ap round_lines (take_more rounds k no_round lt)
    ∙ flat_map-append (λ r. line_of (round_words r)) (take k rounds) (get_or rounds k no_round ∷ [])
    ∙ ap (λ (w : List ℕ). round_lines (take k rounds) ++ w) (append-nil (line_at rounds k))

pub one_more : (rounds : List KeptRound) (k : ℕ) (p q r : List ℕ) (h i j : Seen) → k < length rounds → Adds (round_lines (take k rounds)) p q h i → Adds (line_at rounds k) q r i j
    → Adds (round_lines (take (k + 1) rounds)) p r h j
one_more rounds k p q r h i j lt before now = subst (λ (w : List ℕ). Adds w p r h j) (sym (next_line rounds k lt)) (both before now)

-- the lines of all rounds are those of the first and of the others
pub lines_left : (rounds : List KeptRound) (k : ℕ) → round_lines rounds ≡ round_lines (take k rounds) ++ round_lines (drop k rounds)
lines_left rounds k = ap round_lines (sym (take-append-drop k rounds)) ∙ flat_map-append (λ r. line_of (round_words r)) (take k rounds) (drop k rounds)

-- a line broke off
pub cut_at_line : (rounds : List KeptRound) (k : ℕ) (p q : List ℕ) (h i j : Seen) → k < length rounds → Adds (round_lines (take k rounds)) p q h i → PrintedThenFailed (q ++ line_at rounds k) i j
    → PrintedThenFailed (p ++ round_lines rounds) h j
cut_at_line rounds k p q h i j lt before cut =
    let front : PrintedThenFailed (p ++ round_lines (take (k + 1) rounds)) h j =
    subst (λ (w : List ℕ). PrintedThenFailed (p ++ w) h j) (sym (next_line rounds k lt)) (cut_later (line_at rounds k) before cut) in
    let all : (p ++ round_lines (take (k + 1) rounds)) ++ round_lines (drop (k + 1) rounds) ≡ p ++ round_lines rounds =
    append_assoc p (round_lines (take (k + 1) rounds)) (round_lines (drop (k + 1) rounds)) ∙ ap (λ (w : List ℕ). p ++ w) (sym (lines_left rounds (k + 1))) in
    subst (λ (w : List ℕ). PrintedThenFailed w h j) all (cut_front (round_lines (drop (k + 1) rounds)) front)

-- ---- a whole text, of three

-- all of it came, and nothing is held
pub all_came : {text : List ℕ} {h j : Seen} (q : List ℕ) → Adds text [] q h j → q ≡ [] → j ≡ with_print text h
all_came {text} {h} {j} q all none =
    all.told ∙ ap (λ (w : List ℕ). with_print w h) (sym (append-nil all.printed) ∙ ap (λ (w : List ℕ). all.printed ++ w) (sym none) ∙ all.whole)

pub three : {a b c p q r s : List ℕ} {h i j k : Seen} → Adds a p q h i → Adds b q r i j → Adds c r s j k → Adds (a ++ (b ++ c)) p s h k
three one two last = both one (both two last)

-- what was held is printed, and nothing is left
pub all_printed : {E : Type 0} (result : Result (Unit {0}) E) (text q r : List ℕ) (h i j : Seen) → Adds text [] q h i → OnOk result (Adds [] q r i j) → OnOk result (r ≡ []) → OnOk result (j ≡ with_print text h)
all_printed (Ok x) text q r h i j begun last none = all_came r (subst (λ (w : List ℕ). Adds w [] r h j) (append-nil text) (both begun last)) none
all_printed (Err e) text q r h i j begun last none = tt

-- what was held broke off
pub cut_held : (text q : List ℕ) (h i j : Seen) → Adds text [] q h i → PrintedThenFailed q i j → PrintedThenFailed text h j
cut_held text q h i j begun cut =
    subst (λ (w : List ℕ). PrintedThenFailed w h j) (append-nil text) (cut_later [] begun (subst (λ (w : List ℕ). PrintedThenFailed w i j) (sym (append-nil q)) cut))
