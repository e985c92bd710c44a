-- Pieces that are put one behind the other, and what follows where one of them breaks off.
use Rattle.std.proofs.Common.{◌≡◌, ℕ, List, [], ◌++◌, Result, Ok, Err, OnErr, sym, ap, subst, ◌∙◌, append_assoc}
use Rattle.std.proofs.lemmas.List.{append-nil}
use Rattle.rgb_host.specs.Seen.{Seen, Lacks, grown, AppendedThenFailed}
use Rattle.rgb_host.specs.Laws.{NothingAppended, FailedLater}
use Rattle.ciff_writer.specs.Sending.{Sending, Puts, Breaks}

-- nothing was put yet of bytes that are spelt in two ways
pub start : {name a b p : List ℕ} {h : Seen} → a ≡ b → Puts name a b p p h h
start {name} {a} {b} {p} {h} e = record { puts = λ all rest before s. subst (λ (x : List ℕ). Sending name all p (x ++ rest) before h) e s }

pub both : {name a b c p q r : List ℕ} {h i j : Seen} → Puts name a b p q h i → Puts name b c q r i j → Puts name a c p r h j
both x y = record { puts = λ all rest before s. y.puts all rest before (x.puts all rest before s) }

-- the next piece was put
pub next : {name a b c p q r : List ℕ} {h i j : Seen} → Puts name a (b ++ c) p q h i → Puts name b [] q r i j → Puts name a c p r h j
next {name} {a} {b} {c} {p} {q} {r} {h} {i} {j} x y = record {
  puts = λ all rest before s.
      y.puts all (c ++ rest) before (subst (λ (w : List ℕ). Sending name all q w before i) (append_assoc b c rest) (x.puts all rest before s));
}

-- bytes that are spelt in two ways
pub spelt : {name a b p q : List ℕ} {h i : Seen} → a ≡ b → Puts name a [] p q h i → Puts name b [] p q h i
spelt {name} {a} {b} {p} {q} {h} {i} e x = subst (λ (w : List ℕ). Puts name w [] p q h i) e x

pub spelt_broken : {name a b p : List ℕ} {h i : Seen} → a ≡ b → Breaks name a p h i → Breaks name b p h i
spelt_broken {name} {a} {b} {p} {h} {i} e x = subst (λ (w : List ℕ). Breaks name w p h i) e x

-- bytes are held
pub held : {name bytes p q : List ℕ} {h : Seen} → q ≡ p ++ bytes → Puts name bytes [] p q h h
held {name} {bytes} {p} {q} {h} e = record {
  puts = λ all rest before s. record {
    front = s.front;
    whole = s.whole ∙ ap (λ (w : List ℕ). s.front ++ w) (sym (append_assoc p bytes rest) ∙ ap (λ (w : List ℕ). w ++ rest) (sym e));
    told = s.told;
  };
}

-- bytes are held, but for some that are left
pub held_but : {name bytes left p q : List ℕ} {h : Seen} → q ++ left ≡ p ++ bytes → Puts name bytes left p q h h
held_but {name} {bytes} {left} {p} {q} {h} e = record {
  puts = λ all rest before s. record {
    front = s.front;
    whole = s.whole ∙ ap (λ (w : List ℕ). s.front ++ w) (sym (append_assoc p bytes rest) ∙ ap (λ (w : List ℕ). w ++ rest) (sym e) ∙ append_assoc q left rest);
    told = s.told;
  };
}

-- the next piece broke off
pub cut : {name a b p q : List ℕ} {h i j : Seen} (c : List ℕ) → Puts name a (b ++ c) p q h i → Breaks name b q i j → Breaks name a p h j
cut {name} {a} {b} {p} {q} {h} {i} {j} c x y = record {
  breaks = λ all rest before s.
      y.breaks all (c ++ rest) before (subst (λ (w : List ℕ). Sending name all q w before i) (append_assoc b c rest) (x.puts all rest before s));
}

-- the last piece broke off
pub cut_last : {name a b p q : List ℕ} {h i j : Seen} → Puts name a b p q h i → Breaks name b q i j → Breaks name a p h j
cut_last x y = record { breaks = λ all rest before s. y.breaks all rest before (x.puts all rest before s) }

-- it broke off while room was made, before any of the bytes
pub cut_room : {name a b p q : List ℕ} {h i j : Seen} → Puts name a b p q h i → Breaks name [] q i j → Breaks name a p h j
cut_room {name} {a} {b} x y = record { breaks = λ all rest before s. y.breaks all (b ++ rest) before (x.puts all rest before s) }

-- room was made
pub roomy : {name a b p q r : List ℕ} {h i j : Seen} → Puts name a b p q h i → Puts name [] [] q r i j → Puts name a b p r h j
roomy {name} {a} {b} x y = record { puts = λ all rest before s. y.puts all (b ++ rest) before (x.puts all rest before s) }

-- bytes that were appended past the buffer broke off
pub cut_past : FailedLater → {name bytes p : List ℕ} {h i j : Seen} → Puts name [] [] p [] h i → AppendedThenFailed name bytes i j → Breaks name bytes p h j
cut_past law {name} {bytes} {p} {h} {i} {j} x failed = record {
  breaks = λ all rest before s.
      let t = x.puts all (bytes ++ rest) before s in
      subst (λ (w : List ℕ). AppendedThenFailed name w before j) (sym t.whole)
      (law before j name t.front bytes rest (subst (λ (host : Seen). AppendedThenFailed name bytes host j) t.told failed));
}

-- ---- clauses on one answer alone

pub on_err : {T E : Type 0} (result : Result T E) (P : Type 0) → P → OnErr result P
on_err (Ok x) P p = tt
on_err (Err e) P p = p

-- ---- all bytes, from the first to the last

first : {name all : List ℕ} {h : Seen} → NothingAppended → ¬ Lacks h name → Sending name all [] (all ++ []) h h
first {name} {all} {h} law there = record { front = []; whole = sym (append-nil all); told = sym (law h name there) }

-- all were put through a buffer that was empty at the start and at the end
pub whole_put : NothingAppended → (name all p : List ℕ) (h i : Seen) → ¬ Lacks h name → p ≡ [] → Puts name all [] p [] h i → i ≡ grown name all h
whole_put law name all p h i there e x =
    let begun = subst (λ (q : List ℕ). Sending name all q (all ++ []) h h) (sym e) (first law there) in
    let s = x.puts all [] h begun in
    s.told ∙ ap (λ (w : List ℕ). grown name w h) (sym (s.whole ∙ append-nil s.front))

pub whole_broken : NothingAppended → (name all p : List ℕ) (h i : Seen) → ¬ Lacks h name → p ≡ [] → Breaks name all p h i → AppendedThenFailed name all h i
whole_broken law name all p h i there e x =
    x.breaks all [] h (subst (λ (q : List ℕ). Sending name all q (all ++ []) h h) (sym e) (first law there))
