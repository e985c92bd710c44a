use Rattle.std.proofs.Common.{◌≡◌, ℕ, zero, suc, ◌+◌, ◌-◌, ◌/◌, ◌%◌, ◌<◌, ◌≤◌, List, [], ◌∷◌, ◌++◌, refl, sym, ap, ◌∙◌, arith, append_assoc}
use Rattle.std.proofs.lemmas.List.{append-nil}
use Rattle.generated_index.specs.Generated.{digits}
use Rattle.generated_index.proofs.labels.+push_digits.Goals as goal

some_digits : (count n : ℕ) → 0 < count → digits count n ≡ digits (count - 1) (n / 10) ++ (48 + n % 10) ∷ []
unfolding digits
some_digits zero n some = absurd (omega (arith, some))
some_digits (suc count) n some =
    let one_less : count ≡ suc count - 1 = omega arith in
    ap (λ (k : ℕ). digits k (n / 10) ++ (48 + n % 10) ∷ []) one_less

no_digits : (count n : ℕ) → count ≤ 0 → digits count n ≡ []
unfolding digits
no_digits zero n none = refl
no_digits (suc count) n none = absurd (omega (arith, none))

pub returns-then-count-gt0-clause-same : goal.returns-then-count-gt0-clause-same
returns-then-count-gt0-clause-same t c =
    let old = c.args.label.now.bytes in
    let n = c.args.number in
    let digit : 48 + n % 10 < 128 = omega arith in
    c.push.ensures.ascii digit ∙ ap (λ (bytes : List ℕ). bytes ++ (48 + n % 10) ∷ []) c.push_digits.ensures.same
    ∙ append_assoc old (digits (c.args.count - 1) (n / 10)) ((48 + n % 10) ∷ []) ∙ ap (λ (bytes : List ℕ). old ++ bytes) (sym (some_digits c.args.count n c.if-count-gt0.true))

pub returns-else-count-gt0-clause-same : goal.returns-else-count-gt0-clause-same
returns-else-count-gt0-clause-same t c =
    let old = c.args.label.now.bytes in
    sym (ap (λ (bytes : List ℕ). old ++ bytes) (no_digits c.args.count c.args.number c.if-count-gt0.false) ∙ append-nil old)
