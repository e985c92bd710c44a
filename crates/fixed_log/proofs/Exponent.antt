-- The exponent of a number, and the number that the steps begin with.
use Rattle.std.proofs.Common.{◌≡◌, ℕ, zero, suc, ◌+◌, ◌-◌, ◌*◌, ◌/◌, ◌^◌, ◌<◌, ◌≤◌, Bool, true, false, cond, ltb, refl, sym, ◌∙◌, ap, subst, ⊎_elim, arith, add-one}
use Rattle.std.proofs.Math.Nat.{pow-suc, pow-le-pow_right, mul_assoc, mul-le-mul_right, mul-lt-mul_of_pos_right, mul-div_cancel}
use Rattle.std.proofs.lemmas.Nat.{pow-add, pow_pos}
use Rattle.std.proofs.lemmas.Bool.{cases_lt}
use borrow.Author.Tests.{ltb-true, ltb-false}
use Rattle.fixed_log.specs.Log.{halvings, exponent}
use Rattle.fixed_log.proofs.Step.{Bracket}

-- e is the exponent of x
pub record IsExponent (x e : ℕ) : Type 0 where
  pub below : 2 ^ e ≤ x
  pub above : x < 2 ^ (e + 1)

chosen : (P : ℕ → Type 0) (b : Bool) (p q : ℕ) → (b ≡ true → P p) → (b ≡ false → P q) → P (cond b p q)
chosen P true p q then_holds else_holds = then_holds refl
chosen P false p q then_holds else_holds = else_holds refl

IsExponent-zero : (x : ℕ) → 0 < x → x < 2 → IsExponent x 0
IsExponent-zero x some small = record { below = omega arith; above = omega arith }

IsExponent-half : (x e : ℕ) → IsExponent (x / 2) e → IsExponent x (e + 1)
IsExponent-half x e half =
    let below : 2 ^ e * 2 ≤ x = omega (arith, half.below) in
    let above : x < 2 ^ (e + 1) * 2 = omega (arith, half.above) in
    record {
      below = rw (add-one, pow-suc 2 e) below;
      above = rw (add-one (e + 1), pow-suc 2 (e + 1)) above;
    }

IsExponent-halvings : (most x : ℕ) → 0 < x → x < 2 ^ most → IsExponent x (halvings most x)
unfolding halvings
IsExponent-halvings zero x some small = absurd (omega arith)
IsExponent-halvings (suc most) x some small =
    let twice : x < 2 ^ most * 2 = rw (pow-suc 2 most) at small in
    chosen (IsExponent x) (ltb x 2) 0 (halvings most (x / 2) + 1)
    (λ one. IsExponent-zero x some (ltb-true x 2 one))
    (λ more. let least : 2 ≤ x = ltb-false x 2 more in IsExponent-half x (halvings most (x / 2)) (IsExponent-halvings most (x / 2) (omega arith) (omega arith)))

pub IsExponent-exponent : (x : ℕ) → 0 < x → x < 2 ^ 33 → IsExponent x (exponent x)
unfolding exponent
IsExponent-exponent x some most = IsExponent-halvings 33 x some most

-- no smaller exponent than the one beside it
le_from_powers : (x d e : ℕ) → 2 ^ d ≤ x → x < 2 ^ (e + 1) → d ≤ e
le_from_powers x d e below above =
    ⊎_elim (λ more. let higher : 2 ^ (e + 1) ≤ 2 ^ d = pow-le-pow_right {n = 2} (omega arith) (omega arith) in absurd (omega arith)) (λ less. less) (cases_lt e d)

pub same_from_exponents : (x d e : ℕ) → IsExponent x d → IsExponent x e → d ≡ e
same_from_exponents x d e p q =
    let up = le_from_powers x d e p.below q.above in
    let down = le_from_powers x e d q.below p.above in
    omega arith

pub exponent_le : (x e : ℕ) → x < 2 ^ 33 → IsExponent x e → e ≤ 32
exponent_le x e most is = le_from_powers x e 32 is.below most

start_at : (x d e : ℕ) → x * 2 ^ (d + e) / 2 ^ e ≡ x * 2 ^ d
start_at x d e =
    let split : x * 2 ^ (d + e) ≡ x * 2 ^ d * 2 ^ e = ap (λ n. x * n) (pow-add 2 d e) ∙ sym (mul_assoc x (2 ^ d) (2 ^ e)) in
    ap (λ n. n / 2 ^ e) split ∙ mul-div_cancel (x * 2 ^ d) (pow_pos e)

-- the number that the steps begin with is x shifted to the left
pub start_shifted : (x e : ℕ) → e ≤ 62 → x * 2 ^ 62 / 2 ^ e ≡ x * 2 ^ (62 - e)
start_shifted x e most =
    let whole : 62 - e + e ≡ 62 = omega arith in
    subst (λ n. x * 2 ^ n / 2 ^ e ≡ x * 2 ^ (62 - e)) whole (start_at x (62 - e) e)

Bracket-at : (x d e : ℕ) → IsExponent x e → Bracket (2 ^ (d + e)) (2 ^ e) (x * 2 ^ d) 0 x
Bracket-at x d e is =
    let split : 2 ^ (d + e) ≡ 2 ^ d * 2 ^ e = pow-add 2 d e in
    let double : 2 ^ (e + 1) ≡ 2 ^ e * 2 = ap (λ n. 2 ^ n) (add-one e) ∙ pow-suc 2 e in
    let least : 2 ^ e * 2 ^ d ≤ x * 2 ^ d = mul-le-mul_right (2 ^ d) is.below in
    let most : x * 2 ^ d < 2 ^ (e + 1) * 2 ^ d = mul-lt-mul_of_pos_right is.above (pow_pos d) in
    rw split record {
      low = omega arith;
      high = omega (arith, subst (λ n. x * 2 ^ d < n * 2 ^ d) double most);
      below = omega arith;
      above = omega arith;
    }

pub Bracket-start : (x e : ℕ) → e ≤ 62 → IsExponent x e → Bracket (2 ^ 62) (2 ^ e) (x * 2 ^ 62 / 2 ^ e) 0 x
Bracket-start x e most is =
    let whole : 62 - e + e ≡ 62 = omega arith in
    subst (λ n. Bracket (2 ^ 62) (2 ^ e) n 0 x) (sym (start_shifted x e most)) (subst (λ n. Bracket (2 ^ n) (2 ^ e) (x * 2 ^ (62 - e)) 0 x) whole (Bracket-at x (62 - e) e is))
