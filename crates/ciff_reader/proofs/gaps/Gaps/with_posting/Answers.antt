use Rattle.std.proofs.Common.{◌≡◌, ◌⊎◌, inl, inr, Bool, true, false, not, IsTrue, pos, refl, sym, ◌∙◌, arith, rules}
use Rattle.std.specs.Prelude.{◌+ℤ◌, ◌≤ℤ◌, ◌<ℤ◌}
use mir.Val.{SFits}
use Rattle.std.specs.Int.{w32}
use Rattle.std.proofs.lemmas.Int.{ints, to_z-of_z}
use Rattle.std.proofs.lemmas.Bool.{false≢true}
use Rattle.ciff_format.specs.Fields.{int32_at}
use Rattle.ciff_reader.proofs.Rows.{stays_bad, turns_bad, pushed, passed}
use Rattle.ciff_reader.proofs.gaps.Gaps.with_posting.Goals as goal
use Rattle.ciff_reader.proofs.gaps.Gaps.with_posting.Goals.{then-gap-from-via-then-gap-from, then-gap-from-via-else-gap-from+then-from-sum}

is_no : (b : Bool) → not b ≡ true → ¬ IsTrue b
is_no true e = λ was. false≢true e
is_no false e = λ was. false≢true was

is_yes : (b : Bool) → not b ≡ false → IsTrue b
is_yes true e = refl
is_yes false e = absurd (false≢true (sym e))

is_false : (b : Bool) → b ≡ false → ¬ IsTrue b
is_false b e = λ was. false≢true (sym e ∙ was)

pub returns-then-not-self-clause-taken : goal.returns-then-not-self-clause-taken
returns-then-not-self-clause-taken c = λ rows row posting says.
    stays_bad c.gaps_grow.ensures.sums c.gaps_grow.ensures.sum c.gaps_grow.ensures.good rows row c.args.self c.args.pending.now (is_no c.args.self.are_good c.if-not-self.true) says

pub returns-then-gap-from-clause-taken : goal.returns-then-gap-from-clause-taken
returns-then-gap-from-clause-taken c = λ rows row posting says.
    let fits : SFits w32 c.args.posting.gap = search rules in
    let gap : c.from-gap.result ≡ int32_at 1 row = c.from-gap.ensures ∙ to_z-of_z w32 c.args.posting.gap fits ∙ posting.gap in
    let wrong : (int32_at 1 row <ℤ pos c.args.self.least) ⊎ (pos c.args.pending.now.documents ≤ℤ (pos c.args.self.document +ℤ int32_at 1 row)) =
    elim c.then-gap-from.branch [
      | then-gap-from-via-then-gap-from w ↦ inl (omega (arith, ints, gap))
      | then-gap-from-via-else-gap-from+then-from-sum w ↦ inr (omega (arith, ints, gap))
    ] in
    turns_bad c.gaps_grow.ensures.sums c.gaps_grow.ensures.sum c.gaps_grow.ensures.good rows row c.args.self _ c.args.pending.now (is_yes c.args.self.are_good c.if-not-self.false) refl wrong says

pub returns-in_ok-are_few-clause-taken : goal.returns-in_ok-are_few-clause-taken
returns-in_ok-are_few-clause-taken c = λ rows row posting says.
    let fits : SFits w32 c.args.posting.gap = search rules in
    let tf : SFits w32 c.args.posting.tf = search rules in
    let gap : c.from-gap.result ≡ int32_at 1 row = c.from-gap.ensures ∙ to_z-of_z w32 c.args.posting.gap fits ∙ posting.gap in
    pushed c.gaps_grow.ensures.sums c.gaps_grow.ensures.sum c.gaps_grow.ensures.good rows row c.args.self _ _ c.in_ok-are_few.are_few c.args.pending.now c.push_posting.new.self
    (is_yes c.args.self.are_good c.if-not-self.false) (omega (arith, ints, gap)) (omega (arith, ints, gap)) (omega (arith, ints, gap)) (to_z-of_z w32 c.args.posting.tf tf ∙ posting.tf)
    c.if-self.true c.in_ok-are_few.ensures.pushed c.in_ok-are_few.ensures.full says

pub returns-else-self-clause-taken : goal.returns-else-self-clause-taken
returns-else-self-clause-taken c = λ rows row posting says.
    let fits : SFits w32 c.args.posting.gap = search rules in
    let gap : c.from-gap.result ≡ int32_at 1 row = c.from-gap.ensures ∙ to_z-of_z w32 c.args.posting.gap fits ∙ posting.gap in
    passed c.gaps_grow.ensures.sums c.gaps_grow.ensures.sum c.gaps_grow.ensures.good rows row c.args.self _ c.args.pending.now
    (is_yes c.args.self.are_good c.if-not-self.false) (omega (arith, ints, gap)) (omega (arith, ints, gap)) (omega (arith, ints, gap)) (is_false c.args.self.are_few c.if-self.false) says
