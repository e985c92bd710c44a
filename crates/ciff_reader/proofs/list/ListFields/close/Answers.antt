use Rattle.std.proofs.Common.{◌≡◌, ◌∙◌, Bool, false, IsTrue, refl, sym, subst, inl, inr, rules}
use mir.Val.{SFits}
use Rattle.std.specs.Int.{w64}
use Rattle.std.proofs.lemmas.Int.{to_z-of_z}
use Rattle.std.proofs.lemmas.Bool.{false≢true}
use Rattle.rgb_base.specs.declared.error.BuildError.{BuildError}
use Rattle.rgb_base.specs.Building.{IsListFault as IsFaultOfList}
use Rattle.ciff_reader.proofs.Closing.{as_said}
use Rattle.ciff_reader.proofs.list.ListFields.close.Goals as goal

isnt : (b : Bool) → b ≡ false → ¬ IsTrue b
isnt b e = λ was. false≢true (sym e ∙ was)

pub returns-then-not-self-clause-fault : goal.returns-then-not-self-clause-fault
returns-then-not-self-clause-fault c = isnt c.args.self.are_texts c.if-not-self.true

pub returns-then-not-gaps-clause-fault : goal.returns-then-not-gaps-clause-fault
returns-then-not-gaps-clause-fault c = (c.if-not-self.false, isnt c.args.gaps.are_good c.if-not-gaps.true)

pub returns-then-has_term-clause-fault : goal.returns-then-has_term-clause-fault
returns-then-has_term-clause-fault c = (c.if-not-self.false, c.if-not-gaps.false, c.if-has_term.ensures.same.0 refl)

pub returns-else-has_term-clause-fault : goal.returns-else-has_term-clause-fault
returns-else-has_term-clause-fault c =
    (c.if-not-self.false, c.if-not-gaps.false, λ there. false≢true (c.if-has_term.ensures.same.1 there), inl (isnt c.args.gaps.are_few c.if-not-gaps-2.true))

pub returns-in-Ok-clause-ok : goal.returns-in-Ok-clause-ok
returns-in-Ok-clause-ok c =
    let df : SFits w64 c.args.self.df = search rules in
    let cf : SFits w64 c.args.self.cf = search rules in
    record {
      texts = c.if-not-self.false;
      good = c.if-not-gaps.false;
      few = c.if-not-gaps-2.false;
      after_is = as_said c.args.builder.now c.close_list.new.self c.args.self.term.now c.args.self.df c.args.self.cf _ _ (to_z-of_z w64 c.args.self.df df) (to_z-of_z w64 c.args.self.cf cf) c.in-Ok.ensures.ok;
      sound = c.is_sound.ensures.sound;
    }

pub returns-in-Size-clause-fault : goal.returns-in-Size-clause-fault
returns-in-Size-clause-fault c =
    let fault = subst (λ (e : BuildError). IsFaultOfList c.args.builder.now c.args.self.term.now e) c.in-Size.is c.in-Err.ensures.fault in
    (c.if-not-self.false, c.if-not-gaps.false, fault.1, inr (c.if-not-gaps-2.false, fault.2))

pub returns-in-Same-clause-fault : goal.returns-in-Same-clause-fault
returns-in-Same-clause-fault c =
    let fault = subst (λ (e : BuildError). IsFaultOfList c.args.builder.now c.args.self.term.now e) c.in-Same.is c.in-Err.ensures.fault in
    (c.if-not-self.false, c.if-not-gaps.false, fault.1)
