-- The numberings after slabs, as versions of the plan.
use Rattle.std.proofs.Common.{◌≡◌, ℕ, zero, suc, ◌+◌, ◌-◌, ◌*◌, ◌^◌, ◌<◌, ◌≤◌, Bool, true, false, IsTrue, List, Option, Some, IfSome, Result, Ok, Err, IfOk, length, if◌then◌else◌, sym, ap, subst, ◌∙◌, arith}
use Rattle.std.proofs.Math.Nat.{lt-div-mul-add, div-le_self}
use Rattle.rgb_base.specs.Parts.{IndexParts}
use Rattle.bisection.specs.declared.options.Options.{Options}
use Rattle.bisection.specs.Recursion.{IsNumbered}
use Rattle.bisection.specs.Progress.{Progress, IsProgress, AreOptions, slabs_of, depth_after, limits_of}
use Rattle.bisection.specs.Laws.{EachDocumentOnce}
use Rattle.live_index.specs.declared.history.History.{History}
use Rattle.live_index.specs.History.{IsPlanned}
use Rattle.command_words.specs.declared.reordering.Reordering.{Reordering}
use Rattle.rgb_app.specs.Reordering.{options_of, IsForwardBy, IsNumberingBy}
use Rattle.rgb_app.specs.Live.{down_to, IsNumberingAfter, slabs_at, IsVersion, last_of}
use Rattle.rgb_app.specs.Planned.{planned_versions, is_planned}
use Rattle.rgb_app.specs.declared.plan.SlabPlan.{SlabPlan}
use Rattle.rgb_app.proofs.Reorderings.{numbering_ordered}

-- what is false isn't true
pub not_true : (b : Bool) → b ≡ false → ¬ IsTrue b
not_true b is = λ t. let no : true ≡ false = sym t ∙ is in absurd (cc)

-- what holds of what is there
pub if_some_at : (found : Option ℕ) (n : ℕ) (P : ℕ → Type 0) → found ≡ Some n → IfSome found P → P n
if_some_at found n P is holds = subst (λ (o : Option ℕ). IfSome o P) is holds

slab_numbered : (options : Reordering) (progress : Progress) → progress.options ≡ options_of options → IsProgress progress
    → IsNumbered progress.forward (limits_of (options_of options)) (depth_after (options_of options) progress.done) progress.numbering progress.trace
slab_numbered options progress same sound = subst (λ (o : Options). IsNumbered progress.forward (limits_of o) (depth_after o progress.done) progress.numbering progress.trace) same sound.numbered

-- what a recursion has come to
pub slab_numbering : (options : Reordering) (index : IndexParts) (progress : Progress) → IsForwardBy options index progress.forward → progress.options ≡ options_of options → IsProgress progress
    → IsNumberingAfter options index progress.done progress.numbering
slab_numbering options index progress forward same sound = record {
  trace = progress.trace;
  is_numbering = record {
    start = forward.start;
    is_start = forward.is_start;
    is_numbering = record {
      len = forward.len;
      forward = progress.forward;
      sound = forward.sound;
      is_forward = forward.is_forward;
      is_numbered = slab_numbered options progress same sound;
    };
  };
}

pub slab_len : EachDocumentOnce → (options : Reordering) (index : IndexParts) (progress : Progress) → IsForwardBy options index progress.forward → progress.options ≡ options_of options → IsProgress progress
    → length progress.numbering ≡ length index.documents
slab_len law options index progress forward same sound =
    let is = slab_numbering options index progress forward same sound in
    (numbering_ordered law (down_to options (depth_after (options_of options) progress.done)) index progress.numbering is.trace is.is_numbering).len

at_slab : (by_name : Bool) (done others : ℕ) → suc others ≡ done + (if by_name then 1 else 0) → slabs_at by_name others ≡ done
at_slab true done others is = omega (arith, is)
at_slab false done others is = omega (arith, is)

version_is : (options : Reordering) (index : IndexParts) (done version : ℕ) (numbering : List ℕ) → 0 < version → version ≡ done + (if options.by_name then 1 else 0) → IsNumberingAfter options index done numbering
    → IsVersion options index version numbering
version_is options index done zero numbering some is after = absurd (omega (arith, some))
version_is options index done (suc others) numbering some is after = subst (λ (n : ℕ). IsNumberingAfter options index n numbering) (sym (at_slab options.by_name done others is)) after

-- it may be published next
pub slab_planned : (options : Reordering) (history : History SlabPlan) (progress : Progress) → history.plan.options ≡ options → IsForwardBy options history.base progress.forward → progress.options ≡ options_of options
    → IsProgress progress → 0 < history.length → history.length ≡ progress.done + (if options.by_name then 1 else 0) → IsPlanned planned_versions is_planned history.base history.plan history.length progress.numbering
slab_planned options history progress plan forward same sound some len =
    let most : progress.done ≤ slabs_of (options_of options) = subst (λ (o : Options). progress.done ≤ slabs_of o) same sound.most in
    let below : history.length < last_of options + 1 = omega (arith, len, most) in
    let is : IsVersion options history.base history.length progress.numbering = version_is options history.base progress.done history.length progress.numbering some len (slab_numbering options history.base progress forward same sound) in
    record {
      below = subst (λ (o : Reordering). history.length < last_of o + 1) (sym plan) below;
      is_planned = subst (λ (o : Reordering). IsVersion o history.base history.length progress.numbering) (sym plan) is;
    }

-- there are few slabs
pub few_slabs : (options : Options) → AreOptions options → slabs_of options ≤ 61
few_slabs options are = omega (arith, div-le_self (options.depth + options.step - 1) options.step, are.depth, are.step)

small_start : (by_name : Bool) → (if by_name then 1 else 0) ≤ 1
small_start true = omega arith
small_start false = omega arith

pub slab_room : (options : Reordering) (progress : Progress) (version : ℕ) → AreOptions (options_of options) → progress.options ≡ options_of options → IsProgress progress
    → version ≡ progress.done + (if options.by_name then 1 else 0) → version < 2 ^ 32 - 1
slab_room options progress version are same sound is =
    let most : progress.done ≤ slabs_of (options_of options) = subst (λ (o : Options). progress.done ≤ slabs_of o) same sound.most in
    omega (arith, is, most, few_slabs (options_of options) are, small_start options.by_name)

-- ---- at the end

-- the parts of a pair that is there
pub pair_is : {A B E : Type 0} (r : Result (A × B) E) (P : A → B → Type 0) (a : A) (b : B) → IfOk r (λ w. w.0 ≡ a) → IfOk r (λ w. w.1 ≡ b) → P a b → IfOk r (λ w. P w.0 w.1)
pair_is (Ok w) P a b p q is = subst (λ (x : _). P x w.1) (sym p) (subst (P a) (sym q) is)
pair_is (Err e) P a b p q is = tt

pub first_is : {A B E : Type 0} (r : Result (A × B) E) (P : A → Type 0) (a : A) → IfOk r (λ w. w.0 ≡ a) → P a → IfOk r (λ w. P w.0)
first_is (Ok w) P a p is = subst P (sym p) is
first_is (Err e) P a p is = tt

whole_depth : (options : Options) → AreOptions options → depth_after options (slabs_of options) ≡ options.depth
whole_depth options are =
    let over : options.depth + options.step - 1 < slabs_of options * options.step + options.step = lt-div-mul-add are.some_step in
    omega (arith, over, are.some_step)

pub finished : (options : Reordering) (index : IndexParts) (progress : Progress) → AreOptions (options_of options) → IsForwardBy options index progress.forward → progress.options ≡ options_of options → IsProgress progress
    → progress.done ≡ slabs_of (options_of options) → IsNumberingBy options index progress.numbering progress.trace
finished options index progress are forward same sound all =
    let depth : depth_after (options_of options) progress.done ≡ options.depth = ap (depth_after (options_of options)) all ∙ whole_depth (options_of options) are in
    record {
      start = forward.start;
      is_start = forward.is_start;
      is_numbering = record {
        len = forward.len;
        forward = progress.forward;
        sound = forward.sound;
        is_forward = forward.is_forward;
        is_numbered = subst (λ (d : ℕ). IsNumbered progress.forward (limits_of (options_of options)) d progress.numbering progress.trace) depth (slab_numbered options progress same sound);
      };
    }
