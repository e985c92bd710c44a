-- Each version of a reordering is one numbering.
use Rattle.std.proofs.Common.{◌≡◌, ℕ, ◌<◌, length, slice_index, refl, sym, ap, ◌∙◌, arith}
use Rattle.std.specs.List.{range_with_len}
use Rattle.std.proofs.lemmas.List.FromFn.{length-range_with_len, get_or-range_with_len}
use Rattle.rgb_base.specs.Parts.{IndexParts, IsIndex}
use Rattle.rgb_base.specs.Order.{IsOrder, new_of}
use Rattle.rgb_base.specs.Laws.{NumbersUndoTheOrder}
use Rattle.live_index.specs.History.{IsOneNumbering}
use Rattle.command_words.specs.declared.reordering.Reordering.{Reordering}
use Rattle.rgb_app.specs.Live.{IsVersion}
use Rattle.rgb_app.specs.Laws.{VersionsArePlanned, FirstVersionIsIdentity}
use Rattle.rgb_app.proofs.Reorderings.{AreOne, AreThere, range_ordered}
use Rattle.rgb_app.proofs.LiveOnes.{version_is_one}
use Rattle.rgb_app.proofs.LiveThere.{some_version}

one_numbering_of : AreOne → AreThere → (options : Reordering) (index : IndexParts) → IsIndex index → (version : ℕ) → IsOneNumbering (IsVersion options index version)
one_numbering_of ones theirs options index sound version =
    let made = some_version theirs options index sound version in
    record {
      order = made.0;
      is_planned = made.1;
      only = λ other is. version_is_one ones options index version other made.0 is made.1;
    }

pub planned_once : AreOne → AreThere → VersionsArePlanned
planned_once ones theirs index plan sound version below = one_numbering_of ones theirs plan.options index sound version

stays : NumbersUndoTheOrder → (n : ℕ) → IsOrder (range_with_len 0 n) → (old : ℕ) → old < n → new_of (range_with_len 0 n) old ≡ old
stays undo n ordered old lt =
    let at : slice_index (range_with_len 0 n) old ≡ old = omega (arith, get_or-range_with_len 0 n old 0 lt) in
    sym (ap (new_of (range_with_len 0 n)) at) ∙ ((undo (range_with_len 0 n) ordered).1 old (omega (arith, lt, length-range_with_len 0 n))).1

pub first_is_identity : NumbersUndoTheOrder → FirstVersionIsIdentity
first_is_identity undo index plan sound =
    let n = length index.documents in
    let ordered = range_ordered n sound.counted.documents in
    record {
      order = range_with_len 0 n;
      identity = record {
        ordered = ordered;
        leaves = record { len = length-range_with_len 0 n; each = λ old lt. stays undo n ordered old lt };
      };
      is_planned = record { below = omega arith; is_planned = refl };
    }
