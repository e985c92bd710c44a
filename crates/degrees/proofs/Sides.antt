-- The counts of a half and of the other, as those of A and B.
use Rattle.std.proofs.Common.{◌≡◌, length, refl}
use Rattle.rgb_base.specs.declared.parts.Side.{Side}
use Rattle.rgb_base.specs.declared.parts.Side.TheVariants.{A, B}
use Rattle.degrees.specs.Steps.{Both, half_of, other_of}

pub half_as_a : (side : Side) (both : Both) → length both.b ≡ length both.a → length (half_of side both) ≡ length both.a
half_as_a A both sound = refl
half_as_a B both sound = sound

pub other_as_a : (side : Side) (both : Both) → length both.b ≡ length both.a → length (other_of side both) ≡ length both.a
other_as_a A both sound = sound
other_as_a B both sound = refl

pub a_kept : (side : Side) (new old : Both) → length (half_of side new) ≡ length (half_of side old) → length (other_of side new) ≡ length (other_of side old) → length new.a ≡ length old.a
a_kept A new old half other = half
a_kept B new old half other = other
