-- The definition at numbers whose logarithms are known.
use Rattle.std.proofs.Common.{◌≡◌, refl}
use Rattle.fixed_log.specs.Log.{lg, exponent, halvings, fraction, next_bit, next, square}

log_of_1 : lg 1 ≡ 0
unfolding lg exponent halvings fraction next_bit next square
log_of_1 = refl

log_of_2 : lg 2 ≡ 65536
unfolding lg exponent halvings fraction next_bit next square
log_of_2 = refl

log_of_3 : lg 3 ≡ 103872
unfolding lg exponent halvings fraction next_bit next square
log_of_3 = refl

log_of_5 : lg 5 ≡ 152169
unfolding lg exponent halvings fraction next_bit next square
log_of_5 = refl

log_of_6 : lg 6 ≡ 169408
unfolding lg exponent halvings fraction next_bit next square
log_of_6 = refl

log_of_7 : lg 7 ≡ 183982
unfolding lg exponent halvings fraction next_bit next square
log_of_7 = refl

log_of_largest : lg 8589934591 ≡ 2162687
unfolding lg exponent halvings fraction next_bit next square
log_of_largest = refl
