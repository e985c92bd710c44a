-- The definitions at gaps whose costs are known.
use Rattle.std.proofs.Common.{◌≡◌, [], ◌∷◌, refl}
use Rattle.ciff_wire.specs.Varint.{varint, groups}
use Rattle.rgb_base.specs.Gaps.{gaps_of, gaps_from}
use Rattle.gap_report.specs.Codes.{with_first_more, floor_log, gamma_bits, delta_bits, varint_bytes}

gaps_of_rising : with_first_more (gaps_of (2 ∷ 4 ∷ 5 ∷ [])) ≡ 3 ∷ 2 ∷ 1 ∷ []
unfolding with_first_more gaps_from
gaps_of_rising = refl

gamma_of_1 : gamma_bits 1 ≡ 1
unfolding gamma_bits floor_log
gamma_of_1 = refl

gamma_of_4 : gamma_bits 4 ≡ 5
unfolding gamma_bits floor_log
gamma_of_4 = refl

delta_of_1 : delta_bits 1 ≡ 1
unfolding delta_bits gamma_bits floor_log
delta_of_1 = refl

delta_of_3 : delta_bits 3 ≡ 4
unfolding delta_bits gamma_bits floor_log
delta_of_3 = refl

delta_of_16384 : delta_bits 16384 ≡ 21
unfolding delta_bits gamma_bits floor_log
delta_of_16384 = refl

bytes_of_16384 : varint_bytes 16384 ≡ 3
unfolding varint_bytes varint groups
bytes_of_16384 = refl
