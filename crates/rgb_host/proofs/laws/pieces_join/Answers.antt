use Rattle.rgb_host.proofs.Pieces.{appended_again, nothing_appended, appended_is_there, failed_later}
use Rattle.rgb_host.proofs.laws.pieces_join.Goals as goal

pub returns : goal.returns
returns c = record { twice = appended_again; nothing = nothing_appended; there = appended_is_there; failed = failed_later }
