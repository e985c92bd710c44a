use Rattle.generated_index.proofs.Sound.{generated_sound}
use Rattle.generated_index.proofs.laws.generated_is_index.Goals as goal

pub returns : goal.returns
returns c = record { law = generated_sound }
