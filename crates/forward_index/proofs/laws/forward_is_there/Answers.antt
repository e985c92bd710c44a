use Rattle.forward_index.proofs.Built.{the_forward, forward_sound, forward_of}
use Rattle.forward_index.proofs.laws.forward_is_there.Goals as goal

pub returns : goal.returns
returns c = record {
  law = λ index min_df start sound ordered len. record {
    forward = the_forward index min_df start sound ordered len;
    sound = forward_sound index min_df start sound ordered len;
    is_forward = forward_of index min_df start sound ordered len;
  };
}
