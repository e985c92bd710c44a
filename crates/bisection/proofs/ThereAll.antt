-- An index has a numbering over each start order.
use Rattle.forward_index.specs.Laws.{HasForward, ForwardIsThere}
use Rattle.bisection.specs.There.{HasNumbering, NumberingIsThere, NumberingOfIsThere}

pub numbering_of_is_there : NumberingIsThere → ForwardIsThere → NumberingOfIsThere
numbering_of_is_there numbered has index min_df start limits depth sound ordered len =
    let over : HasForward index min_df start = has index min_df start sound ordered len in
    let all : HasNumbering over.forward limits depth = numbered over.forward limits depth in
    record {
      numbering = all.numbering;
      trace = all.trace;
      is_numbering = record {
        len = len;
        forward = over.forward;
        sound = over.sound;
        is_forward = over.is_forward;
        is_numbered = all.is_numbered;
      };
    }
