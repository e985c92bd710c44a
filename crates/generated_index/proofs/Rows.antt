-- The definition at numbers that are known, and small indexes in full.
use Rattle.std.proofs.Common.{◌≡◌, List, [], ◌∷◌, refl}
use Rattle.generated_index.specs.Generated.{next_state, state_after, draw, topic, digits}

first_state : state_after 1 1 ≡ 7806831264735756412
unfolding state_after next_state
first_state = refl

first_draw : draw 1 0 ≡ 908834774
unfolding draw state_after next_state
first_draw = refl

first_topic : topic 1 0 ≡ 22
unfolding topic draw state_after next_state
first_topic = refl

digits_with_zeros : digits 4 57 ≡ 48 ∷ 48 ∷ 53 ∷ 55 ∷ []
unfolding digits
digits_with_zeros = refl

digits_of_more : digits 4 1999 ≡ 49 ∷ 57 ∷ 57 ∷ 57 ∷ []
unfolding digits
digits_of_more = refl
