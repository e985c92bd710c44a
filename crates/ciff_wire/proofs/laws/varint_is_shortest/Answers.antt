use Rattle.ciff_wire.proofs.Spellings.{varint_is_shortest, shortest_is_one, varint_is_canonical, canonical_varint_is_one}
use Rattle.ciff_wire.proofs.laws.varint_is_shortest.Goals as goal

pub returns-clause-shortest : goal.returns-clause-shortest
returns-clause-shortest c = varint_is_shortest

pub returns-clause-one : goal.returns-clause-one
returns-clause-one c = shortest_is_one

pub returns-clause-canonical : goal.returns-clause-canonical
returns-clause-canonical c = varint_is_canonical

pub returns-clause-only : goal.returns-clause-only
returns-clause-only c = canonical_varint_is_one
