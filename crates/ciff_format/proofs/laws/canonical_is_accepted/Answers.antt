use Rattle.ciff_format.proofs.CanonicalFiles.{canonical_is_accepted, canonical_is_only}
use Rattle.ciff_format.proofs.laws.canonical_is_accepted.Goals as goal

pub returns-clause-accepted : goal.returns-clause-accepted
returns-clause-accepted c = canonical_is_accepted (record { shortest = c.varint_is_shortest.ensures.shortest; message = c.canonical_is_message.ensures.message })

pub returns-clause-only : goal.returns-clause-only
returns-clause-only c =
    canonical_is_only (record { read_is_one = c.spelling_is_read_again.ensures.one; one_message = c.message_is_one.ensures.one })
    (record { shortest = c.varint_is_shortest.ensures.shortest; message = c.canonical_is_message.ensures.message })
