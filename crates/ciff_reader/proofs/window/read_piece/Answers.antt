use Rattle.std.proofs.Common.{◌<◌, length, rules}
use Rattle.ciff_reader.proofs.Windows.{next_piece}
use Rattle.ciff_reader.proofs.window.read_piece.Goals as goal

pub returns-clause-piece : goal.returns-clause-piece
returns-clause-piece g c = λ file is.
    let room : 0 < length c.read_at.new.buf = search rules in
    next_piece (g.H.Host.seen c.args.host.now) c.args.name.now file c.read_at.new.buf c.args.bytes.now.items _ c.args.at c.in_ok-n.n is c.in_ok-n.ensures.bytes room c.in_ok-extend_from_slice.ensures.items
