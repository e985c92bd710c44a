use Rattle.std.proofs.Common.{◌≡◌, ◌<◌, length, rules, arith}
use Rattle.query_file.proofs.Pieces.{grown, ended}
use Rattle.query_file.proofs.bytes.read_piece.Goals as goal

pub returns-clause-front : goal.returns-clause-front
returns-clause-front g c = λ file is front.
    let place : c.len.result ≡ length c.args.bytes.now.items = omega (arith, c.len.ensures, c.args.bytes.now.ok.0) in
    grown (g.H.Host.seen c.args.host.now) c.args.name.now file c.read_at.new.buf c.args.bytes.now.items _ c.len.result c.in_ok-n.n is c.in_ok-n.ensures.bytes place c.in_ok-extend_from_slice.ensures.items front

pub returns-clause-end : goal.returns-clause-end
returns-clause-end g c = λ none file is front.
    let place : c.len.result ≡ length c.args.bytes.now.items = omega (arith, c.len.ensures, c.args.bytes.now.ok.0) in
    let room : 0 < length c.read_at.new.buf = search rules in
    ended (g.H.Host.seen c.args.host.now) c.args.name.now file c.read_at.new.buf c.args.bytes.now.items _ c.len.result c.in_ok-n.n is c.in_ok-n.ensures.bytes room place c.in_ok-extend_from_slice.ensures.items none front
