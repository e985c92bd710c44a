use Rattle.std.proofs.Common.{◌≡◌, ℕ, List, ◌++◌, refl, sym, ◌∙◌, ap, arith}
use Rattle.query_file.specs.Queries.{IsTooLong}
use Rattle.query_file.proofs.Pieces.{of_file, still_file, still_there, too_long}
use Rattle.query_file.proofs.bytes.read_bytes.Goals as goal

pub pieces-init : goal.pieces-init
pieces-init g c = record {
  few = omega (arith, c.new-bytes.ensures.len);
  room = c.in_ok-piece.ensures;
  front = λ file is. (file, ap (λ (bs : List ℕ). bs ++ file) (sym c.new-bytes.ensures.items));
  same = refl;
}

pub returns-then-n-eq0-clause-ok : goal.returns-then-n-eq0-clause-ok
returns-then-n-eq0-clause-ok g c =
    let seen = g.H.Host.seen in
    of_file (seen c.args.host.now) c.args.name.now (λ file. file ≡ c.read_piece.new.bytes.items) (still_there (seen c.args.host.now) (seen c.pieces.host) c.args.name.now c.pieces.invariant.same c.in-Ok.ensures.there)
    (λ file is. c.in-Ok.ensures.end c.if-n-eq0.true file (still_file (seen c.args.host.now) (seen c.pieces.host) c.args.name.now file c.pieces.invariant.same is) (c.pieces.invariant.front file is))

pub returns-then-len-gt-MOST-clause-error : goal.returns-then-len-gt-MOST-clause-error
returns-then-len-gt-MOST-clause-error g c =
    let seen = g.H.Host.seen in (
      of_file (seen c.args.host.now) c.args.name.now IsTooLong (still_there (seen c.args.host.now) (seen c.pieces.host) c.args.name.now c.pieces.invariant.same c.in-Ok.ensures.there)
          (λ file is.
          let front = c.in-Ok.ensures.front file (still_file (seen c.args.host.now) (seen c.pieces.host) c.args.name.now file c.pieces.invariant.same is) (c.pieces.invariant.front file is) in
          too_long file c.read_piece.new.bytes.items front.0 front.1 (omega (arith, c.len-in-pieces.ensures, c.if-len-gt-MOST.true, c.read_piece.new.bytes.ok))),
      c.in-Ok.ensures.same ∙ c.pieces.invariant.same,
    )

pub pieces-preserved : goal.pieces-preserved
pieces-preserved g c =
    let seen = g.H.Host.seen in
    record {
      few = omega (arith, c.len-in-pieces.ensures, c.if-len-gt-MOST.false);
      room = c.pieces.invariant.room;
      front = λ file is. c.in-Ok.ensures.front file (still_file (seen c.args.host.now) (seen c.pieces.host) c.args.name.now file c.pieces.invariant.same is) (c.pieces.invariant.front file is);
      same = c.in-Ok.ensures.same ∙ c.pieces.invariant.same;
    }
