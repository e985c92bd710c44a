use Rattle.std.proofs.Common.{◌≡◌, ℕ, ◌+◌, ◌-◌, List, length, drop, refl, sym, subst, ◌∙◌, arith}
use Rattle.std.proofs.lemmas.List.{length-drop}
use Rattle.ciff_reader.specs.Window.{Held, IsFile, IsAt, IsAtEnd, IsNextPiece}
use Rattle.ciff_reader.proofs.Windows.{grown_at, ended_at, ok_then, if_then}
use Rattle.ciff_reader.proofs.window.Window.fill.Goals as goal

pub invariant_of-self : goal.invariant_of-self
invariant_of-self g c = (omega (arith, c.read_piece.ensures.kept, c.self.invariant.0), c.self.invariant.1, c.self.invariant.2)

pub returns-clause-at : goal.returns-clause-at
returns-clause-at g c =
    let items = c.self.inside.bytes.items in
    let start = c.self.inside.start in
    let window : Held = record { place = c.self.inside.place; bytes = drop start items } in
    let at : ℕ = c.self.inside.place + (c.len.result - start) in
    let place : at ≡ window.place + length window.bytes = omega (arith, c.len.ensures, length-drop start items, c.self.inside.bytes.ok.0) in
    ok_then c.read_piece.result (λ n. (file : List ℕ) → IsFile (g.H.Host.seen c.args.host.now) c.args.name.now file → IsNextPiece file at items c.read_piece.new.bytes.items n) _
    (λ n piece. λ file is on.
    grown_at window file items c.read_piece.new.bytes.items start at n refl (omega (arith, c.self.invariant.0, c.self.inside.bytes.ok.0)) place (piece file is)
    (subst (λ (w : Held). IsAt w file) (sym (c.self.view_is ∙ c.close_up.ensures)) on))
    c.read_piece.ensures.piece

pub returns-clause-end : goal.returns-clause-end
returns-clause-end g c =
    let items = c.self.inside.bytes.items in
    let start = c.self.inside.start in
    let window : Held = record { place = c.self.inside.place; bytes = drop start items } in
    let at : ℕ = c.self.inside.place + (c.len.result - start) in
    let place : at ≡ window.place + length window.bytes = omega (arith, c.len.ensures, length-drop start items, c.self.inside.bytes.ok.0) in
    let same = c.self.view_is ∙ c.close_up.ensures in
    if_then c.read_piece.result (λ n. (file : List ℕ) → IsFile (g.H.Host.seen c.args.host.now) c.args.name.now file → IsNextPiece file at items c.read_piece.new.bytes.items n) _
    (λ n piece. λ none file is on.
    subst (λ (w : Held). IsAtEnd w file) same
    (ended_at window file items c.read_piece.new.bytes.items at n place none (piece file is) (subst (λ (w : Held). IsAt w file) (sym same) on)))
    c.read_piece.ensures.piece
