use Rattle.std.proofs.Common.{◌≡◌, length, sym, ap, ◌∙◌, arith}
use Rattle.forward_index.specs.Forward.{ForwardIndex}
use Rattle.forward_index.proofs.Pieces.{length-pieces}
use Rattle.forward_index.proofs.forward.Forward.docs.Goals as goal

-- there are as many ends as rows
counted : (c : goal.After-len) → length c.self.inside.ends.items ≡ length c.args.self.now.rows
counted c = sym (length-pieces 0 c.self.inside.ends.items c.self.inside.entries.items) ∙ ap (λ (v : ForwardIndex). length v.rows) c.self.view_is

pub overflow_cast-result : goal.overflow_cast-result
overflow_cast-result c =
    let few = c.self.invariant.sound.ordered.small in
    let len = c.self.invariant.sound.len in
    omega (arith, few, len, c.len.ensures, length-pieces 0 c.self.inside.ends.items c.self.inside.entries.items, c.self.inside.ends.ok.0)

pub returns : goal.returns
returns c = record { same = omega (arith, counted c, c.len.ensures, c.self.inside.ends.ok.0) }
