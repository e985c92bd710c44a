use Rattle.std.proofs.Common.{length, ap, arith, string_bytes}
use Rattle.rgb_base.proofs.Cuts.{length-pieces}
use Rattle.rgb_base.proofs.columns.TextTable.len.Goals as goal

pub returns : goal.returns
returns c =
    let ends = c.self.inside.ends in
    let count = length-pieces 0 ends.items (string_bytes c.self.inside.text) in
    record { same = omega (arith, count, ap length c.self.view_is, c.len.ensures, ends.ok.0) }
