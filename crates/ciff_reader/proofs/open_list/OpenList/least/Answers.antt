use Rattle.std.proofs.Common.{◌-◌, List, length, sym, subst, ap, arith}
use Rattle.rgb_base.specs.declared.parts.Posting.{Posting}
use Rattle.rgb_base.specs.Parts.{IsPostings}
use Rattle.ciff_reader.specs.Open.{no_posting}
use Rattle.ciff_reader.proofs.Pending.{last_below}
use Rattle.ciff_reader.proofs.open_list.OpenList.least.Goals as goal

pub overflow_add-result : goal.overflow_add-result
overflow_add-result c =
    let documents = c.self.inside.documents in
    let items = c.deref.result.now in
    let it = c.in-Some.ensures.item in
    let rising : IsPostings documents items = subst (λ (ps : List Posting). IsPostings documents ps) (sym c.deref.ensures.value) c.self.invariant.rising in
    let below = last_below documents items (length items - 1) rising (omega (arith, it.3.0)) in
    omega (arith, ap (λ (p : Posting). p.doc) (it.3.1 no_posting), below, c.self.invariant.narrow)
