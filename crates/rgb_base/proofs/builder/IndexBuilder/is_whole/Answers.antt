use Rattle.std.proofs.Common.{◌≡◌, sym, subst, arith}
use Rattle.std.proofs.lemmas.Bool.Decides.{Decides-eqb}
use Rattle.rgb_base.specs.Building.{IsWhole}
use Rattle.rgb_base.specs.Kept.{IsLeast, building_in}
use Rattle.rgb_base.proofs.Built.{least_none}
use Rattle.rgb_base.proofs.Rows.{length-records_of}
use Rattle.rgb_base.proofs.builder.IndexBuilder.is_whole.Goals as goal

pub returns-then-self-eq0 : goal.returns-then-self-eq0
returns-then-self-eq0 c =
    let t = c.self.inside in
    let h = c.self.invariant in
    let count = length-records_of t.names t.sizes.items h.records in
    record {
      same = (
        λ yes.
            let all : c.len.result ≡ t.documents = (Decides-eqb c.len.result t.documents).0 yes in
            let none = least_none t.postings.pending (subst (λ least. IsLeast least t.postings.pending) c.if-self-eq0.true h.least) in
            let whole : IsWhole (building_in t) = record { none_open = none; recorded = omega (arith, all, c.len.ensures.same, count, h.records) } in
            subst IsWhole c.self.view_is whole,
        λ whole.
            let held : IsWhole (building_in t) = subst IsWhole (sym c.self.view_is) whole in
            (Decides-eqb c.len.result t.documents).1 (omega (arith, held.recorded, c.len.ensures.same, count, h.records)),
      );
    }
