use Rattle.std.proofs.Common.{◌≡◌, ◌<◌, ◌≤◌, ◌+◌, ℕ, Vec, Global, set, List, [], length, subst, ap, sym, ◌∙◌, arith, get_or, take, Contains}
use Rattle.bool_query.specs.Scopes.{AreSifted}
use Rattle.bool_query.proofs.Exactly.{IsSifting, rises, read_there, sifting_kept_by, sifting_left_by, sifting_done}
use Rattle.bool_query.proofs.Listing.{passed_later}
use Rattle.bool_query.proofs.merge.sift.Goals as goal
use Rattle.bool_query.proofs.merge.sift.Goals.{then-is_next-listed, else-is_next-listed}

pub loop-i-preserved : goal.loop-i-preserved
loop-i-preserved c =
    let ids = c.args.ids.items in
    let list = c.args.others.now in
    let is = c.loop-i.invariant.sifting in
    let doc = c.index-doc.result.now in
    let inside : c.loop-i.i < length ids = omega (arith, c.loop-i-test.true, c.len-i-end.ensures) in
    record {
      sifting = elim c.if-is_next-listed.branch [
        | then-is_next-listed w ↦
            let more = sifting_kept_by ids list c.loop-i.ids.items c.args.listed c.is_next.result c.loop-i.i c.loop-i.kept doc c.requires.rising is inside (sym c.index-doc.ensures) c.is_next.ensures.listed w.if-is_next-listed.true in
            let items : c.if-is_next-listed.ids.items ≡ set c.loop-i.ids.items c.loop-i.kept doc = ap (λ (v : Vec ℕ Global). v.items) w.ids-is in
            subst (λ (n : ℕ). IsSifting ids list c.args.listed (c.loop-i.i + 1) n c.if-is_next-listed.ids.items) (sym w.kept-is)
            (subst (λ (l : List ℕ). IsSifting ids list c.args.listed (c.loop-i.i + 1) (c.loop-i.kept + 1) l) (sym items) more)
        | else-is_next-listed w ↦
            let more = sifting_left_by ids list c.loop-i.ids.items c.args.listed c.is_next.result c.loop-i.i c.loop-i.kept doc is inside (sym c.index-doc.ensures) c.is_next.ensures.listed w.if-is_next-listed.false in
            let items : c.if-is_next-listed.ids.items ≡ c.loop-i.ids.items = ap (λ (v : Vec ℕ Global). v.items) w.ids-is in
            subst (λ (n : ℕ). IsSifting ids list c.args.listed (c.loop-i.i + 1) n c.if-is_next-listed.ids.items) (sym w.kept-is)
            (subst (λ (l : List ℕ). IsSifting ids list c.args.listed (c.loop-i.i + 1) c.loop-i.kept l) (sym items) more)
      ];
      behind = λ k from below.
          let here : get_or ids c.loop-i.i 0 ≡ doc = read_there ids list c.loop-i.ids.items c.args.listed c.loop-i.i c.loop-i.kept doc is inside (sym c.index-doc.ensures) in
          let lower : doc ≤ get_or ids k 0 = omega (arith, rises ids c.loop-i.i k c.requires.rising (omega arith) below, here) in
          passed_later list doc (get_or ids k 0) c.is_next.new.place lower c.is_next.ensures.passed;
    }

pub returns : goal.returns
returns c =
    subst (AreSifted c.args.ids.items c.args.others.now c.args.listed) (sym c.truncate.ensures.items)
    (sifting_done c.args.ids.items c.args.others.now c.loop-i.ids.items c.args.listed c.loop-i.i c.loop-i.kept c.loop-i.invariant.sifting (omega (arith, c.len-i-end.ensures)))
