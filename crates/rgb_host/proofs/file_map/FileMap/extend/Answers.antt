use Rattle.std.proofs.Common.{◌≡◌, rules, ap, sym, subst, ◌∙◌, option_map, OnOk, OnErr}
use Rattle.rgb_host.specs.Files.{appended}
use Rattle.rgb_host.specs.Memory.{told}
use Rattle.rgb_host.proofs.Told.{get_told, told_there, told_extended}
use Rattle.rgb_host.proofs.file_map.FileMap.extend.Goals as goal

pub unreachable-requires : goal.unreachable-requires
unreachable-requires c =
    let got = get_told c.self.inside.value c.args.name.now in
    c.requires (rw (← c.self.view_is) (got ∙ ap (option_map (λ v. v.items)) (sym c.in-None.ensures.value)))

pub returns-clause-ok : goal.returns-clause-ok
returns-clause-ok c =
    let w = c.extend_from_slice.new.self in
    let after = c.get_mut.follows.lender w in
    let both = told_extended c.args.name.now c.self.inside.value after c.in-Some.bytes.now w c.args.piece.now c.in-Some.ensures.value ((c.get_mut.follows.holds w).3 (search rules)) c.extend_from_slice.result c.extend_from_slice.ensures.items in
    subst (λ m. OnOk c.extend_from_slice.result (told after ≡ appended c.args.name.now c.args.piece.now m)) c.self.view_is both.0

pub returns-clause-err : goal.returns-clause-err
returns-clause-err c =
    let w = c.extend_from_slice.new.self in
    let after = c.get_mut.follows.lender w in
    let both = told_extended c.args.name.now c.self.inside.value after c.in-Some.bytes.now w c.args.piece.now c.in-Some.ensures.value ((c.get_mut.follows.holds w).3 (search rules)) c.extend_from_slice.result c.extend_from_slice.ensures.items in
    subst (λ m. OnErr c.extend_from_slice.result (told after ≡ m)) c.self.view_is both.1

pub returns-clause-there : goal.returns-clause-there
returns-clause-there c =
    let w = c.extend_from_slice.new.self in
    told_there c.args.name.now c.self.inside.value (c.get_mut.follows.lender w) w ((c.get_mut.follows.holds w).3 (search rules))
