use Rattle.std.proofs.Common.{◌≡◌, None, subst, ◌∙◌}
use Rattle.std.specs.Prelude.{string_bytes}
use Rattle.std.specs.FinMap.{get, insert}
use Rattle.rgb_host.specs.Memory.{told}
use Rattle.rgb_host.proofs.Told.{told_update, told_there}
use Rattle.rgb_host.proofs.file_map.FileMap.clear.Goals as goal

pub returns-clause-ok : goal.returns-clause-ok
returns-clause-ok c =
    told_update (string_bytes c.in_ok-name.name) c.self.inside.value c.insert.new.self c.new.result c.in_ok-insert.ensures.updates
    ∙ (λ i. insert (c.self.view_is i) (c.in_ok-name.ensures.ok i) (c.new.ensures.items i))

pub returns-clause-there : goal.returns-clause-there
returns-clause-there c =
    subst (λ bs. ¬ (get (told c.insert.new.self) bs ≡ None)) c.in_ok-name.ensures.ok
    (told_there (string_bytes c.in_ok-name.name) c.self.inside.value c.insert.new.self c.new.result c.in_ok-insert.ensures.updates)
