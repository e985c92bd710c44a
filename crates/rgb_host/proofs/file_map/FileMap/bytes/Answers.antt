use Rattle.std.proofs.Common.{Some, ap, sym, ◌∙◌, option_map}
use Rattle.std.specs.FinMap.{get}
use Rattle.rgb_host.proofs.Told.{get_told}
use Rattle.rgb_host.proofs.file_map.FileMap.bytes.Goals as goal

pub returns-in-Some : goal.returns-in-Some
returns-in-Some c = record {
  same = ap Some c.deref.ensures.value ∙ ap (option_map (λ v. v.items)) c.in-Some.ensures.value ∙ sym (get_told c.self.inside.value c.args.name.now) ∙ ap (λ m. get m c.args.name.now) c.self.view_is;
}

pub returns-in-None : goal.returns-in-None
returns-in-None c = record {
  same = ap (option_map (λ v. v.items)) c.in-None.ensures.value ∙ sym (get_told c.self.inside.value c.args.name.now) ∙ ap (λ m. get m c.args.name.now) c.self.view_is;
}
