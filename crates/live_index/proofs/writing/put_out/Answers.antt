use Rattle.std.proofs.Common.{rules, drop, subst, sym, ◌≡◌, ◌+◌}
use Rattle.std.specs.Arc.{arc_value}
use Rattle.left_right.specs.Sides.{view as party_of}
use Rattle.live_index.specs.declared.view.Shown.{Shown}
use Rattle.live_index.specs.Rule.{state_of}
use Rattle.live_index.proofs.Views.{waits, ends_with}
use Rattle.live_index.proofs.writing.put_out.Goals as goal

pub replace_with-requires : goal.replace_with-requires
replace_with-requires g c =
    let old = c.args.writer.now in let new = c.append_view.new.writer in
    let view = arc_value c.args.view.now in let e = c.append_view.ensures in
    let appended = c.in_ok-append_view.ensures.ok in (
      waits g.K.Plan.versions g.K.Plan.planned c.args.base.now c.args.plan view old.desk.shown.value
          (party_of old.desk.place) new.desk.shown.value (party_of new.desk.place)
          (drop old.behind old.log.items) (drop new.behind new.log.items)
          c.requires.publishing c.requires.view c.requires.next e.shown e.party appended,
      (
        c.requires.view,
        (
          subst (λ (s : Shown). view.version ≡ (arc_value s.view).version + 1) (sym e.shown) c.requires.next,
          (
            ends_with view (state_of new.desk.shown.value) (drop old.behind old.log.items)
                (drop new.behind new.log.items) appended,
            search rules,
          ),
        ),
      ),
    )
