use Rattle.std.proofs.Common.{◌≡◌, subst, ◌∙◌, IfNone}
use Rattle.ciff_reader.specs.Window.{Opens, IsFrameFault, IsUnended}
use Rattle.ciff_reader.proofs.Frames.{far_frame, cut_frame, stops_where}
use Rattle.ciff_reader.proofs.Windows.{still_file}
use Rattle.ciff_reader.proofs.message.next_message.Goals as goal

pub returns-in-Err-clause-error : goal.returns-in-Err-clause-error
returns-in-Err-clause-error g c = (
  λ file opens.
      let place = c.place-place.ensures.same ∙ c.pieces.invariant.place in
      (place, far_frame c.pieces.window file c.place-place.result c.in-Err.cause c.bytes.result.now (c.pieces.invariant.at file opens) c.place-place.ensures.same c.bytes.ensures.same c.in-Err.ensures.far),
  c.pieces.invariant.same,
)

pub returns-in-Err-fill-clause-error : goal.returns-in-Err-fill-clause-error
returns-in-Err-fill-clause-error g c =
    stops_where (Opens (g.H.Host.seen c.args.host.now) c.args.name.now c.args.window.now) (λ file place cause. (place ≡ c.args.window.now.place) × IsFrameFault file place cause)
    c.in-Err-fill.error c.args.name.now (g.H.Host.seen c.args.host.now) (g.H.Host.seen c.pieces.host) (g.H.Host.seen c.fill.new.host) c.pieces.invariant.same c.in-Err-fill.ensures.error

pub returns-then-more-eq0-clause-error : goal.returns-then-more-eq0-clause-error
returns-then-more-eq0-clause-error g c = (
  λ file opens.
      let place = c.place-place.ensures.same ∙ c.pieces.invariant.place in
      let is = still_file (g.H.Host.seen c.args.host.now) (g.H.Host.seen c.pieces.host) c.args.name.now file c.pieces.invariant.same opens.is in
      let end = c.in-Ok.ensures.end c.if-more-eq0.true file is (c.pieces.invariant.at file opens) in
      let unended = subst (λ span. IfNone span (IsUnended c.place-place.result c.bytes.result.now)) c.in-Ok-None.field-0-is c.in-Ok-None.ensures.missing in
      (place, cut_frame c.pieces.window file c.place-place.result c.bytes.result.now end c.place-place.ensures.same c.bytes.ensures.same unended),
  c.in-Ok.ensures.same ∙ c.pieces.invariant.same,
)
