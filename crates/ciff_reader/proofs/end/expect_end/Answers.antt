use Rattle.std.proofs.Common.{◌≡◌, ◌<◌, length, refl, sym, ap, ◌∙◌, arith}
use Rattle.std.proofs.lemmas.Bool.{eqb-false, eqb-true}
use Rattle.ciff_format.specs.declared.cause.Cause.TheVariants.{Trailing}
use Rattle.ciff_reader.specs.Window.{Opens}
use Rattle.ciff_reader.proofs.Windows.{is_before_end, is_end}
use Rattle.ciff_reader.proofs.Frames.{stops_where}
use Rattle.ciff_reader.proofs.end.expect_end.Goals as goal

pub returns-then-not-is_empty-clause-error : goal.returns-then-not-is_empty-clause-error
returns-then-not-is_empty-clause-error g c = (
  λ file opens.
      let some : 0 < length c.args.window.now.bytes = omega (arith, ap length c.bytes.ensures.same, eqb-false (length c.bytes.result.now) 0 (sym c.is_empty.ensures ∙ c.if-not-is_empty.true)) in
      (c.place-place.ensures.same, omega (arith, is_before_end c.args.window.now file opens.at some, c.place-place.ensures.same), refl),
  refl,
)

pub returns-in-Ok-eq0-clause-ok : goal.returns-in-Ok-eq0-clause-ok
returns-in-Ok-eq0-clause-ok g c = λ file opens.
    let none : length c.args.window.now.bytes ≡ 0 = omega (arith, ap length c.bytes.ensures.same, eqb-true (length c.bytes.result.now) 0 (sym c.is_empty.ensures ∙ c.if-not-is_empty.false)) in
    is_end c.args.window.now file (c.in-Ok-eq0.ensures.end c.in-Ok-eq0.field-0-test file opens.is opens.at) none

pub returns-in-Ok-clause-error : goal.returns-in-Ok-clause-error
returns-in-Ok-clause-error g c = (
  λ file opens.
      let at = c.in-Ok.ensures.at file opens.is opens.at in
      let more : 0 < length c.fill.new.self.bytes = omega (arith, c.in-Ok.ensures.more, c.in-Ok.field-0-test.1) in
      (c.place-place.ensures.same, omega (arith, is_before_end c.fill.new.self file at more, c.in-Ok.ensures.place, c.place-place.ensures.same), refl),
  c.in-Ok.ensures.same,
)

pub returns-in-Err-clause-error : goal.returns-in-Err-clause-error
returns-in-Err-clause-error g c =
    stops_where (Opens (g.H.Host.seen c.args.host.now) c.args.name.now c.args.window.now) (λ file place cause. (place ≡ c.args.window.now.place) × (place < length file) × (cause ≡ Trailing))
    c.in-Err.error c.args.name.now (g.H.Host.seen c.args.host.now) (g.H.Host.seen c.args.host.now) (g.H.Host.seen c.fill.new.host) refl c.in-Err.ensures.error
