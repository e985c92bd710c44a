use Rattle.std.proofs.Common.{◌≡◌, ℕ, List, get_or, All, refl, sym, ◌∙◌, arith}
use Rattle.std.proofs.lemmas.Bool.{false≢true}
use Rattle.std.proofs.lemmas.List.Elements.{All-more, All-contains}
use Rattle.std.proofs.lemmas.Option.{slice_get_within, get_or_from_slice_get}
use Rattle.std.proofs.lemmas.Slice.Eq.{bytes_eq-Decides}
use Rattle.rgb_base.proofs.Lists.{All-whole}
use Rattle.rgb_base.proofs.columns.TextTable.has.Goals as goal

pub returns-then-eq : goal.returns-then-eq
returns-then-eq c =
    let same = (bytes_eq-Decides c.at.result.now c.args.text.now).0 (sym c.eq.ensures ∙ c.if-eq.true) in
    let texts = c.args.self.now in
    let place = c.loop-place.place in
    record {
      same = (λ _. (place, slice_get_within texts place _ c.at.ensures.same, get_or_from_slice_get texts place _ c.args.text.now c.at.ensures.same ∙ same), λ _. refl);
    }

pub loop-place-preserved : goal.loop-place-preserved
loop-place-preserved c =
    let texts = c.args.self.now in
    let place = c.loop-place.place in
    let unlike : ¬ (get_or texts place c.args.text.now ≡ c.args.text.now) = λ same.
    false≢true (sym c.if-eq.false ∙ c.eq.ensures ∙ (bytes_eq-Decides c.at.result.now c.args.text.now).1 (sym (get_or_from_slice_get texts place _ c.args.text.now c.at.ensures.same) ∙ same)) in
    All-more (λ (other : List ℕ). ¬ (other ≡ c.args.text.now)) texts place c.args.text.now (slice_get_within texts place _ c.at.ensures.same) c.loop-place.invariant unlike

pub returns : goal.returns
returns c =
    let unlike : List ℕ → Type 0 = λ other. ¬ (other ≡ c.args.text.now) in
    let all : All unlike c.args.self.now = All-whole unlike c.args.self.now c.loop-place.place (omega arith) c.loop-place.invariant in
    record { same = (λ h. absurd (false≢true h), λ stands. absurd (All-contains unlike c.args.self.now c.args.text.now all stands refl)) }
