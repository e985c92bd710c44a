use Rattle.std.proofs.Common.{◌≡◌, ◌+◌, ◌-◌, ◌^◌, ◌<◌, ℕ, length, min, sym, ap, subst, ◌∙◌, arith}
use Rattle.std.proofs.lemmas.List.{length-append, get_or-append-add}
use Rattle.degrees.specs.Counts.{Counted, IsCounted, degrees_of, loaded, one_load_more}
use Rattle.degrees.proofs.Kept.{counts_as, counted_same, half_short, IsCounted-loaded}
use Rattle.degrees.proofs.table.Degrees.load.Goals as goal

pub add_half-requires-clause-few : goal.add_half-requires-clause-few
add_half-requires-clause-few c = omega (arith, half_short c.args.forward.now c.args.a.now c.args.b.now c.is_sound.ensures.sound c.requires.places)

pub add_half-requires-2-clause-below : goal.add_half-requires-2-clause-below
add_half-requires-2-clause-below c k d lt =
    let a = c.args.a.now in
    let b = c.args.b.now in
    let here = c.requires.places.below (length a + k) d (omega (arith, length-append {A = ℕ} a b)) in
    omega (arith, get_or-append-add a b k d)

pub add_half-requires-2-clause-few : goal.add_half-requires-2-clause-few
add_half-requires-2-clause-few c = omega (arith, half_short c.args.forward.now c.args.a.now c.args.b.now c.is_sound.ensures.sound c.requires.places)

pub overflow_cast-self : goal.overflow_cast-self
overflow_cast-self c = record { fits = omega (arith, half_short c.args.forward.now c.args.a.now c.args.b.now c.is_sound.ensures.sound c.requires.places) }

pub overflow_cast-self-2 : goal.overflow_cast-self-2
overflow_cast-self-2 c = record { fits = omega (arith, half_short c.args.forward.now c.args.a.now c.args.b.now c.is_sound.ensures.sound c.requires.places) }

-- what stands in the table at the end
same : (c : goal.After-self-3-1)
    → counts_as c.add_half-2.new.counts.a c.add_half-2.new.counts.b (length c.args.a.now) (length c.args.b.now) c.saturating_add-self-inside.result
    ≡ loaded c.args.forward.now c.args.a.now c.args.b.now (one_load_more c.args.self.now.loads)
unfolding one_load_more
same c =
    counted_same c.add_half-2.new.counts.a (degrees_of c.args.forward.now c.args.a.now) c.add_half-2.new.counts.b (degrees_of c.args.forward.now c.args.b.now)
    (length c.args.a.now) (length c.args.b.now) c.saturating_add-self-inside.result (one_load_more c.args.self.now.loads)
    (c.add_half-2.ensures.other ∙ c.add_half.ensures.half) c.add_half-2.ensures.half (c.saturating_add-self-inside.ensures ∙ ap (λ (t : Counted). min (t.loads + 1) (2 ^ 64 - 1)) c.self.view_is)

pub invariant_of-self : goal.invariant_of-self
unfolding one_load_more
invariant_of-self c =
    let loads : one_load_more c.args.self.now.loads < 2 ^ 64 =
    omega (arith, c.saturating_add-self-inside.ensures, ap (λ (t : Counted). t.loads) c.self.view_is, c.saturating_add-self-inside.type_inv) in
    subst IsCounted (sym (same c)) (IsCounted-loaded c.args.forward.now c.args.a.now c.args.b.now (one_load_more c.args.self.now.loads) c.is_sound.ensures.sound c.requires.places loads)

pub returns : goal.returns
returns c = record { loaded = same c }
