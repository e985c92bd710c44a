-- Halvings over a cell's own rows.
use Rattle.std.proofs.Common.{◌≡◌, ℕ, zero, suc, ◌+◌, ◌/◌, ◌<◌, List, length, get_or, map, take, drop, sym, subst, ap, ◌∙◌, inl, inr, arith}
use Rattle.std.specs.Prelude.{slice_get, slice_index, Some}
use Rattle.std.specs.Option.{option_map}
use Rattle.std.proofs.lemmas.List.{length-map, take-map, drop-map}
use Rattle.std.proofs.lemmas.List.Elements.{All-take, All-drop}
use Rattle.std.proofs.lemmas.Option.{slice_get-map, slice_get-get_or, slice_get_within, slice_get_cases, same_Some}
use Rattle.forward_index.specs.Forward.{ForwardIndex}
use Rattle.degrees.specs.Laws.{CostOverTheCell, DegreesOverTheCell}
use Rattle.exchange.specs.declared.round.Kept.{Kept}
use Rattle.exchange.specs.declared.round.Round.TheVariants.{Kept as kept}
use Rattle.exchange.specs.Round.{IsRound}
use Rattle.exchange.specs.Halving.{Halves, half_a, half_b, halves_of, AreKept, Ends, IsHalving}
use Rattle.exchange.specs.Laws.{halves_through, HalvesOverTheCell}
use Rattle.exchange.proofs.CellPlaces.{AreIn, through}
use Rattle.exchange.proofs.CellGains.{AreAlike, alike}
use Rattle.exchange.proofs.CellRounds.{round_through, kept_in}

-- both halves have documents of the cell
abbrev AreBothIn : List ℕ → Halves → Type 0
AreBothIn places halves = AreIn places halves.a × AreIn places halves.b

-- ---- a list of halves

get_through : (places : List ℕ) (entries : List Halves) (k : ℕ) (halves : Halves) → slice_get entries k ≡ Some halves → slice_get (map (halves_through places) entries) k ≡ Some (halves_through places halves)
get_through places entries k halves at = slice_get-map (halves_through places) entries k ∙ ap (option_map (halves_through places)) at

get_back : (places : List ℕ) (entries : List Halves) (k : ℕ) (outer : Halves) → slice_get (map (halves_through places) entries) k ≡ Some outer
    → (halves : Halves) × (slice_get entries k ≡ Some halves) × (halves_through places halves ≡ outer)
get_back places entries k outer at =
    let within : k < length entries = omega (arith, slice_get_within (map (halves_through places) entries) k outer at, length-map entries (halves_through places)) in
    let halves = get_or entries k outer in
    let read = slice_get-get_or entries k outer within in
    (halves, read, same_Some (halves_through places halves) outer (sym (get_through places entries k halves read) ∙ at))

-- ---- the opening halves

middle_through : (places documents : List ℕ) → (length (through places documents) + 1) / 2 ≡ (length documents + 1) / 2
middle_through places documents = ap (λ (n : ℕ). (n + 1) / 2) (length-map documents (slice_index places))

half_a_through : (places documents : List ℕ) → through places (half_a documents) ≡ half_a (through places documents)
half_a_through places documents =
    sym (take-map (slice_index places) ((length documents + 1) / 2) documents) ∙ ap (λ (n : ℕ). take n (through places documents)) (sym (middle_through places documents))

half_b_through : (places documents : List ℕ) → through places (half_b documents) ≡ half_b (through places documents)
half_b_through places documents =
    sym (drop-map (slice_index places) ((length documents + 1) / 2) documents) ∙ ap (λ (n : ℕ). drop n (through places documents)) (sym (middle_through places documents))

halves_same : (a b c d : List ℕ) → a ≡ c → b ≡ d → ◌≡◌ {A = Halves} (record { a = a; b = b }) (record { a = c; b = d })
halves_same a b c d same_a same_b = ap (λ (x : List ℕ). let h : Halves = record { a = x; b = b } in h) same_a ∙ ap (λ (y : List ℕ). let h : Halves = record { a = c; b = y } in h) same_b

opening_through : (places documents : List ℕ) → halves_through places (halves_of documents) ≡ halves_of (through places documents)
opening_through places documents =
    halves_same (through places (half_a documents)) (through places (half_b documents)) (half_a (through places documents)) (half_b (through places documents))
    (half_a_through places documents) (half_b_through places documents)

opening_in : (places documents : List ℕ) → AreIn places documents → AreBothIn places (halves_of documents)
opening_in places documents inside = (
  All-take (λ (k : ℕ). k < length places) ((length documents + 1) / 2) documents inside,
  All-drop (λ (k : ℕ). k < length places) ((length documents + 1) / 2) documents inside,
)

-- ---- all entries

entry_there : {X : Type 0} (xs : List X) (k : ℕ) → k < length xs → (x : X) × (slice_get xs k ≡ Some x)
entry_there xs k within =
    elim (slice_get_cases xs k).1 [
      | inl found ↦ (found.0, found.2)
      | inr past ↦ absurd (omega (arith, within, past.0))
    ]

entries_in : (cell : ForwardIndex) (places documents : List ℕ) (entries : List Halves) (records : List Kept) → AreIn places documents → AreKept cell documents entries records
    → (k : ℕ) (halves : Halves) → slice_get entries k ≡ Some halves → AreBothIn places halves
entries_in cell places documents entries records inside are zero halves at =
    subst (AreBothIn places) (same_Some (halves_of documents) halves (sym are.opening ∙ at)) (opening_in places documents inside)
entries_in cell places documents entries records inside are (suc k) halves at =
    let within : suc k < length entries = slice_get_within entries (suc k) halves at in
    let record_ = entry_there records k (omega (arith, within, are.len)) in
    let before = entry_there entries k (omega (arith, within)) in
    let after : slice_get entries (k + 1) ≡ Some halves = ap (slice_get entries) (omega arith) ∙ at in
    let in_before = entries_in cell places documents entries records inside are k before.0 before.1 in
    kept_in cell places before.0.a before.0.b record_.0 halves.a halves.b in_before.0 in_before.1 (are.each k before.0 halves record_.0 before.1 after record_.1)

kept_through : (whole cell : ForwardIndex) (places : List ℕ) → AreAlike whole cell places → (documents : List ℕ) (entries : List Halves) (records : List Kept) → AreIn places documents
    → AreKept cell documents entries records → AreKept whole (through places documents) (map (halves_through places) entries) records
kept_through whole cell places alike documents entries records inside are = record {
  opening = get_through places entries 0 (halves_of documents) are.opening ∙ ap Some (opening_through places documents);
  len = length-map entries (halves_through places) ∙ are.len;
  each = λ k before after record_ at_before at_after at_record.
      let one = get_back places entries k before at_before in
      let two = get_back places entries (k + 1) after at_after in
      let in_one = entries_in cell places documents entries records inside are k one.0 one.1 in
      let round : IsRound whole (through places one.0.a) (through places one.0.b) (kept record_) (through places two.0.a) (through places two.0.b) =
      round_through whole cell places alike one.0.a one.0.b (kept record_) two.0.a two.0.b in_one.0 in_one.1 (are.each k one.0 two.0 record_ one.1 two.1 at_record) in
      subst (λ (h : Halves). IsRound whole h.a h.b (kept record_) after.a after.b) one.2
      (subst (λ (h : Halves). IsRound whole (through places one.0.a) (through places one.0.b) (kept record_) h.a h.b) two.2 round);
}

ends_through : (whole cell : ForwardIndex) (places : List ℕ) → AreAlike whole cell places → (halves : Halves) → AreBothIn places halves
    → Ends cell halves → Ends whole (halves_through places halves)
ends_through whole cell places alike halves inside ends = record {
  round = ends.round;
  is_round = round_through whole cell places alike halves.a halves.b ends.round halves.a halves.b inside.0 inside.1 ends.is_round;
}

halving_through : (whole cell : ForwardIndex) (places : List ℕ) → AreAlike whole cell places → (documents : List ℕ) (rounds : ℕ) (entries : List Halves) (records : List Kept)
    → AreIn places documents → IsHalving cell documents rounds entries records
    → IsHalving whole (through places documents) rounds (map (halves_through places) entries) records
halving_through whole cell places alike documents rounds entries records inside is = record {
  are_kept = kept_through whole cell places alike documents entries records inside is.are_kept;
  most = is.most;
  end = elim is.end [
    | inl all ↦ inl all
    | inr ends ↦
        inr (λ last at_last.
        let one = get_back places entries (length records) last at_last in
        let in_one = entries_in cell places documents entries records inside is.are_kept (length records) one.0 one.1 in
        subst (Ends whole) one.2 (ends_through whole cell places alike one.0 in_one (ends one.0 one.1)))
  ];
}

pub halves_over_the_cell : CostOverTheCell → DegreesOverTheCell → HalvesOverTheCell
halves_over_the_cell costs degrees whole cell places documents rounds left records sound cell_sound rising is up inside are =
    let both : AreAlike whole cell places = alike costs degrees whole cell places sound cell_sound rising is in
    record {
      entries = map (halves_through places) are.entries;
      is_halving = halving_through whole cell places both documents rounds are.entries records inside are.is_halving;
      last = get_through places are.entries (length records) left are.last;
    }
