-- A cell has a halving: one round more is made of one that hasn't ended.
use Rattle.std.proofs.Common.{◌≡◌, ℕ, zero, suc, List, [], ◌∷◌, ◌++◌, length, refl, sym, subst, ◌∙◌, inl, inr, arith}
use Rattle.std.specs.Prelude.{slice_get, Some}
use Rattle.std.specs.List.Sorted.{IsStrictlyIncreasing}
use Rattle.std.proofs.lemmas.List.{length-append}
use Rattle.std.proofs.lemmas.Option.{slice_get_within, same_Some}
use Rattle.forward_index.specs.Forward.{ForwardIndex}
use Rattle.exchange.specs.declared.round.Kept.{Kept}
use Rattle.exchange.specs.declared.round.Round.{Round}
use Rattle.exchange.specs.declared.round.Round.TheVariants.{Kept as kept, Refused, Still}
use Rattle.exchange.specs.Round.{IsRound}
use Rattle.exchange.specs.Halving.{Halves, halves_of, Ends, AreHalves}
use Rattle.exchange.specs.Laws.{AreApart, ArePartsOf, HasHalves, HalvesAreThere}
use Rattle.exchange.proofs.Exchanged.{Differ-permutation, Differ-from_rising, Differ-apart}
use Rattle.exchange.proofs.KeptHalves.{halves_keep_documents}
use Rattle.exchange.proofs.Rounds.{one_kept, last_kept}
use Rattle.exchange.proofs.ThereRound.{round_is_there}

no_rounds : (forward : ForwardIndex) (cell : List ℕ) → HasHalves forward cell 0
no_rounds forward cell = record {
  left = halves_of cell;
  records = [];
  are_halves = record {
    entries = halves_of cell ∷ [];
    is_halving = record {
      are_kept = record {
        opening = refl;
        len = omega arith;
        each = λ k before after record_ at_before at_after at_record. absurd (omega (arith, slice_get_within [] k record_ at_record));
      };
      most = omega arith;
      end = inl refl;
    };
    last = refl;
  };
}

parts_apart : (cell : List ℕ) (left : Halves) → IsStrictlyIncreasing cell → ArePartsOf cell left → AreApart left.a left.b
parts_apart cell left rising parts = record {
  rising_a = parts.rising_a;
  rising_b = parts.rising_b;
  apart = λ place in_a in_b. Differ-apart left.a left.b place (Differ-permutation cell (left.a ++ left.b) parts.documents (Differ-from_rising cell rising)) in_a in_b;
}

module _ (forward : ForwardIndex) (cell : List ℕ) (rounds : ℕ) (left : Halves) (records : List Kept) (are : AreHalves forward cell rounds left records) where
  -- the last round wasn't kept
  no_more : ((last : Halves) → slice_get are.entries (length records) ≡ Some last → Ends forward last) → HasHalves forward cell (suc rounds)
  no_more ends = record {
    left = left;
    records = records;
    are_halves = record {
      entries = are.entries;
      is_halving = record { are_kept = are.is_halving.are_kept; most = omega (arith, are.is_halving.most); end = inr ends };
      last = are.last;
    };
  }

  ends_there : Ends forward left → HasHalves forward cell (suc rounds)
  ends_there ends = no_more (λ last at_last. subst (Ends forward) (same_Some left last (sym are.last ∙ at_last)) ends)

  one_more : (new : Halves) (record_ : Kept) → length records ≡ rounds → IsRound forward left.a left.b (kept record_) new.a new.b → HasHalves forward cell (suc rounds)
  one_more new record_ whole round = record {
    left = new;
    records = records ++ record_ ∷ [];
    are_halves = record {
      entries = are.entries ++ new ∷ [];
      is_halving = record {
        are_kept = one_kept forward cell are.entries records left new record_ are.is_halving.are_kept are.last round;
        most = omega (arith, whole, length-append records (record_ ∷ []));
        end = inl (omega (arith, whole, length-append records (record_ ∷ [])));
      };
      last = last_kept are.entries records new record_ are.is_halving.are_kept.len;
    };
  }

  by_round : (round : Round) (a b : List ℕ) → length records ≡ rounds → IsRound forward left.a left.b round a b → HasHalves forward cell (suc rounds)
  by_round Still a b whole is = ends_there (record { round = Still; is_round = (is.0, refl, refl) })
  by_round (Refused r) a b whole is = ends_there (record { round = Refused r; is_round = (is.0, refl, refl) })
  by_round (kept r) a b whole is = one_more (record { a = a; b = b }) r whole is

  next_round : IsStrictlyIncreasing cell → HasHalves forward cell (suc rounds)
  next_round rising =
      let have = round_is_there forward left.a left.b (parts_apart cell left rising (halves_keep_documents forward cell rounds left records rising are)) in
      elim are.is_halving.end [
        | inl whole ↦ by_round have.round have.new_a have.new_b whole have.is_round
        | inr ends ↦ no_more ends
      ]

pub halves_are_there : HalvesAreThere
halves_are_there forward cell zero rising = no_rounds forward cell
halves_are_there forward cell (suc rounds) rising =
    let before = halves_are_there forward cell rounds rising in
    next_round forward cell rounds before.left before.records before.are_halves rising
