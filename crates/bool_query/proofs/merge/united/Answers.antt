use Rattle.std.proofs.Common.{◌≡◌, ℕ, List, eqb, Contains, sym, subst}
use Rattle.std.specs.List.{dedup}
use Rattle.std.proofs.lemmas.List.Filters.{dedup_is}
use Rattle.std.proofs.lemmas.List.Kept.{Contains-dedup_nat, Contains-from_dedup}
use Rattle.std.proofs.lemmas.List.Sorted.{Contains-permutation, IsPermutation-sym}
use Rattle.std.proofs.lemmas.Map.Keys.{IsStrictlyIncreasing-dedup}
use Rattle.bool_query.specs.Answers.{AreExactly}
use Rattle.bool_query.proofs.merge.united.Goals as goal

pub returns : goal.returns
returns c =
    let old = c.args.numbers.items in
    let sorted = c.sort_unstable.new.self.items in
    let same = c.sort_unstable.ensures.permutation in
    let is : c.dedup.new.self.items ≡ dedup eqb sorted = dedup_is eqb sorted c.dedup.new.self.items c.dedup.ensures.filtered in
    subst (AreExactly (Contains old)) (sym is) (record {
      rising = IsStrictlyIncreasing-dedup sorted c.sort_unstable.ensures.sorted;
      each = λ doc. (
        λ stands. Contains-permutation sorted old doc (IsPermutation-sym old sorted same) (Contains-from_dedup eqb sorted doc stands),
        λ stands. Contains-dedup_nat sorted doc (Contains-permutation old sorted doc same stands),
      );
    })
