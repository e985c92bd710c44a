use Rattle.std.proofs.Common.{◌≡◌, ◌<◌, List, [], ℕ, length, get_or, Some, Contains, arith, sym, ap, subst, ◌∙◌}
use Rattle.std.proofs.lemmas.List.{get_or-map, length-map}
use Rattle.std.proofs.lemmas.Option.{slice_get-get_or}
use Rattle.rgb_base.specs.declared.parts.TermList.{TermList}
use Rattle.rgb_base.specs.Parts.{terms_of}
use Rattle.rgb_base.proofs.Terms.{Contains-from_seen, all_different_more, texts_more, not_true, not_false}
use Rattle.rgb_base.proofs.checks.first_repeat.Goals as goal

-- the term of the list that a loop reads
term_at : (lists : List TermList) (i : ℕ) (list : TermList) (text : List ℕ) → i < length lists → list ≡ get_or lists i list → text ≡ list.term → get_or (terms_of lists) i [] ≡ text
term_at lists i list text within read same = get_or-map (λ (l : TermList). l.term) lists i list [] within ∙ ap (λ (l : TermList). l.term) (sym read) ∙ sym same

pub returns-then-not-branch : goal.returns-then-not-branch
returns-then-not-branch c =
    let lists = c.args.lists.now in
    let key = c.as_str.result in
    let terms = terms_of lists in
    let within : c.loop-place.place < length terms = omega (arith, length-map lists (λ (l : TermList). l.term)) in
    let here = term_at lists c.loop-place.place c.index-lists-place.result key.now c.loop-place-test.true c.index-lists-place.is c.as_str.ensures.same in
    let seen = not_false _ (sym c.if-not-branch.true ∙ c.in_ok-insert.ensures.added) in
    record {
      text = key.now;
      at = slice_get-get_or terms c.loop-place.place [] within ∙ ap Some here;
      wrong = subst (λ (ts : List (List ℕ)). Contains ts key.now) c.loop-place.invariant.seen (Contains-from_seen _ key seen);
      before = c.loop-place.invariant.different;
    }

pub loop-place-preserved : goal.loop-place-preserved
loop-place-preserved c =
    let lists = c.args.lists.now in
    let key = c.as_str.result in
    let terms = terms_of lists in
    let within : c.loop-place.place < length terms = omega (arith, length-map lists (λ (l : TermList). l.term)) in
    let here = term_at lists c.loop-place.place c.index-lists-place.result key.now c.loop-place-test.true c.index-lists-place.is c.as_str.ensures.same in
    let unseen = not_true _ (sym c.if-not-branch.false ∙ c.in_ok-insert.ensures.added) in
    record {
      seen = texts_more terms _ _ _ key within here c.loop-place.invariant.seen unseen c.in_ok-insert.ensures.keys;
      different = all_different_more terms _ _ key within here c.loop-place.invariant.seen unseen c.loop-place.invariant.different;
    }
