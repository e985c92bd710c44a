use Rattle.std.proofs.Common.{◌≡◌, ◌<◌, ℕ, List, [], length, map, get_or, sym, ap, ◌∙◌, arith, rules}
use Rattle.std.proofs.lemmas.List.{length-map}
use Rattle.rgb_base.specs.Parts.{terms_of}
use Rattle.rgb_base.specs.declared.parts.TermList.{TermList}
use Rattle.bool_query.proofs.Terms.{texts_more, term_read}
use Rattle.bool_query.proofs.dictionary.Dictionary.new.Goals as goal

pub loop-list-preserved : goal.loop-list-preserved
loop-list-preserved c =
    let lists = c.args.index.now.lists in
    let i = c.loop-list.list in
    let inside : i < length (terms_of lists) = omega (arith, c.loop-list-test.true, c.lists-list-end.ensures.same, length-map lists (λ (l : TermList). l.term)) in
    let here = term_read lists i c.term.result.now c.term.ensures.same in
    texts_more c.loop-list.terms.keys c.insert.new.self.keys c.in_ok-from_str.field-0 (terms_of lists) i c.loop-list.invariant c.is_sound.ensures.sound.different inside
    (here ∙ sym c.in_ok-from_str.ensures.ok) c.in_ok-insert.ensures.keys
