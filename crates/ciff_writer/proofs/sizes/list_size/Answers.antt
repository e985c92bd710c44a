use Rattle.std.proofs.Common.{◌≡◌, ◌+◌, ℕ, List, length, get_or, sym, ap, ◌∙◌, arith, rules}
use mir.Val.{SFits}
use Rattle.std.specs.Int.{w64}
use Rattle.ciff_wire.specs.Canonical.{message_of}
use Rattle.ciff_format.specs.Canonical.{text_field, postings_fields}
use Rattle.rgb_base.specs.declared.parts.Posting.{Posting}
use Rattle.rgb_base.specs.declared.parts.TermList.{TermList}
use Rattle.ciff_writer.specs.Pieces.{list_bytes}
use Rattle.ciff_writer.proofs.Fields.{number-size}
use Rattle.ciff_writer.proofs.Parts.{no_list, told, here, rising-of, few-of, short-term, length-list}
use Rattle.ciff_writer.proofs.sizes.list_size.Goals as goal

pub postings_size-requires-clause-few : goal.postings_size-requires-clause-few
postings_size-requires-clause-few c = few-of c.args.index.now.lists c.args.list c.postings.result.now c.is_sound.ensures.sound.sized.postings c.requires c.postings.ensures.same

pub postings_size-requires-clause-rising : goal.postings_size-requires-clause-rising
postings_size-requires-clause-rising c = rising-of _ c.args.index.now.lists c.args.list c.postings.result.now c.is_sound.ensures.sound.ordered c.requires c.postings.ensures.same

pub overflow_add-result-3 : goal.overflow_add-result-3
overflow_add-result-3 c =
    let few = few-of c.args.index.now.lists c.args.list c.postings.result.now c.is_sound.ensures.sound.sized.postings c.requires c.postings.ensures.same in
    let short = short-term c.args.index.now c.args.list c.term.result.now c.is_sound.ensures.sound.sized.text c.requires c.term.ensures.same in
    omega (arith, few, short)

pub returns : goal.returns
returns c =
    let lists = c.args.index.now.lists in
    let l = get_or lists c.args.list no_list in
    let df-fits : SFits w64 c.df.result = search rules in
    let cf-fits : SFits w64 c.cf.result = search rules in
    let term = told (λ (l : TermList). l.term) lists c.args.list no_list c.term.result.now c.requires c.term.ensures.same in
    let df = told (λ (l : TermList). l.df) lists c.args.list no_list c.df.result c.requires c.df.ensures.same in
    let cf = told (λ (l : TermList). l.cf) lists c.args.list no_list c.cf.result c.requires c.cf.ensures.same in
    let postings = told (λ (l : TermList). l.postings) lists c.args.list no_list c.postings.result.now c.requires c.postings.ensures.same in
    let one : c.text_size.result ≡ length (message_of (text_field 1 l.term)) = c.text_size.ensures.same 1 (omega arith) (omega arith) ∙ ap (λ (t : List ℕ). length (message_of (text_field 1 t))) (sym term) in
    let two = number-size _ 2 c.df.result l.df c.number_size.ensures.same (omega arith) (omega arith) df-fits (sym df) in
    let three = number-size _ 3 c.cf.result l.cf c.number_size-2.ensures.same (omega arith) (omega arith) cf-fits (sym cf) in
    let four : c.postings_size.result ≡ length (message_of (postings_fields 0 l.postings)) = c.postings_size.ensures.same ∙ ap (λ (ps : List Posting). length (message_of (postings_fields 0 ps))) (sym postings) in
    record { same = here (λ (l : TermList). c.text_size.result + c.number_size.result + c.number_size-2.result + c.postings_size.result ≡ length (list_bytes l)) lists c.args.list no_list c.requires (omega (arith, one, two, three, four, length-list l)) }
