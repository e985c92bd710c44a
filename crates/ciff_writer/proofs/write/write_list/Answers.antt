use Rattle.std.proofs.Common.{◌≡◌, ◌+◌, ℕ, List, [], length, get_or, refl, sym, ap, arith, rules}
use mir.Val.{SFits}
use Rattle.std.specs.Int.{w64}
use Rattle.ciff_wire.specs.Canonical.{message_of}
use Rattle.ciff_format.specs.Canonical.{framed, text_field, postings_fields}
use Rattle.rgb_base.specs.declared.parts.Posting.{Posting}
use Rattle.rgb_base.specs.declared.parts.TermList.{TermList}
use Rattle.ciff_writer.specs.Pieces.{list_bytes}
use Rattle.ciff_writer.specs.Sending.{Puts, Breaks}
use Rattle.ciff_writer.proofs.Bounds.{list-most, length-framed}
use Rattle.ciff_writer.proofs.Fields.{number-put}
use Rattle.ciff_writer.proofs.Parts.{no_list, told, here, its, rising-of, few-of, short-term, list-parts}
use Rattle.ciff_writer.proofs.Sends.{start, both, next, spelt, spelt_broken, held, roomy, cut, cut_room, cut_last, on_err}
use Rattle.ciff_writer.proofs.write.write_list.Goals as goal

pub returns-in_err-make_room-clause-fault : goal.returns-in_err-make_room-clause-fault
returns-in_err-make_room-clause-fault g c =
    let lists = c.args.index.now.lists in
    let at = c.args.list in
    let inside = c.requires.inside in
    on_err _ _ (here (λ (l : TermList). Breaks c.args.name.now (framed (list_bytes l)) c.args.buffer.now (g.H.Host.seen c.args.host.now) (g.H.Host.seen c.make_room.new.host)) lists at no_list inside (cut_room (start refl) c.in_err-make_room.ensures.fault))

pub returns-in_err-write_text-clause-fault : goal.returns-in_err-write_text-clause-fault
returns-in_err-write_text-clause-fault g c =
    let lists = c.args.index.now.lists in
    let at = c.args.list in
    let inside = c.requires.inside in
    let l = get_or lists at no_list in
    let size = its (λ (l : TermList). c.list_size-size.result ≡ length (list_bytes l)) lists at no_list inside c.list_size-size.ensures.same in
    let room = roomy (start (list-parts l _ size)) c.in_ok-make_room.ensures.ok in
    let front = next room (held c.put_varint.ensures.bytes) in
    let term = told (λ (l : TermList). l.term) lists at no_list c.term.result.now inside c.term.ensures.same in
    on_err _ _ (here (λ (l : TermList). Breaks c.args.name.now (framed (list_bytes l)) c.args.buffer.now (g.H.Host.seen c.args.host.now) (g.H.Host.seen c.write_text.new.host)) lists at no_list inside (cut _ front (spelt_broken (ap (λ (t : List ℕ). message_of (text_field 1 t)) (sym term)) c.in_err-write_text.ensures.fault)))

pub returns-in_err-make_room-2-clause-fault : goal.returns-in_err-make_room-2-clause-fault
returns-in_err-make_room-2-clause-fault g c =
    let lists = c.args.index.now.lists in
    let at = c.args.list in
    let inside = c.requires.inside in
    let l = get_or lists at no_list in
    let size = its (λ (l : TermList). c.list_size-size.result ≡ length (list_bytes l)) lists at no_list inside c.list_size-size.ensures.same in
    let room = roomy (start (list-parts l _ size)) c.in_ok-make_room.ensures.ok in
    let front = next room (held c.put_varint.ensures.bytes) in
    let term = told (λ (l : TermList). l.term) lists at no_list c.term.result.now inside c.term.ensures.same in
    let text = next front (spelt (ap (λ (t : List ℕ). message_of (text_field 1 t)) (sym term)) c.in_ok-write_text.ensures.ok) in
    on_err _ _ (here (λ (l : TermList). Breaks c.args.name.now (framed (list_bytes l)) c.args.buffer.now (g.H.Host.seen c.args.host.now) (g.H.Host.seen c.make_room-2.new.host)) lists at no_list inside (cut_room text c.in_err-make_room-2.ensures.fault))

pub write_postings-requires : goal.write_postings-requires
write_postings-requires g c =
    let rising = rising-of _ c.args.index.now.lists c.args.list c.postings.result.now c.is_sound.ensures.sound.ordered c.requires.inside c.postings.ensures.same in
    search rules

pub returns-in_err-write_postings-clause-fault : goal.returns-in_err-write_postings-clause-fault
returns-in_err-write_postings-clause-fault g c =
    let lists = c.args.index.now.lists in
    let at = c.args.list in
    let inside = c.requires.inside in
    let l = get_or lists at no_list in
    let size = its (λ (l : TermList). c.list_size-size.result ≡ length (list_bytes l)) lists at no_list inside c.list_size-size.ensures.same in
    let room = roomy (start (list-parts l _ size)) c.in_ok-make_room.ensures.ok in
    let front = next room (held c.put_varint.ensures.bytes) in
    let term = told (λ (l : TermList). l.term) lists at no_list c.term.result.now inside c.term.ensures.same in
    let text = next front (spelt (ap (λ (t : List ℕ). message_of (text_field 1 t)) (sym term)) c.in_ok-write_text.ensures.ok) in
    let more = roomy text c.in_ok-make_room-2.ensures.ok in
    let df-fits : SFits w64 c.df.result = search rules in
    let cf-fits : SFits w64 c.cf.result = search rules in
    let df = told (λ (l : TermList). l.df) lists at no_list c.df.result inside c.df.ensures.same in
    let cf = told (λ (l : TermList). l.cf) lists at no_list c.cf.result inside c.cf.ensures.same in
    let postings = told (λ (l : TermList). l.postings) lists at no_list c.postings.result.now inside c.postings.ensures.same in
    let numbers = next (next more (held (number-put _ _ 2 c.df.result l.df c.put_number.ensures.bytes df-fits (sym df)))) (held (number-put _ _ 3 c.cf.result l.cf c.put_number-2.ensures.bytes cf-fits (sym cf))) in
    let postings-are = ap (λ (ps : List Posting). message_of (postings_fields 0 ps)) (sym postings) in
    on_err _ _ (here (λ (l : TermList). Breaks c.args.name.now (framed (list_bytes l)) c.args.buffer.now (g.H.Host.seen c.args.host.now) (g.H.Host.seen c.write_postings.new.host)) lists at no_list inside (cut_last numbers (spelt_broken postings-are c.in_err-write_postings.ensures.fault)))

pub overflow_add-result : goal.overflow_add-result
overflow_add-result g c =
    let lists = c.args.index.now.lists in
    let at = c.args.list in
    let inside = c.requires.inside in
    let l = get_or lists at no_list in
    let size = its (λ (l : TermList). c.list_size-size.result ≡ length (list_bytes l)) lists at no_list inside c.list_size-size.ensures.same in
    let sound = c.is_sound.ensures.sound in
    let few = few-of lists at c.postings.result.now sound.sized.postings inside c.postings.ensures.same in
    let short = short-term c.args.index.now at c.term.result.now sound.sized.text inside c.term.ensures.same in
    let term = told (λ (l : TermList). l.term) lists at no_list c.term.result.now inside c.term.ensures.same in
    let postings = told (λ (l : TermList). l.postings) lists at no_list c.postings.result.now inside c.postings.ensures.same in
    omega (arith, length-framed (list_bytes l) _ size, list-most l, ap length term, ap length postings)

pub returns-clause-len : goal.returns-clause-len
returns-clause-len g c =
    let lists = c.args.index.now.lists in
    let at = c.args.list in
    let inside = c.requires.inside in
    let l = get_or lists at no_list in
    let size = its (λ (l : TermList). c.list_size-size.result ≡ length (list_bytes l)) lists at no_list inside c.list_size-size.ensures.same in
    here (λ (l : TermList). c.varint_len.result + c.list_size-size.result ≡ length (framed (list_bytes l))) lists at no_list inside (omega (arith, length-framed (list_bytes l) _ size))

pub returns-clause-ok : goal.returns-clause-ok
returns-clause-ok g c =
    let lists = c.args.index.now.lists in
    let at = c.args.list in
    let inside = c.requires.inside in
    let l = get_or lists at no_list in
    let size = its (λ (l : TermList). c.list_size-size.result ≡ length (list_bytes l)) lists at no_list inside c.list_size-size.ensures.same in
    let room = roomy (start (list-parts l _ size)) c.in_ok-make_room.ensures.ok in
    let front = next room (held c.put_varint.ensures.bytes) in
    let term = told (λ (l : TermList). l.term) lists at no_list c.term.result.now inside c.term.ensures.same in
    let text = next front (spelt (ap (λ (t : List ℕ). message_of (text_field 1 t)) (sym term)) c.in_ok-write_text.ensures.ok) in
    let more = roomy text c.in_ok-make_room-2.ensures.ok in
    let df-fits : SFits w64 c.df.result = search rules in
    let cf-fits : SFits w64 c.cf.result = search rules in
    let df = told (λ (l : TermList). l.df) lists at no_list c.df.result inside c.df.ensures.same in
    let cf = told (λ (l : TermList). l.cf) lists at no_list c.cf.result inside c.cf.ensures.same in
    let postings = told (λ (l : TermList). l.postings) lists at no_list c.postings.result.now inside c.postings.ensures.same in
    let numbers = next (next more (held (number-put _ _ 2 c.df.result l.df c.put_number.ensures.bytes df-fits (sym df)))) (held (number-put _ _ 3 c.cf.result l.cf c.put_number-2.ensures.bytes cf-fits (sym cf))) in
    let postings-are = ap (λ (ps : List Posting). message_of (postings_fields 0 ps)) (sym postings) in
    here (λ (l : TermList). Puts c.args.name.now (framed (list_bytes l)) [] c.args.buffer.now c.write_postings.new.buffer (g.H.Host.seen c.args.host.now) (g.H.Host.seen c.write_postings.new.host)) lists at no_list inside (both numbers (spelt postings-are c.in_ok-write_postings.ensures.ok))
