use Rattle.std.proofs.Common.{◌+◌, ◌-◌, ◌<◌, ◌≡◌, length, sym, subst, List, arith, get_or}
use Rattle.rgb_base.specs.declared.parts.Posting.{Posting}
use Rattle.rgb_base.specs.Parts.{IsPostings}
use Rattle.rgb_base.specs.Building.{Building}
use Rattle.ciff_reader.specs.Open.{IsOpen, alone, no_posting}
use Rattle.ciff_reader.proofs.Pending.{is_open_with}
use Rattle.ciff_reader.proofs.open_list.OpenList.push_postings.Goals as goal

pub invariant_of-self-2 : goal.invariant_of-self-2
invariant_of-self-2 c =
    let documents = c.self.inside.documents in
    let xs = c.self.inside.postings.items in
    let more = c.args.postings.now in
    let rising : IsPostings documents more = subst (λ (v : Building). IsPostings v.documents more) (sym c.self.view_is) c.requires.rising in
    let least = subst (λ (v : Building). 0 < length v.postings → c.least.result ≡ (get_or v.postings (length v.postings - 1) no_posting).doc + 1) (sym c.self.view_is) c.least.ensures.some in
    subst (λ (ps : List Posting). IsOpen (alone documents ps)) (sym c.in_ok-extend_from_slice.ensures.items)
    (is_open_with documents c.least.result xs more c.self.invariant rising c.requires.fit least (omega (arith, c.if-first-least.false)) (omega (arith, c.if-len-postings.false, c.len.ensures)))
