use Rattle.std.proofs.Common.{◌≡◌, List, ℕ, Contains, sym, ap, subst, ◌∙◌}
use Rattle.std.specs.Prelude.{IsTrue, ◌↔◌}
use Rattle.std.proofs.lemmas.Bool.{false≢true}
use Rattle.std.proofs.Common.{◌==◌}
use Rattle.indexmap.specs.IndexSet.{contains_by}
use Rattle.rgb_base.specs.Parts.{terms_of}
use Rattle.rgb_base.specs.Building.{Building}
use Rattle.rgb_base.proofs.Rows.{terms_in}
use Rattle.rgb_base.proofs.Entered.{not_there}
use Rattle.rgb_base.proofs.builder.IndexBuilder.has_term.Goals as goal

pub returns-then-contains : goal.returns-then-contains
returns-then-contains c =
    let t = c.self.inside in
    let h = c.self.invariant in
    let same : t.terms ≡ terms_of c.args.self.now.lists = sym (terms_in t.terms t.counts.items t.postings.closed h.lists.terms_len h.lists.parts_len) ∙ ap (λ (v : Building). terms_of v.lists) c.self.view_is in
    record { same = subst (λ (ts : List (List ℕ)). IsTrue c.has.result ↔ Contains ts c.args.term.now) same c.has.ensures.same }

pub returns-else-contains : goal.returns-else-contains
returns-else-contains c =
    let t = c.self.inside in
    let h = c.self.invariant in
    let same : terms_of c.args.self.now.lists ≡ t.terms = ap (λ (v : Building). terms_of v.lists) (sym c.self.view_is) ∙ terms_in t.terms t.counts.items t.postings.closed h.lists.terms_len h.lists.parts_len in
    let none = ap (λ (mark : ℕ). contains_by (λ key. mark == key) t.marks) (sym c.mark_of.ensures.same) ∙ sym c.contains.ensures ∙ c.if-contains.false in
    record {
      same = (
        λ yes. absurd (false≢true (sym c.if-contains.false ∙ yes)),
        λ stands. absurd (not_there t.marks.keys t.terms c.args.term.now h.marked none (subst (λ (ts : List (List ℕ)). Contains ts c.args.term.now) same stands)),
      );
    }
