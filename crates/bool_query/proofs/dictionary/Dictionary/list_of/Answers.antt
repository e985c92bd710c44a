use Rattle.std.proofs.Common.{◌≡◌, ◌↔◌, ℕ, List, Option, Some, None, slice_get, sym, subst, ◌∙◌}
use Rattle.bool_query.proofs.Terms.{texts, list_where}
use Rattle.bool_query.proofs.dictionary.Dictionary.list_of.Goals as goal

pub returns-in_err-list : goal.returns-in_err-list
returns-in_err-list c = record {
  list = λ n.
      let is = list_where c.self.inside.terms.keys c.args.term.now c.from_residual.result c.self.invariant.different (c.from_residual.ensures ∙ sym c.in_err-list.was ∙ c.get_index_of.ensures.index) n in
      subst (λ (ts : List (List ℕ)). (c.from_residual.result ≡ Some n) ↔ (slice_get ts n ≡ Some c.args.term.now)) c.self.view_is is;
}

pub returns : goal.returns
returns c = record {
  list = λ n.
      let is = list_where c.self.inside.terms.keys c.args.term.now (Some c.in_ok-list.list) c.self.invariant.different (sym c.in_ok-list.was ∙ c.get_index_of.ensures.index) n in
      subst (λ (ts : List (List ℕ)). (Some c.in_ok-list.list ≡ Some n) ↔ (slice_get ts n ≡ Some c.args.term.now)) c.self.view_is is;
}
