use Rattle.std.proofs.Common.{◌≡◌, ℕ, List, [], ◌∷◌, ◌++◌, length, sym, ap, subst, ◌∙◌, arith, string_bytes}
use Rattle.rgb_base.specs.Flat.{IsTextTable, pieces}
use Rattle.rgb_base.proofs.Cuts.{pieces_pushed, pushed_within}
use Rattle.rgb_base.proofs.Texts.{IsTextTable-pushed}
use Rattle.rgb_base.proofs.columns.TextTable.push.Goals as goal

-- the text and its end, as they are then
ended : (c : goal.After-push) → c.push.new.self.items ≡ c.self.inside.ends.items ++ length (string_bytes c.push_str.new.self) ∷ []
ended c =
    let size : length c.as_str.result.now ≡ length (string_bytes c.push_str.new.self) = ap length c.as_str.ensures.value in
    pushed_within c.push.result _ _ _ (c.push.ensures.succeeds (omega (arith, c.in_ok-reserve.ensures.ok))) c.push.ensures.items
    ∙ ap (λ (es : List ℕ). es ++ length c.as_str.result.now ∷ []) c.in_ok-reserve.ensures.items ∙ ap (λ (n : ℕ). c.self.inside.ends.items ++ n ∷ []) size

both : (c : goal.After-push) → c.push.new.self.items ≡ c.self.inside.ends.items ++ length (string_bytes c.self.inside.text ++ c.args.text.now) ∷ []
both c = ended c ∙ ap (λ (bs : List ℕ). c.self.inside.ends.items ++ length bs ∷ []) c.in_ok-push_str.ensures.bytes

pub invariant_of-self-2 : goal.invariant_of-self-2
invariant_of-self-2 c =
    let table = IsTextTable-pushed c.self.inside.ends.items (string_bytes c.self.inside.text) c.args.text.now c.utf8.text c.self.invariant in
    subst (λ (es : List ℕ). IsTextTable es (string_bytes c.push_str.new.self)) (sym (both c))
    (subst (IsTextTable (c.self.inside.ends.items ++ length (string_bytes c.self.inside.text ++ c.args.text.now) ∷ [])) (sym c.in_ok-push_str.ensures.bytes) table)

pub returns-clause-ok : goal.returns-clause-ok
returns-clause-ok c =
    let ends = c.self.inside.ends.items in
    let bytes = string_bytes c.self.inside.text in
    ap (λ (es : List ℕ). pieces 0 es (string_bytes c.push_str.new.self)) (both c)
    ∙ ap (pieces 0 (ends ++ length (bytes ++ c.args.text.now) ∷ [])) c.in_ok-push_str.ensures.bytes
    ∙ pieces_pushed ends bytes c.args.text.now c.self.invariant.cuts c.self.invariant.whole ∙ ap (λ (ts : List (List ℕ)). ts ++ c.args.text.now ∷ []) c.self.view_is
