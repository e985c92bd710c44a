use Rattle.std.specs.List.{prefix_len}
use Rattle.std.specs.Str.{IsCharBoundary}
use Rattle.std.proofs.Common.{sym, ◌∙◌, ap, subst}
use Rattle.bool_query.specs.Token.{is_blank}
use Rattle.bool_query.proofs.Seams.{blanks_cut, past_blanks}
use Rattle.bool_query.proofs.token.past_blanks.Goals as goal

pub split_at-requires : goal.split_at-requires
split_at-requires c =
    subst (IsCharBoundary c.args.text.now) (sym (c.blanks_of.ensures ∙ ap (prefix_len is_blank) c.as_bytes.ensures.value)) (blanks_cut c.args.text.now c.utf8.text)

pub returns : goal.returns
returns c =
    past_blanks c.args.text.now c.split_at.result.1.now c.blanks_of.result
    (c.blanks_of.ensures ∙ ap (prefix_len is_blank) c.as_bytes.ensures.value) c.split_at.ensures.back
