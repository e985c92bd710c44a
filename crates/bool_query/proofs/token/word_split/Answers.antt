use Rattle.std.specs.List.{prefix_len}
use Rattle.std.specs.Str.{IsCharBoundary}
use Rattle.std.proofs.Common.{sym, ◌∙◌, ap, subst}
use Rattle.bool_query.specs.Token.{is_word_byte}
use Rattle.bool_query.proofs.Seams.{word_cut, word_split}
use Rattle.bool_query.proofs.token.word_split.Goals as goal

pub split_at-requires : goal.split_at-requires
split_at-requires c =
    subst (IsCharBoundary c.args.text.now) (sym (c.word_bytes_of.ensures ∙ ap (prefix_len is_word_byte) c.as_bytes.ensures.value)) (word_cut c.args.text.now)

pub returns : goal.returns
returns c =
    word_split c.args.text.now c.split_at.result.0.now c.split_at.result.1.now c.word_bytes_of.result
    (c.word_bytes_of.ensures ∙ ap (prefix_len is_word_byte) c.as_bytes.ensures.value) c.split_at.ensures.front c.split_at.ensures.back
