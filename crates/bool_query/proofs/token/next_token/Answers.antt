use Rattle.std.proofs.Common.{refl}
use Rattle.bool_query.proofs.Seams.{scanned_behind}
use Rattle.bool_query.proofs.token.next_token.Goals as goal

pub returns : goal.returns
returns c = scanned_behind c.past_blanks-rest.ensures c.args.from _ refl c.first_token.result c.first_token.ensures
