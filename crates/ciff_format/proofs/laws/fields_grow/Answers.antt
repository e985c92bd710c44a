use Rattle.ciff_format.proofs.Fields.{nothing_held, later_wins, each_is_added, types_grow, texts_grow, wrong_type_is_bad, bad_posting_is_bad}
use Rattle.ciff_format.proofs.laws.fields_grow.Goals as goal

pub returns : goal.returns
returns c = record {
  nothing = nothing_held;
  held = later_wins;
  each = each_is_added;
  types = types_grow;
  texts = texts_grow;
  wrong_type = wrong_type_is_bad c.field_after_field.ensures.first;
  bad_posting = bad_posting_is_bad c.field_after_field.ensures.first;
}
