-- The commands and the table of the code as those of the definitions.
use Rattle.std.specs.Prelude.{map}
use Rattle.command_words.specs.Command.{Command, copy, report, reorder, query, make, live}
use Rattle.command_words.specs.Line.{Values, range, either, OptionRow, Row, Part, operand, given}
use Rattle.command_words.specs.declared.command.Command as code
use Rattle.command_words.specs.declared.command.Command.TheVariants as commands
use Rattle.command_words.specs.declared.table.Values as code_values
use Rattle.command_words.specs.declared.table.Values.TheVariants as values
use Rattle.command_words.specs.declared.table.OptionRow as code_option
use Rattle.command_words.specs.declared.table.Row as code_row
use Rattle.command_words.specs.declared.part.Part as code_part
use Rattle.command_words.specs.declared.part.Part.TheVariants as parts

abbrev pub command_seen : code.Command → Command
command_seen (commands.Copy input output) = copy input.now output.now
command_seen (commands.Report input workers) = report input.now workers
command_seen (commands.Reorder input output options) = reorder input.now output.now options
command_seen (commands.Query input queries) = query input.now queries.now
command_seen (commands.Make documents output number options) =
    make documents output.now number options
command_seen (commands.Live input output queries options readers) =
    live input.now output.now queries.now options readers

abbrev pub values_seen : code_values.Values → Values
values_seen (values.Numbers least most) = range least most
values_seen (values.Either first second) = either first.now second.now

abbrev pub option_seen : code_option.OptionRow → OptionRow
option_seen option = record {
  name = option.name.now;
  values = values_seen option.values;
  default = option.default;
}

abbrev pub row_seen : code_row.Row → Row
row_seen row = record {
  name = row.name.now;
  operands = row.operands;
  options = map option_seen row.options.now;
}

abbrev pub part_seen : code_part.Part → Part
part_seen (parts.Operand word) = operand word.now
part_seen (parts.Given name value) = given name.now value.now
