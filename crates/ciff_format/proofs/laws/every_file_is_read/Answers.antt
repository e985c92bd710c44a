use Rattle.ciff_format.proofs.Reading.{every_file_is_read}
use Rattle.ciff_format.proofs.laws.every_file_is_read.Goals as goal

pub returns : goal.returns
returns c = record {
  read = every_file_is_read (record {
    once = record { read_is_one = c.spelling_is_read_again.ensures.one; one_message = c.message_is_one.ensures.one };
    reads = c.bytes_are_read.ensures.read;
    message = c.bytes_are_read.ensures.message;
    never_both = c.bytes_are_read.ensures.never_both;
  });
}
