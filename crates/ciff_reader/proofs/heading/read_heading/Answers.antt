use Rattle.std.proofs.Common.{◌≡◌, pos, length, sym, ap, ◌∙◌, arith, rules}
use mir.Val.{SFits}
use Rattle.std.specs.Int.{w32, w64}
use Rattle.std.proofs.lemmas.Int.{to_z-of_z, ints}
use Rattle.std.proofs.lemmas.Bool.{false≢true}
use Rattle.ciff_reader.proofs.HeaderFields.{is_header, count_is, natural}
use Rattle.ciff_reader.proofs.heading.read_heading.Goals as goal

pub returns-in_default-clause-fault : goal.returns-in_default-clause-fault
returns-in_default-clause-fault c = c.in_default.ensures.read

pub returns-then-not-kept-clause-fault : goal.returns-then-not-kept-clause-fault
returns-then-not-kept-clause-fault c =
    let read = c.in-Some.ensures.read in
    (read.fields, read.read, λ texts. false≢true (sym c.if-not-kept.true ∙ read.says.texts.1 texts))

pub returns-clause-ok : goal.returns-clause-ok
returns-clause-ok c =
    let read = c.in-Some.ensures.read in
    let zero : SFits w32 c.as_i32.result = search rules in
    let two : SFits w32 c.as_i32-2.result = search rules in
    let one : SFits w32 c.as_i32-3.result = search rules in
    let four : SFits w32 c.as_i32-4.result = search rules in
    let five : SFits w32 c.as_i32-5.result = search rules in
    let six : SFits w64 c.as_i64.result = search rules in
    let lists : c.as_i32.result ≡ pos c.in-Ok.lists = sym (to_z-of_z w32 c.as_i32.result zero) ∙ natural _ c.in-Ok.lists c.in-Ok.ensures.0 c.in-Ok.ensures.1 in
    let documents : c.as_i32-2.result ≡ pos c.in-Ok-try_from.documents = sym (to_z-of_z w32 c.as_i32-2.result two) ∙ natural _ c.in-Ok-try_from.documents c.in-Ok-try_from.ensures.0 c.in-Ok-try_from.ensures.1 in
    let text = c.of.ensures.same ∙ c.in-Ok-from_str.ensures.ok in
    record {
      fields = read.fields;
      read = read.read;
      texts = read.says.texts.0 c.if-not-kept.false;
      header_is = is_header c.in-Some.kept read.fields _ _ _ _ _ read.says c.if-not-kept.false (to_z-of_z w32 c.as_i32-3.result one ∙ c.as_i32-3.ensures.same) (to_z-of_z w32 c.as_i32-4.result four ∙ c.as_i32-4.ensures.same)
          (to_z-of_z w32 c.as_i32-5.result five ∙ c.as_i32-5.ensures.same) (to_z-of_z w64 c.as_i64.result six ∙ c.as_i64.ensures.same) text;
      lists_are = sym (count_is c.in-Some.kept read.fields 1 c.as_i32.result (omega arith) read.says c.as_i32.ensures.same) ∙ lists;
      documents_are = sym (count_is c.in-Some.kept read.fields 2 c.as_i32-2.result (omega arith) read.says c.as_i32-2.ensures.same) ∙ documents;
      few_lists = omega (arith, ints, lists, zero.sfits);
      few_documents = omega (arith, ints, documents, two.sfits);
      sized = record { postings = omega arith; text = omega (arith, ap length text, c.if-kept-gt-MOST_TEXT.false) };
    }
