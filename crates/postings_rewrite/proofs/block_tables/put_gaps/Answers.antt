use Rattle.std.proofs.Common.{◌≡◌, ℕ, ◌+◌, ◌-◌, ◌<◌, ◌≤◌, ◌^◌, ◌++◌, List, length, get_or, take, map, refl, sym, ap, ◌∙◌, arith, length-append}
use Rattle.std.proofs.lemmas.List.{length-map, get_or-map, append-nil, take_all}
use Rattle.rgb_base.specs.declared.parts.Posting.{Posting}
use Rattle.postings_rewrite.specs.Blocks.{gaps, skips, skip_count, before_of, bytes_of}
use Rattle.postings_rewrite.proofs.Gapped.{least-low}
use Rattle.postings_rewrite.proofs.Writing.{put_none, put_more, put_all, low_there, high_there}
use Rattle.postings_rewrite.proofs.block_tables.put_gaps.Goals as goal

abbrev doc_of : Posting → ℕ
doc_of posting = posting.doc

pub loop-entry-init : goal.loop-entry-init
loop-entry-init c = record {
  start = omega (arith, c.len-from.ensures, c.args.bytes.now.ok.0);
  put = put_none (map doc_of c.args.postings.now) c.args.bytes.now.items c.args.befores.now.items c.args.offsets.now.items;
}

pub overflow_sub-offset : goal.overflow_sub-offset
overflow_sub-offset c = omega (arith, c.loop-entry.invariant.start, c.len.ensures, c.loop-entry.bytes.ok.0, ap length c.loop-entry.invariant.put.bytes_are, length-append c.args.bytes.now.items (gaps 0 (take c.loop-entry.entry (map doc_of c.args.postings.now))))

pub overflow_sub-doc : goal.overflow_sub-doc
overflow_sub-doc c = low_there c.args.postings.now c.loop-entry.entry c.loop-entry.before _ _ _ _ _ _ c.loop-entry.invariant.put c.loop-entry-test.true c.requires _

pub overflow_add-before : goal.overflow_add-before
overflow_add-before c = record { fits = high_there c.args.postings.now c.loop-entry.entry c.loop-entry-test.true c.requires _ }

pub loop-entry-preserved : goal.loop-entry-preserved
loop-entry-preserved c =
    let docs = map doc_of c.args.postings.now in
    let entry = c.loop-entry.entry in
    let within : entry < length docs = omega (arith, c.loop-entry-test.true, length-map c.args.postings.now doc_of) in
    record {
      start = c.loop-entry.invariant.start;
      put = put_more docs c.args.bytes.now.items c.args.befores.now.items c.args.offsets.now.items entry c.loop-entry.before _ (c.len.result - c.len-from.result) c.loop-entry.bytes.items c.loop-entry.befores.items c.loop-entry.offsets.items _ _ _
          c.loop-entry.invariant.put within (sym (get_or-map doc_of c.args.postings.now entry _ 0 c.loop-entry-test.true))
          c.in_ok-put_skip.ensures.befores c.in_ok-put_skip.ensures.offsets
          (omega (arith, c.loop-entry.invariant.start, c.len.ensures, c.loop-entry.bytes.ok.0))
          c.in_ok-push_varint.ensures.ok;
    }

pub returns-clause-gaps : goal.returns-clause-gaps
returns-clause-gaps c = (put_all c.args.postings.now c.loop-entry.entry _ _ _ _ _ _ _ c.loop-entry.invariant.put (omega (arith, c.loop-entry-test.false, c.loop-entry.auto.entry-end))).bytes_are

pub returns-clause-befores : goal.returns-clause-befores
returns-clause-befores c = (put_all c.args.postings.now c.loop-entry.entry _ _ _ _ _ _ _ c.loop-entry.invariant.put (omega (arith, c.loop-entry-test.false, c.loop-entry.auto.entry-end))).befores_are

pub returns-clause-offsets : goal.returns-clause-offsets
returns-clause-offsets c = (put_all c.args.postings.now c.loop-entry.entry _ _ _ _ _ _ _ c.loop-entry.invariant.put (omega (arith, c.loop-entry-test.false, c.loop-entry.auto.entry-end))).offsets_are
