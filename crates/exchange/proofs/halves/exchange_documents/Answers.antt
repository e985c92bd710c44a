use Rattle.exchange.specs.Tries.{docs_of}
use Rattle.exchange.proofs.Exchanged.{Differ-left, Differ-right}
use Rattle.exchange.proofs.Parted.{differ_front}
use Rattle.exchange.proofs.Merged.{leave_there, come_apart, half_from_entries, half_differs, other_way}
use Rattle.exchange.proofs.halves.exchange_documents.Goals as goal

pub put_in_order-requires-clause-differ : goal.put_in_order-requires-clause-differ
put_in_order-requires-clause-differ g c = differ_front c.args.pairs c.args.entries_a.now (Differ-left (docs_of c.args.entries_a.now) (docs_of c.args.entries_b.now) c.requires.differ)

pub put_in_order-requires-2-clause-differ : goal.put_in_order-requires-2-clause-differ
put_in_order-requires-2-clause-differ g c = differ_front c.args.pairs c.args.entries_b.now (Differ-right (docs_of c.args.entries_a.now) (docs_of c.args.entries_b.now) c.requires.differ)

pub put_halves-requires-clause-differ : goal.put_halves-requires-clause-differ
put_halves-requires-clause-differ g c κs within = half_differs c.args.entries_a.now c.args.a.now c.requires.docs (Differ-left (docs_of c.args.entries_a.now) (docs_of c.args.entries_b.now) c.requires.differ)

pub put_halves-requires-clause-there : goal.put_halves-requires-clause-there
put_halves-requires-clause-there g c κs within = leave_there c.args.pairs c.args.entries_a.now c.args.a.now c.put_in_order.new.docs c.requires.docs c.put_in_order.ensures.same

pub put_halves-requires-clause-apart : goal.put_halves-requires-clause-apart
put_halves-requires-clause-apart g c κs within = come_apart c.args.pairs c.args.entries_a.now c.args.entries_b.now c.args.a.now c.put_in_order-2.new.docs c.requires.docs c.put_in_order-2.ensures.same c.requires.differ

pub put_halves-requires-clause-differ_b : goal.put_halves-requires-clause-differ_b
put_halves-requires-clause-differ_b g c κs within = half_differs c.args.entries_b.now c.args.b.now c.requires.docs_b (Differ-right (docs_of c.args.entries_a.now) (docs_of c.args.entries_b.now) c.requires.differ)

pub put_halves-requires-clause-there_b : goal.put_halves-requires-clause-there_b
put_halves-requires-clause-there_b g c κs within = leave_there c.args.pairs c.args.entries_b.now c.args.b.now c.put_in_order-2.new.docs c.requires.docs_b c.put_in_order-2.ensures.same

pub put_halves-requires-clause-apart_b : goal.put_halves-requires-clause-apart_b
put_halves-requires-clause-apart_b g c κs within = come_apart c.args.pairs c.args.entries_b.now c.args.entries_a.now c.args.b.now c.put_in_order.new.docs c.requires.docs_b c.put_in_order.ensures.same (other_way c.args.entries_a.now c.args.entries_b.now c.requires.differ)

pub returns-clause-same : goal.returns-clause-same
returns-clause-same g c =
    half_from_entries c.args.pairs c.args.entries_a.now c.args.entries_b.now c.args.a.now c.put_in_order.new.docs c.put_in_order-2.new.docs c.put_halves.new.a
    c.requires.docs c.requires.differ c.put_in_order.ensures.same c.put_in_order-2.ensures.same c.put_halves.ensures.half

pub returns-clause-same_b : goal.returns-clause-same_b
returns-clause-same_b g c =
    half_from_entries c.args.pairs c.args.entries_b.now c.args.entries_a.now c.args.b.now c.put_in_order-2.new.docs c.put_in_order.new.docs c.put_halves.new.b
    c.requires.docs_b (other_way c.args.entries_a.now c.args.entries_b.now c.requires.differ) c.put_in_order-2.ensures.same c.put_in_order.ensures.same c.put_halves.ensures.half_b
