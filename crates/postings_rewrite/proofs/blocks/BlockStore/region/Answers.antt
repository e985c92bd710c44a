use Rattle.std.proofs.Common.{◌≡◌, ℕ, ◌+◌, List, length, drop, sym, ap, subst, ◌∙◌, arith, ◌++◌}
use Rattle.std.specs.Prelude.{slice_range}
use Rattle.postings_rewrite.specs.Stores.{list_at}
use Rattle.postings_rewrite.specs.Blocks.{gaps}
use Rattle.postings_rewrite.specs.BlockTables.{IsRegionOf}
use Rattle.postings_rewrite.proofs.Regions.{head_there, written_there, IsOpened, opened, region_of, region_read}
use Rattle.postings_rewrite.proofs.blocks.BlockStore.region.Goals as goal

pub head_of-head-requires : goal.head_of-head-requires
head_of-head-requires c =
    let list = list_at c.args.self.now c.args.list in
    let front = c.bytes_from.ensures.same ∙ ap (drop c.index-start.result.now) c.deref.ensures.value in
    let written = written_there c.self.inside c.args.self.now c.args.list c.index-start.result.now c.self.invariant c.self.view_is c.requires c.index-start.ensures in
    (length list, written.first, gaps 0 list ++ written.rest, head_there c.self.inside.tables c.index-start.result.now list c.bytes_from.result.now written front)

pub numbers_from-requires : goal.numbers_from-requires
numbers_from-requires c =
    let front = c.bytes_from.ensures.same ∙ ap (drop c.index-start.result.now) c.deref.ensures.value in
    let head = c.head_of-head.ensures in
    let is = opened c.self.inside c.args.self.now c.args.list c.index-start.result.now c.head_of-head.result.len c.head_of-head.result.first c.skip_count-count.result c.bytes_from.result.now c.head_of-head.result.gaps.now
    c.self.invariant c.self.view_is c.requires c.index-start.ensures front head.len head.first head.none head.gaps c.skip_count-count.ensures.same in
    omega (arith, is.befores.inside, ap length c.deref-2.ensures.value)

pub numbers_from-requires-2 : goal.numbers_from-requires-2
numbers_from-requires-2 c =
    let front = c.bytes_from.ensures.same ∙ ap (drop c.index-start.result.now) c.deref.ensures.value in
    let head = c.head_of-head.ensures in
    let is = opened c.self.inside c.args.self.now c.args.list c.index-start.result.now c.head_of-head.result.len c.head_of-head.result.first c.skip_count-count.result c.bytes_from.result.now c.head_of-head.result.gaps.now
    c.self.invariant c.self.view_is c.requires c.index-start.ensures front head.len head.first head.none head.gaps c.skip_count-count.ensures.same in
    omega (arith, is.offsets.inside, ap length c.deref-3.ensures.value)

made : (c : goal.After-numbers_from-2) → IsRegionOf (record { len = c.head_of-head.result.len; gaps = c.head_of-head.result.gaps; befores = c.numbers_from.result; offsets = c.numbers_from-2.result }) (list_at c.args.self.now c.args.list)
made c =
    let first = c.head_of-head.result.first in
    let count = c.skip_count-count.result in
    let front = c.bytes_from.ensures.same ∙ ap (drop c.index-start.result.now) c.deref.ensures.value in
    let head = c.head_of-head.ensures in
    let is = opened c.self.inside c.args.self.now c.args.list c.index-start.result.now c.head_of-head.result.len first count c.bytes_from.result.now c.head_of-head.result.gaps.now
    c.self.invariant c.self.view_is c.requires c.index-start.ensures front head.len head.first head.none head.gaps c.skip_count-count.ensures.same in
    region_of c.self.inside (list_at c.args.self.now c.args.list) first count _ is
    (c.numbers_from.ensures.same ∙ ap (λ (ns : List ℕ). slice_range ns first (first + count)) c.deref-2.ensures.value)
    (c.numbers_from-2.ensures.same ∙ ap (λ (ns : List ℕ). slice_range ns first (first + count)) c.deref-3.ensures.value)

pub invariant_of-result : goal.invariant_of-result
invariant_of-result c = subst (IsRegionOf _) (sym (region_read _ (list_at c.args.self.now c.args.list) (made c))) (made c)

pub returns : goal.returns
returns c = record { same = region_read _ (list_at c.args.self.now c.args.list) (made c) }
