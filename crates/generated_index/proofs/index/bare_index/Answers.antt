use Rattle.std.proofs.Common.{◌≡◌, ℕ, ◌≤◌, List, length, map, refl, sym, ap, subst, ◌∙◌, arith}
use Rattle.std.specs.List.{range_with_len}
use Rattle.std.proofs.lemmas.List.FromFn.{length-map-range_with_len}
use Rattle.rgb_base.specs.declared.parts.Header.{Header}
use Rattle.rgb_base.specs.Parts.{IndexParts}
use Rattle.rgb_base.specs.Building.{Building, IsWhole, begun, parts_of}
use Rattle.generated_index.specs.Generated.{generated, header_of, record_of, terms_drawn}
use Rattle.generated_index.specs.Steps.{bare_list, bare_index}
use Rattle.generated_index.proofs.Lists.{terms_few}
use Rattle.generated_index.proofs.index.bare_index.Goals as goal

pub header_of-requires-clause-lists : goal.header_of-requires-clause-lists
header_of-requires-clause-lists c = omega (arith, c.requires.lists, terms_few c.args.number c.args.documents)

abbrev built : ℕ → ℕ → Building
built number documents = record (begun (header_of number documents) documents) {
  lists = map (bare_list number documents) (terms_drawn number documents);
  records = map record_of (range_with_len 0 documents);
}

-- the builder after all its pieces
pieces : (number documents : ℕ) (header : Header) (first second third : Building) → header ≡ header_of number documents → first ≡ begun header documents
    → second ≡ record first { lists = map (bare_list number documents) (terms_drawn number documents) } → third ≡ record second { records = map record_of (range_with_len 0 documents) }
    → third ≡ built number documents
pieces number documents header first second third is_header is_first is_second is_third =
    let lists = map (bare_list number documents) (terms_drawn number documents) in
    let records = map record_of (range_with_len 0 documents) in
    is_third ∙ ap (λ (b : Building). let next : Building = record b { records = records } in next)
    (is_second ∙ ap (λ (b : Building). let next : Building = record b { lists = lists } in next) (is_first ∙ ap (λ (h : Header). begun h documents) is_header))

whole : (number documents : ℕ) → IsWhole (built number documents)
whole number documents = record { none_open = refl; recorded = length-map-range_with_len record_of 0 documents }

parts : (number documents : ℕ) → parts_of (built number documents) ≡ bare_index number documents
unfolding generated
parts number documents = refl

pub finish-requires : goal.finish-requires
finish-requires c =
    let is_header = c.in_ok-header.ensures c.args.number c.requires.lists in
    subst IsWhole (sym (pieces c.args.number c.args.documents c.in_ok-header.header c.in-Ok.builder c.push_lists.new.builder c.push_records.new.builder
    is_header c.in-Ok.ensures.ok c.in_ok-push_lists.ensures.ok c.in_ok-push_records.ensures.ok)) (whole c.args.number c.args.documents)

pub returns : goal.returns
returns c =
    let is_header = c.in_ok-header.ensures c.args.number c.requires.lists in
    record {
      ok = c.finish.ensures.same ∙ ap parts_of (pieces c.args.number c.args.documents c.in_ok-header.header c.in-Ok.builder c.push_lists.new.builder c.push_records.new.builder
          is_header c.in-Ok.ensures.ok c.in_ok-push_lists.ensures.ok c.in_ok-push_records.ensures.ok) ∙ parts c.args.number c.args.documents;
    }
