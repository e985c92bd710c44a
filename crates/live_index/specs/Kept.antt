-- What a publisher, a note and a reader keep (no public clause cites it).
use Rattle.std.specs.Prelude.{◌≡◌, ℕ, ◌<◌, ◌≤◌, List, drop, IfSome}
use Rattle.std.specs.Arc.{arc_value}
use Rattle.rgb_base.specs.Parts.{IndexParts, terms_of}
use Rattle.left_right.specs.Sides.{view as party_of}
use Rattle.live_index.specs.declared.note.Note.TheInside as note
use Rattle.live_index.specs.declared.publisher.Publisher.TheInside as publisher
use Rattle.live_index.specs.declared.reader.LiveReader.TheInside as reader
use Rattle.live_index.specs.History.{IsPlan, BeginsWithIdentity}
use Rattle.live_index.specs.Rule.{IsViewOf, KnowsOf, IsPublishing}

module _ {K : Type 0} (versions : K → IndexParts → ℕ) (planned : K → IndexParts → ℕ → List ℕ → Type 0)
  where
    pub record IsNote (note : note.Inside K) : Type 0 where
      pub plan : IsPlan versions planned note.base.now note.plan
      pub identity : BeginsWithIdentity versions planned note.base.now note.plan
      pub view : IsViewOf versions planned note.base.now note.plan (arc_value note.view)

    pub record IsPublisher (publisher : publisher.Inside K) : Type 0 where
      pub plan : IsPlan versions planned publisher.base.now publisher.plan
      pub identity : BeginsWithIdentity versions planned publisher.base.now publisher.plan
      pub some_workers : 0 < publisher.workers
      pub most_workers : publisher.workers ≤ 64
      pub publishing : IsPublishing versions planned publisher.base.now publisher.plan
          publisher.writer.desk.shown.value (party_of publisher.writer.desk.place)
          (drop publisher.writer.behind publisher.writer.log.items)
      pub shows : arc_value publisher.writer.desk.shown.value.view ≡ arc_value publisher.view

    pub record IsReader (reader : reader.Inside K) : Type 0 where
      pub plan : IsPlan versions planned reader.base.now reader.plan
      pub identity : BeginsWithIdentity versions planned reader.base.now reader.plan
      pub view : IsViewOf versions planned reader.base.now reader.plan (arc_value reader.view)
      pub terms : arc_value reader.dictionary ≡ terms_of reader.base.now.lists
      pub place : IfSome reader.place
          (λ place. KnowsOf reader.base.now reader.plan (party_of place.place))
