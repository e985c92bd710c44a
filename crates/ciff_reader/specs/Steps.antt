-- A file that is read message after message, each a step of the whole.
use Rattle.std.specs.Prelude.{◌≡◌, ℕ, ◌^◌, ◌<◌, List, [], ◌∷◌, ◌++◌, pos}
use Rattle.ciff_wire.specs.Field.{Entry}
use Rattle.rgb_base.specs.declared.parts.TermList.{TermList}
use Rattle.rgb_base.specs.Parts.{AreSized}
use Rattle.rgb_base.specs.Building.{Building}
use Rattle.rgb_host.specs.Seen.{Seen}
use Rattle.ciff_format.specs.Fields.{HasFields, AreTexts, header_table, int32_at}
use Rattle.ciff_format.specs.Messages.{header_of}
use Rattle.ciff_format.specs.Accepted.{Front, parts_so_far, Good}
use Rattle.ciff_format.specs.Growing.{front_of}
use Rattle.ciff_reader.specs.declared.heading.Heading.{Heading}
use Rattle.ciff_reader.specs.Window.{Held, Opens}

-- the window is at the file, behind good messages that say this
pub record AtGood (host : Seen) (name : List ℕ) (window : Held) (front : Front) (file : List ℕ)
    : Type 0 where
  pub opens : Opens host name window file
  pub good : Good file window.place front

-- what a good header's message says
pub record IsHeading (message : List ℕ) (heading : Heading) : Type 0 where
  pub fields : List Entry
  pub read : HasFields header_table message fields
  pub texts : AreTexts header_table fields
  pub header_is : heading.header ≡ header_of fields
  pub lists_are : int32_at 2 fields ≡ pos heading.lists
  pub documents_are : int32_at 3 fields ≡ pos heading.documents
  pub few_lists : heading.lists < 2 ^ 31
  pub few_documents : heading.documents < 2 ^ 31
  pub sized : AreSized (parts_so_far (front_of heading.header heading.lists heading.documents))

-- one more list is closed
pub record HasOneMoreList (before after : Building) : Type 0 where
  pub list : TermList
  pub is : after ≡ record before { lists = before.lists ++ list ∷ []; postings = [] }
