-- A list's message, read field after field.
use Rattle.std.proofs.Common.{◌≡◌, inl, inr, ℕ, ◌+◌, true, pos, List, [], ◌∷◌, ◌++◌, map, take, drop, refl, sym, ap, subst, ◌∙◌}
use Rattle.std.specs.Prelude.{◌≤ℤ◌, ◌<ℤ◌}
use Rattle.rgb_base.specs.declared.parts.Posting.{Posting}
use Rattle.std.proofs.lemmas.List.Elements.{All-nil}
use Rattle.ciff_wire.specs.Field.{Entry, SpellsField, IsMessage, as_bytes}
use Rattle.ciff_wire.specs.Laws.{FieldIsAdded}
use Rattle.rgb_base.specs.Building.{Building}
use Rattle.ciff_format.specs.Fields.{list_table, HasItsType, HasFields}
use Rattle.ciff_format.specs.Messages.{PostingRows, HasListFields, sums_from, AreGaps}
use Rattle.ciff_format.specs.Growing.{LaterWins, EachIsAdded, TypesGrow, TextsGrow, WrongTypeIsBad, BadPostingIsBad, sum_after}
use Rattle.ciff_reader.specs.declared.gaps.Gaps.{Gaps}
use Rattle.ciff_reader.specs.declared.list.ListFields.{ListFields}
use Rattle.ciff_reader.specs.Listing.{listing, without_postings, ChangesPostings, IsBadField, SaysGaps, SaysList, SaysPostings, StartsWithPosting, ReadsList}
use Rattle.ciff_reader.specs.declared.posting.PostingFields.{PostingFields}
use Rattle.ciff_reader.specs.Says.{SaysPosting}
use Rattle.ciff_reader.proofs.Fronts.{field_added, wrong_type}
use Rattle.ciff_reader.proofs.ListFields.{takes_posting, one_posting}

no_gaps : (documents : ℕ) → AreGaps documents []
unfolding sums_from
no_gaps documents = record {
  first = All-nil (λ gap. pos 0 ≤ℤ gap);
  later = All-nil (λ gap. pos 1 ≤ℤ gap);
  below = All-nil (λ sum. sum <ℤ pos documents);
}

pub gaps_begin : (gaps : Gaps) (building : Building) → gaps.least ≡ 0 → gaps.document ≡ 0 → gaps.are_good ≡ true → gaps.are_few ≡ true → building.postings ≡ [] → SaysGaps [] gaps building
unfolding sums_from sum_after
gaps_begin gaps building least document good few none = record {
  good = λ was. record {
    good = no_gaps building.documents;
    least = ap pos least;
    document = ap pos document;
    few = λ is. record { documents = ap (map (λ (p : Posting). pos p.doc)) none; frequencies = ap (map (λ (p : Posting). p.tf)) none };
    many = λ isnt. absurd (isnt few);
  };
  bad = λ isnt. absurd (isnt good);
}

pub list_goes_on : FieldIsAdded → TypesGrow → (message rest : List ℕ) (at used : ℕ) (entry : Entry) (kept kept' : ListFields) (gaps gaps' : Gaps) (building building' : Building)
    → rest ≡ drop at message → SpellsField (take used rest) entry
    → HasItsType list_table entry × ((fields : List Entry) → SaysList fields kept → SaysList (fields ++ entry ∷ []) kept')
    → ((fields : List Entry) (rows : PostingRows) → SaysPostings fields rows gaps building → (rows' : PostingRows) × SaysPostings (fields ++ entry ∷ []) rows' gaps' building')
    → ReadsList (take at message) kept gaps building → ReadsList (take (at + used) message) kept' gaps' building'
list_goes_on added grow message rest at used entry kept kept' gaps gaps' building building' behind spells taken pushed reads =
    let more = pushed reads.fields reads.rows reads.postings in
    record {
      fields = reads.fields ++ entry ∷ [];
      rows = more.0;
      read = field_added added grow list_table message rest at used reads.fields entry behind spells taken.0 reads.read;
      says = taken.1 reads.fields reads.says;
      postings = more.1;
    }

-- a posting that is read where it stands
pub posting_goes_on : FieldIsAdded → TypesGrow → LaterWins → TextsGrow → EachIsAdded → (message rest : List ℕ) (at used : ℕ) (posting : PostingFields) (kept : ListFields) (gaps gaps' : Gaps) (building building' : Building)
    → rest ≡ drop at message → StartsWithPosting rest posting used
    → ((rows : PostingRows) (row : List Entry) → SaysPosting row posting → SaysGaps rows gaps building → SaysGaps (rows ++ row ∷ []) gaps' building')
    → ReadsList (take at message) kept gaps building → ReadsList (take (at + used) message) kept gaps' building'
posting_goes_on added grow wins texts each message rest at used posting kept gaps gaps' building building' behind starts more reads =
    let entry : Entry = record { number = 4; held = as_bytes starts.posting } in
    let row = starts.read.fields in
    list_goes_on added grow message rest at used entry kept kept gaps gaps' building building' behind starts.spells
    (takes_posting wins texts entry kept starts.posting refl refl)
    (λ fields rows says. (rows ++ row ∷ [], one_posting each fields entry rows gaps building starts.posting row gaps' building' refl refl starts.read.read (more rows row starts.read.says says.gaps) says))
    reads

-- a bad field behind the fields of a front
pub bad_field : FieldIsAdded → TypesGrow → WrongTypeIsBad → BadPostingIsBad → (message rest : List ℕ) (at used : ℕ) (front : List Entry) (entry : Entry)
    → rest ≡ drop at message → SpellsField (take used rest) entry → IsBadField entry → HasFields list_table (take at message) front
    → (fields : List Entry) (rows : PostingRows) → ¬ HasListFields message fields rows
bad_field added grow wrong bad message rest at used front entry behind spells (inl other) read fields rows = λ has.
    wrong_type added grow wrong list_table message rest at used front entry behind spells other read fields has.own
bad_field added grow wrong bad message rest at used front entry behind spells (inr posting) read fields rows =
    bad message posting.0 front fields rows (at + used)
    (subst (λ (e : Entry). IsMessage (take (at + used) message) (front ++ e ∷ [])) posting.1
    (added message front entry at used read.spelt (subst (λ (bs : List ℕ). SpellsField (take used bs) entry) behind spells)))
    posting.2

-- the index being built, but for the open list
pub was_without : (before after : Building) → before.postings ≡ [] → ChangesPostings before after → without_postings after ≡ before
was_without before after none same =
    ap without_postings same ∙ sym (ap (λ (ps : List Posting). record before { postings = ps }) none)

pub listing_stays : (lists : ℕ) (before after : Building) → ChangesPostings before after → listing lists after ≡ listing lists before
listing_stays lists before after same = ap (listing lists) same

pub changes_twice : (a b c : Building) → ChangesPostings a b → ChangesPostings b c → ChangesPostings a c
changes_twice a b c first second = second ∙ ap (λ (x : Building). record x { postings = c.postings }) first
