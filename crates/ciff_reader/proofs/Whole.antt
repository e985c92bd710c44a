-- The whole of a file.
use Rattle.std.proofs.Common.{◌≡◌, ℕ, ◌<◌, List, [], length, refl, sym, ap, subst, ◌∙◌, arith}
use Rattle.rgb_base.specs.Parts.{IndexParts}
use Rattle.rgb_base.specs.declared.parts.Header.{Header}
use Rattle.rgb_base.specs.Building.{Building, begun, parts_of}
use Rattle.rgb_host.specs.Seen.{Seen, Lacks}
use Rattle.ciff_format.specs.declared.cause.Cause.{Cause}
use Rattle.ciff_format.specs.declared.cause.Cause.TheVariants.{Trailing}
use Rattle.ciff_format.specs.Accepted.{Front, Accepted, Good}
use Rattle.ciff_format.specs.Refused.{Refused, at_end}
use Rattle.ciff_format.specs.Growing.{front_of}
use Rattle.ciff_reader.specs.declared.error.ReadError.{ReadError}
use Rattle.ciff_reader.specs.declared.error.ReadError.TheVariants.{Fault, OutOfMemory, Malformed}
use Rattle.ciff_reader.specs.Reading.{Explains}
use Rattle.ciff_reader.specs.Awaited.{EndsGood}
use Rattle.ciff_reader.specs.Listing.{listing}
use Rattle.ciff_reader.specs.Steps.{AtGood}
use Rattle.ciff_reader.specs.Window.{Held, IsFile, IsAt, Opens, ExplainsWhere}
use Rattle.ciff_reader.proofs.Windows.{of_file}

pub window_begins : (window : Held) (file : List ℕ) → window ≡ record { place = 0; bytes = [] } → IsAt window file
window_begins window file is = subst (λ (w : Held). IsAt w file) (sym is) (record { rest = file; within = omega arith; bytes = refl })

-- why the whole stops, where a step over the whole file does
pub explains : (error : ReadError) (name : List ℕ) (before mid after : Seen) (window : Held) → mid ≡ before → ¬ Lacks before name → ((file : List ℕ) → IsFile before name file → IsAt window file)
    → ExplainsWhere (Opens mid name window) Refused error name mid after → Explains error name before after
explains Fault name before mid after window same there at stops = subst (λ (h : Seen). Explains Fault name h after) same stops
explains OutOfMemory name before mid after window same there at stops = stops ∙ same
explains (Malformed place cause) name before mid after window same there at stops = (
  of_file before name (λ file. Refused file place cause) there
      (λ file is. stops.0 file (record { is = subst (λ (h : Seen). IsFile h name file) (sym same) is; at = at file is })),
  stops.1 ∙ same,
)

-- the file that ends is accepted as the index
pub accepts : (host : Seen) (name : List ℕ) (window : Held) (building : Building) (index : IndexParts) (file : List ℕ) → EndsGood host name window building file → window.place ≡ length file
    → index ≡ parts_of building → Accepted file index
accepts host name window building index file ends place is =
    subst (Accepted file) (sym is) (record {
      front = ends.front;
      good = subst (λ (p : ℕ). Good file p ends.front) place ends.at.good;
      whole = ends.whole;
      header = ends.header;
      lists = ends.lists;
      count = ends.count;
      documents = ends.documents;
    })

-- a byte follows the last message
pub trails : (host : Seen) (name : List ℕ) (window : Held) (building : Building) (file : List ℕ) (place : ℕ) (cause : Cause) → EndsGood host name window building file
    → (place ≡ window.place) × (place < length file) × (cause ≡ Trailing) → Refused file place cause
trails host name window building file place cause ends more =
    at_end ends.front (subst (λ (p : ℕ). Good file p ends.front) (sym more.0) ends.at.good) ends.whole more.1 more.2

-- the builder has the header's front
pub begins_listing : (builder : Building) (header : Header) (lists documents : ℕ) → builder ≡ begun header documents → listing lists builder ≡ front_of header lists documents
begins_listing builder header lists documents is = ap (listing lists) is

-- ---- from step to step

-- behind the header, as the builder begins
pub begun_at : (host after : Seen) (name : List ℕ) (window : Held) (header : Header) (lists documents : ℕ) (builder : Building) (file : List ℕ) → after ≡ host → builder ≡ begun header documents
    → AtGood host name window (front_of header lists documents) file → AtGood after name window (listing lists builder) file
begun_at host after name window header lists documents builder file same is at =
    subst (λ (front : Front). AtGood after name window front file) (sym (begins_listing builder header lists documents is))
    (subst (λ (h : Seen). AtGood h name window (front_of header lists documents) file) (sym same) at)

-- behind the lists, all of which the builder has
pub listed_at : (host after : Seen) (name : List ℕ) (window : Held) (lists : ℕ) (builder : Building) (file : List ℕ) → after ≡ host → length builder.lists ≡ lists
    → AtGood host name window (listing lists builder) file → AtGood after name window (listing (length builder.lists) builder) file
listed_at host after name window lists builder file same all at =
    subst (λ (n : ℕ). AtGood after name window (listing n builder) file) (sym all)
    (subst (λ (h : Seen). AtGood h name window (listing lists builder) file) (sym same) at)

pub still_open : (host after : Seen) (name : List ℕ) (window : Held) (file : List ℕ) → after ≡ host → Opens host name window file → Opens after name window file
still_open host after name window file same opens = subst (λ (h : Seen). Opens h name window file) (sym same) opens
