-- What a list's own fields say, with one more field, and what its postings say.
use Rattle.std.proofs.Common.{◌≡◌, ◌≢◌, ℕ, Bool, false, cond, ℤ, List, [], ◌∷◌, ◌++◌, Some, sym, ap, subst, ◌∙◌, arith}
use Rattle.std.specs.Prelude.{IsUtf8}
use Rattle.std.specs.Borrow.{Bor}
use Rattle.std.specs.Int.{w64, cast_signed}
use Rattle.std.specs.List.{AllZip}
use Rattle.std.proofs.lemmas.Bool.{false≢true, eq-eqb, ne_eqb}
use Rattle.std.proofs.lemmas.List.{append-nil}
use Rattle.ciff_wire.specs.Field.{Held, Entry, as_number, as_bytes, wire_of}
use Rattle.rgb_base.specs.Building.{Building}
use Rattle.ciff_format.specs.Fields.{list_table, posting_table, HasItsType, HasFields, HasText, bytes_or_none, each_at}
use Rattle.ciff_format.specs.Messages.{PostingRows}
use Rattle.ciff_format.specs.Growing.{LaterWins, TextsGrow, EachIsAdded}
use Rattle.ciff_reader.specs.declared.gaps.Gaps.{Gaps}
use Rattle.ciff_reader.specs.declared.list.ListFields.{ListFields}
use Rattle.ciff_reader.specs.Says.{TakesField}
use Rattle.ciff_reader.specs.Listing.{SaysList, SaysPostings, SaysGaps}
use Rattle.ciff_reader.proofs.Slots.{int64_same, int64_other, text_same, text_other, texts_stay, texts_end}

-- ---- types and texts

pub term_fits : (entry : Entry) → entry.number ≡ 1 → wire_of entry.held ≡ 2 → HasItsType list_table entry
term_fits entry same wire = (λ e. wire, (λ e. absurd (omega arith), (λ e. absurd (omega arith), (λ e. wire, tt))))

pub number_fits : (entry : Entry) → entry.number ≢ 1 → entry.number ≢ 4 → wire_of entry.held ≡ 0 → HasItsType list_table entry
number_fits entry one four wire = (λ e. absurd (one (sym e)), (λ e. wire, (λ e. wire, (λ e. absurd (four (sym e)), tt))))

posting_fits : (entry : Entry) → entry.number ≡ 4 → wire_of entry.held ≡ 2 → HasItsType list_table entry
posting_fits entry same wire = (λ e. wire, (λ e. absurd (omega arith), (λ e. absurd (omega arith), (λ e. wire, tt))))

other_fits : (entry : Entry) → entry.number ≢ 1 → entry.number ≢ 2 → entry.number ≢ 3 → entry.number ≢ 4 → HasItsType list_table entry
other_fits entry one two three four = (λ e. absurd (one (sym e)), (λ e. absurd (two (sym e)), (λ e. absurd (three (sym e)), (λ e. absurd (four (sym e)), tt))))

pub no_text : (entry : Entry) → entry.number ≢ 1 → HasText list_table entry
no_text entry other = (λ e. absurd (other (sym e)), (λ e. tt, (λ e. tt, (λ e. tt, tt))))

pub good_text : (entry : Entry) (bytes : List ℕ) → entry.held ≡ as_bytes bytes → ∥ IsUtf8 bytes ∥₁ → HasText list_table entry
good_text entry bytes is good = (λ e. rw is good, (λ e. tt, (λ e. tt, (λ e. tt, tt))))

bad_text : (entry : Entry) (bytes : List ℕ) → entry.number ≡ 1 → entry.held ≡ as_bytes bytes → ¬ ∥ IsUtf8 bytes ∥₁ → ¬ HasText list_table entry
bad_text entry bytes same is bad = λ has. let had = has.0 (sym same) in bad (rw is at had)

-- ---- one more field

module _ (wins : LaterWins) (grow : TextsGrow) (entry : Entry) (kept : ListFields) where
  pub takes_term : (bytes : List ℕ) (term : Bor (List ℕ)) (df cf : ℤ) → entry.number ≡ 1 → entry.held ≡ as_bytes bytes → term.now ≡ bytes → ∥ IsUtf8 bytes ∥₁
      → df ≡ kept.df → cf ≡ kept.cf
      → TakesField list_table SaysList entry kept (Some (record { term = term; df = df; cf = cf; are_texts = kept.are_texts }))
  takes_term bytes term df cf same is text good df_is cf_is = (
    term_fits entry same (ap wire_of is),
    λ fields says. record {
      term = λ yes. text_same wins 1 fields entry same bytes term.now is text;
      df = int64_other wins 2 fields entry (omega arith) df (df_is ∙ says.df);
      cf = int64_other wins 3 fields entry (omega arith) cf (cf_is ∙ says.cf);
      texts = texts_stay grow list_table fields entry kept.are_texts (good_text entry bytes is good) says.texts;
    },
  )

  pub takes_bad_term : (bytes : List ℕ) (df cf : ℤ) → entry.number ≡ 1 → entry.held ≡ as_bytes bytes → ¬ ∥ IsUtf8 bytes ∥₁
      → df ≡ kept.df → cf ≡ kept.cf
      → TakesField list_table SaysList entry kept (Some (record { term = kept.term; df = df; cf = cf; are_texts = false }))
  takes_bad_term bytes df cf same is bad df_is cf_is = (
    term_fits entry same (ap wire_of is),
    λ fields says. record {
      term = λ no. absurd (false≢true no);
      df = int64_other wins 2 fields entry (omega arith) df (df_is ∙ says.df);
      cf = int64_other wins 3 fields entry (omega arith) cf (cf_is ∙ says.cf);
      texts = texts_end grow list_table fields entry (bad_text entry bytes same is bad);
    },
  )

  pub takes_df : (v : ℕ) (z cf : ℤ) → entry.number ≡ 2 → entry.held ≡ as_number v → z ≡ cast_signed w64 v → cf ≡ kept.cf
      → TakesField list_table SaysList entry kept (Some (record { term = kept.term; df = z; cf = cf; are_texts = kept.are_texts }))
  takes_df v z cf same is value cf_is = (
    number_fits entry (omega arith) (omega arith) (ap wire_of is),
    λ fields says. record {
      term = λ yes. text_other wins 1 fields entry (omega arith) kept.term.now (says.term yes);
      df = int64_same wins 2 fields entry same v z is value;
      cf = int64_other wins 3 fields entry (omega arith) cf (cf_is ∙ says.cf);
      texts = texts_stay grow list_table fields entry kept.are_texts (no_text entry (omega arith)) says.texts;
    },
  )

  pub takes_cf : (v : ℕ) (df z : ℤ) → entry.number ≡ 3 → entry.held ≡ as_number v → z ≡ cast_signed w64 v → df ≡ kept.df
      → TakesField list_table SaysList entry kept (Some (record { term = kept.term; df = df; cf = z; are_texts = kept.are_texts }))
  takes_cf v df z same is value df_is = (
    number_fits entry (omega arith) (omega arith) (ap wire_of is),
    λ fields says. record {
      term = λ yes. text_other wins 1 fields entry (omega arith) kept.term.now (says.term yes);
      df = int64_other wins 2 fields entry (omega arith) df (df_is ∙ says.df);
      cf = int64_same wins 3 fields entry same v z is value;
      texts = texts_stay grow list_table fields entry kept.are_texts (no_text entry (omega arith)) says.texts;
    },
  )

  takes_no_own : HasItsType list_table entry → entry.number ≢ 1 → entry.number ≢ 2 → entry.number ≢ 3 → TakesField list_table SaysList entry kept (Some kept)
  takes_no_own fits one two three = (
    fits,
    λ fields says. record {
      term = λ yes. text_other wins 1 fields entry one kept.term.now (says.term yes);
      df = int64_other wins 2 fields entry two kept.df says.df;
      cf = int64_other wins 3 fields entry three kept.cf says.cf;
      texts = texts_stay grow list_table fields entry kept.are_texts (no_text entry one) says.texts;
    },
  )

  pub takes_posting : (bytes : List ℕ) → entry.number ≡ 4 → entry.held ≡ as_bytes bytes → TakesField list_table SaysList entry kept (Some kept)
  takes_posting bytes same is = takes_no_own (posting_fits entry same (ap wire_of is)) (omega arith) (omega arith) (omega arith)

  pub takes_other : entry.number ≢ 1 → entry.number ≢ 2 → entry.number ≢ 3 → entry.number ≢ 4 → TakesField list_table SaysList entry kept (Some kept)
  takes_other one two three four = takes_no_own (other_fits entry one two three four) one two three

-- ---- postings

zip_push : {A B : Type 0} (R : A → B → Type 0) (xs : List A) (ys : List B) (x : A) (y : B) → AllZip R xs ys → R x y → AllZip R (xs ++ x ∷ []) (ys ++ y ∷ [])
zip_push R [] [] x y zip r = (r, tt)
zip_push R [] (y' ∷ ys) x y zip r = absurd zip
zip_push R (x' ∷ xs) [] x y zip r = absurd zip
zip_push R (x' ∷ xs) (y' ∷ ys) x y zip r = (zip.0, zip_push R xs ys x y zip.1 r)

module _ (added : EachIsAdded) (fields : List Entry) (entry : Entry) (rows : PostingRows) (kept : Gaps) (building : Building) where
  -- the field is no posting
  pub no_posting : entry.number ≢ 4 → SaysPostings fields rows kept building → SaysPostings (fields ++ entry ∷ []) rows kept building
  no_posting other says = record {
    each = subst (λ (ms : List (List ℕ)). AllZip (HasFields posting_table) ms rows) (sym none) says.each;
    gaps = says.gaps;
  }
    where
      none : each_at 4 (fields ++ entry ∷ []) ≡ each_at 4 fields
      none = added 4 fields entry ∙ ap (λ (b : Bool). each_at 4 fields ++ cond b (bytes_or_none (Some entry.held) ∷ []) []) (ne_eqb entry.number 4 other) ∙ append-nil (each_at 4 fields)

  -- it is one
  pub one_posting : (posting : List ℕ) (row : List Entry) (after : Gaps) (building' : Building) → entry.number ≡ 4 → entry.held ≡ as_bytes posting → HasFields posting_table posting row
      → SaysGaps (rows ++ row ∷ []) after building' → SaysPostings fields rows kept building → SaysPostings (fields ++ entry ∷ []) (rows ++ row ∷ []) after building'
  one_posting posting row after building' same is read gaps says = record {
    each = subst (λ (ms : List (List ℕ)). AllZip (HasFields posting_table) ms (rows ++ row ∷ [])) (sym one)
        (zip_push (HasFields posting_table) (each_at 4 fields) rows posting row says.each read);
    gaps = gaps;
  }
    where
      one : each_at 4 (fields ++ entry ∷ []) ≡ each_at 4 fields ++ posting ∷ []
      one = added 4 fields entry ∙ ap (λ (b : Bool). each_at 4 fields ++ cond b (bytes_or_none (Some entry.held) ∷ []) []) (eq-eqb entry.number 4 same)
          ∙ ap (λ (h : Held). each_at 4 fields ++ bytes_or_none (Some h) ∷ []) is

pub is_posting : (entry : Entry) (bytes : List ℕ) → entry.number ≡ 4 → entry.held ≡ as_bytes bytes → entry ≡ record { number = 4; held = as_bytes bytes }
is_posting entry bytes same is =
    ap (λ (n : ℕ). record { number = n; held = entry.held }) same ∙ ap (λ (h : Held). record { number = 4; held = h }) is
