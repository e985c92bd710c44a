-- What stands in front of the postings of a list: nothing, or its term and its frequencies, spelt as most are.
use Rattle.std.proofs.Common.{◌≡◌, ℕ, ◌+◌, true, pos, List, [], ◌∷◌, take, drop, refl, sym, ap, subst, ◌∙◌, arith}
use Rattle.std.specs.Prelude.{IsUtf8, Option}
use Rattle.std.specs.Int.{w64, cast_signed}
use Rattle.std.specs.List.{AllZip}
use Rattle.std.proofs.lemmas.List.Elements.{All-nil, All-cons}
use Rattle.ciff_wire.specs.Field.{Held, Entry, SpellsField}
use Rattle.ciff_wire.specs.Laws.{FieldIsAdded}
use Rattle.rgb_base.specs.Building.{Building}
use Rattle.ciff_format.specs.Fields.{list_table, posting_table, HasFields, HasText, AreTexts, held_at, each_at, bytes_or_none, number_or_zero}
use Rattle.ciff_format.specs.Growing.{NothingHeld, TypesGrow}
use Rattle.ciff_reader.specs.declared.gaps.Gaps.{Gaps}
use Rattle.ciff_reader.specs.declared.list.ListFields.{ListFields}
use Rattle.ciff_reader.specs.Listing.{SaysList, SaysGaps, ReadsFront, ReadsList}
use Rattle.ciff_reader.proofs.Fronts.{fields_begin, field_added}
use Rattle.ciff_reader.proofs.ListFields.{term_fits, number_fits, no_text, good_text}
use Rattle.ciff_reader.proofs.ShortPostings.{number_entry, text_entry}

-- ---- nothing

pub nothing_stands : NothingHeld → (message : List ℕ) (kept : ListFields) → kept.term.now ≡ [] → kept.df ≡ pos 0 → kept.cf ≡ pos 0 → kept.are_texts ≡ true → ReadsFront (take 0 message) kept
nothing_stands nothing message kept term df cf texts = record {
  fields = [];
  read = fields_begin list_table message;
  says = record {
    term = λ was. term ∙ sym (ap bytes_or_none (nothing 1).0);
    df = df ∙ sym (ap (λ (h : Option Held). cast_signed w64 (number_or_zero h)) (nothing 2).0);
    cf = cf ∙ sym (ap (λ (h : Option Held). cast_signed w64 (number_or_zero h)) (nothing 3).0);
    texts = (λ was. All-nil (HasText list_table), λ all. texts);
  };
  none = (nothing 4).1;
}

-- ---- the three fields

abbrev fields_of : List ℕ → ℕ → ℕ → List Entry
fields_of term df cf = text_entry 1 term ∷ number_entry 2 df ∷ number_entry 3 cf ∷ []

texts_of : (term : List ℕ) (df cf : ℕ) → ∥ IsUtf8 term ∥₁ → AreTexts list_table (fields_of term df cf)
texts_of term df cf good =
    All-cons (HasText list_table) (text_entry 1 term) (number_entry 2 df ∷ number_entry 3 cf ∷ []) (good_text (text_entry 1 term) term refl good)
    (All-cons (HasText list_table) (number_entry 2 df) (number_entry 3 cf ∷ []) (no_text (number_entry 2 df) (omega arith))
    (All-cons (HasText list_table) (number_entry 3 cf) [] (no_text (number_entry 3 cf) (omega arith)) (All-nil (HasText list_table))))

fields_say : (term : List ℕ) (df cf : ℕ) (kept : ListFields) → kept.term.now ≡ term → kept.df ≡ cast_signed w64 df → kept.cf ≡ cast_signed w64 cf → kept.are_texts ≡ true → ∥ IsUtf8 term ∥₁
    → SaysList (fields_of term df cf) kept
unfolding held_at
fields_say term df cf kept term_is df_is cf_is texts good = record {
  term = λ yes. term_is;
  df = df_is;
  cf = cf_is;
  texts = (λ yes. texts_of term df cf good, λ all. texts);
}

no_postings : (term : List ℕ) (df cf : ℕ) → each_at 4 (fields_of term df cf) ≡ []
unfolding each_at
no_postings term df cf = refl

fields_stand : FieldIsAdded → TypesGrow → (message after last : List ℕ) (df cf first second third : ℕ) (term : List ℕ) → after ≡ drop first message → last ≡ drop (first + second) message
    → SpellsField (take first message) (text_entry 1 term) → SpellsField (take second after) (number_entry 2 df) → SpellsField (take third last) (number_entry 3 cf)
    → HasFields list_table (take (first + second + third) message) (fields_of term df cf)
fields_stand added grow message after last df cf first second third term behind behind' one two three =
    let none : 0 + first ≡ first = omega arith in
    let front : HasFields list_table (take first message) (text_entry 1 term ∷ []) = subst (λ (n : ℕ). HasFields list_table (take n message) (text_entry 1 term ∷ [])) none
    (field_added added grow list_table message message 0 first [] (text_entry 1 term) refl one (term_fits (text_entry 1 term) refl refl) (fields_begin list_table message)) in
    let more = field_added added grow list_table message after first second (text_entry 1 term ∷ []) (number_entry 2 df) behind two (number_fits (number_entry 2 df) (omega arith) (omega arith) refl) front in
    field_added added grow list_table message last (first + second) third (text_entry 1 term ∷ number_entry 2 df ∷ []) (number_entry 3 cf) behind' three (number_fits (number_entry 3 cf) (omega arith) (omega arith) refl) more

pub three_stand : FieldIsAdded → TypesGrow → (message after last : List ℕ) (df cf first second third : ℕ) (term : List ℕ) (kept : ListFields) → after ≡ drop first message → last ≡ drop (first + second) message
    → SpellsField (take first message) (text_entry 1 term) → SpellsField (take second after) (number_entry 2 df) → SpellsField (take third last) (number_entry 3 cf)
    → kept.term.now ≡ term → kept.df ≡ cast_signed w64 df → kept.cf ≡ cast_signed w64 cf → kept.are_texts ≡ true → ∥ IsUtf8 term ∥₁
    → ReadsFront (take (first + second + third) message) kept
three_stand added grow message after last df cf first second third term kept behind behind' one two three term_is df_is cf_is texts good = record {
  fields = fields_of term df cf;
  read = fields_stand added grow message after last df cf first second third term behind behind' one two three;
  says = fields_say term df cf kept term_is df_is cf_is texts good;
  none = no_postings term df cf;
}

-- ---- the list behind it

pub list_goes_on_behind : (front : List ℕ) (kept : ListFields) (gaps : Gaps) (building : Building) → ReadsFront front kept → SaysGaps [] gaps building → ReadsList front kept gaps building
list_goes_on_behind front kept gaps building reads says = record {
  fields = reads.fields;
  rows = [];
  read = reads.read;
  says = reads.says;
  postings = record {
    each = subst (λ (ms : List (List ℕ)). AllZip (HasFields posting_table) ms []) (sym reads.none) tt;
    gaps = says;
  };
}
