-- Whether the rules of a message hold is decided.
use Rattle.std.proofs.Common.{◌≡◌, ◌⊎◌, ℕ, ◌^◌, ◌<◌, Bool, true, false, cond, ◌==◌, flat_map, ℤ, pos, List, [], ◌∷◌, ◌++◌, length, take, drop, Some, refl, ap, subst, ◌∙◌, arith, inl, inr}
use Rattle.std.specs.Prelude.{◌≤ℤ◌, ◌<ℤ◌, IsUtf8}
use Rattle.std.specs.Str.{is_utf8}
use Rattle.std.specs.List.{All, AllByRecursion, AllZip}
use Rattle.std.proofs.lemmas.Bool.{cases_lt}
use Rattle.std.proofs.lemmas.Int.{ints, by_lt_z}
use Rattle.std.proofs.lemmas.Str.{IsUtf8-had, IsUtf8-from_is_utf8, is_utf8-from_IsUtf8}
use Rattle.std.proofs.lemmas.List.{drop_at}
use Rattle.std.proofs.lemmas.List.Elements.{All-cons, All-nil, All-head, All-tail, All-drop}
use Rattle.ciff_wire.specs.Field.{Held, Entry, as_number, as_eight, as_bytes, as_four, wire_of, Holds, IsMessage}
use Rattle.ciff_wire.specs.Laws.{AreBytes, ReadAlways, MessageOrFault, FaultyIsNoMessage}
use Rattle.rgb_base.specs.Parts.{IndexParts, AreSized, posting_count, text_size}
use Rattle.ciff_format.specs.Fields.{Kind, int32, int64, double, text, message, Known, wire_of_kind, FitsKnown, HasItsType, HasFields, list_table, posting_table, IsTextOf, IsKnownText, HasText, AreTexts, bytes_or_none, bytes_where, each_at, int32_at}
use Rattle.ciff_format.specs.Messages.{AreCounts, PostingRows, HasListFields, sums_from, AreGaps}
use Rattle.ciff_format.proofs.Once.{Wire, fields_once}
use Rattle.ciff_format.proofs.Lists.{decide_number}

-- the laws by which bytes are read
pub record Reading : Type 0 where
  pub once : Wire
  pub reads : ReadAlways
  pub message : MessageOrFault
  pub never_both : FaultyIsNoMessage

abbrev pub IsEither : Type 0 → Type 0
IsEither P = P ⊎ (¬ P)

-- ---- of each

pub decide_all : {A : Type 0} (P : A → Type 0) → ((x : A) → IsEither (P x)) → (xs : List A) → IsEither (All P xs)
decide_all P decide [] = inl (All-nil P)
decide_all P decide (x ∷ xs) =
    elim (decide x) [
      | inr fails ↦ inr (λ all. fails (All-head P x xs all))
      | inl holds ↦ elim (decide_all P decide xs) [
        | inr fails ↦ inr (λ all. fails (All-tail P x xs all))
        | inl rest ↦ inl (All-cons P x xs holds rest)
      ]
    ]

decide_by_recursion : {A : Type 0} (P : A → Type 0) → ((x : A) → IsEither (P x)) → (xs : List A) → IsEither (AllByRecursion P xs)
decide_by_recursion P decide [] = inl tt
decide_by_recursion P decide (x ∷ xs) =
    elim (decide x) [
      | inr fails ↦ inr (λ all. fails all.0)
      | inl holds ↦ elim (decide_by_recursion P decide xs) [ inr fails ↦ inr (λ all. fails all.1) | inl rest ↦ inl (holds, rest) ]
    ]

decide_both : {P Q : Type 0} → IsEither P → IsEither Q → IsEither (P × Q)
decide_both (inr fails) q = inr (λ both. fails both.0)
decide_both (inl p) (inr fails) = inr (λ both. fails both.1)
decide_both (inl p) (inl q) = inl (p, q)

-- what is asked of a known number alone
decide_where : (n k : ℕ) (Q : Type 0) → IsEither Q → IsEither (n ≡ k → Q)
decide_where n k Q (inl holds) = inl (λ e. holds)
decide_where n k Q (inr fails) = elim (decide_number n k) [ inl same ↦ inr (λ all. fails (all same)) | inr other ↦ inl (λ e. absurd (other e)) ]

-- ---- types and texts

decide_type : (table : List Known) (entry : Entry) → IsEither (HasItsType table entry)
decide_type table entry =
    decide_by_recursion (FitsKnown entry) (λ known. decide_where known.number entry.number (wire_of entry.held ≡ wire_of_kind known.kind) (decide_number (wire_of entry.held) (wire_of_kind known.kind))) table

utf8_by_test : (bytes : List ℕ) (b : Bool) → is_utf8 bytes ≡ b → IsEither (∥ IsUtf8 bytes ∥₁)
utf8_by_test bytes true e = inl ∣ IsUtf8-from_is_utf8 bytes e ∣₁
utf8_by_test bytes false e = inr (λ had. let holds : is_utf8 bytes ≡ true = is_utf8-from_IsUtf8 bytes (IsUtf8-had bytes had) in cc)

decide_utf8 : (bytes : List ℕ) → IsEither (∥ IsUtf8 bytes ∥₁)
decide_utf8 bytes = utf8_by_test bytes (is_utf8 bytes) refl

decide_text_of : (kind : Kind) (held : Held) → IsEither (IsTextOf kind held)
decide_text_of int32 held = inl tt
decide_text_of int64 held = inl tt
decide_text_of double held = inl tt
decide_text_of text held = decide_utf8 (bytes_or_none (Some held))
decide_text_of message held = inl tt

decide_has_text : (table : List Known) (entry : Entry) → IsEither (HasText table entry)
decide_has_text table entry =
    decide_by_recursion (IsKnownText entry) (λ known. decide_where known.number entry.number (IsTextOf known.kind entry.held) (decide_text_of known.kind entry.held)) table

pub decide_texts : (table : List Known) (fields : List Entry) → IsEither (AreTexts table fields)
decide_texts table fields = decide_all (HasText table) (decide_has_text table) fields

-- ---- numbers

decide_le : (a b : ℤ) → IsEither (a ≤ℤ b)
decide_le a b = by_lt_z b a (λ lt. inr (λ le. omega (arith, ints, lt, le))) (λ le. inl le)

decide_lt : (a b : ℤ) → IsEither (a <ℤ b)
decide_lt a b = by_lt_z a b (λ lt. inl lt) (λ le. inr (λ lt. omega (arith, ints, lt, le)))

pub decide_counts : (fields : List Entry) → IsEither (AreCounts fields)
decide_counts fields =
    elim (decide_le (pos 0) (int32_at 2 fields)) [
      | inr fails ↦ inr (λ counts. fails counts.lists)
      | inl lists ↦ elim (decide_le (pos 0) (int32_at 3 fields)) [
        | inr fails ↦ inr (λ counts. fails counts.documents)
        | inl documents ↦ inl (record { lists = lists; documents = documents })
      ]
    ]

pub decide_gaps : (documents : ℕ) (gaps : List ℤ) → IsEither (AreGaps documents gaps)
decide_gaps documents gaps =
    elim (decide_all (λ gap. pos 0 ≤ℤ gap) (decide_le (pos 0)) (take 1 gaps)) [
      | inr fails ↦ inr (λ good. fails good.first)
      | inl first ↦ elim (decide_all (λ gap. pos 1 ≤ℤ gap) (decide_le (pos 1)) (drop 1 gaps)) [
        | inr fails ↦ inr (λ good. fails good.later)
        | inl later ↦ elim (decide_all (λ sum. sum <ℤ pos documents) (λ sum. decide_lt sum (pos documents)) (sums_from (pos 0) gaps)) [
          | inr fails ↦ inr (λ good. fails good.below)
          | inl below ↦ inl (record { first = first; later = later; below = below })
        ]
      ]
    ]

pub decide_sized : (parts : IndexParts) → IsEither (AreSized parts)
decide_sized parts =
    elim (cases_lt (posting_count parts.lists) (2 ^ 32)) [
      | inr fails ↦ inr (λ sized. omega (arith, fails, sized.postings))
      | inl postings ↦ elim (cases_lt (2 ^ 40) (text_size parts)) [
        | inl fails ↦ inr (λ sized. omega (arith, fails, sized.text))
        | inr size ↦ inl (record { postings = postings; text = size })
      ]
    ]

-- ---- fields

-- a message's fields, or none
pub decide_fields : Reading → (table : List Known) (m : List ℕ) → AreBytes m → ((fields : List Entry) × HasFields table m fields) ⊎ ((fields : List Entry) → ¬ HasFields table m fields)
decide_fields wire table m octets =
    elim (wire.message m octets) [
      | inr faulty ↦ inr (λ fields has. wire.never_both m fields faulty has.spelt)
      | inl is ↦ elim (decide_all (HasItsType table) (decide_type table) is.0) [
        | inl types ↦ inl (is.0, record { spelt = is.1; types = types })
        | inr fails ↦ inr (λ fields has. fails (subst (λ (fs : List Entry). All (HasItsType table) fs) (wire.once.one_message m fields is.0 has.spelt is.1) has.types))
      ]
    ]

all_behind : {A : Type 0} (P : A → Type 0) (xs ys zs : List A) → zs ≡ xs ++ ys → All P zs → All P ys
all_behind P xs ys zs same all = subst (All P) (ap (drop (length xs)) same ∙ drop_at xs ys (length xs) refl) (All-drop P (length xs) zs all)

all_front : {A : Type 0} (P : A → Type 0) (xs ys : List A) → All P (xs ++ ys) → All P xs
all_front P [] ys all = All-nil P
all_front P (x ∷ xs) ys all = All-cons P x xs (All-head P x (xs ++ ys) all) (all_front P xs ys (All-tail P x (xs ++ ys) all))

-- bytes that are held are some of the message's
held_bytes : (content : List ℕ) (held : Held) → Holds content held → AreBytes content → AreBytes (bytes_or_none (Some held))
held_bytes content (as_number v) holds octets = All-nil (λ b. b < 256)
held_bytes content (as_eight v) holds octets = All-nil (λ b. b < 256)
held_bytes content (as_bytes bs) holds octets = all_behind (λ b. b < 256) holds.0 bs content holds.2 octets
held_bytes content (as_four v) holds octets = All-nil (λ b. b < 256)

each_bytes : (n : ℕ) (m : List ℕ) (fields : List Entry) → IsMessage m fields → AreBytes m → All AreBytes (each_at n fields)
unfolding each_at
each_bytes n m [] is octets = All-nil AreBytes
each_bytes n m (entry ∷ fields) is octets =
    let text = subst AreBytes is.4 octets in
    let own : AreBytes is.0 = all_front (λ b. b < 256) is.0 is.1 text in
    let rest : AreBytes is.1 = all_behind (λ b. b < 256) is.0 is.1 (is.0 ++ is.1) refl text in
    let held = held_bytes is.2.content entry.held is.2.spells_content (all_behind (λ b. b < 256) is.2.tag is.2.content is.0 is.2.parts own) in
    with_test (entry.number == n) (bytes_or_none (Some entry.held)) (flat_map (bytes_where n) fields) held (each_bytes n is.1 fields is.3 rest)
  where
    with_test : (b : Bool) (bs : List ℕ) (more : List (List ℕ)) → AreBytes bs → All AreBytes more → All AreBytes (cond b (bs ∷ []) [] ++ more)
    with_test true bs more own rest = All-cons AreBytes bs more own rest
    with_test false bs more own rest = rest

decide_rows : Reading → (ms : List (List ℕ)) → All AreBytes ms → ((rows : PostingRows) × AllZip (HasFields posting_table) ms rows) ⊎ ((rows : PostingRows) → ¬ AllZip (HasFields posting_table) ms rows)
decide_rows wire [] octets = inl ([], tt)
decide_rows wire (m ∷ ms) octets =
    elim (decide_fields wire posting_table m (All-head AreBytes m ms octets)) [
      | inr fails ↦ inr (λ rows zip. no_first m ms fails rows zip)
      | inl is ↦ elim (decide_rows wire ms (All-tail AreBytes m ms octets)) [
        | inr fails ↦ inr (λ rows zip. no_rest m ms fails rows zip)
        | inl rest ↦ inl (is.0 ∷ rest.0, (is.1, rest.1))
      ]
    ]
  where
    no_first : (k : List ℕ) (ks : List (List ℕ)) → ((fields : List Entry) → ¬ HasFields posting_table k fields) → (rows : PostingRows) → AllZip (HasFields posting_table) (k ∷ ks) rows → ⊥
    no_first k ks fails [] zip = zip
    no_first k ks fails (fields ∷ rows) zip = fails fields zip.0

    no_rest : (k : List ℕ) (ks : List (List ℕ)) → ((rows : PostingRows) → ¬ AllZip (HasFields posting_table) ks rows) → (rows : PostingRows) → AllZip (HasFields posting_table) (k ∷ ks) rows → ⊥
    no_rest k ks fails [] zip = zip
    no_rest k ks fails (fields ∷ rows) zip = fails rows zip.1

pub decide_list_fields : Reading → (m : List ℕ) → AreBytes m → ((fields : List Entry) × (rows : PostingRows) × HasListFields m fields rows) ⊎ ((fields : List Entry) (rows : PostingRows) → ¬ HasListFields m fields rows)
decide_list_fields wire m octets =
    elim (decide_fields wire list_table m octets) [
      | inr fails ↦ inr (λ fields rows has. fails fields has.own)
      | inl is ↦ elim (decide_rows wire (each_at 4 is.0) (each_bytes 4 m is.0 is.1.spelt octets)) [
        | inl rows ↦ inl (is.0, rows.0, record { own = is.1; each = rows.1 })
        | inr fails ↦ inr (λ fields rows has. fails rows (subst (λ (fs : List Entry). AllZip (HasFields posting_table) (each_at 4 fs) rows) (fields_once wire.once list_table m m fields is.0 refl has.own is.1) has.each))
      ]
    ]
