-- What stands at a place of a file stands there in one way: the message, its fields, and what they say.
use Rattle.std.proofs.Common.{◌≡◌, ℕ, ◌+◌, ◌≤◌, ℤ, pos, List, [], ◌∷◌, ◌++◌, length, take, drop, map, refl, sym, ap, subst, ◌∙◌, arith}
use Rattle.std.specs.List.{AllZip}
use Rattle.ciff_wire.specs.declared.varint.Varint.TheVariants.{Done}
use Rattle.ciff_wire.specs.Field.{Entry}
use Rattle.ciff_wire.specs.Laws.{ReadIsOne, OneMessage}
use Rattle.rgb_base.specs.declared.parts.Posting.{Posting}
use Rattle.rgb_base.specs.declared.parts.TermList.{TermList}
use Rattle.rgb_base.specs.declared.parts.DocRecord.{DocRecord}
use Rattle.rgb_base.specs.declared.parts.Header.{Header}
use Rattle.ciff_format.specs.Fields.{Known, header_table, list_table, posting_table, record_table, HasFields, int32_at, int64_at, text_at, each_at}
use Rattle.ciff_format.specs.Messages.{LengthAt, MessageAt, InARow, header_of, HeaderAt, PostingRows, HasListFields, gaps_in, sums_from, IsListOf, ListAt, Numbered, document_of, RecordAt}

-- the laws of the wire that this rests on
pub record Wire : Type 0 where
  pub read_is_one : ReadIsOne
  pub one_message : OneMessage

-- ---- messages and fields

pub message_once : Wire → (bytes : List ℕ) (place : ℕ) (m n : List ℕ) (a b : ℕ) → MessageAt bytes place m a → MessageAt bytes place n b → (m ≡ n) × (a ≡ b)
message_once wire bytes place m n a b p q =
    let same = wire.read_is_one (drop place bytes) (Done (length m) p.used) (Done (length n) q.used) p.reads q.reads in
    let len : length m ≡ length n = cc in
    let used : p.used ≡ q.used = cc in (
      sym p.stands ∙ ap (λ k. take k (drop (place + p.used) bytes)) len ∙ ap (λ u. take (length n) (drop (place + u) bytes)) used ∙ q.stands,
      omega (arith, p.ends, q.ends, len, used),
    )

-- a length is that of the message
pub length_once : Wire → (bytes : List ℕ) (place : ℕ) (m : List ℕ) (a b : ℕ) → MessageAt bytes place m a → LengthAt bytes place b → a ≡ b
length_once wire bytes place m a b p q =
    let same = wire.read_is_one (drop place bytes) (Done (length m) p.used) (Done q.size q.used) p.reads q.reads in
    let len : length m ≡ q.size = cc in
    let used : p.used ≡ q.used = cc in
    omega (arith, p.ends, q.ends, len, used)

pub lengths_once : Wire → (bytes : List ℕ) (place a b : ℕ) → LengthAt bytes place a → LengthAt bytes place b → a ≡ b
lengths_once wire bytes place a b p q =
    let same = wire.read_is_one (drop place bytes) (Done p.size p.used) (Done q.size q.used) p.reads q.reads in
    let len : p.size ≡ q.size = cc in
    let used : p.used ≡ q.used = cc in
    omega (arith, p.ends, q.ends, len, used)

pub fields_once : Wire → (table : List Known) (m n : List ℕ) (fs gs : List Entry) → m ≡ n → HasFields table m fs → HasFields table n gs → fs ≡ gs
fields_once wire table m n fs gs same p q = wire.one_message m fs gs p.spelt (subst (λ (t : List ℕ). HasFields table t gs) (sym same) q).spelt

rows_once : Wire → (ms : List (List ℕ)) (xs ys : PostingRows) → AllZip (HasFields posting_table) ms xs → AllZip (HasFields posting_table) ms ys → xs ≡ ys
rows_once wire [] [] [] p q = refl
rows_once wire [] [] (y ∷ ys) p q = absurd q
rows_once wire [] (x ∷ xs) ys p q = absurd p
rows_once wire (m ∷ ms) [] ys p q = absurd p
rows_once wire (m ∷ ms) (x ∷ xs) [] p q = absurd q
rows_once wire (m ∷ ms) (x ∷ xs) (y ∷ ys) p q =
    ap (λ (f : List Entry). f ∷ xs) (fields_once wire posting_table m m x y refl p.0 q.0) ∙ ap (λ (fs : PostingRows). y ∷ fs) (rows_once wire ms xs ys p.1 q.1)

pub list_fields_once : Wire → (m n : List ℕ) (fs gs : List Entry) (xs ys : PostingRows) → m ≡ n → HasListFields m fs xs → HasListFields n gs ys → (fs ≡ gs) × (xs ≡ ys)
list_fields_once wire m n fs gs xs ys same p q =
    let own = fields_once wire list_table m n fs gs same p.own q.own in
    (own, rows_once wire (each_at 4 fs) xs ys p.each (subst (λ (f : List Entry). AllZip (HasFields posting_table) (each_at 4 f) ys) (sym own) q.each))

-- ---- what they say

pub header_once : Wire → (bytes : List ℕ) (g h : Header) (l m d e a b : ℕ) → HeaderAt bytes g l d a → HeaderAt bytes h m e b → (g ≡ h) × (l ≡ m) × (d ≡ e) × (a ≡ b)
header_once wire bytes g h l m d e a b p q =
    let message = message_once wire bytes 0 p.message q.message a b p.stands q.stands in
    let fields = fields_once wire header_table p.message q.message p.fields q.fields message.0 p.read q.read in
    let lists : pos l ≡ pos m = sym p.lists_are ∙ ap (int32_at 2) fields ∙ q.lists_are in
    let documents : pos d ≡ pos e = sym p.documents_are ∙ ap (int32_at 3) fields ∙ q.documents_are in
    (p.header_is ∙ ap header_of fields ∙ sym q.header_is, cc, cc, message.1)

abbrev posting_with : ℕ → ℤ → Posting
posting_with doc tf = record { doc = doc; tf = tf }

same_postings : (ps qs : List Posting) → map (λ (p : Posting). pos p.doc) ps ≡ map (λ (p : Posting). pos p.doc) qs → map (λ (p : Posting). p.tf) ps ≡ map (λ (p : Posting). p.tf) qs → ps ≡ qs
same_postings [] [] e f = refl
same_postings [] (q ∷ qs) e f = absurd (omega (arith, ap length e))
same_postings (p ∷ ps) [] e f = absurd (omega (arith, ap length e))
same_postings (p ∷ ps) (q ∷ qs) e f =
    let doc : p.doc ≡ q.doc = cc in
    let docs : map (λ (r : Posting). pos r.doc) ps ≡ map (λ (r : Posting). pos r.doc) qs = cc in
    let tf : p.tf ≡ q.tf = cc in
    let tfs : map (λ (r : Posting). r.tf) ps ≡ map (λ (r : Posting). r.tf) qs = cc in
    ap (λ (n : ℕ). posting_with n p.tf ∷ ps) doc ∙ ap (λ (z : ℤ). posting_with q.doc z ∷ ps) tf ∙ ap (λ (rs : List Posting). q ∷ rs) (same_postings ps qs docs tfs)

abbrev list_with : List ℕ → ℤ → ℤ → List Posting → TermList
list_with term df cf postings = record { term = term; df = df; cf = cf; postings = postings }

pub same_list : (l m : TermList) → l.term ≡ m.term → l.df ≡ m.df → l.cf ≡ m.cf → l.postings ≡ m.postings → l ≡ m
same_list l m a b c d =
    ap (λ (t : List ℕ). list_with t l.df l.cf l.postings) a
    ∙ ap (λ (z : ℤ). list_with m.term z l.cf l.postings) b
    ∙ ap (λ (z : ℤ). list_with m.term m.df z l.postings) c
    ∙ ap (list_with m.term m.df m.cf) d

pub says_once : (fs gs : List Entry) (xs ys : PostingRows) (l m : TermList) → fs ≡ gs → xs ≡ ys → IsListOf fs xs l → IsListOf gs ys m → l ≡ m
says_once fs gs xs ys l m e f p q =
    same_list l m
    (p.term ∙ ap (text_at 1) e ∙ sym q.term)
    (p.df ∙ ap (int64_at 2) e ∙ sym q.df)
    (p.cf ∙ ap (int64_at 3) e ∙ sym q.cf)
    (same_postings l.postings m.postings
    (p.documents ∙ ap (λ (r : PostingRows). sums_from (pos 0) (gaps_in r)) f ∙ sym q.documents)
    (p.frequencies ∙ ap (map (int32_at 2)) f ∙ sym q.frequencies))

pub list_once : Wire → (bytes : List ℕ) (count place : ℕ) (l m : TermList) (a b : ℕ) → ListAt bytes count place l a → ListAt bytes count place m b → (l ≡ m) × (a ≡ b)
list_once wire bytes count place l m a b p q =
    let message = message_once wire bytes place p.message q.message a b p.stands q.stands in
    let fields = list_fields_once wire p.message q.message p.fields q.fields p.postings q.postings message.0 p.read q.read in
    (says_once p.fields q.fields p.postings q.postings l m fields.0 fields.1 p.says q.says, message.1)

abbrev numbered : ℕ → DocRecord → Numbered
numbered number document = record { number = number; document = document }

pub record_once : Wire → (bytes : List ℕ) (count place : ℕ) (r s : Numbered) (a b : ℕ) → RecordAt bytes count place r a → RecordAt bytes count place s b → (r ≡ s) × (a ≡ b)
record_once wire bytes count place r s a b p q =
    let message = message_once wire bytes place p.message q.message a b p.stands q.stands in
    let fields = fields_once wire record_table p.message q.message p.fields q.fields message.0 p.read q.read in
    let signed : pos r.number ≡ pos s.number = sym p.number_is ∙ ap (int32_at 1) fields ∙ q.number_is in
    let number : r.number ≡ s.number = cc in
    let document : r.document ≡ s.document = p.document_is ∙ ap document_of fields ∙ sym q.document_is in
    (ap (λ (n : ℕ). numbered n r.document) number ∙ ap (numbered s.number) document, message.1)

-- ---- in a row

-- things that stand in one way
abbrev pub IsOnce : {A : Type 0} → (ℕ → A → ℕ → Type 0) → Type 0
IsOnce {A} Stands = (place : ℕ) (x y : A) (a b : ℕ) → Stands place x a → Stands place y b → (x ≡ y) × (a ≡ b)

-- the first of two rows from one place is the front of the second, where it isn't longer
pub row_split : {A : Type 0} (Stands : ℕ → A → ℕ → Type 0) → IsOnce Stands → (place : ℕ) (xs ys : List A) (a b : ℕ) → InARow Stands place xs a → InARow Stands place ys b → length xs ≤ length ys
    → (zs : List A) × (ys ≡ xs ++ zs) × InARow Stands a zs b
row_split Stands once place [] ys a b p q few = (ys, refl, subst (λ k. InARow Stands k ys b) (sym p) q)
row_split Stands once place (x ∷ xs) [] a b p q few = absurd (omega (arith, few))
row_split {A} Stands once place (x ∷ xs) (y ∷ ys) a b p q few =
    let one = once place x y p.0 q.0 p.1 q.1 in
    let rest = row_split Stands once p.0 xs ys a b p.2 (subst (λ k. InARow Stands k ys b) (sym one.1) q.2) (omega (arith, few)) in
    (rest.0, ap (λ (z : A). z ∷ ys) (sym one.0) ∙ ap (λ (zs : List A). x ∷ zs) rest.1, rest.2)
