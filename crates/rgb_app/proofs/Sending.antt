-- Texts that are sent one for each item of a list.
use Rattle.std.proofs.Common.{◌≡◌, ℕ, ◌+◌, ◌<◌, ◌≤◌, List, [], ◌∷◌, ◌++◌, length, take, drop, get_or, flat_map, map, codes, decimal, slice_get, unwrap_or, option_map, Option, Some, All, refl, sym, ap, subst, ◌∙◌, append_assoc, arith, take_all}
use Rattle.std.specs.List.{zip}
use Rattle.std.proofs.lemmas.Slice.Zip.{length-zip, get_or-zip}
use Rattle.std.specs.Borrow.{Bor}
use Rattle.std.proofs.Math.ListN.{get_or-map}
use Rattle.std.proofs.lemmas.List.{append-nil, take-append-drop, take_more, length-map}
use Rattle.std.proofs.lemmas.Grind.{flat_map-append}
use Rattle.rgb_host.specs.Seen.{Seen, PrintedThenFailed}
use Rattle.rgb_base.specs.Parts.{IndexParts}
use Rattle.rgb_app.specs.declared.answers.Answer.{Answer}
use Rattle.rgb_app.specs.declared.live_answers.LiveAnswer.{LiveAnswer}
use Rattle.rgb_app.specs.Text.{line_of, query_words, document_words, document_lines, answer_text, renumbered_words, renumbered_lines, block_words, block_text}
use Rattle.rgb_app.specs.Printing.{Adds}
use Rattle.rgb_app.proofs.Prints.{both, cut_later, cut_front}

-- the text of one more item
pub next_text : {A : Type 0} (f : A → List ℕ) (xs : List A) (k : ℕ) (none : A) → k < length xs → flat_map f (take (k + 1) xs) ≡ flat_map f (take k xs) ++ f (get_or xs k none)
next_text f xs k none lt =
    ap (flat_map f) (take_more xs k none lt) ∙ flat_map-append f (take k xs) (get_or xs k none ∷ []) ∙ ap (λ (w : List ℕ). flat_map f (take k xs) ++ w) (append-nil (f (get_or xs k none)))

pub one_sent : {A : Type 0} (f : A → List ℕ) (xs : List A) (k : ℕ) (none x : A) (p q r : List ℕ) (h i j : Seen) → k < length xs → x ≡ get_or xs k none → Adds (flat_map f (take k xs)) p q h i → Adds (f x) q r i j
    → Adds (flat_map f (take (k + 1) xs)) p r h j
one_sent f xs k none x p q r h i j lt is before now =
    subst (λ (w : List ℕ). Adds w p r h j) (ap (λ y. flat_map f (take k xs) ++ f y) is ∙ sym (next_text f xs k none lt)) (both before now)

-- the texts of all items are those of the first and of the others
texts_left : {A : Type 0} (f : A → List ℕ) (xs : List A) (k : ℕ) → flat_map f xs ≡ flat_map f (take k xs) ++ flat_map f (drop k xs)
texts_left f xs k = ap (flat_map f) (sym (take-append-drop k xs)) ∙ flat_map-append f (take k xs) (drop k xs)

-- the text of an item broke off
pub cut_at_item : {A : Type 0} (f : A → List ℕ) (xs : List A) (k : ℕ) (none x : A) (p q : List ℕ) (h i j : Seen) → k < length xs → x ≡ get_or xs k none → Adds (flat_map f (take k xs)) p q h i → PrintedThenFailed (q ++ f x) i j
    → PrintedThenFailed (p ++ flat_map f xs) h j
cut_at_item f xs k none x p q h i j lt is before cut =
    let front : PrintedThenFailed (p ++ flat_map f (take (k + 1) xs)) h j =
    subst (λ (w : List ℕ). PrintedThenFailed (p ++ w) h j) (ap (λ y. flat_map f (take k xs) ++ f y) is ∙ sym (next_text f xs k none lt)) (cut_later (f x) before cut) in
    let all : (p ++ flat_map f (take (k + 1) xs)) ++ flat_map f (drop (k + 1) xs) ≡ p ++ flat_map f xs =
    append_assoc p (flat_map f (take (k + 1) xs)) (flat_map f (drop (k + 1) xs)) ∙ ap (λ (w : List ℕ). p ++ w) (sym (texts_left f xs (k + 1))) in
    subst (λ (w : List ℕ). PrintedThenFailed w h j) all (cut_front (flat_map f (drop (k + 1) xs)) front)

-- all items came
pub all_sent : {A : Type 0} (f : A → List ℕ) (xs : List A) (k : ℕ) (p q : List ℕ) (h i : Seen) → take k xs ≡ xs → Adds (flat_map f (take k xs)) p q h i → Adds (flat_map f xs) p q h i
all_sent f xs k p q h i all came = subst (λ ys. Adds (flat_map f ys) p q h i) all came

-- ---- the line of a document

-- of its number with the space behind it, its name and the line feed
pub document_is : (index : IndexParts) (doc : ℕ) (head name : List ℕ) → head ≡ decimal doc ++ codes " " → option_map (λ d. d.name) (slice_get index.documents doc) ≡ Some name
    → line_of (document_words index doc) ≡ head ++ (name ++ 10 ∷ [])
document_is index doc head name head_is name_is =
    ap (λ (o : Option (List ℕ)). line_of (decimal doc ++ codes " " ++ unwrap_or o [])) name_is ∙ ap (λ (w : List ℕ). line_of (w ++ name)) (sym head_is) ∙ append_assoc head name (10 ∷ [])

-- of its number with the space behind it, and the rest
pub document_begins : (index : IndexParts) (doc : ℕ) (head : List ℕ) → head ≡ decimal doc ++ codes " "
    → line_of (document_words index doc) ≡ head ++ (unwrap_or (option_map (λ d. d.name) (slice_get index.documents doc)) [] ++ 10 ∷ [])
document_begins index doc head head_is =
    let name = unwrap_or (option_map (λ d. d.name) (slice_get index.documents doc)) [] in
    ap (λ (w : List ℕ). line_of (w ++ name)) (sym head_is) ∙ append_assoc head name (10 ∷ [])

-- of the number at a version with the space behind it, the name of the document and the line feed
pub renumbered_is : (index : IndexParts) (id original : ℕ) (head name : List ℕ) → head ≡ decimal id ++ codes " " → option_map (λ d. d.name) (slice_get index.documents original) ≡ Some name
    → line_of (renumbered_words index (id, original)) ≡ head ++ (name ++ 10 ∷ [])
renumbered_is index id original head name head_is name_is =
    ap (λ (o : Option (List ℕ)). line_of (decimal id ++ codes " " ++ unwrap_or o [])) name_is ∙ ap (λ (w : List ℕ). line_of (w ++ name)) (sym head_is) ∙ append_assoc head name (10 ∷ [])

pub renumbered_begins : (index : IndexParts) (id original : ℕ) (head : List ℕ) → head ≡ decimal id ++ codes " "
    → line_of (renumbered_words index (id, original)) ≡ head ++ (unwrap_or (option_map (λ d. d.name) (slice_get index.documents original)) [] ++ 10 ∷ [])
renumbered_begins index id original head head_is =
    let name = unwrap_or (option_map (λ d. d.name) (slice_get index.documents original)) [] in
    ap (λ (w : List ℕ). line_of (w ++ name)) (sym head_is) ∙ append_assoc head name (10 ∷ [])

-- the pair at a place of two lists
pub pair_at : (ids originals : List ℕ) (k : ℕ) → length originals ≡ length ids → k < length ids → (get_or ids k 0, get_or originals k 0) ≡ get_or (zip ids originals) k (0, 0)
pair_at ids originals k len lt = sym (get_or-zip ids originals k (0, 0) lt (omega (arith, len, lt)))

pub pairs_count : (ids originals : List ℕ) → length originals ≡ length ids → length (zip ids originals) ≡ length ids
pairs_count ids originals len = omega (arith, len, length-zip ids originals)

-- all of the pairs
pub taken_whole : (ids originals : List ℕ) (k : ℕ) → length originals ≡ length ids → length ids ≤ k → take k (zip ids originals) ≡ zip ids originals
taken_whole ids originals k len past = take_all k (zip ids originals) (omega (arith, past, pairs_count ids originals len))

-- the texts of what is lent
pub lent_texts : {A : Type 0} (f : A → List ℕ) (xs : List (Bor A)) → flat_map (λ x. f x.now) xs ≡ flat_map f (map (λ x. x.now) xs)
lent_texts f [] = refl
lent_texts f (x ∷ xs) = ap (λ (w : List ℕ). f x.now ++ w) (lent_texts f xs)

-- what holds of all that is lent holds of one
pub lent_at : {A : Type 0} (P : A → Type 0) (xs : List (Bor A)) (k : ℕ) (x : Bor A) → k < length xs → x ≡ get_or xs k x → All P (map (λ y. y.now) xs) → P x.now
lent_at P xs k x lt is all =
    subst P (get_or-map (λ y. y.now) xs k x ∙ ap (λ y. y.now) (sym is)) (all k x.now (omega (arith, lt, length-map xs (λ y. y.now))))

-- a text of two broke off in the first
pub cut_in_first : (text a b p : List ℕ) (h j : Seen) → text ≡ a ++ b → PrintedThenFailed (p ++ a) h j → PrintedThenFailed (p ++ text) h j
cut_in_first text a b p h j is cut = subst (λ (w : List ℕ). PrintedThenFailed w h j) (append_assoc p a b ∙ ap (λ (w : List ℕ). p ++ w) (sym is)) (cut_front b cut)

-- in the second
pub cut_in_second : (text a b p q : List ℕ) (h i j : Seen) → text ≡ a ++ b → Adds a p q h i → PrintedThenFailed (q ++ b) i j → PrintedThenFailed (p ++ text) h j
cut_in_second text a b p q h i j is one cut = subst (λ (w : List ℕ). PrintedThenFailed (p ++ w) h j) (sym is) (cut_later b one cut)

pub two_sent : (text a b p q r : List ℕ) (h i j : Seen) → text ≡ a ++ b → Adds a p q h i → Adds b q r i j → Adds text p r h j
two_sent text a b p q r h i j is one two = subst (λ (w : List ℕ). Adds w p r h j) (sym is) (both one two)

-- the text of an answer, of its first line and the lines of its documents
pub answer_is : (index : IndexParts) (answer : Answer) (count : ℕ) (ids first : List ℕ) → ids ≡ answer.ids → count ≡ length ids → first ≡ line_of (query_words answer.line count)
    → answer_text index answer ≡ first ++ document_lines index ids
answer_is index answer count ids first ids_are count_is first_is =
    ap (λ (ns : List ℕ). line_of (query_words answer.line (length ns)) ++ document_lines index ns) (sym ids_are)
    ∙ ap (λ (n : ℕ). line_of (query_words answer.line n) ++ document_lines index ids) (sym count_is)
    ∙ ap (λ (w : List ℕ). w ++ document_lines index ids) (sym first_is)

-- the text of a block, of its first line and the lines of its documents
pub block_is : (word : List ℕ) (index : IndexParts) (answer : LiveAnswer) (count : ℕ) (ids originals first : List ℕ) → ids ≡ answer.ids → originals ≡ answer.originals → count ≡ length ids
    → first ≡ line_of (block_words word answer.line answer.version count) → block_text word index answer ≡ first ++ renumbered_lines index (zip ids originals)
block_is word index answer count ids originals first ids_are originals_are count_is first_is =
    ap (λ (ns : List ℕ). line_of (block_words word answer.line answer.version (length ns)) ++ renumbered_lines index (zip ns answer.originals)) (sym ids_are)
    ∙ ap (λ (ns : List ℕ). line_of (block_words word answer.line answer.version (length ids)) ++ renumbered_lines index (zip ids ns)) (sym originals_are)
    ∙ ap (λ (n : ℕ). line_of (block_words word answer.line answer.version n) ++ renumbered_lines index (zip ids originals)) (sym count_is)
    ∙ ap (λ (w : List ℕ). w ++ renumbered_lines index (zip ids originals)) (sym first_is)
