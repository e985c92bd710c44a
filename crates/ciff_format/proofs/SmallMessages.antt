-- Messages of few bytes, for rows that are put together by hand.
use Rattle.std.proofs.Common.{◌≡◌, ℕ, ◌+◌, ◌*◌, ◌^◌, ◌<◌, ◌≤◌, List, [], ◌∷◌, length, take, drop, map, flat_map, refl, sym, ap, subst, ◌∙◌, arith}
use Rattle.std.proofs.lemmas.List.{drop-drop}
use Rattle.std.proofs.lemmas.List.Elements.{All-cons, All-nil}
use Rattle.ciff_wire.specs.Varint.{sum_from, sum_of, Spells, Reads}
use Rattle.ciff_wire.specs.Field.{Entry, as_number, as_bytes, SpellsField, IsMessage}
use Rattle.ciff_format.specs.Messages.{MessageAt}

-- a spelling of one byte
pub one_byte : (b : ℕ) → b < 128 → Spells (b ∷ []) b
unfolding sum_of sum_from
one_byte b small = record {
  spelling = record {
    octets = All-cons (λ a. a < 256) b [] (omega (arith, small)) (All-nil (λ a. a < 256));
    some = omega arith;
    most = omega arith;
    goes_on = All-nil (λ a. 128 ≤ a);
    ends = small;
  };
  sum = omega (arith, small);
}

pub reads_one : (b : ℕ) (rest : List ℕ) → b < 128 → Reads (b ∷ rest) b 1
reads_one b rest small = record { within = omega arith; spells = one_byte b small }

-- a message of few bytes behind its length, with others before and behind
pub message_here : (bytes rest m : List ℕ) (place size : ℕ) → drop place bytes ≡ size ∷ rest → size ≡ length m → size < 128 → take size rest ≡ m → place + 1 + size ≤ length bytes → place < 2 ^ 40 → MessageAt bytes place m (place + 1 + size)
message_here bytes rest m place size here same small front within near = record {
  used = 1;
  reads = subst (λ (t : List ℕ). Reads t (length m) 1) (sym here) (subst (λ k. Reads (size ∷ rest) k 1) same (reads_one size rest small));
  stands = ap (take (length m)) (sym (drop-drop 1 place bytes) ∙ ap (drop 1) here) ∙ ap (λ k. take k rest) (sym same) ∙ front;
  ends = omega (arith, same);
  within = within;
  near = omega (arith, small, near);
}

-- fields of one byte's tag
pub number_field : (tag n v : ℕ) → tag ≡ n * 8 → 0 < n → tag < 128 → v < 128 → SpellsField (tag ∷ v ∷ []) (record { number = n; held = as_number v })
number_field tag n v same some small short = record {
  number = (some, omega (arith, same, small));
  tag = tag ∷ [];
  content = v ∷ [];
  spells_tag = subst (Spells (tag ∷ [])) (same ∙ omega arith) (one_byte tag small);
  spells_content = one_byte v short;
  parts = refl;
}

pub bytes_field : (tag n size : ℕ) (bytes : List ℕ) → tag ≡ n * 8 + 2 → 0 < n → tag < 128 → size ≡ length bytes → size < 128 → SpellsField (tag ∷ size ∷ bytes) (record { number = n; held = as_bytes bytes })
bytes_field tag n size bytes same some small len short = record {
  number = (some, omega (arith, same, small));
  tag = tag ∷ [];
  content = size ∷ bytes;
  spells_tag = subst (Spells (tag ∷ [])) same (one_byte tag small);
  spells_content = (size ∷ [], subst (Spells (size ∷ [])) len (one_byte size short), refl);
  parts = refl;
}

-- fields one after another, each with its spelling
pub record Piece : Type 0 where
  pub text : List ℕ
  pub entry : Entry
  pub spells : SpellsField text entry

pub whole : (pieces : List Piece) → IsMessage (flat_map (λ (p : Piece). p.text) pieces) (map (λ (p : Piece). p.entry) pieces)
whole [] = refl
whole (p ∷ pieces) = (p.text, flat_map (λ (q : Piece). q.text) pieces, p.spells, whole pieces, refl)

abbrev pub number_piece : (tag n v : ℕ) → tag ≡ n * 8 → 0 < n → tag < 128 → v < 128 → Piece
number_piece tag n v same some small short = record { text = tag ∷ v ∷ []; entry = record { number = n; held = as_number v }; spells = number_field tag n v same some small short }

abbrev pub bytes_piece : (tag n size : ℕ) (bytes : List ℕ) → tag ≡ n * 8 + 2 → 0 < n → tag < 128 → size ≡ length bytes → size < 128 → Piece
bytes_piece tag n size bytes same some small len short = record { text = tag ∷ size ∷ bytes; entry = record { number = n; held = as_bytes bytes }; spells = bytes_field tag n size bytes same some small len short }
