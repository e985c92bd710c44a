-- The message at the front of a window, as a message of the file.
use Rattle.std.proofs.Common.{◌≡◌, inl, inr, ℕ, ◌+◌, ◌≤◌, List, ◌++◌, length, take, drop, refl, sym, ap, subst, ◌∙◌, arith}
use Rattle.std.specs.List.{All}
use Rattle.std.proofs.lemmas.List.{length-append, length-take, length-drop, take-append-le, drop-append-le, drop-drop}
use Rattle.ciff_wire.specs.Varint.{Spells, Reads, EndsEarly, RunsOn}
use Rattle.ciff_format.specs.declared.cause.Cause.{Cause}
use Rattle.ciff_format.specs.declared.cause.Cause.TheVariants.{CutShort, BadLength, BadField, BadText, BadCount, BadGap, SameTerm, BadDoc, Trailing, TooMuch}
use Rattle.ciff_format.specs.Messages.{LengthAt, MessageAt}
use Rattle.ciff_format.specs.Refused.{IsTooLong, IsFaultAt}
use Rattle.rgb_host.specs.Seen.{Seen}
use Rattle.ciff_reader.specs.declared.error.ReadError.{ReadError}
use Rattle.ciff_reader.specs.declared.error.ReadError.TheVariants.{Fault, OutOfMemory, Malformed}
use Rattle.ciff_reader.specs.Reading.{Explains}
use Rattle.ciff_reader.specs.declared.message.Span.{Span}
use Rattle.ciff_reader.specs.Window.{Held, IsAt, IsAtEnd, IsUnended, IsFar, IsSpan, IsFrameFault, Stops, ExplainsWhere, message_in}

-- a varint is read again, whatever follows it
reads_on : (bytes rest : List ℕ) (value used : ℕ) → Reads bytes value used → Reads (bytes ++ rest) value used
reads_on bytes rest value used reads = record {
  within = omega (arith, reads.within, length-append bytes rest);
  spells = subst (λ (bs : List ℕ). Spells bs value) (sym (take-append-le used bytes rest reads.within)) reads.spells;
}

runs_on : (bytes rest : List ℕ) → RunsOn bytes → RunsOn (bytes ++ rest)
runs_on bytes rest runs = record {
  many = omega (arith, runs.many, length-append bytes rest);
  unended = subst (λ (bs : List ℕ). All (λ b. 128 ≤ b) bs) (sym (take-append-le 10 bytes rest runs.many)) runs.unended;
}

length_at : (file bytes rest : List ℕ) (place size used : ℕ) → drop place file ≡ bytes ++ rest → Reads bytes size used → LengthAt file place (place + used + size)
length_at file bytes rest place size used stands reads = record {
  size = size;
  used = used;
  reads = subst (λ (bs : List ℕ). Reads bs size used) (sym stands) (reads_on bytes rest size used reads);
  ends = refl;
}

-- the message would end too far away
pub far_frame : (window : Held) (file : List ℕ) (place : ℕ) (cause : Cause) (bytes : List ℕ) → IsAt window file → place ≡ window.place → bytes ≡ window.bytes
    → (cause ≡ BadLength) × IsFar place bytes → IsFrameFault file place cause
far_frame window file place cause bytes at same held far =
    subst (IsFrameFault file place) (sym far.0) (too_long far.1)
  where
    stands : drop place file ≡ bytes ++ at.rest
    stands = ap (λ (k : ℕ). drop k file) same ∙ at.bytes ∙ ap (λ (bs : List ℕ). bs ++ at.rest) (sym held)

    too_long : IsFar place bytes → IsTooLong file place
    too_long (inl runs) = inl (subst RunsOn (sym stands) (runs_on bytes at.rest runs))
    too_long (inr long) = inr (place + long.1 + long.0, length_at file bytes at.rest place long.0 long.1 stands long.2, long.3)

-- no more bytes come, and the message isn't whole
pub cut_frame : (window : Held) (file : List ℕ) (place : ℕ) (bytes : List ℕ) → IsAtEnd window file → place ≡ window.place → bytes ≡ window.bytes
    → IsUnended place bytes → IsFrameFault file place CutShort
cut_frame window file place bytes at same held (inl ends) =
    inl (subst EndsEarly (sym (ap (λ (k : ℕ). drop k file) same ∙ at.bytes ∙ sym held)) ends)
cut_frame window file place bytes at same held (inr short) =
    let stands : drop place file ≡ bytes = ap (λ (k : ℕ). drop k file) same ∙ at.bytes ∙ sym held in
    inr (
      place + short.1 + short.0,
      record { size = short.0; used = short.1; reads = subst (λ (bs : List ℕ). Reads bs short.0 short.1) (sym stands) short.2; ends = refl },
      short.3,
      omega (arith, short.4, ap length stands, length-drop place file, at.within, same),
    )

-- the whole message is one of the file
pub message_at : (window : Held) (file : List ℕ) (span : Span) → IsAt window file → IsSpan window.place window.bytes span
    → MessageAt file window.place (message_in window.bytes span) (window.place + span.from + span.size)
message_at window file span at is =
    let message = message_in window.bytes span in
    let size : length message ≡ span.size = omega (arith, length-take span.size (drop span.from window.bytes), length-drop span.from window.bytes, is.within) in
    let stands : drop (window.place + span.from) file ≡ drop span.from window.bytes ++ at.rest =
    sym (drop-drop span.from window.place file) ∙ ap (drop span.from) at.bytes ∙ drop-append-le span.from window.bytes at.rest (omega (arith, is.within)) in
    record {
      used = span.from;
      reads = subst (λ (n : ℕ). Reads (drop window.place file) n span.from) (sym size) (subst (λ (bs : List ℕ). Reads bs span.size span.from) (sym at.bytes) (reads_on window.bytes at.rest span.size span.from is.reads));
      stands = ap (λ (n : ℕ). take n (drop (window.place + span.from) file)) size ∙ ap (take span.size) stands
          ∙ take-append-le span.size (drop span.from window.bytes) at.rest (omega (arith, length-drop span.from window.bytes, is.within));
      ends = omega (arith, size);
      within = omega (arith, is.within, length-append window.bytes at.rest, ap length at.bytes, length-drop window.place file, at.within);
      near = is.near;
    }

-- what is wrong with the place of a message is wrong, whatever it says
pub frame_fault : (IsWrong : List ℕ → Cause → Type 0) (file : List ℕ) (place : ℕ) (cause : Cause) → IsFrameFault file place cause → IsFaultAt IsWrong file place cause
frame_fault IsWrong file place CutShort fault = fault
frame_fault IsWrong file place BadLength fault = fault
frame_fault IsWrong file place BadField fault = absurd fault
frame_fault IsWrong file place BadText fault = absurd fault
frame_fault IsWrong file place BadCount fault = absurd fault
frame_fault IsWrong file place BadGap fault = absurd fault
frame_fault IsWrong file place SameTerm fault = absurd fault
frame_fault IsWrong file place BadDoc fault = absurd fault
frame_fault IsWrong file place Trailing fault = absurd fault
frame_fault IsWrong file place TooMuch fault = absurd fault

-- a read that stops in a step stops the step
pub stops_where : (Holds : List ℕ → Type 0) (IsWrong : List ℕ → ℕ → Cause → Type 0) (error : ReadError) (name : List ℕ) (before mid after : Seen) → mid ≡ before
    → Stops error name mid after → ExplainsWhere Holds IsWrong error name before after
stops_where Holds IsWrong Fault name before mid after same stops = subst (λ (h : Seen). Explains Fault name h after) same stops
stops_where Holds IsWrong OutOfMemory name before mid after same stops = stops ∙ same
stops_where Holds IsWrong (Malformed place cause) name before mid after same stops = absurd stops

-- and so does a step in a larger one
pub explains_where : (Holds Holds' : List ℕ → Type 0) (IsWrong IsWrong' : List ℕ → ℕ → Cause → Type 0) (error : ReadError) (name : List ℕ) (before mid after : Seen) → mid ≡ before
    → ((file : List ℕ) → Holds' file → Holds file)
    → ((file : List ℕ) (place : ℕ) (cause : Cause) → Holds' file → IsWrong file place cause → IsWrong' file place cause)
    → ExplainsWhere Holds IsWrong error name mid after → ExplainsWhere Holds' IsWrong' error name before after
explains_where Holds Holds' IsWrong IsWrong' Fault name before mid after same holds wrong stops = subst (λ (h : Seen). Explains Fault name h after) same stops
explains_where Holds Holds' IsWrong IsWrong' OutOfMemory name before mid after same holds wrong stops = stops ∙ same
explains_where Holds Holds' IsWrong IsWrong' (Malformed place cause) name before mid after same holds wrong stops =
    (λ file is. wrong file place cause is (stops.0 file (holds file is)), stops.1 ∙ same)
