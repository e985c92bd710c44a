-- How far a recursion has come: before its first slab, and after its last.
use Rattle.std.proofs.Common.{◌≡◌, ℕ, ◌<◌, ◌≤◌, List, [], ◌∷◌, length, get_or, map, Option, Some, None, refl, sym, ap, subst, ◌∙◌, arith}
use Rattle.std.specs.Prelude.{IfNone}
use Rattle.std.proofs.lemmas.List.{append-nil, length-map}
use Rattle.std.proofs.lemmas.List.FromFn.{length-range_with_len}
use Rattle.std.proofs.lemmas.List.Sorted.{length_permutation}
use Rattle.forward_index.specs.Forward.{ForwardIndex, IsForward}
use Rattle.bisection.specs.declared.cell.Part.{Part}
use Rattle.bisection.specs.declared.options.Options.{Options}
use Rattle.cell_claims.specs.declared.trace.KeptRound.{KeptRound}
use Rattle.bisection.specs.Trace.{IsTrace}
use Rattle.bisection.specs.Recursion.{IsBisected, StaysWhole, IsNumbered, order_of, all_places}
use Rattle.bisection.specs.Progress.{AreOptions, Progress, IsProgress, limits_of, slabs_of, depth_after}
use Rattle.bisection.specs.Cells.{AreLaws, IsStanding}
use Rattle.bisection.proofs.Places.{range_rising, look_all}
use Rattle.bisection.proofs.Standing.{depth_of_none, depth_of_all}

pub standing_none : (forward : ForwardIndex) (options : Options) (numbering : List ℕ) (parts : List Part) (trace : List KeptRound) → IsForward forward → numbering ≡ forward.documents → trace ≡ [] → IsStanding forward options 0 numbering parts trace
standing_none forward options numbering parts trace sound same none =
    let all = all_places forward in
    let whole : StaysWhole all (all ∷ []) trace = record { is_cell = refl; is_trace = none } in
    record {
      cells = all ∷ [];
      is_bisected = subst (λ (l : ℕ). IsBisected forward (limits_of options) l all (all ∷ []) trace) (sym (depth_of_none options)) whole;
      in_order = same ∙ sym (look_all forward.documents (length forward.rows) sound.len) ∙ ap (map (λ (k : ℕ). get_or forward.documents k 0)) (sym (append-nil all));
      are_parts = λ some. absurd (omega (arith, some, depth_of_none options));
    }

pub progress_of : (forward : ForwardIndex) (options : Options) (done : ℕ) (numbering : List ℕ) (parts : List Part) (trace : List KeptRound) → AreOptions options → IsForward forward → done ≤ slabs_of options → IsStanding forward options done numbering parts trace
    → (let progress : Progress = record { forward = forward; options = options; done = done; numbering = numbering; trace = trace } in IsProgress progress)
progress_of forward options done numbering parts trace are sound most standing = record {
  options = are;
  sound = sound;
  most = most;
  numbered = record { cells = standing.cells; is_bisected = standing.is_bisected; documents = standing.in_order };
}

module _ (laws : AreLaws) (progress : Progress) (forward : ForwardIndex) (options : Options) (is : IsProgress progress) (same_forward : progress.forward ≡ forward) (same_options : progress.options ≡ options) (done : progress.done ≡ slabs_of options) where
  numbered_all : (f : ForwardIndex) (o : Options) (d : ℕ) → f ≡ forward → o ≡ options → d ≡ slabs_of options → IsNumbered f (limits_of o) (depth_after o d) progress.numbering progress.trace → AreOptions o
      → IsNumbered forward (limits_of options) options.depth progress.numbering progress.trace
  numbered_all f o d same_f same_o same_d numbered are =
      let at_f : IsNumbered forward (limits_of o) (depth_after o d) progress.numbering progress.trace = subst (λ (x : ForwardIndex). IsNumbered x (limits_of o) (depth_after o d) progress.numbering progress.trace) same_f numbered in
      let at_o : IsNumbered forward (limits_of options) (depth_after options d) progress.numbering progress.trace = subst (λ (x : Options). IsNumbered forward (limits_of x) (depth_after x d) progress.numbering progress.trace) same_o at_f in
      let are_ : AreOptions options = subst (λ (x : Options). AreOptions x) same_o are in
      let levels : depth_after options d ≡ options.depth = ap (depth_after options) same_d ∙ depth_of_all options are_ in
      subst (λ (l : ℕ). IsNumbered forward (limits_of options) l progress.numbering progress.trace) levels at_o

  pub finished : IsNumbered forward (limits_of options) options.depth progress.numbering progress.trace
  finished = numbered_all progress.forward progress.options progress.done same_forward same_options done is.numbered is.options

  pub finished_len : length progress.numbering ≡ length forward.rows
  finished_len =
      let n = length forward.rows in
      let once = laws.once forward (limits_of options) options.depth (all_places forward) finished.cells progress.trace (range_rising n) finished.is_bisected in
      ap length finished.documents ∙ length-map (order_of finished.cells) (λ (k : ℕ). get_or forward.documents k 0) ∙ length_permutation (all_places forward) (order_of finished.cells) once.documents ∙ length-range_with_len 0 n

  pub finished_trace : IsTrace progress.trace
  finished_trace =
      let some : 0 < options.leaf = let are = subst (λ (x : Options). AreOptions x) same_options is.options in are.some_leaf in
      laws.stand forward (limits_of options) options.depth (all_places forward) finished.cells progress.trace some (range_rising (length forward.rows)) finished.is_bisected

pub done_from_none : (answer : Option ℕ) (P : Type 0) → ((slabs : ℕ) → answer ≡ Some slabs → ⊥) → IfNone answer P → P
done_from_none None P not_some none = none
done_from_none (Some slabs) P not_some none = absurd (not_some slabs refl)
