-- What the levels of a slab make of the cells of the slab before.
use Rattle.std.proofs.Common.{◌≡◌, ℕ, zero, suc, ◌+◌, ◌<◌, ◌≤◌, List, [], ◌∷◌, ◌++◌, length, get_or, take, drop, map, Option, None, refl, sym, ap, subst, ◌∙◌, inl, arith, All}
use Rattle.std.specs.List.{AllZip, sum_by}
use Rattle.std.proofs.lemmas.List.{append-nil, length-append, take-append-drop}
use Rattle.std.proofs.lemmas.List.Elements.{All-take, All-drop}
use Rattle.std.proofs.lemmas.List.FromFn.{length-range_with_len}
use Rattle.std.proofs.lemmas.List.Sums.{sum_by-cons}
use Rattle.forward_index.specs.Forward.{ForwardIndex, IsForward}
use Rattle.bisection.specs.declared.cell.Part.{Part}
use Rattle.bisection.specs.declared.cell.Split.{Split}
use Rattle.bisection.specs.Recursion.{Limits, order_of, all_places}
use Rattle.bisection.specs.Cells.{IsCellIn, IsDone, IsPartOf, ArePartsOf, IsReady, IsSplit, Output, IsMade, AreMade, Descends, DescendsAll, GoesOn}
use Rattle.bisection.proofs.Places.{look_all, front_docs, back_docs, order_append}
use Rattle.bisection.proofs.Levels.{ready_from_part, stays_done, made_whole, made_one, made_join}

-- ---- parts and their cells

pub parts_take : {A B : Type 0} (R : A → B → Type 0) (m : ℕ) (xs : List A) (ys : List B) → AllZip R xs ys → AllZip R (take m xs) (take m ys)
parts_take R zero xs ys are = tt
parts_take R (suc m) [] [] are = tt
parts_take R (suc m) [] (y ∷ ys) are = absurd are
parts_take R (suc m) (x ∷ xs) [] are = absurd are
parts_take R (suc m) (x ∷ xs) (y ∷ ys) are = (are.0, parts_take R m xs ys are.1)

pub parts_drop : {A B : Type 0} (R : A → B → Type 0) (m : ℕ) (xs : List A) (ys : List B) → AllZip R xs ys → AllZip R (drop m xs) (drop m ys)
parts_drop R zero xs ys are = are
parts_drop R (suc m) [] [] are = tt
parts_drop R (suc m) [] (y ∷ ys) are = absurd are
parts_drop R (suc m) (x ∷ xs) [] are = absurd are
parts_drop R (suc m) (x ∷ xs) (y ∷ ys) are = parts_drop R m xs ys are.1

pub parts_total : (whole : ForwardIndex) (limits : Limits) (depth level : ℕ) (cells : List (List ℕ)) (parts : List Part) → ArePartsOf whole limits depth level cells parts → sum_by (λ part. part.len) parts ≡ length (order_of cells)
parts_total whole limits depth level [] [] are = refl
parts_total whole limits depth level [] (part ∷ parts) are = absurd are
parts_total whole limits depth level (cell ∷ cells) [] are = absurd are
parts_total whole limits depth level (cell ∷ cells) (part ∷ parts) are =
    let one : IsPartOf whole limits depth level cell part = are.0 in
    omega (arith, sum_by-cons (λ (p : Part). p.len) part parts, one.len, parts_total whole limits depth level cells parts are.1, length-append cell (order_of cells))

pub parts_ready : (whole : ForwardIndex) (limits : Limits) (depth level : ℕ) (cells : List (List ℕ)) (parts : List Part) → ArePartsOf whole limits depth level cells parts → All (IsReady limits) parts
parts_ready whole limits depth level [] [] are k d lt = absurd (omega (arith, lt))
parts_ready whole limits depth level [] (part ∷ parts) are k d lt = absurd are
parts_ready whole limits depth level (cell ∷ cells) [] are k d lt = absurd are
parts_ready whole limits depth level (cell ∷ cells) (part ∷ parts) are zero d lt = ready_from_part whole limits depth level cell part are.0
parts_ready whole limits depth level (cell ∷ cells) (part ∷ parts) are (suc k) d lt = parts_ready whole limits depth level cells parts are.1 k d (omega (arith, lt))

-- ---- the first slab

module _ (limits : Limits) (depth last : ℕ) (forward : ForwardIndex) (docs : List ℕ) (len : length docs ≡ length forward.rows) where
  all_is : docs ≡ map (λ k. get_or docs k 0) (all_places forward)
  all_is = sym (look_all docs (length forward.rows) len)

  pub whole_small : (part : Part) (old new : Output) → last ≤ depth → part.len ≡ length forward.rows → part.rows ≡ None → part.len ≤ limits.leaf → new.parts ≡ old.parts ++ part ∷ [] → new.trace ≡ old.trace
      → IsMade forward limits depth 0 last 0 (all_places forward) (λ k. get_or docs k 0) docs old new
  whole_small part old new within part_len none small parts_are trace_is =
      let n_is : length (all_places forward) ≡ length forward.rows = length-range_with_len 0 (length forward.rows) in
      let done : IsDone limits depth 0 (all_places forward) = inl (omega (arith, small, part_len, n_is)) in
      let later : IsDone limits depth last (all_places forward) = inl (omega (arith, small, part_len, n_is)) in
      let at : Option ForwardIndex → Part = λ (o : Option ForwardIndex). record { len = part.len; rows = o } in
      let bare : IsPartOf forward limits depth last (all_places forward) (at None) = record { len = part_len ∙ sym n_is; rows = later } in
      let is : IsPartOf forward limits depth last (all_places forward) part = subst (λ (o : Option ForwardIndex). IsPartOf forward limits depth last (all_places forward) (at o)) (sym none) bare in
      made_whole forward limits depth 0 last 0 (λ k. get_or docs k 0) (all_places forward) docs part old new is (stays_done forward limits depth 0 last (all_places forward) (omega arith) within done) all_is parts_are trace_is

  pub whole_split : (split : Split) (docs_mid docs_new : List ℕ) (old new : Output) → IsForward forward → limits.leaf < length forward.rows → IsSplit forward limits depth 1 (λ k. get_or docs k 0) docs_mid split
      → GoesOn limits depth 0 last 0 split docs_mid docs_new old new → IsMade forward limits depth 0 last 0 (all_places forward) (λ k. get_or docs k 0) docs_new old new
  whole_split split docs_mid docs_new old new sound large is goes = goes.over forward (λ k. get_or docs k 0) sound large is

-- ---- cells one after another

module _ (limits : Limits) (depth level last start : ℕ) where
  none_of : (whole : ForwardIndex) (cells : List (List ℕ)) → ArePartsOf whole limits depth level cells [] → cells ≡ []
  none_of whole [] are = refl
  none_of whole (cell ∷ cells) are = absurd are

  pub all_none : (parts : List Part) (docs : List ℕ) (old : Output) → length parts ≡ 0 → DescendsAll limits depth level last start parts docs docs old old
  all_none [] docs old none = record {
    over = λ whole cells document sound cells_in are docs_are.
        let nil : cells ≡ [] = none_of whole cells are in
        let made : AreMade whole limits depth level last start [] document docs old old = record {
          into = [];
          trace = [];
          parts = [];
          are_bisected = (refl, refl);
          are_parts = tt;
          in_order = docs_are ∙ ap (λ (cs : List (List ℕ)). map document (order_of cs)) nil;
          parts_behind = sym (append-nil old.parts);
          trace_behind = sym (append-nil old.trace);
        } in
        subst (λ (cs : List (List ℕ)). AreMade whole limits depth level last start cs document docs old old) (sym nil) made;
  }
  all_none (part ∷ parts) docs old none = absurd (omega (arith, none))

  one_made : (part : Part) (docs docs_new : List ℕ) (old new : Output) → Descends limits depth level last start part docs docs_new old new → (whole : ForwardIndex) (cells : List (List ℕ)) (document : ℕ → ℕ) → IsForward whole → All (IsCellIn whole) cells
      → ArePartsOf whole limits depth level cells (part ∷ []) → docs ≡ map document (order_of cells) → AreMade whole limits depth level last start cells document docs_new old new
  one_made part docs docs_new old new descends whole [] document sound cells_in are docs_are = absurd are
  one_made part docs docs_new old new descends whole (cell ∷ []) document sound cells_in are docs_are =
      made_one whole limits depth level last start document cell docs_new old new (descends.over whole cell document sound (cells_in 0 cell (omega arith)) are.0 (docs_are ∙ ap (map document) (append-nil cell)))
  one_made part docs docs_new old new descends whole (cell ∷ (next ∷ cells)) document sound cells_in are docs_are = absurd are.1

  pub all_one : (parts : List Part) (part : Part) (docs docs_new : List ℕ) (old new : Output) → parts ≡ part ∷ [] → Descends limits depth level last start part docs docs_new old new → DescendsAll limits depth level last start parts docs docs_new old new
  all_one parts part docs docs_new old new is descends = record {
    over = λ whole cells document sound cells_in are docs_are.
        one_made part docs docs_new old new descends whole cells document sound cells_in (subst (λ (ps : List Part). ArePartsOf whole limits depth level cells ps) is are) docs_are;
  }

  pub all_both : (m cut middle : ℕ) (parts parts_front parts_back : List Part) (docs front back docs_front docs_back : List ℕ) (old mid new : Output) → parts_front ≡ take m parts → parts_back ≡ drop m parts → cut ≡ sum_by (λ part. part.len) parts_front
      → middle ≡ start + cut → front ≡ take cut docs → back ≡ drop cut docs → DescendsAll limits depth level last start parts_front front docs_front old mid → DescendsAll limits depth level last middle parts_back back docs_back mid new
      → DescendsAll limits depth level last start parts docs (docs_front ++ docs_back) old new
  all_both m cut middle parts parts_front parts_back docs front back docs_front docs_back old mid new front_parts back_parts cut_is middle_is front_is back_is one two = record {
    over = λ whole cells document sound cells_in are docs_are.
        let R = IsPartOf whole limits depth level in
        let ca = take m cells in
        let cb = drop m cells in
        let both : ca ++ cb ≡ cells = take-append-drop m cells in
        let are_a : ArePartsOf whole limits depth level ca parts_front = subst (λ (ps : List Part). ArePartsOf whole limits depth level ca ps) (sym front_parts) (parts_take R m cells parts are) in
        let are_b : ArePartsOf whole limits depth level cb parts_back = subst (λ (ps : List Part). ArePartsOf whole limits depth level cb ps) (sym back_parts) (parts_drop R m cells parts are) in
        let len : cut ≡ length (order_of ca) = cut_is ∙ parts_total whole limits depth level ca parts_front are_a in
        let docs_both : docs ≡ map document (order_of ca ++ order_of cb) = docs_are ∙ ap (λ (cs : List (List ℕ)). map document (order_of cs)) (sym both) ∙ ap (map document) (order_append ca cb) in
        let made_a = one.over whole ca document sound (All-take (IsCellIn whole) m cells cells_in) are_a (front_is ∙ front_docs document cut docs (order_of ca) (order_of cb) docs_both len) in
        let made_b = two.over whole cb document sound (All-drop (IsCellIn whole) m cells cells_in) are_b (back_is ∙ back_docs document cut docs (order_of ca) (order_of cb) docs_both len) in
        let place : middle ≡ start + length (order_of ca) = omega (arith, middle_is, len) in
        let made = made_join whole limits depth level last document start ca cb docs_front docs_back old mid new made_a
        (subst (λ (s : ℕ). AreMade whole limits depth level last s cb document docs_back mid new) place made_b) in
        subst (λ (cs : List (List ℕ)). AreMade whole limits depth level last start cs document (docs_front ++ docs_back) old new) both made;
  }

pub one_is : (parts : List Part) (part : Part) → length parts ≡ 1 → part ≡ get_or parts 0 part → parts ≡ part ∷ []
one_is [] part one is = absurd (omega (arith, one))
one_is (first ∷ []) part one is = ap (λ (p : Part). p ∷ []) (sym is)
one_is (first ∷ (second ∷ parts)) part one is = absurd (omega (arith, one))
