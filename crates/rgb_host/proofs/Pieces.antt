-- a text that is written piece by piece: what was taken so far is a front of it
use Rattle.std.proofs.Common.{◌≡◌, ℕ, ◌+◌, ◌≤◌, Bool, true, false, cond, List, [], ◌∷◌, ◌++◌, length, take, drop, Option, Some, None, option_map, unwrap_or, refl, sym, ap, subst, ◌∙◌, arith}
use Rattle.std.specs.Ordering.{eq_by_cmp, nat_cmp}
use Rattle.std.specs.Cmp.{Equal-is}
use Rattle.std.specs.Cmp.Lexicographic.{slice_cmp, nat_list_cmp_total}
use Rattle.std.proofs.lemmas.Cmp.{eq_by_cmp_equiv}
use Rattle.std.proofs.lemmas.List.{append_assoc, append-nil, length-append, length-take-le, take_at, take-append-drop}
use Rattle.std.specs.FinMap.{get, insert, get-insert, same_map, slice_cmp-IsAntisymmetric, nat_cmp-IsAntisymmetric}
use Rattle.rgb_host.specs.Files.{Files, bytes_of, appended, IsMissing}
use Rattle.rgb_host.specs.Seen.{Seen, Lacks, grown, with_print, with_warning, WriteFailed, WarnFailed, AppendedThenFailed, PrintedThenFailed, WarnedThenFailed}
use Rattle.rgb_host.specs.Laws.{CreatedThenAppended, AppendedTwice, NothingAppended, AppendedIsThere, FailedLater}

-- the front that was taken makes the text with what is left
pub record Appended (name text rest : List ℕ) (before after : Seen) : Type 0 where
  pub front : List ℕ
  pub whole : text ≡ front ++ rest
  pub told : after ≡ grown name front before
  pub there : ¬ Lacks after name

pub record Printed (text rest : List ℕ) (before after : Seen) : Type 0 where
  pub front : List ℕ
  pub whole : text ≡ front ++ rest
  pub told : after ≡ with_print front before

pub record Warned (text rest : List ℕ) (before after : Seen) : Type 0 where
  pub front : List ℕ
  pub whole : text ≡ front ++ rest
  pub told : after ≡ with_warning front before

pub same_files : (m n : Files) → ((q : List ℕ) → get m q ≡ get n q) → m ≡ n
same_files = same_map nat_list_cmp_total (slice_cmp-IsAntisymmetric nat_cmp-IsAntisymmetric)

pub get_inserted : (m : Files) (k : List ℕ) (v q : List ℕ) → get (insert m k v) q ≡ cond (eq_by_cmp (slice_cmp nat_cmp) q k) (Some v) (get m q)
get_inserted = get-insert nat_list_cmp_total

tied_itself : (k : List ℕ) → eq_by_cmp (slice_cmp nat_cmp) k k ≡ true
tied_itself k = (eq_by_cmp_equiv nat_list_cmp_total).refl k

pub get_at : (m : Files) (k v : List ℕ) → get (insert m k v) k ≡ Some v
get_at m k v = get_inserted m k v k ∙ ap (λ b. cond b (Some v) (get m k)) (tied_itself k)

cond_twice : (b : Bool) (x y z : Option (List ℕ)) → cond b x (cond b y z) ≡ cond b x z
cond_twice true x y z = refl
cond_twice false x y z = refl

pub insert_twice : (m : Files) (k v w : List ℕ) → insert (insert m k v) k w ≡ insert m k w
insert_twice m k v w = same_files _ _ (λ q.
    get_inserted (insert m k v) k w q
    ∙ ap (cond (eq_by_cmp (slice_cmp nat_cmp) q k) (Some w)) (get_inserted m k v q)
    ∙ cond_twice (eq_by_cmp (slice_cmp nat_cmp) q k) (Some w) (Some v) (get m q)
    ∙ sym (get_inserted m k w q))

bytes_at : (m : Files) (k v : List ℕ) → bytes_of (insert m k v) k ≡ v
bytes_at m k v = ap (λ o. unwrap_or o []) (get_at m k v)

-- bytes behind an empty file are the file
filled : (m : Files) (name bytes : List ℕ) → appended name bytes (insert m name []) ≡ insert m name bytes
filled m name bytes = ap (λ old. insert (insert m name []) name (old ++ bytes)) (bytes_at m name []) ∙ insert_twice m name [] bytes

pub appended_twice : (name a b : List ℕ) (m : Files) → appended name b (appended name a m) ≡ appended name (a ++ b) m
appended_twice name a b m =
    insert_twice m name (bytes_of m name ++ a) (bytes_of (appended name a m) name ++ b)
    ∙ ap (λ bs. insert m name (bs ++ b)) (bytes_at m name (bytes_of m name ++ a))
    ∙ ap (insert m name) (append_assoc (bytes_of m name) a b)

tied_same : (q k : List ℕ) → eq_by_cmp (slice_cmp nat_cmp) q k ≡ true → q ≡ k
tied_same q k e = slice_cmp-IsAntisymmetric nat_cmp-IsAntisymmetric q k ((Equal-is (slice_cmp nat_cmp q k)).0 e)

kept : (m : Files) (q k v : List ℕ) → get m k ≡ Some v → (b : Bool) → eq_by_cmp (slice_cmp nat_cmp) q k ≡ b → cond b (Some v) (get m q) ≡ get m q
kept m q k v e true t = sym (ap (get m) (tied_same q k t) ∙ e)
kept m q k v e false t = refl

same_appended : (m : Files) (name : List ℕ) → ¬ (get m name ≡ None) → (o : Option (List ℕ)) → get m name ≡ o → (q : List ℕ) → get (insert m name (unwrap_or o [] ++ [])) q ≡ get m q
same_appended m name there None e q = absurd (there e)
same_appended m name there (Some v) e q =
    get_inserted m name (v ++ []) q
    ∙ ap (λ bs. cond (eq_by_cmp (slice_cmp nat_cmp) q name) (Some bs) (get m q)) (append-nil v)
    ∙ kept m q name v e (eq_by_cmp (slice_cmp nat_cmp) q name) refl

appended_none : (name : List ℕ) (told : Option Files) → ¬ IsMissing told name → told ≡ option_map (appended name []) told
appended_none name None there = refl
appended_none name (Some m) there = ap Some (sym (same_files (appended name [] m) m (same_appended m name there (get m name) refl)))

appended_more : (name a b : List ℕ) (told : Option Files) → option_map (appended name b) (option_map (appended name a) told) ≡ option_map (appended name (a ++ b)) told
appended_more name a b None = refl
appended_more name a b (Some m) = ap Some (appended_twice name a b m)

appended_there : (name a : List ℕ) (told : Option Files) → ¬ IsMissing (option_map (appended name a) told) name
appended_there name a None h = h
appended_there name a (Some m) h = let e : Some (bytes_of m name ++ a) ≡ None = sym (get_at m name (bytes_of m name ++ a)) ∙ h in cc

split : (text front rest : List ℕ) (n : ℕ) → text ≡ front ++ rest → text ≡ (front ++ take n rest) ++ drop n rest
split text front rest n e = e ∙ ap (λ r. front ++ r) (sym (take-append-drop n rest)) ∙ sym (append_assoc front (take n rest) (drop n rest))

front_is : (text front rest : List ℕ) → text ≡ front ++ rest → (length front ≤ length text) × (front ≡ take (length front) text)
front_is text front rest e =
    let sum = length-append front rest in
    let same : length text ≡ length (front ++ rest) = ap length e in
    (omega arith, sym (ap (take (length front)) e ∙ take_at front rest (length front) refl))

no_elements : (xs : List ℕ) → length xs ≡ 0 → xs ≡ []
no_elements [] e = refl
no_elements (x ∷ xs) e = absurd (omega arith)

added_none : (told : Option (List ℕ)) → told ≡ option_map (λ told. told ++ []) told
added_none None = refl
added_none (Some text) = ap Some (sym (append-nil text))

added_more : (a b : List ℕ) (told : Option (List ℕ)) → option_map (λ told. told ++ b) (option_map (λ told. told ++ a) told) ≡ option_map (λ told. told ++ (a ++ b)) told
added_more a b None = refl
added_more a b (Some text) = ap Some (append_assoc text a b)

abbrev with_files : Seen → Option Files → Seen
with_files host files = record host { files = files }

abbrev with_printed : Seen → Option (List ℕ) → Seen
with_printed host printed = record host { printed = printed }

abbrev with_warned : Seen → Option (List ℕ) → Seen
with_warned host warned = record host { warned = warned }

pub appended-start : (name text : List ℕ) (host : Seen) → ¬ Lacks host name → Appended name text text host host
appended-start name text host there = record { front = []; whole = refl; told = ap (with_files host) (appended_none name host.files there); there = there }

pub appended-step : (name text rest left : List ℕ) (before mid after : Seen) (n : ℕ) → Appended name text rest before mid → after ≡ grown name (take n rest) mid → left ≡ drop n rest → Appended name text left before after
appended-step name text rest left before mid after n so_far step is_left = record {
  front = so_far.front ++ take n rest;
  whole = split text so_far.front rest n so_far.whole ∙ ap (λ r. (so_far.front ++ take n rest) ++ r) (sym is_left);
  told = step ∙ ap (grown name (take n rest)) so_far.told ∙ ap (with_files before) (appended_more name so_far.front (take n rest) before.files);
  there = subst (λ host. ¬ Lacks host name) (sym step) (appended_there name (take n rest) mid.files);
}

pub appended-cut : (name text rest : List ℕ) (before mid after : Seen) → Appended name text rest before mid → WriteFailed mid after → AppendedThenFailed name text before after
appended-cut name text rest before mid after so_far failed =
    let is = front_is text so_far.front rest so_far.whole in
    let told = so_far.told ∙ ap (λ bs. grown name bs before) is.1 in
    record { n = length so_far.front; within = is.0; failed = subst (λ host. WriteFailed host after) told failed }

pub appended-end : (name text rest : List ℕ) (before after : Seen) → Appended name text rest before after → length rest ≡ 0 → after ≡ grown name text before
appended-end name text rest before after so_far none =
    so_far.told ∙ ap (λ bs. grown name bs before) (sym (so_far.whole ∙ ap (λ r. so_far.front ++ r) (no_elements rest none) ∙ append-nil so_far.front))

pub printed-start : (text : List ℕ) (host : Seen) → Printed text text host host
printed-start text host = record { front = []; whole = refl; told = ap (with_printed host) (added_none host.printed) }

pub printed-step : (text rest left : List ℕ) (before mid after : Seen) (n : ℕ) → Printed text rest before mid → after ≡ with_print (take n rest) mid → left ≡ drop n rest → Printed text left before after
printed-step text rest left before mid after n so_far step is_left = record {
  front = so_far.front ++ take n rest;
  whole = split text so_far.front rest n so_far.whole ∙ ap (λ r. (so_far.front ++ take n rest) ++ r) (sym is_left);
  told = step ∙ ap (with_print (take n rest)) so_far.told ∙ ap (with_printed before) (added_more so_far.front (take n rest) before.printed);
}

pub printed-cut : (text rest : List ℕ) (before mid after : Seen) → Printed text rest before mid → WriteFailed mid after → PrintedThenFailed text before after
printed-cut text rest before mid after so_far failed =
    let is = front_is text so_far.front rest so_far.whole in
    let told = so_far.told ∙ ap (λ bs. with_print bs before) is.1 in
    record { n = length so_far.front; within = is.0; failed = subst (λ host. WriteFailed host after) told failed }

pub printed-end : (text rest : List ℕ) (before after : Seen) → Printed text rest before after → length rest ≡ 0 → after ≡ with_print text before
printed-end text rest before after so_far none =
    so_far.told ∙ ap (λ bs. with_print bs before) (sym (so_far.whole ∙ ap (λ r. so_far.front ++ r) (no_elements rest none) ∙ append-nil so_far.front))

pub warned-start : (text : List ℕ) (host : Seen) → Warned text text host host
warned-start text host = record { front = []; whole = refl; told = ap (with_warned host) (added_none host.warned) }

pub warned-step : (text rest left : List ℕ) (before mid after : Seen) (n : ℕ) → Warned text rest before mid → after ≡ with_warning (take n rest) mid → left ≡ drop n rest → Warned text left before after
warned-step text rest left before mid after n so_far step is_left = record {
  front = so_far.front ++ take n rest;
  whole = split text so_far.front rest n so_far.whole ∙ ap (λ r. (so_far.front ++ take n rest) ++ r) (sym is_left);
  told = step ∙ ap (with_warning (take n rest)) so_far.told ∙ ap (with_warned before) (added_more so_far.front (take n rest) before.warned);
}

pub warned-cut : (text rest : List ℕ) (before mid after : Seen) → Warned text rest before mid → WarnFailed mid after → WarnedThenFailed text before after
warned-cut text rest before mid after so_far failed =
    let is = front_is text so_far.front rest so_far.whole in
    let told = so_far.told ∙ ap (λ bs. with_warning bs before) is.1 in
    record { n = length so_far.front; within = is.0; failed = subst (λ host. WarnFailed host after) told failed }

pub warned-end : (text rest : List ℕ) (before after : Seen) → Warned text rest before after → length rest ≡ 0 → after ≡ with_warning text before
warned-end text rest before after so_far none =
    so_far.told ∙ ap (λ bs. with_warning bs before) (sym (so_far.whole ∙ ap (λ r. so_far.front ++ r) (no_elements rest none) ∙ append-nil so_far.front))

pub insert_same : (m : Files) (k v : List ℕ) → get m k ≡ Some v → insert m k v ≡ m
insert_same m k v e = same_files _ _ (λ q. get_inserted m k v q ∙ kept m q k v e (eq_by_cmp (slice_cmp nat_cmp) q k) refl)

-- ---- laws

created_filled : (name bytes : List ℕ) (told : Option Files) → option_map (appended name bytes) (option_map (λ files. insert files name []) told) ≡ option_map (λ files. insert files name bytes) told
created_filled name bytes None = refl
created_filled name bytes (Some m) = ap Some (filled m name bytes)

pub created_then_appended : CreatedThenAppended
created_then_appended host name bytes = ap (with_files host) (created_filled name bytes host.files)

pub appended_again : AppendedTwice
appended_again host name first second = ap (with_files host) (appended_more name first second host.files)

pub nothing_appended : NothingAppended
nothing_appended host name there = ap (with_files host) (sym (appended_none name host.files there))

pub appended_is_there : AppendedIsThere
appended_is_there host name bytes = appended_there name bytes host.files

-- the first bytes of a later piece are, with what stands before them, the first bytes of the whole
taken_later : (first second rest : List ℕ) (n : ℕ) → n ≤ length second → take (length first + n) (first ++ (second ++ rest)) ≡ first ++ take n second
taken_later first second rest n within =
    let front = take n second in
    let cut : second ≡ front ++ drop n second = sym (take-append-drop n second) in
    let whole : first ++ (second ++ rest) ≡ (first ++ front) ++ (drop n second ++ rest) =
    ap (λ s. first ++ (s ++ rest)) cut ∙ ap (λ s. first ++ s) (append_assoc front (drop n second) rest) ∙ sym (append_assoc first front (drop n second ++ rest)) in
    let len : length (first ++ front) ≡ length first + n = length-append first front ∙ ap (λ k. length first + k) (length-take-le n second within) in
    ap (take (length first + n)) whole ∙ take_at (first ++ front) (drop n second ++ rest) (length first + n) len

pub failed_later : FailedLater
failed_later before after name first second rest failed =
    let joined = appended_again before name first (take failed.n second) in
    let same = sym (ap (λ bs. grown name bs before) (taken_later first second rest failed.n failed.within)) in
    let one = length-append first (second ++ rest) in
    let two = length-append second rest in
    record {
      n = length first + failed.n;
      within = omega (arith, failed.within, one, two);
      failed = subst (λ host. WriteFailed host after) (joined ∙ same) failed.failed;
    }
