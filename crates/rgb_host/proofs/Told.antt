-- the finite map that a map of strings and vectors stands for: what a look-up finds, and what a change leaves
use Rattle.std.proofs.Common.{◌≡◌, ℕ, Bool, true, false, cond, List, [], ◌∷◌, ◌++◌, map, Option, Some, None, option_map, unwrap_or, Result, Ok, Err, OnOk, OnErr, is_ok, refl, sym, ap, ◌∙◌}
use Rattle.std.specs.Prelude.{String, string_bytes}
use Rattle.std.specs.Global.{Global, Vec}
use Rattle.std.specs.BTreeMap.{BTreeMap, UpdatesBy, get_by_text, is_at}
use Rattle.std.specs.Map.{lookup}
use Rattle.std.specs.Ordering.{eq_by_cmp, nat_cmp}
use Rattle.std.specs.String.{string_cmp}
use Rattle.std.specs.Str.{bytes_eq}
use Rattle.std.specs.Cmp.Lexicographic.{slice_cmp, nat_list_cmp_total}
use Rattle.std.specs.FinMap.{get, insert, find, get-from_entries}
use Rattle.std.proofs.lemmas.Cmp.{eq_by_cmp_equiv}
use Rattle.std.proofs.lemmas.Map.Text.{text_cmp, btree_map_updates_text, is_eq-slice_cmp}
use Rattle.std.specs.declared.alloc.AllocError.{AllocError}
use Rattle.rgb_host.specs.Files.{appended}
use Rattle.rgb_host.specs.Memory.{told}
use Rattle.rgb_host.proofs.Pieces.{same_files, get_inserted, get_at, insert_same}

abbrev Entry : Type 0
Entry = String Global × Vec ℕ

find_told : (q : List ℕ) (es : List Entry) → find (slice_cmp nat_cmp) q (map (λ e. (string_bytes e.0, e.1.items)) es) ≡ option_map (λ v. v.items) (lookup (is_at (text_cmp q)) es)
find_told q [] = refl
find_told q (e ∷ es) =
    elim (eq_by_cmp (slice_cmp nat_cmp) q (string_bytes e.0))
    as (λ b. cond b (Some e.1.items) (find (slice_cmp nat_cmp) q (map (λ e. (string_bytes e.0, e.1.items)) es)) ≡ option_map (λ v. v.items) (cond b (Some e.1) (lookup (is_at (text_cmp q)) es)))
    [ true ↦ refl | false ↦ find_told q es ]

pub get_told : (m : BTreeMap (String Global) (Vec ℕ)) (q : List ℕ) → get (told m) q ≡ option_map (λ v. v.items) (get_by_text m q)
get_told m q = get-from_entries nat_list_cmp_total (map (λ e. (string_bytes e.0, e.1.items)) m.entries) q ∙ find_told q m.entries

mapped_cond : (b : Bool) (v : Vec ℕ) (o : Option (Vec ℕ)) → option_map (λ v. v.items) (cond b (Some v) o) ≡ cond b (Some v.items) (option_map (λ v. v.items) o)
mapped_cond true v o = refl
mapped_cond false v o = refl

same_test : (bs q : List ℕ) → bytes_eq bs q ≡ eq_by_cmp (slice_cmp nat_cmp) q bs
same_test bs q = sym (is_eq-slice_cmp bs q) ∙ (eq_by_cmp_equiv nat_list_cmp_total).symm bs q

pub told_update : (bs : List ℕ) (m n : BTreeMap (String Global) (Vec ℕ)) (v : Vec ℕ) → UpdatesBy string_cmp (λ k. slice_cmp nat_cmp bs (string_bytes k)) m n (Some v) → told n ≡ insert (told m) bs v.items
told_update bs m n v u = same_files _ _ (λ q.
    get_told n q
    ∙ ap (option_map (λ v. v.items)) (btree_map_updates_text bs m n (Some v) u q)
    ∙ mapped_cond (bytes_eq bs q) v (get_by_text m q)
    ∙ ap (λ b. cond b (Some v.items) (option_map (λ v. v.items) (get_by_text m q))) (same_test bs q)
    ∙ ap (cond (eq_by_cmp (slice_cmp nat_cmp) q bs) (Some v.items)) (sym (get_told m q))
    ∙ sym (get_inserted (told m) bs v.items q))

pub told_there : (bs : List ℕ) (m n : BTreeMap (String Global) (Vec ℕ)) (v : Vec ℕ) → UpdatesBy string_cmp (λ k. slice_cmp nat_cmp bs (string_bytes k)) m n (Some v) → ¬ (get (told n) bs ≡ None)
told_there bs m n v u none =
    let some : get (told n) bs ≡ Some v.items = ap (λ f. get f bs) (told_update bs m n v u) ∙ get_at (told m) bs v.items in
    cc

module _ (name : List ℕ) (m n : BTreeMap (String Global) (Vec ℕ)) (v w : Vec ℕ) where
  found : Some v ≡ get_by_text m name → get (told m) name ≡ Some v.items
  found e = get_told m name ∙ ap (option_map (λ v. v.items)) (sym e)

  -- a vector of the map was extended in place, or was left as it was
  pub told_extended : (piece : List ℕ) → Some v ≡ get_by_text m name → UpdatesBy string_cmp (λ k. slice_cmp nat_cmp name (string_bytes k)) m n (Some w) → (r : Result (Unit {0}) AllocError) → w.items ≡ cond (is_ok r) (v.items ++ piece) v.items
      → OnOk r (told n ≡ appended name piece (told m)) × OnErr r (told n ≡ told m)
  told_extended piece e u (Ok x) is = (told_update name m n w u ∙ ap (insert (told m) name) (is ∙ ap (λ o. unwrap_or o [] ++ piece) (sym (found e))), tt)
  told_extended piece e u (Err x) is = (tt, told_update name m n w u ∙ ap (insert (told m) name) is ∙ insert_same (told m) name v.items (found e))
