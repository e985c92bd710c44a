-- What contracts see of a dictionary: its terms, which differ.
use Rattle.std.specs.Prelude.{ℕ, ◌^◌, ◌<◌, List, length, map, string_bytes}
use Rattle.rgb_base.specs.Parts.{AreDifferent}
use Rattle.bool_query.specs.declared.dictionary.Dictionary.TheInside as dictionary

abbrev pub terms_in : dictionary.Inside → List (List ℕ)
terms_in inside = map (λ term. string_bytes term) inside.terms.keys

pub record IsDictionary (inside : dictionary.Inside) : Type 0 where
  pub few : length (terms_in inside) < 2 ^ 31
  pub different : AreDifferent (terms_in inside)
