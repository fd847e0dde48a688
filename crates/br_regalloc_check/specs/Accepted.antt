-- Which new names a function may take. New names are a list: the name x gets the number at x.
use Rattle.std.specs.Prelude.{◌≡◌, ℕ, List, map, length, slice_index, IsTrue}
use Rattle.std.specs.List.{AllByRecursion}
use Rattle.br_flatimp.specs.declared.program.FlatFunc.{FlatFunc}
use Rattle.br_flatimp.specs.Values.{Names}
use Rattle.br_flatimp.specs.Liveness.{is_in, Moment, function_moments, function_points}
use Rattle.br_flatimp.specs.WellFormed.{are_below, all_differ}
use Rattle.br_flatimp.specs.Renaming.{IsApart}

-- two different names of a set get different new names
abbrev pub AreApart : (ℕ → ℕ) → Names → Type 0
AreApart to live = (x : ℕ) → IsTrue (live x) → IsApart to x live

-- What a statement needs: the names that it writes get new names that differ, and the new name of
-- each is that of no other name that is live after the write.
pub record MayRename (to : ℕ → ℕ) (m : Moment) : Type 0 where
  pub differ : IsTrue (all_differ (map to m.written))
  pub apart : (x : ℕ) → IsTrue (is_in m.written x) → IsApart to x m.after_write

-- A function may take these new names: there is one for each of its names, each below their count.
-- Two names that are live at one point get different ones, and so do two arguments, and two
-- results.
pub record IsAccepted (f : FlatFunc) (to : List ℕ) : Type 0 where
  pub count : length to ≡ f.names
  pub below : IsTrue (are_below f.names to)
  pub args : IsTrue (all_differ (map (slice_index to) f.args))
  pub results : IsTrue (all_differ (map (slice_index to) f.results))
  pub points : AllByRecursion (AreApart (slice_index to)) (function_points f)
  pub written : AllByRecursion (MayRename (slice_index to)) (function_moments f)
