-- What a function of a small program may need fits 32 bits, where no function has a path of calls to
-- itself: each function of a path counts once, and its buffers are bounded by its bulk.
use Rattle.std.proofs.Common.{◌≡◌, ℕ, zero, suc, ◌+◌, ◌*◌, ◌%◌, ◌<◌, ◌≤◌, ◌⊎◌, eqb, nat_le, Bool, true, ◌&&◌, List, []}
use Rattle.std.proofs.Common.{◌∷◌, Option, Some, None, length, get_or, map, sum, refl, sym, ap, subst, ◌∙◌, arith, inl}
use Rattle.std.proofs.Common.{inr, ⊎_elim, Contains}
use Rattle.std.proofs.lemmas.Grind.{common_steps}
use Rattle.std.proofs.lemmas.Bool.{and_parts, leb-true, cases_lt}
use Rattle.std.specs.List.{list_all, slice_get}
use Rattle.std.specs.Str.{bytes_eq}
use Rattle.br_syntax.specs.declared.program.Cmd.{Cmd, roll-Cmd}
use Rattle.br_syntax.specs.declared.program.Cmd.TheOpen.{Cmd-F}
use Rattle.br_syntax.specs.declared.program.Cmd.TheFolds.{map-Cmd, fold-Cmd, fold-roll-Cmd, ind-Cmd}
use Rattle.br_syntax.specs.declared.program.Func.{Func}
use Rattle.br_syntax.specs.Functions.{function_named, number_named}
use Rattle.br_syntax.specs.Shape.{IsShaped, is_shaped_function, is_shaped_command, is_buffer_size}
use Rattle.br_syntax.specs.Shape.{command_step as shape_step, are_names}
use Rattle.br_measure.specs.Bulk.{bulk, largest_bulk, function_bulk, command_bulk, command_step}
use Rattle.br_measure.specs.Measure.{nested_step, nested_buffers, measure, measure_within, largest}
use Rattle.br_measure.specs.Paths.{callees, HasNoRecursion}
use Rattle.br_numbering.proofs.Positions.{find_at_position, find_no_position}
use Rattle.br_measure.proofs.Rounds.{needs_at, none_needs, get_or_map}
use Rattle.br_measure.proofs.Depth.{weights_of, all_weights, weights_apart, Chain, chain_apart}

sum_next : (n : ℕ) (ns : List ℕ) → sum (n ∷ ns) ≡ n + sum ns
sum_next n ns = grind (arith, common_steps)

-- the buffers nested in a command are bounded by its bulk
abbrev Nests : Cmd → Type 0
Nests c = is_shaped_command c ≡ true → fold-Cmd ℕ nested_step c ≤ 65536 * command_bulk c

abbrev With : Type 0
With = (c : Cmd) × Nests c

nests_each : (cs : List With) → list_all (λ ok. ok) (map is_shaped_command (map (λ (e : With). e.0) cs)) ≡ true
    → largest (map (fold-Cmd ℕ nested_step) (map (λ (e : With). e.0) cs)) ≤ 65536 * sum
    (map command_bulk (map (λ (e : With). e.0) cs))
nests_each [] shaped = omega arith
nests_each (e ∷ cs) shaped =
    let parts = and_parts (is_shaped_command e.0)
    (list_all (λ ok. ok) (map is_shaped_command (map (λ (e : With). e.0) cs))) shaped in
    omega (
      arith,
      e.1 parts.0,
      nests_each cs parts.1,
      sum_next (command_bulk e.0)
          (map command_bulk (map (λ (e : With). e.0) cs)),
    )

abbrev layer : Cmd-F With → Cmd-F Cmd
layer = map-Cmd With Cmd (λ e. e.0)

nests_step : (y : Cmd-F With) → shape_step (map-Cmd Cmd Bool is_shaped_command (layer y)) ≡ true
    → nested_step (map-Cmd Cmd ℕ (fold-Cmd ℕ nested_step) (layer y)) ≤ 65536 * command_step
    (map-Cmd Cmd ℕ command_bulk (layer y))
nests_step Cmd-F.Skip shaped = omega arith
nests_step (Cmd-F.Set x e) shaped = omega arith
nests_step (Cmd-F.Unset x) shaped = omega arith
nests_step (Cmd-F.Store size a e) shaped = omega arith
nests_step (Cmd-F.Stackalloc x n body) shaped =
    let parts = and_parts (is_buffer_size n)
    (list_all (λ ok. ok) (map is_shaped_command (map (λ (e : With). e.0) body))) shaped in
    let size = leb-true n 65536 (and_parts (eqb (n % 4) 0) (nat_le n 65536) parts.0).1 in
    omega (arith, size, nests_each body parts.1)
nests_step (Cmd-F.If e first second) shaped =
    let parts = and_parts (list_all (λ ok. ok) (map is_shaped_command (map (λ (e : With). e.0) first)))
    (list_all (λ ok. ok) (map is_shaped_command (map (λ (e : With). e.0) second))) shaped in
    omega (arith, nests_each first parts.0, nests_each second parts.1)
nests_step (Cmd-F.While e body) shaped = omega (arith, nests_each body shaped)
nests_step (Cmd-F.Seq body) shaped = omega (arith, nests_each body shaped)
nests_step (Cmd-F.Call at xs callee es) shaped = omega arith
nests_step (Cmd-F.Interact at xs action es) shaped = omega arith

nests_rolled : (y : Cmd-F With) → Nests (roll-Cmd (layer y))
nests_rolled y shaped =
    rw (fold-roll-Cmd ℕ nested_step (layer y), fold-roll-Cmd ℕ command_step (layer y))
    (nests_step y (sym (fold-roll-Cmd Bool shape_step (layer y)) ∙ shaped))

nests : (c : Cmd) → Nests c
nests = ind-Cmd Nests (λ x y is. subst (λ z. Nests (roll-Cmd z)) is (nests_rolled y))

nests_all : (cs : List Cmd) → list_all is_shaped_command cs ≡ true
    → largest (map (fold-Cmd ℕ nested_step) cs) ≤ 65536 * sum (map command_bulk cs)
nests_all [] shaped = omega arith
nests_all (c ∷ cs) shaped =
    let parts = and_parts (is_shaped_command c) (list_all is_shaped_command cs) shaped in
    omega (arith, nests c parts.0, nests_all cs parts.1, sum_next (command_bulk c) (map command_bulk cs))

-- what a function needs for itself
abbrev pub own : Func → ℕ
own f = 4 * function_bulk f + 256 + nested_buffers f

own_le : (f : Func) → is_shaped_function f ≡ true → own f ≤ 65572 * function_bulk f
own_le f shaped =
    let body = (and_parts (are_names f.results) (list_all is_shaped_command f.body)
    (and_parts (are_names f.args) (are_names f.results && list_all is_shaped_command f.body) shaped).1).1 in
    omega (arith, nests_all f.body body)

all_le : (fs : List Func) → list_all is_shaped_function fs ≡ true → all_weights (map own fs) ≤ 65572 * bulk fs
all_le [] shaped = omega arith
all_le (f ∷ fs) shaped =
    let parts = and_parts (is_shaped_function f) (list_all is_shaped_function fs) shaped in
    omega (arith, own_le f parts.0, all_le fs parts.1, sum_next (function_bulk f) (map function_bulk fs))

-- the callee that needs most
abbrev Most : (List ℕ → ℕ) → List (List ℕ) → Type 0
Most F names = (largest (map F names) ≡ 0) ⊎ ((x : List ℕ) × Contains names x × (largest (map F names) ≡ F x))

most_behind : (F : List ℕ → ℕ) (x : List ℕ) (xs : List (List ℕ)) → F x < largest (map F xs) → Most F xs
    → Most F (x ∷ xs)
most_behind F x xs less most =
    ⊎_elim
    (λ zero. absurd (omega arith))
    (λ m. let c = m.1 in inr (m.0, (suc c.0, omega (arith, c.1), c.2), omega (arith, m.2)))
    most

largest_at : (F : List ℕ → ℕ) (names : List (List ℕ)) → Most F names
largest_at F [] = inl refl
largest_at F (x ∷ xs) =
    ⊎_elim
    (λ less. most_behind F x xs less (largest_at F xs))
    (λ above. inr (x, (0, omega arith, refl), omega arith))
    (cases_lt (F x) (largest (map F xs)))

module _ (fs : List Func) where
  -- a path whose functions need as much
  abbrev Covers : ℕ → ℕ → Type 0
  Covers f need = (hs : List ℕ) × Chain fs f hs × (need ≤ weights_of (map own fs) (f ∷ hs))

  abbrev Behind : ℕ → ℕ → Type 0
  Behind f need = (hs : List ℕ) × Chain fs f hs × (need ≤ weights_of (map own fs) hs)

  behind_named : (depth f : ℕ) (caller : Func) → slice_get fs f ≡ Some caller
      → ((g : ℕ) → Covers g (needs_at depth fs g))
      → (x : List ℕ) → Contains (callees caller) x → (o : Option ℕ) → number_named fs x ≡ o
      → Behind f (measure_within depth fs (function_named fs x))
  behind_named depth f caller at covers x called None is =
      let none : measure_within depth fs (function_named fs x) ≡ 0 =
      ap (measure_within depth fs) (find_no_position (λ h. bytes_eq h.name x) fs is) ∙ none_needs depth fs in
      ([], tt, omega (arith, none))
  behind_named depth f caller at covers x called (Some g) is =
      let same : measure_within depth fs (function_named fs x) ≡ needs_at depth fs g =
      ap (measure_within depth fs) (find_at_position (λ h. bytes_eq h.name x) fs g is) in
      let path = covers g in (
        g ∷ path.0,
        (record { caller = caller; at = at; name = x; called = called; named = is }, path.1),
        omega
            (arith, same, path.2),
      )

  behind : (depth f : ℕ) (caller : Func) → slice_get fs f ≡ Some caller → ((g : ℕ) → Covers g (needs_at depth fs g))
      → Behind f (largest (map (λ x. measure_within depth fs (function_named fs x)) (callees caller)))
  behind depth f caller at covers =
      ⊎_elim
      (λ zero. ([], tt, omega (arith, zero)))
      (λ m. let path = behind_named depth f caller at covers m.0 m.1 (number_named fs m.0) refl
      in (path.0, path.1, omega (arith, m.2, path.2)))
      (largest_at (λ x. measure_within depth fs (function_named fs x)) (callees caller))

  covers_at : (depth f : ℕ) (o : Option Func) → slice_get fs f ≡ o → ((g : ℕ) → Covers g (needs_at depth fs g))
      → Covers f (measure_within (suc depth) fs o)
  covers_at depth f None at covers = ([], tt, omega arith)
  covers_at depth f (Some caller) at covers =
      let path = behind depth f caller at covers in
      let here : get_or (map own fs) f 0 ≡ own caller = get_or_map own fs f caller 0 at in
      (path.0, path.1, omega (arith, path.2, here))

  covered : (depth f : ℕ) → Covers f (needs_at depth fs f)
  covered zero f = ([], tt, omega arith)
  covered (suc depth) f = covers_at depth f (slice_get fs f) refl (λ g. covered depth g)

  pub measure_fits : HasNoRecursion fs → IsShaped fs → bulk fs ≤ largest_bulk → (f : ℕ) (caller : Func) → slice_get fs f
      ≡ Some caller → measure fs caller ≤ 2148663296
  measure_fits none shaped small f caller at =
      let path = covered (length fs) f in
      let within = weights_apart (f ∷ path.0) (map own fs) (chain_apart fs none f path.0 path.1) in
      let same : needs_at (length fs) fs f ≡ measure fs caller = ap (measure_within (length fs) fs) at in
      omega (arith, path.2, within, all_le fs shaped, same)
