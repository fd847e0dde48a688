-- Sets of lists of events, and what makes larger ones of them: sequence, choice and repetition.
use Rattle.std.specs.Prelude.{◌≡◌, ◌⊎◌, ℕ, zero, suc, ◌≤◌, List, [], ◌∷◌, ◌++◌}
use Rattle.br_bytes.specs.declared.run.Event.{Event}

infixr 20 ◌▸◌
-- a set of lists of events
abbrev pub Language : Type 1
Language = List Event → Type 0

-- the empty list alone
abbrev pub nothing : Language
nothing es = es ≡ []

-- the list of this one event alone
abbrev pub event : Event → Language
event e es = es ≡ e ∷ []

-- a list of the first and then a list of the second
abbrev pub ◌▸◌ : Language → Language → Language
(A ▸ B) es = (front back : List Event) × (es ≡ front ++ back) × A front × B back

-- a list of the first, or of the second
abbrev pub either : Language → Language → Language
either A B es = A es ⊎ B es

-- a list of one of many
abbrev pub some : {X : Type 0} → (X → Language) → Language
some {X} L es = (x : X) × L x es

-- a list of the second where the first holds, and none elsewhere
abbrev pub given : Type 0 → Language → Language
given P L es = P × L es

-- n lists in turn
unfoldable pub times : ℕ → Language → Language
times zero L = nothing
times (suc n) L = L ▸ times n L

-- at most n lists in turn
abbrev pub up_to : ℕ → Language → Language
up_to n L = some λ (k : ℕ). given (k ≤ n) (times k L)

-- any number of lists in turn
abbrev pub any_number : Language → Language
any_number L = some λ (k : ℕ). times k L
