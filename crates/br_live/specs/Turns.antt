-- What loops do in a turn, for the loops of statements in the order in which their parts end.
use Rattle.std.specs.Prelude.{ℕ, List, [], ◌∷◌, ◌++◌, map, ◌≡◌}
use Rattle.std.specs.List.{flat_map}
use Rattle.br_flatimp.specs.declared.program.Stmt.{Stmt, map-Stmt}
use Rattle.br_flatimp.specs.declared.program.Stmt.TheOpen.{Stmt-F}
use Rattle.br_flatimp.specs.declared.program.Stmt.TheFolds.{fold-Stmt}
use Rattle.br_flatimp.specs.Values.{Names}
use Rattle.br_flatimp.specs.Liveness.{nothing, Live, entry, live_step}
use Rattle.br_live.specs.declared.turn.Turn.{Turn}
use Rattle.br_live.specs.Summaries.{handed}

pub record LoopTurn : Type 0 where
  -- the bound of its names
  pub bound : ℕ
  -- what is live before the first part, when it is known what is live at the test
  pub opening : Names → Names
  -- what is live before the last part with the first part after it,
  -- where nothing is live at the end of that
  pub again : Names

-- what a turn that is kept says
abbrev pub turn_of : Turn → LoopTurn
turn_of t = record {
  bound = t.opening.reads.bound;
  opening = handed t.opening;
  again = handed t.again nothing;
}

-- a statement beside the turns of the loops in it
pub record Turned : Type 0 where
  pub live : Live
  pub turns : List LoopTurn

abbrev pub lives_in : List Turned → List Live
lives_in ts = map (λ (t : Turned). t.live) ts

abbrev pub turns_in : List Turned → List LoopTurn
turns_in ts = flat_map (λ (t : Turned). t.turns) ts

abbrev pub loop_turns : ℕ → Stmt-F Turned → List LoopTurn
loop_turns names (Stmt-F.Stackalloc x n body) = turns_in body
loop_turns names (Stmt-F.If test first second) = turns_in first ++ turns_in second
loop_turns names (Stmt-F.Loop first test last) =
    turns_in first
    ++ (turns_in last
    ++ record {
      bound = names;
      opening = entry (lives_in first);
      again = entry (lives_in last) (entry (lives_in first) nothing);
    }
    ∷ [])
loop_turns names y = []

abbrev pub turned_step : ℕ → Stmt-F Turned → Turned
turned_step names y = record {
  live = live_step (map-Stmt Turned Live (λ (t : Turned). t.live) y);
  turns = loop_turns names y;
}

abbrev pub turned : ℕ → Stmt → Turned
turned names = fold-Stmt Turned (turned_step names)

-- the turns of the loops in a statement, with so many names
abbrev pub turns_of : ℕ → Stmt → List LoopTurn
turns_of names s = (turned names s).turns

abbrev pub all_turns : ℕ → List Stmt → List LoopTurn
all_turns names body = flat_map (turns_of names) body

-- a list ends with another
abbrev pub EndsWith : List LoopTurn → List LoopTurn → Type 0
EndsWith xs ys = (rest : List LoopTurn) × (xs ≡ rest ++ ys)
