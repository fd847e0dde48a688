-- The commands come to what is pending, and a turn takes fuel.
use Rattle.std.proofs.Common.{◌≡◌}
use Rattle.br_source_meaning.specs.Runs.{Goes, run_all}
use Rattle.br_source_meaning.specs.Names.{function_names}
use Rattle.br_source_meaning.specs.Numbered.{named_commands}
use Rattle.br_source_meaning.specs.Running.{own_of, state_of, deep_calls}
use Rattle.br_source_meaning.specs.Pending.{finish}
use Rattle.br_source_meaning.proofs.running.Running.commands.Given as goal

abbrev pub invariant-loop-pending : goal.invariant-loop-pending
invariant-loop-pending l =
    run_all (deep_calls l.functions.funcs.now)
    (named_commands (function_names l.functions.funcs.now) (own_of l.fn.self) l.cs) (state_of l.fn.self)
    ≡ finish (function_names l.functions.funcs.now) (own_of l.self) (deep_calls l.functions.funcs.now) l.pending
    (Goes (state_of l.self))

abbrev pub decreases-loop-pending : goal.decreases-loop-pending
decreases-loop-pending l = l.self.fuel
