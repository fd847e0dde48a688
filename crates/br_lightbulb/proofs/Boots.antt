-- The start, at any depth of calls.
use Rattle.std.proofs.Common.{ℕ, zero, suc, List, [], sym, append-nil}
use Rattle.br_syntax.specs.declared.program.Func.{Func}
use Rattle.br_source_meaning.specs.Runs.{State}
use Rattle.br_source_meaning.specs.Calls.{function_of}
use Rattle.br_lightbulb.specs.Names as name
use Rattle.br_lightbulb.specs.Shows.{ShowsPiece, HasLan, HasFirmware, boot_piece}
use Rattle.br_lightbulb.proofs.Boot.{boots_start, shows-boot}
use Rattle.br_lightbulb.proofs.Lan.{read-pieces, write-pieces}
use Rattle.br_lightbulb.proofs.Words.{Words}

pub words_at : (fs : List Func) → HasLan fs → (depth : ℕ) → Words (function_of fs depth)
words_at fs has depth = record { reads = read-pieces fs has depth; writes = write-pieces fs has depth }

pub boot-pieces : (fs : List Func) → HasFirmware fs →
    (depth : ℕ) (s : State) → ShowsPiece s boot_piece (function_of fs depth name.boot [] s)
boot-pieces fs has zero s = (tt, ([], sym (append-nil s.trace), boots_start))
boot-pieces fs has (suc depth) s = rw has.boot (shows-boot (function_of fs depth) s (words_at fs has.words depth))
