-- Words of the chip, at any depth of calls.
use Rattle.std.proofs.Common.{ℕ, zero, suc, List, [], ◌∷◌, sym, append-nil}
use Rattle.br_syntax.specs.declared.program.Func.{Func}
use Rattle.br_source_meaning.specs.Runs.{State}
use Rattle.br_source_meaning.specs.Calls.{function_of}
use Rattle.br_lightbulb.specs.Names as name
use Rattle.br_lightbulb.specs.Shows.{ShowsPiece, HasLan, read_piece, write_piece}
use Rattle.br_lightbulb.proofs.Spi.{exchange-pieces}
use Rattle.br_lightbulb.proofs.LanRead.{reads_start, shows-read}
use Rattle.br_lightbulb.proofs.LanWrite.{writes_start, shows-write}

pub read-pieces : (fs : List Func) → HasLan fs →
    (depth a : ℕ) (s : State) → ShowsPiece s (read_piece a) (function_of fs depth name.lan_read (a ∷ []) s)
read-pieces fs has zero a s = (tt, ([], sym (append-nil s.trace), reads_start a))
read-pieces fs has (suc depth) a s =
    rw has.read (shows-read (function_of fs depth) a s (exchange-pieces fs has.bytes depth))

pub write-pieces : (fs : List Func) → HasLan fs →
    (depth a v : ℕ) (s : State) → ShowsPiece s (write_piece a v) (function_of fs depth name.lan_write (a ∷ v ∷ []) s)
write-pieces fs has zero a v s = (tt, ([], sym (append-nil s.trace), writes_start a v))
write-pieces fs has (suc depth) a v s =
    rw has.write (shows-write (function_of fs depth) a v s (exchange-pieces fs has.bytes depth))
