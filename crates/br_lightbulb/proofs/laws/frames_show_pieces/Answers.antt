use Rattle.br_lightbulb.proofs.Handle.{handle-pieces}
use Rattle.br_lightbulb.proofs.Receive.{receive-pieces}
use Rattle.br_lightbulb.proofs.laws.frames_show_pieces.Goals as goal

pub returns-clause-receive : goal.returns-clause-receive
returns-clause-receive c = receive-pieces

pub returns-clause-handle : goal.returns-clause-handle
returns-clause-handle c = handle-pieces
