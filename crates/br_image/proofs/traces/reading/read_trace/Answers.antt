use Rattle.br_image.proofs.TraceVerdict.{trace_read, trace_fault_read}
use Rattle.br_image.proofs.traces.reading.read_trace.Goals as goal

pub returns-clause-each_trace : goal.returns-clause-each_trace
returns-clause-each_trace c events h =
    trace_read c.args.text.now c.trace_of.result events c.trace_of.ensures.trace c.trace_of.ensures.refused h

pub returns-clause-each_fault : goal.returns-clause-each_fault
returns-clause-each_fault c f h =
    trace_fault_read c.args.text.now c.trace_of.result f c.trace_of.ensures.trace c.trace_of.ensures.refused h
