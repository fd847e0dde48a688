use Rattle.br_image.proofs.TraceVerdict.{trace_or_fault, trace_not_fault, one_trace, one_trace_fault}
use Rattle.br_image.proofs.traces.laws.one_trace_or_one_fault.Goals as goal

pub returns-clause-either : goal.returns-clause-either
returns-clause-either c = trace_or_fault

pub returns-clause-not_both : goal.returns-clause-not_both
returns-clause-not_both c = trace_not_fault

pub returns-clause-one_trace : goal.returns-clause-one_trace
returns-clause-one_trace c = one_trace

pub returns-clause-one_fault : goal.returns-clause-one_fault
returns-clause-one_fault c = one_trace_fault
