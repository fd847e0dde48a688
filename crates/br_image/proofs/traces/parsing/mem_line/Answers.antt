use Rattle.br_image.proofs.TraceForms.{no_trace_buffer, no_trace_range}
use Rattle.br_image.proofs.traces.parsing.mem_line.Goals as goal

pub returns-in_default : goal.returns-in_default
returns-in_default c = no_trace_buffer c.args.tail.now (rw c.in_default.is at c.in_ok-range.ensures.none)

pub returns : goal.returns
returns c =
    let found = rw c.in-Some.is at c.in_ok-range.ensures.some in
    no_trace_range c.args.tail.now c.in-Some.range found.0 found.1
    (λ r. let yes = c.is_range.ensures.1 r in let no = c.if-is_range.false in absurd cc)
