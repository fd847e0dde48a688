use Rattle.br_stack_need.proofs.Statements.{callees-stackalloc, two_called}
use Rattle.br_stack_need.proofs.calls.+calls.Goals as goal

pub add_call-returns-in-Stackalloc : goal.add_call-returns-in-Stackalloc
add_call-returns-in-Stackalloc t c =
    rw (
      c.in-Stackalloc.is,
      callees-stackalloc c.in-Stackalloc.field-0 c.in-Stackalloc.field-1 c.in-Stackalloc.body,
      ← c.as_slice.ensures,
    ) c.add_calls.ensures

pub add_call-returns-in_ok-add_calls-in-If-2 : goal.add_call-returns-in_ok-add_calls-in-If-2
add_call-returns-in_ok-add_calls-in-If-2 t c =
    two_called c.args.s.now c.in-If.first c.in-If.second c.as_slice-in-If.result.now c.as_slice-in-If-2.result.now
    c.args.found.now c.add_calls-in-If.new.found c.add_calls-in-If-2.new.found
    c.in-If.is c.as_slice-in-If.ensures c.as_slice-in-If-2.ensures c.in_ok-add_calls-in-If.ensures
    c.in_ok-add_calls-in-If-2.ensures
