-- The bounds on the types, which the closure asks of its caller, are asked anew of the function that it is.
use Rattle.pg_workers.proofs.working.fn.run_workers.scope+FnOnce.call_once.Goals as goal

pub scope-requires : goal.scope-requires
scope-requires g c = let q = c.requires.1.1.1.1 in let b = q.1 in (b.0, (b.1, (b.2, (b.3, (b.4, (b.5, q.0))))))
