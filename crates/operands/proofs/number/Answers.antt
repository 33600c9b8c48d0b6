use Rattle.std.proofs.Common.{drop, arith}
use Rattle.operands.proofs.Laws.{digits_fit}
use Rattle.operands.proofs.number.Goals as goal

pub overflow_cast-result : goal.overflow_cast-result
overflow_cast-result c =
    let fit = rw c.run-r.ensures.same at (digits_fit (drop c.args.at c.args.s.now)) in
    record { fits = omega arith }
