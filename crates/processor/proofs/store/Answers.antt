use Rattle.rules.specs.Addressing.{bank_of}
use Rattle.laws.proofs.Goes.{then_write, ended}
use Rattle.processor.proofs.store.Goals as goal

pub returns : goal.returns
returns c =
    λ s h.
    let κ = bank_of c.args.m in
    let register = c.register_of-v.ensures _ h.bytes in
    let wrote = rw register at (c.write.ensures _ κ (c.wiring_of-there.ensures.stands _ h)) in
    record { cpu = _; bus = _; bytes = wrote.bytes; goes = then_write _ wrote.goes ended }
