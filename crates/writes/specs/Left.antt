-- What a write leaves, by a step's wiring.
use Rattle.std.specs.Prelude.{ℕ, ◌+◌, ◌/◌, List, ltb, eqb, set}
use Rattle.rules.specs.declared.Bus.{Bus}
use Rattle.rules.specs.Basics.{when◌then◌else◌}
use Rattle.rules.specs.Bus.{narrow, with_registers}
use Rattle.wiring.specs.declared.bank.Wiring.{Wiring}
use Rattle.wiring.specs.Cells.{reached}

-- a register written
abbrev pub registered : Bus → ℕ → ℕ → Bus
registered u p v =
    when eqb p 0 then with_registers (narrow u.part v) u.second u else with_registers u.first (narrow u.part v) u

-- an image whose top c pages are protected, written where no register is
abbrev pub put_at : ℕ → Wiring → List ℕ → ℕ → ℕ → List ℕ
put_at c w i p v = when ltb (p / 256 + c) 256 then set i (reached w.plain w.base p) v else i
