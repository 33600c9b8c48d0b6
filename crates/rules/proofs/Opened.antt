-- All definitions opened at once, where an example is computed: `unfolding opened`.
use Rattle.rules.specs.Cycles.{◌>>=◌, run}
use Rattle.rules.specs.Arithmetic.{low_sum, high_sum, low_difference, high_difference, changed}
use Rattle.rules.specs.Opcodes.{decode}
use Rattle.rules.specs.Addressing.{pointer, zero_indexed, indexed, load_indexed, load, place}
use Rattle.rules.specs.Operations.{used, inside, taken, branch_to, enter, push, pull, jsr, rts, rti, brk, jump_indirect, perform}
use Rattle.rules.specs.Operations.{operate, instruction}
use Rattle.rules.specs.Interrupts.{event_of, interrupt, reset, cycles_of}
use Rattle.rules.specs.Bus.{selected, image_at, cell_of, reset_bus, look, stored, list_of}
use Rattle.rules.specs.Record.{state_of, record_of, well_formed}
use Rattle.rules.specs.Step.{finished, step}
use Rattle.rules.specs.Run.{play, run_of}
use Rattle.rules.specs.Restart.{restart, append_at}

unfoldable pub opened : Unit {0}
unfolding ◌>>=◌ run low_sum high_sum low_difference high_difference changed decode pointer zero_indexed indexed load_indexed load place used
    inside taken branch_to enter push pull jsr rts rti brk jump_indirect perform operate instruction event_of interrupt reset cycles_of
    selected image_at cell_of reset_bus look stored list_of state_of record_of well_formed finished step play run_of restart append_at
opened = tt
