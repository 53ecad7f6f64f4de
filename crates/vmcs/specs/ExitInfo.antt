-- What the words of a VM exit say, as vmcs.rs takes them apart. Assumes nothing.
use Rattle.std.specs.Prelude.{ℕ, ◌+◌, ◌/◌, ◌%◌, ◌^◌}
use Rattle.bits.specs.Words.{bit}
use Rattle.definitions.specs.Interruption.{type_of}
use Rattle.vmcs.specs.declared.exit_info.VmxExitInfo.{VmxExitInfo}
use Rattle.vmcs.specs.declared.exit_info.VmxInterruptInfo.{VmxInterruptInfo}
use Rattle.vmcs.specs.declared.exit_info.VmxIoExitInfo.{VmxIoExitInfo}
use Rattle.vmcs.specs.declared.exit_info.CrAccessInfo.{CrAccessInfo}

-- the exit reason (SDM 3C, 25.9.1): bits 0 to 15 the basic reason, bit 31 a failed entry
abbrev pub exit_info : ℕ → VmxExitInfo
exit_info reason = record { entry_failure = bit 31 reason; exit_reason = reason % 2 ^ 16 }

-- an interruption word (SDM 3C, 25.9.2): bits 0 to 7 the vector, 8 to 10 the type, 11 an error code, 31 valid
abbrev pub interrupt_exit_info : ℕ → VmxInterruptInfo
interrupt_exit_info info =
    record { vector = info % 2 ^ 8; int_type = type_of info; err_code = bit 11 info; valid = bit 31 info }

-- the qualification of an I/O exit (SDM 3C, table 28-5): bits 0 to 2 the size less 1, 3 IN, 4 string, 5 REP, 16 to 31 the port
abbrev pub io_exit_info : ℕ → VmxIoExitInfo
io_exit_info q =
    record {
      access_size = q % 8 + 1;
      is_in = bit 3 q;
      is_string = bit 4 q;
      is_repeat = bit 5 q;
      port = q / 2 ^ 16 % 2 ^ 16;
    }

-- the qualification of an access to a control register (SDM 3C, table 28-3): bits 0 to 3 the register, 4 to 5 the access type, 6 the type of
-- LMSW's operand, 8 to 11 the general-purpose register, from 16 on LMSW's operand, of which the Rust keeps the low byte
abbrev pub cr_access_info : ℕ → CrAccessInfo
cr_access_info q =
    record {
      cr_number = q % 2 ^ 4;
      access_type = q / 2 ^ 4 % 2 ^ 2;
      lmsw_op_type = q / 2 ^ 6 % 2;
      gpr = q / 2 ^ 8 % 2 ^ 4;
      lmsw_source_data = q / 2 ^ 16 % 2 ^ 8;
    }
