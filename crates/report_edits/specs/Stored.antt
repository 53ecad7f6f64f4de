-- The report's writes in the parts that the code makes of them. Assumes nothing.
use Rattle.std.specs.Prelude.{List, take, drop}
use Rattle.vmcs.specs.Writes.{Write}
use Rattle.vmcs.specs.declared.Vmcs.{Vmcs}
use Rattle.vcpu_exit.specs.declared.Report.{Report}
use Rattle.vcpu_report.specs.Handlers.{report_writes}

-- from RIP to EFER
abbrev pub guest_writes : Vmcs → Report → List Write
guest_writes v r = take 8 (report_writes v r)

-- from the base of CS to the error code of the exit
abbrev pub exit_writes : Vmcs → Report → List Write
exit_writes v r = take 8 (drop 8 (report_writes v r))
