use Rattle.vcpu_report.proofs.ReportLaws.{phase_known}
use Rattle.report_edits.proofs.after_exit.Goals as goal

pub put_phase-requires : goal.put_phase-requires
put_phase-requires c = rw c.phase_after.ensures (phase_known _)
