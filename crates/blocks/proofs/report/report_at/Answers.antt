use Rattle.blocks.specs.ReportBlock.{report_of}
use Rattle.blocks.proofs.report.report_at.Goals as goal

pub returns : goal.returns
unfolding report_of
returns c = rw (
  c.get.ensures,
  c.get-2.ensures,
  c.get-3.ensures,
  c.get-4.ensures,
  c.get-5.ensures,
  c.get-6.ensures,
  c.get-7.ensures,
  c.get-8.ensures,
  c.get-9.ensures,
  c.get-10.ensures,
  c.get-11.ensures,
  c.get-12.ensures,
  c.get-13.ensures,
  c.get-14.ensures,
  c.get-15.ensures,
  c.get-16.ensures,
  c.get-17.ensures,
  c.cpuid_at.ensures,
)
