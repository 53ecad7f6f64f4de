use Rattle.record.specs.Fitting.{Fitting}
use Rattle.record.proofs.RoundTrip.{stored_session}
use Rattle.record.proofs.put_session.Goals as goal

pub returns-clause-b_after : goal.returns-clause-b_after
returns-clause-b_after c = let progress = c.put_progress.ensures in
    let regs = c.put.ensures in
    let vmcs = c.put_vmcs.ensures in
    let queue = c.put_queue.ensures in
    let capabilities = c.put_capabilities.ensures in
    let xcr0 = c.put_xcr0.ensures in
    let fits : Fitting c.args.s = record { progress = progress.progress_fits; regs = regs.fits; vmcs = vmcs.vmcs_fits; queue = queue.queue_fits; capabilities = capabilities.capabilities_fit; xcr0 = xcr0.xcr0_fits } in
    rw (xcr0.b_after, capabilities.b_after, queue.b_after, vmcs.b_after, regs.b_after, progress.b_after) (stored_session c.args.s fits c.args.b.now c.requires)
