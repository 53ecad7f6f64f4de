-- Setup: its refusals, and the session that it leaves (document 01, "Setup" and its numbers). Assumes nothing.
use Rattle.std.specs.Prelude.{ℕ, ◌^◌, Bool, cond, not, ◌&&◌, eqb}
use Rattle.std.specs.Int.Bits.{bit_and}
use Rattle.vmcs.specs.Control.{pair_at}
use Rattle.vmcs.specs.Flags.XCr0Flags as XCr0Flags
use Rattle.vmcs.specs.declared.controls.Pair.{Pair}
use Rattle.vcpu_session.specs.Phase as Phase
use Rattle.vcpu_session.specs.Session.{is_unlawful, with_progress, with_vmcs, with_capabilities, with_xcr0, in_phase}
use Rattle.vcpu_session.specs.declared.Fixed.{Fixed}
use Rattle.vcpu_session.specs.declared.Capabilities.{Capabilities}
use Rattle.vcpu_session.specs.declared.Session.{Session}
use Rattle.vcpu_events.specs.Queue.{answered}
use Rattle.vcpu_events.specs.Queue.{Answered}
use Rattle.vcpu_setup.specs.Capability.{capabilities_of}
use Rattle.vcpu_setup.specs.Words.{words_refusal}
use Rattle.vcpu_setup.specs.Writes.{vmcs_set}
use Rattle.vcpu_setup.specs.declared.Features.{Features}
use Rattle.vcpu_setup.specs.declared.Arguments.{Arguments}

-- what must be 1 may be 1
abbrev pub pair_consistent : Pair → Bool
pair_consistent p = eqb (bit_and p.allowed0 p.allowed1) p.allowed0

abbrev pub fixed_consistent : Fixed → Bool
fixed_consistent f = eqb (bit_and f.fixed0 f.fixed1) f.fixed0

unfoldable pub consistent : Capabilities → Bool
consistent c =
    pair_consistent (pair_at c.pairs 0)
    && pair_consistent (pair_at c.pairs 1)
    && pair_consistent (pair_at c.pairs 2)
    && pair_consistent (pair_at c.pairs 3)
    && pair_consistent (pair_at c.pairs 4)
    && fixed_consistent c.cr0
    && fixed_consistent c.cr4

-- 6: a pair or fixed bits that contradict themselves. Then 8 or 9, word by word
abbrev pub capability_refusal : Capabilities → Features → ℕ
capability_refusal c f = cond (consistent c) (words_refusal c.pairs f) 6

-- 2: no record holds the session. 1: not fresh. Then those of the capabilities
unfoldable pub setup_refusal : Session → Capabilities → Features → ℕ
setup_refusal s c f =
    cond (is_unlawful s) 2
    (cond (not (eqb s.progress.phase Phase.FRESH)) 1
    (capability_refusal c f))

-- ready, with the fields written, the capabilities and the supported bits of XCR0 kept, and XCR0 as at reset, X87 alone (document 02, N1; SDM 3A, 2.6); the counts and
-- every other part stay
unfoldable pub readied : Session → Arguments → Capabilities → Session
readied s a c =
    with_progress
    (with_xcr0 (with_capabilities (with_vmcs s (vmcs_set s.vmcs a)) c) (record { value = 2 ^ XCr0Flags.X87; supported = a.xcr0supported }))
    (in_phase s.progress Phase.READY)

-- refused by the number of `setup_refusal` unless that is 0
unfoldable pub setup_of : Session → Arguments → Answered
setup_of s a =
    cond (eqb (setup_refusal s (capabilities_of a.msrs) a.features) 0)
    (answered 0 (readied s a (capabilities_of a.msrs)))
    (answered (setup_refusal s (capabilities_of a.msrs) a.features) s)
