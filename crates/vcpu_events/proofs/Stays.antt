-- A refused step leaves the session as it was. Assumes nothing.
use mathlib.Core.Path.{◌≡◌, refl, sym, ap}
use mathlib.Core.Bool.{Bool, true, false, cond, not}
use mathlib.Core.Logic.{◌≢◌}
use Prim.Native.Nat.{ℕ}
use native.Mathlib.Omega.{arith}
use lib.Dec.{eqb, leb, ltb}
use borrow.Author.Tests.{eqb-false}
use Rattle.vcpu_session.specs.declared.Session.{Session}
use Rattle.vcpu_session.specs.Phase as Phase
use Rattle.vcpu_session.specs.Session.{LAST_ENTRY, is_unlawful}
use Rattle.vcpu_events.specs.Queue.{answered, queue_event, inject_interrupt}
use Rattle.vcpu_events.specs.Queue.{Event, Answered}
use Rattle.vcpu_events.specs.Access.{fields_written, write_field, registers_written, set_register, apic_value}
use Rattle.vcpu_events.specs.Entry.{injection_of, after_entry, refused_entry, entry}
use Rattle.vcpu_events.specs.Entry.{Entered}
use Rattle.regs.specs.Registers.{with_reg, reg_written}
use Rattle.regs.specs.Accessors.{index_refusal}
use Rattle.vmcs.specs.Field.{put}
use Rattle.vmcs.specs.Fields.{field_of, written, write_refusal}
use Rattle.vmcs.proofs.FieldLaws.{write_by_refusal}
use Rattle.regs.proofs.Index.{register_by_refusal}

abbrev pub Stays : Session → Answered → Type 0
Stays s r = (r.refusal ≡ 0 → ⊥) → r.session ≡ s

-- a test that refuses
pub refuses : (b : Bool) (n : ℕ) (s : Session) (r : Answered) → Stays s r → Stays s (cond b (answered n s) r)
refuses true n s r h other = refl
refuses false n s r h other = h other

pub queue_stays : (s : Session) (e : Event) → Stays s (queue_event s e)
unfolding queue_event
queue_stays s e = refuses (is_unlawful s) 2 s _ (refuses (eqb s.progress.phase Phase.ENDED) 1 s _ (refuses (leb 64 s.queue.waiting) 13 s _ (λ other. absurd (other refl))))

pub interrupt_stays : (s : Session) (vector : ℕ) → Stays s (inject_interrupt s vector)
unfolding inject_interrupt
interrupt_stays s vector =
    refuses (is_unlawful s) 2 s _
    (refuses (eqb s.progress.phase Phase.ENDED) 1 s _ (refuses (eqb vector 0) 12 s _ (refuses (ltb 255 vector) 12 s _ (queue_stays s (record { vector = vector; coded = false; code = 0 })))))

pub apic_stays : (s : Session) (value : ℕ) → Stays s (apic_value s value)
unfolding apic_value
apic_stays s value = refuses (is_unlawful s) 2 s _ (refuses (not (eqb s.progress.phase Phase.WAITING)) 1 s _ (λ other. absurd (other refl)))

pub field_stays : (s : Session) (encoding x : ℕ) → Stays s (write_field s encoding x)
unfolding write_field
field_stays s encoding x = refuses (is_unlawful s) 2 s _ (rw write_by_refusal (go (eqb (write_refusal encoding x) 0)))
  where
    go : (t : Bool) → Stays s (fields_written s (cond t (written 0 (put s.vmcs (field_of encoding) x)) (written (write_refusal encoding x) s.vmcs)))
    go true other = absurd (other refl)
    go false other = refl

pub register_stays : (s : Session) (index x : ℕ) → Stays s (set_register s index x)
unfolding set_register
register_stays s index x = refuses (is_unlawful s) 2 s _ (rw register_by_refusal (go (eqb (index_refusal index) 0)))
  where
    go : (t : Bool) → Stays s (registers_written s (cond t (reg_written 0 (with_reg s.regs index x)) (reg_written (index_refusal index) s.regs)))
    go true other = absurd (other refl)
    go false other = refl

-- ---- an entry

abbrev entered : Session → ℕ → Entered
entered s stack =
    let injection = injection_of s.queue s.vmcs in
    record { refusal = 0; resumed = s.progress.launched; injection = injection; session = after_entry s stack injection }

-- what an entry that is not refused gives, and that its count is below its end
pub entry_taken : (s : Session) (stack : ℕ) → (entry s stack).refusal ≡ 0 → (s.progress.entries ≢ LAST_ENTRY) × (entry s stack ≡ entered s stack)
unfolding entry
entry_taken s stack = go (is_unlawful s) (not (eqb s.progress.phase Phase.READY)) (eqb s.progress.entries LAST_ENTRY) refl
  where
    go : (p q t : Bool) → eqb s.progress.entries LAST_ENTRY ≡ t
        → (cond p (refused_entry 2 s) (cond q (refused_entry 1 s) (cond t (refused_entry 22 s) (entered s stack)))).refusal ≡ 0
        → (s.progress.entries ≢ LAST_ENTRY) × (cond p (refused_entry 2 s) (cond q (refused_entry 1 s) (cond t (refused_entry 22 s) (entered s stack))) ≡ entered s stack)
    go true q t e z = absurd (omega arith)
    go false true t e z = absurd (omega arith)
    go false false true e z = absurd (omega arith)
    go false false false e z = (eqb-false _ LAST_ENTRY e, refl)

-- one that is refused answers its number alone, and leaves the session as it was
pub entry_refused_is : (s : Session) (stack : ℕ) {n : ℕ} → n ≡ (entry s stack).refusal → n ≢ 0 → refused_entry n s ≡ entry s stack
unfolding entry
entry_refused_is s stack {n} asked other = go (is_unlawful s) (not (eqb s.progress.phase Phase.READY)) (eqb s.progress.entries LAST_ENTRY) asked
  where
    go : (p q t : Bool) → n ≡ (cond p (refused_entry 2 s) (cond q (refused_entry 1 s) (cond t (refused_entry 22 s) (entered s stack)))).refusal
        → refused_entry n s ≡ cond p (refused_entry 2 s) (cond q (refused_entry 1 s) (cond t (refused_entry 22 s) (entered s stack)))
    go true q t e = ap (λ (k : ℕ). refused_entry k s) e
    go false true t e = ap (λ (k : ℕ). refused_entry k s) e
    go false false true e = ap (λ (k : ℕ). refused_entry k s) e
    go false false false e = absurd (other e)

pub entry_stays : (s : Session) (stack : ℕ) → ((entry s stack).refusal ≡ 0 → ⊥) → (entry s stack).session ≡ s
entry_stays s stack other = sym (ap (λ (e : Entered). e.session) (entry_refused_is s stack refl other))
