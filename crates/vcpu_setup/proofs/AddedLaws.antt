-- Setup adds exactly its intercepts to frames of 4,096 bytes. Assumes nothing.
use Prim.Native.Nat.{ℕ, ◌+◌, ◌≤◌}
use native.Mathlib.Omega.{arith}
use mathlib.Core.Path.{◌≡◌, refl, ap, ◌∙◌}
use mathlib.Core.Logic.{◌≢◌, dite, inl}
use native.Mathlib.Decide.{ℕ_discrete}
use borrow.Author.Tests.{ne_eqb}
use mathlib.Core.Bool.{Bool, true, false, cond, ◌&&◌, ◌||◌}
use mathlib.Core.List.{List}
use lib.Dec.{eqb}
use lib.ListN.{length}
use Rattle.structs.specs.declared.Access.{Access}
use Rattle.structs.specs.declared.Access.TheVariants.{Read, Write}
use Rattle.structs.specs.Bitmap.{in_range}
use Rattle.structs.specs.Frames.{port_intercept, msr_intercept, edit_ports, MsrEdit, msr_refusal, edit_msrs, covered, among}
use Rattle.structs.specs.Numbers.{IsMsr}
use Rattle.structs.proofs.BitmapLaws.{range_of_one}
use Rattle.structs.proofs.PortLaws.{port_numbers, port_length_a, port_length_b, port_edited}
use Rattle.structs.proofs.MsrLaws.{msr_numbers, msr_length, msr_edited}
use Rattle.vcpu_setup.specs.Bitmaps.{QEMU_EXIT_PORT, IA32_UMWAIT_CONTROL, X2APIC_MSRS, X2APIC_COUNT, both_accesses, io_bitmap_set, msr_bitmap_set}
use Rattle.vcpu_setup.specs.Added.{Added}

-- making bits 1 adds them
adds : (t x : Bool) → cond t true x ≡ (t || x)
adds true x = refl
adds false x = refl

-- both accesses are among both
every : (x : Access) → among both_accesses x ≡ true
every Read = refl
every Write = refl

module _ (a b frame : List ℕ) (la : length a ≡ 4096) (lb : length b ≡ 4096) (lf : length frame ≡ 4096) where
  port_ok : (edit_ports a b QEMU_EXIT_PORT 1 true).refusal ≡ 0
  port_ok = (port_numbers a b QEMU_EXIT_PORT 1 true).is_0.1 (la, lb, λ _. omega arith)

  abbrev first : List ℕ
  first = (edit_msrs frame IA32_UMWAIT_CONTROL 1 both_accesses true).frame

  first_ok : (edit_msrs frame IA32_UMWAIT_CONTROL 1 both_accesses true).refusal ≡ 0
  first_ok = (msr_numbers frame IA32_UMWAIT_CONTROL 1 both_accesses true).is_0.1 (lf, inl (omega arith))

  first_length : length first ≡ 4096
  first_length = msr_length frame IA32_UMWAIT_CONTROL 1 both_accesses true ∙ lf

  second_ok : (edit_msrs first X2APIC_MSRS X2APIC_COUNT both_accesses true).refusal ≡ 0
  second_ok = (msr_numbers first X2APIC_MSRS X2APIC_COUNT both_accesses true).is_0.1 (first_length, inl (omega arith))

  pub added : Added a b frame
  unfolding io_bitmap_set msr_bitmap_set
  added =
      record {
        port_number = port_ok;
        msr_number = second_ok;
        length_a = port_length_a a b QEMU_EXIT_PORT 1 true ∙ la;
        length_b = port_length_b a b QEMU_EXIT_PORT 1 true ∙ lb;
        length_msr = msr_length first X2APIC_MSRS X2APIC_COUNT both_accesses true ∙ first_length;
        ports = λ port.
            port_edited a b QEMU_EXIT_PORT 1 true port_ok port ∙ adds (in_range QEMU_EXIT_PORT 1 port) (port_intercept a b port)
            ∙ ap (λ (t : Bool). t || port_intercept a b port) (range_of_one QEMU_EXIT_PORT port);
        msrs = both;
      }
    where
      at : (ys : List ℕ) (base count : ℕ) → length ys ≡ 4096 → base + count ≤ 0x2000 → (x : Access) (m : ℕ) → IsMsr m
          → msr_intercept (edit_msrs ys base count both_accesses true).frame x m ≡ (in_range base count m || msr_intercept ys x m)
      at ys base count l h x m s =
          msr_edited ys base count both_accesses true ((msr_numbers ys base count both_accesses true).is_0.1 (l, inl h)) x m s
          ∙ adds (covered base count both_accesses x m) (msr_intercept ys x m)
          ∙ ap (λ (t : Bool). (t && in_range base count m) || msr_intercept ys x m) (every x)

      both : (x : Access) (m : ℕ) → IsMsr m
          → msr_intercept (edit_msrs first X2APIC_MSRS X2APIC_COUNT both_accesses true).frame x m
          ≡ (in_range X2APIC_MSRS X2APIC_COUNT m || (eqb m IA32_UMWAIT_CONTROL || msr_intercept frame x m))
      both x m s =
          at first X2APIC_MSRS X2APIC_COUNT first_length (omega arith) x m s
          ∙ ap (λ (t : Bool). in_range X2APIC_MSRS X2APIC_COUNT m || t) (at frame IA32_UMWAIT_CONTROL 1 lf (omega arith) x m s)
          ∙ ap (λ (t : Bool). in_range X2APIC_MSRS X2APIC_COUNT m || (t || msr_intercept frame x m)) (range_of_one IA32_UMWAIT_CONTROL m)

-- where the first edit of the MSR bitmaps is refused, so is the second, by the same number
pub refused_alike : (frame ys : List ℕ) (n : ℕ) → n ≢ 0 → ◌≡◌ {A = MsrEdit} (record { refusal = n; frame = ys }) (edit_msrs frame IA32_UMWAIT_CONTROL 1 both_accesses true)
    → ◌≡◌ {A = MsrEdit} (record { refusal = n; frame = ys }) (msr_bitmap_set frame)
unfolding msr_bitmap_set edit_msrs msr_refusal
refused_alike frame ys n some h =
    dite (ℕ_discrete (length frame) 4096)
    (λ e. absurd (some (ap (λ (x : MsrEdit). x.refusal) h ∙ (msr_numbers frame IA32_UMWAIT_CONTROL 1 both_accesses true).is_0.1 (e, inl (omega arith)))))
    (λ d. h ∙ simp (ne_eqb (length frame) 4096 d))
